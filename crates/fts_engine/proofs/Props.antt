-- That a batch fits an index can be so in one way.
use Rattle.std.proofs.Common.{ℕ, ◌+◌, List, [], ◌∷◌}
use Rattle.std.proofs.Props.{props}
use Rattle.std.proofs.lemmas.Map.Keys.{IsStrictlySortedBy-prop}
use Rattle.fts_ids.specs.Ids.{AscendFrom}
use Rattle.fts_ilist.specs.Spelling.{id_at_end}
use Rattle.fts_ilist.specs.Node.{Docs, BeginsAfter, NodesAfter}
use Rattle.fts_index.specs.declared.index.Index.{Index}
use Rattle.fts_index.specs.declared.sync.SyncPlan.{SyncPlan}
use Rattle.fts_index.specs.Index.{FitsSync}

ascend_prop : (low : ℕ) (ids : List ℕ) → IsProp (AscendFrom low ids)
ascend_prop low [] = hlevel props
ascend_prop low (id ∷ ids) =
    let rest : IsProp (AscendFrom (id + 1) ids) = ascend_prop (id + 1) ids in
    hlevel (props, rest)

begins_prop : (last : ℕ) (docs : Docs) → IsProp (BeginsAfter last docs)
begins_prop last [] = hlevel props
begins_prop last (p ∷ ps) = hlevel props

after_prop : (last : ℕ) (nodes : List Docs) → IsProp (NodesAfter last nodes)
after_prop last [] = hlevel props
after_prop last (n ∷ ns) =
    let first : IsProp (BeginsAfter last n) = begins_prop last n in
    let rest : IsProp (NodesAfter (id_at_end 0 n) ns) = after_prop (id_at_end 0 n) ns in
    hlevel (props, first, rest)

pub fits_prop : (index : Index) (plan : SyncPlan) → IsProp (FitsSync index plan)
fits_prop index plan = hlevel (props, IsStrictlySortedBy-prop, after_prop, ascend_prop)
