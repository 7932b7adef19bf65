use Rattle.std.proofs.Common.{ap, ◌∙◌, ⊎_elim, inl, inr}
use Rattle.std.specs.List.{list_any}
use Rattle.std.specs.Iterator.Adapters.{zip_first, zip_second}
use Rattle.std.specs.Slice.Iter.{iter_rest}
use Rattle.fts_ids.specs.Ids.{has}
use Rattle.fts_index.proofs.Gathering.{told_so, no_more}
use Rattle.fts_index.proofs.gather.needed.Goals as goal

pub returns-clause-each : goal.returns-clause-each
returns-clause-each c =
    let here = c.loop-leaf.leaf-iterator in
    told_so c.united.result _ _ c.united.ensures.each
    (λ id. ap (list_any (λ list. has list.now id)) c.deref.ensures.value
    ∙ no_more _ id (iter_rest (zip_first here)) (iter_rest (zip_second here)) (⊎_elim (λ ended. inl ended.1.0) (λ ended. inr ended.1.0) c.in-None.ensures.steps)
    ∙ c.loop-leaf.invariant.here id)
