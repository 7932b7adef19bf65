use Rattle.std.proofs.Common.{List, ℕ, ap, sym, subst, ◌∙◌}
use Rattle.fts_ids.specs.Ids.{has, Ascend}
use Rattle.fts_ids.proofs.Ascending.{AscendFrom-take}
use Rattle.fts_index.proofs.Syncing.{up_to_is}
use Rattle.fts_index.proofs.sync.up_to.Goals as goal

pub returns-clause-ascend : goal.returns-clause-ascend
returns-clause-ascend c = subst Ascend (sym c.split_at.ensures.front) (AscendFrom-take 0 c.args.ids.now _ c.requires)

pub returns-clause-each : goal.returns-clause-each
returns-clause-each c = λ id. ap (λ (ids : List ℕ). has ids id) c.split_at.ensures.front ∙ up_to_is c.args.last c.args.ids.now c.count_up_to.result c.requires c.count_up_to.ensures id
