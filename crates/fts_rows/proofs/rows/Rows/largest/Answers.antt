use Rattle.std.proofs.Common.{subst}
use Rattle.fts_commits.specs.Turn.{RowsAscend}
use Rattle.fts_rows.specs.Rows.{Held}
use Rattle.fts_rows.proofs.Slotted.{slots-ids}
use Rattle.fts_rows.proofs.rows.Rows.largest.Goals as goal

pub returns-clause-ascend : goal.returns-clause-ascend
returns-clause-ascend c =
    subst (λ (h : Held). RowsAscend 0 c.self.inside.largest h.rows.list) c.self.view_is (slots-ids 0 c.self.inside.largest c.self.inside.slots.entries c.self.invariant.places)
