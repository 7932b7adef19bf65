use Rattle.std.proofs.Common.{subst}
use Rattle.fts_commits.specs.Turn.{RowsAscend}
use Rattle.fts_rows.specs.Rows.{Held}
use Rattle.fts_rows.specs.Plan.{HaveKeysOnce}
use Rattle.fts_rows.specs.Slots.{rows_in}
use Rattle.std.specs.HashMap.{get}
use Rattle.std.proofs.Common.{nat_eq}
use Rattle.fts_rows.proofs.Slotted.{slots-ids}
use Rattle.fts_rows.proofs.Once.{led_once}
use Rattle.fts_rows.proofs.rows.Rows.behind.Goals as goal

pub returns-clause-keys : goal.returns-clause-keys
returns-clause-keys c =
    subst (λ (h : Held). HaveKeysOnce h.rows.list) c.self.view_is (led_once (get nat_eq c.self.inside.docs) (rows_in c.self.inside.slots.entries) c.self.invariant.keys)

pub returns-clause-ascend : goal.returns-clause-ascend
returns-clause-ascend c =
    subst (λ (h : Held). RowsAscend 0 h.rows.largest h.rows.list) c.self.view_is (slots-ids 0 c.self.inside.largest c.self.inside.slots.entries c.self.invariant.places)
