use Rattle.fts_types.specs.Rules.{rules_of}
use Rattle.fts_plain.proofs.Joining.{distance_found}
use Rattle.fts_plain.proofs.operand.operand_holds.Goals as goal

pub returns-else-not-some_indexable-2 : goal.returns-else-not-some_indexable-2
returns-else-not-some_indexable-2 c =
    rw c.in-Distance.is (distance_found (rules_of c.args.settings.now) c.args.columns.now _ _ c.has_distance.result c.if-not-some_indexable-2.ensures c.has_distance.ensures)
