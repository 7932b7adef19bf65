use Rattle.std.proofs.Common.{filter, ◌≡◌, false, take}
use Rattle.std.specs.List.{list_any}
use Rattle.fts_types.specs.Rules.{rules_of}
use Rattle.fts_words.specs.Indexed.{is_indexable}
use Rattle.fts_meaning.specs.Holds.{are_near_in}
use Rattle.fts_plain.proofs.operand.has_distance.Given as goal

abbrev pub invariant-loop-column : goal.invariant-loop-column
invariant-loop-column l = list_any (are_near_in (filter (is_indexable (rules_of l.settings)) l.words) l.number) (take l.column l.columns) ≡ false
