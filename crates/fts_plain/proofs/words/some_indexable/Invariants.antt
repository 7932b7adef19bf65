use Rattle.std.proofs.Common.{◌≡◌, false, take}
use Rattle.std.specs.List.{list_any}
use Rattle.fts_words.specs.Indexed.{is_indexable}
use Rattle.fts_types.specs.Rules.{rules_of}
use Rattle.fts_plain.proofs.words.some_indexable.Given as goal

abbrev pub invariant-loop-place : goal.invariant-loop-place
invariant-loop-place l = list_any (is_indexable (rules_of l.settings)) (take l.place l.words) ≡ false
