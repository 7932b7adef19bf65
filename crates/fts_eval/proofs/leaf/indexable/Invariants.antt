use Rattle.std.proofs.Common.{◌≡◌, filter, take}
use Rattle.fts_types.specs.Rules.{rules_of}
use Rattle.fts_words.specs.Indexed.{is_indexable}
use Rattle.fts_eval.proofs.leaf.indexable.Given as goal

abbrev pub invariant-loop-place : goal.invariant-loop-place
invariant-loop-place l = l.some ≡ filter (is_indexable (rules_of l.settings)) (take l.place l.words)
