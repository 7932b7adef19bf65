use Rattle.std.proofs.Common.{◌≡◌, drop}
use Rattle.fts_types.specs.Rules.{rules_of}
use Rattle.fts_plain.specs.Words.{is_close}
use Rattle.fts_plain.proofs.words.each_stands_among.Given as goal

abbrev pub invariant-loop-place : goal.invariant-loop-place
invariant-loop-place l = is_close (rules_of l.settings) l.count (drop l.place l.words) (drop l.from l.all) ≡ is_close (rules_of l.settings) l.count l.words (drop l.from l.all)
