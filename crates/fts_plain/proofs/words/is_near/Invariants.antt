use Rattle.std.proofs.Common.{◌≡◌, ◌+◌, ◌-◌, length}
use Rattle.std.specs.List.{list_any, range_with_len}
use Rattle.fts_types.specs.Rules.{rules_of}
use Rattle.fts_plain.specs.Words.{from_place, is_close}
use Rattle.fts_plain.proofs.words.is_near.Given as goal

abbrev pub invariant-loop-place : goal.invariant-loop-place
invariant-loop-place l = list_any (from_place l.all (is_close (rules_of l.settings) (l.number + 1) l.words)) (range_with_len l.place (length l.all - l.place)) ≡ list_any (from_place l.all (is_close (rules_of l.settings) (l.number + 1) l.words)) (range_with_len 0 (length l.all))
