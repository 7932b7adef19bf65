use Rattle.std.proofs.Common.{◌≡◌, ◌-◌, length}
use Rattle.std.specs.List.{list_any, range_with_len}
use Rattle.fts_plain.specs.Words.{from_place, stand_first}
use Rattle.fts_plain.proofs.words.has_run.Given as goal

abbrev pub invariant-loop-place : goal.invariant-loop-place
invariant-loop-place l = list_any (from_place l.all (stand_first l.words)) (range_with_len l.place (length l.all - l.place)) ≡ list_any (from_place l.all (stand_first l.words)) (range_with_len 0 (length l.all))
