use Rattle.std.proofs.Common.{◌≡◌, ◌+◌, drop}
use Rattle.fts_ilist.specs.Progress.{to_end}
use Rattle.fts_ilist.proofs.reading.short_body_len.Given as goal

abbrev pub invariant-loop-at : goal.invariant-loop-at
invariant-loop-at l = (to_end 0 l.bytes ≡ l.at + to_end l.before (drop l.at l.bytes))
