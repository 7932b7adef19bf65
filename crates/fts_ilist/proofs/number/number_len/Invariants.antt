use Rattle.std.proofs.Common.{◌≡◌, ◌+◌, length}
use Rattle.fts_ilist.specs.Number.{number_bytes}
use Rattle.fts_ilist.proofs.Groups.{all_groups}
use Rattle.fts_ilist.proofs.number.number_len.Given as goal

abbrev pub invariant-loop-rest : goal.invariant-loop-rest
invariant-loop-rest l = l.len + length (all_groups l.rest) ≡ length (number_bytes l.n)

abbrev pub decreases-loop-rest : goal.decreases-loop-rest
decreases-loop-rest l = l.rest
