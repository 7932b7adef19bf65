use Rattle.std.proofs.Common.{arith}
use Rattle.fts_ilist.proofs.Groups.{length_number}
use Rattle.fts_ilist.proofs.reading.number_at.Goals as goal

pub returns-in-Ok-clause-order : goal.returns-in-Ok-clause-order
returns-in-Ok-clause-order c = omega (arith, c.in-Ok.ensures.length, length_number c.in-Ok.n)
