use Rattle.std.proofs.Common.{arith}
use Rattle.fts_index.proofs.Keys.{are_all}
use Rattle.fts_index.proofs.keyed.key_of.Goals as goal

pub returns-clause-bytes : goal.returns-clause-bytes
returns-clause-bytes c = are_all c.args.word.now (λ i. omega (arith, c.type_inv.word i))
