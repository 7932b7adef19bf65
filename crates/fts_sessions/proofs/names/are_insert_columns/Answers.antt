use Rattle.std.proofs.Common.{◌∷◌, sym, arith}
use Rattle.std.specs.Prelude.{codes}
use Rattle.fts_sessions.proofs.Naming.{other_count}
use Rattle.fts_sessions.proofs.names.are_insert_columns.Goals as goal

pub returns-then-len : goal.returns-then-len
returns-then-len c =
    sym (other_count (codes "id" ∷ c.args.columns.now) c.args.names.now
    (λ same. let no = c.if-len.true in let a = c.len.ensures in let b = c.len-2.ensures in grind (arith, no, a, b, same)))
