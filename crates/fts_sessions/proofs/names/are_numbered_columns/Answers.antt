use Rattle.std.proofs.Common.{◌∷◌, sym, arith}
use Rattle.std.specs.Prelude.{codes}
use Rattle.fts_sessions.proofs.Naming.{other_count}
use Rattle.fts_sessions.proofs.names.are_numbered_columns.Goals as goal

pub returns-then-len-lt2 : goal.returns-then-len-lt2
returns-then-len-lt2 c =
    sym (other_count (codes "id" ∷ codes "fts_doc_id" ∷ c.args.columns.now) c.args.names.now
    (λ same. let few = c.if-len-lt2.true in let a = c.len.ensures in omega (arith, few, a, same)))

pub returns-then-len : goal.returns-then-len
returns-then-len c =
    sym (other_count (codes "id" ∷ codes "fts_doc_id" ∷ c.args.columns.now) c.args.names.now
    (λ same. let no = c.if-len.true in let a = c.len-2.ensures in let b = c.len-3.ensures in grind (arith, no, a, b, same)))
