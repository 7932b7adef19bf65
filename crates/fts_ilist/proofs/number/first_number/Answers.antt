use Rattle.std.proofs.Common.{arith, ◌≡◌, ◌+◌, ◌<◌, ◌∷◌, ◌++◌, List, ℕ, length, get_or, drop, sym, ap, ◌∙◌}
use Rattle.std.proofs.lemmas.List.{drop_more}
use Rattle.fts_ilist.proofs.Codec.{small_number}
use Rattle.fts_ilist.proofs.number.first_number.Goals as goal

pub returns-in-len1-up-clause-found : goal.returns-in-len1-up-clause-found
returns-in-len1-up-clause-found c =
    let byte = get_or c.args.bytes.now 0 0 in
    let same : byte ≡ c.from.result + 128 = omega (arith, c.from.ensures) in
    let small : c.from.result < 128 = omega (arith, c.type_inv.bytes 0, c.from.ensures) in
    drop_more c.args.bytes.now 0 0 (omega arith)
    ∙ ap (λ (w : ℕ). w ∷ drop 1 c.args.bytes.now) same
    ∙ ap (λ (w : List ℕ). w ++ drop 1 c.args.bytes.now) (sym (small_number c.from.result small))

pub returns-in-len1-up-clause-length : goal.returns-in-len1-up-clause-length
returns-in-len1-up-clause-length c =
    let small : c.from.result < 128 = omega (arith, c.type_inv.bytes 0, c.from.ensures) in
    sym (ap length (small_number c.from.result small))
