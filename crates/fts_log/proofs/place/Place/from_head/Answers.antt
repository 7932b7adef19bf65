use Rattle.std.proofs.Common.{◌≡◌, ℕ, ◌∷◌, [], get_or, ap, refl, sym, ◌∙◌, arith}
use Rattle.std.proofs.lemmas.Nat.{be_bytes_4}
use Rattle.fts_log.proofs.Places.{whole_there, broken_there, five, small_bytes, four_bytes}
use Rattle.fts_log.proofs.place.Place.from_head.Goals as goal

pub returns-then-next-file_length-clause-stands : goal.returns-then-next-file_length-clause-stands
returns-then-next-file_length-clause-stands c file size head =
    let xs = c.args.head.now in
    let number = four_bytes xs c.read_u32.result (omega arith) c.read_u32.ensures in
    let is_open : get_or xs 0 0 ≡ 1 = omega arith in
    let all = sym head ∙ five xs (omega arith) ∙ ap (λ (gate : ℕ). gate ∷ get_or xs 1 0 ∷ get_or xs 2 0 ∷ get_or xs 3 0 ∷ get_or xs 4 0 ∷ []) is_open in
    let bytes = be_bytes_4 (get_or xs 1 0 ∷ get_or xs 2 0 ∷ get_or xs 3 0 ∷ get_or xs 4 0 ∷ []) c.read_u32.result refl
    (small_bytes (get_or xs 1 0) (get_or xs 2 0) (get_or xs 3 0) (get_or xs 4 0) (omega (arith, c.type_inv.head 1)) (omega (arith, c.type_inv.head 2)) (omega (arith, c.type_inv.head 3)) (omega (arith, c.type_inv.head 4))) number in
    whole_there file c.args.at _ _ _ _ c.read_u32.result all bytes c.read_u32.type_inv (omega (arith, size, c.if-next-file_length.true))

pub returns-else-next-file_length-clause-stands : goal.returns-else-next-file_length-clause-stands
returns-else-next-file_length-clause-stands c file size head =
    let xs = c.args.head.now in
    let number = four_bytes xs c.read_u32.result (omega arith) c.read_u32.ensures in
    let is_open : get_or xs 0 0 ≡ 1 = omega arith in
    let all = sym head ∙ five xs (omega arith) ∙ ap (λ (gate : ℕ). gate ∷ get_or xs 1 0 ∷ get_or xs 2 0 ∷ get_or xs 3 0 ∷ get_or xs 4 0 ∷ []) is_open in
    broken_there file c.args.at _ _ _ _ c.read_u32.result all number (omega (arith, size, c.requires.within)) (omega (arith, size, c.if-next-file_length.false))
