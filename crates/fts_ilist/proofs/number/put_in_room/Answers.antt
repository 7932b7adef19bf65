use Rattle.std.proofs.Common.{arith, ℕ, ◌+◌, ◌/◌, ◌%◌, List, [], ◌∷◌, ◌++◌, append_assoc, length, sym, ap, ◌∙◌}
use Rattle.fts_ilist.proofs.Codec.{small_number, medium_number}
use Rattle.fts_ilist.proofs.number.put_in_room.Goals as goal

pub push_reserved-requires : goal.push_reserved-requires
push_reserved-requires c = omega (arith, c.requires, ap length (small_number c.args.n c.if-n-lt128.true))

pub returns-then-n-lt128-clause-items : goal.returns-then-n-lt128-clause-items
returns-then-n-lt128-clause-items c = cc (small_number c.args.n c.if-n-lt128.true)

pub returns-then-n-lt128-clause-len : goal.returns-then-n-lt128-clause-len
returns-then-n-lt128-clause-len c = cc (ap (length {A = ℕ}) (small_number c.args.n c.if-n-lt128.true))

pub push_reserved-requires-then-n : goal.push_reserved-requires-then-n
push_reserved-requires-then-n c = omega (arith, c.requires, ap length (medium_number c.args.n c.if-n-lt128.false c.if-n.true))

pub push_reserved-requires-then-n-2 : goal.push_reserved-requires-then-n-2
push_reserved-requires-then-n-2 c = omega (arith, c.requires, ap length (medium_number c.args.n c.if-n-lt128.false c.if-n.true), c.push_reserved-then-n.ensures.len, c.push_reserved-then-n.ensures.capacity)

pub returns-then-n-clause-items : goal.returns-then-n-clause-items
returns-then-n-clause-items c =
    let n = c.args.n in
    c.push_reserved-then-n-2.ensures.items
    ∙ ap (λ (w : List ℕ). w ++ (n % 128 + 128) ∷ []) c.push_reserved-then-n.ensures.items
    ∙ append_assoc c.args.out.now.items (n / 128 ∷ []) ((n % 128 + 128) ∷ [])
    ∙ ap (λ (w : List ℕ). c.args.out.now.items ++ w) (sym (medium_number n c.if-n-lt128.false c.if-n.true))

pub returns-then-n-clause-len : goal.returns-then-n-clause-len
returns-then-n-clause-len c =
    omega (arith, ap length (medium_number c.args.n c.if-n-lt128.false c.if-n.true), c.push_reserved-then-n.ensures.len, c.push_reserved-then-n-2.ensures.len)
