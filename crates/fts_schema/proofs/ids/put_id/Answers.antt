use Rattle.std.proofs.Common.{◌≡◌, ◌+◌, ◌-◌, ◌∷◌, ◌≤◌, List, ℕ, length, drop, ap, ◌∙◌, arith}
use Rattle.std.specs.Prelude.{decimal}
use Rattle.std.proofs.lemmas.Fmt.{length-decimal-le}
use Rattle.std.proofs.lemmas.List.{drop-set}
use Rattle.fts_schema.proofs.ids.put_id.Goals as goal

pub write_digits-start-requires : goal.write_digits-start-requires
write_digits-start-requires c =
    let long : length (decimal c.args.id) ≤ 20 = length-decimal-le 20 c.args.id (omega arith) (omega arith) c.ranges.id.fits in
    (omega (arith, long, c.requires.room), c.requires.within)

pub overflow_sub-start : goal.overflow_sub-start
overflow_sub-start c =
    let long : length (decimal c.args.id) ≤ 20 = length-decimal-le 20 c.args.id (omega arith) (omega arith) c.ranges.id.fits in
    omega (arith, long, c.requires.room, c.write_digits-start.ensures.start)

pub returns-clause-written : goal.returns-clause-written
returns-clause-written c =
    let long : length (decimal c.args.id) ≤ 20 = length-decimal-le 20 c.args.id (omega arith) (omega arith) c.ranges.id.fits in
    let digits = c.write_digits-start in
    let behind : digits.result - 1 + 1 ≡ digits.result = omega (arith, long, c.requires.room, digits.ensures.start) in
    drop-set digits.new.buf (digits.result - 1) 32 (omega (arith, long, c.requires.room, c.requires.within, digits.ensures.start))
    ∙ ap (λ (n : ℕ). 32 ∷ drop n digits.new.buf) behind
    ∙ ap (λ (text : List ℕ). 32 ∷ text) digits.ensures.written

pub returns-clause-start : goal.returns-clause-start
returns-clause-start c =
    let long : length (decimal c.args.id) ≤ 20 = length-decimal-le 20 c.args.id (omega arith) (omega arith) c.ranges.id.fits in
    omega (arith, long, c.requires.room, c.write_digits-start.ensures.start)
