use Rattle.std.proofs.Common.{arith, ◌≡◌, ℕ, ◌+◌, ◌-◌, ◌*◌, ◌∷◌, ◌++◌, get_or, drop, sym, ap, ◌∙◌}
use Rattle.std.proofs.lemmas.List.{drop_more}
use Rattle.fts_ilist.specs.Number.{number_bytes}
use Rattle.fts_ilist.proofs.Codec.{takes_none, takes_group, takes_last, number_within, value_fits, group_positive, length_at_last}
use Rattle.fts_ilist.proofs.number.front_number.Goals as goal

pub loop-at-init : goal.loop-at-init
loop-at-init c = takes_none c.args.bytes.now

pub bounds-bytes-at : goal.bounds-bytes-at
bounds-bytes-at c = number_within c.args.bytes.now c.loop-at.at c.loop-at.value c.loop-at.invariant c.requires

pub overflow_mul-value : goal.overflow_mul-value
overflow_mul-value c = omega (arith, value_fits c.args.bytes.now c.loop-at.at c.loop-at.value c.loop-at.invariant c.requires)

pub bounds-bytes-at-in-loop-at : goal.bounds-bytes-at-in-loop-at
bounds-bytes-at-in-loop-at c = number_within c.args.bytes.now c.loop-at.at c.loop-at.value c.loop-at.invariant c.requires

pub overflow_add-value : goal.overflow_add-value
overflow_add-value c = omega (arith, value_fits c.args.bytes.now c.loop-at.at c.loop-at.value c.loop-at.invariant c.requires, c.from.ensures, c.loop-at-test.true)

pub overflow_add-at : goal.overflow_add-at
overflow_add-at c = omega (arith, number_within c.args.bytes.now c.loop-at.at c.loop-at.value c.loop-at.invariant c.requires)

pub loop-at-smaller : goal.loop-at-smaller
loop-at-smaller c = omega (arith, number_within c.args.bytes.now c.loop-at.at c.loop-at.value c.loop-at.invariant c.requires)

pub loop-at-preserved : goal.loop-at-preserved
loop-at-preserved c =
    let within = number_within c.args.bytes.now c.loop-at.at c.loop-at.value c.loop-at.invariant c.requires in
    let e : drop c.loop-at.at c.args.bytes.now ≡ c.from.result ∷ drop (c.loop-at.at + 1) c.args.bytes.now = drop_more c.args.bytes.now c.loop-at.at 0 within ∙ ap (λ (b : ℕ). b ∷ drop (c.loop-at.at + 1) c.args.bytes.now) (sym c.from.ensures) in
    takes_group c.args.bytes.now c.loop-at.at c.loop-at.value c.from.result c.loop-at.invariant e (omega (arith, c.from.ensures, c.loop-at-test.true))
    (group_positive c.args.bytes.now c.loop-at.at c.loop-at.value c.from.result c.loop-at.invariant e c.requires)

pub overflow_mul-result : goal.overflow_mul-result
overflow_mul-result c = omega (arith, value_fits c.args.bytes.now c.loop-at.at c.loop-at.value c.loop-at.invariant c.requires)

pub overflow_add-result : goal.overflow_add-result
overflow_add-result c = omega (arith, value_fits c.args.bytes.now c.loop-at.at c.loop-at.value c.loop-at.invariant c.requires, c.from-2.ensures, c.type_inv.bytes c.loop-at.at)

pub returns-clause-found : goal.returns-clause-found
returns-clause-found c =
    let within = number_within c.args.bytes.now c.loop-at.at c.loop-at.value c.loop-at.invariant c.requires in
    let e : drop c.loop-at.at c.args.bytes.now ≡ get_or c.args.bytes.now c.loop-at.at 0 ∷ drop (c.loop-at.at + 1) c.args.bytes.now = drop_more c.args.bytes.now c.loop-at.at 0 within in
    let n : c.loop-at.value * 128 + (get_or c.args.bytes.now c.loop-at.at 0 - 128) ≡ c.loop-at.value * 128 + c.from-2.result = omega (arith, c.from-2.ensures) in
    let found = takes_last c.args.bytes.now c.loop-at.at c.loop-at.value (get_or c.args.bytes.now c.loop-at.at 0) c.loop-at.invariant e c.loop-at-test.false (omega (arith, c.type_inv.bytes c.loop-at.at)) in
    found ∙ ap (λ (w : ℕ). number_bytes w ++ drop (c.loop-at.at + 1) c.args.bytes.now) n

pub returns-clause-length : goal.returns-clause-length
returns-clause-length c =
    let within = number_within c.args.bytes.now c.loop-at.at c.loop-at.value c.loop-at.invariant c.requires in
    let e : drop c.loop-at.at c.args.bytes.now ≡ get_or c.args.bytes.now c.loop-at.at 0 ∷ drop (c.loop-at.at + 1) c.args.bytes.now = drop_more c.args.bytes.now c.loop-at.at 0 within in
    let n : c.loop-at.value * 128 + (get_or c.args.bytes.now c.loop-at.at 0 - 128) ≡ c.loop-at.value * 128 + c.from-2.result = omega (arith, c.from-2.ensures) in
    let found = takes_last c.args.bytes.now c.loop-at.at c.loop-at.value (get_or c.args.bytes.now c.loop-at.at 0) c.loop-at.invariant e c.loop-at-test.false (omega (arith, c.type_inv.bytes c.loop-at.at)) in
    length_at_last c.args.bytes.now c.loop-at.at _ within (found ∙ ap (λ (w : ℕ). number_bytes w ++ drop (c.loop-at.at + 1) c.args.bytes.now) n)
