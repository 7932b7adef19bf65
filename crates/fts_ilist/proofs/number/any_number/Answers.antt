use Rattle.std.proofs.Common.{arith, ◌≡◌, ◌+◌, ◌∷◌, drop}
use Rattle.std.proofs.lemmas.List.{drop_more, drop_all}
use Rattle.fts_ilist.proofs.Codec.{takes_none, takes_group, takes_last, none_too_large, none_from_zero, none_at_end, length_at_last}
use Rattle.fts_ilist.proofs.number.any_number.Goals as goal

pub loop-i-init : goal.loop-i-init
loop-i-init c = takes_none c.args.bytes.now

pub returns-then-value-clause-none : goal.returns-then-value-clause-none
returns-then-value-clause-none c = none_too_large c.args.bytes.now c.loop-i.i c.loop-i.value c.loop-i.invariant (omega arith)

pub returns-then-byte-ge128-clause-found : goal.returns-then-byte-ge128-clause-found
returns-then-byte-ge128-clause-found c =
    let e : drop c.loop-i.i c.args.bytes.now ≡ c.from-byte.result ∷ drop (c.loop-i.i + 1) c.args.bytes.now = cc (drop_more c.args.bytes.now c.loop-i.i 0 c.loop-i-test.true, c.from-byte.ensures) in
    takes_last c.args.bytes.now c.loop-i.i c.loop-i.value c.from-byte.result c.loop-i.invariant e (omega arith) (omega (arith, c.type_inv.bytes c.loop-i.i, c.from-byte.ensures))

pub returns-then-byte-ge128-clause-length : goal.returns-then-byte-ge128-clause-length
returns-then-byte-ge128-clause-length c =
    let e : drop c.loop-i.i c.args.bytes.now ≡ c.from-byte.result ∷ drop (c.loop-i.i + 1) c.args.bytes.now = cc (drop_more c.args.bytes.now c.loop-i.i 0 c.loop-i-test.true, c.from-byte.ensures) in
    length_at_last c.args.bytes.now c.loop-i.i _ c.loop-i-test.true
    (takes_last c.args.bytes.now c.loop-i.i c.loop-i.value c.from-byte.result c.loop-i.invariant e (omega arith) (omega (arith, c.type_inv.bytes c.loop-i.i, c.from-byte.ensures)))

pub returns-then-value-byte-eq0-clause-none : goal.returns-then-value-byte-eq0-clause-none
returns-then-value-byte-eq0-clause-none c =
    let e : drop c.loop-i.i c.args.bytes.now ≡ c.from-byte.result ∷ drop (c.loop-i.i + 1) c.args.bytes.now = cc (drop_more c.args.bytes.now c.loop-i.i 0 c.loop-i-test.true, c.from-byte.ensures) in
    none_from_zero c.args.bytes.now c.loop-i.i c.loop-i.value c.from-byte.result c.loop-i.invariant e (omega arith)

pub loop-i-preserved : goal.loop-i-preserved
loop-i-preserved c =
    let e : drop c.loop-i.i c.args.bytes.now ≡ c.from-byte.result ∷ drop (c.loop-i.i + 1) c.args.bytes.now = cc (drop_more c.args.bytes.now c.loop-i.i 0 c.loop-i-test.true, c.from-byte.ensures) in
    takes_group c.args.bytes.now c.loop-i.i c.loop-i.value c.from-byte.result c.loop-i.invariant e (omega arith) (omega arith)

pub returns-clause-none : goal.returns-clause-none
returns-clause-none c = none_at_end c.args.bytes.now c.loop-i.i c.loop-i.value c.loop-i.invariant (drop_all c.loop-i.i c.args.bytes.now (omega arith))
