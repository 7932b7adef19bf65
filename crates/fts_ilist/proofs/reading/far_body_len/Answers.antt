use Rattle.std.proofs.Common.{◌≡◌, ◌+◌, ◌-◌, ap, sym, ◌∙◌, arith, length, take, drop, nat_eq}
use Rattle.std.proofs.lemmas.Bool.{eqb-true}
use Rattle.std.proofs.lemmas.List.{take_all, length-drop}
use Rattle.fts_ilist.proofs.Ends.{far_step, no_zero, body_ends, end_here, end_later}
use Rattle.fts_ilist.proofs.reading.far_body_len.Goals as goal

pub returns-then-is_document_end : goal.returns-then-is_document_end
returns-then-is_document_end c =
    let bytes = c.args.bytes.now in
    let at = c.loop-passed.at in
    let k = c.in-Some.passed in
    let same : take (length bytes - at) (drop at bytes) ≡ drop at bytes = take_all (length bytes - at) (drop at bytes) (omega (arith, length-drop at bytes)) in
    let first = c.in-Some.ensures in
    let step = far_step bytes (take (length bytes - at) (drop at bytes)) at c.loop-passed.before k c.byte_before.result same c.loop-passed.invariant.within c.loop-passed.invariant.passed
    first.0.high (λ j less zero. first.0.before j (omega arith) less (ap (λ b. nat_eq b 0) zero)) (eqb-true _ 0 first.1) c.byte_before.ensures in
    body_ends bytes (at + k) (step ∙ ap (λ n. (at + k) + n) (end_here _ 0 _ (sym c.is_document_end.ensures ∙ c.if-is_document_end.true)) ∙ omega arith)

pub loop-passed-preserved : goal.loop-passed-preserved
loop-passed-preserved c =
    let bytes = c.args.bytes.now in
    let at = c.loop-passed.at in
    let k = c.in-Some.passed in
    let same : take (length bytes - at) (drop at bytes) ≡ drop at bytes = take_all (length bytes - at) (drop at bytes) (omega (arith, length-drop at bytes)) in
    let first = c.in-Some.ensures in
    let step = far_step bytes (take (length bytes - at) (drop at bytes)) at c.loop-passed.before k c.byte_before.result same c.loop-passed.invariant.within c.loop-passed.invariant.passed
    first.0.high (λ j less zero. first.0.before j (omega arith) less (ap (λ b. nat_eq b 0) zero)) (eqb-true _ 0 first.1) c.byte_before.ensures in
    let high = first.0.high in
    let long = ap length same ∙ length-drop at bytes in
    record {
      within = omega (arith, high, long, c.loop-passed.invariant.within);
      passed = step ∙ ap (λ n. (at + k) + n) (end_later _ 0 _ (sym c.is_document_end.ensures ∙ c.if-is_document_end.false)) ∙ omega arith;
    }

pub unreachable-requires : goal.unreachable-requires
unreachable-requires c =
    let bytes = c.args.bytes.now in
    let at = c.loop-passed.at in
    let same : take (length bytes - at) (drop at bytes) ≡ drop at bytes = take_all (length bytes - at) (drop at bytes) (omega (arith, length-drop at bytes)) in
    no_zero bytes (take (length bytes - at) (drop at bytes)) at c.loop-passed.before same c.loop-passed.invariant.within c.loop-passed.invariant.passed
    (λ j less zero. c.in_default.ensures j (omega arith) less (ap (λ b. nat_eq b 0) zero)) c.requires.body
