use Rattle.std.proofs.Common.{w64, arith}
use Rattle.std.proofs.lemmas.Nat.Bits.{bit_at-trailing_zeros}
use Rattle.fts_phrase.proofs.Seeking.{before_mark, before_none, found_before}
use Rattle.fts_phrase.proofs.seek.next_place.Goals as goal

pub returns-then-marks-ne0 : goal.returns-then-marks-ne0
returns-then-marks-ne0 c =
    let l = c.loop-from in
    let marks = c.word_marks-marks.result in
    let within = (bit_at-trailing_zeros w64 marks (omega arith) (omega arith)).0 in (
      omega (arith, l.invariant.order),
      omega (arith, within),
      before_mark c.args.text.now c.args.word.now c.args.at l.from marks (omega arith) (omega arith) l.invariant.none c.word_marks-marks.ensures,
    )

pub loop-from-preserved : goal.loop-from-preserved
loop-from-preserved c =
    let l = c.loop-from in
    record {
      order = omega (arith, l.invariant.order);
      within = omega arith;
      none = before_none c.args.text.now c.args.word.now c.args.at l.from c.word_marks-marks.result c.if-marks-ne0.false l.invariant.none c.word_marks-marks.ensures;
    }

pub returns : goal.returns
returns c =
    let l = c.loop-from in
    found_before c.args.text.now c.args.word.now c.args.at l.from l.invariant.order l.invariant.none _ c.next_at_end-2.ensures
