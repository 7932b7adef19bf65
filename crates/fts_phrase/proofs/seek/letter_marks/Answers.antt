use Rattle.std.proofs.Common.{eqb, cond, refl, ◌∙◌}
use Rattle.std.proofs.lemmas.Simd.{length-chunk}
use lib.Lanes.{chunk}
use Rattle.fts_phrase.proofs.Seeking.{marked_by, lanes_twice, letter_bit}
use Rattle.fts_phrase.proofs.seek.letter_marks.Goals as goal

pub returns : goal.returns
returns c j less same =
    let v = chunk c.args.at 64 c.args.text.now in
    let long = length-chunk c.args.at 64 c.args.text.now c.requires in
    marked_by c.args.text.now c.args.at _ _ c.requires refl _ (lanes_twice _ (λ a b. cond (eqb a b) 255 0) v 64 32 _ long) j less
    ∙ letter_bit _ c.args.letter (c.type_inv.text _).fits same
