use Rattle.std.proofs.Common.{eqb, ◌==◌, cond, refl}
use Rattle.std.proofs.lemmas.Simd.{zip2_splat, length-chunk}
use lib.Lanes.{chunk}
use Rattle.fts_words.specs.Byte.{apostrophe_at}
use Rattle.fts_token.proofs.Bits.{marked}
use Rattle.fts_token.proofs.marks.apostrophe_marks.Goals as goal

pub returns : goal.returns
unfolding apostrophe_at
returns c =
    let v = chunk c.args.at 64 c.args.text.now in
    let long = length-chunk c.args.at 64 c.args.text.now c.requires in
    marked (λ x. x == 39) c.args.text.now c.args.at _ _ c.requires c.type_inv.text refl _ (zip2_splat (λ a b. cond (eqb a b) 255 0) v 64 39 long) refl
