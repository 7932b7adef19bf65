use Rattle.std.proofs.Common.{ℕ, ltb, cond, bit_or, refl}
use Rattle.std.proofs.lemmas.Simd.{zip2_splat, length-chunk}
use lib.Lanes.{chunk}
use Rattle.fts_words.specs.Byte.{is_word_byte, word_at}
use Rattle.fts_token.proofs.Lanes.{joined, splat_is}
use Rattle.fts_token.proofs.Bits.{marked}
use Rattle.fts_token.proofs.marks.word_marks.Goals as goal

pub returns : goal.returns
unfolding word_at
returns c =
    let v = chunk c.args.at 64 c.args.text.now in
    let long = length-chunk c.args.at 64 c.args.text.now c.requires in
    marked is_word_byte c.args.text.now c.args.at _ _ c.requires c.type_inv.text refl _
    (joined bit_or _ _ v (joined (λ a b. cond (ltb a b) 255 0) _ _ v (joined _ _ _ v (zip2_splat {Y = ℕ} _ v 64 32 long) (splat_is v 64 97 long)) (splat_is v 64 26 long))
    (joined bit_or _ _ v (joined (λ a b. cond (ltb a b) 255 0) _ _ v (zip2_splat {Y = ℕ} _ v 64 48 long) (splat_is v 64 10 long)) (zip2_splat {Y = ℕ} _ v 64 95 long))) refl
