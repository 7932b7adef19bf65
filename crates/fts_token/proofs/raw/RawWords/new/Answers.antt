use Rattle.std.proofs.Common.{refl, arith}
use Rattle.fts_token.specs.Left.{raw_words_left}
use Rattle.fts_token.specs.Bounds.{is_inside}
use Rattle.fts_token.proofs.raw.RawWords.new.Goals as goal

pub invariant_of-result : goal.invariant_of-result
unfolding is_inside
invariant_of-result c = record { within = omega arith; outside = refl; ahead = c.first.ensures }

pub returns : goal.returns
unfolding raw_words_left
returns c = refl
