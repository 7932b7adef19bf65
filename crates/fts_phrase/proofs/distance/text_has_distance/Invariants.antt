use Rattle.std.proofs.Common.{length}
use Rattle.fts_meaning.specs.Token.{words_in}
use Rattle.fts_token.specs.Left.{raw_words_left}
use Rattle.fts_phrase.proofs.Near.{IsPassing}
use Rattle.fts_phrase.proofs.distance.text_has_distance.Given as goal

abbrev pub invariant-loop-found : goal.invariant-loop-found
invariant-loop-found l = IsPassing l.text (words_in l.text) l.words l.reach (raw_words_left l.rest) l.number l.last

abbrev pub decreases-loop-found : goal.decreases-loop-found
decreases-loop-found l = length (raw_words_left l.rest)
