use Rattle.fts_token.specs.Left.{raw_words_left}
use Rattle.fts_phrase.proofs.Following.{IsFollowing}
use Rattle.fts_phrase.proofs.phrase.follow.Given as goal

abbrev pub invariant-loop-place : goal.invariant-loop-place
invariant-loop-place l = IsFollowing l.text l.words (raw_words_left l.rest) (raw_words_left l.ahead) l.from l.place
