use Rattle.std.proofs.Common.{length}
use Rattle.fts_token.specs.Left.{raw_words_left}
use Rattle.fts_query.proofs.Gathering.{IsGathered}
use Rattle.fts_query.proofs.words.words_in.Given as goal

abbrev pub invariant-loop-word : goal.invariant-loop-word
invariant-loop-word l = IsGathered l.text l.words (raw_words_left l.rest)

abbrev pub decreases-loop-word : goal.decreases-loop-word
decreases-loop-word l = length (raw_words_left l.rest)
