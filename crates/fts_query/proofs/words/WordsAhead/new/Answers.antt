use Rattle.std.proofs.Common.{◌∙◌}
use Rattle.fts_token.specs.Left.{raw_words_left}
use Rattle.fts_query.proofs.Ahead.{first_given}
use Rattle.fts_query.proofs.words.WordsAhead.new.Goals as goal

pub returns : goal.returns
returns c = first_given c.next-first.result (raw_words_left c.raw_words-rest.result) (raw_words_left c.next-first.new.self) c.next-first.ensures.steps ∙ c.raw_words-rest.ensures
