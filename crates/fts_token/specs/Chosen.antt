use Rattle.fts_words.specs.Indexed.{Rules}
use Rattle.fts_stopwords.specs.StopSet.{words_of}
use Rattle.fts_token.specs.declared.indexable.Choice.{Choice}

-- the rules by which words are chosen
abbrev pub rules_by : Choice → Rules
rules_by choice = record { min = choice.min; max = choice.max; stopwords = words_of choice.stop_set }
