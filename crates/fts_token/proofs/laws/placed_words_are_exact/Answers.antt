use Rattle.fts_words.proofs.PlacedLemmas.{placed_words_each, placed_words_all, placed_words_ascend}
use Rattle.fts_token.proofs.laws.placed_words_are_exact.Goals as goal

pub returns-clause-each : goal.returns-clause-each
returns-clause-each c = placed_words_each c.args.columns.now

pub returns-clause-all : goal.returns-clause-all
returns-clause-all c = placed_words_all c.args.columns.now

pub returns-clause-ascending : goal.returns-clause-ascending
returns-clause-ascending c = placed_words_ascend c.args.columns.now
