use Rattle.fts_words.proofs.WordLemmas.{raw_words_each, raw_words_all, raw_words_ascend, raw_words_only}
use Rattle.fts_words.proofs.laws.raw_words_are_exact.Goals as goal

pub returns-clause-each : goal.returns-clause-each
returns-clause-each c = raw_words_each c.args.text.now

pub returns-clause-all : goal.returns-clause-all
returns-clause-all c = raw_words_all c.args.text.now

pub returns-clause-ascending : goal.returns-clause-ascending
returns-clause-ascending c = raw_words_ascend c.args.text.now

pub returns-clause-only : goal.returns-clause-only
returns-clause-only c = raw_words_only c.args.text.now
