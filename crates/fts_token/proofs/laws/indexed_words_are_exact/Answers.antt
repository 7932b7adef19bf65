use Rattle.fts_types.specs.Rules.{rules_of}
use Rattle.fts_words.proofs.PlacedLemmas.{indexed_words_each, indexed_words_all, indexed_words_ascend}
use Rattle.fts_token.proofs.laws.indexed_words_are_exact.Goals as goal

pub returns-clause-each : goal.returns-clause-each
returns-clause-each c = indexed_words_each c.args.columns.now (rules_of c.args.settings.now)

pub returns-clause-all : goal.returns-clause-all
returns-clause-all c = indexed_words_all c.args.columns.now (rules_of c.args.settings.now)

pub returns-clause-ascending : goal.returns-clause-ascending
returns-clause-ascending c = indexed_words_ascend c.args.columns.now (rules_of c.args.settings.now)
