use Rattle.fts_query.proofs.Exact.{exact_syntax, exact_depth, exact_query}
use Rattle.fts_query.proofs.parser.parse.Goals as goal

pub returns-clause-syntax : goal.returns-clause-syntax
returns-clause-syntax c short =
    exact_syntax c.args.text.now short c.parse_fitting.result c.parse_fitting.ensures.tree c.parse_fitting.ensures.refused

pub returns-clause-too_deep : goal.returns-clause-too_deep
returns-clause-too_deep c short =
    exact_depth c.args.text.now short c.parse_fitting.result c.parse_fitting.ensures.shallow c.parse_fitting.ensures.refused

pub returns-clause-taken : goal.returns-clause-taken
returns-clause-taken c short =
    exact_query c.args.text.now short c.parse_fitting.result c.parse_fitting.ensures.refused
