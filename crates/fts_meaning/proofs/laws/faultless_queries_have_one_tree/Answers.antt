use Rattle.fts_meaning.proofs.Pairing.{has_tree, tree_faultless, tree_one}
use Rattle.fts_meaning.proofs.laws.faultless_queries_have_one_tree.Goals as goal

pub returns-clause-some : goal.returns-clause-some
returns-clause-some c =
    (λ (terms, is). tree_faultless c.args.query.now terms is, has_tree c.args.query.now)

pub returns-clause-one : goal.returns-clause-one
returns-clause-one c = tree_one c.args.query.now
