use Rattle.fts_index.specs.Stands.{StandsFor}
use Rattle.fts_index.proofs.Commits.{stands_more}
use Rattle.fts_index.proofs.index.Index.install_commit.Goals as goal

pub returns : goal.returns
unfolding StandsFor
returns c = λ rules turns s turn. stands_more rules turns s turn c.args.self.now c.args.plan c.add_commit.new.index c.add_commit.ensures
