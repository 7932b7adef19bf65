use Rattle.fts_index.specs.Stands.{StandsFor}
use Rattle.fts_index.proofs.Syncing.{stands_behind}
use Rattle.fts_index.proofs.index.Index.install_sync.Goals as goal

pub returns : goal.returns
unfolding StandsFor
returns c = λ rules limit turns s. stands_behind rules limit turns s c.args.self.now c.args.plan c.flush.new.index c.flush.ensures c.requires
