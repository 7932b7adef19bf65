use Rattle.std.proofs.Common.{◌∙◌}
use Rattle.fts_index.specs.Stands.{StandsFor}
use Rattle.fts_index.proofs.Sizes.{cached_size}
use Rattle.fts_index.proofs.index.Index.cache_size.Goals as goal

pub returns : goal.returns
unfolding StandsFor
returns c = λ rules turns s stands. c.size.ensures ∙ cached_size rules turns s c.args.self.now stands
