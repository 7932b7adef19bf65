use Rattle.std.proofs.Common.{ap, ◌∙◌}
use Rattle.fts_ids.specs.Ids.{has}
use Rattle.fts_index.proofs.sync.covered_deaths.Goals as goal

pub returns-clause-each : goal.returns-clause-each
returns-clause-each c = λ id. c.ascending.ensures.each id ∙ ap (λ ids. has ids id) c.in_ok-deaths_of.ensures
