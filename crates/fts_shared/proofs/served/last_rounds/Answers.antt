use Rattle.fts_shared.proofs.served.last_rounds.Goals as goal

pub returns : goal.returns
returns g c = record {
  middle = c.make-synced.new.steps.engine;
  synced = c.make-synced.result;
  optimized = c.make-optimized.result;
  syncs = c.make-synced.ensures;
  optimizes = c.make-optimized.ensures;
  met_is = c.worse.ensures;
}
