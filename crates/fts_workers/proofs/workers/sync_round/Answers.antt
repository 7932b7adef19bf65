use Rattle.std.proofs.Common.{sym}
use Rattle.fts_workers.proofs.workers.sync_round.Goals as goal

pub returns : goal.returns
returns g c =
    let made = c.make_batches.ensures in
    record { calls = made.calls; is = made.are; made = made.steps; met_is = sym made.met_is; faults = made.faults }
