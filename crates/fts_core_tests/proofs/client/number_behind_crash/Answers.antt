use Rattle.std.proofs.Common.{refl}
use Rattle.fts_disk.specs.contracts.memory.MemDiskDisk.TheImpl.{ghosts}
use Rattle.fts_core.specs.World.{moments}
use Rattle.fts_core.specs.Lists.{AreCreated}
use Rattle.fts_core_tests.proofs.client.number_behind_crash.Goals as goal

pub returns : goal.returns
returns c =
    let settings = c.args.settings.now in
    let made : AreCreated ghosts ghosts settings c.in-Ok.rows c.in-Ok.index = record { of_rows = c.in-Ok.ensures.rows refl; of_index = c.in-Ok.ensures.index refl } in
    let stands = c.in-Some.ensures settings (moments c.new.result) (c.new.ensures refl refl settings made) in
    c.in-Some-viewed_behind.ensures 2 (c.in-Some-crashing.ensures 2 stands)
