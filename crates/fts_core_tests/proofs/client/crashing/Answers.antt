use Rattle.std.proofs.Common.{subst}
use Rattle.fts_disk.specs.declared.memory.MemDisk.{MemDisk}
use Rattle.fts_disk.specs.contracts.memory.MemDiskDisk.TheImpl.{ghosts}
use Rattle.fts_core_tests.specs.Client.{IsSynced}
use Rattle.fts_core_tests.proofs.Seeing.{can_crash}
use Rattle.fts_core_tests.proofs.client.crashing.Goals as goal

pub returns : goal.returns
returns c commits stands =
    can_crash ghosts ghosts commits c.args.world c.in_ok-rows.rows c.in_ok-rows.left_rows c.in_ok-index.index c.in_ok-index.left_index stands
    (subst (λ (d : MemDisk). IsSynced ghosts d c.in_ok-rows.rows c.in_ok-rows.left_rows) c.close-rows.ensures.rows c.in_ok-rows.ensures)
    (subst (λ (d : MemDisk). IsSynced ghosts d c.in_ok-index.index c.in_ok-index.left_index) c.close-rows.ensures.index c.in_ok-index.ensures)
