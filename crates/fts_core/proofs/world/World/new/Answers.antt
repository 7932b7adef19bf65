use Rattle.std.proofs.Common.{sym, subst}
use Rattle.fts_core.specs.declared.world.World.{World}
use Rattle.fts_core.specs.World.{moments}
use Rattle.fts_core.specs.Core.{Fits}
use Rattle.fts_core.specs.Lists.{created_core}
use Rattle.fts_core.proofs.Created.{created_fits}
use Rattle.fts_core.proofs.world.World.new.Goals as goal

pub returns : goal.returns
returns g c told told' settings are =
    subst (λ (w : World _ _ g.D.Disk g.E.Disk). Fits (created_core settings (moments w)) w) (sym c.behind.ensures)
    (created_fits (λ d files. g.met.D.Disk.only_now d files told) (λ d files. g.met.E.Disk.only_now d files told') c.args.rows c.args.index _ c.new.ensures.items
    (λ commits. record { ascend = c.are_turns.ensures.ascend commits; lead = c.are_turns.ensures.rows commits }) settings are)
