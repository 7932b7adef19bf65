use Rattle.std.proofs.Common.{sym, subst, ap}
use Rattle.fts_engine.specs.Stands.{rows_log, index_log}
use Rattle.fts_core.specs.declared.event.Event.TheVariants as event
use Rattle.fts_core.specs.declared.event.Outcome.TheVariants as outcome
use Rattle.fts_core.specs.declared.world.World.{World}
use Rattle.fts_core.specs.Lists.{Allows}
use Rattle.fts_core.proofs.Stepping.{turned_no_engine, turned_listing}
use Rattle.fts_core.proofs.view.listing.Goals as goal

pub returns-in-Err : goal.returns-in-Err
returns-in-Err g c told told' core fits can = turned_no_engine (event.Listing c.args.kind) tt c.args.world c.in-Err.world c.in-Err.ensures.closed core fits

pub returns : goal.returns
returns g c told told' =
    let parts = c.in-Ok.parts in
    subst (λ (w : World _ _ g.D.Disk g.E.Disk). Allows w (event.Listing c.args.kind) (outcome.Listed c.listing-result.result) c.behind.result) (sym c.in-Ok.ensures.open)
    (λ core fits can. turned_listing
    (record { told = told; stay = λ d. g.met.D.Disk.seen_may_stay d told; only = λ d files. g.met.D.Disk.only_now d files told })
    (record { told = told'; stay = λ d. g.met.E.Disk.seen_may_stay d told'; only = λ d files. g.met.E.Disk.only_now d files told' })
    core parts.0 c.listing-result.new.self parts.1 parts.2 parts.3 fits c.behind.result c.behind.ensures
    c.args.kind c.listing-result.result c.listing-result.ensures.steps c.listing-result.ensures.calm (ap rows_log c.listing-result.ensures.same) (ap index_log c.listing-result.ensures.same))
