use Rattle.std.proofs.Common.{inl, inr}
use Rattle.fts_core.proofs.Turned.{turned_crash}
use Rattle.fts_core.proofs.crash.crash.Goals as goal

pub returns-then-within : goal.returns-then-within
returns-then-within g c told told' core fits can =
    turned_crash (record { told = told; stay = λ d. g.met.D.Disk.seen_may_stay d told; only = λ d files. g.met.D.Disk.only_now d files told })
    (record { told = told'; stay = λ d. g.met.E.Disk.seen_may_stay d told'; only = λ d files. g.met.E.Disk.only_now d files told' })
    core c.args.world fits c.args.rows c.args.index c.args.within can _
    (inr (c.if-within.true, c.taken_back-world.ensures.place, c.taken_back-world.ensures.last, c.taken_back-world.ensures.lists))

pub returns : goal.returns
returns g c told told' core fits can =
    turned_crash (record { told = told; stay = λ d. g.met.D.Disk.seen_may_stay d told; only = λ d files. g.met.D.Disk.only_now d files told })
    (record { told = told'; stay = λ d. g.met.E.Disk.seen_may_stay d told'; only = λ d files. g.met.E.Disk.only_now d files told' })
    core c.args.world fits c.args.rows c.args.index c.args.within can _ (inl (c.if-within.false, c.behind-world.ensures))
