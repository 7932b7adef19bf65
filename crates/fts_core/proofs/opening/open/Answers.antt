use Rattle.fts_core.proofs.Opens.{free, turned_refused, turned_no_room, turned_opened}
use Rattle.fts_core.proofs.opening.open.Goals as goal

pub returns-in-Err : goal.returns-in-Err
returns-in-Err g c told told' core fits can =
    turned_no_room (record { told = told; stay = λ d. g.met.D.Disk.seen_may_stay d told; only = λ d files. g.met.D.Disk.only_now d files told })
    (record { told = told'; stay = λ d. g.met.E.Disk.seen_may_stay d told'; only = λ d files. g.met.E.Disk.only_now d files told' })
    core c.args.world fits c.args.limits c.close-rows.result.0 c.close-rows.result.1 c.close-rows.ensures.rows c.close-rows.ensures.index
    (c.are_within_standard.ensures.0 c.if-not-are_within_standard.false)
    c.reserve.new.self c.reserve.ensures.items c.behind.result c.behind.ensures

pub returns-in-Ok-open_engine : goal.returns-in-Ok-open_engine
returns-in-Ok-open_engine g c told told' core fits can =
    let opened = c.in-Ok-open_engine.ensures.opened told told' in
    turned_opened (record { told = told; stay = λ d. g.met.D.Disk.seen_may_stay d told; only = λ d files. g.met.D.Disk.only_now d files told })
    (record { told = told'; stay = λ d. g.met.E.Disk.seen_may_stay d told'; only = λ d files. g.met.E.Disk.only_now d files told' })
    core c.args.world fits c.args.limits c.close-rows.result.0 c.close-rows.result.1 c.close-rows.ensures.rows c.close-rows.ensures.index
    (c.are_within_standard.ensures.0 c.if-not-are_within_standard.false)
    c.in-Ok-open_engine.engine opened.0 opened.1 c.in-Ok-open_engine.ensures.limits (c.in-Ok-open_engine.ensures.looks_rows told) (c.in-Ok-open_engine.ensures.looks_index told')
    c.reserve.new.self c.reserve.ensures.items c.found-world.result c.found-world.ensures.place c.found-world.ensures.lists

pub returns : goal.returns
returns g c told told' core fits can =
    turned_refused (record { told = told; stay = λ d. g.met.D.Disk.seen_may_stay d told; only = λ d files. g.met.D.Disk.only_now d files told })
    (record { told = told'; stay = λ d. g.met.E.Disk.seen_may_stay d told'; only = λ d files. g.met.E.Disk.only_now d files told' })
    core c.args.world fits c.args.limits c.close-rows.result.0 c.close-rows.result.1 c.close-rows.ensures.rows c.close-rows.ensures.index
    (c.are_within_standard.ensures.0 c.if-not-are_within_standard.false)
    c.in-Err-open_engine.error
    (free (record { told = told; stay = λ d. g.met.D.Disk.seen_may_stay d told; only = λ d files. g.met.D.Disk.only_now d files told })
    (record { told = told'; stay = λ d. g.met.E.Disk.seen_may_stay d told'; only = λ d files. g.met.E.Disk.only_now d files told' })
    core c.args.world fits c.args.limits c.close-rows.result.0 c.close-rows.result.1 c.close-rows.ensures.rows c.close-rows.ensures.index
    (c.are_within_standard.ensures.0 c.if-not-are_within_standard.false)
    c.in-Err-open_engine.error (λ is. c.in-Err-open_engine.ensures.not_created is told) (λ file at is. (c.in-Err-open_engine.ensures.damaged_rows file at is).1 told)
    (λ file at is. (c.in-Err-open_engine.ensures.damaged_index file at is).1 told told'))
    c.in-Err-open_engine.rows c.in-Err-open_engine.index (c.in-Err-open_engine.ensures.looks_rows told).crash (c.in-Err-open_engine.ensures.looks_index told').crash
    c.reserve.new.self c.reserve.ensures.items c.behind-in-Err-open_engine.result c.behind-in-Err-open_engine.ensures
