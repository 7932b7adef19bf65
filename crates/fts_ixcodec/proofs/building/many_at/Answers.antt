use Rattle.std.proofs.lemmas.Result.{err_from_is_err_and}
use Rattle.fts_ixcodec.specs.Building.{nothing}
use Rattle.fts_types.specs.Rules.{rules_of}
use Rattle.fts_ixcodec.specs.Reading.{one_at, many_at}
use Rattle.fts_ixcodec.proofs.Loop.{begins, goes_on, ends, is_done}
use Rattle.fts_ixcodec.proofs.building.many_at.Goals as goal

pub loop-init : goal.loop-init
loop-init c = rw c.new-building.ensures (begins (one_at (rules_of c.args.settings.now) c.args.worded) c.args.count nothing c.args.bytes.now)

pub returns-in_err-rest : goal.returns-in_err-rest
returns-in_err-rest c =
    let p = err_from_is_err_and c.from_residual.result c.from_residual.ensures.1 in
    rw (p.1, p.2) (ends (one_at (rules_of c.args.settings.now) c.args.worded) c.args.count c.loop.counter c.loop.building c.loop.rest.now (many_at (one_at (rules_of c.args.settings.now) c.args.worded) c.args.count nothing c.args.bytes.now) c.in_err-rest.field-0.0 c.loop-test.true c.in_err-rest.ensures c.loop.invariant)

pub loop-preserved : goal.loop-preserved
loop-preserved c = goes_on (one_at (rules_of c.args.settings.now) c.args.worded) c.args.count c.loop.counter c.loop.building c.loop.rest.now (many_at (one_at (rules_of c.args.settings.now) c.args.worded) c.args.count nothing c.args.bytes.now) c.take.new.self c.in_ok-rest.rest.now c.loop-test.true c.in_ok-rest.ensures c.loop.invariant

pub returns : goal.returns
returns c = is_done (one_at (rules_of c.args.settings.now) c.args.worded) c.args.count c.loop.counter c.loop.building c.loop.rest.now (many_at (one_at (rules_of c.args.settings.now) c.args.worded) c.args.count nothing c.args.bytes.now) c.loop-test.false c.loop.invariant
