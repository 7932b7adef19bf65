use Rattle.std.proofs.lemmas.Result.{err_from_is_err_and}
use Rattle.fts_codec.specs.Fields.{many_at}
use Rattle.fts_rowcodec.specs.Reading.{change_at}
use Rattle.fts_codec.proofs.Loop.{begins, goes_on, ends, is_done}
use Rattle.fts_rowcodec.proofs.commit.changes_at.Goals as goal

pub loop-init : goal.loop-init
loop-init c = rw c.new-changes.ensures.items (begins (change_at c.args.columns) c.args.count c.args.bytes.now)

pub returns-in_err-change : goal.returns-in_err-change
returns-in_err-change c =
    let one = change_at c.args.columns in
    let p = err_from_is_err_and c.from_residual.result c.from_residual.ensures.1 in
    rw (p.1, p.2) (ends one c.loop.changes.items c.args.count c.loop.counter c.loop.rest.now (many_at one c.args.count c.args.bytes.now) c.in_err-change.field-0.0 c.loop-test.true c.in_err-change.ensures c.loop.invariant)

pub loop-preserved : goal.loop-preserved
loop-preserved c =
    let one = change_at c.args.columns in
    rw c.in_ok-push.ensures.items
    (goes_on one c.loop.changes.items c.args.count c.loop.counter c.loop.rest.now (many_at one c.args.count c.args.bytes.now) c.in_ok-change.change c.in_ok-change.after.now c.loop-test.true c.in_ok-change.ensures c.loop.invariant)

pub returns : goal.returns
returns c =
    let one = change_at c.args.columns in
    is_done one c.loop.changes.items c.args.count c.loop.counter c.loop.rest.now (many_at one c.args.count c.args.bytes.now) c.loop-test.false c.loop.invariant
