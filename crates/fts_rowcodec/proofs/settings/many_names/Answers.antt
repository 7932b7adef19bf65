use Rattle.std.proofs.Common.{[]}
use Rattle.std.proofs.lemmas.Result.{err_from_is_err_and}
use Rattle.fts_rowcodec.specs.Reading.{names_from}
use Rattle.fts_rowcodec.proofs.NamesLoop.{begins, goes_on, ends, is_done}
use Rattle.fts_rowcodec.proofs.settings.many_names.Goals as goal

pub loop-init : goal.loop-init
loop-init c = rw c.new-names.ensures (begins c.args.count c.args.bytes.now)

pub returns-in_err-name : goal.returns-in_err-name
returns-in_err-name c =
    let p = err_from_is_err_and c.from_residual.result c.from_residual.ensures.1 in
    rw (p.1, p.2) (ends c.loop.names c.args.count c.loop.counter c.loop.rest.now (names_from [] c.args.count c.args.bytes.now) c.in_err-name.field-0.0 c.loop-test.true c.in_err-name.ensures c.loop.invariant)

pub loop-preserved : goal.loop-preserved
loop-preserved c =
    rw (c.in_ok-push.ensures.ok, c.in_ok-from_slice.ensures.items)
    (goes_on c.loop.names c.args.count c.loop.counter c.loop.rest.now (names_from [] c.args.count c.args.bytes.now) c.in_ok-name.name.now c.in_ok-name.after.now c.loop-test.true c.in_ok-name.ensures c.loop.invariant)

pub returns : goal.returns
returns c = is_done c.loop.names c.args.count c.loop.counter c.loop.rest.now (names_from [] c.args.count c.args.bytes.now) c.loop-test.false c.loop.invariant
