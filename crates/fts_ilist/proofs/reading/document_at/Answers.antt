use Rattle.std.proofs.Common.{arith, subst, sym}
use Rattle.std.proofs.lemmas.Result.{err_from_is_err_and}
use Rattle.fts_ilist.specs.Reading.State.{between}
use Rattle.fts_ilist.specs.Progress.{GetsStuck}
use Rattle.fts_ilist.proofs.Reader.{reads_increase, stuck_between, stuck_here, stuck_later}
use Rattle.fts_ilist.proofs.reading.document_at.Goals as goal

pub returns-in_err-id-clause-stuck : goal.returns-in_err-id-clause-stuck
returns-in_err-id-clause-stuck c =
    let p = err_from_is_err_and c.from_residual.result c.from_residual.ensures.1 in
    rw (p.1, p.2)
    (subst (λ at. GetsStuck c.args.bytes.now c.args.at (between c.args.last) at) (sym c.in_err-id.ensures.place)
    (stuck_here c.args.bytes.now c.args.at _ (omega arith) (stuck_between c.args.bytes.now c.args.at c.args.last c.requires.within c.in_err-id.ensures.none)))

pub returns-in_err-end-clause-stuck : goal.returns-in_err-end-clause-stuck
returns-in_err-end-clause-stuck c =
    let p = err_from_is_err_and c.from_residual-in_err-end.result c.from_residual-in_err-end.ensures.1 in
    rw (p.1, p.2)
    (stuck_later _ _ _ _ _ _ (reads_increase c.args.bytes.now c.args.at c.args.last c.in_ok-id.id c.in_ok-id.start c.in_ok-id.ensures.found) (c.in_err-end.ensures.stuck c.in_ok-id.id))
