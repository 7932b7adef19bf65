use Rattle.std.proofs.Common.{subst, sym, ◌∙◌}
use Rattle.std.proofs.lemmas.Result.{err_from_is_err_and}
use Rattle.std.proofs.lemmas.Bool.{false≢true}
use Rattle.fts_ilist.specs.Reading.State.{inside}
use Rattle.fts_ilist.specs.Progress.{GetsStuck}
use Rattle.fts_ilist.proofs.Reader.{positions_limit, one_more_position, reads_positions, stuck_inside, stuck_here, stuck_later}
use Rattle.fts_ilist.proofs.reading.document_end.Goals as goal

pub increase_at-requires-clause-limit : goal.increase_at-requires-clause-limit
increase_at-requires-clause-limit c = positions_limit _ _ _ _ c.loop-at.invariant

pub returns-in_err-value-clause-stuck : goal.returns-in_err-value-clause-stuck
returns-in_err-value-clause-stuck c =
    let p = err_from_is_err_and c.from_residual.result c.from_residual.ensures.1 in
    rw (p.1, p.2) (λ id.
    let here : GetsStuck c.args.bytes.now c.loop-at.at (inside id c.loop-at.next) c.loop-at.at
    = stuck_here c.args.bytes.now c.loop-at.at _ c.loop-at.invariant.within
    (stuck_inside c.args.bytes.now c.loop-at.at id c.loop-at.next c.in_err-value.ensures.none
    (λ positive within zeros. false≢true (sym c.loop-at-test.true ∙ c.ends_at.ensures.1 (positive, within, zeros)))) in
    subst (λ at. GetsStuck c.args.bytes.now c.args.start (inside id 0) at) (sym c.in_err-value.ensures.place)
    (stuck_later _ _ _ _ _ _ (reads_positions c.args.bytes.now c.args.start c.loop-at.at c.loop-at.next id c.loop-at.invariant) here))

pub loop-at-preserved : goal.loop-at-preserved
loop-at-preserved c = one_more_position _ _ _ _ _ _ c.loop-at.invariant c.in_ok-value.ensures.found
