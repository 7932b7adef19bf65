use Rattle.std.proofs.Common.{ap, ◌∙◌, arith}
use Rattle.std.proofs.lemmas.List.{take_at}
use Rattle.fts_log.specs.Framing.{inner}
use Rattle.fts_index.specs.Passing.{step_entry}
use Rattle.fts_engine.proofs.Framing.{front_within, fits_record, no_size, as_entry}
use Rattle.fts_engine.proofs.optimize.framed_step.Goals as goal

pub put_step-requires-clause-fits : goal.put_step-requires-clause-fits
put_step-requires-clause-fits g c = fits_record (step_entry c.args.plan.now) c.in-Some.size c.in-Some.ensures.some c.in-Ok.ensures.fits

pub put_step-requires-clause-room : goal.put_step-requires-clause-room
put_step-requires-clause-room g c =
    omega (arith, c.in-Some.ensures.some.is, c.in-Ok.ensures.room, c.deref_mut.ensures.len)

pub around-requires-clause-fits : goal.around-requires-clause-fits
around-requires-clause-fits g c =
    front_within c.in-Ok.bytes.len _ _ (omega (arith, c.in-Ok.ensures.fits, c.in-Ok.ensures.room))

pub returns-clause-framed : goal.returns-clause-framed
returns-clause-framed g c =
    record {
      same = c.around.ensures
          ∙ ap inner (take_at c.put_step.new.frame _ c.in-Ok.bytes.len (omega (arith, c.put_step.ensures.size, c.deref_mut.ensures.len)))
          ∙ c.put_step.ensures.payload;
      fits = fits_record (step_entry c.args.plan.now) c.in-Some.size c.in-Some.ensures.some c.in-Ok.ensures.fits;
    }

pub returns-in-None-clause-unframed : goal.returns-in-None-clause-unframed
returns-in-None-clause-unframed g c = no_size c.args.log.now (step_entry c.args.plan.now) c.in-None.ensures.none

pub returns-in-Err-clause-unframed : goal.returns-in-Err-clause-unframed
returns-in-Err-clause-unframed g c =
    as_entry c.args.log.now (step_entry c.args.plan.now) c.in-Some.size c.in-Some.ensures.some.is c.in-Err.error c.in-Err.ensures.unframed
