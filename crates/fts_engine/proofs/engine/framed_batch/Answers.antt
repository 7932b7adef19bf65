use Rattle.std.proofs.Common.{ap, ◌∙◌, arith}
use Rattle.std.proofs.lemmas.List.{take_at}
use Rattle.fts_log.specs.Framing.{inner}
use Rattle.fts_engine.specs.Batch.{batch_of}
use Rattle.fts_engine.proofs.Framing.{front_within, fits_record, no_size, as_entry}
use Rattle.fts_engine.proofs.Syncing.{own_size, own_no_size}
use Rattle.fts_engine.proofs.engine.framed_batch.Goals as goal

pub put_batch-requires-clause-fits : goal.put_batch-requires-clause-fits
put_batch-requires-clause-fits g c =
    let plan = c.args.plan.now in
    fits_record (batch_of plan) c.in-Some.size (own_size plan c.nodes.result.now c.in-Some.size c.nodes.ensures (c.in-Some.ensures.some plan.through plan.synced)) c.in-Ok.ensures.fits

pub put_batch-requires-clause-room : goal.put_batch-requires-clause-room
put_batch-requires-clause-room g c =
    let plan = c.args.plan.now in
    let has = own_size plan c.nodes.result.now c.in-Some.size c.nodes.ensures (c.in-Some.ensures.some plan.through plan.synced) in
    omega (arith, has.is, c.in-Ok.ensures.room, c.deref_mut.ensures.len)

pub around-requires-clause-fits : goal.around-requires-clause-fits
around-requires-clause-fits g c =
    front_within c.in-Ok.bytes.len _ _ (omega (arith, c.in-Ok.ensures.fits, c.in-Ok.ensures.room))

pub returns-clause-framed : goal.returns-clause-framed
returns-clause-framed g c =
    let plan = c.args.plan.now in
    let has = own_size plan c.nodes.result.now c.in-Some.size c.nodes.ensures (c.in-Some.ensures.some plan.through plan.synced) in
    record {
      same = c.around.ensures
          ∙ ap inner (take_at c.put_batch.new.frame _ c.in-Ok.bytes.len (omega (arith, c.put_batch.ensures.size, c.deref_mut.ensures.len)))
          ∙ c.put_batch.ensures.payload;
      fits = fits_record (batch_of plan) c.in-Some.size has c.in-Ok.ensures.fits;
      through = c.put_batch.ensures.numbers.0;
      synced = c.put_batch.ensures.numbers.1;
    }

pub returns-in-None-clause-unframed : goal.returns-in-None-clause-unframed
returns-in-None-clause-unframed g c =
    let plan = c.args.plan.now in
    no_size c.args.log.now (batch_of plan) (own_no_size plan c.nodes.result.now c.nodes.ensures (c.in-None.ensures.none plan.through plan.synced))

pub returns-in-Err-clause-unframed : goal.returns-in-Err-clause-unframed
returns-in-Err-clause-unframed g c =
    let plan = c.args.plan.now in
    let has = own_size plan c.nodes.result.now c.in-Some.size c.nodes.ensures (c.in-Some.ensures.some plan.through plan.synced) in
    as_entry c.args.log.now (batch_of plan) c.in-Some.size has.is c.in-Err.error c.in-Err.ensures.unframed
