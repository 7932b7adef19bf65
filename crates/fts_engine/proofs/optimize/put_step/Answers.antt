use Rattle.std.proofs.Common.{refl}
use Rattle.fts_ixcodec.specs.Payload.{entry_payload}
use Rattle.fts_index.specs.Passing.{step_entry}
use Rattle.fts_engine.proofs.Framing.{framed_payload}
use Rattle.fts_engine.proofs.optimize.put_step.Goals as goal

pub returns-clause-payload : goal.returns-clause-payload
returns-clause-payload c =
    framed_payload (entry_payload (step_entry c.args.plan.now)) c.args.frame.now c.encode_step_into.new.buf _ c.encode_step_into.result c.requires.room c.encode_step_into.ensures refl
