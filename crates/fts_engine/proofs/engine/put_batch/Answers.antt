use Rattle.std.proofs.Common.{refl, subst, take, drop, ◌-◌, length, arith}
use Rattle.fts_codec.specs.Writing.{Puts}
use Rattle.fts_entries.specs.Entry.{IndexEntry}
use Rattle.fts_ixcodec.specs.Payload.{entry_payload}
use Rattle.fts_engine.specs.Batch.{batch_of}
use Rattle.fts_engine.proofs.Framing.{framed_payload}
use Rattle.fts_engine.proofs.Syncing.{same_entry}
use Rattle.fts_engine.proofs.engine.put_batch.Goals as goal

pub returns-clause-payload : goal.returns-clause-payload
returns-clause-payload c =
    let plan = c.args.plan.now in
    let put = subst (λ (e : IndexEntry). Puts (entry_payload e) (take (length c.args.frame.now - 4) (drop 4 c.args.frame.now)) c.encode_sealed_into.new.buf c.encode_sealed_into.result)
    (same_entry plan c.through.result c.synced.result c.nodes.result.now c.through.ensures c.synced.ensures c.nodes.ensures) c.encode_sealed_into.ensures in
    framed_payload (entry_payload (batch_of plan)) c.args.frame.now c.encode_sealed_into.new.buf _ c.encode_sealed_into.result c.requires.room put refl

pub returns-clause-numbers : goal.returns-clause-numbers
returns-clause-numbers c = (omega (arith, c.through.type_inv, c.through.ensures), omega (arith, c.synced.type_inv, c.synced.ensures))
