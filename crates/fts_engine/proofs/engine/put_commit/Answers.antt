use Rattle.std.proofs.Common.{refl}
use Rattle.fts_rowcodec.specs.Payload.{commit_payload}
use Rattle.fts_engine.proofs.Framing.{framed_size, framed_payload}
use Rattle.fts_engine.proofs.engine.put_commit.Goals as goal

pub returns-clause-size : goal.returns-clause-size
returns-clause-size c = framed_size (commit_payload c.args.changes.now) c.args.frame.now c.encode_commit_into.new.buf _ c.encode_commit_into.result c.requires.room c.encode_commit_into.ensures refl

pub returns-clause-payload : goal.returns-clause-payload
returns-clause-payload c = framed_payload (commit_payload c.args.changes.now) c.args.frame.now c.encode_commit_into.new.buf _ c.encode_commit_into.result c.requires.room c.encode_commit_into.ensures refl
