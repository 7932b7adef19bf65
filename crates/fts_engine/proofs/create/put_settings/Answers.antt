use Rattle.std.proofs.Common.{refl}
use Rattle.fts_rowcodec.specs.Payload.{settings_payload}
use Rattle.fts_engine.proofs.Framing.{framed_size, framed_payload}
use Rattle.fts_engine.proofs.create.put_settings.Goals as goal

pub returns-clause-size : goal.returns-clause-size
returns-clause-size c = framed_size (settings_payload c.args.settings.now) c.args.frame.now c.encode_settings_into.new.buf _ c.encode_settings_into.result c.requires.room c.encode_settings_into.ensures refl

pub returns-clause-payload : goal.returns-clause-payload
returns-clause-payload c = framed_payload (settings_payload c.args.settings.now) c.args.frame.now c.encode_settings_into.new.buf _ c.encode_settings_into.result c.requires.room c.encode_settings_into.ensures refl
