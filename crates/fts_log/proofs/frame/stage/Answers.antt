use Rattle.std.proofs.Common.{length, ◌-◌, refl}
use Rattle.fts_log.proofs.Framing.{staged_around}
use Rattle.fts_log.proofs.frame.stage.Goals as goal

pub returns : goal.returns
returns c =
    let last = length c.args.bytes.now - 1 in
    staged_around c.args.bytes.now c.write_u32.new.buf _ last (last - 4) c.requires.room refl refl c.write_u32.ensures refl
