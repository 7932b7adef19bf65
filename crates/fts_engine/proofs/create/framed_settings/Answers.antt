use Rattle.std.proofs.Common.{arith}
use Rattle.fts_rowcodec.proofs.Sizes.{settings_size}
use Rattle.fts_engine.proofs.Framing.{front_within}
use Rattle.fts_engine.proofs.create.framed_settings.Goals as goal

pub overflow_add-settings_size : goal.overflow_add-settings_size
overflow_add-settings_size c = omega (arith, settings_size c.args.settings.now c.requires, c.settings_size.ensures)

pub around-requires-clause-fits : goal.around-requires-clause-fits
around-requires-clause-fits c = front_within c.in_ok-bytes.bytes.len _ _ (omega (arith, settings_size c.args.settings.now c.requires, c.settings_size.ensures, c.in_ok-bytes.ensures.len))
