use Rattle.std.proofs.Common.{arith}
use Rattle.fts_rowcodec.proofs.Sizes.{settings_size, settings_length}
use Rattle.fts_rowcodec.proofs.measure.settings_size.Goals as goal

pub unreachable-requires : goal.unreachable-requires
unreachable-requires c = let none = c.in-None.ensures in omega (arith, none.none, settings_size c.args.settings.now c.requires, settings_length c.args.settings.now)

pub overflow_add-result-in-Some : goal.overflow_add-result-in-Some
overflow_add-result-in-Some c = omega (arith, settings_size c.args.settings.now c.requires, settings_length c.args.settings.now, c.len.ensures, c.in-Some.ensures.size)

pub returns : goal.returns
returns c = omega (arith, settings_length c.args.settings.now, c.len.ensures, c.in-Some.ensures.size)
