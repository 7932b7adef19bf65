use Rattle.std.proofs.Common.{arith}
use Rattle.fts_rowcodec.proofs.Sizes.{texts_length}
use Rattle.fts_rowcodec.proofs.measure.texts_size.Goals as goal

pub overflow_mul-result : goal.overflow_mul-result
overflow_mul-result c = omega (arith, texts_length c.args.texts.now, c.requires, c.len.ensures)

pub overflow_add-result : goal.overflow_add-result
overflow_add-result c = omega (arith, texts_length c.args.texts.now, c.requires, c.len.ensures, c.in-Some.ensures.size)

pub unreachable-requires : goal.unreachable-requires
unreachable-requires c = let none = c.in-None.ensures in omega (arith, texts_length c.args.texts.now, c.requires, none.none)

pub returns : goal.returns
returns c = omega (arith, texts_length c.args.texts.now, c.len.ensures, c.in-Some.ensures.size)
