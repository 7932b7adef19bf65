use Rattle.std.proofs.Common.{arith}
use Rattle.fts_parts_tests.proofs.ixcodec.is_written.Goals as goal

pub encode_sealed_into-written-requires-clause-fits : goal.encode_sealed_into-written-requires-clause-fits
encode_sealed_into-written-requires-clause-fits c =
    let has = c.in-Some.ensures.some 1 1 in
    record { words = has.words; short = (let is = has.is in omega (arith, is, c.if-size-gt36.false)) }

pub encode_sealed_into-written-requires-clause-room : goal.encode_sealed_into-written-requires-clause-room
encode_sealed_into-written-requires-clause-room c = omega (arith, (c.in-Some.ensures.some 1 1).is, c.if-size-gt36.false)
