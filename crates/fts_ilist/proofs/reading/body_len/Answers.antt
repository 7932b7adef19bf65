use Rattle.std.proofs.Common.{arith}
use Rattle.fts_ilist.proofs.Ends.{none_behind, ends_next}
use Rattle.fts_ilist.proofs.reading.body_len.Goals as goal

pub returns-then-passed-lt-LANES : goal.returns-then-passed-lt-LANES
returns-then-passed-lt-LANES c =
    let passed = c.bytes_before_end-passed in
    ends_next c.args.bytes.now passed.result (omega arith) passed.ensures.none (passed.ensures.some c.if-passed-lt-LANES.true)

pub far_body_len-requires-clause-passed : goal.far_body_len-requires-clause-passed
far_body_len-requires-clause-passed c =
    let passed = c.bytes_before_end-passed in
    none_behind c.args.bytes.now 16 (omega arith) (λ j less. passed.ensures.none j (omega (arith, less)))
