use Rattle.std.proofs.Common.{refl}
use Rattle.fts_core_tests.proofs.client.are_committed.Goals as goal

pub returns-then-is_committed-2 : goal.returns-then-is_committed-2
returns-then-is_committed-2 c is all =
    let whole = c.in-Some.ensures all in
    let opened = c.if-is_opened.ensures refl in
    let one = c.if-is_committed.ensures refl in
    let two = c.if-is_committed-2.ensures refl in
    let first = one.1 in
    let second = two.1 in
    (one.0, two.0, cc)
