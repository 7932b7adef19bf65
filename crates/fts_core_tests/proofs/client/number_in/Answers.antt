use Rattle.std.proofs.Common.{refl}
use Rattle.fts_core_tests.proofs.client.number_in.Goals as goal

pub returns-then-is_opened : goal.returns-then-is_opened
returns-then-is_opened c all =
    let whole = c.in-Some.ensures all in
    let told = c.in-Some-number_of.ensures in
    let crashed = c.if-is_crashed.ensures refl in
    let opened = c.if-is_opened.ensures refl in
    let viewed = told.1 in
    (told.0, cc, told.2)
