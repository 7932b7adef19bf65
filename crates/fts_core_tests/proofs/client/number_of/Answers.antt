use Rattle.std.proofs.Common.{refl}
use Rattle.fts_core_tests.proofs.client.number_of.Goals as goal

pub returns-in-Viewed-Ok : goal.returns-in-Viewed-Ok
returns-in-Viewed-Ok c =
    let is = c.in-Viewed-Ok.is in
    let result = c.in-Viewed-Ok.result-is in
    let view = c.in-Viewed-Ok.view-is in
    (c.in-Viewed-Ok.view, cc, refl)
