use Rattle.std.proofs.Common.{◌≡◌, subst}
use Rattle.fts_engine.proofs.Gates.{fault_damaged}
use Rattle.fts_engine.specs.Opening.{IsDamaged}
use Rattle.fts_engine.proofs.open.tell_damage.Goals as goal

pub returns-in-Ok-true-clause-damaged : goal.returns-in-Ok-true-clause-damaged
returns-in-Ok-true-clause-damaged g c place e told =
    let same : c.args.at ≡ place = (let told_place = e in cc) in
    let file = g.D.Disk.seen c.args.device 0 in
    subst (λ at. IsDamaged at file) same
    (fault_damaged c.args.at file (c.requires.fault told) (c.requires.none told) ((c.in-Ok-true.ensures.begun told).0 c.in-Ok-true.field-0-test))
