use Rattle.std.proofs.Common.{arith, inl}
use Rattle.fts_rowcodec.specs.Grammar.{IsSettingsFault}
use Rattle.fts_rowcodec.specs.Reading.{settings_of}
use Rattle.fts_rowcodec.proofs.SettingsRead.{settings_take, settings_same, settings_none}
use Rattle.fts_rowcodec.proofs.Places.{settings_place, left_told, told}
use Rattle.fts_rowcodec.proofs.settings.decode_settings.Goals as goal

pub overflow_sub-at : goal.overflow_sub-at
overflow_sub-at c =
    let read = left_told c.in-Err-Bad.field-0 c.in-Err-Bad.left (settings_of c.args.bytes.now) c.in-Err-Bad.field-0-is c.in-Err-Bad.ensures in
    omega (arith, (settings_place c.args.bytes.now c.in-Err-Bad.left (λ i. omega (arith, c.type_inv.bytes i)) read).0)

pub returns-in-Ok-clause-settings : goal.returns-in-Ok-clause-settings
returns-in-Ok-clause-settings c = settings_take c.args.bytes.now c.in-Ok.settings (λ i. omega (arith, c.type_inv.bytes i)) c.in-Ok.ensures

pub returns-in-Ok-clause-exact : goal.returns-in-Ok-clause-exact
returns-in-Ok-clause-exact c settings are e = let same = settings_same c.args.bytes.now c.in-Ok.settings settings c.in-Ok.ensures are e in inl cc

pub returns-in-Err-Bad-clause-exact : goal.returns-in-Err-Bad-clause-exact
returns-in-Err-Bad-clause-exact c settings are e =
    let read = left_told c.in-Err-Bad.field-0 c.in-Err-Bad.left (settings_of c.args.bytes.now) c.in-Err-Bad.field-0-is c.in-Err-Bad.ensures in
    absurd (settings_none c.args.bytes.now c.in-Err-Bad.left settings read are e)

pub returns-in-Err-Bad-clause-cause : goal.returns-in-Err-Bad-clause-cause
returns-in-Err-Bad-clause-cause c =
    let read = left_told c.in-Err-Bad.field-0 c.in-Err-Bad.left (settings_of c.args.bytes.now) c.in-Err-Bad.field-0-is c.in-Err-Bad.ensures in
    told IsSettingsFault c.args.bytes.now c.in-Err-Bad.left (settings_place c.args.bytes.now c.in-Err-Bad.left (λ i. omega (arith, c.type_inv.bytes i)) read)
