use Rattle.std.proofs.Common.{arith}
use Rattle.fts_types.specs.Rules.{rules_of}
use Rattle.fts_ixcodec.specs.Reading.{entry_of}
use Rattle.fts_ixcodec.specs.Seen.{seen}
use Rattle.fts_ixcodec.proofs.Entries.{entry_takes, same_entry, never_refused}
use Rattle.fts_ixcodec.proofs.Places.{entry_place, left_told, told}
use Rattle.fts_ixcodec.proofs.decoding.decode.Goals as goal

pub overflow_sub-at : goal.overflow_sub-at
overflow_sub-at c =
    let read = left_told c.in-Err-Bad.field-0 c.in-Err-Bad.left (entry_of (rules_of c.args.settings.now) c.args.bytes.now) c.in-Err-Bad.field-0-is c.in-Err-Bad.ensures in
    omega (arith, (entry_place (rules_of c.args.settings.now) c.args.bytes.now c.in-Err-Bad.left (λ i. omega (arith, c.type_inv.bytes i)) read).0)

pub returns-in-Ok-clause-entry : goal.returns-in-Ok-clause-entry
returns-in-Ok-clause-entry c = entry_takes (rules_of c.args.settings.now) c.args.bytes.now (seen c.in-Ok.entry) (λ i. omega (arith, c.type_inv.bytes i)) c.in-Ok.ensures

pub returns-in-Ok-clause-exact : goal.returns-in-Ok-clause-exact
returns-in-Ok-clause-exact c entry is e = same_entry (rules_of c.args.settings.now) c.args.bytes.now (seen c.in-Ok.entry) entry c.in-Ok.ensures is e

pub returns-in-Err-Bad-clause-exact : goal.returns-in-Err-Bad-clause-exact
returns-in-Err-Bad-clause-exact c entry is e =
    let read = left_told c.in-Err-Bad.field-0 c.in-Err-Bad.left (entry_of (rules_of c.args.settings.now) c.args.bytes.now) c.in-Err-Bad.field-0-is c.in-Err-Bad.ensures in
    never_refused (rules_of c.args.settings.now) c.args.bytes.now c.in-Err-Bad.left entry read is e

pub returns-in-Err-Bad-clause-cause : goal.returns-in-Err-Bad-clause-cause
returns-in-Err-Bad-clause-cause c =
    let read = left_told c.in-Err-Bad.field-0 c.in-Err-Bad.left (entry_of (rules_of c.args.settings.now) c.args.bytes.now) c.in-Err-Bad.field-0-is c.in-Err-Bad.ensures in
    told (rules_of c.args.settings.now) c.args.bytes.now c.in-Err-Bad.left (entry_place (rules_of c.args.settings.now) c.args.bytes.now c.in-Err-Bad.left (λ i. omega (arith, c.type_inv.bytes i)) read)
