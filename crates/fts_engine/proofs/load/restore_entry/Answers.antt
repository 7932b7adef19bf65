use Rattle.std.proofs.Common.{◌≡◌, ℕ, ◌+◌, length, refl, List, [], ◌∷◌, ◌++◌, ap, sym, ◌∙◌, arith, take, get_or, subst}
use Rattle.std.proofs.lemmas.List.{take_more}
use Rattle.std.specs.Prelude.{Bool, true, false, Result, Ok, Err, OnOk}
use Rattle.fts_engine.specs.declared.error.ReadError.{ReadError}
use Rattle.fts_engine.specs.Loading.{StaysRestored}
use Rattle.fts_log.proofs.Reading.{as_many}
use Rattle.fts_types.specs.declared.settings.Settings.{Settings}
use Rattle.fts_types.specs.Rules.{rules_of}
use Rattle.fts_ixcodec.specs.Payload.{entry_payload, IsEntry}
use Rattle.fts_engine.specs.ReadEntry.{entry_read}
use Rattle.fts_engine.proofs.Covering.{wrong_payload, wrong_entry, restored_before, taken_last}
use Rattle.fts_engine.proofs.load.restore_entry.Goals as goal

pub restore_read-requires-clause-written : goal.restore_read-requires-clause-written
restore_read-requires-clause-written g c =
    subst (λ (s : Settings). IsEntry (rules_of s) (entry_read c.in-Ok-Some.entry)) c.settings.ensures (c.in-Ok-Some.ensures.entry c.in-Ok-Some.entry (let is = c.in-Ok-Some.entry-is in cc)).0

pub returns-in-Ok-Some-clause-restored : goal.returns-in-Ok-Some-clause-restored
returns-in-Ok-Some-clause-restored g c e told told' all read holds holds' was =
    let entry = c.in-Ok-Some.entry in
    let j = c.args.j in
    let found = c.in-Ok-Some.ensures.entry entry (let is = c.in-Ok-Some.entry-is in cc) in
    let spelled : get_or read j [] ≡ entry_payload (entry_read entry) = sym (c.in-Ok.ensures.entry told' read holds') ∙ sym c.deref.ensures.value ∙ found.1 in
    c.restore_read.ensures.restored (let same = e in cc) told all read j holds was
    (take_more read j [] (omega (arith, as_many read c.args.entries.now holds', c.requires.within)) ∙ ap (λ (payload : List ℕ). take j read ++ payload ∷ []) spelled)

pub returns-in-Ok-Some-clause-refused : goal.returns-in-Ok-Some-clause-refused
returns-in-Ok-Some-clause-refused g c e told told' all read holds holds' was =
    let entry = c.in-Ok-Some.entry in
    let j = c.args.j in
    let found = c.in-Ok-Some.ensures.entry entry (let is = c.in-Ok-Some.entry-is in cc) in
    let spelled : get_or read j [] ≡ entry_payload (entry_read entry) = sym (c.in-Ok.ensures.entry told' read holds') ∙ sym c.deref.ensures.value ∙ found.1 in
    let refused = c.restore_read.ensures.refused (let same = e in cc) told all read j holds was in (
      refused.0,
      wrong_entry all read j c.args.restoring.now was (omega (arith, as_many read c.args.entries.now holds', c.requires.within)) (entry_read entry)
          (subst (λ (s : Settings). IsEntry (rules_of s) (entry_read entry)) c.settings.ensures found.0) spelled refused.1,
    )

-- what holds at both answers holds at each that is no error
on_both : (result : Result Bool ReadError) (P : Type 0) → (result ≡ Ok true → P) → (result ≡ Ok false → P) → OnOk result P
on_both (Ok true) P holds holds' = holds refl
on_both (Ok false) P holds holds' = holds' refl
on_both (Err error) P holds holds' = tt

pub returns-in-Ok-Some-clause-stays : goal.returns-in-Ok-Some-clause-stays
returns-in-Ok-Some-clause-stays g c =
    let payload = entry_payload (entry_read c.in-Ok-Some.entry) in
    on_both c.restore_read.result (StaysRestored c.args.rows.now c.args.restoring.now c.restore_read.new.restoring)
    (λ e told all holds was.
    let front = take was.1 was.0 in (
      front ++ payload ∷ [],
      length front + 1,
      c.restore_read.ensures.restored e told all (front ++ payload ∷ []) (length front) holds
          (restored_before all was.0 was.1 c.args.restoring.now was.2 payload) (taken_last front payload),
    ))
    (λ e told all holds was. (was.0, was.1, (c.restore_read.ensures.refused e told all was.0 was.1 holds was.2).0))

pub returns-in-Ok-Some-clause-damaged : goal.returns-in-Ok-Some-clause-damaged
returns-in-Ok-Some-clause-damaged g c at e told all holds was = c.restore_read.ensures.damaged at e told all was.0 was.1 holds was.2

pub returns-in-Ok-None-clause-refused : goal.returns-in-Ok-None-clause-refused
returns-in-Ok-None-clause-refused g c e told told' all read holds holds' was =
    let j = c.args.j in (
      was,
      wrong_payload all read j c.args.restoring.now was (omega (arith, as_many read c.args.entries.now holds', c.requires.within))
          (λ entry is spelled whole sound same come.
          c.in-Ok-None.ensures.none (let none = c.in-Ok-None.is in cc) entry (subst (λ (s : Settings). IsEntry (rules_of s) entry) (sym c.settings.ensures) is) (c.deref.ensures.value ∙ c.in-Ok.ensures.entry told' read holds' ∙ spelled) _ _ come),
    )
