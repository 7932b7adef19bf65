use Rattle.std.proofs.Common.{◌≡◌, ℕ, List, sym, ap, ◌∙◌, arith}
use Rattle.std.specs.Prelude.{Err}
use Rattle.fts_log.specs.Record.{gate_at}
use Rattle.fts_log.specs.Records.{records_magic}
use Rattle.fts_log.proofs.Reading.{as_many}
use Rattle.fts_engine.proofs.Loading.{wrong_settings, wrong_long_settings, settings_begin}
use Rattle.fts_engine.proofs.load.load_settings.Goals as goal

pub returns-then-size_of-gt-MOST_OF_SETTINGS-clause-damaged : goal.returns-then-size_of-gt-MOST_OF_SETTINGS-clause-damaged
returns-then-size_of-gt-MOST_OF_SETTINGS-clause-damaged g c at e told all holds =
    let records = c.args.records.now in
    let told_place : c.place_of-at.result ≡ at = (let same = e in cc) in
    wrong_long_settings (records_magic records) all at (omega (arith, as_many all records holds, c.requires))
    (sym told_place ∙ c.place_of-at.ensures told all holds)
    (omega (arith, c.size_of.ensures told all holds, c.if-size_of-gt-MOST_OF_SETTINGS.true))

pub returns-in-Ok-clause-loaded : goal.returns-in-Ok-clause-loaded
returns-in-Ok-clause-loaded g c told all holds =
    settings_begin all c.deref.result.now c.in-Ok.settings (omega (arith, as_many all c.args.records.now holds, c.requires))
    (c.deref.ensures.value ∙ c.in_ok-payload.ensures.entry told all holds) c.in-Ok.ensures.settings.0 c.in-Ok.ensures.settings.1

pub returns-clause-damaged : goal.returns-clause-damaged
returns-clause-damaged g c at e told all holds =
    let records = c.args.records.now in
    let told_place : c.place_of.result ≡ at = (let same = e in cc) in
    let place : at ≡ gate_at (records_magic records) all 0 =
    sym told_place ∙ c.place_of.ensures told all ((c.in_ok-payload.ensures.read told).stays all holds)
    ∙ ap (λ (magic : List ℕ). gate_at magic all 0) c.in_ok-payload.ensures.same.magic in
    wrong_settings (records_magic records) all at c.deref.result.now c.decode_settings.result (omega (arith, as_many all records holds, c.requires)) place
    (c.deref.ensures.value ∙ c.in_ok-payload.ensures.entry told all holds) c.decode_settings.ensures.exact _ (c.in-Err-Bad.is ∙ ap Err c.in-Err-Bad.field-0-is)
