use Rattle.std.proofs.Common.{◌≡◌, ℕ, List, [], length, ap, sym, subst, ◌∙◌, arith, get_or}
use Rattle.fts_commits.specs.Commit.{Commit, after_commit}
use Rattle.fts_types.specs.declared.limits.Limits.{Limits}
use Rattle.fts_types.specs.declared.settings.Settings.{Settings}
use Rattle.fts_log.specs.Record.{gate_at}
use Rattle.fts_log.specs.Records.{records_magic}
use Rattle.fts_log.proofs.Reading.{as_many}
use Rattle.fts_rowcodec.specs.Payload.{IsWritten, commit_payload}
use Rattle.fts_rows.specs.Refusal.{IsNoPlan}
use Rattle.fts_engine.specs.Loading.{IsNoCommit}
use Rattle.fts_engine.specs.Kept.{kept_settings, kept_rows}
use Rattle.fts_engine.proofs.Loading.{wrong_commit, wrong_accepted}
use Rattle.fts_engine.proofs.Covering.{loaded_more}
use Rattle.fts_engine.proofs.load.load_commit.Goals as goal

pub returns-in-Err-clause-damaged : goal.returns-in-Err-clause-damaged
returns-in-Err-clause-damaged g c at e told all read holds loaded =
    let kept = c.args.kept.now in
    let columns : c.len-columns.result ≡ length (kept_settings kept).columns = c.len-columns.ensures ∙ ap (λ (s : Settings). length s.columns) c.settings.ensures.settings in
    let found = c.in-Err.ensures.damaged at (let failed = e in cc) told all holds in
    wrong_commit (records_magic c.args.records.now) all c.args.k at (kept_settings kept) (kept_rows kept) loaded.of_rows
    (omega (arith, as_many all c.args.records.now holds, c.requires)) found.0
    (subst (λ (n : ℕ). IsNoCommit n (get_or all c.args.k [])) columns found.1)

pub returns-in-Ok-replay-clause-loaded : goal.returns-in-Ok-replay-clause-loaded
returns-in-Ok-replay-clause-loaded g c told all read holds loaded =
    let kept = c.args.kept.now in
    let columns : c.len-columns.result ≡ length (kept_settings kept).columns = c.len-columns.ensures ∙ ap (λ (s : Settings). length s.columns) c.settings.ensures.settings in
    loaded_more all read c.args.k kept c.replay.new.self loaded (omega (arith, as_many all c.args.records.now holds, c.requires)) c.as_slice.result.now
    (subst (λ (n : ℕ). IsWritten n c.as_slice.result.now) columns (subst (λ (commit : Commit). IsWritten c.len-columns.result commit) (sym c.as_slice.ensures) c.in-Ok.ensures.commit))
    (ap commit_payload c.as_slice.ensures ∙ c.in-Ok.ensures.payload told all holds)
    c.in-Ok-replay.ensures.rows c.in-Ok-replay.ensures.settings c.in-Ok-replay.ensures.limits c.in-Ok-replay.ensures.index

pub returns-clause-damaged : goal.returns-clause-damaged
returns-clause-damaged g c at e told all read holds loaded =
    let kept = c.args.kept.now in
    let columns : c.len-columns.result ≡ length (kept_settings kept).columns = c.len-columns.ensures ∙ ap (λ (s : Settings). length s.columns) c.settings.ensures.settings in
    let told_place : c.place_of.result ≡ at = (let same = e in cc) in
    let place : at ≡ gate_at (records_magic c.args.records.now) all c.args.k =
    sym told_place ∙ c.place_of.ensures told all ((c.in-Ok.ensures.reads.read told).stays all holds)
    ∙ ap (λ (magic : List ℕ). gate_at magic all c.args.k) c.in-Ok.ensures.reads.same.magic in
    wrong_accepted (records_magic c.args.records.now) all c.args.k at (kept_settings kept) (kept_rows kept) loaded.of_rows
    (omega (arith, as_many all c.args.records.now holds, c.requires)) place c.as_slice.result.now c.in-Err-Refused.field-0
    (subst (λ (n : ℕ). IsWritten n c.as_slice.result.now) columns (subst (λ (commit : Commit). IsWritten c.len-columns.result commit) (sym c.as_slice.ensures) c.in-Ok.ensures.commit))
    (ap commit_payload c.as_slice.ensures ∙ c.in-Ok.ensures.payload told all holds)
    (λ memory. let is = c.in-Err-Refused.field-0-is in cc)
    (subst (λ (limits : Limits). IsNoPlan (after_commit limits c.as_slice.result.now (kept_rows kept)) c.in-Err-Refused.field-0) loaded.limits c.in-Err-Refused.ensures.refused)
