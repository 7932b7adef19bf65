use Rattle.std.proofs.Common.{◌≡◌, ℕ, List, [], ◌+◌, length, ap, sym, subst, ◌∙◌, arith, get_or}
use Rattle.fts_commits.specs.Commit.{Commit}
use Rattle.fts_types.specs.declared.settings.Settings.{Settings}
use Rattle.fts_log.specs.Record.{gate_at}
use Rattle.fts_log.specs.Records.{records_magic}
use Rattle.fts_log.proofs.Reading.{as_many}
use Rattle.fts_rowcodec.specs.Payload.{IsWritten, commit_payload}
use Rattle.fts_engine.specs.Loading.{IsNoCommit}
use Rattle.fts_engine.specs.Restoring.{restoring_settings, restoring_rows, restoring_commits}
use Rattle.fts_engine.proofs.Loading.{wrong_commit, wrong_accepted}
use Rattle.fts_engine.proofs.Covering.{covered_more}
use Rattle.fts_engine.proofs.load.cover_commit.Goals as goal

pub returns-in-Err-clause-damaged : goal.returns-in-Err-clause-damaged
returns-in-Err-clause-damaged g c at e told all read j holds was =
    let r = c.args.restoring.now in
    let k = restoring_commits r + 1 in
    let columns : c.len-columns.result ≡ length (restoring_settings r).columns = c.len-columns.ensures ∙ ap (λ (s : Settings). length s.columns) c.settings.ensures in
    let found = c.in-Err.ensures.damaged at (let failed = e in cc) told all holds in
    wrong_commit (records_magic c.args.rows.now) all k at (restoring_settings r) (restoring_rows r) was.of_rows
    (omega (arith, as_many all c.args.rows.now holds, c.requires.within, c.requires.next))
    (found.0 ∙ ap (gate_at (records_magic c.args.rows.now) all) c.requires.next)
    (subst (λ (n : ℕ). IsNoCommit (length (restoring_settings r).columns) (get_or all n [])) c.requires.next
    (subst (λ (n : ℕ). IsNoCommit n (get_or all c.args.k [])) columns found.1))

pub returns-in-Ok-replay-clause-covered : goal.returns-in-Ok-replay-clause-covered
returns-in-Ok-replay-clause-covered g c told all read j holds was =
    let r = c.args.restoring.now in
    let columns : c.len-columns.result ≡ length (restoring_settings r).columns = c.len-columns.ensures ∙ ap (λ (s : Settings). length s.columns) c.settings.ensures in
    covered_more all read j r c.replay.new.self was (omega (arith, as_many all c.args.rows.now holds, c.requires.within, c.requires.next)) c.as_slice.result.now
    (subst (λ (n : ℕ). IsWritten n c.as_slice.result.now) columns (subst (λ (commit : Commit). IsWritten c.len-columns.result commit) (sym c.as_slice.ensures) c.in-Ok.ensures.commit))
    (ap commit_payload c.as_slice.ensures ∙ c.in-Ok.ensures.payload told all holds ∙ ap (λ (n : ℕ). get_or all n []) c.requires.next)
    c.in-Ok-replay.ensures.rows c.in-Ok-replay.ensures.settings c.in-Ok-replay.ensures.commits c.in-Ok-replay.ensures.covers

pub returns-clause-damaged : goal.returns-clause-damaged
returns-clause-damaged g c at e told all read j holds was =
    let r = c.args.restoring.now in
    let k = restoring_commits r + 1 in
    let columns : c.len-columns.result ≡ length (restoring_settings r).columns = c.len-columns.ensures ∙ ap (λ (s : Settings). length s.columns) c.settings.ensures in
    let told_place : c.place_of.result ≡ at = (let same = e in cc) in
    let place : at ≡ gate_at (records_magic c.args.rows.now) all k =
    sym told_place ∙ c.place_of.ensures told all ((c.in-Ok.ensures.reads.read told).stays all holds)
    ∙ ap (λ (magic : List ℕ). gate_at magic all c.args.k) c.in-Ok.ensures.reads.same.magic ∙ ap (gate_at (records_magic c.args.rows.now) all) c.requires.next in
    wrong_accepted (records_magic c.args.rows.now) all k at (restoring_settings r) (restoring_rows r) was.of_rows
    (omega (arith, as_many all c.args.rows.now holds, c.requires.within, c.requires.next)) place c.as_slice.result.now c.in-Err-Refused.field-0
    (subst (λ (n : ℕ). IsWritten n c.as_slice.result.now) columns (subst (λ (commit : Commit). IsWritten c.len-columns.result commit) (sym c.as_slice.ensures) c.in-Ok.ensures.commit))
    (ap commit_payload c.as_slice.ensures ∙ c.in-Ok.ensures.payload told all holds ∙ ap (λ (n : ℕ). get_or all n []) c.requires.next)
    (λ memory. let is = c.in-Err-Refused.field-0-is in cc) c.in-Err-Refused.ensures.refused
