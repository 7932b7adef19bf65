-- What a commit makes of an engine that stands for a state.
use Rattle.std.proofs.Common.{◌≡◌, ℕ, ◌+◌, ◌-◌, ◌<◌, List, [], ◌∷◌, ◌++◌, refl, ap, subst, sym, ◌∙◌, length, map, arith, inl, inr, length-append}
use Rattle.std.proofs.lemmas.List.{map-append, length-map}
use Rattle.std.proofs.lemmas.List.Elements.{All-push}
use Rattle.std.proofs.lemmas.Bool.{ltb-true, false_from_ne_true}
use Rattle.std.specs.Prelude.{Bool, true, false, nat_lt, Result, Ok, Some, None}
use Rattle.fts_disk.specs.Device.{Files}
use Rattle.fts_disk.specs.Crash.{Images}
use Rattle.fts_disk.specs.declared.disk.Disk.{Ghosts}
use Rattle.fts_types.specs.declared.limits.Limits.{Limits}
use Rattle.fts_types.specs.declared.settings.Settings.{Settings}
use Rattle.fts_types.specs.Rules.{rules_of}
use Rattle.fts_types.specs.Limits.{standard_limits}
use Rattle.fts_commits.specs.Commit.{Commit, Rows, after_commit, replay, no_rows}
use Rattle.fts_commits.specs.Fits.{CanCommit}
use Rattle.fts_meaning.specs.Leaf.{Leaf}
use Rattle.fts_meaning.specs.View.{View, view_of}
use Rattle.fts_log.specs.Record.{IsLog, IsLogOfEither, log_end}
use Rattle.fts_log.specs.Crash.{IsBeforeOrAfter}
use Rattle.fts_log.specs.Log as log
use Rattle.fts_log.specs.Log.{StandsFor, device_of, magic_of, limit_of, count_of, end_of}
use Rattle.fts_log.specs.Frame.{payload_of}
use Rattle.fts_engine.specs.Unframed.{end_behind}
use Rattle.fts_log.specs.declared.frame.Framed.{Framed}
use Rattle.fts_log.specs.declared.log.Log.{Log}
use Rattle.fts_log.proofs.Bytes.{length-front-push}
use Rattle.fts_rowcodec.specs.Payload.{commit_payload, settings_payload, IsWritten}
use Rattle.fts_entries.specs.Entry.{IndexEntry, IndexState}
use Rattle.fts_entries.specs.Exact.{IsExact}
use Rattle.fts_ixcodec.specs.Payload.{entry_payload}
use Rattle.fts_steps.specs.State.{State, payloads, index_payloads, rows_magic, index_magic, end_after, with_commits, turns_of, IsSound, HasEntries, IsRight}
use Rattle.fts_steps.specs.Running.{Running}
use Rattle.fts_steps.proofs.Growing.{entries_stay}
use Rattle.fts_steps.specs.Crash.{MayHold}
use Rattle.fts_steps.specs.Step.{Answer, to_commit, committed, full, plain_answer, state_view, changes_of, is_disk_fault, MayAnswer}
use Rattle.fts_commits.specs.declared.refusal.Refusal.{Refusal}
use Rattle.fts_rows.specs.declared.error.PlanError.{PlanError}
use Rattle.fts_rows.specs.declared.error.PlanError.TheVariants.{NoMemory, Refused}
use Rattle.fts_rows.specs.Refusal.{IsNoPlan}
use Rattle.fts_engine.specs.Refusing.{refusal_answer}
use Rattle.fts_engine.specs.declared.engine.Engine.{Engine}
use Rattle.fts_engine.specs.Bounds.{AreWithin}
use Rattle.fts_engine.specs.Kept.{kept_settings, kept_rows, kept_limits}
use Rattle.fts_engine.specs.Stands.{Keeps, KeepsLog, Holds, OnRows, OnIndex, engine_limits}
use Rattle.fts_engine.proofs.Accepting.{accepted_more, replay_accepted, AreAccepted-push}
use Rattle.fts_engine.proofs.Fitting.{accepted_fits, replay_fits}

-- the entries of a state with one commit more
pub payloads-push : (state : State) (commit : Commit) → payloads (with_commits state (commit ∷ [])) ≡ payloads state ++ commit_payload commit ∷ []
payloads-push state commit = ap (λ (tail : List (List ℕ)). settings_payload state.settings ∷ tail) (map-append commit_payload state.commits (commit ∷ []))

-- a commit that the rows accept is sound behind a sound state
pub sound-push : (state : State) (commit : Commit) (after : Rows) → IsSound state → IsWritten (length state.settings.columns) commit
    → after_commit standard_limits commit (replay state.commits) ≡ Ok after → IsSound (with_commits state (commit ∷ []))
sound-push state commit after sound written ok = record {
  settings = sound.settings;
  written = All-push (IsWritten (length state.settings.columns)) state.commits commit sound.written written;
  accepted = AreAccepted-push no_rows state.commits commit sound.accepted (rw ok refl);
}

module _ (running : Running) (commit : Commit) (limits : Limits) (after : Rows) (going : running.stopped ≡ None)
    (ok : after_commit limits commit (replay running.state.commits) ≡ Ok after) where
  answered : (past : Bool) → nat_lt limits.log_bytes (end_after running.state commit) ≡ past
      → plain_answer limits running (to_commit commit) ≡ Some (elim past [ true ↦ full (end_after running.state commit) | false ↦ committed (length running.state.commits + 1) ])
  answered true is = rw (going, ok, is) refl
  answered false is = rw (going, ok, is) refl

  pub is_full : limits.log_bytes < end_after running.state commit → plain_answer limits running (to_commit commit) ≡ Some (full (end_after running.state commit))
  is_full past = answered true (grind (arith, past))

  pub is_committed : (limits.log_bytes < end_after running.state commit → ⊥) → plain_answer limits running (to_commit commit) ≡ Some (committed (length running.state.commits + 1))
  is_committed within = answered false (false_from_ne_true _ (λ past. within (ltb-true limits.log_bytes _ past)))

-- ---- one log

module _ {D : Type 0} {disk : Ghosts D} (magic : List ℕ) (entries : List (List ℕ)) (limit : ℕ) (old : Log D disk) (keeps : KeepsLog magic entries limit old) where
  module _ (framed : Framed) (payload : List ℕ) (is : payload_of framed ≡ payload) where
    -- the end that the log computes is that of the entries and one more
    pub same_end : log.end_after old framed ≡ log_end magic (entries ++ payload ∷ [])
    same_end =
        let ended = keeps.«end» in
        let long : length (payload_of framed) ≡ length payload = ap length is in
        let pushed = length-front-push magic entries payload in
        omega (arith, ended, long, pushed)

    -- an end that is not past the log's limit is not past the engine's
    pub not_past : (limit_of old < log.end_after old framed → ⊥) → limit < log_end magic (entries ++ payload ∷ []) → ⊥
    not_past within past =
        let same = same_end in
        let limited = keeps.limited in
        within (omega (arith, same, limited, past))

    -- it has one entry more
    pub one_more : (new : Log D disk) (more : List (List ℕ)) → more ≡ entries ++ payload ∷ [] → magic_of new ≡ magic_of old → limit_of new ≡ limit_of old
        → count_of new ≡ count_of old + 1 → end_of new ≡ log.end_after old framed → KeepsLog magic more limit new
    one_more new more are begins limited count ended = record {
      count = (let counted = keeps.count in omega (arith, count, counted, ap length are, length-append entries (payload ∷ [])));
      «end» = ended ∙ same_end ∙ ap (log_end magic) (sym are);
      begins = begins ∙ keeps.begins;
      limited = limited ∙ keeps.limited;
    }

  -- the end behind a payload that was not framed is that of the entries and one more
  pub same_behind : (payload : List ℕ) → end_behind old (length payload) ≡ log_end magic (entries ++ payload ∷ [])
  same_behind payload = let ended = keeps.«end» in let pushed = length-front-push magic entries payload in omega (arith, ended, pushed)

  -- it has the entries that it had
  pub as_before : (new : Log D disk) → magic_of new ≡ magic_of old → limit_of new ≡ limit_of old → count_of new ≡ count_of old → end_of new ≡ end_of old
      → KeepsLog magic entries limit new
  as_before new begins limited count ended =
      record { count = count ∙ keeps.count; «end» = ended ∙ keeps.«end»; begins = begins ∙ keeps.begins; limited = limited ∙ keeps.limited }

  -- its device reads as the log of the entries, and a crash leaves that
  pub log_reads : StandsFor entries old → IsLog magic entries (disk.seen (device_of old) 0)
  log_reads logged = subst (λ (m : List ℕ). IsLog m entries (disk.seen (device_of old) 0)) keeps.begins logged.is_log

  pub log_left : StandsFor entries old → (c : Files) → disk.images (device_of old) c → IsLog magic entries (c 0)
  log_left logged c may = subst (λ (file : List ℕ). IsLog magic entries file) (sym (logged.durable c may)) (log_reads logged)

  -- a crash in an append leaves the log of the entries, or of these and one more
  pub left_either : (payload : List ℕ) (images : Images) (files c : Files) → IsBeforeOrAfter (magic_of old) entries payload images files c
      → IsLogOfEither magic entries payload (c 0)
  left_either payload images files c (inl before) = inl (subst (λ (m : List ℕ). IsLog m entries (c 0)) keeps.begins before.is_log)
  left_either payload images files c (inr behind) = inr (subst (λ (m : List ℕ). IsLog m (entries ++ payload ∷ []) (c 0)) keeps.begins behind.is_log)

-- a log with other limits
pub within_limit : {D : Type 0} {disk : Ghosts D} (magic : List ℕ) (entries : List (List ℕ)) (limit limit' : ℕ) (log : Log D disk) → limit' ≡ limit
    → KeepsLog magic entries limit log → KeepsLog magic entries limit' log
within_limit magic entries limit limit' log same keeps = subst (λ (l : ℕ). KeepsLog magic entries l log) (sym same) keeps

-- a log with the payloads of the state is the state's log on its device, whatever is in doubt
pub on_rows : {D : Type 0} {disk : Ghosts D} (running : Running) (limit : ℕ) (log : Log D disk) → IsSound running.state
    → KeepsLog rows_magic (payloads running.state) limit log → StandsFor (payloads running.state) log → OnRows disk running (device_of log)
on_rows running limit log sound keeps logged = record {
  reads = λ going. record { sound = sound; log = log_reads rows_magic (payloads running.state) limit log keeps logged };
  may_read = inl (record { sound = sound; log = log_reads rows_magic (payloads running.state) limit log keeps logged });
  crash = λ c may. inl (record { sound = sound; log = log_left rows_magic (payloads running.state) limit log keeps logged c may });
}

pub on_index : {E : Type 0} {disk : Ghosts E} (running : Running) (limit : ℕ) (log : Log E disk) → HasEntries running.state
    → KeepsLog index_magic (index_payloads running.state) limit log → StandsFor (index_payloads running.state) log → OnIndex disk running (device_of log)
on_index running limit log entries keeps logged = record {
  reads = λ going. record { sound = entries; log = log_reads index_magic (index_payloads running.state) limit log keeps logged };
  may_read = inl (record { sound = entries; log = log_reads index_magic (index_payloads running.state) limit log keeps logged });
  crash = λ c may. inl (record { sound = entries; log = log_left index_magic (index_payloads running.state) limit log keeps logged c may });
}

-- ---- one commit more

module _ {D E : Type 0} {disk : Ghosts D} {disk' : Ghosts E} (state : State) (engine : Engine D E disk disk') (keeps : Keeps state engine) (commit : Commit) where
  -- what the rows that are kept accept, the rows of the state accept
  pub same_rows : (answer : Result Rows Refusal) → after_commit (engine_limits engine) commit (kept_rows engine.kept) ≡ answer
      → after_commit (engine_limits engine) commit (replay state.commits) ≡ answer
  same_rows answer is = ap (λ (rows : Rows). after_commit (engine_limits engine) commit rows) (sym keeps.rows) ∙ is

  module _ (can : CanCommit (length state.settings.columns) commit) (after : Rows) (ok : after_commit (engine_limits engine) commit (kept_rows engine.kept) ≡ Ok after) where
    accepted : after_commit standard_limits commit (replay state.commits) ≡ Ok after
    accepted = accepted_more (engine_limits engine) standard_limits commit (replay state.commits) after keeps.within (same_rows (Ok after) ok)

    written : IsWritten (length state.settings.columns) commit
    written = accepted_fits (length state.settings.columns) (engine_limits engine) commit (replay state.commits) after keeps.within
        (replay_fits (length state.settings.columns) state.commits keeps.sound.written keeps.sound.accepted) can (same_rows (Ok after) ok)

    -- the state after the commit is sound
    pub sound_after : IsSound (with_commits state (commit ∷ []))
    sound_after = sound-push state commit after keeps.sound written accepted

    -- the engine after the commit keeps the state after it
    pub keeps_after : (new : Engine D E disk disk') → kept_settings new.kept ≡ kept_settings engine.kept → kept_rows new.kept ≡ after → kept_limits new.kept ≡ kept_limits engine.kept
        → magic_of new.rows ≡ magic_of engine.rows → limit_of new.rows ≡ limit_of engine.rows → count_of new.rows ≡ count_of engine.rows + 1
        → (framed : Framed) → payload_of framed ≡ commit_payload commit → end_of new.rows ≡ log.end_after engine.rows framed → new.index ≡ engine.index
        → Keeps (with_commits state (commit ∷ [])) new
    keeps_after new settings kept limits magic limit count framed payload ended index = record {
      sound = sound_after;
      entries = entries_stay state (commit ∷ []) keeps.entries;
      settings = keeps.settings ∙ sym settings;
      rows = kept ∙ sym (replay_accepted state.commits commit after accepted);
      within = subst (λ (l : Limits). AreWithin standard_limits l) (sym limits) keeps.within;
      log = within_limit rows_magic (payloads (with_commits state (commit ∷ []))) (engine_limits engine).log_bytes (engine_limits new).log_bytes new.rows (ap (λ (l : Limits). l.log_bytes) limits)
          (one_more rows_magic (payloads state) (engine_limits engine).log_bytes engine.rows keeps.log framed (commit_payload commit) payload new.rows (payloads (with_commits state (commit ∷ [])))
          (payloads-push state commit) magic limit count ended);
      index = within_limit index_magic (index_payloads state) (engine_limits engine).log_bytes (engine_limits new).log_bytes new.index (ap (λ (l : Limits). l.log_bytes) limits)
          (subst (λ (log : Log E disk'). KeepsLog index_magic (index_payloads state) (engine_limits engine).log_bytes log) (sym index) keeps.index);
    }

    -- the entries of a log of the commit behind the state's are those of the state after it
    pub logged_after : (new : Log D disk) → StandsFor (payloads state ++ commit_payload commit ∷ []) new → StandsFor (payloads (with_commits state (commit ∷ []))) new
    logged_after new logged = subst (λ (entries : List (List ℕ)). StandsFor entries new) (sym (payloads-push state commit)) logged

    -- a crash that leaves the old entries or these and the commit's leaves the one database or the other
    pub holds_either : (images : Images) (files c : Files) → IsBeforeOrAfter (magic_of engine.rows) (payloads state) (commit_payload commit) images files c → MayHold state (commit ∷ []) c
    holds_either images files c left =
        elim (left_either rows_magic (payloads state) (engine_limits engine).log_bytes engine.rows keeps.log (commit_payload commit) images files c left) [
          | inl before ↦ inl (record { sound = keeps.sound; log = before })
          | inr behind ↦ inr (record { sound = sound_after; log = subst (λ (entries : List (List ℕ)). IsLog rows_magic entries (c 0)) (sym (payloads-push state commit)) behind })
        ]

module _ {D E : Type 0} {disk : Ghosts D} {disk' : Ghosts E} (state : State) (engine : Engine D E disk disk') (keeps : Keeps state engine) (new : Engine D E disk disk')
    (settings : kept_settings new.kept ≡ kept_settings engine.kept) (kept : kept_rows new.kept ≡ kept_rows engine.kept) (limits : kept_limits new.kept ≡ kept_limits engine.kept) where
  abbrev bytes : (engine_limits new).log_bytes ≡ (engine_limits engine).log_bytes
  bytes = ap (λ (l : Limits). l.log_bytes) limits

  -- an engine with the same rows, whose logs have their own numbers, keeps a state with the same commits
  pub keeps_with : (entries : List IndexEntry) → HasEntries (record state { entries = entries }) → KeepsLog rows_magic (payloads state) (engine_limits engine).log_bytes new.rows
      → KeepsLog index_magic (map entry_payload entries) (engine_limits engine).log_bytes new.index → Keeps (record state { entries = entries }) new
  keeps_with entries are rows index = record {
    sound = record { settings = keeps.sound.settings; written = keeps.sound.written; accepted = keeps.sound.accepted };
    entries = are;
    settings = keeps.settings ∙ sym settings;
    rows = kept ∙ keeps.rows;
    within = subst (λ (l : Limits). AreWithin standard_limits l) (sym limits) keeps.within;
    log = within_limit rows_magic (payloads state) (engine_limits engine).log_bytes (engine_limits new).log_bytes new.rows bytes rows;
    index = within_limit index_magic (map entry_payload entries) (engine_limits engine).log_bytes (engine_limits new).log_bytes new.index bytes index;
  }

  -- an engine with the same rows and logs keeps the same state
  pub keeps_in : new.rows ≡ engine.rows → new.index ≡ engine.index → Keeps state new
  keeps_in same index =
      keeps_with state.entries keeps.entries
      (subst (λ (log : Log D disk). KeepsLog rows_magic (payloads state) (engine_limits engine).log_bytes log) (sym same) keeps.log)
      (subst (λ (log : Log E disk'). KeepsLog index_magic (index_payloads state) (engine_limits engine).log_bytes log) (sym index) keeps.index)

module _ {D E : Type 0} {disk : Ghosts D} {disk' : Ghosts E} (running : Running) (engine : Engine D E disk disk') (keeps : Keeps running.state engine) where
  pub same_number : log.count_of engine.rows - 1 ≡ length running.state.commits
  same_number = let count = keeps.log.count in omega (arith, count, length-map running.state.commits commit_payload)

  -- a view of what is kept is the state's
  pub is_viewed : (asked : List Leaf) (number : ℕ) (view : View) → number ≡ length running.state.commits
      → view ≡ view_of (rules_of (kept_settings engine.kept)) (kept_rows engine.kept).list number asked → view ≡ state_view running.state asked
  is_viewed asked number view numbered same =
      same
      ∙ ap (λ (n : ℕ). view_of (rules_of (kept_settings engine.kept)) (kept_rows engine.kept).list n asked) numbered
      ∙ ap (λ (rows : Rows). view_of (rules_of (kept_settings engine.kept)) rows.list (length running.state.commits) asked) keeps.rows
      ∙ ap (λ (s : Settings). view_of (rules_of s) (replay running.state.commits).list (length running.state.commits) asked) (sym keeps.settings)

-- what is kept of an engine that stands for what runs is right
pub exact_kept : {D E : Type 0} {disk : Ghosts D} {disk' : Ghosts E} (running : Running) (engine : Engine D E disk disk') → Holds running engine
    → IsRight running.state → IsExact (rules_of (kept_settings engine.kept)) (kept_rows engine.kept).list (turns_of running.state) running.index
exact_kept running engine stands right =
    let has = stands.has in
    subst (λ (s : Settings). IsExact (rules_of s) (kept_rows engine.kept).list (turns_of running.state) running.index) has.keeps.settings
    (subst (λ (rows : Rows). IsExact (rules_of running.state.settings) rows.list (turns_of running.state) running.index) (sym has.keeps.rows)
    (subst (λ (s : IndexState). IsExact (rules_of running.state.settings) (replay running.state.commits).list (turns_of running.state) s) (sym has.left) right))

-- the number of the next commit is one more than there are
pub numbered : (running : Running) → {n : ℕ} → n ≡ length (payloads running.state) → n ≡ length running.state.commits + 1
numbered running is = omega (arith, is, length-map running.state.commits commit_payload)

-- a refusal by the rows adds nothing, and is no fault
pub refusal_adds : (commit : Commit) (error : PlanError) (answer : Answer) → answer ≡ refusal_answer error → changes_of (to_commit commit) answer ≡ []
refusal_adds commit NoMemory answer is = rw is refl
refusal_adds commit (Refused refusal) answer is = rw is refl

pub refusal_calm : (error : PlanError) (answer : Answer) → answer ≡ refusal_answer error → is_disk_fault answer ≡ false
refusal_calm NoMemory answer is = rw is refl
refusal_calm (Refused refusal) answer is = rw is refl

-- a refusal by the rows is the commit's
pub refusal_answers : (limits : Limits) (running : Running) (commit : Commit) (error : PlanError) (answer : Answer) → running.stopped ≡ None → answer ≡ refusal_answer error
    → IsNoPlan (after_commit limits commit (replay running.state.commits)) error → MayAnswer limits running (to_commit commit) answer
refusal_answers limits running commit NoMemory answer going is why = rw is tt
refusal_answers limits running commit (Refused refusal) answer going is why = rw is (rw (going, why) refl)
