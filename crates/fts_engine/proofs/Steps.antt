-- The steps of an engine, by their answers.
use Rattle.std.proofs.Common.{◌≡◌, ℕ, ◌+◌, ◌≤◌, List, [], ◌∷◌, refl, ap, subst, sym, ◌∙◌, ◌++◌, map, length, inl, inr, append-nil}
use Rattle.std.proofs.lemmas.Bool.{false≢true}
use Rattle.std.specs.Prelude.{false, fold, Option, Some, None, IsTrue}
use Rattle.fts_commits.specs.Commit.{Commit}
use Rattle.fts_commits.specs.Fits.{CanCommit}
use Rattle.fts_faults.specs.Count.{Rose}
use Rattle.fts_disk.specs.Device.{Files}
use Rattle.fts_disk.specs.Moments.{LeavesOnly}
use Rattle.fts_disk.specs.declared.disk.Disk.{Ghosts}
use Rattle.fts_disk.proofs.Runs.{reads_now, leaves_weaker}
use Rattle.fts_log.specs.Log.{StandsFor, device_of}
use Rattle.fts_log.specs.declared.log.Log.{Log}
use Rattle.fts_entries.specs.Entry.{IndexEntry, IndexState, after_entry}
use Rattle.fts_steps.specs.State.{State, payloads, index_payloads, index_state, turns_of, with_commits, with_entries, IsRows, IsIndex}
use Rattle.fts_steps.specs.Crash.{MayHold, MayHoldIndex, IsBetween, IsIndexBetween}
use Rattle.fts_steps.specs.Running.{Running, What, made, batched, optimized, failed, batch_failed, optimize_failed, grown, with_what, next_index, next_batch, next_optimized}
use Rattle.fts_steps.specs.Step.{Ask, to_commit, to_sync, to_optimize, Answer, disk_fault, committed, stopped, is_disk_fault, changes_of, after, unless_stopped, would_write, MayAnswer, Leaves, Keeps as StepKeeps, Steps, plain_answer}
use Rattle.fts_steps.specs.FaultCounts.{together}
use Rattle.fts_steps.proofs.Adding.{rows_stay, index_stay}
use Rattle.fts_steps.proofs.FaultCounts.{both_same, counts_calm, counts_rows, counts_index}
use Rattle.fts_steps.proofs.Growing.{index_stays}
use Rattle.fts_types.specs.declared.settings.Settings.{Settings}
use Rattle.fts_engine.specs.declared.engine.Engine.{Engine}
use Rattle.fts_engine.specs.Kept.{kept_settings, kept_rows, kept_limits, IsIndexed, StaysIndexed}
use Rattle.fts_engine.specs.Stands.{Keeps, Holds, OnRows, OnIndex, engine_sight, engine_limits, engine_faults, rows_device, index_device, stopped_at}
use Rattle.fts_engine.proofs.Committing.{keeps_in, on_rows, on_index}

-- ---- what a log still is

-- the rows log of a state is that of the state with no more commits
none_more : (state : State) (file : List ℕ) → IsRows state file → IsRows (with_commits state []) file
none_more state file rows =
    subst (λ (commits : List Commit). IsRows (record { settings = state.settings; commits = commits; entries = state.entries }) file) (sym (append-nil state.commits)) rows

no_entry_more : (state : State) (files : Files) → IsIndex state files → IsIndex (with_entries state []) files
no_entry_more state files index =
    subst (λ (entries : List IndexEntry). IsIndex (record { settings = state.settings; commits = state.commits; entries = entries }) files) (sym (append-nil state.entries)) index

-- the rows log is that of a state with more entries too, and the index log that of one with more commits
-- before a commit or behind it is between the two
between_made : (running : Running) (commit : Commit) → running.doubt ≡ [] → (c : Files) → MayHold running.state (commit ∷ []) c
    → IsBetween running (with_what running (made commit)) c
between_made running commit sure c held = by_case held
  where
    all : (running.state.commits ++ commit ∷ []) ++ running.doubt ≡ running.state.commits ++ commit ∷ []
    all = ap (λ (doubt : List Commit). (running.state.commits ++ commit ∷ []) ++ doubt) sure ∙ append-nil (running.state.commits ++ commit ∷ [])

    by_case : MayHold running.state (commit ∷ []) c → IsBetween running (with_what running (made commit)) c
    by_case (inl before) = record { front = []; rest = commit ∷ []; added = all; rows = none_more running.state (c 0) before }
    by_case (inr behind) = record { front = commit ∷ []; rest = []; added = all; rows = behind }

between_failed : (running : Running) (commit : Commit) (faults : ℕ) (c : Files) → MayHold running.state (commit ∷ []) c
    → IsBetween running (with_what running (failed faults (commit ∷ []))) c
between_failed running commit faults c (inl before) = record { front = []; rest = commit ∷ []; added = refl; rows = none_more running.state (c 0) before }
between_failed running commit faults c (inr behind) = record { front = commit ∷ []; rest = []; added = refl; rows = behind }

-- and so is before an entry of the index log or behind it: what runs behind it
abbrev pub grown_index : Running → List IndexEntry → IndexState → Running
grown_index running more next = record running { state = with_entries running.state more; index = next }

abbrev pub left_loose : Running → List IndexEntry → ℕ → Running
left_loose running more faults = record running { stopped = Some faults; loose = more }

between_written : (running : Running) (more : List IndexEntry) (next : IndexState) → running.loose ≡ [] → (c : Files) → MayHoldIndex running.state more c
    → IsIndexBetween running (grown_index running more next) c
between_written running more next sure c held = by_case held
  where
    all : (running.state.entries ++ more) ++ running.loose ≡ running.state.entries ++ more
    all = ap (λ (loose : List IndexEntry). (running.state.entries ++ more) ++ loose) sure ∙ append-nil (running.state.entries ++ more)

    none : more ≡ more ++ []
    none = sym (append-nil more)

    by_case : MayHoldIndex running.state more c → IsIndexBetween running (grown_index running more next) c
    by_case (inl before) = record { front = []; rest = more; added = all; index = no_entry_more running.state c before }
    by_case (inr behind) = record { front = more; rest = []; added = all ∙ ap (λ (es : List IndexEntry). running.state.entries ++ es) none; index = behind }

between_loose : (running : Running) (more : List IndexEntry) (faults : ℕ) (c : Files) → MayHoldIndex running.state more c
    → IsIndexBetween running (left_loose running more faults) c
between_loose running more faults c (inl before) =
    record { front = []; rest = more; added = refl; index = no_entry_more running.state c before }
between_loose running more faults c (inr behind) =
    record { front = more; rest = []; added = ap (λ (es : List IndexEntry). running.state.entries ++ es) (sym (append-nil more)); index = behind }

no_fault : (answer : Answer) (n : ℕ) → is_disk_fault answer ≡ false → answer ≡ disk_fault n → ⊥
no_fault answer n calm is = false≢true (sym calm ∙ ap is_disk_fault is)

no_none : (faults : ℕ) → ◌≡◌ {A = Option ℕ} (Some faults) None → ⊥
no_none faults is = let no = is in cc

-- ---- steps that leave the logs

module _ {D E : Type 0} {disk : Ghosts D} {disk' : Ghosts E} (old new : Engine D E disk disk') (settings : kept_settings new.kept ≡ kept_settings old.kept)
    (rows : kept_rows new.kept ≡ kept_rows old.kept) (limits : kept_limits new.kept ≡ kept_limits old.kept) (same : new.rows ≡ old.rows) (index : new.index ≡ old.index)
    (still : stopped_at new ≡ stopped_at old) (indexed : StaysIndexed old.kept new.kept) where
  -- it holds the same
  pub holds_still : (running : Running) → Holds running old → Holds running new
  holds_still running holds = record {
    has = record {
      keeps = keeps_in running.state old holds.has.keeps new settings rows limits same index;
      indexed = indexed running.state.commits running.index holds.has.indexed;
      left = holds.has.left;
      stopped = still ∙ holds.has.stopped;
    };
    logs = λ told going. record {
      entries = subst (λ (log : Log D disk). StandsFor (payloads running.state) log) (sym same) (holds.logs told going).entries;
      sure = (holds.logs told going).sure;
    };
    index_logs = λ told going. record {
      entries = subst (λ (log : Log E disk'). StandsFor (index_payloads running.state) log) (sym index) (holds.index_logs told going).entries;
      sure = (holds.index_logs told going).sure;
    };
    on_rows = λ told. subst (λ (log : Log D disk). OnRows disk running (device_of log)) (sym same) (holds.on_rows told);
    on_index = λ told. subst (λ (log : Log E disk'). OnIndex disk' running (device_of log)) (sym index) (holds.on_index told);
  }

  same_faults : engine_faults new ≡ engine_faults old
  same_faults = both_same _ _ _ _ (ap (λ (log : Log D disk). disk.faults (device_of log)) same) (ap (λ (log : Log E disk'). disk'.faults (device_of log)) index)

  -- a step that changes nothing
  pub refuses : (ask : Ask) (answer : Answer) → changes_of ask answer ≡ [] → is_disk_fault answer ≡ false
      → ((running : Running) → Holds running old → MayAnswer (engine_limits old) running ask answer) → Steps engine_sight ask answer old new
  refuses ask answer adds calm may = record {
    more = [];
    each = λ running stands. record {
      alone = λ e. refl;
      may = may running stands;
      stands = subst (λ (whats : List What). Holds (grown running (map (λ (what : What). record { by = 0; what = what }) whats)) new) (sym adds) (holds_still running stands);
      rows = λ e told. inl (ap (λ (log : Log D disk). device_of log) same);
      index = λ e told. inl (ap (λ (log : Log E disk'). device_of log) index);
      keeps = kept;
    };
    tells = λ e. absurd (false≢true e);
    keeps = kept;
  }
    where
      kept : StepKeeps engine_sight answer old new
      kept = record {
        settings = settings;
        limits = limits;
        faults = counts_calm _ _ _ (λ fault. false≢true (sym calm ∙ fault)) same_faults;
        sum = λ n is. absurd (no_fault answer n calm is);
      }

-- after a fault each commit and each batch is refused
pub is_stopped : {D E : Type 0} {disk : Ghosts D} {disk' : Ghosts E} (engine : Engine D E disk disk') (faults : ℕ) (running : Running) → Holds running engine
    → stopped_at engine ≡ Some faults → (answer : Answer) → Some (unless_stopped running.stopped answer) ≡ Some (stopped faults)
is_stopped engine faults running stands is answer = let same : running.stopped ≡ Some faults = sym stands.has.stopped ∙ is in rw same refl

-- changes that fit the engine's settings fit those of the state for which it stands
pub can_still : {D E : Type 0} {disk : Ghosts D} {disk' : Ghosts E} (running : Running) (engine : Engine D E disk disk') → Holds running engine → (commit : Commit)
    → CanCommit (length (kept_settings engine.kept).columns) commit → CanCommit (length running.state.settings.columns) commit
can_still running engine stands commit can = subst (λ (s : Settings). CanCommit (length s.columns) commit) (sym stands.has.keeps.settings) can

-- ---- a commit

-- what a device holds after a fault in a commit: the database with it or without it
left_in_doubt : {D : Type 0} (disk : Ghosts D) (old new : D) (running : Running) (commit : Commit) (faults : ℕ)
    → ((t : ℕ) (c : Files) → t ≤ disk.moment new → disk.images new c → disk.left_since new t c) → disk.images new (disk.seen new)
    → LeavesOnly disk old new (MayHold running.state (commit ∷ [])) → OnRows disk (with_what running (failed faults (commit ∷ []))) new
left_in_doubt disk old new running commit faults counts may run = record {
  reads = λ e. absurd (no_none faults e);
  may_read = reads_now disk old new (MayHold running.state (commit ∷ [])) counts may run;
  crash = λ c left. run.each c (counts (disk.moment old) c run.later left);
}

module _ {D E : Type 0} {disk : Ghosts D} {disk' : Ghosts E} (old new : Engine D E disk disk') (commit : Commit) (settings : kept_settings new.kept ≡ kept_settings old.kept)
    (limits : kept_limits new.kept ≡ kept_limits old.kept) (index : new.index ≡ old.index) (going : stopped_at old ≡ None) where
  -- the index log is as it was
  index_stays_on : (running : Running) → Holds running old → IsTrue disk'.tells → OnIndex disk' running (index_device new)
  index_stays_on running stands told = subst (λ (log : Log E disk'). OnIndex disk' running (device_of log)) (sym index) (stands.on_index told)

  same_index : index_device new ≡ index_device old
  same_index = ap (λ (log : Log E disk'). device_of log) index

  same_count : disk'.faults (index_device new) ≡ disk'.faults (index_device old)
  same_count = ap disk'.faults same_index

  -- the commit was made: its number, what is kept, and the log with its entry
  pub commits : (number : ℕ) → stopped_at new ≡ stopped_at old → disk.faults (rows_device new) ≡ disk.faults (rows_device old)
      → ((running : Running) → Holds running old → running.stopped ≡ None → plain_answer (engine_limits old) running (to_commit commit) ≡ Some (committed number))
      → ((running : Running) → Holds running old → Keeps (with_commits running.state (commit ∷ [])) new)
      → ((running : Running) → Holds running old → IsTrue disk.tells → running.stopped ≡ None → StandsFor (payloads (with_commits running.state (commit ∷ []))) new.rows)
      → ((running : Running) → Holds running old → IsTrue disk.tells → running.stopped ≡ None
      → LeavesOnly disk (rows_device old) (rows_device new) (MayHold running.state (commit ∷ [])))
      → ((running : Running) → Holds running old → IsIndexed new.kept (running.state.commits ++ commit ∷ []) running.index)
      → Steps engine_sight (to_commit commit) (committed number) old new
  commits number still calm may keeps logged left indexed = record {
    more = [];
    each = λ running stands. record {
      alone = λ e. refl;
      may = may running stands (sym stands.has.stopped ∙ going);
      stands = behind running stands;
      rows = λ e told.
          let sure = (stands.logs told (sym stands.has.stopped ∙ going)).sure in
          inr (leaves_weaker disk (rows_device old) (rows_device new) (MayHold running.state (commit ∷ [])) (IsBetween running (with_what running (made commit)))
          (between_made running commit sure) (left running stands told (sym stands.has.stopped ∙ going)));
      index = λ e told. inl same_index;
      keeps = kept;
    };
    tells = λ e. absurd (false≢true e);
    keeps = kept;
  }
    where
      kept : StepKeeps engine_sight (committed number) old new
      kept = record {
        settings = settings;
        limits = limits;
        faults = counts_calm _ _ _ (λ e. false≢true e) (both_same _ _ _ _ calm same_count);
        sum = λ n e. absurd cc;
      }

      may_hold : (running : Running) (c : Files) → MayHoldIndex running.state running.loose c → MayHoldIndex (with_commits running.state (commit ∷ [])) running.loose c
      may_hold running c (inl before) = inl (index_stay running.state (commit ∷ []) c before)
      may_hold running c (inr behind) = inr (index_stay (with_entries running.state running.loose) (commit ∷ []) c behind)

      behind : (running : Running) → Holds running old → Holds (with_what running (made commit)) new
      behind running stands = record {
        has = record {
          keeps = keeps running stands;
          indexed = indexed running stands;
          left = stands.has.left ∙ sym (index_stays running.state (commit ∷ []) stands.has.keeps.entries);
          stopped = still ∙ stands.has.stopped;
        };
        logs = λ told going. record { entries = logged running stands told going; sure = (stands.logs told going).sure };
        index_logs = λ told going. record {
          entries = subst (λ (log : Log E disk'). StandsFor (index_payloads running.state) log) (sym index) (stands.index_logs told going).entries;
          sure = (stands.index_logs told going).sure;
        };
        on_rows = λ told. on_rows (with_what running (made commit)) _ new.rows (keeps running stands).sound (keeps running stands).log
            (logged running stands told (sym stands.has.stopped ∙ going));
        on_index = λ told.
            let on = index_stays_on running stands told in
            record {
              reads = λ going. index_stay running.state (commit ∷ []) (disk'.seen (index_device new)) (on.reads going);
              may_read = may_hold running (disk'.seen (index_device new)) on.may_read;
              crash = λ c may. may_hold running c (on.crash c may);
            };
      }

  -- the device failed: what is kept stays, and the commit is in doubt
  pub fails : (faults : ℕ) → stopped_at new ≡ Some faults → Rose (disk.faults (rows_device old)) (disk.faults (rows_device new))
      → disk.faults (rows_device old) ≤ disk.faults (rows_device new) → faults ≡ together (engine_faults new)
      → ((running : Running) → Holds running old → running.stopped ≡ None → plain_answer (engine_limits old) running (to_commit commit) ≡ Some (committed (length running.state.commits + 1)))
      → ((running : Running) → Holds running old → Keeps running.state new)
      → ((t : ℕ) (c : Files) → IsTrue disk.tells → t ≤ disk.moment (rows_device new) → disk.images (rows_device new) c → disk.left_since (rows_device new) t c)
      → (IsTrue disk.tells → disk.images (rows_device new) (disk.seen (rows_device new)))
      → ((running : Running) → Holds running old → IsTrue disk.tells → running.stopped ≡ None
      → LeavesOnly disk (rows_device old) (rows_device new) (MayHold running.state (commit ∷ [])))
      → StaysIndexed old.kept new.kept → Steps engine_sight (to_commit commit) (disk_fault faults) old new
  fails faults noted rose up sum may keeps counts stays left indexed = record {
    more = [];
    each = λ running stands. record {
      alone = λ e. refl;
      may = subst (λ (a : Option Answer). IsTrue (would_write a)) (sym (may running stands (sym stands.has.stopped ∙ going))) refl;
      stands = record {
        has = record {
          keeps = keeps running stands;
          indexed = indexed running.state.commits running.index stands.has.indexed;
          left = stands.has.left;
          stopped = noted;
        };
        logs = λ told e. absurd (no_none faults e);
        index_logs = λ told e. absurd (no_none faults e);
        on_rows = λ told. left_in_doubt disk (rows_device old) (rows_device new) running commit faults (λ t c le may. counts t c told le may) (stays told)
            (left running stands told (sym stands.has.stopped ∙ going));
        on_index = λ told.
            let on = index_stays_on running stands told in
            record { reads = λ e. absurd (no_none faults e); may_read = on.may_read; crash = on.crash };
      };
      rows = λ e told.
          inr (leaves_weaker disk (rows_device old) (rows_device new) (MayHold running.state (commit ∷ [])) (IsBetween running (with_what running (failed faults (commit ∷ []))))
          (between_failed running commit faults) (left running stands told (sym stands.has.stopped ∙ going)));
      index = λ e told. inl same_index;
      keeps = kept;
    };
    tells = λ e. absurd (false≢true e);
    keeps = kept;
  }
    where
      kept : StepKeeps engine_sight (disk_fault faults) old new
      kept = record {
        settings = settings;
        limits = limits;
        faults = counts_rows _ _ _ _ _ same_count (record { rose = λ e. rose; calm = λ no. absurd (no refl); never_falls = up });
        sum = λ n e. (let same : faults ≡ n = (let is = e in cc) in sym same ∙ sum);
      }

-- ---- an entry of the index log

-- what a device holds after a fault in its append: the index log with it or without it
may_be_there : {E : Type 0} (disk : Ghosts E) (old new : E) (running : Running) (more : List IndexEntry) (faults : ℕ)
    → ((t : ℕ) (c : Files) → t ≤ disk.moment new → disk.images new c → disk.left_since new t c) → disk.images new (disk.seen new)
    → LeavesOnly disk old new (MayHoldIndex running.state more) → OnIndex disk (left_loose running more faults) new
may_be_there disk old new running more faults counts may run = record {
  reads = λ e. absurd (no_none faults e);
  may_read = reads_now disk old new (MayHoldIndex running.state more) counts may run;
  crash = λ c left. run.each c (counts (disk.moment old) c run.later left);
}

-- what a step asks that writes an entry, and what it adds, or leaves in doubt: `more` is the entry, `next` the state behind it
pub record WritesEntry (ask : Ask) (what : What) (failing : ℕ → What) (more : Running → List IndexEntry) (next : Running → IndexState) : Type 0 where
  made_is : (running : Running) → with_what running what ≡ grown_index running (more running) (next running)
  fails_is : (running : Running) (faults : ℕ) → with_what running (failing faults) ≡ left_loose running (more running) faults
  fault_is : (faults : ℕ) → changes_of ask (disk_fault faults) ≡ failing faults ∷ []

pub syncs : WritesEntry to_sync batched batch_failed (λ running. next_batch running ∷ []) (λ running. next_index running.state running.index)
syncs = record { made_is = λ running. refl; fails_is = λ running faults. refl; fault_is = λ faults. refl }

pub optimizes : WritesEntry to_optimize optimized optimize_failed next_optimized (λ running. fold (after_entry (turns_of running.state)) running.index (next_optimized running))
optimizes = record { made_is = λ running. refl; fails_is = λ running faults. refl; fault_is = λ faults. refl }

module _ {D E : Type 0} {disk : Ghosts D} {disk' : Ghosts E} (old new : Engine D E disk disk') (settings : kept_settings new.kept ≡ kept_settings old.kept)
    (limits : kept_limits new.kept ≡ kept_limits old.kept) (rows : new.rows ≡ old.rows) (going : stopped_at old ≡ None)
    (ask : Ask) (what : What) (failing : ℕ → What) (more : Running → List IndexEntry) (next : Running → IndexState) (writing : WritesEntry ask what failing more next) where
  rows_stay_on : (running : Running) → Holds running old → IsTrue disk.tells → OnRows disk running (rows_device new)
  rows_stay_on running stands told = subst (λ (log : Log D disk). OnRows disk running (device_of log)) (sym rows) (stands.on_rows told)

  same_rows : rows_device new ≡ rows_device old
  same_rows = ap (λ (log : Log D disk). device_of log) rows

  same_rows_count : disk.faults (rows_device new) ≡ disk.faults (rows_device old)
  same_rows_count = ap disk.faults same_rows

  abbrev behind : Running → Running
  behind running = grown_index running (more running) (next running)

  -- the entry was written: what is kept, and the log with it
  pub writes_entry : (answer : Answer) → changes_of ask answer ≡ what ∷ [] → is_disk_fault answer ≡ false
      → stopped_at new ≡ stopped_at old → disk'.faults (index_device new) ≡ disk'.faults (index_device old)
      → ((running : Running) → Holds running old → running.stopped ≡ None → MayAnswer (engine_limits old) running ask answer)
      → ((running : Running) → Holds running old → Keeps (behind running).state new)
      → ((running : Running) → Holds running old → IsTrue disk'.tells → running.stopped ≡ None → StandsFor (index_payloads (behind running).state) new.index)
      → ((running : Running) → Holds running old → IsTrue disk'.tells → running.stopped ≡ None
      → LeavesOnly disk' (index_device old) (index_device new) (MayHoldIndex running.state (more running)))
      → ((running : Running) → Holds running old → IsIndexed new.kept running.state.commits (next running))
      → ((running : Running) → Holds running old → next running ≡ index_state (behind running).state)
      → Steps engine_sight ask answer old new
  writes_entry answer adds no_disk_fault still calm may keeps logged left indexed leaves = record {
    more = [];
    each = λ running stands. record {
      alone = λ e. refl;
      may = may running stands (sym stands.has.stopped ∙ going);
      stands = subst (λ (r : Running). Holds r new) (sym (after_is running)) (held running stands);
      rows = λ e told. inl same_rows;
      index = λ e told.
          let sure = (stands.index_logs told (sym stands.has.stopped ∙ going)).sure in
          subst (λ (r : Running). Leaves (engine_sight {D = D} {E = E} {rows = disk} {index = disk'}).index (IsIndexBetween running r) old new) (sym (after_is running))
          (inr (leaves_weaker disk' (index_device old) (index_device new) (MayHoldIndex running.state (more running)) (IsIndexBetween running (behind running))
          (between_written running (more running) (next running) sure) (left running stands told (sym stands.has.stopped ∙ going))));
      keeps = kept;
    };
    tells = λ e. absurd (false≢true e);
    keeps = kept;
  }
    where
      kept : StepKeeps engine_sight answer old new
      kept = record {
        settings = settings;
        limits = limits;
        faults = counts_calm _ _ _ (λ e. false≢true (sym no_disk_fault ∙ e)) (both_same _ _ _ _ same_rows_count calm);
        sum = λ n e. absurd (no_fault answer n no_disk_fault e);
      }

      after_is : (running : Running) → after running ask answer ≡ behind running
      after_is running = ap (λ (whats : List What). grown running (map (λ (what : What). record { by = 0; what = what }) whats)) adds ∙ writing.made_is running

      may_hold : (running : Running) (c : Files) → MayHold running.state running.doubt c → MayHold (with_entries running.state (more running)) running.doubt c
      may_hold running c (inl before) = inl (rows_stay running.state (more running) (c 0) before)
      may_hold running c (inr behind) = inr (rows_stay (with_commits running.state running.doubt) (more running) (c 0) behind)

      held : (running : Running) → Holds running old → Holds (behind running) new
      held running stands = record {
        has = record {
          keeps = keeps running stands;
          indexed = indexed running stands;
          left = leaves running stands;
          stopped = still ∙ stands.has.stopped;
        };
        logs = λ told going. record {
          entries = subst (λ (log : Log D disk). StandsFor (payloads running.state) log) (sym rows) (stands.logs told going).entries;
          sure = (stands.logs told going).sure;
        };
        index_logs = λ told going. record { entries = logged running stands told going; sure = (stands.index_logs told going).sure };
        on_rows = λ told.
            let on = rows_stay_on running stands told in
            record {
              reads = λ going. rows_stay running.state (more running) (disk.seen (rows_device new) 0) (on.reads going);
              may_read = may_hold running (disk.seen (rows_device new)) on.may_read;
              crash = λ c may. may_hold running c (on.crash c may);
            };
        on_index = λ told. on_index (behind running) _ new.index (keeps running stands).entries (keeps running stands).index
            (logged running stands told (sym stands.has.stopped ∙ going));
      }

  -- the device failed: what is kept stays, and the entry is in doubt
  pub loosens : (faults : ℕ) → stopped_at new ≡ Some faults → Rose (disk'.faults (index_device old)) (disk'.faults (index_device new))
      → disk'.faults (index_device old) ≤ disk'.faults (index_device new) → faults ≡ together (engine_faults new)
      → ((running : Running) → Holds running old → running.stopped ≡ None → MayAnswer (engine_limits old) running ask (disk_fault faults))
      → ((running : Running) → Holds running old → Keeps running.state new)
      → ((t : ℕ) (c : Files) → IsTrue disk'.tells → t ≤ disk'.moment (index_device new) → disk'.images (index_device new) c → disk'.left_since (index_device new) t c)
      → (IsTrue disk'.tells → disk'.images (index_device new) (disk'.seen (index_device new)))
      → ((running : Running) → Holds running old → IsTrue disk'.tells → running.stopped ≡ None
      → LeavesOnly disk' (index_device old) (index_device new) (MayHoldIndex running.state (more running)))
      → StaysIndexed old.kept new.kept → Steps engine_sight ask (disk_fault faults) old new
  loosens faults noted rose up sum may keeps counts stays left indexed = record {
    more = [];
    each = λ running stands. record {
      alone = λ e. refl;
      may = may running stands (sym stands.has.stopped ∙ going);
      stands = subst (λ (r : Running). Holds r new) (sym (after_is running)) (held running stands);
      rows = λ e told. inl same_rows;
      index = λ e told.
          subst (λ (r : Running). Leaves (engine_sight {D = D} {E = E} {rows = disk} {index = disk'}).index (IsIndexBetween running r) old new) (sym (after_is running))
          (inr (leaves_weaker disk' (index_device old) (index_device new) (MayHoldIndex running.state (more running)) (IsIndexBetween running (left_loose running (more running) faults))
          (between_loose running (more running) faults) (left running stands told (sym stands.has.stopped ∙ going))));
      keeps = kept;
    };
    tells = λ e. absurd (false≢true e);
    keeps = kept;
  }
    where
      kept : StepKeeps engine_sight (disk_fault faults) old new
      kept = record {
        settings = settings;
        limits = limits;
        faults = counts_index _ _ _ _ _ same_rows_count (record { rose = λ e. rose; calm = λ no. absurd (no refl); never_falls = up });
        sum = λ n e. (let same : faults ≡ n = (let is = e in cc) in sym same ∙ sum);
      }

      after_is : (running : Running) → after running ask (disk_fault faults) ≡ left_loose running (more running) faults
      after_is running = ap (λ (whats : List What). grown running (map (λ (what : What). record { by = 0; what = what }) whats)) (writing.fault_is faults) ∙ writing.fails_is running faults

      held : (running : Running) → Holds running old → Holds (left_loose running (more running) faults) new
      held running stands = record {
        has = record {
          keeps = keeps running stands;
          indexed = indexed running.state.commits running.index stands.has.indexed;
          left = stands.has.left;
          stopped = noted;
        };
        logs = λ told e. absurd (no_none faults e);
        index_logs = λ told e. absurd (no_none faults e);
        on_rows = λ told.
            let on = rows_stay_on running stands told in
            record { reads = λ e. absurd (no_none faults e); may_read = on.may_read; crash = on.crash };
        on_index = λ told. may_be_there disk' (index_device old) (index_device new) running (more running) faults (λ t c le may. counts t c told le may) (stays told)
            (left running stands told (sym stands.has.stopped ∙ going));
      }
