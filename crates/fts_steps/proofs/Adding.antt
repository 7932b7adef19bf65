-- What steps add to the commits and to the entries, and what they leave of the two logs.
use Rattle.std.proofs.Common.{◌≡◌, ℕ, List, [], ◌∷◌, ◌++◌, refl, ap, ap₂, subst, sym, ◌∙◌, append_assoc, map}
use Rattle.std.proofs.lemmas.List.{append-nil}
use Rattle.std.specs.Prelude.{Bool, true, false, Option, Some, None}
use Rattle.std.specs.Option.{unwrap_or}
use Rattle.fts_types.specs.declared.limits.Limits.{Limits}
use Rattle.fts_types.specs.declared.settings.Settings.{Settings}
use Rattle.fts_commits.specs.Commit.{Commit}
use Rattle.fts_entries.specs.Entry.{IndexEntry}
use Rattle.fts_disk.specs.Device.{Files}
use Rattle.fts_log.specs.Record.{IsLog}
use Rattle.fts_steps.specs.State.{State, with_commits, with_entries, IsRows, IsIndex, index_magic, index_payloads}
use Rattle.std.specs.Prelude.{IsTrue}
use Rattle.fts_steps.specs.declared.optimize.OptimizeStep.TheVariants.{Began, Word, Finished, Nothing}
use Rattle.fts_steps.specs.Running.{Running, What, made, batched, optimized, failed, batch_failed, optimize_failed, read_failed, Entry, with_what, grown, next_batch, next_optimized, IsSure}
use Rattle.fts_steps.specs.Crash.{IsBetween, IsIndexBetween}
use Rattle.fts_steps.specs.Step.{Ask, to_commit, to_sync, to_optimize, to_view, to_find, to_list, to_measure, Answer, committed, refused, full, flushed, all_flushed, passed, viewed, found, listed, measured}
use Rattle.fts_steps.specs.Step.{disk_fault, stopped, no_memory, unless_stopped, writes, is_disk_fault, read_changes, MayAnswer}
use Rattle.fts_steps.specs.Step.{Call, Sight, Leaves, after, after_call, after_all, entries_of, Follows, AreAlone}
use Rattle.fts_steps.proofs.Growing.{entries_stay}
use Rattle.fts_steps.proofs.Leaving.{leaves_more}

-- ---- what the files still are

-- the rows log is that of a state with more entries too, and the index log that of one with more commits
pub rows_stay : (state : State) (more : List IndexEntry) (file : List ℕ) → IsRows state file → IsRows (with_entries state more) file
rows_stay state more file rows =
    record { sound = record { settings = rows.sound.settings; written = rows.sound.written; accepted = rows.sound.accepted }; log = rows.log }

pub index_stay : (state : State) (more : List Commit) (files : Files) → IsIndex state files → IsIndex (with_commits state more) files
index_stay state more files index = record { sound = entries_stay state more index.sound; log = index.log }

-- files that have what those of an index have are an index
pub index_as : (state : State) (old new : Files) → ((file : ℕ) → new file ≡ old file) → IsIndex state old → IsIndex state new
index_as state old new same index = record { sound = index.sound; log = subst (IsLog index_magic (index_payloads state)) (sym (same 0)) index.log }

-- ---- a state that grows

-- the state with commits and entries behind its own
abbrev pub with_both : State → List Commit → List IndexEntry → State
with_both state commits entries = with_entries (with_commits state commits) entries

-- a state that has grown by commits and by entries
pub record Grown (old new : State) : Type 0 where
  pub commits : List Commit
  pub entries : List IndexEntry
  pub same : new ≡ with_both old commits entries

-- a state of its parts
abbrev of_parts : Settings → List Commit → List IndexEntry → State
of_parts settings commits entries = record { settings = settings; commits = commits; entries = entries }

none_more : (state : State) → state ≡ with_both state [] []
none_more state = ap₂ (of_parts state.settings) (sym (append-nil state.commits)) (sym (append-nil state.entries))

with_more : (state : State) (first more : List Commit) (before behind : List IndexEntry)
    → with_both (with_both state first before) more behind ≡ with_both state (first ++ more) (before ++ behind)
with_more state first more before behind = ap₂ (of_parts state.settings) (append_assoc state.commits first more) (append_assoc state.entries before behind)

pub grown_none : (state : State) → Grown state state
grown_none state = record { commits = []; entries = []; same = none_more state }

pub grown_more : (old mid new : State) → Grown old mid → Grown mid new → Grown old new
grown_more old mid new first behind = record {
  commits = first.commits ++ behind.commits;
  entries = first.entries ++ behind.entries;
  same = behind.same ∙ ap (λ (state : State). with_both state behind.commits behind.entries) first.same
      ∙ with_more old first.commits behind.commits first.entries behind.entries;
}

grown_by : (running : Running) (what : What) → Grown running.state (with_what running what).state
grown_by running (made commit) = record {
  commits = commit ∷ [];
  entries = [];
  same = ap (of_parts running.state.settings (running.state.commits ++ commit ∷ [])) (sym (append-nil running.state.entries));
}
grown_by running batched = record {
  commits = [];
  entries = next_batch running ∷ [];
  same = ap (λ (commits : List Commit). of_parts running.state.settings commits (running.state.entries ++ next_batch running ∷ [])) (sym (append-nil running.state.commits));
}
grown_by running optimized = record {
  commits = [];
  entries = next_optimized running;
  same = ap (λ (commits : List Commit). of_parts running.state.settings commits (running.state.entries ++ next_optimized running)) (sym (append-nil running.state.commits));
}
grown_by running (failed faults doubt) = grown_none running.state
grown_by running (batch_failed faults) = grown_none running.state
grown_by running (optimize_failed faults) = grown_none running.state
grown_by running (read_failed faults) = grown_none running.state

pub grown_all : (running : Running) (entries : List Entry) → Grown running.state (grown running entries).state
grown_all running [] = grown_none running.state
grown_all running (entry ∷ entries) =
    grown_more running.state (with_what running entry.what).state (grown running (entry ∷ entries)).state (grown_by running entry.what) (grown_all (with_what running entry.what) entries)

pub grown_call : (running : Running) (call : Call) → Grown running.state (after_call running call).state
grown_call running call =
    grown_more running.state (grown running call.more).state (after_call running call).state (grown_all running call.more)
    (grown_all (grown running call.more) (entries_of 0 call.ask call.answer))

-- steps add commits and entries
pub grows : (running : Running) (calls : List Call) → Grown running.state (after_all running calls).state
grows running [] = grown_none running.state
grows running (call ∷ calls) =
    grown_more running.state (after_call running call).state (after_all running (call ∷ calls)).state (grown_call running call) (grows (after_call running call) calls)

-- ---- what is in doubt

sure_by : (running : Running) (what : What) → IsSure running → IsSure (with_what running what)
sure_by running (made commit) sure = sure
sure_by running batched sure = sure
sure_by running (failed faults doubt) sure = λ e. absurd (let no : ◌≡◌ {A = Option ℕ} (Some faults) None = e in cc)
sure_by running optimized sure = sure
sure_by running (batch_failed faults) sure = λ e. absurd (let no : ◌≡◌ {A = Option ℕ} (Some faults) None = e in cc)
sure_by running (optimize_failed faults) sure = λ e. absurd (let no : ◌≡◌ {A = Option ℕ} (Some faults) None = e in cc)
sure_by running (read_failed faults) sure = sure

sure_all : (running : Running) (entries : List Entry) → IsSure running → IsSure (grown running entries)
sure_all running [] sure = sure
sure_all running (entry ∷ entries) sure = sure_all (with_what running entry.what) entries (sure_by running entry.what sure)

pub sure_call : (running : Running) (call : Call) → IsSure running → IsSure (after_call running call)
sure_call running call sure = sure_all (grown running call.more) (entries_of 0 call.ask call.answer) (sure_all running call.more sure)

-- steps put nothing in doubt without stopping
pub stays_sure : (running : Running) (calls : List Call) → IsSure running → IsSure (after_all running calls)
stays_sure running [] sure = sure
stays_sure running (call ∷ calls) sure = stays_sure (after_call running call) calls (sure_call running call sure)

-- ---- what is added

-- all commits, the one in doubt as the last, and all entries
abbrev all_commits : Running → List Commit
all_commits running = running.state.commits ++ running.doubt

abbrev all_entries : Running → List IndexEntry
all_entries running = running.state.entries ++ running.loose

-- more was added behind all that was
pub record Adds (old new : Running) : Type 0 where
  pub commits : List Commit
  pub rows : all_commits new ≡ all_commits old ++ commits
  pub entries : List IndexEntry
  pub index : all_entries new ≡ all_entries old ++ entries

pub adds_none : (running : Running) → Adds running running
adds_none running = record {
  commits = [];
  rows = sym (append-nil (all_commits running));
  entries = [];
  index = sym (append-nil (all_entries running));
}

pub adds_more : (old mid new : Running) → Adds old mid → Adds mid new → Adds old new
adds_more old mid new first behind = record {
  commits = first.commits ++ behind.commits;
  rows = behind.rows ∙ ap (λ (all : List Commit). all ++ behind.commits) first.rows ∙ append_assoc (all_commits old) first.commits behind.commits;
  entries = first.entries ++ behind.entries;
  index = behind.index ∙ ap (λ (all : List IndexEntry). all ++ behind.entries) first.index ∙ append_assoc (all_entries old) first.entries behind.entries;
}

-- what is in doubt behind more is that itself where nothing was in doubt
more_sure : {A : Type 0} (all doubt more : List A) → doubt ≡ [] → (all ++ doubt) ++ more ≡ all ++ more
more_sure {A} all doubt more sure = ap (λ (rest : List A). (all ++ rest) ++ more) sure ∙ ap (λ (front : List A). front ++ more) (append-nil all)

push_sure : {A : Type 0} (all doubt more : List A) → doubt ≡ [] → (all ++ more) ++ doubt ≡ (all ++ doubt) ++ more
push_sure {A} all doubt more sure = ap (λ (rest : List A). (all ++ more) ++ rest) sure ∙ append-nil (all ++ more) ∙ sym (more_sure all doubt more sure)

-- a step that wrote was not stopped
writes_goes : (stop : Option ℕ) (answer : Answer) → IsTrue (writes (unless_stopped stop answer)) → stop ≡ None
writes_goes None answer is = refl
writes_goes (Some faults) answer is = absurd cc

pub one_answer : (a b : Answer) → Some a ≡ Some b → a ≡ b
one_answer a b same = ap (λ (o : Option Answer). unwrap_or o a) same

-- as it tells by its answer
told_goes : (stop : Option ℕ) (answer told : Answer) → unless_stopped stop answer ≡ told → IsTrue (writes told) → stop ≡ None
told_goes stop answer told is wrote = writes_goes stop answer (subst (λ (a : Answer). IsTrue (writes a)) (sym is) wrote)

adds_commit : (running : Running) (commit : Commit) → running.doubt ≡ [] → Adds running (with_what running (made commit))
adds_commit running commit sure = record {
  commits = commit ∷ [];
  rows = push_sure running.state.commits running.doubt (commit ∷ []) sure;
  entries = [];
  index = sym (append-nil (all_entries running));
}

adds_doubt : (running : Running) (faults : ℕ) (commit : Commit) → running.doubt ≡ [] → Adds running (with_what running (failed faults (commit ∷ [])))
adds_doubt running faults commit sure = record {
  commits = commit ∷ [];
  rows = sym (more_sure running.state.commits running.doubt (commit ∷ []) sure);
  entries = [];
  index = sym (append-nil (all_entries running));
}

adds_entries : (running : Running) (what : What) (more : List IndexEntry) → (with_what running what).state.entries ≡ running.state.entries ++ more
    → (with_what running what).loose ≡ running.loose → all_commits (with_what running what) ≡ all_commits running → running.loose ≡ [] → Adds running (with_what running what)
adds_entries running what more same still rows sure = record {
  commits = [];
  rows = rows ∙ sym (append-nil (all_commits running));
  entries = more;
  index = ap₂ (λ (all rest : List IndexEntry). all ++ rest) same still ∙ push_sure running.state.entries running.loose more sure;
}

adds_loose : (running : Running) (what : What) (more : List IndexEntry) → (with_what running what).state.entries ≡ running.state.entries
    → (with_what running what).loose ≡ more → all_commits (with_what running what) ≡ all_commits running → running.loose ≡ [] → Adds running (with_what running what)
adds_loose running what more same still rows sure = record {
  commits = [];
  rows = rows ∙ sym (append-nil (all_commits running));
  entries = more;
  index = ap₂ (λ (all rest : List IndexEntry). all ++ rest) same still ∙ sym (more_sure running.state.entries running.loose more sure);
}

adds_optimized : (running : Running) → running.loose ≡ [] → Adds running (with_what running optimized)
adds_optimized running sure = adds_entries running optimized (next_optimized running) refl refl refl sure

-- a step that reads leaves what runs as it was
pub read_still : (running : Running) (by : ℕ) (answer : Answer) → grown running (map (λ (what : What). record { by = by; what = what }) (read_changes answer)) ≡ running
read_still running by (disk_fault faults) = refl
read_still running by (committed number) = refl
read_still running by (refused why) = refl
read_still running by (full end_) = refl
read_still running by (flushed through commits) = refl
read_still running by (all_flushed commits) = refl
read_still running by (passed step) = refl
read_still running by (viewed view) = refl
read_still running by (found number docs) = refl
read_still running by (listed number listing) = refl
read_still running by (measured size) = refl
read_still running by (stopped faults) = refl
read_still running by no_memory = refl

-- and adds nothing where no device failed it
pub no_read_fault : (answer : Answer) → is_disk_fault answer ≡ false → read_changes answer ≡ []
no_read_fault (disk_fault faults) calm = absurd (let no : ◌≡◌ {A = Bool} true false = calm in cc)
no_read_fault (committed number) calm = refl
no_read_fault (refused why) calm = refl
no_read_fault (full end_) calm = refl
no_read_fault (flushed through commits) calm = refl
no_read_fault (all_flushed commits) calm = refl
no_read_fault (passed step) calm = refl
no_read_fault (viewed view) calm = refl
no_read_fault (found number docs) calm = refl
no_read_fault (listed number listing) calm = refl
no_read_fault (measured size) calm = refl
no_read_fault (stopped faults) calm = refl
no_read_fault no_memory calm = refl

adds_read : (running : Running) (answer : Answer) → Adds running (grown running (map (λ (what : What). record { by = 0; what = what }) (read_changes answer)))
adds_read running answer = subst (Adds running) (sym (read_still running 0 answer)) (adds_none running)

adds_step : (limits : Limits) (running : Running) (ask : Ask) (answer : Answer) → IsSure running → MayAnswer limits running ask answer → Adds running (after running ask answer)
adds_step limits running (to_commit commit) (committed number) sure may =
    adds_commit running commit (sure (told_goes running.stopped _ (committed number) (one_answer _ _ may) refl)).0
adds_step limits running (to_commit commit) (disk_fault faults) sure may =
    adds_doubt running faults commit (sure (writes_goes running.stopped _ may)).0
adds_step limits running (to_commit commit) (refused why) sure may = adds_none running
adds_step limits running (to_commit commit) (full end_) sure may = adds_none running
adds_step limits running (to_commit commit) (viewed view) sure may = adds_none running
adds_step limits running (to_commit commit) (found number docs) sure may = adds_none running
adds_step limits running (to_commit commit) (flushed through commits) sure may = adds_none running
adds_step limits running (to_commit commit) (all_flushed commits) sure may = adds_none running
adds_step limits running (to_commit commit) (passed step) sure may = adds_none running
adds_step limits running (to_commit commit) (listed number listing) sure may = adds_none running
adds_step limits running (to_commit commit) (measured size) sure may = adds_none running
adds_step limits running (to_commit commit) (stopped faults) sure may = adds_none running
adds_step limits running (to_commit commit) no_memory sure may = adds_none running
adds_step limits running to_sync (flushed through commits) sure may =
    adds_entries running batched (next_batch running ∷ []) refl refl refl (sure (told_goes running.stopped _ (flushed through commits) (one_answer _ _ may) refl)).1
adds_step limits running to_sync (disk_fault faults) sure may =
    adds_loose running (batch_failed faults) (next_batch running ∷ []) refl refl refl (sure (writes_goes running.stopped _ may)).1
adds_step limits running to_sync (committed number) sure may = adds_none running
adds_step limits running to_sync (refused why) sure may = adds_none running
adds_step limits running to_sync (full end_) sure may = adds_none running
adds_step limits running to_sync (all_flushed commits) sure may = adds_none running
adds_step limits running to_sync (passed step) sure may = adds_none running
adds_step limits running to_sync (viewed view) sure may = adds_none running
adds_step limits running to_sync (found number docs) sure may = adds_none running
adds_step limits running to_sync (listed number listing) sure may = adds_none running
adds_step limits running to_sync (measured size) sure may = adds_none running
adds_step limits running to_sync (stopped faults) sure may = adds_none running
adds_step limits running to_sync no_memory sure may = adds_none running
adds_step limits running to_optimize (passed Began) sure may = adds_optimized running (sure (told_goes running.stopped _ (passed Began) (one_answer _ _ may) refl)).1
adds_step limits running to_optimize (passed Word) sure may = adds_optimized running (sure (told_goes running.stopped _ (passed Word) (one_answer _ _ may) refl)).1
adds_step limits running to_optimize (passed Finished) sure may = adds_optimized running (sure (told_goes running.stopped _ (passed Finished) (one_answer _ _ may) refl)).1
adds_step limits running to_optimize (passed Nothing) sure may = adds_none running
adds_step limits running to_optimize (disk_fault faults) sure may =
    adds_loose running (optimize_failed faults) (next_optimized running) refl refl refl (sure (writes_goes running.stopped _ may)).1
adds_step limits running to_optimize (committed number) sure may = adds_none running
adds_step limits running to_optimize (refused why) sure may = adds_none running
adds_step limits running to_optimize (full end_) sure may = adds_none running
adds_step limits running to_optimize (flushed through commits) sure may = adds_none running
adds_step limits running to_optimize (all_flushed commits) sure may = adds_none running
adds_step limits running to_optimize (viewed view) sure may = adds_none running
adds_step limits running to_optimize (found number docs) sure may = adds_none running
adds_step limits running to_optimize (listed number listing) sure may = adds_none running
adds_step limits running to_optimize (measured size) sure may = adds_none running
adds_step limits running to_optimize (stopped faults) sure may = adds_none running
adds_step limits running to_optimize no_memory sure may = adds_none running
adds_step limits running (to_view leaves) answer sure may = adds_read running answer
adds_step limits running (to_find terms) answer sure may = adds_read running answer
adds_step limits running (to_list kind) answer sure may = adds_read running answer
adds_step limits running to_measure answer sure may = adds_none running

pub adds_call : (limits : Limits) (running : Running) (call : Call) → IsSure running → call.more ≡ [] → MayAnswer limits (grown running call.more) call.ask call.answer
    → Adds running (after_call running call)
adds_call limits running call sure alone may =
    subst (λ (more : List Entry). Adds running (after (grown running more) call.ask call.answer)) (sym alone)
    (adds_step limits running call.ask call.answer sure (subst (λ (more : List Entry). MayAnswer limits (grown running more) call.ask call.answer) alone may))

-- steps with nobody else add behind all that was added
pub adds : (limits : Limits) (running : Running) (calls : List Call) → IsSure running → AreAlone calls → Follows limits running calls → Adds running (after_all running calls)
adds limits running [] sure alone follows = adds_none running
adds limits running (call ∷ calls) sure alone follows =
    adds_more running (after_call running call) (after_all running (call ∷ calls)) (adds_call limits running call sure alone.0 follows.0)
    (adds limits (after_call running call) calls (sure_call running call sure) alone.1 follows.1)

-- ---- what a crash leaves of the rows log

-- what is between a start and a middle, and between the middle and now, is between the start and now
pub earlier : (start mid now : Running) (c : Files) → Adds mid now → IsBetween start mid c → IsBetween start now c
earlier start mid now c more between = record {
  front = between.front;
  rest = between.rest ++ more.commits;
  added = more.rows ∙ ap (λ (all : List Commit). all ++ more.commits) between.added ∙ append_assoc start.state.commits (between.front ++ between.rest) more.commits
      ∙ ap (λ (all : List Commit). start.state.commits ++ all) (append_assoc between.front between.rest more.commits);
  rows = between.rows;
}

pub behind : (start mid now : Running) (c : Files) → Grown start.state mid.state → IsBetween mid now c → IsBetween start now c
behind start mid now c grew between = record {
  front = grew.commits ++ between.front;
  rest = between.rest;
  added = between.added ∙ ap (λ (state : State). state.commits ++ (between.front ++ between.rest)) grew.same
      ∙ append_assoc start.state.commits grew.commits (between.front ++ between.rest)
      ∙ ap (λ (all : List Commit). start.state.commits ++ all) (sym (append_assoc grew.commits between.front between.rest));
  rows = no_entries (with_commits start.state (grew.commits ++ between.front)) (c 0) (start.state.entries ++ grew.entries)
      (subst (λ (state : State). IsRows state (c 0)) same between.rows);
}
  where
    same : with_commits mid.state between.front ≡ of_parts start.state.settings (start.state.commits ++ (grew.commits ++ between.front)) (start.state.entries ++ grew.entries)
    same = ap (λ (state : State). with_commits state between.front) grew.same
        ∙ ap (λ (commits : List Commit). of_parts start.state.settings commits (start.state.entries ++ grew.entries)) (append_assoc start.state.commits grew.commits between.front)

    -- a rows log is that of its commits, whatever the entries are
    no_entries : (state : State) (file : List ℕ) (entries : List IndexEntry) → IsRows (record state { entries = entries }) file → IsRows state file
    no_entries state file entries rows =
        record { sound = record { settings = rows.sound.settings; written = rows.sound.written; accepted = rows.sound.accepted }; log = rows.log }

-- ---- and of the index log

pub earlier_index : (start mid now : Running) (c : Files) → Grown mid.state now.state → Adds mid now → IsIndexBetween start mid c → IsIndexBetween start now c
earlier_index start mid now c grew more between = record {
  front = between.front;
  rest = between.rest ++ more.entries;
  added = more.index ∙ ap (λ (all : List IndexEntry). all ++ more.entries) between.added ∙ append_assoc start.state.entries (between.front ++ between.rest) more.entries
      ∙ ap (λ (all : List IndexEntry). start.state.entries ++ all) (append_assoc between.front between.rest more.entries);
  index = subst (λ (state : State). IsIndex (record state { entries = start.state.entries ++ between.front }) c) (sym grew.same)
      (index_stay (record mid.state { entries = start.state.entries ++ between.front }) grew.commits c between.index);
}

pub behind_index : (start mid now : Running) (c : Files) → Grown start.state mid.state → IsIndexBetween mid now c → IsIndexBetween start now c
behind_index start mid now c grew between = record {
  front = grew.entries ++ between.front;
  rest = between.rest;
  added = between.added ∙ ap (λ (state : State). state.entries ++ (between.front ++ between.rest)) grew.same
      ∙ append_assoc start.state.entries grew.entries (between.front ++ between.rest)
      ∙ ap (λ (all : List IndexEntry). start.state.entries ++ all) (sym (append_assoc grew.entries between.front between.rest));
  index = subst (λ (entries : List IndexEntry). IsIndex (record now.state { entries = entries }) c)
      (ap (λ (state : State). state.entries ++ between.front) grew.same ∙ append_assoc start.state.entries grew.entries between.front) between.index;
}

-- ---- steps behind others

-- what steps behind others leave of the rows log
pub between_more : {S : Type 0} (sight : Sight S) (old mid new : S) (start middle now : Running) → Grown start.state middle.state → Adds middle now
    → Leaves sight.rows (IsBetween start middle) old mid → Leaves sight.rows (IsBetween middle now) mid new → Leaves sight.rows (IsBetween start now) old new
between_more sight old mid new start middle now grew more = leaves_more sight.rows old mid new (IsBetween start middle) (IsBetween middle now) (IsBetween start now)
    (λ c between. earlier start middle now c more between) (λ c between. behind start middle now c grew between)

-- and of the index log
pub index_more : {S : Type 0} (sight : Sight S) (old mid new : S) (start middle now : Running) → Grown start.state middle.state → Grown middle.state now.state → Adds middle now
    → Leaves sight.index (IsIndexBetween start middle) old mid → Leaves sight.index (IsIndexBetween middle now) mid new → Leaves sight.index (IsIndexBetween start now) old new
index_more sight old mid new start middle now grew grows_on more =
    leaves_more sight.index old mid new (IsIndexBetween start middle) (IsIndexBetween middle now) (IsIndexBetween start now)
    (λ c between. earlier_index start middle now c grows_on more between) (λ c between. behind_index start middle now c grew between)
