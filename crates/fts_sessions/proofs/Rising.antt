-- The numbers that replies tell rise with the commits.
use Rattle.std.proofs.Common.{◌≡◌, ℕ, ◌+◌, ◌-◌, ◌<◌, ◌≤◌, Bool, true, false, nat_lt, List, [], ◌∷◌, ◌++◌, length, refl, sym, subst, ◌∙◌, arith, Option, Some, None, Ok, Err, inl, inr}
use Rattle.std.proofs.Math.Nat.{max-le, le-max_left}
use Rattle.std.proofs.lemmas.Bool.Decides.{nat_tests}
use Rattle.std.proofs.lemmas.List.{length_push, length-append, length-drop}
use Rattle.std.specs.Prelude.{◌&&◌, if◌then◌else◌, Result, codes, fold}
use Rattle.std.specs.Str.{str_eq_ignore_ascii_case}
use Rattle.fts_types.specs.declared.limits.Limits.{Limits}
use Rattle.fts_types.specs.declared.settings.Settings.{Settings}
use Rattle.fts_commits.specs.declared.change.Change.{Change}
use Rattle.fts_commits.specs.declared.refusal.Refusal.{Refusal}
use Rattle.fts_commits.specs.Commit.{Commit, Rows, after_commit, replay, no_rows}
use Rattle.fts_commits.specs.Turn.{Turn}
use Rattle.fts_entries.specs.Entry.{IndexEntry, IndexState, begun, after_entry, unflushed}
use Rattle.fts_entries.specs.Pass.{pass_step, has_work, words_left, words_named}
use Rattle.fts_entries.specs.Batch.{covers, covered_within}
use Rattle.fts_steps.proofs.Growing.{turns_count}
use Rattle.fts_io.specs.Text.{Line}
use Rattle.fts_schema.specs.declared.reply.Reply.{Reply}
use Rattle.fts_schema.specs.declared.reply.Reply.TheVariants as reply
use Rattle.fts_listing.specs.declared.kind.ListingKind.{ListingKind}
use Rattle.fts_listing.specs.declared.listing.Listing.{Listing}
use Rattle.fts_steps.specs.State.{turns_of, end_after, index_end_after}
use Rattle.fts_steps.specs.declared.optimize.OptimizeStep.{OptimizeStep}
use Rattle.fts_steps.specs.declared.optimize.OptimizeStep.TheVariants as did
use Rattle.fts_steps.specs.Running.{Running, What, made, batched, optimized, failed, batch_failed, optimize_failed, read_failed, Entry, with_what, grown, next_flushed, next_batch, next_optimized}
use Rattle.fts_steps.specs.Step.{Ask, to_commit, to_sync, to_optimize, to_view, to_find, to_list, to_measure, Answer, committed, refused, full, flushed, all_flushed, passed, viewed, found, listed, measured, disk_fault, stopped, no_memory}
use Rattle.fts_steps.specs.Step.{unless_full, unless_stopped, commit_answer, batch_answer, optimize_answer, plain_answer, step_of, Lists, Finds, MayAnswer, entries_of, after, Call, after_call, after_all, Follows}
use Rattle.fts_sessions.specs.Query.{Search, looks_for, too_long, syntax_at, too_deep_at}
use Rattle.fts_sessions.specs.Request.{Request, opens, closes, rolls_back, changes, searches, syncs, optimizes, lists, blank, unknown, unread}
use Rattle.fts_sessions.specs.Table.{are_names, first_unknown, table_named, columns_named, change_of}
use Rattle.fts_sessions.specs.View.{view_of_schema}
use Rattle.fts_sessions.specs.Transaction.{Transaction, changes_in}
use Rattle.fts_sessions.specs.Conversation.{Next, asks, ends, reply_to, search_begins, unknown_column, unknown_name, unless_unknown, known_change, change_begins, commit_begins, if_all_named, list_begins, begins, begun_by, target_of, last_answer, sync_next, leaves_open, optimized as told_optimized, optimize_next, words_in, next, Converses}
use Rattle.fts_sessions.specs.Execute.{Says}
use Rattle.fts_sessions.specs.Seen.{number_told, IsBehind}
use Rattle.fts_sessions.proofs.Going.{last_behind}

-- how many commits there are
abbrev pub count_of : Running → ℕ
count_of running = length running.state.commits

-- ---- commits only come

more_commits : (running : Running) (what : What) → count_of running ≤ count_of (with_what running what)
more_commits running (made commit) = let all = length_push running.state.commits commit in omega (arith, all)
more_commits running batched = omega arith
more_commits running optimized = omega arith
more_commits running (failed faults doubt) = omega arith
more_commits running (batch_failed faults) = omega arith
more_commits running (optimize_failed faults) = omega arith
more_commits running (read_failed faults) = omega arith

grown_commits : (running : Running) (entries : List Entry) → count_of running ≤ count_of (grown running entries)
grown_commits running [] = omega arith
grown_commits running (entry ∷ entries) =
    let here = more_commits running entry.what in let rest = grown_commits (with_what running entry.what) entries in omega (arith, here, rest)

call_commits : (running : Running) (call : Call) → count_of running ≤ count_of (after_call running call)
call_commits running call =
    let before = grown_commits running call.more in
    let behind = grown_commits (grown running call.more) (entries_of 0 call.ask call.answer) in
    omega (arith, before, behind)

pub never_falls : (running : Running) (calls : List Call) → count_of running ≤ count_of (after_all running calls)
never_falls running [] = omega arith
never_falls running (call ∷ calls) =
    let here = call_commits running call in let rest = never_falls (after_call running call) calls in omega (arith, here, rest)

-- ---- what an answer tells

abbrev Tells : Running → Ask → Answer → Type 0
Tells running ask (committed number) = (number ≡ count_of running + 1) × (count_of (after running ask (committed number)) ≡ count_of running + 1)
Tells running ask (found number docs) = number ≡ count_of running
Tells running ask (listed number listing) = number ≡ count_of running
Tells running ask (flushed through commits) =
    (commits ≡ count_of running) × (through ≡ next_flushed running) × (running.index.flushed < count_of running) × (ask ≡ to_sync)
Tells running ask (all_flushed commits) = commits ≡ count_of running
Tells running ask (refused why) = Unit {0}
Tells running ask (full end_) = Unit {0}
Tells running ask (passed step) = Unit {0}
Tells running ask (viewed view) = Unit {0}
Tells running ask (measured size) = Unit {0}
Tells running ask (disk_fault faults) = Unit {0}
Tells running ask (stopped faults) = Unit {0}
Tells running ask no_memory = Unit {0}

stopped_tells : (running : Running) (ask : Ask) (s : Option ℕ) (answer : Answer) → Tells running ask answer → Tells running ask (unless_stopped s answer)
stopped_tells running ask None answer tells = tells
stopped_tells running ask (Some faults) answer tells = tt

full_tells : (running : Running) (ask : Ask) (limits : Limits) (end_ : ℕ) (answer : Answer) → Tells running ask answer → Tells running ask (unless_full limits end_ answer)
full_tells running ask limits end_ answer tells = by_test (nat_lt limits.log_bytes end_)
  where
    by_test : (b : Bool) → Tells running ask (if b then full end_ else answer)
    by_test true = tt
    by_test false = tells

commit_tells : (running : Running) (limits : Limits) (commit : Commit) (result : Result Rows Refusal) → Tells running (to_commit commit) (commit_answer limits running.state commit result)
commit_tells running limits commit (Err why) = tt
commit_tells running limits commit (Ok rows) =
    full_tells running (to_commit commit) limits (end_after running.state commit) (committed (count_of running + 1)) (refl, length_push running.state.commits commit)

above : (a b : ℕ) → nat_lt a b ≡ true → a < b
above a b less = grind (arith, nat_tests)

not_above : (a b : ℕ) → nat_lt a b ≡ false → b ≤ a
not_above a b less = grind (arith, nat_tests)

batch_tells : (running : Running) (limits : Limits) → Tells running to_sync (batch_answer limits running)
batch_tells running limits = by_test (nat_lt running.index.flushed (count_of running)) refl
  where
    by_test : (b : Bool) → nat_lt running.index.flushed (count_of running) ≡ b
        → Tells running to_sync
        (if b then unless_full limits (index_end_after running.state (next_batch running)) (flushed (next_flushed running) (count_of running)) else all_flushed (count_of running))
    by_test true is =
        full_tells running to_sync limits (index_end_after running.state (next_batch running)) (flushed (next_flushed running) (count_of running))
        (refl, refl, above running.index.flushed (count_of running) is, refl)
    by_test false is = refl

optimize_tells : (running : Running) (limits : Limits) (entries : List IndexEntry) → Tells running to_optimize (optimize_answer limits running.state entries)
optimize_tells running limits [] = tt
optimize_tells running limits (entry ∷ entries) = full_tells running to_optimize limits (index_end_after running.state entry) (passed (step_of entry)) tt

abbrev TellsSome : Running → Ask → Option Answer → Type 0
TellsSome running ask None = Unit {0}
TellsSome running ask (Some answer) = Tells running ask answer

plain_tells : (limits : Limits) (running : Running) (ask : Ask) → TellsSome running ask (plain_answer limits running ask)
plain_tells limits running (to_commit commit) = stopped_tells running (to_commit commit) running.stopped
    (commit_answer limits running.state commit (after_commit limits commit (replay running.state.commits)))
    (commit_tells running limits commit (after_commit limits commit (replay running.state.commits)))
plain_tells limits running to_sync = stopped_tells running to_sync running.stopped (batch_answer limits running) (batch_tells running limits)
plain_tells limits running to_optimize = stopped_tells running to_optimize running.stopped (optimize_answer limits running.state (next_optimized running))
    (optimize_tells running limits (next_optimized running))
plain_tells limits running (to_view asked) = tt
plain_tells limits running (to_find terms) = tt
plain_tells limits running (to_list kind) = tt
plain_tells limits running to_measure = tt

listed_count : (running : Running) (ask : Ask) (number : ℕ) (listing : Listing) → Lists running ask number listing → number ≡ count_of running
listed_count running (to_list kind) number listing is = is.0
listed_count running (to_commit commit) number listing is = absurd is
listed_count running to_sync number listing is = absurd is
listed_count running to_optimize number listing is = absurd is
listed_count running (to_view asked) number listing is = absurd is
listed_count running (to_find terms) number listing is = absurd is
listed_count running to_measure number listing is = absurd is

found_count : (running : Running) (ask : Ask) (number : ℕ) (docs : List ℕ) → Finds running ask number docs → number ≡ count_of running
found_count running (to_find terms) number docs is = is.0
found_count running (to_commit commit) number docs is = absurd is
found_count running to_sync number docs is = absurd is
found_count running to_optimize number docs is = absurd is
found_count running (to_view asked) number docs is = absurd is
found_count running (to_list kind) number docs is = absurd is
found_count running to_measure number docs is = absurd is

told_plain : (limits : Limits) (running : Running) (ask : Ask) (answer : Answer) → plain_answer limits running ask ≡ Some answer → Tells running ask answer
told_plain limits running ask answer is = subst (TellsSome running ask) is (plain_tells limits running ask)

answer_tells : (limits : Limits) (running : Running) (ask : Ask) (answer : Answer) → MayAnswer limits running ask answer → Tells running ask answer
answer_tells limits running ask (committed number) may = told_plain limits running ask (committed number) may
answer_tells limits running ask (found number docs) may = found_count running ask number docs may
answer_tells limits running ask (flushed through commits) may = told_plain limits running ask (flushed through commits) may
answer_tells limits running ask (all_flushed commits) may = told_plain limits running ask (all_flushed commits) may
answer_tells limits running ask (listed number listing) may = listed_count running ask number listing may
answer_tells limits running ask (refused why) may = tt
answer_tells limits running ask (full end_) may = tt
answer_tells limits running ask (passed step) may = tt
answer_tells limits running ask (viewed view) may = tt
answer_tells limits running ask (measured size) may = tt
answer_tells limits running ask (disk_fault faults) may = tt
answer_tells limits running ask (stopped faults) may = tt
answer_tells limits running ask no_memory may = tt

-- a commit has the next number
pub commit_counts : (limits : Limits) (running : Running) (commit : Commit) (number : ℕ) → MayAnswer limits running (to_commit commit) (committed number) → number ≡ count_of running + 1
commit_counts limits running commit number may = (answer_tells limits running (to_commit commit) (committed number) may).0

-- ---- what a reply tells

-- a reply of some steps is behind what was seen, and tells of no more commits than there are now
abbrev pub Rises : ℕ → ℕ → Reply → Type 0
Rises seen now told = IsBehind seen told × (number_told told ≤ now)

-- a reply that tells of no commits
abbrev IsQuiet : Reply → Type 0
IsQuiet (reply.Committed number) = ⊥
IsQuiet (reply.CommittedAndBegun number) = ⊥
IsQuiet (reply.Found number docs) = ⊥
IsQuiet (reply.Listed number listing) = ⊥
IsQuiet (reply.Synced through) = ⊥
IsQuiet reply.Begun = Unit {0}
IsQuiet (reply.Buffered count) = Unit {0}
IsQuiet reply.NothingToCommit = Unit {0}
IsQuiet (reply.RolledBack count) = Unit {0}
IsQuiet (reply.TooManyChanges count) = Unit {0}
IsQuiet reply.NothingToOptimize = Unit {0}
IsQuiet (reply.Optimized words finished) = Unit {0}
IsQuiet (reply.Refused why) = Unit {0}
IsQuiet (reply.LogFull end_) = Unit {0}
IsQuiet reply.Nothing = Unit {0}
IsQuiet (reply.Syntax place) = Unit {0}
IsQuiet (reply.NoSuchTable name) = Unit {0}
IsQuiet (reply.NoSuchColumn name) = Unit {0}
IsQuiet reply.WrongColumns = Unit {0}
IsQuiet (reply.QuerySyntax place) = Unit {0}
IsQuiet (reply.QueryTooLong count) = Unit {0}
IsQuiet (reply.QueryTooDeep place) = Unit {0}
IsQuiet reply.LineTooLong = Unit {0}
IsQuiet reply.NoMemory = Unit {0}
IsQuiet reply.DiskFault = Unit {0}
IsQuiet (reply.Stopped faults) = Unit {0}

quiet_rises : (seen now : ℕ) (told : Reply) → IsQuiet told → Rises seen now told
quiet_rises seen now (reply.Committed number) quiet = absurd quiet
quiet_rises seen now (reply.CommittedAndBegun number) quiet = absurd quiet
quiet_rises seen now (reply.Found number docs) quiet = absurd quiet
quiet_rises seen now (reply.Listed number listing) quiet = absurd quiet
quiet_rises seen now (reply.Synced through) quiet = absurd quiet
quiet_rises seen now reply.Begun quiet = (tt, omega arith)
quiet_rises seen now (reply.Buffered count) quiet = (tt, omega arith)
quiet_rises seen now reply.NothingToCommit quiet = (tt, omega arith)
quiet_rises seen now (reply.RolledBack count) quiet = (tt, omega arith)
quiet_rises seen now (reply.TooManyChanges count) quiet = (tt, omega arith)
quiet_rises seen now reply.NothingToOptimize quiet = (tt, omega arith)
quiet_rises seen now (reply.Optimized words finished) quiet = (tt, omega arith)
quiet_rises seen now (reply.Refused why) quiet = (tt, omega arith)
quiet_rises seen now (reply.LogFull end_) quiet = (tt, omega arith)
quiet_rises seen now reply.Nothing quiet = (tt, omega arith)
quiet_rises seen now (reply.Syntax place) quiet = (tt, omega arith)
quiet_rises seen now (reply.NoSuchTable name) quiet = (tt, omega arith)
quiet_rises seen now (reply.NoSuchColumn name) quiet = (tt, omega arith)
quiet_rises seen now reply.WrongColumns quiet = (tt, omega arith)
quiet_rises seen now (reply.QuerySyntax place) quiet = (tt, omega arith)
quiet_rises seen now (reply.QueryTooLong count) quiet = (tt, omega arith)
quiet_rises seen now (reply.QueryTooDeep place) quiet = (tt, omega arith)
quiet_rises seen now reply.LineTooLong quiet = (tt, omega arith)
quiet_rises seen now reply.NoMemory quiet = (tt, omega arith)
quiet_rises seen now reply.DiskFault quiet = (tt, omega arith)
quiet_rises seen now (reply.Stopped faults) quiet = (tt, omega arith)

-- an answer to what is no batch
abbrev IsPlainAsk : Ask → Type 0
IsPlainAsk to_sync = ⊥
IsPlainAsk (to_commit commit) = Unit {0}
IsPlainAsk to_optimize = Unit {0}
IsPlainAsk (to_view asked) = Unit {0}
IsPlainAsk (to_find terms) = Unit {0}
IsPlainAsk (to_list kind) = Unit {0}
IsPlainAsk to_measure = Unit {0}

answer_rises : (running : Running) (seen : ℕ) (ask : Ask) (answer : Answer) → seen ≤ count_of running → (ask ≡ to_sync → (through commits : ℕ) → answer ≡ flushed through commits → ⊥)
    → Tells running ask answer → Rises seen (count_of (after running ask answer)) (reply_to answer)
answer_rises running seen ask (committed number) less other tells =
    let number_is = tells.0 in let count = tells.1 in (omega (arith, less, number_is), omega (arith, number_is, count))
answer_rises running seen ask (found number docs) less other tells =
    let more = grown_commits running (entries_of 0 ask (found number docs)) in (omega (arith, less, tells), omega (arith, tells, more))
answer_rises running seen ask (listed number listing) less other tells =
    let more = grown_commits running (entries_of 0 ask (listed number listing)) in (omega (arith, less, tells), omega (arith, tells, more))
answer_rises running seen ask (all_flushed commits) less other tells =
    let more = grown_commits running (entries_of 0 ask (all_flushed commits)) in (omega (arith, less, tells), omega (arith, tells, more))
answer_rises running seen ask (flushed through commits) less other tells = absurd (other tells.3 through commits refl)
answer_rises running seen ask (refused why) less other tells = (tt, omega arith)
answer_rises running seen ask (full end_) less other tells = (tt, omega arith)
answer_rises running seen ask (passed step) less other tells = (tt, omega arith)
answer_rises running seen ask (viewed view) less other tells = (tt, omega arith)
answer_rises running seen ask (measured size) less other tells = (tt, omega arith)
answer_rises running seen ask (disk_fault faults) less other tells = (tt, omega arith)
answer_rises running seen ask (stopped faults) less other tells = (tt, omega arith)
answer_rises running seen ask no_memory less other tells = (tt, omega arith)

-- and so it is of what tells a BEGIN
begun_rises : (running : Running) (seen : ℕ) (ask : Ask) (answer : Answer) → seen ≤ count_of running → (ask ≡ to_sync → (through commits : ℕ) → answer ≡ flushed through commits → ⊥)
    → Tells running ask answer → Rises seen (count_of (after running ask answer)) (begun_by answer)
begun_rises running seen ask (committed number) less other tells =
    let number_is = tells.0 in let count = tells.1 in (omega (arith, less, number_is), omega (arith, number_is, count))
begun_rises running seen ask (refused why) less other tells = answer_rises running seen ask (refused why) less other tells
begun_rises running seen ask (full end_) less other tells = answer_rises running seen ask (full end_) less other tells
begun_rises running seen ask (flushed through commits) less other tells = answer_rises running seen ask (flushed through commits) less other tells
begun_rises running seen ask (all_flushed commits) less other tells = answer_rises running seen ask (all_flushed commits) less other tells
begun_rises running seen ask (passed step) less other tells = answer_rises running seen ask (passed step) less other tells
begun_rises running seen ask (viewed view) less other tells = answer_rises running seen ask (viewed view) less other tells
begun_rises running seen ask (found number docs) less other tells = answer_rises running seen ask (found number docs) less other tells
begun_rises running seen ask (listed number listing) less other tells = answer_rises running seen ask (listed number listing) less other tells
begun_rises running seen ask (measured size) less other tells = answer_rises running seen ask (measured size) less other tells
begun_rises running seen ask (disk_fault faults) less other tells = answer_rises running seen ask (disk_fault faults) less other tells
begun_rises running seen ask (stopped faults) less other tells = answer_rises running seen ask (stopped faults) less other tells
begun_rises running seen ask no_memory less other tells = answer_rises running seen ask no_memory less other tells

-- ---- requests of one step at most

-- it makes a step that is no batch, or ends with a reply that tells of no commits
abbrev IsGood : Next → Type 0
IsGood (asks ask) = IsPlainAsk ask
IsGood (ends told) = IsQuiet told

abbrev AreQuiet : Option Reply → Type 0
AreQuiet None = Unit {0}
AreQuiet (Some told) = IsQuiet told

unless_good : (refusal : Option Reply) (follows : Next) → AreQuiet refusal → IsGood follows → IsGood (unless_unknown refusal follows)
unless_good None follows quiet good = good
unless_good (Some told) follows quiet good = quiet

column_quiet : (name : Option (List ℕ)) → AreQuiet (unknown_column name)
column_quiet None = tt
column_quiet (Some name) = tt

name_quiet : (columns : List (List ℕ)) (table : List ℕ) (names : List (List ℕ)) → AreQuiet (unknown_name columns table names)
name_quiet columns table names = by_test (str_eq_ignore_ascii_case table (codes "docs"))
  where
    by_test : (here : Bool) → AreQuiet (if here then unknown_column (first_unknown columns names) else Some (reply.NoSuchTable table))
    by_test true = column_quiet (first_unknown columns names)
    by_test false = tt

search_good : (search : Search) → IsGood (search_begins search)
search_good (looks_for terms) = tt
search_good (too_long n) = tt
search_good (syntax_at place) = tt
search_good (too_deep_at place) = tt

all_named_good : (named : Bool) (follows : Next) → IsGood follows → IsGood (if_all_named named follows)
all_named_good true follows good = good
all_named_good false follows good = tt

list_good : (schema view : List ℕ) (which : Option ListingKind) → IsGood (list_begins schema view which)
list_good schema view None = tt
list_good schema view (Some which) = tt

commit_good : (told : Reply) (all : List Change) → IsQuiet told → IsGood (commit_begins told all)
commit_good told [] quiet = quiet
commit_good told (change ∷ all) quiet = tt

buffered_good : (few : Bool) (count : ℕ) → IsQuiet (if few then reply.Buffered count else reply.TooManyChanges count)
buffered_good true count = tt
buffered_good false count = tt

change_good : (transaction : Transaction) (refusal : Option Reply) (change : Option Change) → AreQuiet refusal → IsGood (change_begins transaction (known_change refusal change))
change_good transaction (Some told) change quiet = quiet
change_good transaction None None quiet = tt
change_good None None (Some change) quiet = tt
change_good (Some all) None (Some change) quiet = buffered_good (nat_lt (length all) 1000) (length all + 1)

one_end : (a b : Reply) → ends a ≡ ends b → a ≡ b
one_end a b same = cc

one_asked : (a b : Ask) → asks a ≡ asks b → a ≡ b
one_asked a b same = cc

no_end : (ask : Ask) (told : Reply) → asks ask ≡ ends told → ⊥
no_end ask told same = cc

no_batch : (ask : Ask) → IsPlainAsk ask → ask ≡ to_sync → ⊥
no_batch ask plain is = subst IsPlainAsk is plain

module _ (limits : Limits) (settings : Settings) (transaction : Transaction) where
  -- a call, whatever others added before it
  call_rises : (tell : Answer → Reply)
      → ((running : Running) (seen : ℕ) (ask : Ask) (answer : Answer) → seen ≤ count_of running → (ask ≡ to_sync → (through commits : ℕ) → answer ≡ flushed through commits → ⊥)
      → Tells running ask answer → Rises seen (count_of (after running ask answer)) (tell answer))
      → (running : Running) (seen : ℕ) (call : Call) → seen ≤ count_of running → (call.ask ≡ to_sync → (through commits : ℕ) → call.answer ≡ flushed through commits → ⊥)
      → MayAnswer limits (grown running call.more) call.ask call.answer → Rises seen (count_of (after_call running call)) (tell call.answer)
  call_rises tell rises running seen call less other may =
      let before = grown_commits running call.more in
      rises (grown running call.more) seen call.ask call.answer (omega (arith, less, before)) other (answer_tells limits (grown running call.more) call.ask call.answer may)

  one_step : (request : Request) (tell : Answer → Reply) → IsGood (begins settings transaction request) → ((answer : Answer) → next settings transaction request (answer ∷ []) ≡ ends (tell answer))
      → ((running : Running) (seen : ℕ) (ask : Ask) (answer : Answer) → seen ≤ count_of running → (ask ≡ to_sync → (through commits : ℕ) → answer ≡ flushed through commits → ⊥)
      → Tells running ask answer → Rises seen (count_of (after running ask answer)) (tell answer))
      → (running : Running) (seen : ℕ) (calls : List Call) (told : Reply) → seen ≤ count_of running → Converses settings transaction request [] calls told
      → Follows limits running calls → Rises seen (count_of (after_all running calls)) told
  one_step request tell good tells rises running seen [] told less says follows =
      quiet_rises seen (count_of running) told (subst IsGood says good)
  one_step request tell good tells rises running seen (call ∷ []) told less says follows =
      subst (λ (r : Reply). Rises seen (count_of (after_call running call)) r) (one_end (tell call.answer) told (sym (tells call.answer) ∙ says.1))
      (call_rises tell rises running seen call less (λ is through commits flushes. no_batch call.ask (subst IsGood says.0 good) is) follows.0)
  one_step request tell good tells rises running seen (call ∷ other ∷ calls) told less says follows =
      absurd (no_end other.ask (tell call.answer) (sym says.1.0 ∙ tells call.answer))

  -- ---- an OPTIMIZE

  optimized_quiet : (count words : ℕ) (step : OptimizeStep) → IsQuiet (told_optimized count words step)
  optimized_quiet count words did.Began = tt
  optimized_quiet count words did.Word = tt
  optimized_quiet count words did.Finished = tt
  optimized_quiet count words did.Nothing = by_test (nat_lt 1 count)
    where
      by_test : (b : Bool) → IsQuiet (if b then reply.Optimized words true else reply.NothingToOptimize)
      by_test true = tt
      by_test false = tt

  -- behind its last answer it asks for one step more, or ends with a reply that rises if that which tells the answer does
  abbrev Ends : ℕ → ℕ → Next → Type 0
  Ends seen now (asks ask) = ask ≡ to_optimize
  Ends seen now (ends told) = Rises seen now told

  optimize_ends : (seen now most count words : ℕ) (last : Answer) → Rises seen now (reply_to last) → Ends seen now (optimize_next most count words last)
  optimize_ends seen now most count words (passed step) rises = by_test ((leaves_open step && nat_lt words most) && nat_lt count (most + 2))
    where
      by_test : (b : Bool) → Ends seen now (if b then asks to_optimize else ends (told_optimized count words step))
      by_test true = refl
      by_test false = quiet_rises seen now (told_optimized count words step) (optimized_quiet count words step)
  optimize_ends seen now most count words (committed number) rises = rises
  optimize_ends seen now most count words (refused why) rises = rises
  optimize_ends seen now most count words (full end_) rises = rises
  optimize_ends seen now most count words (flushed through commits) rises = rises
  optimize_ends seen now most count words (all_flushed commits) rises = rises
  optimize_ends seen now most count words (viewed view) rises = rises
  optimize_ends seen now most count words (found number docs) rises = rises
  optimize_ends seen now most count words (listed number listing) rises = rises
  optimize_ends seen now most count words (measured size) rises = rises
  optimize_ends seen now most count words (disk_fault faults) rises = rises
  optimize_ends seen now most count words (stopped faults) rises = rises
  optimize_ends seen now most count words no_memory rises = rises

  optimize_from : (table : List ℕ) (running : Running) (seen : ℕ) (first : Answer) (rest : List Answer) (calls : List Call) (told : Reply) → seen ≤ count_of running
      → Rises seen (count_of running) (reply_to (last_answer first rest)) → Converses settings transaction (optimizes table) (first ∷ rest) calls told
      → Follows limits running calls → Rises seen (count_of (after_all running calls)) told
  optimize_from table running seen first rest [] told less rises says follows =
      subst (Ends seen (count_of running)) says
      (optimize_ends seen (count_of running) settings.optimize_words (length (first ∷ rest)) (words_in (first ∷ rest)) (last_answer first rest) rises)
  optimize_from table running seen first rest (call ∷ calls) told less rises says follows =
      let asked : call.ask ≡ to_optimize = subst (Ends seen (count_of running)) says.0
      (optimize_ends seen (count_of running) settings.optimize_words (length (first ∷ rest)) (words_in (first ∷ rest)) (last_answer first rest) rises) in
      let more = call_commits running call in
      optimize_from table (after_call running call) seen first (rest ++ call.answer ∷ []) calls told (omega (arith, less, more))
      (subst (λ (a : Answer). Rises seen (count_of (after_call running call)) (reply_to a)) (sym (last_behind first rest call.answer))
      (call_rises reply_to answer_rises running seen call less (λ is. absurd (let no : to_optimize ≡ to_sync = sym asked ∙ is in cc)) follows.0))
      says.1 follows.1

  optimize_rises : (table : List ℕ) (running : Running) (seen : ℕ) (calls : List Call) (told : Reply) → seen ≤ count_of running → Converses settings transaction (optimizes table) [] calls told
      → Follows limits running calls → Rises seen (count_of (after_all running calls)) told
  optimize_rises table running seen [] told less says follows =
      quiet_rises seen (count_of running) told
      (subst IsGood says (unless_good (unknown_name settings.columns table []) (asks to_optimize) (name_quiet settings.columns table []) tt))
  optimize_rises table running seen (call ∷ calls) told less says follows =
      let plain : IsPlainAsk call.ask = subst IsGood says.0 (unless_good (unknown_name settings.columns table []) (asks to_optimize) (name_quiet settings.columns table []) tt) in
      let more = call_commits running call in
      optimize_from table (after_call running call) seen call.answer [] calls told (omega (arith, less, more))
      (call_rises reply_to answer_rises running seen call less (λ is through commits flushes. no_batch call.ask plain is) follows.0)
      says.1 follows.1

  -- ---- a SYNC

  covered_all : (limit born : ℕ) (turns : List Turn) → covered_within limit born turns ≤ length turns
  covered_all limit born [] = omega arith
  covered_all limit born (turn ∷ turns) = by_test (covered_all limit (born + length turn.births) turns) (nat_lt limit (born + length turn.births))
    where
      by_test : covered_within limit (born + length turn.births) turns ≤ length turns → (b : Bool)
          → (if b then 0 else 1 + covered_within limit (born + length turn.births) turns) ≤ length (turn ∷ turns)
      by_test rest true = omega arith
      by_test rest false = omega (arith, rest)

  -- a batch flushes one commit at least, and no more than there are
  flushes_one : (running : Running) → running.index.flushed < next_flushed running
  flushes_one running =
      let some = le-max_left 1 (covered_within running.state.settings.batch_docs 0 (unflushed (turns_of running.state) running.index)) in omega (arith, some)

  flushes_within : (running : Running) → running.index.flushed < count_of running → next_flushed running ≤ count_of running
  flushes_within running less =
      let limit = running.state.settings.batch_docs in
      let left = unflushed (turns_of running.state) running.index in
      let all = turns_count no_rows running.state.commits in
      let count : length left ≡ length (turns_of running.state) - running.index.flushed = length-drop running.index.flushed (turns_of running.state) in
      let few : covers limit left ≤ length left = max-le (omega (arith, less, all, count)) (covered_all limit 0 left) in
      omega (arith, less, all, count, few)

  -- no step of a pass moves how far the index is flushed
  steps_stay : (turns : List Turn) (s : IndexState) (ws : List (List ℕ)) (opened work : Bool)
      → (fold (after_entry turns) s (if opened then pass_step s ws ∷ [] else if work then begun ∷ [] else [])).flushed ≡ s.flushed
  steps_stay turns s [] true work = refl
  steps_stay turns s (w ∷ ws) true work = refl
  steps_stay turns s ws false true = refl
  steps_stay turns s ws false false = refl

  flushed_by : (running : Running) (what : What) → running.index.flushed ≤ (with_what running what).index.flushed
  flushed_by running (made commit) = omega arith
  flushed_by running batched = let one = flushes_one running in let more : running.index.flushed ≤ next_flushed running = omega (arith, one) in more
  flushed_by running optimized =
      let same = steps_stay (turns_of running.state) running.index (words_left running.index (words_named running.state.entries)) running.index.is_open (has_work running.index (words_named running.state.entries)) in
      omega (arith, same)
  flushed_by running (failed faults doubt) = omega arith
  flushed_by running (batch_failed faults) = omega arith
  flushed_by running (optimize_failed faults) = omega arith
  flushed_by running (read_failed faults) = omega arith

  flushed_more : (running : Running) (entries : List Entry) → running.index.flushed ≤ (grown running entries).index.flushed
  flushed_more running [] = omega arith
  flushed_more running (entry ∷ entries) =
      let here = flushed_by running entry.what in let rest = flushed_more (with_what running entry.what) entries in omega (arith, here, rest)

  -- behind so many answers, the last of which flushed, as many commits are flushed at least, and all that the last one tells
  record IsFlushed (running : Running) (seen target k through : ℕ) : Type 0 where
    many : k ≤ through
    flushed_is : through ≤ running.index.flushed
    within : through ≤ count_of running
    goal : seen ≤ target

  abbrev Flushes : Running → ℕ → ℕ → ℕ → Answer → Type 0
  Flushes running seen target k (flushed through commits) = IsFlushed running seen target k through
  Flushes running seen target k (committed number) = Rises seen (count_of running) (reply_to (committed number))
  Flushes running seen target k (refused why) = Rises seen (count_of running) (reply_to (refused why))
  Flushes running seen target k (full end_) = Rises seen (count_of running) (reply_to (full end_))
  Flushes running seen target k (all_flushed commits) = Rises seen (count_of running) (reply_to (all_flushed commits))
  Flushes running seen target k (passed step) = Rises seen (count_of running) (reply_to (passed step))
  Flushes running seen target k (viewed view) = Rises seen (count_of running) (reply_to (viewed view))
  Flushes running seen target k (found number docs) = Rises seen (count_of running) (reply_to (found number docs))
  Flushes running seen target k (listed number listing) = Rises seen (count_of running) (reply_to (listed number listing))
  Flushes running seen target k (measured size) = Rises seen (count_of running) (reply_to (measured size))
  Flushes running seen target k (disk_fault faults) = Rises seen (count_of running) (reply_to (disk_fault faults))
  Flushes running seen target k (stopped faults) = Rises seen (count_of running) (reply_to (stopped faults))
  Flushes running seen target k no_memory = Rises seen (count_of running) (reply_to no_memory)

  abbrev EndsSync : ℕ → ℕ → Next → Type 0
  EndsSync seen now (asks ask) = ask ≡ to_sync
  EndsSync seen now (ends told) = Rises seen now told

  sync_ends : (running : Running) (seen target k : ℕ) (last : Answer) → Flushes running seen target k last → EndsSync seen (count_of running) (sync_next target k last)
  sync_ends running seen target k (flushed through commits) far = by_tests (nat_lt through target) (nat_lt k target) refl refl
    where
      by_tests : (b few : Bool) → nat_lt through target ≡ b → nat_lt k target ≡ few
          → EndsSync seen (count_of running) (if b && few then asks to_sync else ends (reply.Synced through))
      by_tests true true is is' = refl
      by_tests true false is is' =
          let more = not_above k target is' in let many = far.many in let goal = far.goal in let within = far.within in (omega (arith, more, many, goal), omega (arith, within))
      by_tests false few is is' =
          let more = not_above through target is in let goal = far.goal in let within = far.within in (omega (arith, more, goal), omega (arith, within))
  sync_ends running seen target k (committed number) rises = rises
  sync_ends running seen target k (refused why) rises = rises
  sync_ends running seen target k (full end_) rises = rises
  sync_ends running seen target k (all_flushed commits) rises = rises
  sync_ends running seen target k (passed step) rises = rises
  sync_ends running seen target k (viewed view) rises = rises
  sync_ends running seen target k (found number docs) rises = rises
  sync_ends running seen target k (listed number listing) rises = rises
  sync_ends running seen target k (measured size) rises = rises
  sync_ends running seen target k (disk_fault faults) rises = rises
  sync_ends running seen target k (stopped faults) rises = rises
  sync_ends running seen target k no_memory rises = rises

  -- one batch more
  batch_more : (running : Running) (seen target k before : ℕ) (answer : Answer) → seen ≤ count_of running → seen ≤ target → k ≤ running.index.flushed
      → MayAnswer limits running to_sync answer → Flushes (after running to_sync answer) seen target (k + 1) answer
  batch_more running seen target k before (flushed through commits) less goal many may =
      let tells = answer_tells limits running to_sync (flushed through commits) may in
      let one = flushes_one running in
      let all = flushes_within running tells.2 in
      let through_is = tells.1 in
      record {
        many = omega (arith, many, one, through_is);
        flushed_is = let done : through ≤ next_flushed running = omega (arith, through_is) in done;
        within = omega (arith, all, through_is);
        goal = goal;
      }
  batch_more running seen target k before (committed number) less goal many may = answer_rises running seen to_sync (committed number) less (λ is through commits flushes. cc) (answer_tells limits running to_sync (committed number) may)
  batch_more running seen target k before (refused why) less goal many may = answer_rises running seen to_sync (refused why) less (λ is through commits flushes. cc) (answer_tells limits running to_sync (refused why) may)
  batch_more running seen target k before (full end_) less goal many may = answer_rises running seen to_sync (full end_) less (λ is through commits flushes. cc) (answer_tells limits running to_sync (full end_) may)
  batch_more running seen target k before (all_flushed commits) less goal many may = answer_rises running seen to_sync (all_flushed commits) less (λ is through commits flushes. cc) (answer_tells limits running to_sync (all_flushed commits) may)
  batch_more running seen target k before (passed step) less goal many may = answer_rises running seen to_sync (passed step) less (λ is through commits flushes. cc) (answer_tells limits running to_sync (passed step) may)
  batch_more running seen target k before (viewed view) less goal many may = answer_rises running seen to_sync (viewed view) less (λ is through commits flushes. cc) (answer_tells limits running to_sync (viewed view) may)
  batch_more running seen target k before (found number docs) less goal many may = answer_rises running seen to_sync (found number docs) less (λ is through commits flushes. cc) (answer_tells limits running to_sync (found number docs) may)
  batch_more running seen target k before (listed number listing) less goal many may = answer_rises running seen to_sync (listed number listing) less (λ is through commits flushes. cc) (answer_tells limits running to_sync (listed number listing) may)
  batch_more running seen target k before (measured size) less goal many may = answer_rises running seen to_sync (measured size) less (λ is through commits flushes. cc) (answer_tells limits running to_sync (measured size) may)
  batch_more running seen target k before (disk_fault faults) less goal many may = answer_rises running seen to_sync (disk_fault faults) less (λ is through commits flushes. cc) (answer_tells limits running to_sync (disk_fault faults) may)
  batch_more running seen target k before (stopped faults) less goal many may = answer_rises running seen to_sync (stopped faults) less (λ is through commits flushes. cc) (answer_tells limits running to_sync (stopped faults) may)
  batch_more running seen target k before no_memory less goal many may = answer_rises running seen to_sync no_memory less (λ is through commits flushes. cc) (answer_tells limits running to_sync no_memory may)

  sync_from : (running : Running) (seen : ℕ) (first : Answer) (rest : List Answer) (calls : List Call) (told : Reply) → seen ≤ count_of running
      → Flushes running seen (target_of first) (length (first ∷ rest)) (last_answer first rest) → Converses settings transaction syncs (first ∷ rest) calls told
      → Follows limits running calls → Rises seen (count_of (after_all running calls)) told
  sync_from running seen first rest [] told less far says follows =
      subst (EndsSync seen (count_of running)) says (sync_ends running seen (target_of first) (length (first ∷ rest)) (last_answer first rest) far)
  sync_from running seen first rest (call ∷ calls) told less far says follows =
      let more = call_commits running call in
      sync_from (after_call running call) seen first (rest ++ call.answer ∷ []) calls told (omega (arith, less, more))
      (goes_on (last_answer first rest) far says.0) says.1 follows.1
    where
      next_flushes : (through : ℕ) → IsFlushed running seen (target_of first) (length (first ∷ rest)) through → call.ask ≡ to_sync
          → Flushes (after_call running call) seen (target_of first) (length (first ∷ (rest ++ call.answer ∷ []))) (last_answer first (rest ++ call.answer ∷ []))
      next_flushes through is asked =
          let here = grown running call.more in
          let may : MayAnswer limits (grown running call.more) to_sync call.answer = subst (λ (a : Ask). MayAnswer limits (grown running call.more) a call.answer) asked follows.0 in
          let many = is.many in
          let flushed_is = is.flushed_is in
          let further = flushed_more running call.more in
          let commits = grown_commits running call.more in
          let one = batch_more here seen (target_of first) (length (first ∷ rest)) 0 call.answer (omega (arith, less, commits)) is.goal (omega (arith, many, flushed_is, further)) may in
          let count : length (first ∷ rest) + 1 ≡ length (first ∷ (rest ++ call.answer ∷ [])) = (let all = length-append rest (call.answer ∷ []) in omega (arith, all)) in
          subst (λ (a : Answer). Flushes (after_call running call) seen (target_of first) (length (first ∷ (rest ++ call.answer ∷ []))) a) (sym (last_behind first rest call.answer))
          (subst (λ (n : ℕ). Flushes (after_call running call) seen (target_of first) n call.answer) count
          (subst (λ (a : Ask). Flushes (after (grown running call.more) a call.answer) seen (target_of first) (length (first ∷ rest) + 1) call.answer) (sym asked) one))

      goes_on : (last : Answer) → Flushes running seen (target_of first) (length (first ∷ rest)) last → sync_next (target_of first) (length (first ∷ rest)) last ≡ asks call.ask
          → Flushes (after_call running call) seen (target_of first) (length (first ∷ (rest ++ call.answer ∷ []))) (last_answer first (rest ++ call.answer ∷ []))
      goes_on (flushed through commits) is asked =
          next_flushes through is
          (subst (EndsSync seen (count_of running)) asked (sync_ends running seen (target_of first) (length (first ∷ rest)) (flushed through commits) is))
      goes_on (committed number) is asked = absurd (no_end call.ask (reply_to (committed number)) (sym asked))
      goes_on (refused why) is asked = absurd (no_end call.ask (reply_to (refused why)) (sym asked))
      goes_on (full end_) is asked = absurd (no_end call.ask (reply_to (full end_)) (sym asked))
      goes_on (all_flushed commits) is asked = absurd (no_end call.ask (reply_to (all_flushed commits)) (sym asked))
      goes_on (passed step) is asked = absurd (no_end call.ask (reply_to (passed step)) (sym asked))
      goes_on (viewed view) is asked = absurd (no_end call.ask (reply_to (viewed view)) (sym asked))
      goes_on (found number docs) is asked = absurd (no_end call.ask (reply_to (found number docs)) (sym asked))
      goes_on (listed number listing) is asked = absurd (no_end call.ask (reply_to (listed number listing)) (sym asked))
      goes_on (measured size) is asked = absurd (no_end call.ask (reply_to (measured size)) (sym asked))
      goes_on (disk_fault faults) is asked = absurd (no_end call.ask (reply_to (disk_fault faults)) (sym asked))
      goes_on (stopped faults) is asked = absurd (no_end call.ask (reply_to (stopped faults)) (sym asked))
      goes_on no_memory is asked = absurd (no_end call.ask (reply_to no_memory) (sym asked))

  -- its first batch tells how many commits there are
  first_flushes : (running : Running) (seen : ℕ) (answer : Answer) → seen ≤ count_of running → MayAnswer limits running to_sync answer
      → Flushes (after running to_sync answer) seen (target_of answer) 1 answer
  first_flushes running seen (flushed through commits) less may =
      let tells = answer_tells limits running to_sync (flushed through commits) may in
      let all = tells.0 in
      batch_more running seen commits 0 0 (flushed through commits) less (omega (arith, less, all)) (omega arith) may
  first_flushes running seen (committed number) less may = answer_rises running seen to_sync (committed number) less (λ is through commits flushes. cc) (answer_tells limits running to_sync (committed number) may)
  first_flushes running seen (refused why) less may = answer_rises running seen to_sync (refused why) less (λ is through commits flushes. cc) (answer_tells limits running to_sync (refused why) may)
  first_flushes running seen (full end_) less may = answer_rises running seen to_sync (full end_) less (λ is through commits flushes. cc) (answer_tells limits running to_sync (full end_) may)
  first_flushes running seen (all_flushed commits) less may = answer_rises running seen to_sync (all_flushed commits) less (λ is through commits flushes. cc) (answer_tells limits running to_sync (all_flushed commits) may)
  first_flushes running seen (passed step) less may = answer_rises running seen to_sync (passed step) less (λ is through commits flushes. cc) (answer_tells limits running to_sync (passed step) may)
  first_flushes running seen (viewed view) less may = answer_rises running seen to_sync (viewed view) less (λ is through commits flushes. cc) (answer_tells limits running to_sync (viewed view) may)
  first_flushes running seen (found number docs) less may = answer_rises running seen to_sync (found number docs) less (λ is through commits flushes. cc) (answer_tells limits running to_sync (found number docs) may)
  first_flushes running seen (listed number listing) less may = answer_rises running seen to_sync (listed number listing) less (λ is through commits flushes. cc) (answer_tells limits running to_sync (listed number listing) may)
  first_flushes running seen (measured size) less may = answer_rises running seen to_sync (measured size) less (λ is through commits flushes. cc) (answer_tells limits running to_sync (measured size) may)
  first_flushes running seen (disk_fault faults) less may = answer_rises running seen to_sync (disk_fault faults) less (λ is through commits flushes. cc) (answer_tells limits running to_sync (disk_fault faults) may)
  first_flushes running seen (stopped faults) less may = answer_rises running seen to_sync (stopped faults) less (λ is through commits flushes. cc) (answer_tells limits running to_sync (stopped faults) may)
  first_flushes running seen no_memory less may = answer_rises running seen to_sync no_memory less (λ is through commits flushes. cc) (answer_tells limits running to_sync no_memory may)

  sync_rises : (running : Running) (seen : ℕ) (calls : List Call) (told : Reply) → seen ≤ count_of running → Converses settings transaction syncs [] calls told
      → Follows limits running calls → Rises seen (count_of (after_all running calls)) told
  sync_rises running seen [] told less says follows = absurd (no_end to_sync told says)
  sync_rises running seen (call ∷ calls) told less says follows =
      let asked : call.ask ≡ to_sync = one_asked call.ask to_sync (sym says.0) in
      let may : MayAnswer limits (grown running call.more) to_sync call.answer = subst (λ (a : Ask). MayAnswer limits (grown running call.more) a call.answer) asked follows.0 in
      let commits = grown_commits running call.more in
      let more = call_commits running call in
      sync_from (after_call running call) seen call.answer [] calls told (omega (arith, less, more))
      (subst (λ (a : Ask). Flushes (after (grown running call.more) a call.answer) seen (target_of call.answer) 1 call.answer) (sym asked)
      (first_flushes (grown running call.more) seen call.answer (omega (arith, less, commits)) may))
      says.1 follows.1

  -- ---- any request

  request_rises : (request : Request) (running : Running) (seen : ℕ) (calls : List Call) (told : Reply) → seen ≤ count_of running → Converses settings transaction request [] calls told
      → Follows limits running calls → Rises seen (count_of (after_all running calls)) told
  request_rises opens = one_step opens begun_by (commit_good reply.Begun (changes_in transaction) tt) (λ answer. refl) begun_rises
  request_rises closes = one_step closes reply_to (commit_good reply.NothingToCommit (changes_in transaction) tt) (λ answer. refl) answer_rises
  request_rises rolls_back = one_step rolls_back reply_to tt (λ answer. refl) answer_rises
  request_rises (changes statement) = one_step (changes statement) reply_to
      (change_good transaction (unknown_name settings.columns (table_named statement) (columns_named statement)) (change_of settings.columns statement)
      (name_quiet settings.columns (table_named statement) (columns_named statement))) (λ answer. refl) answer_rises
  request_rises (searches table names search) = one_step (searches table names search) reply_to
      (unless_good (unknown_name settings.columns table names) (if_all_named (are_names settings.columns names) (search_begins search)) (name_quiet settings.columns table names)
      (all_named_good (are_names settings.columns names) (search_begins search) (search_good search))) (λ answer. refl) answer_rises
  request_rises syncs = sync_rises
  request_rises (optimizes table) = optimize_rises table
  request_rises (lists schema view) = one_step (lists schema view) reply_to (list_good schema view (view_of_schema schema view)) (λ answer. refl) answer_rises
  request_rises blank = one_step blank reply_to tt (λ answer. refl) answer_rises
  request_rises (unknown place) = one_step (unknown place) reply_to tt (λ answer. refl) answer_rises
  request_rises unread = one_step unread reply_to tt (λ answer. refl) answer_rises

-- what a line is told is behind what was seen
pub line_rises : (limits : Limits) (settings : Settings) (line : Line) (transaction left : Transaction) (running : Running) (seen : ℕ) (calls : List Call) (told : Reply)
    → seen ≤ count_of running → Says settings line transaction calls told left → Follows limits running calls → Rises seen (count_of (after_all running calls)) told
line_rises limits settings line transaction left running seen calls told less (inl (request, is, says, leaves)) follows =
    request_rises limits settings transaction request running seen calls told less says follows
line_rises limits settings line transaction left running seen calls told less (inr (none, want, stays)) follows =
    quiet_rises seen (count_of (after_all running calls)) told (subst IsQuiet (sym want) tt)
