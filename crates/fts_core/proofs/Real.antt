-- What is known of what runs: its index is right, with what is in doubt or without.
use Rattle.std.proofs.Common.{◌≡◌, ◌⊎◌, ℕ, List, [], ◌∷◌, ◌++◌, refl, ap, subst, sym, ◌∙◌, inl, inr}
use Rattle.std.proofs.lemmas.List.Sums.{fold-append}
use Rattle.std.specs.Prelude.{Option, Some, None, IsTrue, fold, ◌<◌, length}
use Rattle.fts_types.specs.declared.limits.Limits.{Limits}
use Rattle.fts_types.specs.Rules.{rules_of}
use Rattle.fts_commits.specs.Commit.{Commit}
use Rattle.fts_entries.specs.Entry.{IndexEntry, IndexState, after_entry, no_entries}
use Rattle.fts_entries.specs.Batch.{after_batch, next_entry}
use Rattle.fts_entries.proofs.Next.{is_next}
use Rattle.fts_steps.specs.State.{State, with_entries, turns_of, index_state, HasEntries}
use Rattle.fts_steps.specs.Right.{HasRightIndex}
use Rattle.fts_steps.specs.Running.{Running, What, made, batched, optimized, failed, batch_failed, optimize_failed, read_failed, with_what, next_batch, next_optimized, IsSure}
use Rattle.fts_steps.specs.declared.optimize.OptimizeStep.TheVariants.{Began, Word, Finished, Nothing}
use Rattle.fts_steps.specs.Step.{Ask, to_commit, to_sync, to_optimize, to_view, to_find, to_list, to_measure, Answer, committed, refused, full, flushed, all_flushed, passed, viewed, found, listed, measured, read_changes}
use Rattle.fts_steps.specs.Step.{disk_fault, stopped, no_memory, MayAnswer, plain_answer, would_write, changes_of}
use Rattle.fts_steps.proofs.Adding.{one_answer}
use Rattle.fts_steps.proofs.Growing.{batch_leaves, index_stays, right_stays}
use Rattle.fts_core.specs.Turns.{doubting}
use Rattle.fts_core.proofs.Between.{IsOne}
use Rattle.fts_core.proofs.Right.{AllKnown, sure_right, doubt_right, loose_right, batch_more, step_more, next_is_step, some_batch}
use Rattle.fts_core.proofs.Fitting.{told_goes, writes_goes}

-- what runs has a right index, of which the state is kept; at most one commit and one entry are in doubt
pub record IsReal (running : Running) : Type 0 where
  pub sure : IsSure running
  pub left : running.index ≡ index_state running.state
  pub one : IsOne running.doubt
  pub one' : IsOne running.loose
  pub right : HasRightIndex running

-- what a step may add
abbrev pub MayAdd : Limits → Running → What → Type 0
MayAdd limits running (made commit) = running.stopped ≡ None
MayAdd limits running batched = (running.stopped ≡ None) × IsTrue (would_write (plain_answer limits running to_sync))
MayAdd limits running optimized = running.stopped ≡ None
MayAdd limits running (failed faults doubt) = (running.stopped ≡ None) × ((commit : Commit) × (doubt ≡ commit ∷ []))
MayAdd limits running (batch_failed faults) = (running.stopped ≡ None) × IsTrue (would_write (plain_answer limits running to_sync))
MayAdd limits running (optimize_failed faults) = running.stopped ≡ None
MayAdd limits running (read_failed faults) = Unit {0}

abbrev pub AddsOne : Limits → Running → Ask → Answer → Type 0
AddsOne limits running ask answer = (changes_of ask answer ≡ []) ⊎ ((what : What) × (changes_of ask answer ≡ what ∷ []) × MayAdd limits running what)

wrote : (limits : Limits) (running : Running) (answer : Answer) → plain_answer limits running to_sync ≡ Some answer → IsTrue (would_write (Some answer))
    → IsTrue (would_write (plain_answer limits running to_sync))
wrote limits running answer is writes_ = subst (λ (a : Option Answer). IsTrue (would_write a)) (sym is) writes_

-- a step that reads adds nothing, or the fault of its read
adds_read : (limits : Limits) (running : Running) (answer : Answer) → (read_changes answer ≡ []) ⊎ ((what : What) × (read_changes answer ≡ what ∷ []) × MayAdd limits running what)
adds_read limits running (disk_fault faults) = inr (read_failed faults, refl, tt)
adds_read limits running (committed number) = inl refl
adds_read limits running (refused why) = inl refl
adds_read limits running (full end_) = inl refl
adds_read limits running (flushed through commits) = inl refl
adds_read limits running (all_flushed commits) = inl refl
adds_read limits running (passed step) = inl refl
adds_read limits running (viewed view) = inl refl
adds_read limits running (found number docs) = inl refl
adds_read limits running (listed number listing) = inl refl
adds_read limits running (measured size) = inl refl
adds_read limits running (stopped faults) = inl refl
adds_read limits running no_memory = inl refl

pub adds_one : (limits : Limits) (running : Running) (ask : Ask) (answer : Answer) → MayAnswer limits running ask answer → AddsOne limits running ask answer
adds_one limits running (to_commit commit) (committed number) may = inr (made commit, refl, told_goes running.stopped _ (committed number) (one_answer _ _ may) refl)
adds_one limits running (to_commit commit) (disk_fault faults) may = inr (failed faults (commit ∷ []), refl, (writes_goes running.stopped _ may, (commit, refl)))
adds_one limits running (to_commit commit) (refused why) may = inl refl
adds_one limits running (to_commit commit) (full end_) may = inl refl
adds_one limits running (to_commit commit) (flushed through commits) may = inl refl
adds_one limits running (to_commit commit) (all_flushed commits) may = inl refl
adds_one limits running (to_commit commit) (passed step) may = inl refl
adds_one limits running (to_commit commit) (viewed view) may = inl refl
adds_one limits running (to_commit commit) (found number docs) may = inl refl
adds_one limits running (to_commit commit) (listed number listing) may = inl refl
adds_one limits running (to_commit commit) (measured size) may = inl refl
adds_one limits running (to_commit commit) (stopped faults) may = inl refl
adds_one limits running (to_commit commit) no_memory may = inl refl
adds_one limits running to_sync (flushed through commits) may =
    inr (batched, refl, (told_goes running.stopped _ (flushed through commits) (one_answer _ _ may) refl, wrote limits running (flushed through commits) may refl))
adds_one limits running to_sync (disk_fault faults) may = inr (batch_failed faults, refl, (writes_goes running.stopped _ may, may))
adds_one limits running to_sync (committed number) may = inl refl
adds_one limits running to_sync (refused why) may = inl refl
adds_one limits running to_sync (full end_) may = inl refl
adds_one limits running to_sync (all_flushed commits) may = inl refl
adds_one limits running to_sync (passed step) may = inl refl
adds_one limits running to_sync (viewed view) may = inl refl
adds_one limits running to_sync (found number docs) may = inl refl
adds_one limits running to_sync (listed number listing) may = inl refl
adds_one limits running to_sync (measured size) may = inl refl
adds_one limits running to_sync (stopped faults) may = inl refl
adds_one limits running to_sync no_memory may = inl refl
adds_one limits running to_optimize (passed Began) may = inr (optimized, refl, told_goes running.stopped _ (passed Began) (one_answer _ _ may) refl)
adds_one limits running to_optimize (passed Word) may = inr (optimized, refl, told_goes running.stopped _ (passed Word) (one_answer _ _ may) refl)
adds_one limits running to_optimize (passed Finished) may = inr (optimized, refl, told_goes running.stopped _ (passed Finished) (one_answer _ _ may) refl)
adds_one limits running to_optimize (passed Nothing) may = inl refl
adds_one limits running to_optimize (disk_fault faults) may = inr (optimize_failed faults, refl, writes_goes running.stopped _ may)
adds_one limits running to_optimize (committed number) may = inl refl
adds_one limits running to_optimize (refused why) may = inl refl
adds_one limits running to_optimize (full end_) may = inl refl
adds_one limits running to_optimize (flushed through commits) may = inl refl
adds_one limits running to_optimize (all_flushed commits) may = inl refl
adds_one limits running to_optimize (viewed view) may = inl refl
adds_one limits running to_optimize (found number docs) may = inl refl
adds_one limits running to_optimize (listed number listing) may = inl refl
adds_one limits running to_optimize (measured size) may = inl refl
adds_one limits running to_optimize (stopped faults) may = inl refl
adds_one limits running to_optimize no_memory may = inl refl
adds_one limits running (to_view asked) answer may = adds_read limits running answer
adds_one limits running (to_find terms) answer may = adds_read limits running answer
adds_one limits running (to_list kind) answer may = adds_read limits running answer
adds_one limits running to_measure answer may = inl refl

-- ---- what is real behind it

-- the state that one entry more leaves
entries_left : (state : State) (s : IndexState) (more : List IndexEntry) → s ≡ index_state state → fold (after_entry (turns_of state)) s more ≡ index_state (with_entries state more)
entries_left state s more is =
    ap (λ (s : IndexState). fold (after_entry (turns_of state)) s more) is ∙ sym (fold-append (after_entry (turns_of state)) no_entries state.entries more)

batch_left : AllKnown → (state : State) (s : IndexState) → s ≡ index_state state → s.flushed < length (turns_of state) → HasEntries state
    → after_batch (rules_of state.settings) state.settings.batch_docs (turns_of state) s
    ≡ index_state (with_entries state (next_entry (rules_of state.settings) state.settings.batch_docs (turns_of state) s ∷ []))
batch_left known state s is some has =
    subst (λ (s : IndexState). s.flushed < length (turns_of state) → after_batch (rules_of state.settings) state.settings.batch_docs (turns_of state) s
    ≡ index_state (with_entries state (next_entry (rules_of state.settings) state.settings.batch_docs (turns_of state) s ∷ []))) (sym is)
    (λ some. sym (batch_leaves state state.settings.batch_docs _ _ _ has (known state.commits).ascend
    (is_next (rules_of state.settings) state.settings.batch_docs (turns_of state) (index_state state) some))) some

module _ (known : AllKnown) (limits : Limits) (running : Running) (real : IsReal running) where
  pub real_behind : (what : What) → MayAdd limits running what → (running.stopped ≡ None → HasEntries running.state)
      → ((with_what running what).stopped ≡ None → HasEntries (with_what running what).state) → IsReal (with_what running what)
  real_behind (made commit) going entries entries' = record {
    sure = real.sure;
    left = real.left ∙ sym (index_stays running.state (commit ∷ []) (entries going));
    one = real.one;
    one' = real.one';
    right = sure_right (with_what running (made commit)) (real.sure going).0 (real.sure going).1
        (right_stays running.state commit (known running.state.commits) (known (running.state.commits ++ commit ∷ [])) (entries going) real.right.right);
  }
  real_behind batched (going, wrote_) entries entries' = record {
    sure = real.sure;
    left = batch_left known running.state running.index real.left (some_batch limits running wrote_) (entries going);
    one = real.one;
    one' = real.one';
    right = sure_right (with_what running batched) (real.sure going).0 (real.sure going).1 (batch_more known limits running real.left wrote_ (entries going) real.right.right);
  }
  real_behind optimized going entries entries' = record {
    sure = real.sure;
    left = entries_left running.state running.index (next_optimized running) real.left;
    one = real.one;
    one' = real.one';
    right = sure_right (with_what running optimized) (real.sure going).0 (real.sure going).1 (step_more known running (entries going) real.right.right (entries' going));
  }
  real_behind (failed faults doubt) (going, (commit, is)) entries entries' = record {
    sure = λ e. absurd (let no : ◌≡◌ {A = Option ℕ} (Some faults) None = e in cc);
    left = real.left;
    one = inr (commit, is);
    one' = real.one';
    right = doubt_right known (with_what running (failed faults doubt)) commit is (real.sure going).1 (entries going) real.right.right;
  }
  real_behind (batch_failed faults) (going, wrote_) entries entries' = record {
    sure = λ e. absurd (let no : ◌≡◌ {A = Option ℕ} (Some faults) None = e in cc);
    left = real.left;
    one = real.one;
    one' = inr (next_batch running, refl);
    right = loose_right (with_what running (batch_failed faults)) (next_batch running ∷ []) (real.sure going).0 refl real.right.right
        (λ has. batch_more known limits running real.left wrote_ (entries going) real.right.right);
  }
  real_behind (optimize_failed faults) going entries entries' = record {
    sure = λ e. absurd (let no : ◌≡◌ {A = Option ℕ} (Some faults) None = e in cc);
    left = real.left;
    one = real.one;
    one' = (next_is_step running.state.entries running.index).one;
    right = loose_right (with_what running (optimize_failed faults)) (next_optimized running) (real.sure going).0 refl real.right.right
        (λ has. step_more known running (entries going) real.right.right has);
  }
  real_behind (read_failed faults) may entries entries' = real

  -- what stands if the answer counts as not given is right too
  pub right_undone : (what : What) → MayAdd limits running what → (running.stopped ≡ None → HasEntries running.state) → HasRightIndex (doubting running what)
  right_undone (made commit) going entries = doubt_right known (doubting running (made commit)) commit refl (real.sure going).1 (entries going) real.right.right
  right_undone batched (going, wrote_) entries = loose_right (doubting running batched) (next_batch running ∷ []) (real.sure going).0 refl real.right.right
      (λ has. batch_more known limits running real.left wrote_ (entries going) real.right.right)
  right_undone optimized going entries = loose_right (doubting running optimized) (next_optimized running) (real.sure going).0 refl real.right.right
      (λ has. step_more known running (entries going) real.right.right has)
  right_undone (failed faults doubt) (going, (commit, is)) entries = doubt_right known (with_what running (failed faults doubt)) commit is (real.sure going).1 (entries going) real.right.right
  right_undone (batch_failed faults) (going, wrote_) entries = loose_right (with_what running (batch_failed faults)) (next_batch running ∷ []) (real.sure going).0 refl real.right.right
      (λ has. batch_more known limits running real.left wrote_ (entries going) real.right.right)
  right_undone (optimize_failed faults) going entries = loose_right (with_what running (optimize_failed faults)) (next_optimized running) (real.sure going).0 refl real.right.right
      (λ has. step_more known running (entries going) real.right.right has)
  right_undone (read_failed faults) may entries = real.right
