-- An engine as its steps see it, and what they add to it.
use Rattle.std.specs.Prelude.{◌≡◌, ℕ, List, [], ◌∷◌, fold, Option, Some, None}
use Rattle.fts_types.specs.Rules.{rules_of}
use Rattle.fts_commits.specs.Commit.{Commit}
use Rattle.fts_commits.specs.Turn.{births_of}
use Rattle.fts_entries.specs.Entry.{IndexEntry, IndexState, after_entry, unflushed}
use Rattle.fts_entries.specs.Batch.{after_batch, next_entry, next_through}
use Rattle.fts_entries.specs.Pass.{next_steps}
use Rattle.fts_entries.specs.Words.{rows_size}
use Rattle.fts_steps.specs.State.{State, turns_of, index_state, with_commits, with_entries}

-- the database that the steps so far made; the state of its index; where a fault stopped the engine, the sum of the
-- counts of faults at that fault; and the commit or the entry, if any, that the fault left in doubt
pub record Running : Type 0 where
  pub state : State
  pub index : IndexState
  pub stopped : Option ℕ
  pub doubt : List Commit
  pub loose : List IndexEntry

-- an engine that was just opened
abbrev pub opened : State → Running
opened state = record { state = state; index = index_state state; stopped = None; doubt = []; loose = [] }

-- where no fault stopped it, nothing is in doubt
abbrev pub IsSure : Running → Type 0
IsSure running = running.stopped ≡ None → (running.doubt ≡ []) × (running.loose ≡ [])

-- the state of the index behind its next batch, through which commit that flushes, and its entry
abbrev pub next_index : State → IndexState → IndexState
next_index state index = after_batch (rules_of state.settings) state.settings.batch_docs (turns_of state) index

abbrev pub next_flushed : Running → ℕ
next_flushed running = next_through running.state.settings.batch_docs (turns_of running.state) running.index

abbrev pub next_batch : Running → IndexEntry
next_batch running = next_entry (rules_of running.state.settings) running.state.settings.batch_docs
    (turns_of running.state) running.index

-- the entry of the next step of OPTIMIZE, none where it has nothing to do
abbrev pub next_optimized : Running → List IndexEntry
next_optimized running = next_steps running.state.entries running.index

-- the size of the cache: what the rows count that were born in commits that are not flushed
abbrev pub cache_size : Running → ℕ
cache_size running =
    rows_size (rules_of running.state.settings) (births_of (unflushed (turns_of running.state) running.index))

-- what a step adds: a commit; a batch of the index; a step of OPTIMIZE; or a fault, with the sum of the counts. That of
-- a write stops the engine, and leaves a commit in doubt, or the entry of a batch or of a step of OPTIMIZE; that of a
-- read changes nothing
pub data What : Type 0 where
  made : Commit → What
  batched : What
  optimized : What
  failed : ℕ → List Commit → What
  batch_failed : ℕ → What
  optimize_failed : ℕ → What
  read_failed : ℕ → What

-- what was added, and the number of who added it
pub record Entry : Type 0 where
  pub by : ℕ
  pub what : What

abbrev pub with_what : Running → What → Running
with_what running (made commit) = record running { state = with_commits running.state (commit ∷ []) }
with_what running batched = record running {
  state = with_entries running.state (next_batch running ∷ []);
  index = next_index running.state running.index;
}
with_what running optimized = record running {
  state = with_entries running.state (next_optimized running);
  index = fold (after_entry (turns_of running.state)) running.index (next_optimized running);
}
with_what running (failed faults doubt) = record running { stopped = Some faults; doubt = doubt }
with_what running (batch_failed faults) =
    record running { stopped = Some faults; loose = next_batch running ∷ [] }
with_what running (optimize_failed faults) =
    record running { stopped = Some faults; loose = next_optimized running }
with_what running (read_failed faults) = running

-- the engine, grown by these entries
abbrev pub grown : Running → List Entry → Running
grown running [] = running
grown running (entry ∷ entries) = grown (with_what running entry.what) entries
