-- What is planned of what is kept: the next commit, batch and step of OPTIMIZE.
use Rattle.std.specs.Prelude.{◌≤◌, List, length, Option, Some, None}
use Rattle.fts_types.specs.declared.settings.Settings.{Settings}
use Rattle.fts_types.specs.Rules.{rules_of}
use Rattle.fts_commits.specs.Commit.{Commit, Rows, no_rows}
use Rattle.fts_commits.specs.Turn.{turns_from}
use Rattle.fts_entries.specs.Entry.{IndexState}
use Rattle.fts_entries.specs.Batch.{IsBatch}
use Rattle.fts_entries.specs.Pass.{IsStep}
use Rattle.fts_index.specs.declared.sync.SyncPlan.{SyncPlan}
use Rattle.fts_index.specs.declared.passing.PassPlan.{PassPlan}
use Rattle.fts_index.specs.Index.{FitsSync}
use Rattle.fts_index.specs.Passing.{step_entry, FitsStep}
use Rattle.fts_engine.specs.declared.kept.Kept.{Kept}
use Rattle.fts_engine.specs.declared.kept.NextKept.{NextKept}
use Rattle.fts_engine.specs.Kept.{IsIndexed}
use Rattle.fts_engine.specs.Next.{WillHold}

-- this commit makes these rows of those that are kept, and there is room for them and for their words
abbrev pub WillKeep : Kept → NextKept → Commit → Rows → Type 0
WillKeep kept next commit after = WillHold kept.settings kept.rows kept.index next commit after

-- the plan is the next batch by these settings
abbrev pub IsNextBatchOf : Settings → SyncPlan → List Commit → IndexState → Type 0
IsNextBatchOf settings plan commits s = IsBatch (rules_of settings) settings.batch_docs (turns_from no_rows commits) s
    plan.through plan.synced plan.nodes.items

-- where there is no plan, all commits are flushed
abbrev pub IsPlannedOf : Settings → List Commit → IndexState → Option SyncPlan → Type 0
IsPlannedOf settings commits s None = length commits ≤ s.flushed
IsPlannedOf settings commits s (Some plan) = IsNextBatchOf settings plan commits s

-- the plan is the next batch of what is kept
abbrev pub IsNextBatch : Kept → SyncPlan → List Commit → IndexState → Type 0
IsNextBatch kept plan commits s = IsNextBatchOf kept.settings plan commits s

abbrev pub IsPlanned : Kept → List Commit → IndexState → Option SyncPlan → Type 0
IsPlanned kept commits s plan = IsPlannedOf kept.settings commits s plan

-- the plan is the next batch for some commits and some state for which the index stands
pub record HasBatch (kept : Kept) (plan : SyncPlan) : Type 0 where
  pub commits : List Commit
  pub state : IndexState
  pub is : IsIndexed kept commits state
  pub batch : IsNextBatch kept plan commits state

-- the batch can be made: there is room for it, and it is the next one
pub record CanSync (kept : Kept) (plan : SyncPlan) : Type 0 where
  pub fits : FitsSync kept.index plan
  pub next : ∥ HasBatch kept plan ∥₁

-- the plan is the next step of OPTIMIZE for some commits and some state for which the index stands
pub record HasStep (kept : Kept) (plan : PassPlan) : Type 0 where
  pub commits : List Commit
  pub state : IndexState
  pub is : IsIndexed kept commits state
  pub next : IsStep state (step_entry plan)

-- the step can be made: there is room for it, and it is the next one
pub record CanOptimize (kept : Kept) (plan : PassPlan) : Type 0 where
  pub fits : FitsStep kept.index plan
  pub next : ∥ HasStep kept plan ∥₁
