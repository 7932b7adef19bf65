-- What an event makes of what stands, by its outcome.
use Rattle.std.specs.Prelude.{◌≡◌, ◌≢◌, List, [], ◌∷◌, Bool, true, false, fold, Some, None, Ok, Err, length}
use Rattle.fts_types.specs.declared.limits.Limits.{Limits}
use Rattle.fts_types.specs.Limits.{standard_limits}
use Rattle.fts_commits.specs.declared.change.Change.{Change}
use Rattle.fts_disk.specs.declared.disk.Disk.{Ghosts}
use Rattle.fts_commits.specs.Fits.{CanCommit}
use Rattle.fts_query.specs.Seen.{leaves_seen}
use Rattle.fts_steps.specs.State.{State}
use Rattle.fts_steps.specs.Running.{Running, What, made, batched, optimized, failed, batch_failed, optimize_failed}
use Rattle.fts_steps.specs.Running.{read_failed, with_what, next_batch, next_optimized, opened}
use Rattle.fts_steps.specs.Step.{Ask, to_commit, to_sync, to_optimize, to_view, to_list, Answer, MayAnswer, after}
use Rattle.fts_steps.specs.Step.{changes_of}
use Rattle.fts_steps.specs.Answers.{commit_answer_of, sync_answer_of, optimize_answer_of, view_answer_of}
use Rattle.fts_steps.specs.Answers.{listing_answer_of}
use Rattle.fts_engine.specs.Bounds.{AreWithin}
use Rattle.fts_engine.specs.declared.error.OpenError.{OpenError}
use Rattle.fts_engine.specs.declared.error.OpenError.TheVariants.{NoMemory, NotCreated, Damaged, DiskFault}
use Rattle.fts_core.specs.declared.event.Event.{Event}
use Rattle.fts_core.specs.declared.event.Event.TheVariants.{Opening, Commit, SyncBatch, OptimizeStep, View, Listing}
use Rattle.fts_core.specs.declared.event.Event.TheVariants.{Crash}
use Rattle.fts_core.specs.declared.event.Outcome.{Outcome}
use Rattle.fts_core.specs.declared.event.Outcome.TheVariants.{NoEngine, DoesNotFit, Opened, Committed, Synced}
use Rattle.fts_core.specs.declared.event.Outcome.TheVariants.{Optimized, Viewed, Listed, Crashed}
use Rattle.fts_core.specs.World.{Moments}
use Rattle.fts_steps.specs.Right.{MayBe}
use Rattle.fts_core.specs.Core.{Core}

-- what stands if what a step added is not known to be there: it is in doubt
abbrev pub doubting : Running → What → Running
doubting running (made commit) = record running { doubt = commit ∷ [] }
doubting running batched = record running { loose = next_batch running ∷ [] }
doubting running optimized = record running { loose = next_optimized running }
doubting running (failed faults doubt) = with_what running (failed faults doubt)
doubting running (batch_failed faults) = with_what running (batch_failed faults)
doubting running (optimize_failed faults) = with_what running (optimize_failed faults)
doubting running (read_failed faults) = running

-- a step of an engine that is open: it answers as it may on what stands, and that grows by what its answer adds. If the
-- answer counts as not given, what it added is in doubt
pub record MakesStep (began : Moments) (ask : Ask) (answer : Answer) (old new : Core) : Type 0 where
  pub limits : Limits
  pub is_open : old.limits ≡ Some limits
  pub may : MayAnswer limits old.now ask answer
  pub now : new.now ≡ after old.now ask answer
  pub undone : new.undone ≡ fold doubting old.now (changes_of ask answer)
  pub still : new.limits ≡ old.limits
  pub since : new.since ≡ began

-- an opening that answers Ok: it finds the acknowledged commits, or these and the one in doubt, which is acknowledged
-- then; and so of the entries of the index log. Nothing is in doubt any more, but for a crash within it
pub record Opens (began : Moments) (limits : Limits) (old new : Core) : Type 0 where
  pub state : State
  pub finds : MayBe old.now state
  pub now : new.now ≡ opened state
  pub undone : new.undone ≡ old.now
  pub limited : new.limits ≡ Some limits
  pub since : new.since ≡ began

-- one that does not: memory ran out, or a device failed. No engine is open then, and all stands as it stood
abbrev pub IsFreeRefusal : OpenError → Type 0
IsFreeRefusal NoMemory = Unit {0}
IsFreeRefusal NotCreated = ⊥
IsFreeRefusal (Damaged device file at) = ⊥
IsFreeRefusal DiskFault = Unit {0}

pub record Refuses (began : Moments) (error : OpenError) (old new : Core) : Type 0 where
  pub free : IsFreeRefusal error
  pub now : new.now ≡ old.now
  pub undone : new.undone ≡ old.now
  pub closed : new.limits ≡ None
  pub since : new.since ≡ began

-- a crash: within the last call what it answered counts as not given. The devices that it leaves are at these moments
abbrev pub left_by : Bool → Core → Running
left_by true old = old.undone
left_by false old = old.now

pub record Crashes (left : Moments) (within : Bool) (old new : Core) : Type 0 where
  pub now : new.now ≡ left_by within old
  pub undone : new.undone ≡ left_by within old
  pub closed : new.limits ≡ None
  pub since : new.since ≡ left

-- the event asks something of an engine
abbrev pub AsksEngine : {D E : Type 0} → Event D E → Type 0
AsksEngine (Opening limits) = ⊥
AsksEngine (Crash rows index within) = ⊥
AsksEngine event = Unit {0}

-- the changes of a commit fit the table
abbrev pub FitTable : List Change → Core → Type 0
FitTable changes core = CanCommit (length core.now.state.settings.columns) changes

-- the changes of a commit do not fit the table of the engine that is open, or the limits of an opening are above the
-- standard ones
abbrev pub FitsNot : {D E : Type 0} → Event D E → Core → Type 0
FitsNot (Opening limits) core = AreWithin standard_limits limits → ⊥
FitsNot (Commit changes) core = (core.limits ≢ None) × (FitTable changes core → ⊥)
FitsNot event core = ⊥

-- what stands behind an event with this outcome, by what stood before it and the moments at which it began; with any
-- other outcome it does not come
abbrev pub Turns : {D E : Type 0} → Ghosts D → Ghosts E → Moments → Event D E → Outcome → Core → Core → Type 0
Turns rows index began event NoEngine old new = AsksEngine event × (old.limits ≡ None) × (new ≡ old)
Turns rows index began event DoesNotFit old new = FitsNot event old × (new ≡ old)
Turns rows index began (Opening limits) (Opened (Ok done)) old new =
    AreWithin standard_limits limits × Opens began limits old new
Turns rows index began (Opening limits) (Opened (Err error)) old new =
    AreWithin standard_limits limits × Refuses began error old new
Turns rows index began (Commit changes) (Committed result) old new =
    FitTable changes old × MakesStep began (to_commit changes) (commit_answer_of result) old new
Turns rows index began SyncBatch (Synced result) old new = MakesStep began to_sync (sync_answer_of result) old new
Turns rows index began OptimizeStep (Optimized result) old new =
    MakesStep began to_optimize (optimize_answer_of result) old new
Turns rows index began (View leaves) (Viewed result) old new =
    MakesStep began (to_view (leaves_seen leaves.items)) (view_answer_of result) old new
Turns rows index began (Listing kind) (Listed result) old new =
    MakesStep began (to_list kind) (listing_answer_of result) old new
Turns rows index began (Crash rows' index' within) Crashed old new =
    Crashes (record { rows = rows.moment rows'; index = index.moment index' }) within old new
Turns rows index began event outcome old new = ⊥
