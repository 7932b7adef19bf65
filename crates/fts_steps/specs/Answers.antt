use Rattle.std.specs.Prelude.{ℕ, Result, Ok, Err}
use Rattle.fts_steps.specs.declared.commit.CommitError.{CommitError}
use Rattle.fts_steps.specs.declared.commit.CommitError.TheVariants.{NoMemory, Refused, LogFull, DiskFault, Stopped}
use Rattle.fts_steps.specs.declared.sync.SyncBatch.{SyncBatch}
use Rattle.fts_steps.specs.declared.sync.SyncBatch.TheVariants.{Flushed, Nothing}
use Rattle.fts_steps.specs.declared.index_error.IndexError.{IndexError}
use Rattle.fts_steps.specs.declared.index_error.IndexError.TheVariants as index
use Rattle.fts_steps.specs.declared.optimize.OptimizeStep.{OptimizeStep}
use Rattle.fts_steps.specs.declared.view_error.ViewError.{ViewError}
use Rattle.fts_steps.specs.declared.view_error.ViewError.TheVariants as view
use Rattle.fts_listing.specs.declared.listing.NumberedListing.{NumberedListing}
use Rattle.fts_query.specs.declared.view.View.{View}
use Rattle.fts_query.specs.Seen.{view_seen}
use Rattle.fts_steps.specs.Step.{Answer, committed, refused, full, flushed, all_flushed, passed, viewed, listed}
use Rattle.fts_steps.specs.Step.{disk_fault, stopped, no_memory}

-- the answer that a commit's result is
abbrev pub commit_answer_of : Result ℕ CommitError → Answer
commit_answer_of (Ok number) = committed number
commit_answer_of (Err NoMemory) = no_memory
commit_answer_of (Err (Refused refusal)) = refused refusal
commit_answer_of (Err (LogFull end)) = full end
commit_answer_of (Err (DiskFault faults)) = disk_fault faults
commit_answer_of (Err (Stopped faults)) = stopped faults

-- the answer that the error of a view or of a listing is
abbrev pub view_error_answer_of : ViewError → Answer
view_error_answer_of view.NoMemory = no_memory
view_error_answer_of (view.DiskFault faults) = disk_fault faults

-- the answer that a view's result is, which hands something back where it is an error
abbrev pub view_answer_of : {B : Type 0} → Result View (ViewError × B) → Answer
view_answer_of (Ok view) = viewed (view_seen view)
view_answer_of (Err (error, back)) = view_error_answer_of error

-- the answer that the error of a step of the index is
abbrev pub error_answer_of : IndexError → Answer
error_answer_of index.NoMemory = no_memory
error_answer_of (index.LogFull end) = full end
error_answer_of (index.DiskFault faults) = disk_fault faults
error_answer_of (index.Stopped faults) = stopped faults

-- the answer that a batch's result is
abbrev pub sync_answer_of : Result SyncBatch IndexError → Answer
sync_answer_of (Ok (Flushed through commits)) = flushed through commits
sync_answer_of (Ok (Nothing commits)) = all_flushed commits
sync_answer_of (Err error) = error_answer_of error

-- the answer that the result of a step of OPTIMIZE is
abbrev pub optimize_answer_of : Result OptimizeStep IndexError → Answer
optimize_answer_of (Ok step) = passed step
optimize_answer_of (Err error) = error_answer_of error

-- the answer that a listing's result is
abbrev pub listing_answer_of : Result NumberedListing ViewError → Answer
listing_answer_of (Ok listing) = listed listing.number listing.listing
listing_answer_of (Err error) = view_error_answer_of error
