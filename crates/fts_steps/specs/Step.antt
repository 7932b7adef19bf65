use Rattle.std.specs.Prelude.{Bool, true, false, ◌≡◌, ◌⊎◌, ℕ, ◌+◌, if◌then◌else◌, nat_lt, List, [], ◌∷◌, length, map}
use Rattle.std.specs.Prelude.{◌++◌, Option, Some, None, Result, Ok, Err, IsTrue}
use Rattle.fts_types.specs.declared.limits.Limits.{Limits}
use Rattle.fts_types.specs.declared.settings.Settings.{Settings}
use Rattle.fts_types.specs.Rules.{rules_of}
use Rattle.fts_commits.specs.Commit.{Commit, Rows, after_commit, replay}
use Rattle.fts_commits.specs.declared.refusal.Refusal.{Refusal}
use Rattle.fts_meaning.specs.Tree.{Terms}
use Rattle.fts_meaning.specs.Scan.{scan}
use Rattle.fts_meaning.specs.Leaf.{Leaf}
use Rattle.fts_meaning.specs.View.{View, view_of}
use Rattle.fts_disk.specs.Crash.{Images}
use Rattle.fts_disk.specs.Moments.{LeavesOnly}
use Rattle.fts_disk.specs.declared.disk.Disk.{Ghosts}
use Rattle.fts_steps.specs.FaultCounts.{FaultCounts, together, CountsFaultOf}
use Rattle.fts_steps.specs.State.{State, IsRight, turns_of, end_after, index_end_after}
use Rattle.fts_listing.specs.declared.kind.ListingKind.{ListingKind}
use Rattle.fts_listing.specs.declared.listing.Listing.{Listing}
use Rattle.fts_listing.specs.Listing.{IsListed}
use Rattle.fts_entries.specs.Entry.{IndexEntry, sealed, begun, worked, finished}
use Rattle.fts_steps.specs.declared.optimize.OptimizeStep.{OptimizeStep}
use Rattle.fts_steps.specs.declared.optimize.OptimizeStep.TheVariants.{Began, Word, Finished, Nothing}
use Rattle.fts_steps.specs.Running.{Running, What, made, batched, optimized, failed, batch_failed, optimize_failed}
use Rattle.fts_steps.specs.Running.{read_failed, Entry, grown, next_flushed, next_batch, next_optimized, cache_size}
use Rattle.fts_steps.specs.Crash.{IsBetween, IsIndexBetween}

-- what a step is asked: to make a commit; to make a batch of the index; to make a step of OPTIMIZE; to tell what the
-- rows have for leaves; to find the rows in which a query holds; to list what a view has; or to tell the size of the
-- cache
pub data Ask : Type 0 where
  to_commit : Commit → Ask
  to_sync : Ask
  to_optimize : Ask
  to_view : List Leaf → Ask
  to_find : Terms → Ask
  to_list : ListingKind → Ask
  to_measure : Ask

-- what it answers. A batch tells through which commit the index is flushed now, and how many commits there are; where
-- all are flushed, it tells how many there are. A step of OPTIMIZE tells what it did. A disk fault tells the sum of the
-- counts of faults, and so does each refusal that follows from it
pub data Answer : Type 0 where
  committed : ℕ → Answer
  refused : Refusal → Answer
  full : ℕ → Answer
  flushed : ℕ → ℕ → Answer
  all_flushed : ℕ → Answer
  passed : OptimizeStep → Answer
  viewed : View → Answer
  found : ℕ → List ℕ → Answer
  listed : ℕ → Listing → Answer
  measured : ℕ → Answer
  disk_fault : ℕ → Answer
  stopped : ℕ → Answer
  no_memory : Answer

-- whether a device failed
abbrev pub is_disk_fault : Answer → Bool
is_disk_fault (disk_fault faults) = true
is_disk_fault answer = false

-- whether the answer tells that a device was written: that of a commit, of a batch, or of a step of OPTIMIZE
abbrev pub writes : Answer → Bool
writes (committed number) = true
writes (flushed through commits) = true
writes (passed Began) = true
writes (passed Word) = true
writes (passed Finished) = true
writes answer = false

-- the answer of a step that appends to a log which would end there, unless that is past the limit
abbrev pub unless_full : Limits → ℕ → Answer → Answer
unless_full limits end answer = if nat_lt limits.log_bytes end then full end else answer

-- the answer to a commit that the rows refuse or accept: its number
abbrev pub commit_answer : Limits → State → Commit → Result Rows Refusal → Answer
commit_answer limits state commit (Err why) = refused why
commit_answer limits state commit (Ok rows) =
    unless_full limits (end_after state commit) (committed (length state.commits + 1))

-- the answer to a batch: where all commits are flushed there is none
abbrev pub batch_answer : Limits → Running → Answer
batch_answer limits running =
    if nat_lt running.index.flushed (length running.state.commits)
    then unless_full limits (index_end_after running.state (next_batch running))
    (flushed (next_flushed running) (length running.state.commits))
    else all_flushed (length running.state.commits)

-- which step of OPTIMIZE an entry is of
abbrev pub step_of : IndexEntry → OptimizeStep
step_of (sealed through synced batch) = Nothing
step_of begun = Began
step_of (worked word new) = Word
step_of finished = Finished

-- the answer to a step of OPTIMIZE that appends this entry, or none
abbrev pub optimize_answer : Limits → State → List IndexEntry → Answer
optimize_answer limits state [] = passed Nothing
optimize_answer limits state (entry ∷ entries) =
    unless_full limits (index_end_after state entry) (passed (step_of entry))

-- the view of a database for leaves
abbrev pub state_view : State → List Leaf → View
state_view state asked = view_of (rules_of state.settings) (replay state.commits).list (length state.commits) asked

-- after a fault nothing is written any more
abbrev pub unless_stopped : Option ℕ → Answer → Answer
unless_stopped None answer = answer
unless_stopped (Some faults) answer = stopped faults

-- the answer of a step that nothing outside disturbs, where what runs determines it; those of a view, of a search and
-- of a listing are told by relations
abbrev pub plain_answer : Limits → Running → Ask → Option Answer
plain_answer limits running (to_commit commit) = Some (unless_stopped running.stopped
    (commit_answer limits running.state commit (after_commit limits commit (replay running.state.commits))))
plain_answer limits running to_sync = Some (unless_stopped running.stopped (batch_answer limits running))
plain_answer limits running to_optimize =
    Some (unless_stopped running.stopped (optimize_answer limits running.state (next_optimized running)))
plain_answer limits running (to_view asked) = None
plain_answer limits running (to_find terms) = None
plain_answer limits running (to_list kind) = None
plain_answer limits running to_measure = Some (measured (cache_size running))

-- a view has the number of the commits; and where the index is right, what the rows have for the leaves
abbrev pub Views : Running → Ask → View → Type 0
Views running (to_view asked) view = (view.number ≡ length running.state.commits)
    × (IsRight running.state → view ≡ state_view running.state asked)
Views running ask view = ⊥

-- so does a search; and where the index is right, it finds the rows in which the query holds
abbrev pub Finds : Running → Ask → ℕ → List ℕ → Type 0
Finds running (to_find terms) number docs = (number ≡ length running.state.commits)
    × (IsRight running.state → docs ≡ scan (rules_of running.state.settings) (replay running.state.commits).list terms)
Finds running ask number docs = ⊥

-- a listing tells what its view has, as of so many commits
abbrev pub Lists : Running → Ask → ℕ → Listing → Type 0
Lists running (to_list kind) number listing = (number ≡ length running.state.commits)
    × IsListed running.state.settings (turns_of running.state) running.index kind listing
Lists running ask number listing = ⊥

-- the answer of a step that nothing outside disturbs
abbrev pub IsPlain : Limits → Running → Ask → Answer → Type 0
IsPlain limits running ask (viewed view) = Views running ask view
IsPlain limits running ask (found number docs) = Finds running ask number docs
IsPlain limits running ask (listed number listing) = Lists running ask number listing
IsPlain limits running ask answer = plain_answer limits running ask ≡ Some answer

-- whether a step writes that nothing outside disturbs
abbrev pub would_write : Option Answer → Bool
would_write None = false
would_write (Some answer) = writes answer

-- whether a device can fail a step: one that reads, and one that would have written
abbrev pub can_fail : Limits → Running → Ask → Bool
can_fail limits running (to_view asked) = true
can_fail limits running (to_find terms) = true
can_fail limits running (to_list kind) = true
can_fail limits running ask = would_write (plain_answer limits running ask)

-- the answers that a step may give: its plain one, want of memory, and a disk fault where a device can fail it
abbrev pub MayAnswer : Limits → Running → Ask → Answer → Type 0
MayAnswer limits running ask no_memory = Unit {0}
MayAnswer limits running ask (disk_fault faults) = IsTrue (can_fail limits running ask)
MayAnswer limits running ask answer = IsPlain limits running ask answer

-- what a step adds that reads, by its answer
abbrev pub read_changes : Answer → List What
read_changes (disk_fault faults) = read_failed faults ∷ []
read_changes answer = []

-- what a step adds, by its answer
abbrev pub changes_of : Ask → Answer → List What
changes_of (to_commit commit) (committed number) = made commit ∷ []
changes_of (to_commit commit) (disk_fault faults) = failed faults (commit ∷ []) ∷ []
changes_of to_sync (flushed through commits) = batched ∷ []
changes_of to_sync (disk_fault faults) = batch_failed faults ∷ []
changes_of to_optimize (passed Nothing) = []
changes_of to_optimize (passed step) = optimized ∷ []
changes_of to_optimize (disk_fault faults) = optimize_failed faults ∷ []
changes_of (to_view asked) answer = read_changes answer
changes_of (to_find terms) answer = read_changes answer
changes_of (to_list kind) answer = read_changes answer
changes_of ask answer = []

-- the entries that a step adds, by their number's owner
abbrev pub entries_of : ℕ → Ask → Answer → List Entry
entries_of by ask answer = map (λ what. record { by = by; what = what }) (changes_of ask answer)

-- the engine after a step
abbrev pub after : Running → Ask → Answer → Running
after running ask answer = grown running (entries_of 0 ask answer)

-- a step that was made: what others added before it, what it was asked, and what it answered
pub record Call : Type 0 where
  pub more : List Entry
  pub ask : Ask
  pub answer : Answer

-- the engine after a step that was made
abbrev pub after_call : Running → Call → Running
after_call running call = after (grown running call.more) call.ask call.answer

-- the engine after a list of steps
abbrev pub after_all : Running → List Call → Running
after_all running [] = running
after_all running (call ∷ calls) = after_all (after_call running call) calls

-- each step answered as it may, on the engine that those before it left
abbrev pub Follows : Limits → Running → List Call → Type 0
Follows limits running [] = Unit {0}
Follows limits running (call ∷ calls) =
    MayAnswer limits (grown running call.more) call.ask call.answer × Follows limits (after_call running call) calls

-- and the index of each of these engines is right
abbrev pub FollowsRight : Limits → Running → List Call → Type 0
FollowsRight limits running [] = Unit {0}
FollowsRight limits running (call ∷ calls) =
    (MayAnswer limits (grown running call.more) call.ask call.answer × IsRight (grown running call.more).state)
    × FollowsRight limits (after_call running call) calls

-- nobody else added anything in between
abbrev pub AreAlone : List Call → Type 0
AreAlone [] = Unit {0}
AreAlone (call ∷ calls) = (call.more ≡ []) × AreAlone calls

-- ---- who makes steps

-- a device below what makes steps
pub record Below (S : Type 0) : Type 1 where
  pub Device : Type 0
  pub disk : Ghosts Device
  pub device : S → Device

-- what one of several who make steps on one engine knows of these: its number, all that was added so far, what of that
-- it added itself, and how many steps it made
pub record Account : Type 0 where
  pub number : ℕ
  pub seen : List Entry
  pub gave : List Entry
  pub turns : ℕ

-- that of who is alone
abbrev pub no_account : Account
no_account = record { number = 0; seen = []; gave = []; turns = 0 }

-- what contracts see of what makes steps: whether others make some in between, and then its place among them and its
-- account; the settings and the limits of commits, how many faults each device had, for which engine it stands, and the
-- devices of its two logs
pub record Sight (S : Type 0) : Type 1 where
  pub is_shared : Bool
  pub Place : Type 0
  pub place : S → Place
  pub account : S → Account
  pub settings : S → Settings
  pub limits : S → Limits
  pub faults : S → FaultCounts
  pub stands : Running → S → Type 0
  pub rows : Below S
  pub index : Below S

-- from one to the other the device was not touched, or a crash at any moment leaves files of which this holds
abbrev pub Leaves : {S : Type 0} → Below S → Images → S → S → Type 0
Leaves below P old new = (below.device new ≡ below.device old)
    ⊎ LeavesOnly below.disk (below.device old) (below.device new) P

-- the account has what others added, behind that what was added here, and so many steps more
pub record Tells {S : Type 0} (sight : Sight S) (more own : List Entry) (turns : ℕ) (old new : S) : Type 0 where
  pub number : (sight.account new).number ≡ (sight.account old).number
  pub seen : (sight.account new).seen ≡ (sight.account old).seen ++ (more ++ own)
  pub gave : (sight.account new).gave ≡ (sight.account old).gave ++ own
  pub turns_are : (sight.account new).turns ≡ (sight.account old).turns + turns
  pub place : sight.place new ≡ sight.place old

-- what a step keeps, whatever it was asked: the settings and the limits; and a fault is counted of one device exactly
-- where the answer tells it, with the sum of both counts
pub record Keeps {S : Type 0} (sight : Sight S) (answer : Answer) (old new : S) : Type 0 where
  pub settings : sight.settings new ≡ sight.settings old
  pub limits : sight.limits new ≡ sight.limits old
  pub faults : CountsFaultOf (IsTrue (is_disk_fault answer)) (sight.faults old) (sight.faults new)
  pub sum : (n : ℕ) → answer ≡ disk_fault n → n ≡ together (sight.faults new)

-- ---- a step

-- what a step is of an engine for which it stood: it answers as it may on the engine that others grew, and stands for
-- what it makes of that. Where there are no others, a crash at any moment leaves of each log what stood before it or
-- what stands behind it
pub record StepOf {S : Type 0} (sight : Sight S) (running : Running) (call : Call) (old new : S) : Type 0 where
  pub alone : sight.is_shared ≡ false → call.more ≡ []
  pub may : MayAnswer (sight.limits old) (grown running call.more) call.ask call.answer
  pub stands : sight.stands (after_call running call) new
  pub rows : sight.is_shared ≡ false → IsTrue sight.rows.disk.tells
      → Leaves sight.rows (IsBetween running (after_call running call)) old new
  pub index : sight.is_shared ≡ false → IsTrue sight.index.disk.tells
      → Leaves sight.index (IsIndexBetween running (after_call running call)) old new
  pub keeps : Keeps sight call.answer old new

-- a step: `more` is what others added before it. So it is of each engine for which it stood; and where there are
-- others, its account tells what they added
pub record Steps {S : Type 0} (sight : Sight S) (ask : Ask) (answer : Answer) (old new : S) : Type 0 where
  pub more : List Entry
  pub each : (running : Running) → sight.stands running old
      → StepOf sight running (record { more = more; ask = ask; answer = answer }) old new
  pub tells : IsTrue sight.is_shared
      → Tells sight more (entries_of (sight.account old).number ask answer) 1 old new
  pub keeps : Keeps sight answer old new

-- these steps were made, one after another
abbrev pub AreMade : {S : Type 0} → Sight S → List Call → S → S → Type 0
AreMade sight [] old new = new ≡ old
AreMade {S} sight (call ∷ calls) old new = (mid : S)
    × ((step : Steps sight call.ask call.answer old mid) × (step.more ≡ call.more)) × AreMade sight calls mid new

-- these steps were made on one engine that ran so, one after another: each is told with what made it, before and behind
abbrev pub Traced : {S : Type 0} → Sight S → Running → List Call → S → S → Type 0
Traced sight running [] old new = new ≡ old
Traced {S} sight running (call ∷ calls) old new =
    (mid : S) × StepOf sight running call old mid × Traced sight (after_call running call) calls mid new

-- nothing but looks: no fault was counted, and a crash leaves of each device what it could leave before
pub record OnlyLooks {S : Type 0} (sight : Sight S) (old new : S) : Type 0 where
  pub settings : sight.settings new ≡ sight.settings old
  pub limits : sight.limits new ≡ sight.limits old
  pub faults : sight.faults new ≡ sight.faults old
  pub rows : IsTrue sight.rows.disk.tells → Leaves sight.rows (sight.rows.disk.images (sight.rows.device old)) old new
  pub index : IsTrue sight.index.disk.tells
      → Leaves sight.index (sight.index.disk.images (sight.index.device old)) old new

-- a run: the devices were only looked at, up to where this engine stood; and from there on these steps were made
pub record Runs {S : Type 0} (sight : Sight S) (start : Running) (calls : List Call) (before after : S) : Type 0 where
  pub began : S
  pub looked : OnlyLooks sight before began
  pub stood : sight.stands start began
  pub steps : Traced sight start calls began after
