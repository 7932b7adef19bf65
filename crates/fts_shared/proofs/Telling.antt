-- What answers tell of the counts of faults, and of what a step adds.
use Rattle.std.proofs.Common.{◌≡◌, ◌≤◌, ℕ, true, false, List, [], ◌∷◌, ◌++◌, length, refl, sym, arith}
use Rattle.std.proofs.lemmas.Bool.{false≢true}
use Rattle.fts_steps.specs.declared.optimize.OptimizeStep.TheVariants.{Began, Word, Finished, Nothing}
use Rattle.fts_steps.specs.Running.{Entry, What}
use Rattle.fts_steps.specs.Step.{Ask, Answer, to_commit, to_sync, to_optimize, to_view, to_find, to_list, to_measure, committed, refused, full, flushed, all_flushed, passed, viewed, found, listed, measured, disk_fault, stopped, no_memory, is_disk_fault, read_changes, changes_of}
use Rattle.fts_shared.specs.History.{noted, faults_by, faults_in, NoneTellsLess}

-- the sum of the counts of faults that an answer tells, or the one before it
abbrev pub told_by : Answer → ℕ → ℕ
told_by (committed number) before = before
told_by (refused why) before = before
told_by (full end) before = before
told_by (flushed through commits) before = before
told_by (all_flushed commits) before = before
told_by (passed step) before = before
told_by (viewed view) before = before
told_by (found number docs) before = before
told_by (listed number listing) before = before
told_by (measured size) before = before
told_by (disk_fault faults) before = faults
told_by (stopped faults) before = before
told_by no_memory before = before

-- an answer that tells no fault
pub calm_told : (answer : Answer) (before : ℕ) → is_disk_fault answer ≡ false → told_by answer before ≡ before
calm_told (committed number) before e = refl
calm_told (refused why) before e = refl
calm_told (full end) before e = refl
calm_told (flushed through commits) before e = refl
calm_told (all_flushed commits) before e = refl
calm_told (passed step) before e = refl
calm_told (viewed view) before e = refl
calm_told (found number docs) before e = refl
calm_told (listed number listing) before e = refl
calm_told (measured size) before e = refl
calm_told (disk_fault faults) before e = absurd (false≢true (sym e))
calm_told (stopped faults) before e = refl
calm_told no_memory before e = refl

-- and one that does
pub fault_of : (answer : Answer) → is_disk_fault answer ≡ true → (faults : ℕ) × (answer ≡ disk_fault faults)
fault_of (committed number) e = absurd (false≢true e)
fault_of (refused why) e = absurd (false≢true e)
fault_of (full end) e = absurd (false≢true e)
fault_of (flushed through commits) e = absurd (false≢true e)
fault_of (all_flushed commits) e = absurd (false≢true e)
fault_of (passed step) e = absurd (false≢true e)
fault_of (viewed view) e = absurd (false≢true e)
fault_of (found number docs) e = absurd (false≢true e)
fault_of (listed number listing) e = absurd (false≢true e)
fault_of (measured size) e = absurd (false≢true e)
fault_of (disk_fault faults) e = (faults, refl)
fault_of (stopped faults) e = absurd (false≢true e)
fault_of no_memory e = absurd (false≢true e)

-- the size of the cache is told by no device
abbrev pub IsOfDevice : Ask → Answer → Type 0
IsOfDevice to_measure answer = is_disk_fault answer ≡ false
IsOfDevice ask answer = Unit {0}

-- these entries tell what the answer does, and are one at most
abbrev TellAs : List What → Answer → Type 0
TellAs whats answer = ((by before : ℕ) → faults_in before (noted by whats) ≡ told_by answer before) × (length whats ≤ 1)

nothing_small : 0 ≤ 1
nothing_small = omega arith

one_small : 1 ≤ 1
one_small = omega arith

reads : (answer : Answer) → TellAs (read_changes answer) answer
reads (committed number) = (λ by before. refl, nothing_small)
reads (refused why) = (λ by before. refl, nothing_small)
reads (full end) = (λ by before. refl, nothing_small)
reads (flushed through commits) = (λ by before. refl, nothing_small)
reads (all_flushed commits) = (λ by before. refl, nothing_small)
reads (passed step) = (λ by before. refl, nothing_small)
reads (viewed view) = (λ by before. refl, nothing_small)
reads (found number docs) = (λ by before. refl, nothing_small)
reads (listed number listing) = (λ by before. refl, nothing_small)
reads (measured size) = (λ by before. refl, nothing_small)
reads (disk_fault faults) = (λ by before. refl, one_small)
reads (stopped faults) = (λ by before. refl, nothing_small)
reads no_memory = (λ by before. refl, nothing_small)

-- what a step adds tells what its answer does, and is one entry at most
pub tells_as : (ask : Ask) (answer : Answer) → IsOfDevice ask answer → TellAs (changes_of ask answer) answer
tells_as (to_commit commit) (committed number) of = (λ by before. refl, one_small)
tells_as (to_commit commit) (refused why) of = (λ by before. refl, nothing_small)
tells_as (to_commit commit) (full end) of = (λ by before. refl, nothing_small)
tells_as (to_commit commit) (flushed through commits) of = (λ by before. refl, nothing_small)
tells_as (to_commit commit) (all_flushed commits) of = (λ by before. refl, nothing_small)
tells_as (to_commit commit) (passed step) of = (λ by before. refl, nothing_small)
tells_as (to_commit commit) (viewed view) of = (λ by before. refl, nothing_small)
tells_as (to_commit commit) (found number docs) of = (λ by before. refl, nothing_small)
tells_as (to_commit commit) (listed number listing) of = (λ by before. refl, nothing_small)
tells_as (to_commit commit) (measured size) of = (λ by before. refl, nothing_small)
tells_as (to_commit commit) (disk_fault faults) of = (λ by before. refl, one_small)
tells_as (to_commit commit) (stopped faults) of = (λ by before. refl, nothing_small)
tells_as (to_commit commit) no_memory of = (λ by before. refl, nothing_small)
tells_as to_sync (committed number) of = (λ by before. refl, nothing_small)
tells_as to_sync (refused why) of = (λ by before. refl, nothing_small)
tells_as to_sync (full end) of = (λ by before. refl, nothing_small)
tells_as to_sync (flushed through commits) of = (λ by before. refl, one_small)
tells_as to_sync (all_flushed commits) of = (λ by before. refl, nothing_small)
tells_as to_sync (passed step) of = (λ by before. refl, nothing_small)
tells_as to_sync (viewed view) of = (λ by before. refl, nothing_small)
tells_as to_sync (found number docs) of = (λ by before. refl, nothing_small)
tells_as to_sync (listed number listing) of = (λ by before. refl, nothing_small)
tells_as to_sync (measured size) of = (λ by before. refl, nothing_small)
tells_as to_sync (disk_fault faults) of = (λ by before. refl, one_small)
tells_as to_sync (stopped faults) of = (λ by before. refl, nothing_small)
tells_as to_sync no_memory of = (λ by before. refl, nothing_small)
tells_as to_optimize (committed number) of = (λ by before. refl, nothing_small)
tells_as to_optimize (refused why) of = (λ by before. refl, nothing_small)
tells_as to_optimize (full end) of = (λ by before. refl, nothing_small)
tells_as to_optimize (flushed through commits) of = (λ by before. refl, nothing_small)
tells_as to_optimize (all_flushed commits) of = (λ by before. refl, nothing_small)
tells_as to_optimize (passed Nothing) of = (λ by before. refl, nothing_small)
tells_as to_optimize (passed Began) of = (λ by before. refl, one_small)
tells_as to_optimize (passed Word) of = (λ by before. refl, one_small)
tells_as to_optimize (passed Finished) of = (λ by before. refl, one_small)
tells_as to_optimize (viewed view) of = (λ by before. refl, nothing_small)
tells_as to_optimize (found number docs) of = (λ by before. refl, nothing_small)
tells_as to_optimize (listed number listing) of = (λ by before. refl, nothing_small)
tells_as to_optimize (measured size) of = (λ by before. refl, nothing_small)
tells_as to_optimize (disk_fault faults) of = (λ by before. refl, one_small)
tells_as to_optimize (stopped faults) of = (λ by before. refl, nothing_small)
tells_as to_optimize no_memory of = (λ by before. refl, nothing_small)
tells_as (to_view asked) answer of = reads answer
tells_as (to_find terms) answer of = reads answer
tells_as (to_list kind) answer of = reads answer
tells_as to_measure answer of = (λ by before. sym (calm_told answer before of), nothing_small)

-- ---- entries of a history

pub faults_more : (before : ℕ) (xs ys : List Entry) → faults_in before (xs ++ ys) ≡ faults_in (faults_in before xs) ys
faults_more before [] ys = refl
faults_more before (x ∷ xs) ys = faults_more (faults_by x.what before) xs ys

pub rising_more : (before : ℕ) (xs ys : List Entry) → NoneTellsLess before xs → NoneTellsLess (faults_in before xs) ys → NoneTellsLess before (xs ++ ys)
rising_more before [] ys first rest = rest
rising_more before (x ∷ xs) ys first rest = (first.0, rising_more (faults_by x.what before) xs ys first.1 rest)

pub rising_one : (before by : ℕ) (whats : List What) → length whats ≤ 1 → before ≤ faults_in before (noted by whats) → NoneTellsLess before (noted by whats)
rising_one before by [] one less = tt
rising_one before by (what ∷ []) one less = (less, tt)
rising_one before by (what ∷ other ∷ whats) one less = absurd (omega (arith, one))

-- none tells less than what was before
pub all_above : (before : ℕ) (xs : List Entry) → NoneTellsLess before xs → before ≤ faults_in before xs
all_above before [] rising = omega arith
all_above before (x ∷ xs) rising =
    let here = rising.0 in let rest = all_above (faults_by x.what before) xs rising.1 in omega (arith, here, rest)
