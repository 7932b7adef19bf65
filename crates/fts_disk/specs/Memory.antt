use Rattle.std.specs.Prelude.{◌≡◌, ◌+◌, ◌-◌, ◌^◌, ◌⊎◌, ℕ, List, length, min, slice_index, slice_set, Contains, Bool}
use Rattle.std.specs.Prelude.{true, false, Result, IsErr, OnOk, OnErr}
use Rattle.fts_disk.specs.Device.{Files}
use Rattle.fts_disk.specs.Contents.{contents}
use Rattle.fts_disk.specs.Crash.{Images}
use Rattle.fts_disk.specs.Replay.{images_now, left_after, Entered}
use Rattle.fts_disk.specs.declared.memory.Call.{Call}
use Rattle.fts_disk.specs.declared.memory.Kind.{Kind}
use Rattle.fts_disk.specs.declared.memory.Kind.TheVariants.{Len, Read, Write, Cut, Sync}
use Rattle.fts_disk.specs.declared.memory.MemDisk.{MemDisk}
use Rattle.fts_disk.specs.declared.memory.recorded.Recorded.{Recorded}

-- the place of a kind among the counts of calls
abbrev pub place_of : Kind → ℕ
place_of Len = 0
place_of Read = 1
place_of Write = 2
place_of Cut = 3
place_of Sync = 4

-- the number that the next call of a kind has, from 1; a count stands still at the last u64
abbrev pub next_number : Kind → List ℕ → ℕ
next_number kind made = min (slice_index made (place_of kind) + 1) (2 ^ 64 - 1)

-- the counts of calls after one more of a kind
abbrev pub one_more : Kind → List ℕ → List ℕ
one_more kind made = slice_set made (place_of kind) (next_number kind made)

-- a list names the next call of this kind, after so many of each
abbrev pub IsNamed : Kind → List (Kind × ℕ) → List ℕ → Type 0
IsNamed kind fails made = Contains fails (kind, next_number kind made)

-- what the files of a record held when it began
abbrev pub first_of : Recorded → Files
first_of recorded = contents recorded.first.items

-- what the files of a record hold
abbrev pub files_of : Recorded → Files
files_of recorded = contents recorded.files.items

-- what a crash now may leave
abbrev pub images_of : Recorded → Images
images_of recorded = images_now recorded.calls.items (first_of recorded)

-- the clock: how many calls there were
abbrev pub moment_of : Recorded → ℕ
moment_of recorded = length recorded.calls.items

-- what a crash at some moment since a given one might have left
abbrev pub left_of : Recorded → ℕ → Images
left_of recorded moment = left_after moment recorded.calls.items (first_of recorded)

-- what the files of the disk hold
abbrev pub mem_files : MemDisk → Files
mem_files disk = files_of disk.recorded

-- what the files held when the disk was made
abbrev pub mem_first : MemDisk → Files
mem_first disk = first_of disk.recorded

-- its record of calls
abbrev pub mem_calls : MemDisk → List Call
mem_calls disk = disk.recorded.calls.items

-- what a crash now may leave
abbrev pub mem_images : MemDisk → Images
mem_images disk = images_of disk.recorded

-- its clock: how many calls stand in its record
abbrev pub mem_moment : MemDisk → ℕ
mem_moment disk = moment_of disk.recorded

-- what a crash at some moment since a given one might have left
abbrev pub mem_left_since : MemDisk → ℕ → Images
mem_left_since disk = left_of disk.recorded

-- which calls fail, by their kind and their number from 1
abbrev pub mem_fails : MemDisk → List (Kind × ℕ)
mem_fails disk = disk.counters.fails.items

-- how many calls of each kind there were
abbrev pub mem_made : MemDisk → List ℕ
mem_made disk = disk.counters.made

-- how many faults there were
abbrev pub mem_faults : MemDisk → ℕ
mem_faults disk = disk.counters.faults

-- how often it found no memory
abbrev pub mem_refused : MemDisk → ℕ
mem_refused disk = disk.counters.refused

-- one more, or the last value of a u64
abbrev pub next_count : ℕ → ℕ
next_count count = min (count + 1) (2 ^ 64 - 1)

-- a call of a kind fails exactly where the list names it or no memory is found for it, which `refused` counts; one that
-- fails is one more fault, and one that succeeds none; the list stays, and the call is counted
pub record AnswersAsListed {T E : Type 0} (kind : Kind) (old new : MemDisk) (result : Result T E) : Type 0 where
  pub named : IsNamed kind (mem_fails old) (mem_made old) → IsErr result
  pub listed : OnErr result (
      IsNamed kind (mem_fails old) (mem_made old) ⊎ (mem_refused new ≡ next_count (mem_refused old)))
  pub no_refusal : OnOk result (mem_refused new ≡ mem_refused old)
  pub no_fault : OnOk result (mem_faults new ≡ mem_faults old)
  pub fault : OnErr result (mem_faults new ≡ next_count (mem_faults old))
  pub fails : mem_fails new ≡ mem_fails old
  pub made : mem_made new ≡ one_more kind (mem_made old)

-- a call that answers Ok stands at the end of the record, as done; one that fails stands there as not done, or no
-- memory was found for it and the record has nothing more; what the files held at first stays
pub record IsNoted {T E : Type 0} (IsCall : Bool → Call → Type 0) (old new : MemDisk) (result : Result T E) : Type 0
  where
    pub done : OnOk result (Entered (IsCall true) (mem_calls old) (mem_calls new))
    pub failed : OnErr result (
        (Entered (IsCall false) (mem_calls old) (mem_calls new) × (mem_refused new ≡ mem_refused old))
        ⊎ ((mem_calls new ≡ mem_calls old) × (mem_refused new ≡ next_count (mem_refused old))))
    pub first : mem_first new ≡ mem_first old

-- a call of a kind answers as the list says, and is noted
pub record AnswersCall {T E : Type 0} (kind : Kind) (IsCall : Bool → Call → Type 0) (old new : MemDisk)
    (result : Result T E)
    : Type 0 where
  pub listed : AnswersAsListed kind old new result
  pub noted : IsNoted IsCall old new result
