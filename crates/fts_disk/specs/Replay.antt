-- What a record of calls makes of the files of a device, and what a crash leaves of them.
use Rattle.std.specs.Prelude.{◌≡◌, ◌⊎◌, ℕ, ◌+◌, ◌<◌, ◌≤◌, Bool, Vec, List, [], ◌∷◌, ◌++◌, length, take, drop, true}
use Rattle.std.specs.Prelude.{false, if◌then◌else◌, ◌==◌}
use Rattle.std.specs.declared.alloc.Global.{Global}
use Rattle.fts_disk.specs.Device.{Files, OnFile, Torn, Shortened}
use Rattle.fts_disk.specs.Crash.{Images}
use Rattle.fts_disk.specs.declared.memory.Call.{Call}
use Rattle.fts_disk.specs.declared.memory.Call.TheVariants.{Len, Read, Write, Cut, Sync}

-- the file of a call
abbrev pub file_of : Call → ℕ
file_of (Len file done) = file
file_of (Read file at count done) = file
file_of (Write file at bytes done) = file
file_of (Cut file len done) = file
file_of (Sync done) = 0

-- one file has these bytes, and the others are as they were
abbrev pub put_in : ℕ → List ℕ → Files → Files
put_in file bytes files other = if other == file then bytes else files other

-- the bytes of a file with others written over them from a place on
abbrev pub overwritten : ℕ → List ℕ → List ℕ → List ℕ
overwritten at bytes old = take at old ++ bytes ++ drop (at + length bytes) old

-- what the files read after a call
abbrev pub step_seen : Call → Files → Files
step_seen (Write file at bytes true) files = put_in file (overwritten at bytes.items (files file)) files
step_seen (Cut file len true) files = put_in file (take len (files file)) files
step_seen call files = files

-- the same files
abbrev pub Same : Files → Images
Same files c = (file : ℕ) → c file ≡ files file

-- what a stop in a call makes of what a crash could leave before; one that only looks, or a sync, makes nothing of it
abbrev pub StepsOnDisk : Call → Files → Files → Type 0
StepsOnDisk (Write file at bytes done) old new = OnFile file (Torn at (length bytes.items)) old new
StepsOnDisk (Cut file len done) old new = OnFile file (Shortened len) old new
StepsOnDisk call old new = new ≡ old

-- what a crash leaves after a call, by what the files read before it: after a write or a cut the files as they read,
-- or a part of it made of something that a crash could leave before; after a sync that succeeds the files as they read
abbrev pub step_images : Call → Files → Images → Images
step_images (Len file done) files images c = images c
step_images (Read file at count done) files images c = images c
step_images (Sync false) files images c = images c
step_images (Sync true) files images c = Same files c
step_images call files images c = Same (step_seen call files) c ⊎ ((d : Files) × images d × StepsOnDisk call d c)

-- the call is a sync that was done
abbrev pub settles : Call → Bool
settles (Sync done) = done
settles call = false

-- the call only looks, or is a sync
abbrev pub IsLook : Call → Type 0
IsLook (Write file at bytes done) = ⊥
IsLook (Cut file len done) = ⊥
IsLook call = Unit {0}

-- the call is of a file of a device
abbrev pub IsOfFile : Call → Type 0
IsOfFile call = file_of call < 16

-- the call asks for the length
abbrev pub IsLenOf : ℕ → Bool → Call → Type 0
IsLenOf file done call = call ≡ Len file done

-- the call is a read of so many bytes
abbrev pub IsReadOf : ℕ → ℕ → ℕ → Bool → Call → Type 0
IsReadOf file at count done call = call ≡ Read file at count done

-- the call is a write of these bytes
abbrev pub IsWriteOf : ℕ → ℕ → List ℕ → Bool → Call → Type 0
IsWriteOf file at bytes done call = (noted : Vec ℕ Global) × (noted.items ≡ bytes) × (call ≡ Write file at noted done)

-- the call is a cut to this length
abbrev pub IsCutOf : ℕ → ℕ → Bool → Call → Type 0
IsCutOf file len done call = call ≡ Cut file len done

-- the call is a sync
abbrev pub IsSyncOf : Bool → Call → Type 0
IsSyncOf done call = call ≡ Sync done

-- the calls are the old ones, and behind them one more of which this holds
abbrev pub Entered : (Call → Type 0) → List Call → List Call → Type 0
Entered IsCall old new = (call : Call) × IsCall call × (new ≡ old ++ call ∷ [])

-- what the files read after these calls
abbrev pub seen_after : List Call → Files → Files
seen_after [] files = files
seen_after (call ∷ calls) files = seen_after calls (step_seen call files)

-- what a crash leaves after these calls, by what the files read before them
abbrev pub images_after : List Call → Files → Images → Images
images_after [] files images = images
images_after (call ∷ calls) files images = images_after calls (step_seen call files) (step_images call files images)

-- what a crash leaves after these calls on a device that began with these files, all of them durable
abbrev pub images_now : List Call → Files → Images
images_now calls first = images_after calls first (Same first)

-- what a crash leaves after so many of the calls on a device that began with these files
abbrev pub images_at : ℕ → List Call → Files → Images
images_at k calls first = images_now (take k calls) first

-- a stop in the call of this place leaves what a crash before it leaves, or one after it
abbrev pub IsLeftIn : ℕ → List Call → Files → Images
IsLeftIn k calls first c = images_at k calls first c ⊎ images_at (k + 1) calls first c

-- what a crash left after some number of the calls, this or more
abbrev pub left_after : ℕ → List Call → Files → Images
left_after t calls first c = (k : ℕ) × (t ≤ k) × (k ≤ length calls) × images_at k calls first c
