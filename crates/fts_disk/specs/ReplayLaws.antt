-- What a device in memory is by its record.
use Rattle.std.specs.Prelude.{◌≡◌, ℕ, ◌≤◌, List, [], ◌∷◌, length, take, true, false}
use Rattle.std.proofs.Common.{refl, sym, subst, inl, arith}
use Rattle.std.proofs.lemmas.List.{take_all}
use Rattle.fts_disk.specs.Device.{Files}
use Rattle.fts_disk.specs.Crash.{Images}
use Rattle.fts_disk.specs.Replay.{Same, step_seen, step_images, seen_after, images_after, images_now}
use Rattle.fts_disk.specs.declared.memory.Call.{Call}
use Rattle.fts_disk.specs.declared.memory.Call.TheVariants.{Len, Read, Write, Cut, Sync}
use Rattle.fts_disk.specs.declared.memory.MemDisk.{MemDisk}
use Rattle.fts_disk.specs.Memory.{mem_files, mem_first, mem_calls, mem_images, mem_moment, mem_left_since}

-- a crash after a call may leave the files as they read
step_stays : (call : Call) (files : Files) (images : Images) → images files
    → step_images call files images (step_seen call files)
step_stays (Len file done) files images here = here
step_stays (Read file at count done) files images here = here
step_stays (Write file at bytes done) files images here = inl (λ f. refl)
step_stays (Cut file len done) files images here = inl (λ f. refl)
step_stays (Sync true) files images here = λ f. refl
step_stays (Sync false) files images here = here

pub stays : (calls : List Call) (files : Files) (images : Images) → images files
    → images_after calls files images (seen_after calls files)
stays [] files images here = here
stays (call ∷ calls) files images here = stays calls (step_seen call files) (step_images call files images)
    (step_stays call files images here)

pub seen_stays : (disk : MemDisk) → mem_images disk (mem_files disk)
seen_stays disk = subst (mem_images disk) (sym disk.recorded.tied)
    (stays (mem_calls disk) (mem_first disk) (Same (mem_first disk)) (λ f. refl))

-- all of the calls
pub whole : (calls : List Call) (k : ℕ) → length calls ≤ k → take k calls ≡ calls
whole calls k le = take_all k calls le

pub left_now : (disk : MemDisk) (t : ℕ) (c : Files) → t ≤ mem_moment disk → mem_images disk c → mem_left_since disk t c
left_now disk t c le here = (
  length (mem_calls disk),
  le,
  omega arith,
  subst (λ (calls : List Call). images_now calls (mem_first disk) c)
      (sym (whole (mem_calls disk) (length (mem_calls disk)) (omega arith))) here,
)

pub left_only_now : (disk : MemDisk) (c : Files) → mem_left_since disk (mem_moment disk) c → mem_images disk c
left_only_now disk c (k, from, to, here) = subst (λ (calls : List Call). images_now calls (mem_first disk) c)
    (whole (mem_calls disk) k from) here
