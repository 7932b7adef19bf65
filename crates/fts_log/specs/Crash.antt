-- What a crash in an append leaves.
use Rattle.std.specs.Prelude.{◌⊎◌, ℕ, List, [], ◌∷◌, ◌++◌}
use Rattle.fts_disk.specs.Device.{Files}
use Rattle.fts_disk.specs.Crash.{Images}
use Rattle.fts_log.specs.Device.{SameOthers}
use Rattle.fts_log.specs.Record.{IsLog}

-- file 0 is the log of the entries, and the other files are as a crash could leave them before
pub record IsBefore (magic : List ℕ) (entries : List (List ℕ)) (images : Images) (c : Files) : Type 0 where
  pub is_log : IsLog magic entries (c 0)
  pub from : Files
  pub was : images from
  pub others : SameOthers from c

-- file 0 is the log of the entries and one more, and the other files are as they read
pub record IsAfter (magic : List ℕ) (entries : List (List ℕ)) (payload : List ℕ) (files c : Files) : Type 0 where
  pub is_log : IsLog magic (entries ++ payload ∷ []) (c 0)
  pub others : SameOthers files c

-- the one or the other; images and files are those at the begin of the append
abbrev pub IsBeforeOrAfter : List ℕ → List (List ℕ) → List ℕ → Images → Files → Images
IsBeforeOrAfter magic entries payload images files c = IsBefore magic entries images c
    ⊎ IsAfter magic entries payload files c
