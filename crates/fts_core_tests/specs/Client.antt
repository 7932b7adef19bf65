-- What stands in a world of a client.
use Rattle.std.specs.Prelude.{◌≡◌, ℕ, List, [], ◌∷◌, true, length, Ok}
use Rattle.fts_disk.specs.Crash.{Within, Only}
use Rattle.fts_disk.specs.declared.disk.Disk.{Ghosts}
use Rattle.fts_query.specs.declared.view.View.{View}
use Rattle.fts_core.specs.declared.event.Event.{Event}
use Rattle.fts_core.specs.declared.event.Event.TheVariants.{Crash}
use Rattle.fts_core.specs.declared.event.Outcome.{Outcome}
use Rattle.fts_core.specs.declared.event.Outcome.TheVariants as outcome
use Rattle.fts_core.specs.declared.world.World.{World}
use Rattle.fts_core.specs.Core.{Core, Fits, CanCome}

-- so many commits are acknowledged in a world, and none is in doubt
pub record Stands {D E : Type 0} {rows : Ghosts D} {index : Ghosts E} (commits : ℕ) (world : World D E rows index)
    : Type 0 where
  pub core : Core
  pub fits : Fits core world
  pub counted : length core.now.state.commits ≡ commits
  pub sure : core.now.doubt ≡ []

-- a crash within the last call can come so, and leaves so many commits, and none in doubt
pub record CanCrash {D E : Type 0} {rows : Ghosts D} {index : Ghosts E} (commits : ℕ) (world : World D E rows index)
    (crash : Event D E) : Type 0 where
  pub core : Core
  pub fits : Fits core world
  pub can : CanCome core world crash
  pub left_rows : D
  pub left_index : E
  pub is : crash ≡ Crash left_rows left_index true
  pub counted : length core.undone.state.commits ≡ commits
  pub sure : core.undone.doubt ≡ []

-- a device was synced, and a crash within that may leave another, whose only image is what it reads
pub record IsSynced {D : Type 0} (disk : Ghosts D) (old new left : D) : Type 0 where
  pub now : Within (disk.images old) (disk.images new)
  pub during : Within (disk.images old) (disk.left_since new (disk.moment old))
  pub comes : disk.left_since new (disk.moment old) (disk.seen left)
  pub only : Only (disk.seen left) (disk.images left)

-- an opening and two commits answered Ok
abbrev pub AreCommitted : List Outcome → Type 0
AreCommitted outcomes = (one two : ℕ)
    × (outcomes ≡ outcome.Opened (Ok tt) ∷ outcome.Committed (Ok one) ∷ outcome.Committed (Ok two) ∷ [])

-- behind a crash an opening answered Ok, and a view that has this number
abbrev pub IsViewed : List Outcome → ℕ → Type 0
IsViewed outcomes number = (view : View)
    × (outcomes ≡ outcome.Crashed ∷ outcome.Opened (Ok tt) ∷ outcome.Viewed (Ok view) ∷ []) × (number ≡ view.number)
