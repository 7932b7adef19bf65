-- Events one after another.
use Rattle.std.specs.Prelude.{◌≡◌, List, [], ◌∷◌, None}
use Rattle.fts_types.specs.declared.settings.Settings.{Settings}
use Rattle.fts_disk.specs.Crash.{Only}
use Rattle.fts_steps.specs.State.{IsRows, IsIndex, created_with}
use Rattle.fts_steps.specs.Running.{opened}
use Rattle.fts_disk.specs.declared.disk.Disk.{Ghosts}
use Rattle.fts_core.specs.declared.event.Event.{Event}
use Rattle.fts_core.specs.declared.event.Outcome.{Outcome}
use Rattle.fts_core.specs.declared.world.World.{World}
use Rattle.fts_core.specs.World.{Moments, moments}
use Rattle.fts_core.specs.Core.{Core, Fits, CanCome}
use Rattle.fts_core.specs.Turns.{Turns}

-- what stands behind an event, of which the new world is one
pub record Turned {D E : Type 0} {rows : Ghosts D} {index : Ghosts E} (event : Event D E) (outcome : Outcome)
    (core : Core) (old new : World D E rows index) : Type 0 where
  pub next : Core
  pub turns : Turns rows index (moments old) event outcome core next
  pub fits : Fits next new

-- from whatever stood in the old world, the event leads to something that stands in the new one
abbrev pub Allows : {D E : Type 0} {rows : Ghosts D} {index : Ghosts E}
    → World D E rows index → Event D E → Outcome → World D E rows index → Type 0
Allows old event outcome new =
    (core : Core) → Fits core old → CanCome core old event → Turned event outcome core old new

-- so of each event: there is one outcome for each, and a world between
abbrev pub AllowsAll : {D E : Type 0} {rows : Ghosts D} {index : Ghosts E}
    → World D E rows index → List (Event D E) → List Outcome → World D E rows index → Type 0
AllowsAll old [] [] new = new ≡ old
AllowsAll {D} {E} {rows} {index} old (event ∷ events) (outcome ∷ outcomes) new =
    (mid : World D E rows index) × Allows old event outcome mid × AllowsAll mid events outcomes new
AllowsAll old [] (outcome ∷ outcomes) new = ⊥
AllowsAll old (event ∷ events) [] new = ⊥

-- a device holds the log of a database that was just created, durably
pub record AreCreated {D E : Type 0} (rows : Ghosts D) (index : Ghosts E) (settings : Settings) (d : D) (e : E) : Type 0
  where
    pub of_rows : IsRows (created_with settings) (rows.seen d 0) × Only (rows.seen d) (rows.images d)
    pub of_index : IsIndex (created_with settings) (index.seen e) × Only (index.seen e) (index.images e)

-- what stands of a database that was just created, with no engine open
abbrev pub created_core : Settings → Moments → Core
created_core settings began = record {
  now = opened (created_with settings);
  undone = opened (created_with settings);
  limits = None;
  since = began;
}
