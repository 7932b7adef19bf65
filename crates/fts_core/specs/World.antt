-- What contracts see of a world.
use Rattle.std.specs.Prelude.{ℕ, List, option_to_list}
use Rattle.fts_commits.specs.Commit.{Commit}
use Rattle.fts_disk.specs.declared.disk.Disk.{Ghosts}
use Rattle.fts_engine.specs.Stands.{rows_device, index_device}
use Rattle.fts_core.specs.declared.world.Place.{Place}
use Rattle.fts_core.specs.declared.world.Place.TheVariants.{Closed, Open}
use Rattle.fts_core.specs.declared.world.World.{World}

-- the two devices, closed or under an engine
abbrev pub rows_at : {D E : Type 0} {rows : Ghosts D} {index : Ghosts E} → Place D E rows index → D
rows_at (Closed rows index) = rows
rows_at (Open engine) = rows_device engine

abbrev pub index_at : {D E : Type 0} {rows : Ghosts D} {index : Ghosts E} → Place D E rows index → E
index_at (Closed rows index) = index
index_at (Open engine) = index_device engine

-- the acknowledged commits, in their order
abbrev pub acknowledged : {D E : Type 0} {rows : Ghosts D} {index : Ghosts E} → World D E rows index → List Commit
acknowledged world = world.acknowledged.items

-- the commit in doubt, or none
abbrev pub in_doubt : {D E : Type 0} {rows : Ghosts D} {index : Ghosts E} → World D E rows index → List Commit
in_doubt world = option_to_list world.doubt

-- a moment of each device
pub record Moments : Type 0 where
  pub rows : ℕ
  pub index : ℕ

-- those at which the devices of a world stand
abbrev pub moments : {D E : Type 0} {rows : Ghosts D} {index : Ghosts E} → World D E rows index → Moments
moments {rows} {index} world =
    record { rows = rows.moment (rows_at world.place); index = index.moment (index_at world.place) }
