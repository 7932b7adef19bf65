-- Worlds by their parts.
use Rattle.std.specs.Prelude.{Vec, Option}
use Rattle.std.specs.declared.alloc.Global.{Global}
use Rattle.fts_commits.specs.Commit.{Commit}
use Rattle.fts_disk.specs.declared.disk.Disk.{Ghosts}
use Rattle.fts_core.specs.declared.world.Last.{Last}
use Rattle.fts_core.specs.declared.world.Last.TheVariants.{Other}
use Rattle.fts_core.specs.declared.world.Place.{Place}
use Rattle.fts_core.specs.declared.world.Place.TheVariants.{Closed, Open}
use Rattle.fts_core.specs.declared.world.World.{World}

-- no engine is open
abbrev pub IsClosed : {D E : Type 0} {rows : Ghosts D} {index : Ghosts E} → Place D E rows index → Type 0
IsClosed (Closed rows index) = Unit {0}
IsClosed (Open engine) = ⊥

-- a world of these parts
abbrev pub world_of : {D E : Type 0} {rows : Ghosts D} {index : Ghosts E}
    → Place D E rows index → Vec Commit Global → Option Commit → Last → World D E rows index
world_of place acknowledged doubt last =
    record { place = place; acknowledged = acknowledged; doubt = doubt; last = last }

-- one behind a call that acknowledged nothing
abbrev pub behind : {D E : Type 0} {rows : Ghosts D} {index : Ghosts E}
    → Place D E rows index → Vec Commit Global → Option Commit → World D E rows index
behind place acknowledged doubt = world_of place acknowledged doubt Other
