-- What stands of a database that was just created.
use Rattle.std.proofs.Common.{◌≡◌, [], refl, subst, sym, inl}
use Rattle.std.specs.Prelude.{Vec, None}
use Rattle.std.specs.declared.alloc.Global.{Global}
use Rattle.fts_types.specs.declared.settings.Settings.{Settings}
use Rattle.fts_commits.specs.Commit.{Commit}
use Rattle.fts_disk.specs.Device.{Files}
use Rattle.fts_disk.specs.declared.disk.Disk.{Ghosts}
use Rattle.fts_steps.specs.State.{created_with, IsRows}
use Rattle.fts_steps.specs.Running.{opened}
use Rattle.fts_steps.specs.Crash.{MayHold, MayHoldIndex}
use Rattle.fts_steps.proofs.Adding.{index_as}
use Rattle.fts_steps.proofs.Growing.{none_right}
use Rattle.fts_core.specs.declared.world.Place.TheVariants.{Closed}
use Rattle.fts_core.specs.declared.world.World.{World}
use Rattle.fts_core.specs.World.{moments}
use Rattle.fts_core.specs.Parts.{behind}
use Rattle.fts_steps.specs.Right.{HasRightIndex}
use Rattle.fts_core.specs.Core.{Fits}
use Rattle.fts_core.specs.Lists.{AreCreated, created_core}
use Rattle.fts_core.proofs.Between.{since_now}
use Rattle.fts_core.proofs.Right.{AllKnown, sure_right}

module _ {D E : Type 0} {disk : Ghosts D} {disk' : Ghosts E} (only : (d : D) (c : Files) → disk.left_since d (disk.moment d) c → disk.images d c)
    (only' : (d : E) (c : Files) → disk'.left_since d (disk'.moment d) c → disk'.images d c) (rows : D) (index : E) (commits : Vec Commit Global) (none : commits.items ≡ [])
    (known : AllKnown) (settings : Settings) (are : AreCreated disk disk' settings rows index) where
  abbrev pub world : World D E disk disk'
  world = behind (Closed rows index) commits None

  held : (c : Files) → disk.images rows c → MayHold (created_with settings) [] c
  held c may = inl (subst (IsRows (created_with settings)) (sym (are.of_rows.1 c may 0)) are.of_rows.0)

  held' : (c : Files) → disk'.images index c → MayHoldIndex (created_with settings) [] c
  held' c may = inl (index_as (created_with settings) (disk'.seen index) c (are.of_index.1 c may) are.of_index.0)

  right : HasRightIndex (opened (created_with settings))
  right = sure_right (opened (created_with settings)) refl refl (none_right settings [] (known []))

  pub created_fits : Fits (created_core settings (moments world)) world
  created_fits = record {
    acknowledged = none;
    doubt = refl;
    last = (refl, refl);
    on_rows = record { now = held; undone = since_now disk (MayHold (created_with settings) []) rows rows only refl held };
    on_index = record { now = held'; undone = since_now disk' (MayHoldIndex (created_with settings) []) index index only' refl held' };
    runs = refl;
    right = right;
    right_undone = right;
  }
