-- What an opening finds, and what a crash leaves.
use Rattle.std.proofs.Common.{◌≡◌, ℕ, List, [], refl, ap, subst, sym, inl, inr, ⊎_elim}
use Rattle.std.specs.Prelude.{◌⊎◌, Bool, true, false, Vec, Option, Some, None, option_to_list, IsTrue}
use Rattle.std.specs.declared.alloc.Global.{Global}
use Rattle.fts_types.specs.declared.limits.Limits.{Limits}
use Rattle.fts_commits.specs.Commit.{Commit}
use Rattle.fts_disk.specs.Device.{Files}
use Rattle.fts_disk.specs.Crash.{Only}
use Rattle.fts_disk.specs.Moments.{LeavesAsBefore, Looks}
use Rattle.fts_disk.specs.declared.disk.Disk.{Ghosts}
use Rattle.fts_steps.specs.State.{State, with_commits, with_entries, IsRight, IsRows, IsIndex, IsCreated}
use Rattle.fts_steps.specs.Fault.{IsIndexFaultAt}
use Rattle.fts_steps.specs.Running.{Running, opened}
use Rattle.fts_steps.specs.Crash.{MayHold, MayHoldIndex}
use Rattle.fts_steps.proofs.Adding.{index_stay, index_as}
use Rattle.fts_steps.proofs.Faults.{is_created, not_at_fault}
use Rattle.fts_engine.specs.declared.engine.Engine.{Engine}
use Rattle.fts_engine.specs.declared.error.Device.TheVariants.{Rows, Index}
use Rattle.fts_engine.specs.declared.error.OpenError.{OpenError}
use Rattle.fts_engine.specs.declared.error.OpenError.TheVariants.{NoMemory, NotCreated, Damaged, DiskFault}
use Rattle.fts_engine.specs.Opening.{IsNoRows}
use Rattle.fts_engine.specs.Stands.{Holds, engine_limits, rows_device, index_device}
use Rattle.fts_engine.proofs.Single.{one_rows, one_index}
use Rattle.fts_core.specs.declared.world.Last.{Last}
use Rattle.fts_core.specs.declared.world.Place.TheVariants.{Closed, Open}
use Rattle.fts_core.specs.declared.world.World.{World}
use Rattle.fts_core.specs.World.{moments, rows_at, index_at}
use Rattle.fts_core.specs.Parts.{world_of, behind}
use Rattle.fts_steps.specs.Right.{MayBe, HasRightIndex}
use Rattle.fts_core.specs.Core.{Core, TakesBack, Fits, IsLeftOn}
use Rattle.fts_core.specs.Turns.{Opens, Refuses, IsFreeRefusal, Crashes, left_by}
use Rattle.fts_core.proofs.Right.{sure_right}
use Rattle.fts_core.proofs.Between.{since_now}

-- why an opening is refused, if not by the bytes
pub free_refusal : (error : OpenError) → (error ≡ NotCreated → ⊥) → ((file at : ℕ) → error ≡ Damaged Rows file at → ⊥) → ((file at : ℕ) → error ≡ Damaged Index file at → ⊥)
    → IsFreeRefusal error
free_refusal NoMemory created rows index = tt
free_refusal NotCreated created rows index = created refl
free_refusal (Damaged Rows file at) created rows index = rows file at refl
free_refusal (Damaged Index file at) created rows index = index file at refl
free_refusal DiskFault created rows index = tt

module _ {D E : Type 0} {disk : Ghosts D} {disk' : Ghosts E} (stay : (d : D) → disk.images d (disk.seen d)) (stay' : (d : E) → disk'.images d (disk'.seen d))
    (core : Core) (world : World D E disk disk') (fits : Fits core world) where
  -- the devices read as what stands
  reads : MayHold core.now.state core.now.doubt (disk.seen (rows_at world.place))
  reads = fits.on_rows.now (disk.seen (rows_at world.place)) (stay (rows_at world.place))

  reads' : MayHoldIndex core.now.state core.now.loose (disk'.seen (index_at world.place))
  reads' = fits.on_index.now (disk'.seen (index_at world.place)) (stay' (index_at world.place))

  abbrev pub file : List ℕ
  file = disk.seen (rows_at world.place) 0

  abbrev pub files' : Files
  files' = disk'.seen (index_at world.place)

  -- so a database was created
  pub created : IsCreated file
  created = ⊎_elim (is_created core.now.state file) (is_created (with_commits core.now.state core.now.doubt) file) reads

  -- the rows log is one
  pub some_rows : IsNoRows file → ⊥
  some_rows none = ⊎_elim (none core.now.state) (none (with_commits core.now.state core.now.doubt)) reads

  -- and so is the index log
  pub some_index : (state : State) (at : ℕ) → IsRows state file → IsIndexFaultAt state at (files' 0) → ⊥
  some_index state at rows fault = by reads reads'
    where
      loose : State
      loose = with_entries core.now.state core.now.loose

      by : MayHold core.now.state core.now.doubt (disk.seen (rows_at world.place)) → MayHoldIndex core.now.state core.now.loose (disk'.seen (index_at world.place)) → ⊥
      by (inl without) (inl index) = let same = one_rows core.now.state state file without rows in not_at_fault state core.now.state at files' same.0 same.1 index fault
      by (inl without) (inr index) = let same = one_rows core.now.state state file without rows in not_at_fault state loose at files' same.0 same.1 index fault
      by (inr with_it) (inl index) =
          let same = one_rows (with_commits core.now.state core.now.doubt) state file with_it rows in
          not_at_fault state (with_commits core.now.state core.now.doubt) at files' same.0 same.1 (index_stay core.now.state core.now.doubt files' index) fault
      by (inr with_it) (inr index) =
          let same = one_rows (with_commits core.now.state core.now.doubt) state file with_it rows in
          not_at_fault state (with_commits loose core.now.doubt) at files' same.0 same.1 (index_stay loose core.now.doubt files' index) fault

  -- what is found is what stands
  pub finds : (state : State) → IsRows state file → IsIndex state files' → MayBe core.now state
  finds state rows index = record {
    settings = settings;
    commits = ⊎_elim (λ without. inl (one_rows state core.now.state file rows without).1)
        (λ with_it. inr (one_rows state (with_commits core.now.state core.now.doubt) file rows with_it).1) reads;
    entries = ⊎_elim (λ without. inl (one_index state core.now.state files' settings index without))
        (λ with_it. inr (one_index state (with_entries core.now.state core.now.loose) files' settings index with_it)) reads';
  }
    where
      settings : state.settings ≡ core.now.state.settings
      settings = ⊎_elim (λ without. (one_rows state core.now.state file rows without).0)
          (λ with_it. (one_rows state (with_commits core.now.state core.now.doubt) file rows with_it).0) reads

  -- ---- the opening answers Ok

  module _ (told : IsTrue disk.tells) (told' : IsTrue disk'.tells) (engine : Engine D E disk disk') (limits : Limits) (state : State) (holds : Holds (opened state) engine)
      (limited : engine_limits engine ≡ limits) (looks : Looks disk (rows_at world.place) (rows_device engine))
      (looks' : Looks disk' (index_at world.place) (index_device engine)) where
    rows_read : IsRows state file
    rows_read = subst (λ (files : Files). IsRows state (files 0)) looks.seen ((holds.on_rows told).reads refl)

    index_read : IsIndex state files'
    index_read = subst (IsIndex state) looks'.seen ((holds.on_index told').reads refl)

    pub may_be : MayBe core.now state
    may_be = finds state rows_read index_read

    abbrev pub found_core : Core
    found_core = record { now = opened state; undone = core.now; limits = Some limits; since = moments world }

    pub opens : Opens (moments world) limits core found_core
    opens = record { state = state; finds = may_be; now = refl; undone = refl; limited = refl; since = refl }

    right_found : IsRight state
    right_found = fits.right.found state may_be holds.has.keeps.entries

    pub found_fits : (commits : Vec Commit Global) (doubt : Option Commit) (last : Last) → commits.items ≡ state.commits → option_to_list doubt ≡ []
        → TakesBack last (opened state) core.now → Fits found_core (world_of (Open engine) commits doubt last)
    found_fits commits doubt last same none back = record {
      acknowledged = same;
      doubt = none;
      last = back;
      on_rows = record { now = (holds.on_rows told).crash; undone = λ c left. fits.on_rows.now c (looks.crash.any_moment.each c left) };
      on_index = record { now = (holds.on_index told').crash; undone = λ c left. fits.on_index.now c (looks'.crash.any_moment.each c left) };
      runs = (ap (λ (l : Limits). Some l) (sym limited), holds);
      right = sure_right (opened state) refl refl right_found;
      right_undone = fits.right;
    }

  -- ---- it does not

  module _ (error : OpenError) (free : IsFreeRefusal error) (rows : D) (index : E) (looks : LeavesAsBefore disk (rows_at world.place) rows)
      (looks' : LeavesAsBefore disk' (index_at world.place) index) where
    abbrev pub refused_core : Core
    refused_core = record { now = core.now; undone = core.now; limits = None; since = moments world }

    pub refuses : Refuses (moments world) error core refused_core
    refuses = record { free = free; now = refl; undone = refl; closed = refl; since = refl }

    abbrev pub refused_at : World D E disk disk'
    refused_at = behind (Closed rows index) world.acknowledged world.doubt

    pub refused_fits : Fits refused_core refused_at
    refused_fits = record {
      acknowledged = fits.acknowledged;
      doubt = fits.doubt;
      last = (refl, refl);
      on_rows = record { now = λ c may. fits.on_rows.now c (looks.within c may); undone = λ c left. fits.on_rows.now c (looks.any_moment.each c left) };
      on_index = record { now = λ c may. fits.on_index.now c (looks'.within c may); undone = λ c left. fits.on_index.now c (looks'.any_moment.each c left) };
      runs = refl;
      right = fits.right;
      right_undone = fits.right;
    }

  -- ---- a crash

  module _ (only : (d : D) (c : Files) → disk.left_since d (disk.moment d) c → disk.images d c)
      (only' : (d : E) (c : Files) → disk'.left_since d (disk'.moment d) c → disk'.images d c) (rows : D) (index : E) where
    abbrev pub closed_at : Vec Commit Global → Option Commit → World D E disk disk'
    closed_at commits doubt = behind (Closed rows index) commits doubt

    abbrev pub crashed_core : Running → Core
    crashed_core now = record { now = now; undone = now; limits = None; since = record { rows = disk.moment rows; index = disk'.moment index } }

    crashed_fits : (now : Running) → HasRightIndex now → Only (disk.seen rows) (disk.images rows) → Only (disk'.seen index) (disk'.images index)
        → MayHold now.state now.doubt (disk.seen rows) → MayHoldIndex now.state now.loose (disk'.seen index) → (commits : Vec Commit Global) (doubt : Option Commit)
        → commits.items ≡ now.state.commits → option_to_list doubt ≡ now.doubt → Fits (crashed_core now) (closed_at commits doubt)
    crashed_fits now right alone alone' held held' commits doubt same doubtful = record {
      acknowledged = same;
      doubt = doubtful;
      last = (refl, refl);
      on_rows = record { now = may; undone = since_now disk (MayHold now.state now.doubt) rows rows only refl may };
      on_index = record { now = may'; undone = since_now disk' (MayHoldIndex now.state now.loose) index index only' refl may' };
      runs = refl;
      right = right;
      right_undone = right;
    }
      where
        may : (c : Files) → disk.images rows c → MayHold now.state now.doubt c
        may c here = subst (λ (f : List ℕ). IsRows now.state f ⊎ IsRows (with_commits now.state now.doubt) f) (sym (alone c here 0)) held

        may' : (c : Files) → disk'.images index c → MayHoldIndex now.state now.loose c
        may' c here = ⊎_elim (λ without. inl (index_as now.state (disk'.seen index) c (alone' c here) without))
            (λ with_it. inr (index_as (with_entries now.state now.loose) (disk'.seen index) c (alone' c here) with_it)) held'

    pub crashes : (within : Bool) → Crashes (record { rows = disk.moment rows; index = disk'.moment index }) within core (crashed_core (left_by within core))
    crashes within = record { now = refl; undone = refl; closed = refl; since = refl }

    -- after the last call
    pub crashed_after : IsLeftOn disk false core.since.rows (rows_at world.place) rows → IsLeftOn disk' false core.since.index (index_at world.place) index
        → Fits (crashed_core core.now) (closed_at world.acknowledged world.doubt)
    crashed_after left left' = crashed_fits core.now fits.right left.only left'.only (fits.on_rows.now (disk.seen rows) left.left) (fits.on_index.now (disk'.seen index) left'.left)
        world.acknowledged world.doubt fits.acknowledged fits.doubt

    -- within it
    pub crashed_within : IsLeftOn disk true core.since.rows (rows_at world.place) rows → IsLeftOn disk' true core.since.index (index_at world.place) index
        → (commits : Vec Commit Global) (doubt : Option Commit) → commits.items ≡ core.undone.state.commits → option_to_list doubt ≡ core.undone.doubt
        → Fits (crashed_core core.undone) (closed_at commits doubt)
    crashed_within left left' commits doubt same doubtful =
        crashed_fits core.undone fits.right_undone left.only left'.only (fits.on_rows.undone (disk.seen rows) left.left) (fits.on_index.undone (disk'.seen index) left'.left)
        commits doubt same doubtful
