-- The turns of openings.
use Rattle.std.proofs.Common.{◌≡◌, ℕ, ◌<◌, ◌≤◌, List, [], ◌∷◌, ◌++◌, length, length-append, arith, inl, inr, ap, ap₂, subst, sym, ◌∙◌}
use Rattle.std.specs.Prelude.{Vec, Ok, Err, option_to_list}
use Rattle.std.specs.declared.alloc.Global.{Global}
use Rattle.fts_types.specs.declared.limits.Limits.{Limits}
use Rattle.fts_types.specs.Limits.{standard_limits}
use Rattle.fts_commits.specs.Commit.{Commit}
use Rattle.fts_disk.specs.Moments.{LeavesAsBefore, Looks}
use Rattle.fts_disk.specs.declared.disk.Disk.{Ghosts}
use Rattle.fts_disk.proofs.Runs.{leaves_none}
use Rattle.fts_steps.specs.State.{State, IsCreated, IsRows}
use Rattle.fts_steps.specs.Fault.{IsIndexFaultAt}
use Rattle.fts_steps.specs.Running.{Running, opened}
use Rattle.fts_engine.specs.declared.engine.Engine.{Engine}
use Rattle.fts_engine.specs.declared.error.Device.TheVariants.{Rows, Index}
use Rattle.fts_engine.specs.declared.error.OpenError.{OpenError}
use Rattle.fts_engine.specs.declared.error.OpenError.TheVariants.{NoMemory, NotCreated, Damaged}
use Rattle.fts_engine.specs.Bounds.{AreWithin}
use Rattle.fts_engine.specs.Opening.{IsDamaged, IsIndexDamaged, IsNoRows}
use Rattle.fts_engine.specs.Stands.{Keeps, Holds, engine_limits, rows_device, index_device}
use Rattle.fts_core.specs.declared.event.Event.TheVariants as event
use Rattle.fts_core.specs.declared.event.Outcome.TheVariants as outcome
use Rattle.fts_core.specs.declared.world.Place.{Place}
use Rattle.fts_core.specs.declared.world.Place.TheVariants.{Closed, Open}
use Rattle.fts_core.specs.declared.world.World.{World}
use Rattle.fts_core.specs.World.{rows_at, index_at}
use Rattle.fts_core.specs.Parts.{world_of, behind}
use Rattle.fts_steps.specs.Right.{IsWithOrWithout}
use Rattle.fts_core.specs.Core.{Core, TakesBack, Fits}
use Rattle.fts_core.specs.Turns.{IsFreeRefusal}
use Rattle.fts_core.specs.Lists.{Turned}
use Rattle.fts_core.proofs.Found.{free_refusal, created, some_rows, some_index, may_be, found_core, opens, found_fits, refused_core, refuses, refused_fits}
use Rattle.fts_core.proofs.Turned.{IsHonest}

-- ---- which of both lists was found

pub found_with : {A : Type 0} (all undone doubt found : List A) (x : A) → all ≡ undone → doubt ≡ x ∷ [] → length all < length found → IsWithOrWithout undone doubt found → found ≡ all ++ x ∷ []
found_with all undone doubt found x same one more (inl without) = absurd (omega (arith, more, ap length without, ap length same))
found_with {A} all undone doubt found x same one more (inr with_it) = with_it ∙ ap₂ (λ (front back : List A). front ++ back) (sym same) one

pub found_without : {A : Type 0} (all undone doubt found : List A) (x : A) → all ≡ undone → doubt ≡ x ∷ [] → length found ≤ length all → IsWithOrWithout undone doubt found → found ≡ undone
found_without all undone doubt found x same one no_more (inl without) = without
found_without all undone doubt found x same one no_more (inr with_it) =
    absurd (omega (arith, no_more, ap length with_it, ap length same, ap length one, length-append undone doubt))

module _ {D E : Type 0} {disk : Ghosts D} {disk' : Ghosts E} (h : IsHonest disk) (h' : IsHonest disk') (core : Core) (world : World D E disk disk') (fits : Fits core world)
    (limits : Limits) (rows : D) (index : E) (same : rows ≡ rows_at world.place) (same' : index ≡ index_at world.place)
    (within : AreWithin standard_limits limits) where
  -- no opening finds none, or a damaged one
  pub free : (error : OpenError) → (error ≡ NotCreated → IsCreated (disk.seen rows 0) → ⊥) → ((file at : ℕ) → error ≡ Damaged Rows file at → IsDamaged at (disk.seen rows 0))
      → ((file at : ℕ) → error ≡ Damaged Index file at → IsIndexDamaged at (disk.seen rows 0) (disk'.seen index 0)) → IsFreeRefusal error
  free error none damaged damaged' = free_refusal error
      (λ is. none is (subst (λ (d : D). IsCreated (disk.seen d 0)) (sym same) (created h.stay h'.stay core world fits)))
      (λ file at is. some_rows h.stay h'.stay core world fits (subst (λ (d : D). IsNoRows (disk.seen d 0)) same (damaged file at is).none))
      (λ file at is.
      let fault = damaged' file at is in
      some_index h.stay h'.stay core world fits fault.state at (subst (λ (d : D). IsRows fault.state (disk.seen d 0)) same fault.of_rows)
      (subst (λ (d : E). IsIndexFaultAt fault.state at (disk'.seen d 0)) same' fault.place))

  pub turned_refused : (error : OpenError) → IsFreeRefusal error → (left : D) (left' : E) → LeavesAsBefore disk rows left → LeavesAsBefore disk' index left'
      → (commits : Vec Commit Global) → commits.items ≡ world.acknowledged.items → (new : World D E disk disk') → new ≡ behind (Closed left left') commits world.doubt
      → Turned (event.Opening limits) (outcome.Opened (Err error)) core world new
  turned_refused error is_free left left' leaves leaves' commits listed new is =
      subst (λ (w : World D E disk disk'). Turned (event.Opening limits) (outcome.Opened (Err error)) core world w) (sym is)
      (record {
        next = refused_core h.stay h'.stay core world fits error is_free left left' on_rows on_index;
        turns = (within, refuses h.stay h'.stay core world fits error is_free left left' on_rows on_index);
        fits = record {
          acknowledged = listed ∙ still.acknowledged;
          doubt = still.doubt;
          last = still.last;
          on_rows = still.on_rows;
          on_index = still.on_index;
          runs = still.runs;
          right = still.right;
          right_undone = still.right_undone;
        };
      })
    where
      on_rows : LeavesAsBefore disk (rows_at world.place) left
      on_rows = subst (λ (d : D). LeavesAsBefore disk d left) same leaves

      on_index : LeavesAsBefore disk' (index_at world.place) left'
      on_index = subst (λ (d : E). LeavesAsBefore disk' d left') same' leaves'

      still : Fits {rows = disk} {index = disk'} (refused_core h.stay h'.stay core world fits error is_free left left' on_rows on_index)
          (behind (Closed left left') world.acknowledged world.doubt)
      still = refused_fits h.stay h'.stay core world fits error is_free left left' on_rows on_index

  -- memory ran out before a device was touched
  pub turned_no_room : (commits : Vec Commit Global) → commits.items ≡ world.acknowledged.items → (new : World D E disk disk') → new ≡ behind (Closed rows index) commits world.doubt
      → Turned (event.Opening limits) (outcome.Opened (Err NoMemory)) core world new
  turned_no_room commits listed new is =
      turned_refused NoMemory tt rows index (leaves_none disk rows (h.only rows)) (leaves_none disk' index (h'.only index)) commits listed new is

  pub turned_opened : (engine : Engine D E disk disk') → (state : State) → Holds (opened state) engine → engine_limits engine ≡ limits → Looks disk rows (rows_device engine)
      → Looks disk' index (index_device engine) → (commits : Vec Commit Global) → commits.items ≡ world.acknowledged.items → (new : World D E disk disk') → new.place ≡ Open engine
      → ((state : State) (undone : Running) → Keeps state engine → commits.items ≡ undone.state.commits → option_to_list world.doubt ≡ undone.doubt
      → IsWithOrWithout undone.state.commits undone.doubt state.commits
      → (new.acknowledged.items ≡ state.commits) × (option_to_list new.doubt ≡ []) × TakesBack new.last (opened state) undone)
      → Turned (event.Opening limits) (outcome.Opened (Ok tt)) core world new
  turned_opened engine state holds limited looks looks' commits listed new place lists =
      subst (λ (w : World D E disk disk'). Turned (event.Opening limits) (outcome.Opened (Ok tt)) core world w)
      (sym (ap (λ (p : Place D E disk disk'). world_of p new.acknowledged new.doubt new.last) place))
      (record {
        next = found_core h.stay h'.stay core world fits h.told h'.told engine limits state holds limited on_rows on_index;
        turns = (within, opens h.stay h'.stay core world fits h.told h'.told engine limits state holds limited on_rows on_index);
        fits = found_fits h.stay h'.stay core world fits h.told h'.told engine limits state holds limited on_rows on_index new.acknowledged new.doubt new.last told.0 told.1 told.2;
      })
    where
      on_rows : Looks disk (rows_at world.place) (rows_device engine)
      on_rows = subst (λ (d : D). Looks disk d (rows_device engine)) same looks

      on_index : Looks disk' (index_at world.place) (index_device engine)
      on_index = subst (λ (d : E). Looks disk' d (index_device engine)) same' looks'

      told : (new.acknowledged.items ≡ state.commits) × (option_to_list new.doubt ≡ []) × TakesBack new.last (opened state) core.now
      told = lists state core.now holds.has.keeps (listed ∙ fits.acknowledged) fits.doubt
          (may_be h.stay h'.stay core world fits h.told h'.told engine limits state holds limited on_rows on_index).commits
