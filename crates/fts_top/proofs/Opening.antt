-- Why no database was opened, and what is made.
use Rattle.std.proofs.Common.{◌≡◌, ℕ, List, [], IsTrue, refl, inl, inr, subst}
use Rattle.fts_types.specs.declared.settings.Settings.{Settings}
use Rattle.fts_steps.specs.State.{State, IsCreated, IsDatabase, IsRight, IsRows, IsIndex, created_with}
use Rattle.fts_steps.proofs.Growing.{none_right}
use Rattle.fts_steps.proofs.Faults.{is_created, not_at_fault}
use Rattle.fts_engine.specs.declared.error.Device.TheVariants.{Rows, Index}
use Rattle.fts_engine.specs.declared.error.OpenError.{OpenError}
use Rattle.fts_engine.specs.declared.error.OpenError.TheVariants as opening
use Rattle.fts_engine.specs.Opening.{IsDamaged, IsIndexDamaged}
use Rattle.fts_engine.proofs.Single.{one_rows}
use Rattle.fts_top.specs.declared.ends.RunEnd.{RunEnd}
use Rattle.fts_top.specs.declared.ends.RunEnd.TheVariants as end
use Rattle.fts_top.specs.Ends.{status_of_opening, status_of_run}
use Rattle.fts_engine.specs.Devices.{Devices, Disks, DisksTell}
use Rattle.fts_top.specs.Once.{DisksHold, IsWhy, Finishes}

-- why no database was opened, by its cases
module _ {D E : Type 0} (disks : Disks D E) (here : Devices D E) where
  pub is_why : (error : OpenError) → (error ≡ opening.NotCreated → IsTrue disks.rows.tells → IsCreated (disks.rows.seen here.rows 0) → ⊥)
      → ((file at : ℕ) → error ≡ opening.Damaged Rows file at → (file ≡ 0) × (IsTrue disks.rows.tells → IsDamaged at (disks.rows.seen here.rows 0)))
      → ((file at : ℕ) → error ≡ opening.Damaged Index file at
      → (file ≡ 0) × (IsTrue disks.rows.tells → IsTrue disks.index.tells → IsIndexDamaged at (disks.rows.seen here.rows 0) (disks.index.seen here.index 0)))
      → IsWhy disks error here
  is_why opening.NotCreated not_created of_rows of_index = not_created refl
  is_why (opening.Damaged Rows file at) not_created of_rows of_index = of_rows file at refl
  is_why (opening.Damaged Index file at) not_created of_rows of_index =
      let damaged = of_index file at refl in (damaged.0, λ tells. damaged.1 tells.0 tells.1)
  is_why opening.NoMemory not_created of_rows of_index = tt
  is_why opening.DiskFault not_created of_rows of_index = tt

  -- what stands in the way of an opening: a database is opened, unless memory runs out or a device fails
  pub can_open : (error : OpenError) → DisksTell disks → (state : State) → DisksHold disks state here → IsWhy disks error here → (error ≡ opening.DiskFault → ⊥)
      → Finishes (status_of_opening error)
  can_open opening.NotCreated tells state database why calm = absurd (why tells.0 (is_created state (disks.rows.seen here.rows 0) database.of_rows))
  can_open (opening.Damaged Rows file place) tells state database why calm = absurd ((why.1 tells.0).none state database.of_rows)
  can_open (opening.Damaged Index file place) tells state database why calm =
      let damaged = why.1 tells in
      let same = one_rows state damaged.state (disks.rows.seen here.rows 0) database.of_rows damaged.of_rows in
      absurd (not_at_fault damaged.state state place (disks.index.seen here.index) same.0 same.1 database.of_index damaged.place)
  can_open opening.NoMemory tells state database why calm = inr refl
  can_open opening.DiskFault tells state database why calm = absurd (calm refl)

-- a script is executed to its end, unless a fault, its length or its sessions end it
pub run_finishes : (ended : RunEnd) → (ended ≡ end.ReadFault → ⊥) → (ended ≡ end.WriteFault → ⊥) → (ended ≡ end.DiskFault → ⊥)
    → ((lines bytes : ℕ) → ended ≡ end.ScriptTooLong lines bytes → ⊥) → ((number : ℕ) → ended ≡ end.TooManySessions number → ⊥) → Finishes (status_of_run ended)
run_finishes end.Done read write disk long many = inl refl
run_finishes end.ShortOfMemory read write disk long many = inr refl
run_finishes end.NoMemory read write disk long many = inr refl
run_finishes end.DiskFault read write disk long many = absurd (disk refl)
run_finishes end.ReadFault read write disk long many = absurd (read refl)
run_finishes end.WriteFault read write disk long many = absurd (write refl)
run_finishes (end.ScriptTooLong lines bytes) read write disk long many = absurd (long lines bytes refl)
run_finishes (end.TooManySessions number) read write disk long many = absurd (many number refl)

-- ---- what is made

-- the index of a database that was just created is right
pub created_right : (settings : Settings) → IsRight (created_with settings)
created_right settings = none_right settings [] (record { ascend = tt; lead = refl })

-- ---- what was opened

-- the files are the logs of the database, as they are read again
pub database_read : (state : State) {rows rows' index index' : ℕ → List ℕ} → rows' ≡ rows → index' ≡ index → IsRows state (rows' 0) → IsIndex state index'
    → IsDatabase state (rows 0) index
database_read state seen seen' of_rows of_index = record {
  of_rows = subst (λ (f : ℕ → List ℕ). IsRows state (f 0)) seen of_rows;
  of_index = subst (IsIndex state) seen' of_index;
}
