-- Why a database was not opened, by its two logs.
use Rattle.std.proofs.Common.{◌≡◌, ℕ, refl, ap, sym, ◌∙◌}
use Rattle.std.specs.Prelude.{Ok, Err, IsErrOf}
use Rattle.fts_faults.specs.Count.{CountsFault}
use Rattle.fts_steps.specs.FaultCounts.{CountsFaultOf}
use Rattle.fts_steps.proofs.FaultCounts.{both_same, counts_calm}
use Rattle.fts_engine.specs.Opening.{load_error_of, open_error_of, open_error_of_rows}
use Rattle.fts_engine.specs.declared.error.Device.{Device}
use Rattle.fts_engine.specs.declared.error.Device.TheVariants.{Rows}
use Rattle.fts_engine.specs.declared.error.OpenError.TheVariants as opening
use Rattle.fts_engine.specs.declared.error.RowsError.{RowsError}
use Rattle.fts_engine.specs.declared.error.RowsError.TheVariants as rows
use Rattle.fts_engine.specs.declared.error.LoadError.{LoadError}
use Rattle.fts_engine.specs.declared.error.LoadError.TheVariants as load
use Rattle.fts_engine.specs.declared.error.ReadError.{ReadError}
use Rattle.fts_engine.specs.declared.error.ReadError.TheVariants.{NoMemory, Damaged, DiskFault}

-- damage of a device is that of its log
pub of_damage : (device told : Device) (error : ReadError) (at : ℕ) → load_error_of device error ≡ load.Damaged told at → (device ≡ told) × (error ≡ Damaged at)
of_damage device told NoMemory at is = absurd cc
of_damage device told (Damaged place) at is = ((let same = is in cc), (let same = is in cc))
of_damage device told DiskFault at is = absurd cc

-- damage that an opening tells is what was read
pub of_read_damage : (told : Device) (error : LoadError) (file at : ℕ) → open_error_of error ≡ opening.Damaged told file at → (file ≡ 0) × (error ≡ load.Damaged told at)
of_read_damage told load.NoMemory file at is = absurd cc
of_read_damage told (load.Damaged device place) file at is = ((let same = is in cc), (let same = is in cc))
of_read_damage told load.DiskFault file at is = absurd cc

-- damage that an opening tells is that of the rows log
pub of_rows_damage : (told : Device) (error : RowsError) (file at : ℕ) → open_error_of_rows error ≡ opening.Damaged told file at → (told ≡ Rows) × (file ≡ 0) × (error ≡ rows.Damaged at)
of_rows_damage told rows.NoMemory file at is = absurd cc
of_rows_damage told rows.NotCreated file at is = absurd cc
of_rows_damage told (rows.Damaged place) file at is = ((let same = is in cc), (let same = is in cc), (let same = is in cc))
of_rows_damage told rows.DiskFault file at is = absurd cc

pub of_fault : (device : Device) (error : ReadError) → load_error_of device error ≡ load.DiskFault → error ≡ DiskFault
of_fault device NoMemory is = absurd cc
of_fault device (Damaged place) is = absurd cc
of_fault device DiskFault is = refl

pub fault_of : {T : Type 0} (told error : LoadError) (a a' : ℕ) → told ≡ error → CountsFault (error ≡ load.DiskFault) a a' → CountsFault (IsErrOf {T = T} (Err told) load.DiskFault) a a'
fault_of told error a a' same counts = record {
  rose = λ is. counts.rose (sym same ∙ (let e = is in cc));
  calm = λ no. counts.calm (λ is. no (ap Err (same ∙ is)));
  never_falls = counts.never_falls;
}

-- a cause that is told by other words
pub counts_as : (told told' : Type 0) (a a' : ℕ) → (told' → told) → (told → told') → CountsFault told a a' → CountsFault told' a a'
counts_as told told' a a' back forth counts = record {
  rose = λ is. counts.rose (back is);
  calm = λ no. counts.calm (λ is. no (forth is));
  never_falls = counts.never_falls;
}

-- two that are told alike are at the same place
pub same_damage : (device told : Device) (at at' : ℕ) → load.Damaged device at ≡ load.Damaged told at' → (device ≡ told) × (at ≡ at')
same_damage device told at at' is = ((let same = is in cc), (let same = is in cc))

-- damage is no fault of a device
pub damage_no_fault : (device : Device) (at : ℕ) → load.Damaged device at ≡ load.DiskFault → ⊥
damage_no_fault device at is = absurd cc

pub ok_no_err : {T E : Type 0} (value : T) (error : E) → IsErrOf (Ok value) error → ⊥
ok_no_err value error is = absurd (let no = is in cc)

-- no fault was told, and the two devices are the same
pub counts_none : (told told' : Type 0) (a b a' b' c c' : ℕ) → (told → ⊥) → (told' → ⊥) → c ≡ b → c' ≡ b' → CountsFaultOf told (a, a') (b, b')
    → CountsFaultOf told' (a, a') (c, c')
counts_none told told' a b a' b' c c' calm calm' same same' counts =
    counts_calm told' (a, a') (c, c') calm' (both_same b c b' c' same same' ∙ counts.calm calm)
