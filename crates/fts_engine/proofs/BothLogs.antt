-- Reading the records of both logs, one call after another.
use Rattle.std.proofs.Common.{IsTrue, refl}
use Rattle.fts_disk.specs.declared.disk.Disk.{Ghosts}
use Rattle.fts_log.specs.Records.{AreRead, records_device}
use Rattle.fts_log.specs.declared.records.Records.{Records}
use Rattle.fts_log.proofs.Reading.{read_more}
use Rattle.fts_steps.proofs.FaultCounts.{counts_calm, counts_behind, counts_told, counts_rows}
use Rattle.fts_engine.specs.Reading.{ReadsOne, ReadsBoth}
use Rattle.fts_engine.proofs.OneLog.{many_more}

module _ {D E : Type 0} {disk : Ghosts D} {disk' : Ghosts E} where
  -- nothing was read yet
  pub both_none : (rows : Records D disk) (index : Records E disk') → (IsTrue disk.tells → AreRead rows rows) → (IsTrue disk'.tells → AreRead index index) → ReadsBoth ⊥ rows index rows index
  both_none rows index of_rows of_index = record {
    of_rows = of_rows;
    of_index = of_index;
    many_rows = record { count = refl; magic = refl };
    many_index = record { count = refl; magic = refl };
    faults = counts_calm ⊥ _ _ (λ none. none) refl;
  }

  -- a reading without a fault, and one behind it
  pub both_more : (fault : Type 0) (rows rows_mid rows_new : Records D disk) (index index_mid index_new : Records E disk')
      → ReadsBoth ⊥ rows index rows_mid index_mid → ReadsBoth fault rows_mid index_mid rows_new index_new → ReadsBoth fault rows index rows_new index_new
  both_more fault rows rows_mid rows_new index index_mid index_new first then_ = record {
    of_rows = λ told. read_more rows rows_mid rows_new (first.of_rows told) (then_.of_rows told);
    of_index = λ told. read_more index index_mid index_new (first.of_index told) (then_.of_index told);
    many_rows = many_more rows rows_mid rows_new first.many_rows then_.many_rows;
    many_index = many_more index index_mid index_new first.many_index then_.many_index;
    faults = counts_behind ⊥ fault _ _ _ (λ none. none) first.faults then_.faults;
  }

  -- what tells of a fault otherwise
  pub both_told : (fault fault' : Type 0) (rows rows_new : Records D disk) (index index_new : Records E disk') → (fault' → fault) → (fault → fault')
      → ReadsBoth fault rows index rows_new index_new → ReadsBoth fault' rows index rows_new index_new
  both_told fault fault' rows rows_new index index_new down up reads = record {
    of_rows = reads.of_rows;
    of_index = reads.of_index;
    many_rows = reads.many_rows;
    many_index = reads.many_index;
    faults = counts_told fault fault' _ _ down up reads.faults;
  }

  -- a reading of the rows log alone
  pub rows_alone : (fault : Type 0) (rows rows_new : Records D disk) (index : Records E disk') → ReadsOne fault rows rows_new → (IsTrue disk'.tells → AreRead index index)
      → ReadsBoth fault rows index rows_new index
  rows_alone fault rows rows_new index reads of_index = record {
    of_rows = reads.read;
    of_index = of_index;
    many_rows = reads.same;
    many_index = record { count = refl; magic = refl };
    faults = counts_rows fault _ _ (disk'.faults (records_device index)) _ refl reads.faults;
  }
