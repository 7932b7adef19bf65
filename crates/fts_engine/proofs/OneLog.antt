-- Reading the records of a log, one call after another.
use Rattle.std.proofs.Common.{ℕ, IsTrue, refl, subst, ◌∙◌, arith}
use Rattle.fts_disk.specs.declared.disk.Disk.{Ghosts}
use Rattle.fts_faults.specs.Count.{Rose, CountsFault}
use Rattle.fts_log.specs.Records.{AreRead, AreAsMany}
use Rattle.fts_log.specs.declared.records.Records.{Records}
use Rattle.fts_log.proofs.Reading.{read_more}
use Rattle.fts_engine.specs.Reading.{ReadsOne}
use Rattle.fts_engine.proofs.Causes.{counts_as}

-- a count that a fault raised, or that stands
pub counts_more : (fault : Type 0) (old mid new : ℕ) → CountsFault ⊥ old mid → CountsFault fault mid new → CountsFault fault old new
counts_more fault old mid new first then_ =
    let calm = first.calm (λ none. none) in record {
      rose = λ told. subst (λ (n : ℕ). Rose n new) calm (then_.rose told);
      calm = λ none. then_.calm none ∙ calm;
      never_falls = omega (arith, first.never_falls, then_.never_falls);
    }

pub many_more : {D : Type 0} {disk : Ghosts D} (old mid new : Records D disk) → AreAsMany old mid → AreAsMany mid new → AreAsMany old new
many_more old mid new first then_ = record { count = then_.count ∙ first.count; magic = then_.magic ∙ first.magic }

module _ {D : Type 0} {disk : Ghosts D} where
  -- nothing was read yet
  pub reads_none : (records : Records D disk) → (IsTrue disk.tells → AreRead records records) → ReadsOne ⊥ records records
  reads_none records here = record {
    read = here;
    same = record { count = refl; magic = refl };
    faults = record { rose = λ none. absurd none; calm = λ none. refl; never_falls = omega arith };
  }

  -- a reading without a fault, and one behind it
  pub reads_more : (fault : Type 0) (old mid new : Records D disk) → ReadsOne ⊥ old mid → ReadsOne fault mid new → ReadsOne fault old new
  reads_more fault old mid new first then_ = record {
    read = λ told. read_more old mid new (first.read told) (then_.read told);
    same = many_more old mid new first.same then_.same;
    faults = counts_more fault _ _ _ first.faults then_.faults;
  }

  -- what tells of a fault otherwise
  pub reads_told : (fault fault' : Type 0) (old new : Records D disk) → (fault' → fault) → (fault → fault') → ReadsOne fault old new → ReadsOne fault' old new
  reads_told fault fault' old new down up reads = record { read = reads.read; same = reads.same; faults = counts_as fault fault' _ _ down up reads.faults }
