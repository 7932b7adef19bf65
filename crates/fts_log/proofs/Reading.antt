-- Records that are read one after another.
use Rattle.std.proofs.Common.{◌≡◌, ℕ, List, length, ap, ◌∙◌}
use Rattle.fts_disk.specs.Device.{Files}
use Rattle.fts_disk.specs.declared.disk.Disk.{Ghosts}
use Rattle.fts_disk.proofs.Runs.{looks_none, looks_more}
use Rattle.fts_log.specs.declared.records.Records.{Records}
use Rattle.fts_log.specs.Records.{Hold, AreRead, records_device, records_magic, record_count}
use Rattle.fts_log.proofs.Bytes.{length-ends_from}

module _ {D : Type 0} {disk : Ghosts D} where
  -- no record was read
  pub read_none : (records : Records D disk) → ((c : Files) → disk.left_since (records_device records) (disk.moment (records_device records)) c → disk.images (records_device records) c)
      → AreRead records records
  read_none records here = record { looks = looks_none disk (records_device records) here; stays = λ entries holds. holds }

  -- some were read, and then more
  pub read_more : (old mid new : Records D disk) → AreRead old mid → AreRead mid new → AreRead old new
  read_more old mid new first then_ = record {
    looks = looks_more disk (records_device old) (records_device mid) (records_device new) first.looks then_.looks;
    stays = λ entries holds. then_.stays entries (first.stays entries holds);
  }

  -- there is a record for each entry
  pub as_many : (entries : List (List ℕ)) (records : Records D disk) → Hold entries records → record_count records ≡ length entries
  as_many entries records holds = ap length holds.found.ends ∙ length-ends_from (length (records_magic records)) entries
