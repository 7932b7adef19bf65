-- What the records of a log are, when they were read to its end.
use Rattle.std.proofs.Common.{◌≡◌, ℕ, List, ap, sym, subst, ◌∙◌}
use Rattle.fts_disk.specs.Device.{Files}
use Rattle.fts_disk.specs.declared.disk.Disk.{Ghosts}
use Rattle.fts_log.specs.declared.log.Log.{Log}
use Rattle.fts_log.specs.declared.records.Records.{Records}
use Rattle.fts_log.specs.Log.{StandsFor, device_of, magic_of, limit_of}
use Rattle.fts_log.specs.Record.{IsLog, IsBrokenBehind, log_end}
use Rattle.fts_log.specs.Records.{Hold, AreRead, AreAsMany, records_device, records_magic}
use Rattle.fts_log.specs.Scan.{IsFoundIn}
use Rattle.fts_steps.specs.State.{rows_magic, IsRows}
use Rattle.fts_steps.specs.Fault.{AreOfIndex}
use Rattle.fts_engine.specs.Loading.{AreSound, IsLoaded}
use Rattle.fts_engine.specs.Stands.{KeepsLog}
use Rattle.fts_engine.specs.declared.kept.Kept.{Kept}

-- the log that records are has its own numbers
pub keeps_log : {D : Type 0} {disk : Ghosts D} (magic : List ℕ) (entries : List (List ℕ)) (limit : ℕ) (log : Log D disk) → StandsFor entries log
    → magic_of log ≡ magic → limit_of log ≡ limit → KeepsLog magic entries limit log
keeps_log magic entries limit log stands begins limited = record {
  count = stands.count;
  «end» = stands.«end» ∙ ap (λ (m : List ℕ). log_end m entries) begins;
  begins = begins;
  limited = limited;
}

-- a whole log of payloads of a sound database is its rows log
pub whole_rows : (all : List (List ℕ)) (file : List ℕ) (s : AreSound all) → IsLog rows_magic all file → IsRows s.state file
whole_rows all file s log = record { sound = s.sound; log = subst (λ (entries : List (List ℕ)). IsLog rows_magic entries file) (sym s.same) log }

-- what was read of the index log are entries over the commits
pub of_index : (all : List (List ℕ)) (k : ℕ) (read : List (List ℕ)) (kept : Kept) (l : IsLoaded all k read kept) → AreOfIndex l.of_rows.state read
of_index all k read kept l = record { index = l.of_rows.state.entries; sound = l.entries; same = l.taken }

module _ {D : Type 0} {disk : Ghosts D} (magic : List ℕ) (all : List (List ℕ)) (old new : Records D disk) (begins : records_magic old ≡ magic) where
  abbrev file : List ℕ
  file = disk.seen (records_device old) 0

  -- what was found
  pub found_here : Hold all old → IsFoundIn magic all file old.found
  found_here holds = subst (λ (m : List ℕ). IsFoundIn m all file old.found) begins holds.found

  module _ (read : AreRead old new) where
    same_file : disk.seen (records_device new) 0 ≡ file
    same_file = ap (λ (files : Files). files 0) read.looks.seen

    -- where the file is broken behind reading, it was before
    pub broken_here : (at : ℕ) → IsBrokenBehind magic all at (disk.seen (records_device new) 0) → IsBrokenBehind magic all at file
    broken_here at broken = subst (λ (f : List ℕ). IsBrokenBehind magic all at f) same_file broken

    -- and where it is a log behind reading, it was before
    pub log_here : IsLog magic all (disk.seen (records_device new) 0) → IsLog magic all file
    log_here log = subst (λ (f : List ℕ). IsLog magic all f) same_file log

    module _ (many : AreAsMany old new) where
      pub broken_first : (at : ℕ) → IsBrokenBehind (records_magic new) all at (disk.seen (records_device new) 0) → IsBrokenBehind magic all at file
      broken_first at broken =
          broken_here at (subst (λ (m : List ℕ). IsBrokenBehind m all at (disk.seen (records_device new) 0)) (many.magic ∙ begins) broken)

      pub log_first : (log : Log D disk) → StandsFor all log → magic_of log ≡ records_magic new → device_of log ≡ records_device new → IsLog magic all file
      log_first log stands same device =
          log_here (subst (λ (m : List ℕ). IsLog m all (disk.seen (records_device new) 0)) (same ∙ many.magic ∙ begins)
          (subst (λ (d : D). IsLog (magic_of log) all (disk.seen d 0)) device stands.is_log))
