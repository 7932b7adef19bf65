-- What reading the two logs of a database leaves.
use Rattle.std.specs.Prelude.{◌≡◌, ℕ, ◌+◌, List, take, IsTrue}
use Rattle.fts_disk.specs.declared.disk.Disk.{Ghosts}
use Rattle.fts_faults.specs.Count.{CountsFault}
use Rattle.fts_log.specs.Records.{AreRead, AreAsMany, records_device}
use Rattle.fts_log.specs.declared.records.Records.{Records}
use Rattle.fts_steps.specs.FaultCounts.{CountsFaultOf}
use Rattle.fts_steps.specs.State.{State, payloads, IsSound}
use Rattle.fts_steps.specs.Fault.{AreOfIndex}

-- records of a log were read: they are as many, of the same entries, and a count of faults rose where it is told
pub record ReadsOne {D : Type 0} {disk : Ghosts D} (fault : Type 0) (before after : Records D disk) : Type 0 where
  pub read : IsTrue disk.tells → AreRead before after
  pub same : AreAsMany before after
  pub faults : CountsFault fault (disk.faults (records_device before)) (disk.faults (records_device after))

-- records of both logs were read: they are as many, of the same entries, and the count of one device rose where a fault
-- is told
pub record ReadsBoth {D E : Type 0} {disk : Ghosts D} {disk' : Ghosts E} (fault : Type 0) (rows : Records D disk)
    (index : Records E disk') (rows_new : Records D disk) (index_new : Records E disk') : Type 0 where
  pub of_rows : IsTrue disk.tells → AreRead rows rows_new
  pub of_index : IsTrue disk'.tells → AreRead index index_new
  pub many_rows : AreAsMany rows rows_new
  pub many_index : AreAsMany index index_new
  pub faults : CountsFaultOf fault (disk.faults (records_device rows), disk'.faults (records_device index))
      (disk.faults (records_device rows_new), disk'.faults (records_device index_new))

-- over the commits of a database with these payloads in its rows log, payload j of the index log is no entry's, and
-- those before it are entries'
pub record IsWrongPayload (all read : List (List ℕ)) (j : ℕ) : Type 0 where
  pub before : (state : State) → IsSound state → payloads state ≡ all → AreOfIndex state (take j read)
  pub wrong : (state : State) → IsSound state → payloads state ≡ all → AreOfIndex state (take (j + 1) read) → ⊥
