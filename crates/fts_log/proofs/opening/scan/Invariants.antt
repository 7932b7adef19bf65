use Rattle.std.proofs.Common.{◌≡◌, ℕ, List, ◌*◌, ◌-◌, ◌≤◌, length, IsTrue}
use Rattle.fts_disk.specs.Moments.{Looks}
use Rattle.fts_log.specs.Place.{start_of, IsSpaced}
use Rattle.fts_log.specs.Scan.{Shows}
use Rattle.fts_log.proofs.Scanning.{IsScanned}
use Rattle.fts_log.proofs.opening.scan.Given as goal

abbrev pub invariant-records : goal.invariant-records
invariant-records g l = record {
  within : l.at ≤ l.file_length;
  spaced : IsSpaced l.ends.items;
  last : l.at ≡ start_of l.ends.items (length l.ends.items);
  few : 5 * length l.ends.items ≤ l.at;
  shown : IsTrue g.D.Disk.tells → Shows l.window (g.D.Disk.seen l.fn.device 0);
  scanned : IsTrue g.D.Disk.tells → (entries : List (List ℕ)) × IsScanned (g.D.Disk.seen l.fn.device 0) l.at l.ends.items entries;
  looks : IsTrue g.D.Disk.tells → Looks g.D.Disk l.fn.device l.device;
  calm : g.D.Disk.faults l.device ≡ g.D.Disk.faults l.fn.device;
}

abbrev pub decreases-records : goal.decreases-records
decreases-records g l = l.file_length - l.at
