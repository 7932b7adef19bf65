use Rattle.std.proofs.Common.{◌≡◌, ◌+◌, ◌-◌, ◌^◌, ◌<◌, ◌≤◌, length, drop}
use Rattle.fts_ilist.specs.Reading.{postings_in}
use Rattle.fts_ilist.specs.Reading.State.{between}
use Rattle.fts_ilist.specs.Progress.{ReadsItems}
use Rattle.fts_ilist.proofs.reading.last_of.Given as goal

abbrev pub invariant-loop-at : goal.invariant-loop-at
invariant-loop-at l = record {
  reads : ReadsItems l.bytes 0 (between 0) l.at (between l.last);
  limit : l.last < 2 ^ 63;
  counted : l.count + length (postings_in l.last (drop l.at l.bytes)) ≡ length (postings_in 0 l.bytes);
  few : l.count ≤ l.at;
}

abbrev pub decreases-loop-at : goal.decreases-loop-at
decreases-loop-at l = length l.bytes - l.at
