use Rattle.std.proofs.Common.{◌≡◌, ◌-◌, length, drop}
use Rattle.fts_ilist.specs.Spelling.{id_at_end}
use Rattle.fts_ilist.specs.Reading.{postings_in}
use Rattle.fts_ilist.specs.Queue.{postings_behind, StandsAt}
use Rattle.fts_ilist.proofs.queue.place_behind.Given as goal

abbrev pub invariant-loop-end : goal.invariant-loop-end
invariant-loop-end l = record {
  stands : StandsAt l.bytes l.at l.last;
  same : postings_behind l.doc (postings_in l.last (drop l.at l.bytes)) ≡ postings_behind l.doc (postings_in l.before (drop l.start l.bytes));
  last : id_at_end l.last (postings_in l.last (drop l.at l.bytes)) ≡ id_at_end l.before (postings_in l.before (drop l.start l.bytes));
}

abbrev pub decreases-loop-end : goal.decreases-loop-end
decreases-loop-end l = length l.bytes - l.at
