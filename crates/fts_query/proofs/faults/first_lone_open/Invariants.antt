use Rattle.std.proofs.Common.{◌+◌, ◌≤◌, length}
use Rattle.fts_query.specs.Found.{IsSeenFrom}
use Rattle.fts_query.proofs.faults.first_lone_open.Given as goal

abbrev pub invariant-loop-place : goal.invariant-loop-place
invariant-loop-place l = record {
  within : l.place ≤ length l.text;
  small : l.seen.pending + l.place ≤ length l.text;
  seen : IsSeenFrom l.text l.place l.seen.pending l.seen.found;
}

abbrev pub decreases-loop-place : goal.decreases-loop-place
decreases-loop-place l = l.place
