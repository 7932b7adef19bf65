use Rattle.std.proofs.Common.{◌≡◌, ◌≤◌, None}
use Rattle.std.specs.Prelude.{replicate, vec_capacity}
use Rattle.fts_script.proofs.merging.unanswered.Given as goal

abbrev pub invariant-loop-line : goal.invariant-loop-line
invariant-loop-line g l = record {
  none : l.all.items ≡ replicate l._line None;
  room : l.count ≤ vec_capacity l.all;
}
