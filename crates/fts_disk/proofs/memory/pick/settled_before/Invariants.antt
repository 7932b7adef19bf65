use Rattle.std.proofs.Common.{◌≡◌, ◌⊎◌, ℕ, ◌+◌, ◌<◌, ◌≤◌, true, false, slice_index_or}
use Rattle.fts_disk.specs.Replay.{settles}
use Rattle.fts_disk.specs.declared.memory.Call.TheVariants.{Sync}
use Rattle.fts_disk.proofs.memory.pick.settled_before.Given as goal

abbrev pub invariant-loop-k : goal.invariant-loop-k
invariant-loop-k l = record {
  within : l.settled ≤ l.k;
  settled : (l.settled ≡ 0) ⊎ ((k : ℕ) × (l.settled ≡ k + 1) × (settles (slice_index_or l.calls k (Sync false)) ≡ true));
  pending : (k : ℕ) → l.settled ≤ k → k < l.k → settles (slice_index_or l.calls k (Sync false)) ≡ false;
}
