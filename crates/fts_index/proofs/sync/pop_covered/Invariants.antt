use Rattle.std.proofs.Common.{◌≡◌, drop}
use Rattle.fts_index.proofs.sync.pop_covered.Given as goal

abbrev pub invariant-loop : goal.invariant-loop
invariant-loop l = l.pending.items ≡ drop l.counter l.fn.pending.items
