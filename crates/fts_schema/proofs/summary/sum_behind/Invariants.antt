use Rattle.std.proofs.Common.{◌≡◌, ◌+◌, ◌^◌, ◌%◌, drop}
use Rattle.std.specs.List.{sum}
use Rattle.fts_schema.proofs.summary.sum_behind.Given as goal

-- the sum so far, and the ids that are left
abbrev pub invariant-loop-id : goal.invariant-loop-id
invariant-loop-id l = (l.sum + sum (drop l.id-index l.ids)) % 2 ^ 32 ≡ (l.fn.total + sum l.fn.ids) % 2 ^ 32
