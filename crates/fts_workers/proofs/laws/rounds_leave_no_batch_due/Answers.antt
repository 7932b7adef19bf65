use Rattle.std.proofs.Common.{◌≤◌, ◌<◌, ℕ, ◌+◌, ◌-◌, ◌^◌, refl, arith}
use Rattle.fts_workers.proofs.Settling.{settles}
use Rattle.fts_workers.proofs.laws.rounds_leave_no_batch_due.Goals as goal

enough : (commits flushed : ℕ) → commits < 2 ^ 62 → commits ≤ flushed + (2 ^ 64 - 1)
enough commits flushed few = omega (arith, few)

pub returns : goal.returns
returns c limits running calls are follows alone calm few =
    settles limits running.state.settings.cache_bytes (2 ^ 64 - 1) running calls refl (enough _ running.index.flushed few) are follows alone calm
