-- What a line tells of the counts of faults.
use Rattle.std.proofs.Common.{◌≡◌, ap}
use Rattle.std.specs.Prelude.{Result, Ok}
use Rattle.fts_steps.specs.FaultCounts.{FaultCounts, CountsFaultOf}
use Rattle.fts_steps.proofs.FaultCounts.{counts_told}
use Rattle.fts_workers.specs.declared.health.Health.{Health}
use Rattle.fts_workers.specs.declared.health.Health.TheVariants.{Failed}
use Rattle.fts_top.specs.declared.ends.Halt.{Halt}

-- those of a line that went on
pub counted_line : (now : Health) (old new : FaultCounts) → CountsFaultOf (◌≡◌ {A = Result Health Halt} (Ok now) (Ok Failed)) old new
    → CountsFaultOf (now ≡ Failed) old new
counted_line now old new = counts_told _ _ old new (ap Ok) (λ is. let same = is in cc)
