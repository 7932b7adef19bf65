use Rattle.std.proofs.Common.{arith, ◌≡◌}
use Rattle.fts_ilist.proofs.Reader.{same_increase}
use Rattle.fts_ilist.proofs.reading.increase_at.Goals as goal

pub returns-then-increase-eq0-clause-none : goal.returns-then-increase-eq0-clause-none
returns-then-increase-eq0-clause-none c = λ n rest e positive small.
    let same : c.in_ok-increase.increase ≡ n = same_increase _ n _ rest _ c.in_ok-increase.ensures.found e in
    omega arith

pub returns-then-increase-limit-clause-none : goal.returns-then-increase-limit-clause-none
returns-then-increase-limit-clause-none c = λ n rest e positive small.
    let same : c.in_ok-increase.increase ≡ n = same_increase _ n _ rest _ c.in_ok-increase.ensures.found e in
    omega arith
