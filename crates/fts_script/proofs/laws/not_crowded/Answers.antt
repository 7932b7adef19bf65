use Rattle.std.proofs.Common.{arith}
use Rattle.std.proofs.lemmas.List.{length-map}
use Rattle.fts_script.specs.Group.{Share, numbers_in}
use Rattle.fts_script.proofs.Counting.{few_not_crowded}
use Rattle.fts_script.proofs.laws.not_crowded.Goals as goal

pub returns : goal.returns
returns c lines shares number grouped few crowded =
    few_not_crowded lines number crowded (numbers_in shares, grouped.sessions, (let count = length-map shares (λ (one : Share). one.number) in omega (arith, few, count)))
