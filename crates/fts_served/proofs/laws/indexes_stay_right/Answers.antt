use Rattle.fts_served.proofs.Sharing.{stays_right}
use Rattle.fts_served.proofs.laws.indexes_stay_right.Goals as goal

pub returns : goal.returns
returns g c lines first works served are start holds right =
    stays_right (λ commits. record { ascend = c.are_turns.ensures.ascend commits; lead = c.are_turns.ensures.rows commits }) lines first works served are start holds right
