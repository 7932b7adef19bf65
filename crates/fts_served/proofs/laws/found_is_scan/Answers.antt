use Rattle.fts_served.proofs.Sharing.{are_scans}
use Rattle.fts_served.proofs.laws.found_is_scan.Goals as goal

pub returns : goal.returns
returns g c lines first works served are start holds right =
    are_scans (λ commits. record { ascend = c.are_turns.ensures.ascend commits; lead = c.are_turns.ensures.rows commits }) lines first works served are start holds right
