use Rattle.fts_core.proofs.Killing.{run_opens}
use Rattle.fts_core.proofs.killed.killed_runs_open.Goals as goal

pub returns : goal.returns
returns g c told told' settings limits start calls before now right run =
    run_opens g.D.Disk g.E.Disk (λ d files. g.met.D.Disk.only_now d files told) (λ d files. g.met.E.Disk.only_now d files told') told told'
    (λ commits. record { ascend = c.are_turns.ensures.ascend commits; lead = c.are_turns.ensures.rows commits }) settings limits start calls before now right run
