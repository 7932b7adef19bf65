use Rattle.std.proofs.Common.{take}
use Rattle.std.specs.Prelude.{◌≢◌, All}
use Rattle.fts_script.specs.Group.{shares_of, numbers_in}
use Rattle.fts_script.proofs.grouping.group_of.Given as goal

-- none so far is of the session
abbrev pub invariant-loop-at : goal.invariant-loop-at
invariant-loop-at l = All (λ other. other ≢ l.number) (numbers_in (shares_of (take l.at l.groups)))
