use Rattle.std.proofs.Common.{All, take}
use Rattle.fts_commits.specs.Fits.{FitsColumns, FitsNumbers}
use Rattle.fts_core.proofs.fits.all_fit.Given as goal

abbrev pub invariant-loop-change : goal.invariant-loop-change
invariant-loop-change l = All (FitsColumns l.columns) (take l.change-index l.changes) × All FitsNumbers (take l.change-index l.changes)
