use Rattle.std.proofs.Common.{◌≡◌, take}
use Rattle.fts_shared.proofs.settings.names_of.Given as goal

abbrev pub invariant-loop-place : goal.invariant-loop-place
invariant-loop-place l = l.copy ≡ take l.place l.names
