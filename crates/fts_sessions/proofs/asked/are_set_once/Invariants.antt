use Rattle.std.proofs.Common.{◌≡◌, drop}
use Rattle.fts_sessions.specs.Table.{are_set_once}
use Rattle.fts_sessions.proofs.asked.are_set_once.Given as goal

abbrev pub invariant-loop-place : goal.invariant-loop-place
invariant-loop-place l = are_set_once l.columns l.names ≡ are_set_once l.columns (drop l.place l.names)
