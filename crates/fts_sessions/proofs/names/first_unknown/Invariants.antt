use Rattle.std.proofs.Common.{◌≡◌, drop}
use Rattle.fts_sessions.specs.Table.{first_unknown}
use Rattle.fts_sessions.proofs.names.first_unknown.Given as goal

abbrev pub invariant-loop-place : goal.invariant-loop-place
invariant-loop-place l = first_unknown l.columns l.names ≡ first_unknown l.columns (drop l.place l.names)
