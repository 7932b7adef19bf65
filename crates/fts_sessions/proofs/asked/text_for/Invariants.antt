use Rattle.std.proofs.Common.{◌≡◌, drop}
use Rattle.fts_sessions.specs.Table.{text_for}
use Rattle.fts_sessions.proofs.asked.text_for.Given as goal

-- the text is the one that the names and texts from the place on have
abbrev pub invariant-loop-place : goal.invariant-loop-place
invariant-loop-place l = text_for l.column l.names l.texts ≡ text_for l.column (drop l.place l.names) (drop l.place l.texts)
