use Rattle.std.proofs.Common.{◌≡◌, false, take}
use Rattle.fts_top.specs.Sessions.{is_met}
use Rattle.fts_top.specs.Kept.{mets_of}
use Rattle.fts_top.proofs.sessions.place_in.Given as goal

-- none so far has the number
abbrev pub invariant-loop-place : goal.invariant-loop-place
invariant-loop-place l = is_met (mets_of (take l.place l.sessions)) l.number ≡ false
