use Rattle.std.proofs.Common.{◌≡◌, ◌≤◌, List, ◌++◌, length, drop, vec_capacity}
use Rattle.fts_script.specs.Script.{lines_in}
use Rattle.fts_schema.specs.declared.reply.Reply.{Reply}
use Rattle.fts_sessions.specs.Transaction.{Transaction, FitsTable}
use Rattle.fts_shared.specs.Talk.{TalksOn}
use Rattle.fts_shared.specs.Work.{lines_at}
use Rattle.fts_shared.proofs.talking.talk.Given as goal

abbrev pub invariant-loop-i : goal.invariant-loop-i
invariant-loop-i g l = record {
  fits : FitsTable (length (g.S.EngineSteps.sight.settings l.steps).columns) l.session.transaction;
  count : length l.replies.items ≡ l.i;
  room : length l.places ≤ vec_capacity l.replies;
  kept : vec_capacity l.initial.replies ≤ vec_capacity l.replies;
  leads : (told : List Reply) (left : Transaction) (new : g.row.S.Denot)
      → TalksOn g.S.EngineSteps.sight l.session.transaction (lines_at (lines_in l.script) (drop l.i l.places)) told left l.steps new
      → TalksOn g.S.EngineSteps.sight l.initial.session.transaction (lines_at (lines_in l.script) l.places) (l.replies.items ++ told) left l.initial.steps new;
}
