use Rattle.std.proofs.Common.{◌≡◌, ◌++◌, take, IsTrue}
use Rattle.fts_top.specs.Answers.{told}
use Rattle.fts_top.specs.Talk.{texts_of}
use Rattle.fts_top.proofs.answers.send_all.Given as goal

abbrev pub invariant-loop-reply : goal.invariant-loop-reply
invariant-loop-reply g l = record {
  sent : IsTrue g.O.Sink.tells → g.O.Sink.holds l.out ≡ g.O.Sink.holds l.fn.out ++ texts_of (told (take l.reply-index l.replies));
  calm : g.O.Sink.faults l.out ≡ g.O.Sink.faults l.fn.out;
}
