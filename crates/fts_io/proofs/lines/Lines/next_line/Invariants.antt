use Rattle.std.proofs.Common.{◌≡◌, ◌+◌, ◌≤◌, length, IsTrue}
use Rattle.fts_io.specs.Reading.{ahead, ended_ahead, given_by, taken_by, work_left}
use Rattle.fts_io.proofs.lines.Lines.next_line.Given as goal

abbrev pub invariant-loop-self : goal.invariant-loop-self
invariant-loop-self g l = record {
  lines : IsTrue g.S.Source.tells → ahead l.initial.self (g.S.Source.left l.initial.source) ≡ ahead l.self (g.S.Source.left l.source);
  ended : IsTrue g.S.Source.tells → ended_ahead l.initial.self (g.S.Source.left l.initial.source) ≡ ended_ahead l.self (g.S.Source.left l.source);
  given : given_by l.self ≡ given_by l.initial.self;
  counts : IsTrue g.S.Source.tells → taken_by l.self + length (g.S.Source.left l.source) ≡ taken_by l.initial.self + length (g.S.Source.left l.initial.source);
  work : work_left l.self ≤ work_left l.initial.self;
  calm : g.S.Source.faults l.source ≡ g.S.Source.faults l.initial.source;
}

abbrev pub decreases-loop-self : goal.decreases-loop-self
decreases-loop-self g l = work_left l.self
