use Rattle.std.proofs.Common.{◌≡◌, ◌⊎◌, ◌≤◌, ◌+◌, ◌++◌, [], IsTrue, length}
use Rattle.std.specs.Prelude.{map}
use Rattle.fts_io.specs.Text.{lines_of, feeds}
use Rattle.fts_io.specs.Reading.{ahead, ended_ahead, given_by, taken_by, work_left}
use Rattle.fts_script.specs.Script.{line_of}
use Rattle.fts_script.proofs.reading.read_script.Given as goal

abbrev pub invariant-lines : goal.invariant-lines
invariant-lines g l = record {
  front : IsTrue g.I.Source.tells → lines_of (g.I.Source.left l.initial.input) ≡ map line_of l.lines.items ++ ahead l.reader (g.I.Source.left l.input);
  given : given_by l.reader ≡ length l.lines.items;
  few : length l.lines.items ≤ 100000;
  counts : IsTrue g.I.Source.tells → taken_by l.reader + length (g.I.Source.left l.input) ≡ length (g.I.Source.left l.initial.input);
  ended : IsTrue g.I.Source.tells → (ahead l.reader (g.I.Source.left l.input) ≡ [])
      ⊎ (feeds (g.I.Source.left l.initial.input) ≡ length l.lines.items + ended_ahead l.reader (g.I.Source.left l.input));
  calm : g.I.Source.faults l.input ≡ g.I.Source.faults l.initial.input;
}

abbrev pub decreases-lines : goal.decreases-lines
decreases-lines g l = work_left l.reader
