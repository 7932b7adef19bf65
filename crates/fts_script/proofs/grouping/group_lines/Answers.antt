use Rattle.fts_script.specs.Script.{lines_in}
use Rattle.fts_script.specs.Group.{shares_of}
use Rattle.fts_script.proofs.Shares.{grouped_next, crowded_here}
use Rattle.fts_script.proofs.grouping.group_lines.Goals as goal

pub returns-in-Err-clause-crowded : goal.returns-in-Err-clause-crowded
returns-in-Err-clause-crowded c number is =
    crowded_here c.lines-lines.result.now (lines_in c.args.script.now) c.lines-lines.ensures c.loop-place.place c.index-lines-place.result c.loop-place-test.true c.index-lines-place.is
    (shares_of c.loop-place.groups.items) number c.loop-place.invariant.grouped (c.in-Err.ensures.crowded number (let e = is in cc))

pub loop-place-preserved : goal.loop-place-preserved
loop-place-preserved c = record {
  grouped =
      grouped_next c.lines-lines.result.now (lines_in c.args.script.now) c.lines-lines.ensures c.loop-place.place c.index-lines-place.result c.loop-place-test.true c.index-lines-place.is
      (shares_of c.loop-place.groups.items) (shares_of c.put_line.new.groups.items) c.loop-place.invariant.grouped c.in-Ok.ensures.puts;
  few = c.put_line.ensures.few;
}
