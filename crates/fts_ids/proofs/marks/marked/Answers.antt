use Rattle.std.proofs.Common.{false}
use Rattle.fts_ids.proofs.Marking.{marked_yes, marked_no, marked_ascends}
use Rattle.fts_ids.proofs.marks.marked.Goals as goal
use Rattle.fts_ids.proofs.marks.marked.Goals.{then-marks-place+in_ok-push, else-marks-place}

pub loop-place-preserved : goal.loop-place-preserved
loop-place-preserved c =
    let marks = c.args.marks.now in
    let n = c.loop-place.place in
    let ids = c.loop-place.ids.items in
    let same = c.loop-place.invariant.each in
    elim c.if-marks-place.branch [
      | then-marks-place+in_ok-push w ↦ record {
        ascend = rw w.ids-is (marked_ascends marks ids _ n c.loop-place.invariant.ascend w.in_ok-push.ensures.items same);
        each = rw w.ids-is (marked_yes marks ids _ n c.loop-place-test.true w.if-marks-place.true w.in_ok-push.ensures.items same);
      }
      | else-marks-place w ↦ record {
        ascend = rw w.ids-is c.loop-place.invariant.ascend;
        each = rw w.ids-is (marked_no marks ids n c.loop-place-test.true w.if-marks-place.false same);
      }
    ]
