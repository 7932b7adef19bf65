use Rattle.std.proofs.Common.{sym, ◌∙◌, ◌≡◌, ◌<◌, length, get_or, refl}
use Rattle.fts_ids.specs.Ids.{has}
use Rattle.fts_ids.proofs.Passing.{tells_here, tells_on, chosen_yes, chosen_no}
use Rattle.fts_ids.proofs.pairs.common_by_walk.Goals as goal
use Rattle.fts_ids.proofs.pairs.common_by_walk.Goals.{then-has+in_ok-push, else-has}

pub loop-id-preserved : goal.loop-id-preserved
loop-id-preserved c =
    let ids = c.args.ids.now in
    let others = c.args.others.now in
    let i = c.loop-id.id-index in
    let within : i < length ids = c.loop-id-test.true in
    let is : c.has.result ≡ has others (get_or ids i 0) = c.has.ensures.found ∙ tells_here c.loop-id.walk others ids i (get_or ids i 0) c.loop-id.invariant.walks within refl in
    let on = tells_on c.loop-id.walk c.has.new.self others ids i (get_or ids i 0) c.requires.ids c.loop-id.invariant.walks refl c.has.ensures.later in
    elim c.if-has.branch [
      | then-has+in_ok-push w ↦ record {
        chosen = rw w.found-is (chosen_yes (has others) ids c.loop-id.found.items _ i within ((sym is ∙ w.if-has.true)) c.loop-id.invariant.chosen w.in_ok-push.ensures.items);
        walks = on;
      }
      | else-has w ↦ record {
        chosen = rw w.found-is (chosen_no (has others) ids c.loop-id.found.items i within ((sym is ∙ w.if-has.false)) c.loop-id.invariant.chosen);
        walks = on;
      }
    ]
