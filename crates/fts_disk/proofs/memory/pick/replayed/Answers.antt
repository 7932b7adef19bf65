use Rattle.std.proofs.Common.{◌∙◌, ap, sym, arith}
use Rattle.fts_disk.specs.Contents.{contents}
use Rattle.fts_disk.specs.Replay.{step_seen}
use Rattle.fts_disk.proofs.Picking.{seen_next}
use Rattle.fts_disk.proofs.memory.pick.replayed.Goals as goal

pub loop-k-preserved : goal.loop-k-preserved
loop-k-preserved c =
    let so_far = c.loop-k.invariant in
    let call = c.index-calls-k.result in
    record {
      seen = c.in_ok-redo.ensures.seen ∙ ap (step_seen call) so_far.seen ∙ sym (seen_next c.args.calls.now (contents c.args.first.now) c.loop-k.k call (omega (arith, c.requires.within)) call c.index-calls-k.is);
      sixteen = omega (arith, so_far.sixteen, c.redo.ensures.count);
    }
