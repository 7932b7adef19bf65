use Rattle.std.proofs.Common.{◌≡◌, ℕ, ◌<◌, ◌∙◌, ap, subst, false, length, arith}
use Rattle.std.proofs.lemmas.List.{get_or_default}
use Rattle.fts_disk.specs.Contents.{contents}
use Rattle.fts_disk.specs.Replay.{settles, images_at}
use Rattle.fts_disk.specs.declared.memory.Call.TheVariants.{Sync}
use Rattle.fts_disk.proofs.Picking.{image_begins, image_pending, image_stop}
use Rattle.fts_disk.proofs.memory.pick.image_in.Goals as goal

pub loop-k-init : goal.loop-k-init
loop-k-init c = record {
  image = image_begins c.args.calls.now (contents c.args.first.now) c.settled_before-settled.result (Sync false) _ c.settled_before-settled.ensures.settled
      (omega (arith, c.settled_before-settled.ensures.within, c.requires.stop)) c.in_ok-image.ensures.seen;
  sixteen = c.in_ok-image.ensures.sixteen;
}

pub loop-k-preserved : goal.loop-k-preserved
loop-k-preserved c =
    let so_far = c.loop-k.invariant in
    let call = c.index-calls-k.result in
    let calls = c.args.calls.now in
    let within : c.loop-k.k < length calls = omega (arith, c.loop-k-test.true, c.requires.stop) in
    let pending : settles call ≡ false =
    ap settles (c.index-calls-k.is ∙ get_or_default calls c.loop-k.k call (Sync false) within)
    ∙ c.settled_before-settled.ensures.pending c.loop-k.k c.loop-k.auto.k c.loop-k-test.true in
    record {
      image = image_pending calls (contents c.args.first.now) c.loop-k.k call within call c.index-calls-k.is _ _ pending so_far.image c.in_ok-tear.ensures.step;
      sixteen = omega (arith, so_far.sixteen, c.tear.ensures.count);
    }

pub returns : goal.returns
returns c =
    let call = c.index-calls-stop.result in
    let here : c.loop-k.k ≡ c.args.stop = omega (arith, c.loop-k-test.false, c.loop-k.auto.k-end c.settled_before-settled.ensures.within) in
    let at_stop : images_at c.args.stop c.args.calls.now (contents c.args.first.now) (contents c.loop-k.image.items) =
    subst (λ (k : ℕ). images_at k c.args.calls.now (contents c.args.first.now) (contents c.loop-k.image.items)) here c.loop-k.invariant.image in
    record { image = image_stop c.args.calls.now (contents c.args.first.now) c.args.stop call c.requires.stop call c.index-calls-stop.is _ _ at_stop c.in_ok-tear-2.ensures.step }
