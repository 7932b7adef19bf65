use Rattle.std.specs.Prelude.{IfOk}
use Rattle.std.proofs.Common.{◌≡◌, ◌++◌, ◌∷◌, [], List, map, length, ap, sym, subst, ◌∙◌, arith}
use Rattle.fts_schema.specs.declared.reply.Reply.{Reply}
use Rattle.fts_script.specs.Group.{Share, IsGrouping, share_of}
use Rattle.fts_script.specs.Merge.{IsMerged, items_of}
use Rattle.fts_script.specs.Script.{lines_in}
use Rattle.fts_shared.specs.Work.{work_share, work_replies}
use Rattle.fts_shared.proofs.Ordering.{put_more, put_all}
use Rattle.fts_shared.proofs.works.replies_in_order.Goals as goal

pub loop-work-preserved : goal.loop-work-preserved
loop-work-preserved c =
    let rest = c.next.new.self.rest.items in
    let groups = c.loop-work.groups.items in
    let replies = c.loop-work.replies.items in
    let less = ap length c.in-Some.ensures.steps.0 in
    record {
      can_next = tt;
      is_finite = tt;
      room = omega (arith, c.loop-work.invariant.room, less);
      room' = omega (arith, c.loop-work.invariant.room', less);
      shares = c.loop-work.invariant.shares ∙ ap (λ works. map share_of groups ++ map work_share works) c.in-Some.ensures.steps.0
          ∙ put_more work_share share_of groups c.into_parts-group.result.0 c.in-Some.work rest c.into_parts-group.ensures.group
          ∙ ap (λ all. map share_of all ++ map work_share rest) (sym c.push_reserved.ensures.items);
      told = c.loop-work.invariant.told ∙ ap (λ works. map items_of replies ++ map work_replies works) c.in-Some.ensures.steps.0
          ∙ put_more work_replies items_of replies c.into_parts-group.result.1 c.in-Some.work rest c.into_parts-group.ensures.replies
          ∙ ap (λ all. map items_of all ++ map work_replies rest) (sym c.push_reserved-in-loop-work.ensures.items);
    }

pub merge_replies-requires : goal.merge_replies-requires
merge_replies-requires c =
    let none : length c.loop-work.work-iterator.rest.items ≡ 0 = omega (arith, c.in-None.ensures.steps.0, c.loop-work.work-iterator.rest.ok.0) in
    subst (λ (shares : List Share). IsGrouping (lines_in c.args.script.now) shares)
    (put_all work_share share_of (map work_share c.args.works.items) c.loop-work.groups.items c.loop-work.work-iterator.rest.items c.loop-work.invariant.shares none
    ∙ ap (map share_of) (sym c.deref.ensures.value)) c.requires

pub returns : goal.returns
returns c =
    let none : length c.loop-work.work-iterator.rest.items ≡ 0 = omega (arith, c.in-None.ensures.steps.0, c.loop-work.work-iterator.rest.ok.0) in
    let shares =
    ap (map share_of) c.deref.ensures.value
    ∙ sym (put_all work_share share_of (map work_share c.args.works.items) c.loop-work.groups.items c.loop-work.work-iterator.rest.items c.loop-work.invariant.shares none) in
    let told = sym (put_all work_replies items_of (map work_replies c.args.works.items) c.loop-work.replies.items c.loop-work.work-iterator.rest.items c.loop-work.invariant.told none) in
    subst (λ (replies : List (List Reply)). IfOk c.merge_replies.result (λ all. IsMerged (lines_in c.args.script.now) (map work_share c.args.works.items) replies all.items)) told
    (subst (λ (shares : List Share). IfOk c.merge_replies.result (λ all. IsMerged (lines_in c.args.script.now) shares (map items_of c.loop-work.replies.items) all.items)) shares
    c.merge_replies.ensures)
