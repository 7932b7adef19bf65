use Rattle.std.proofs.Common.{◌≡◌, ◌++◌, ◌∷◌, [], map, length, ap, sym, ◌∙◌, arith}
use Rattle.fts_script.specs.Group.{share_of}
use Rattle.fts_shared.specs.Work.{work_share}
use Rattle.fts_shared.proofs.Ordering.{put_more, put_all}
use Rattle.fts_shared.proofs.works.works_of.Goals as goal

pub loop-group-preserved : goal.loop-group-preserved
loop-group-preserved c =
    let rest = c.next.new.self.rest.items in
    let works = c.loop-group.works.items in
    record {
      can_next = tt;
      is_finite = tt;
      room = omega (arith, c.loop-group.invariant.room, ap length c.in-Some.ensures.steps.0);
      shares = c.loop-group.invariant.shares ∙ ap (λ groups. map work_share works ++ map share_of groups) c.in-Some.ensures.steps.0
          ∙ put_more share_of work_share works c.in-Ok.work c.in-Some.group rest (ap share_of c.in-Ok.ensures.group)
          ∙ ap (λ all. map work_share all ++ map share_of rest) (sym c.push_reserved.ensures.items);
    }

pub returns : goal.returns
returns c =
    sym (put_all share_of work_share (map share_of c.args.groups.items) c.loop-group.works.items c.loop-group.group-iterator.rest.items c.loop-group.invariant.shares
    (omega (arith, c.in-None.ensures.steps.0, c.loop-group.group-iterator.rest.ok.0)))
