use Rattle.std.proofs.Common.{◌<◌, length, not, sym, ap, subst, ◌∙◌, arith}
use Rattle.fts_ids.specs.Ids.{has}
use Rattle.fts_ids.specs.Marks.{is_marked}
use Rattle.fts_ids.proofs.Passing.{tells_here, tells_on}
use Rattle.fts_lists.proofs.Passing.{same_at, written}
use Rattle.fts_lists.proofs.marked.MarkedIds.take_from.Goals as goal

pub is_among-requires : goal.is_among-requires
is_among-requires c = λ lt.
    let taken = c.args.self.now.ids in
    let xs = c.args.ids.now.items in
    let x = c.index-id.result.now in
    let i = c.loop-at.invariant in
    let e = same_at (λ id. not (has taken id)) xs c.loop-at.ids.items c.loop-at.kept c.loop-at.at x i.filters (omega arith) c.index-id.ensures in
    ap (λ ms. is_marked ms x) c.deref.ensures.value
    ∙ c.self.invariant x (subst (λ ms. x < length ms) c.deref.ensures.value lt)
    ∙ ap (λ h. has h.ids x) c.self.view_is
    ∙ sym (tells_here c.loop-at.walk taken xs c.loop-at.at x i.walks (omega arith) e)

pub loop-at-preserved : goal.loop-at-preserved
loop-at-preserved c =
    let taken = c.args.self.now.ids in
    let xs = c.args.ids.now.items in
    let x = c.index-id.result.now in
    let i = c.loop-at.invariant in
    let e = same_at (λ id. not (has taken id)) xs c.loop-at.ids.items c.loop-at.kept c.loop-at.at x i.filters (omega arith) c.index-id.ensures in
    let is = c.is_among.ensures.found ∙ tells_here c.loop-at.walk taken xs c.loop-at.at x i.walks (omega arith) e in
    record {
      filters = written (λ id. not (has taken id)) xs c.loop-at.ids.items c.loop-at.kept c.loop-at.at x (not c.is_among.result) i.filters (omega (arith, i.filters.long)) (ap not (sym is)) c.index-id.ensures;
      walks = tells_on c.loop-at.walk c.is_among.new.walk taken xs c.loop-at.at x c.requires i.walks e c.is_among.ensures.later;
    }
