use Rattle.std.proofs.Common.{length, arith, ap}
use Rattle.std.proofs.lemmas.List.Folds.{list_any_at}
use Rattle.fts_ids.specs.Ids.{has}
use Rattle.fts_ids.proofs.marks.by_marks.Goals as goal

pub mark-requires : goal.mark-requires
mark-requires c =
    let lists = c.args.lists.now in
    λ id h. let within = c.requires id (list_any_at (λ list. has list.now id) lists c.loop-list.list-index _ c.loop-list-test.true h) in
    omega (arith, within, c.loop-list.invariant.size, ap length c.deref_mut.ensures.value)
