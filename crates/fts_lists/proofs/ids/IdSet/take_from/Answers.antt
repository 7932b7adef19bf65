use Rattle.std.proofs.Common.{not, sym, ap, arith}
use Rattle.fts_ids.specs.Ids.{has}
use Rattle.fts_lists.proofs.Passing.{written}
use Rattle.fts_lists.proofs.ids.IdSet.take_from.Goals as goal

pub loop-at-preserved : goal.loop-at-preserved
loop-at-preserved c =
    let i = c.loop-at.invariant in
    written (λ id. not (has c.args.self.now.ids id)) c.args.ids.now.items c.loop-at.ids.items c.loop-at.kept c.loop-at.at c.index-id.result.now (not c.contains.result) i (omega (arith, i.long)) (ap not (sym c.contains.ensures)) c.index-id.ensures
