use Rattle.std.proofs.Common.{ap, arith, ◌∙◌}
use Rattle.std.proofs.lemmas.List.{take_all}
use Rattle.fts_ids.specs.Marks.{some_has}
use Rattle.fts_ids.proofs.marks.largest.Goals as goal

pub returns : goal.returns
returns c =
    let lists = c.args.lists.now in
    λ id h. c.loop-list.invariant id (ap (λ ls. some_has ls id) (take_all c.loop-list.list-index lists (omega (arith, c.loop-list-test.false))) ∙ h)
