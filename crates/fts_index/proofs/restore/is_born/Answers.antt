use Rattle.std.proofs.Common.{◌≡◌, ◌-◌, length, get_or, arith, ◌∙◌}
use Rattle.fts_lists.proofs.Passing.{found_is_has}
use Rattle.fts_index.proofs.Gapless.{without_gap}
use Rattle.fts_index.proofs.restore.is_born.Goals as goal

pub returns : goal.returns
returns c = c.is_ok.ensures.value ∙ found_is_has c.args.births.now c.args.id c.binary_search.result c.requires c.binary_search.ensures.position

pub returns-then-saturating_sub-births : goal.returns-then-saturating_sub-births
returns-then-saturating_sub-births c =
    let births = c.args.births.now in
    let few : get_or births (length births - 1) 0 - get_or births 0 0 ≡ length births - 1 = omega arith in
    c.is_between.ensures ∙ without_gap births c.args.id c.requires c.if-is_empty.ensures few
