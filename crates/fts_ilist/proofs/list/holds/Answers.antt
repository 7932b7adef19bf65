use Rattle.std.proofs.Common.{◌∙◌}
use Rattle.std.proofs.lemmas.List.Sorted.{searched}
use Rattle.fts_ilist.proofs.Lists.{found_is_among}
use Rattle.fts_ilist.proofs.list.holds.Goals as goal

pub returns : goal.returns
returns c =
    c.is_ok.ensures.value
    ∙ found_is_among c.args.ids.now c.args.id c.binary_search.result
    (searched c.args.ids.now c.args.id c.binary_search.result c.binary_search.ensures.position (λ i j le lt. c.requires i j 0 le lt))
