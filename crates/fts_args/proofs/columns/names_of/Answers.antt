use Rattle.std.proofs.Common.{◌∙◌, lit<}
use Rattle.std.proofs.lemmas.Iterator.Consumers.{YieldsList-at, YieldsList-end}
use Rattle.std.proofs.lemmas.Iterator.Splits.{YieldsList-from_str_split}
use Rattle.fts_args.proofs.columns.names_of.Goals as goal

pub returns : goal.returns
returns c =
    let split = c.split-name-items.ensures in
    let cut = YieldsList-at c.into_iter-name-iterator.ensures.into_iter_gives
    (YieldsList-from_str_split {s = c.split-name-items.result} 44 c.args.text.now (lit< tt) split.text split.has_more split.pattern) in
    let all = YieldsList-end cut c.loop-name.yielded _ c.loop-name.yielded_by _ _ c.in-None.is c.next.ensures.steps in
    c.loop-name.invariant ∙ all.0
