use Rattle.std.proofs.Common.{◌∙◌}
use Rattle.fts_ids.specs.Ids.{has}
use Rattle.fts_ids.proofs.Taken.{both_have, both_have_swapped, chosen_ascends}
use Rattle.fts_ids.proofs.lists.both.Goals as goal

pub new-requires : goal.new-requires
new-requires c = chosen_ascends (has c.as_slice-ids.result.now) c.as_slice-others.result.now _ c.as_slice-others.ensures.ascend c.in_ok-common.ensures

pub returns-then-others-ids : goal.returns-then-others-ids
returns-then-others-ids c = record {
  ascend = chosen_ascends (has c.as_slice-ids.result.now) c.as_slice-others.result.now _ c.as_slice-others.ensures.ascend (c.new.ensures ∙ c.in_ok-common.ensures);
  each = both_have_swapped c.args.ids.now c.args.others.now _ _ c.as_slice-ids.ensures.value c.as_slice-others.ensures.value _ _ c.in_ok-common.ensures c.new.ensures;
}

pub new-requires-2 : goal.new-requires-2
new-requires-2 c = chosen_ascends (has c.as_slice-others.result.now) c.as_slice-ids.result.now _ c.as_slice-ids.ensures.ascend c.in_ok-common-2.ensures

pub returns : goal.returns
returns c = record {
  ascend = chosen_ascends (has c.as_slice-others.result.now) c.as_slice-ids.result.now _ c.as_slice-ids.ensures.ascend (c.new-2.ensures ∙ c.in_ok-common-2.ensures);
  each = both_have c.args.ids.now c.args.others.now _ _ c.as_slice-ids.ensures.value c.as_slice-others.ensures.value _ _ c.in_ok-common-2.ensures c.new-2.ensures;
}
