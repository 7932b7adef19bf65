use Rattle.std.proofs.Common.{ℕ, not}
use Rattle.fts_ids.specs.Ids.{has}
use Rattle.fts_ids.proofs.Taken.{first_has_alone, chosen_ascends}
use Rattle.fts_ids.proofs.lists.first_alone.Goals as goal

pub new-requires : goal.new-requires
new-requires c = chosen_ascends (λ (id : ℕ). not (has c.as_slice-2.result.now id)) c.as_slice.result.now _ c.as_slice.ensures.ascend c.in_ok-without.ensures

pub returns : goal.returns
returns c = first_has_alone c.args.ids.now c.args.others.now _ _ c.as_slice.ensures.value c.as_slice-2.ensures.value _ _ c.in_ok-without.ensures c.new.ensures
