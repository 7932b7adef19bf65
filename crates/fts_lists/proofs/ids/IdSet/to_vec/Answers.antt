use Rattle.std.proofs.Common.{ap, subst, ◌∙◌}
use Rattle.std.specs.List.Sorted.{IsPermutation}
use Rattle.fts_lists.proofs.Ascending.{sorted_ids}
use Rattle.fts_lists.proofs.ids.IdSet.to_vec.Goals as goal

pub returns : goal.returns
returns c =
    let same : IsPermutation c.self.inside.ids.keys c.sort_unstable.new.self.items = subst (λ k. IsPermutation k c.sort_unstable.new.self.items) c.in_ok-ids.ensures.keys c.sort_unstable.ensures.permutation in
    sorted_ids c.self.inside.ids.keys c.sort_unstable.new.self.items c.keys_of.ensures.distinct same c.sort_unstable.ensures.sorted ∙ ap (λ h. h.ids) c.self.view_is
