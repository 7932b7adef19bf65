use Rattle.std.proofs.Common.{List, ℕ, ◌++◌, ap₂, sym, ◌∙◌}
use Rattle.fts_index.proofs.Gathering.{joined_up}
use Rattle.fts_index.proofs.gather.joined_ids.Goals as goal

pub new-requires-then-stands_before : goal.new-requires-then-stands_before
new-requires-then-stands_before c =
    joined_up c.as_slice.result.now c.as_slice-2.result.now _
    (c.in_ok-extend_from_slice.ensures.items
    ∙ ap₂ (λ (a b : List ℕ). a ++ b) (c.into_vec-ids.ensures.value ∙ sym c.as_slice.ensures.value) (c.as_slice-then-stands_before.ensures.value ∙ sym c.as_slice-2.ensures.value))
    c.as_slice.ensures.ascend c.as_slice-2.ensures.ascend (c.stands_before.ensures c.if-stands_before.true)
