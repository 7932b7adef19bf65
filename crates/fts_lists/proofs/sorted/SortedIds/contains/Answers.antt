use Rattle.std.proofs.Common.{ap, sym, subst, ◌∙◌}
use Rattle.fts_ids.specs.Ids.{has, AscendFrom}
use Rattle.fts_lists.proofs.Passing.{found_is_has}
use Rattle.fts_lists.proofs.sorted.SortedIds.contains.Goals as goal

pub returns : goal.returns
returns c =
    c.is_ok.ensures.value
    ∙ found_is_has c.deref.result.now c.args.id c.binary_search.result
    (subst (λ xs. AscendFrom 0 xs) (sym c.deref.ensures.value) c.self.invariant.0) c.binary_search.ensures.position
    ∙ ap (λ xs. has xs c.args.id) c.deref.ensures.value
    ∙ ap (λ h. has h.ids c.args.id) c.self.view_is
