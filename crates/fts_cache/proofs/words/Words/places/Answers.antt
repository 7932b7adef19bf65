use Rattle.std.proofs.Common.{ℕ, ◌≡◌, ◌<◌, List, Some, arith, subst}
use Rattle.fts_cache.specs.Words.{number_in}
use Rattle.fts_cache.proofs.Table.{slot_below}
use Rattle.fts_cache.proofs.words.Words.places.Goals as goal

pub returns : goal.returns
returns c =
    let i = c.self.inside in
    subst (λ es. (w : List ℕ) (n : ℕ) → number_in es w ≡ Some n → n < c.capacity.result) c.self.view_is
    (λ w n e. let f = c.self.invariant.table.found w n e in omega (arith, slot_below i.slots.slots n f.0 f.1, c.capacity.ensures.slots))
