-- Words of a batch that ascend, by its first word and the rest.
use Rattle.std.proofs.Common.{◌≡◌, ℕ, ◌<◌, ◌≤◌, List, [], ◌∷◌, length, drop, get_or, subst, arith}
use Rattle.std.specs.List.{AllByRecursion}
use Rattle.std.specs.List.Sorted.{IsStrictlySortedBy}
use Rattle.std.specs.Map.{keys_of}
use Rattle.std.specs.declared.cmp.Ordering.TheVariants.{Less}
use Rattle.fts_words.specs.Order.{byte_order}
use Rattle.fts_ilist.specs.Node.{Docs}

-- a word stands before all of these
abbrev pub StandsBefore : List ℕ → List (List ℕ × List Docs) → Type 0
StandsBefore word batch = AllByRecursion (λ other. byte_order word other ≡ Less) (keys_of batch)

pub ascend_none : (batch : List (List ℕ × List Docs)) → length batch < 1 → IsStrictlySortedBy byte_order (keys_of batch)
unfolding IsStrictlySortedBy
ascend_none [] none = tt
ascend_none (g ∷ gs) none = absurd (omega (arith, none))

pub ascend_more : (batch : List (List ℕ × List Docs)) (first : List ℕ × List Docs) → 1 ≤ length batch → first ≡ get_or batch 0 first → StandsBefore first.0 (drop 1 batch)
    → IsStrictlySortedBy byte_order (keys_of (drop 1 batch)) → IsStrictlySortedBy byte_order (keys_of batch)
unfolding IsStrictlySortedBy
ascend_more [] first some is before ascend = absurd (omega (arith, some))
ascend_more (g ∷ gs) first some is before ascend = (subst (λ (g : List ℕ × List Docs). StandsBefore g.0 gs) is before, ascend)
