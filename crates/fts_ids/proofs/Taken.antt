-- Lists of ids that are chosen from others.
use Rattle.std.proofs.Common.{◌≡◌, ℕ, ◌≤◌, Bool, true, false, not, ◌&&◌, List, filter, length, take, refl, sym, ap, subst, ◌∙◌}
use Rattle.std.proofs.lemmas.List.{take_all}
use Rattle.fts_ids.specs.Ids.{has, common, without, AscendFrom}
use Rattle.fts_ids.proofs.Ascending.{AscendFrom-filter, has-filter}

pub and_comm : (a b : Bool) → (a && b) ≡ (b && a)
and_comm true true = refl
and_comm true false = refl
and_comm false true = refl
and_comm false false = refl

module _ (ids others a b : List ℕ) (first : a ≡ ids) (other : b ≡ others) where
  same : (id : ℕ) → (has a id && has b id) ≡ (has ids id && has others id)
  same id = ap (λ (xs : List ℕ). has xs id && has b id) first ∙ ap (λ (xs : List ℕ). has ids id && has xs id) other

  -- what both lists have
  pub both_have : (items list : List ℕ) → items ≡ common a b → list ≡ items → (id : ℕ) → has list id ≡ (has ids id && has others id)
  both_have items list e l id = ap (λ (xs : List ℕ). has xs id) (l ∙ e) ∙ has-filter (has b) a id ∙ and_comm (has b id) (has a id) ∙ same id

  pub both_have_swapped : (items list : List ℕ) → items ≡ common b a → list ≡ items → (id : ℕ) → has list id ≡ (has ids id && has others id)
  both_have_swapped items list e l id = ap (λ (xs : List ℕ). has xs id) (l ∙ e) ∙ has-filter (has a) b id ∙ same id

  -- what the first has alone
  pub first_has_alone : (items list : List ℕ) → items ≡ without a b → list ≡ items → (id : ℕ) → has list id ≡ (has ids id && not (has others id))
  first_has_alone items list e l id =
      ap (λ (xs : List ℕ). has xs id) (l ∙ e) ∙ has-filter (λ (k : ℕ). not (has b k)) a id ∙ and_comm (not (has b id)) (has a id)
      ∙ ap (λ (xs : List ℕ). has xs id && not (has b id)) first ∙ ap (λ (xs : List ℕ). has ids id && not (has xs id)) other

-- what is chosen from ascending ids ascends
pub chosen_ascends : (test : ℕ → Bool) (xs items : List ℕ) → AscendFrom 0 xs → items ≡ filter test xs → AscendFrom 0 items
chosen_ascends test xs items up e = subst (AscendFrom 0) (sym e) (AscendFrom-filter test 0 xs up)

pub chosen_ascends_all : (test : ℕ → Bool) (xs items : List ℕ) (i : ℕ) → AscendFrom 0 xs → length xs ≤ i → items ≡ filter test (take i xs) → AscendFrom 0 items
chosen_ascends_all test xs items i up past e = chosen_ascends test xs items up (e ∙ ap (filter test) (take_all i xs past))
