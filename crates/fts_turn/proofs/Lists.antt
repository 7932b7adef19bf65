-- Lists of entries and of views, and functions that are changed at one number.
use Rattle.std.proofs.Common.{◌≡◌, ◌≢◌, ◌⊎◌, ℕ, zero, suc, ◌+◌, ◌^◌, ◌%◌, ◌<◌, ◌≤◌, ◌==◌, cond, List, [], ◌∷◌, ◌++◌, length, set, sum_by, refl, sym, ap, ◌∙◌, subst, ⊎_elim, inl, inr, eq-eqb, ne_eqb, append_assoc, arith}
use Rattle.std.proofs.lemmas.List.{append-nil}
use Rattle.std.proofs.lemmas.List.Elements.{filter-append}
use Rattle.std.proofs.lemmas.List.Sums.{sum_by-cons}
use Rattle.std.proofs.Math.Nat.{mod-eq_of_lt}
use mathlib.Core.Option.{some, some-injective, some-ne-none}
use mathlib.Core.Logic.{dite}
use native.Mathlib.Decide.{ℕ_discrete}
use lib.ListN.{get_elem?}
use Rattle.atomic_table.proofs.Lists.{at_set, set_else}
use Rattle.fts_turn.specs.Histories.{Begins, entries_by, AllBy}

-- a word that does not wrap
pub unwrapped : (n : ℕ) → n < 2 ^ 64 → n % 2 ^ 64 ≡ n
unwrapped n small = mod-eq_of_lt small

-- the function f with one value changed
abbrev pub put : (ℕ → ℕ) → ℕ → ℕ → ℕ → ℕ
put f k x n = cond (n == k) x (f n)

pub put_here : (f : ℕ → ℕ) (k x : ℕ) → put f k x k ≡ x
put_here f k x = ap (λ b. cond b x (f k)) (eq-eqb k k refl)

pub put_else : (f : ℕ → ℕ) (k x n : ℕ) → n ≢ k → put f k x n ≡ f n
put_else f k x n apart = ap (λ b. cond b x (f n)) (ne_eqb n k apart)

module _ {E : Type 0} where
  pub begins_all : (history : List E) → Begins history history
  begins_all history = ([], sym (append-nil history))

  pub begins_more : (seen history added : List E) → Begins seen history → Begins seen (history ++ added)
  begins_more seen history added b = (b.0 ++ added, ap (λ h. h ++ added) b.1 ∙ append_assoc seen b.0 added)

  pub begins_further : (seen later history : List E) → Begins seen later → Begins later history → Begins seen history
  begins_further seen later history b c = (b.0 ++ c.0, c.1 ∙ ap (λ l. l ++ c.0) b.1 ∙ append_assoc seen b.0 c.0)

  module _ (by : E → ℕ) where
    pub entries_by-append : (k : ℕ) (xs ys : List E) → entries_by by k (xs ++ ys) ≡ entries_by by k xs ++ entries_by by k ys
    entries_by-append k xs ys = filter-append (λ e. by e == k) xs ys

    pub entries_by-all : (k : ℕ) (xs : List E) → AllBy by k xs → entries_by by k xs ≡ xs
    entries_by-all k [] all = refl
    entries_by-all k (x ∷ xs) all =
        ap (λ b. cond b (x ∷ entries_by by k xs) (entries_by by k xs)) (eq-eqb (by x) k all.0)
        ∙ ap (λ l. x ∷ l) (entries_by-all k xs all.1)

    pub entries_by-none : (k n : ℕ) (xs : List E) → AllBy by k xs → n ≢ k → entries_by by n xs ≡ []
    entries_by-none k n [] all apart = refl
    entries_by-none k n (x ∷ xs) all apart =
        ap (λ b. cond b (x ∷ entries_by by n xs) (entries_by by n xs)) (ne_eqb (by x) n (λ e. apart (sym e ∙ all.0)))
        ∙ entries_by-none k n xs all.1 apart

module _ {V : Type 0} where
  pub sum_by-set_at : (f : V → ℕ) (views : List V) (j : ℕ) (v w : V) → get_elem? views j ≡ some v → sum_by f (set views j w) + f v ≡ sum_by f views + f w
  sum_by-set_at f [] j v w at = absurd (some-ne-none v (sym at))
  sum_by-set_at f (x ∷ views) zero v w at = let e = ap f (some-injective x v at) in omega (arith, sum_by-cons f w views, sum_by-cons f x views)
  sum_by-set_at f (x ∷ views) (suc j) v w at = let e = sum_by-set_at f views j v w at in omega (arith, sum_by-cons f x (set views j w), sum_by-cons f x views)

  pub sum_by-le_each : (f g : V → ℕ) (views : List V) → ((j : ℕ) (v : V) → get_elem? views j ≡ some v → f v ≤ g v) → sum_by f views ≤ sum_by g views
  sum_by-le_each f g [] each = omega arith
  sum_by-le_each f g (x ∷ views) each =
      let here = each 0 x refl in
      let rest = sum_by-le_each f g views (λ j v at. each (suc j) v at) in
      omega (arith, sum_by-cons f x views, sum_by-cons g x views)

  -- what is set at a place that there is stands there
  pub set_there : (views : List V) (j : ℕ) (v w : V) → get_elem? views j ≡ some v → get_elem? (set views j w) j ≡ some w
  set_there [] j v w at = absurd (some-ne-none v (sym at))
  set_there (x ∷ views) zero v w at = refl
  set_there (x ∷ views) (suc j) v w at = set_there views j v w at

  pub length-set_at : (views : List V) (j : ℕ) (w : V) → length (set views j w) ≡ length views
  length-set_at [] j w = refl
  length-set_at (x ∷ views) zero w = refl
  length-set_at (x ∷ views) (suc j) w = ap suc (length-set_at views j w)

  -- a place that there is is below the length
  pub place_below : (views : List V) (j : ℕ) (v : V) → get_elem? views j ≡ some v → j < length views
  place_below [] j v at = absurd (some-ne-none v (sym at))
  place_below (x ∷ views) zero v at = omega arith
  place_below (x ∷ views) (suc j) v at = let below = place_below views j v at in omega arith

  -- at a place of a list with one more, what stood there or what was added
  pub at_snoc_end : (views : List V) (w v : V) (j : ℕ) → get_elem? (views ++ w ∷ []) j ≡ some v → ((j ≢ length views) × (get_elem? views j ≡ some v)) ⊎ ((j ≡ length views) × (w ≡ v))
  at_snoc_end [] w v zero at = inr (refl, some-injective w v at)
  at_snoc_end [] w v (suc j) at = absurd (some-ne-none v (sym at))
  at_snoc_end (x ∷ views) w v zero at = inl ((λ e. omega arith), at)
  at_snoc_end (x ∷ views) w v (suc j) at =
      ⊎_elim
      (λ (t : (j ≢ length views) × (get_elem? views j ≡ some v)). let apart = t.0 in inl ((λ e. apart (omega arith)), t.1))
      (λ (t : (j ≡ length views) × (w ≡ v)). inr (ap suc t.0, t.1))
      (at_snoc_end views w v j at)

  -- a fact of each place, after a change of one
  pub each_set : (P : ℕ → V → Type 0) (views : List V) (id : ℕ) (w : V) → P id w → ((j : ℕ) (v : V) → j ≢ id → get_elem? views j ≡ some v → P j v) → (j : ℕ) (v : V) → get_elem? (set views id w) j ≡ some v → P j v
  each_set P views id w here others j v at =
      ⊎_elim
      (λ (t : (j ≡ id) × (w ≡ v)). subst (λ (y : ℕ × V). P y.0 y.1) (λ i. (sym t.0 i, t.1 i)) here)
      (λ (t : (j ≢ id) × (get_elem? views j ≡ some v)). others j v t.0 t.1)
      (at_set views id j w v at)

  -- what no place has after a change, and the place that changed did not have before, no place had before
  pub none_before : (P : V → Type 0) (views : List V) (id : ℕ) (v w : V) → get_elem? views id ≡ some v → ¬ (P v) → ((j : ℕ) (u : V) → get_elem? (set views id w) j ≡ some u → ¬ (P u)) → (j : ℕ) (u : V) → get_elem? views j ≡ some u → ¬ (P u)
  none_before P views id v w at not none j u there =
      dite (ℕ_discrete j id)
      (λ (e : j ≡ id). λ p. not (subst P (some-injective u v (sym there ∙ ap (λ i. get_elem? views i) e ∙ at)) p))
      (λ (n : j ≢ id). none j u (set_else views id j w n ∙ there))
