-- Walks along a list from its front: what is left of it settles the answer.
use Rattle.std.proofs.Common.{◌≡◌, ℕ, suc, ◌+◌, ◌-◌, ◌<◌, Bool, false, List, ◌∷◌, length, get_or, drop, refl, sym, ap, ◌∙◌, arith, add-one, drop-cons}
use Rattle.std.specs.List.{list_any, range_with_len}

-- the first of what is left
pub drop_first : {X : Type 0} (xs : List X) (i : ℕ) (d : X) → i < length xs → drop i xs ≡ get_or xs i d ∷ drop (i + 1) xs
drop_first xs i d within = rw add-one (drop-cons xs i d within)

-- a test of places
module _ (p : ℕ → Bool) (n : ℕ) where
  pub places_on : (i : ℕ) → i < n → p i ≡ false → list_any p (range_with_len i (n - i)) ≡ list_any p (range_with_len 0 n) → list_any p (range_with_len (i + 1) (n - (i + 1))) ≡ list_any p (range_with_len 0 n)
  places_on i within fails same =
      let counted : n - i ≡ suc (n - (i + 1)) = omega arith in
      sym (ap (λ (m : ℕ). list_any p (range_with_len i m)) counted ∙ rw fails refl) ∙ same
