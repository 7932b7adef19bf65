-- A filter of the words that are left, word by word.
use Rattle.std.proofs.Common.{◌≡◌, ℕ, ◌+◌, ◌<◌, Bool, true, false, List, [], ◌∷◌, ◌++◌, length, take, set, refl, sym, ap, ◌∙◌, append_assoc, ⊎_elim, arith}
use Rattle.std.proofs.lemmas.Bool.{cases_Bool}
use mir.Val.{bool_byte}
use Rattle.std.proofs.lemmas.List.{take-set, take_more_set}
use Rattle.std.specs.Prelude.{filter}

module _ {R X : Type 0} (p : R → X → Bool) (old new : R) (xs ys : List X) (x : X) (split : xs ≡ x ∷ ys) (same : new ≡ old) where
  -- the first word passes
  pub filter_first : p new x ≡ true → filter (p old) xs ≡ x ∷ filter (p new) ys
  filter_first pass =
      ap (filter (p old)) split ∙ ap (λ (r : R). filter (p r) (x ∷ ys)) (sym same) ∙ rw pass refl

  -- the first word doesn't
  pub filter_other : p new x ≡ false → filter (p old) xs ≡ filter (p new) ys
  filter_other fail =
      ap (filter (p old)) split ∙ ap (λ (r : R). filter (p r) (x ∷ ys)) (sym same) ∙ rw fail refl

  -- a buffer gets the first word, and the place behind it moves on just if the word passes
  pub filter_counted : (found : List X) (count more : ℕ) (pass : Bool) → count < length found → pass ≡ p new x → more ≡ bool_byte pass
      → take (count + more) (set found count x) ++ filter (p new) ys ≡ take count found ++ filter (p old) xs
  filter_counted found count more pass room is one =
      ⊎_elim
      (λ (yes : pass ≡ true).
      let next : more ≡ 1 = one ∙ ap bool_byte yes in
      ap (λ n. take (count + n) (set found count x) ++ filter (p new) ys) next ∙ ap (λ t. t ++ filter (p new) ys) (take_more_set found count x room)
      ∙ append_assoc (take count found) (x ∷ []) (filter (p new) ys) ∙ ap (λ t. take count found ++ t) (sym (filter_first (sym is ∙ yes))))
      (λ (no : pass ≡ false).
      let next : more ≡ 0 = one ∙ ap bool_byte no in
      let same : count + more ≡ count = omega arith in
      ap (λ n. take n (set found count x) ++ filter (p new) ys) same ∙ ap (λ t. t ++ filter (p new) ys) (take-set found count x)
      ∙ ap (λ t. take count found ++ t) (sym (filter_other (sym is ∙ no))))
      (cases_Bool pass)
