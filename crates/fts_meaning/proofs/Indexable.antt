-- An indexed word can be indexed.
use Rattle.std.proofs.Common.{◌≡◌, ℕ, Bool, true, false, cond, ◌||◌, List, [], ◌∷◌, filter, refl, sym, ap, ◌∙◌}
use Rattle.std.specs.List.{list_any}
use Rattle.std.specs.Str.{bytes_eq}
use Rattle.std.proofs.lemmas.Bool.{false≢true}
use Rattle.std.proofs.lemmas.Slice.Eq.{bytes_eq-Decides}
use Rattle.fts_words.specs.declared.placed.PlacedWord.{PlacedWord}
use Rattle.fts_words.specs.Indexed.{Rules, is_indexable, word_of}

module _ (rules : Rules) (columns : List (List ℕ)) (w : List ℕ) where
  abbrev is_it : PlacedWord → Bool
  is_it found = bytes_eq (word_of columns found) w

  abbrev can : PlacedWord → Bool
  can found = is_indexable rules (word_of columns found)

  -- a word that is found among those that can be indexed can be so itself
  pub indexable : (founds : List PlacedWord) → list_any is_it (filter can founds) ≡ true → is_indexable rules w ≡ true
  indexable [] h = absurd (false≢true h)
  indexable (found ∷ founds) h = by (can found) (is_it found) refl refl (indexable founds) h
    where
      by : (c i : Bool) → can found ≡ c → is_it found ≡ i → (list_any is_it (filter can founds) ≡ true → is_indexable rules w ≡ true)
          → list_any is_it (cond c (found ∷ filter can founds) (filter can founds)) ≡ true → is_indexable rules w ≡ true
      by false i c_is i_is later h = later h
      by true true c_is i_is later h = ap (is_indexable rules) (sym ((bytes_eq-Decides (word_of columns found) w).0 i_is)) ∙ c_is
      by true false c_is i_is later h = later (ap (λ (b : Bool). b || list_any is_it (filter can founds)) (sym i_is) ∙ h)
