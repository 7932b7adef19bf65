-- The words of phrases and distances against those of a text.
use Rattle.std.proofs.Common.{◌≡◌, ℕ, ◌+◌, ◌<◌, ◌≤◌, Bool, true, false, List, [], length, get_or, take, drop, refl, sym, ap, ap₂, ◌∙◌, ⊎_elim, arith, length-take, length-drop}
use Rattle.std.specs.Prelude.{filter, Result, Ok, Err, IfOk}
use Rattle.std.specs.List.{list_any}
use Rattle.std.specs.Str.{bytes_eq}
use Rattle.std.proofs.lemmas.Bool.{cases_Bool}
use Rattle.std.proofs.lemmas.List.{get_or-take, get_or-drop}
use Rattle.std.proofs.lemmas.List.Folds.{list_any_at}
use Rattle.std.proofs.lemmas.Slice.Eq.{bytes_eq-Decides}
use Rattle.std.proofs.Math.ListN.{drop_of_length-le}
use Rattle.fts_words.specs.Order.{is_among}
use Rattle.fts_meaning.specs.Holds.{starts_with_words, lie_near, distance_holds}
use Rattle.fts_words.specs.Indexed.{Rules, is_indexable}
use Rattle.fts_plain.proofs.Walking.{drop_first}

-- one word of a phrase after another
module _ (all words : List (List ℕ)) (place : ℕ) where
  pub stands_past : (i : ℕ) → i < length words → length all ≤ place + i → starts_with_words (drop (place + i) all) (drop i words) ≡ starts_with_words (drop place all) words → false ≡ starts_with_words (drop place all) words
  stands_past i within past same =
      let split = ap₂ starts_with_words (drop_of_length-le all past) (drop_first words i [] within) in
      sym split ∙ same

-- a word that is too short does not begin with the other
pub too_short : (w found : List ℕ) → length found < length w → false ≡ bytes_eq (take (length w) found) w
too_short w found less =
    ⊎_elim
    (λ (yes : bytes_eq (take (length w) found) w ≡ true). absurd (omega (arith, ap length ((bytes_eq-Decides (take (length w) found) w).0 yes), length-take (length w) found)))
    (λ (no : bytes_eq (take (length w) found) w ≡ false). sym no)
    (cases_Bool (bytes_eq (take (length w) found) w))

-- a word of a text among so many from a place on
pub among_at : (all : List (List ℕ)) (from count i : ℕ) (w : List ℕ) → i < count → from + i < length all → bytes_eq (get_or all (from + i) []) w ≡ true → true ≡ is_among (take count (drop from all)) w
among_at all from count i w less room same =
    let xs = take count (drop from all) in
    let long : i < length xs = omega (arith, length-take count (drop from all), length-drop from all) in
    let at : get_or xs i [] ≡ get_or all (from + i) [] = get_or-take count (drop from all) i [] less ∙ get_or-drop from all i [] in
    sym (list_any_at (λ (v : List ℕ). bytes_eq v w) xs i [] long (ap (λ (v : List ℕ). bytes_eq v w) at ∙ same))

-- the indexable words of a distance stand close together in some column
pub distance_found : {E : Type 0} (rules : Rules) (columns words : List (List ℕ)) (n : ℕ) (r : Result Bool E) → true ≡ list_any (is_indexable rules) words → IfOk r (λ f. f ≡ lie_near columns (filter (is_indexable rules) words) n) → IfOk r (λ h. h ≡ distance_holds rules columns words n)
distance_found rules columns words n (Ok v) some h = h ∙ rw (← some) refl
distance_found rules columns words n (Err e) some h = tt
