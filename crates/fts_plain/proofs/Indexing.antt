-- A search among the indexed words of a row.
use Rattle.std.proofs.Common.{◌≡◌, ℕ, ◌≤◌, Bool, true, false, List, [], ◌∷◌, length, refl, sym, ap, ◌∙◌, subst, arith}
use Rattle.std.specs.Prelude.{All}
use Rattle.std.specs.List.{list_any}
use Rattle.std.proofs.lemmas.List.Elements.{All-head, All-tail}
use Rattle.fts_words.specs.declared.placed.PlacedWord.{PlacedWord}
use Rattle.fts_words.specs.Indexed.{Rules, IsIndexedWord, column_text, indexed_words, word_of}
use Rattle.fts_words.proofs.WordLemmas.{raw_words_within}
use Rattle.fts_words.proofs.PlacedLemmas.{indexed_words_each}
use Rattle.fts_meaning.specs.Holds.{some_indexed}
use Rattle.fts_plain.specs.Words.{fits}

-- the words that are left settle the answer
pub record IsSought (rules : Rules) (columns : List (List ℕ)) (is_prefix : Bool) (w : List ℕ) (left : List PlacedWord) : Type 0 where
  pub same : list_any (λ found. fits is_prefix w (word_of columns found)) left ≡ some_indexed rules columns (fits is_prefix w)
  pub each : All (IsIndexedWord rules columns) left

module _ (rules : Rules) (columns : List (List ℕ)) (is_prefix : Bool) (w : List ℕ) where
  pub sought_first : (left : List PlacedWord) → left ≡ indexed_words rules columns → IsSought rules columns is_prefix w left
  sought_first left is = record {
    same = ap (list_any (λ (found : PlacedWord). fits is_prefix w (word_of columns found))) is;
    each = subst (All (IsIndexedWord rules columns)) (sym is) (indexed_words_each columns rules);
  }

  pub sought_word : (left rest : List PlacedWord) (found : PlacedWord) → left ≡ found ∷ rest → IsSought rules columns is_prefix w left → IsIndexedWord rules columns found
  sought_word left rest found split sought =
      All-head (IsIndexedWord rules columns) found rest (subst (All (IsIndexedWord rules columns)) split sought.each)

  pub sought_more : (left rest : List PlacedWord) (found : PlacedWord) → left ≡ found ∷ rest → fits is_prefix w (word_of columns found) ≡ false → IsSought rules columns is_prefix w left → IsSought rules columns is_prefix w rest
  sought_more left rest found split fails sought =
      let here : IsSought rules columns is_prefix w (found ∷ rest) = subst (IsSought rules columns is_prefix w) split sought in
      record {
        same = sym (rw fails refl) ∙ here.same;
        each = All-tail (IsIndexedWord rules columns) found rest here.each;
      }

  pub sought_found : (left rest : List PlacedWord) (found : PlacedWord) → left ≡ found ∷ rest → fits is_prefix w (word_of columns found) ≡ true → IsSought rules columns is_prefix w left → true ≡ some_indexed rules columns (fits is_prefix w)
  sought_found left rest found split passes sought =
      let here : IsSought rules columns is_prefix w (found ∷ rest) = subst (IsSought rules columns is_prefix w) split sought in
      sym (rw passes refl) ∙ here.same

  pub sought_none : (left : List PlacedWord) → left ≡ [] → IsSought rules columns is_prefix w left → false ≡ some_indexed rules columns (fits is_prefix w)
  sought_none left none sought =
      let here : IsSought rules columns is_prefix w [] = subst (IsSought rules columns is_prefix w) none sought in
      here.same

-- where an indexed word stands
pub sought_within : (rules : Rules) (columns : List (List ℕ)) (found : PlacedWord) → IsIndexedWord rules columns found → (found.span.from ≤ found.span.to) × (found.span.to ≤ length (column_text columns found.column))
sought_within rules columns found word =
    let raw = word.placed.raw_word in
    let some = raw.nonempty in
    (omega arith, raw_words_within (column_text columns found.column) found.span.from found.span.to raw)
