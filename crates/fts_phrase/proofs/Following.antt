-- A phrase, word by word.
use Rattle.std.proofs.Common.{◌≡◌, ℕ, zero, suc, ◌+◌, ◌<◌, ◌≤◌, Bool, true, false, ◌&&◌, ◌||◌, List, [], ◌∷◌, length, drop, get_or, refl, sym, ap, ◌∙◌, add-one}
use Rattle.std.specs.List.{list_any, range_with_len}
use Rattle.std.specs.Str.{bytes_eq}
use Rattle.std.proofs.lemmas.List.{drop_more, drop_all}
use Rattle.fts_words.specs.declared.span.Span.{Span}
use Rattle.fts_words.specs.Byte.{lowered}
use Rattle.fts_words.specs.RawWords.{bytes_of}
use Rattle.fts_meaning.specs.Holds.{starts_with_words, from_some_place}
use Rattle.fts_phrase.specs.Words.{lowered_words, LieIn}
use Rattle.fts_phrase.proofs.Given.{lie_rest}

-- ---- from some place on

-- some end of the words passes a test
abbrev pub some_end : (List (List ℕ) → Bool) → List (List ℕ) → Bool
some_end test [] = false
some_end test (w ∷ ws) = test (w ∷ ws) || some_end test ws

shift : (p : ℕ → Bool) (a n : ℕ) → list_any p (range_with_len (a + 1) n) ≡ list_any (λ i. p (suc i)) (range_with_len a n)
shift p a zero = refl
shift p a (suc n) =
    ap (λ (z : ℕ). p z || list_any p (range_with_len (a + 1 + 1) n)) (add-one a) ∙ ap (λ (b : Bool). p (suc a) || b) (shift p (a + 1) n)

pub some_end_is : (test : List (List ℕ) → Bool) (ws : List (List ℕ)) → from_some_place ws test ≡ some_end test ws
some_end_is test [] = refl
some_end_is test (w ∷ ws) =
    ap (λ (b : Bool). test (w ∷ ws) || b) (shift (λ (place : ℕ). test (drop place (w ∷ ws))) 0 (length ws) ∙ some_end_is test ws)

-- ---- words that follow

module _ (text : List ℕ) (words : List (List ℕ)) where
  -- the words that are left follow where all do
  pub record IsFollowing (all left : List Span) (from place : ℕ) : Type 0 where
    pub same : starts_with_words (lowered_words text left) (drop place words) ≡ starts_with_words (lowered_words text all) (drop from words)
    pub lie : LieIn text left

  split_word : (place : ℕ) → place < length words → drop place words ≡ get_or words place [] ∷ drop (place + 1) words
  split_word place lt = drop_more words place [] lt

  pub follows_not : (all left : List Span) (from place : ℕ) → place < length words → left ≡ [] → IsFollowing all left from place → false ≡ starts_with_words (lowered_words text all) (drop from words)
  follows_not all left from place lt none f =
      sym (ap (λ (ws : List (List ℕ)). starts_with_words [] ws) (split_word place lt)) ∙ ap (λ (spans : List Span). starts_with_words (lowered_words text spans) (drop place words)) (sym none) ∙ f.same

  step : (left rest : List Span) (span : Span) (place : ℕ) → place < length words → left ≡ span ∷ rest
      → starts_with_words (lowered_words text left) (drop place words) ≡ (bytes_eq (lowered (bytes_of text span)) (get_or words place []) && starts_with_words (lowered_words text rest) (drop (place + 1) words))
  step left rest span place lt split =
      ap (λ (spans : List Span). starts_with_words (lowered_words text spans) (drop place words)) split
      ∙ ap (λ (ws : List (List ℕ)). starts_with_words (lowered_words text (span ∷ rest)) ws) (split_word place lt)

  pub follows_no_more : (all left rest : List Span) (span : Span) (from place : ℕ) → place < length words → left ≡ span ∷ rest → bytes_eq (lowered (bytes_of text span)) (get_or words place []) ≡ false → IsFollowing all left from place → false ≡ starts_with_words (lowered_words text all) (drop from words)
  follows_no_more all left rest span from place lt split differs f =
      sym (step left rest span place lt split ∙ ap (λ (b : Bool). b && starts_with_words (lowered_words text rest) (drop (place + 1) words)) differs) ∙ f.same

  pub follows_more : (all left rest : List Span) (span : Span) (from place : ℕ) → place < length words → left ≡ span ∷ rest → bytes_eq (lowered (bytes_of text span)) (get_or words place []) ≡ true → IsFollowing all left from place → IsFollowing all rest from (place + 1)
  follows_more all left rest span from place lt split same f = record {
    same = sym (step left rest span place lt split ∙ ap (λ (b : Bool). b && starts_with_words (lowered_words text rest) (drop (place + 1) words)) same) ∙ f.same;
    lie = lie_rest text left rest span split f.lie;
  }

  starts_none : (ws : List (List ℕ)) → starts_with_words ws [] ≡ true
  starts_none [] = refl
  starts_none (w ∷ ws) = refl

  pub follows_all : (all left : List Span) (from place : ℕ) → length words ≤ place → IsFollowing all left from place → true ≡ starts_with_words (lowered_words text all) (drop from words)
  follows_all all left from place past f =
      sym (ap (λ (ws : List (List ℕ)). starts_with_words (lowered_words text left) ws) (drop_all place words past) ∙ starts_none (lowered_words text left)) ∙ f.same

  -- a loop that does not begin
  pub follows_none : (all : List Span) (from : ℕ) → length words ≤ from → true ≡ starts_with_words (lowered_words text all) (drop from words)
  follows_none all from past =
      sym (ap (λ (ws : List (List ℕ)). starts_with_words (lowered_words text all) ws) (drop_all from words past) ∙ starts_none (lowered_words text all))

-- ---- a phrase, from each word on

abbrev pub begins_phrase : List (List ℕ) → List (List ℕ) → Bool
begins_phrase words rest = starts_with_words rest words
