-- The words of a text from a place on, as those of what stands from there on.
use Rattle.std.proofs.Common.{◌≡◌, ℕ, zero, suc, ◌+◌, ◌-◌, ◌≤◌, Bool, true, false, not, ◌&&◌, ◌||◌, ◌==◌, ◌⊎◌, List, [], ◌∷◌, length, map, filter, take, drop, slice_range, refl, sym, ap, ap₂, ◌∙◌, ⊎_elim, arith, length-drop}
use Rattle.std.specs.List.{range_with_len}
use Rattle.std.proofs.lemmas.Bool.{cases_Bool}
use Rattle.std.proofs.lemmas.List.{get_or-drop, drop-drop}
use Rattle.fts_words.specs.declared.span.Span.{Span}
use Rattle.fts_words.specs.Byte.{word_at, apostrophe_at, lowered, is_word_byte}
use Rattle.fts_words.specs.Run.{starts, run_end, run_at, runs_from}
use Rattle.fts_words.specs.RawWords.{in_word, raw_words, raw_words_from}
use Rattle.fts_words.proofs.WordLemmas.{no_byte}
use Rattle.fts_token.specs.Bounds.{is_inside}
use Rattle.fts_meaning.specs.Holds.{starts_with_words}
use Rattle.fts_phrase.specs.Words.{lowered_words, begin_with_words}

module _ (text : List ℕ) (p : ℕ) (outside : is_inside text p ≡ false) where
  abbrev rest : List ℕ
  rest = drop p text

  word_here : (k : ℕ) → word_at rest k ≡ word_at text (p + k)
  unfolding word_at
  word_here k = ap is_word_byte (get_or-drop p text k 0)

  mark_here : (k : ℕ) → apostrophe_at rest k ≡ apostrophe_at text (p + k)
  unfolding apostrophe_at
  mark_here k = ap (λ (b : ℕ). b == 39) (get_or-drop p text k 0)

  -- the place before belongs to no word
  before : (q : ℕ) → q + 1 ≡ p → in_word text q ≡ false
  unfolding is_inside
  before q e = by p outside e
    where
      by : (n : ℕ) → is_inside text n ≡ false → q + 1 ≡ n → in_word text q ≡ false
      by zero o e' = absurd (omega (arith, e'))
      by (suc n) o e' = let same : q ≡ n = omega (arith, e') in ap (in_word text) same ∙ o

  -- a place belongs to a word of the rest as it does to one of the text
  same_place : (k : ℕ) → in_word rest k ≡ in_word text (p + k)
  unfolding in_word
  same_place zero = first (cases_Bool (word_at text (p + 0)))
    where
      none_before : (n : ℕ) → n ≡ p → word_at text (p + 0) ≡ false → (apostrophe_at text (p + 0) && (word_at text (p + 0 - 1) && word_at text (p + 0 + 1))) ≡ false
      none_before zero e fail = let back : p + 0 - 1 ≡ p + 0 = omega (arith, e) in rw (ap (word_at text) back ∙ fail) (and_false (apostrophe_at text (p + 0)))
        where
          and_false : (b : Bool) → (b && false) ≡ false
          and_false true = refl
          and_false false = refl
      none_before (suc q) e fail = let back : p + 0 - 1 ≡ q = omega (arith, e) in rw (ap (word_at text) back ∙ no_byte text q (before q (omega (arith, e)))) (and_false (apostrophe_at text (p + 0)))
        where
          and_false : (b : Bool) → (b && false) ≡ false
          and_false true = refl
          and_false false = refl

      first : ((word_at text (p + 0) ≡ true) ⊎ (word_at text (p + 0) ≡ false)) → (word_at rest 0 || (apostrophe_at rest 0 && (word_at rest (0 - 1) && word_at rest (0 + 1)))) ≡ (word_at text (p + 0) || (apostrophe_at text (p + 0) && (word_at text (p + 0 - 1) && word_at text (p + 0 + 1))))
      first = ⊎_elim
          (λ pass. rw (word_here 0, pass) refl)
          (λ fail. rw (word_here 0, fail, none_before p refl fail) (and_false (apostrophe_at rest 0)))
        where
          and_false : (b : Bool) → (b && false) ≡ false
          and_false true = refl
          and_false false = refl
  same_place (suc k) =
      let back : p + suc k - 1 ≡ p + k = omega arith in
      let here : suc k - 1 ≡ k = omega arith in
      let next : p + (suc k + 1) ≡ p + suc k + 1 = omega arith in
      ap₂ (λ (a b : Bool). a || b) (word_here (suc k))
      (ap₂ (λ (a b : Bool). a && b) (mark_here (suc k))
      (ap₂ (λ (a b : Bool). a && b) (ap (word_at rest) here ∙ word_here k ∙ ap (word_at text) (sym back)) (word_here (suc k + 1) ∙ ap (word_at text) next)))

  same_start : (k : ℕ) → starts (in_word rest) k ≡ starts (in_word text) (p + k)
  same_start zero = at_first p refl
    where
      at_first : (n : ℕ) → n ≡ p → in_word rest 0 ≡ starts (in_word text) (p + 0)
      at_first zero e = let here : p + 0 ≡ 0 = omega (arith, e) in same_place 0 ∙ ap (in_word text) here ∙ sym (ap (starts (in_word text)) here)
      at_first (suc q) e =
          let here : p + 0 ≡ suc q = omega (arith, e) in
          same_place 0 ∙ ap (in_word text) here ∙ sym (and_true (in_word text (suc q)) (not (in_word text q)) (ap not (before q (omega (arith, e))))) ∙ sym (ap (starts (in_word text)) here)
        where
          and_true : (a b : Bool) → b ≡ true → (a && b) ≡ a
          and_true true b e' = e'
          and_true false b e' = refl
  same_start (suc k) =
      let next : p + suc k ≡ suc (p + k) = omega arith in
      ap₂ (λ (a b : Bool). a && not b) (same_place (suc k) ∙ ap (in_word text) next) (same_place k) ∙ sym (ap (starts (in_word text)) next)

  same_end : (k n : ℕ) → run_end (in_word text) (p + k) n ≡ p + run_end (in_word rest) k n
  same_end k zero = refl
  same_end k (suc n) =
      let next : p + k + 1 ≡ p + (k + 1) = omega arith in
      let more = ap (λ (i : ℕ). run_end (in_word text) i n) next ∙ same_end (k + 1) n in
      ⊎_elim
      (λ (pass : in_word rest k ≡ true). rw (sym (same_place k) ∙ pass, pass) more)
      (λ (fail : in_word rest k ≡ false). rw (sym (same_place k) ∙ fail, fail) refl)
      (cases_Bool (in_word rest k))

  same_bytes : (a b : ℕ) → slice_range rest a b ≡ slice_range text (p + a) (p + b)
  same_bytes a b =
      let long : b - a ≡ p + b - (p + a) = omega arith in
      ap₂ (λ (n : ℕ) (xs : List ℕ). take n xs) long (drop-drop a p text)

  abbrev texts_of : List ℕ → (ℕ → Span) → List ℕ → List (List ℕ)
  texts_of t at ks = lowered_words t (map at ks)

  -- the words that start at some places
  same_words : (i n : ℕ) → i + n ≡ length rest
      → lowered_words rest (map (run_at (in_word rest) (length rest)) (filter (starts (in_word rest)) (range_with_len i n)))
      ≡ lowered_words text (map (run_at (in_word text) (length text)) (filter (starts (in_word text)) (range_with_len (p + i) n)))
  same_words i zero e = refl
  same_words i (suc n) e =
      let next : p + (i + 1) ≡ p + i + 1 = omega arith in
      let more = same_words (i + 1) n (omega (arith, e)) ∙ ap (λ (k : ℕ). lowered_words text (map (run_at (in_word text) (length text)) (filter (starts (in_word text)) (range_with_len k n)))) next in
      let left : length rest - i ≡ length text - (p + i) = omega (arith, length-drop p text) in
      let end : p + run_end (in_word rest) i (length rest - i) ≡ run_end (in_word text) (p + i) (length text - (p + i)) = sym (same_end i (length rest - i)) ∙ ap (λ (m : ℕ). run_end (in_word text) (p + i) m) left in
      let word = same_bytes i (run_end (in_word rest) i (length rest - i)) ∙ ap (λ (to : ℕ). slice_range text (p + i) to) end in
      ⊎_elim
      (λ (pass : starts (in_word rest) i ≡ true). rw (pass, sym (same_start i) ∙ pass) (ap₂ (λ (w : List ℕ) (ws : List (List ℕ)). lowered w ∷ ws) word more))
      (λ (fail : starts (in_word rest) i ≡ false). rw (fail, sym (same_start i) ∙ fail) more)
      (cases_Bool (starts (in_word rest) i))

  -- the words of the rest are the words of the text from the place on
  pub words_ahead : p ≤ length text → lowered_words rest (raw_words rest) ≡ lowered_words text (raw_words_from text p)
  unfolding runs_from
  words_ahead within =
      let all : 0 + (length rest - 0) ≡ length rest = omega arith in
      let here : p + 0 ≡ p = omega arith in
      let left : length rest - 0 ≡ length text - p = omega (arith, length-drop p text) in
      same_words 0 (length rest - 0) all ∙ ap₂ (λ (i n : ℕ). lowered_words text (map (run_at (in_word text) (length text)) (filter (starts (in_word text)) (range_with_len i n)))) here left

-- ---- a phrase in them

module _ (text ahead : List ℕ) (p : ℕ) (is : ahead ≡ drop p text) (words : List (List ℕ)) where
  abbrev told : Bool
  told = not (is_inside text p) && begin_with_words (lowered_words text (raw_words_from text p)) words

  told_is : (left : List Span) → is_inside text p ≡ false → p ≤ length text → left ≡ raw_words ahead → begin_with_words (lowered_words ahead left) words ≡ told
  told_is left outside within all =
      ap₂ (λ (xs : List ℕ) (spans : List Span). begin_with_words (lowered_words xs spans) words) is (all ∙ ap raw_words is)
      ∙ ap (λ (ws : List (List ℕ)). begin_with_words ws words) (words_ahead text p outside within)
      ∙ sym (ap (λ (b : Bool). not b && begin_with_words (lowered_words text (raw_words_from text p)) words) outside)

  pub stands_ahead : (left more : List Span) (first : Span) → is_inside text p ≡ false → p ≤ length text → left ≡ raw_words ahead → left ≡ first ∷ more
      → starts_with_words (lowered_words ahead (first ∷ more)) words ≡ told
  stands_ahead left more first outside within all split =
      sym (ap (λ (spans : List Span). begin_with_words (lowered_words ahead spans) words) split) ∙ told_is left outside within all

  pub none_ahead : (left : List Span) → is_inside text p ≡ false → p ≤ length text → left ≡ raw_words ahead → left ≡ [] → false ≡ told
  none_ahead left outside within all none =
      sym (ap (λ (spans : List Span). begin_with_words (lowered_words ahead spans) words) none) ∙ told_is left outside within all
