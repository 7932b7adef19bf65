-- The words of a text, as an iterator gives them.
use Rattle.std.proofs.Common.{◌≡◌, ℕ, zero, suc, ◌+◌, ◌-◌, ◌<◌, ◌≤◌, Bool, true, false, List, [], ◌∷◌, length, map, filter, get_or, refl, sym, ap, subst, ◌∙◌, ⊎_elim, arith}
use Rattle.std.specs.List.{range_with_len}
use Rattle.std.specs.Str.{bytes_eq}
use Rattle.std.specs.Char.{to_ascii_lowercase}
use Rattle.std.proofs.lemmas.Bool.{cases_Bool}
use Rattle.std.proofs.lemmas.List.{length-map}
use Rattle.std.proofs.lemmas.List.Elements.{All-head, All-tail, All-weaker}
use Rattle.std.proofs.lemmas.Slice.Eq.{bytes_eq-Decides}
use Rattle.fts_words.specs.declared.span.Span.{Span}
use Rattle.fts_words.specs.Byte.{lowered}
use Rattle.fts_words.specs.Word.{IsRawWord}
use Rattle.fts_words.specs.Run.{starts, run_at, runs_from}
use Rattle.fts_words.specs.RawWords.{in_word, raw_words, bytes_of}
use Rattle.fts_words.proofs.WordLemmas.{raw_words_each, raw_words_within}
use Rattle.fts_meaning.specs.Token.{words_in}
use Rattle.fts_phrase.specs.Words.{lowered_words, LieIn}

abbrev pub LiesIn : List ℕ → Span → Type 0
LiesIn text span = (span.from ≤ span.to) × (span.to ≤ length text)

-- all raw words lie in their text
pub lie_all : (text : List ℕ) (left : List Span) → left ≡ raw_words text → LieIn text left
lie_all text left all =
    subst (LieIn text) (sym all) (All-weaker (λ (w : Span). IsRawWord text w.from w.to) (LiesIn text) (λ w word. let some = word.nonempty in (omega arith, raw_words_within text w.from w.to word)) (raw_words text) (raw_words_each text))

pub lies_first : (text : List ℕ) (left rest : List Span) (span : Span) → left ≡ span ∷ rest → LieIn text left → LiesIn text span
lies_first text left rest span split lie = All-head (LiesIn text) span rest (subst (LieIn text) split lie)

pub lie_rest : (text : List ℕ) (left rest : List Span) (span : Span) → left ≡ span ∷ rest → LieIn text left → LieIn text rest
lie_rest text left rest span split lie = All-tail (LiesIn text) span rest (subst (LieIn text) split lie)

pub all_words : (text : List ℕ) (left : List Span) → left ≡ raw_words text → lowered_words text left ≡ words_in text
unfolding words_in
all_words text left all = ap (lowered_words text) all

-- a text has at most as many words as bytes
few_chosen : {X : Type 0} (test : X → Bool) (xs : List X) → length (filter test xs) ≤ length xs
few_chosen test [] = omega arith
few_chosen test (x ∷ xs) =
    let fewer = few_chosen test xs in
    ⊎_elim (λ (passes : test x ≡ true). rw passes (omega (arith, fewer))) (λ (fails : test x ≡ false). rw fails (omega (arith, fewer))) (cases_Bool (test x))

range_long : (a n : ℕ) → length (range_with_len a n) ≡ n
range_long a zero = refl
range_long a (suc n) = ap suc (range_long (a + 1) n)

pub words_few : (text : List ℕ) → length (raw_words text) ≤ length text
unfolding runs_from
words_few text =
    let begin = filter (starts (in_word text)) (range_with_len 0 (length text - 0)) in
    let fewer : length begin ≤ length (range_with_len 0 (length text - 0)) = few_chosen (starts (in_word text)) (range_with_len 0 (length text - 0)) in
    omega (arith, length-map begin (run_at (in_word text) (length text)), fewer, range_long 0 (length text - 0))

-- ---- a word, byte by byte

-- where all bytes before a place are alike
abbrev pub AreAlike : List ℕ → List ℕ → ℕ → Type 0
AreAlike found word place = (k : ℕ) → k < place → to_ascii_lowercase (get_or found k 0) ≡ get_or word k 0

pub not_alike : (found word : List ℕ) (k : ℕ) → k < length found → (to_ascii_lowercase (get_or found k 0) ≡ get_or word k 0 → ⊥) → bytes_eq (lowered found) word ≡ false
not_alike found word k within differ =
    ⊎_elim
    (λ (same : bytes_eq (lowered found) word ≡ true). absurd (differ (sym (at found k within) ∙ ap (λ (xs : List ℕ). get_or xs k 0) ((bytes_eq-Decides (lowered found) word).0 same))))
    (λ differs. differs)
    (cases_Bool (bytes_eq (lowered found) word))
  where
    at : (xs : List ℕ) (k : ℕ) → k < length xs → get_or (map to_ascii_lowercase xs) k 0 ≡ to_ascii_lowercase (get_or xs k 0)
    at [] k lt = absurd (omega (arith, lt))
    at (x ∷ xs) zero lt = refl
    at (x ∷ xs) (suc k) lt = at xs k (omega (arith, lt))

pub all_alike : (found word : List ℕ) → length found ≡ length word → AreAlike found word (length found) → bytes_eq (lowered found) word ≡ true
all_alike found word long alike = (bytes_eq-Decides (lowered found) word).1 (same found word long alike)
  where
    same : (xs ys : List ℕ) → length xs ≡ length ys → AreAlike xs ys (length xs) → map to_ascii_lowercase xs ≡ ys
    same [] [] e h = refl
    same [] (y ∷ ys) e h = absurd (omega (arith, e))
    same (x ∷ xs) [] e h = absurd (omega (arith, e))
    same (x ∷ xs) (y ∷ ys) e h =
        ap (λ (z : ℕ). z ∷ map to_ascii_lowercase xs) (h 0 (omega arith)) ∙ ap (λ (zs : List ℕ). y ∷ zs) (same xs ys (omega (arith, e)) (λ k lt. h (suc k) (omega (arith, lt))))

pub words_few_of : (text : List ℕ) → length (words_in text) ≤ length text
unfolding words_in
words_few_of text = omega (arith, words_few text, length-map (raw_words text) (λ (span : Span). lowered (bytes_of text span)))
