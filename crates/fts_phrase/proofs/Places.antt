-- A phrase, from the places on at which its first word may stand.
use Rattle.std.proofs.Common.{◌≡◌, ℕ, zero, suc, ◌+◌, ◌-◌, ◌<◌, ◌≤◌, Bool, true, false, not, ◌&&◌, ◌||◌, List, [], ◌∷◌, length, map, filter, drop, get_or, slice_index_or, slice_range, refl, sym, ap, ◌∙◌, subst, ⊎_elim, arith, length-take, length-drop}
use Rattle.std.specs.Str.{bytes_eq}
use Rattle.std.specs.Char.{to_ascii_lowercase}
use Rattle.std.proofs.lemmas.Bool.{cases_Bool}
use Rattle.std.proofs.lemmas.List.{length-map, get_or-map, get_or-take, get_or-drop}
use Rattle.std.proofs.lemmas.Slice.Eq.{bytes_eq-Decides}
use Rattle.fts_words.specs.declared.span.Span.{Span}
use Rattle.fts_words.specs.Byte.{lowered}
use Rattle.std.specs.List.{range_with_len}
use Rattle.fts_words.specs.Run.{starts, run_end, run_at, runs_from}
use Rattle.fts_words.specs.RawWords.{in_word, raw_words_from, bytes_of}
use Rattle.fts_words.proofs.RunLemmas.{starts_after, runs_skip}
use Rattle.fts_meaning.specs.Token.{words_in}
use Rattle.fts_meaning.specs.Holds.{starts_with_words, stands_in}
use Rattle.fts_token.specs.Bounds.{is_inside}
use Rattle.fts_phrase.specs.Words.{lowered_words, begin_with_words, StandsAt, StandsAtNone}
use Rattle.fts_phrase.proofs.Given.{all_words}
use Rattle.fts_phrase.proofs.Following.{some_end, some_end_is, begins_phrase}

run_end_order : (test : ℕ → Bool) (i n : ℕ) → (i ≤ run_end test i n) × (run_end test i n ≤ i + n)
run_end_order test i zero = (omega arith, omega arith)
run_end_order test i (suc n) =
    let rest = run_end_order test (i + 1) n in
    ⊎_elim
    (λ (pass : test i ≡ true). rw pass (omega (arith, rest.0), omega (arith, rest.1)))
    (λ (fail : test i ≡ false). rw fail (omega arith, omega arith))
    (cases_Bool (test i))

-- what starts at a place is the first from there on
runs_start : (test : ℕ → Bool) (size i : ℕ) → i < size → starts test i ≡ true → runs_from test size i ≡ run_at test size i ∷ runs_from test size (i + 1)
unfolding runs_from
runs_start test size i within start =
    let counted : size - i ≡ suc (size - (i + 1)) = omega arith in
    ap (λ (n : ℕ). map (run_at test size) (filter (starts test) (range_with_len i n))) counted ∙ rw start refl

-- the first of some words, or no bytes
abbrev pub first_word : List (List ℕ) → List ℕ
first_word words = slice_index_or words 0 []

module _ (text : List ℕ) (words : List (List ℕ)) where
  -- the words from a place on
  abbrev ahead : ℕ → List (List ℕ)
  ahead place = lowered_words text (raw_words_from text place)

  -- the words stand one behind another somewhere from a place on
  abbrev pub stand_from : ℕ → Bool
  stand_from place = some_end (begins_phrase words) (ahead place)

  -- the word that starts at a place
  abbrev word_at_place : ℕ → Span
  word_at_place k = record { from = k; to = run_end (in_word text) k (length text - k) }

  first_ahead : (k : ℕ) → k < length text → starts (in_word text) k ≡ true → ahead k ≡ lowered (bytes_of text (word_at_place k)) ∷ ahead (k + 1)
  first_ahead k within start = ap (lowered_words text) (runs_start (in_word text) (length text) k within start)

  none_ahead : (k : ℕ) → k < length text → starts (in_word text) k ≡ false → ahead k ≡ ahead (k + 1)
  none_ahead k within none =
      ap (lowered_words text) (runs_skip (in_word text) (length text) k (k + 1) (omega arith) (omega arith) (λ i low high. let same : i ≡ k = omega (arith, low, high) in subst (λ (x : ℕ). starts (in_word text) x ≡ false) (sym same) none))

  -- where a word starts, none goes on
  not_inside : (k : ℕ) → starts (in_word text) k ≡ true → is_inside text k ≡ false
  unfolding is_inside
  not_inside zero start = refl
  not_inside (suc k) start = starts_after (in_word text) (suc k) start k (omega arith)

  -- words that begin with the others are an end that does
  begins_or : (ws : List (List ℕ)) → (begin_with_words ws words || some_end (begins_phrase words) ws) ≡ some_end (begins_phrase words) ws
  begins_or [] = refl
  begins_or (w ∷ ws) = twice (starts_with_words (w ∷ ws) words) (some_end (begins_phrase words) ws)
    where
      twice : (a b : Bool) → (a || (a || b)) ≡ (a || b)
      twice true b = refl
      twice false b = refl

  -- they stand from a place on if they do there, or from the next place on
  pub here_or_behind : (k : ℕ) (here : Bool) → k < length text → here ≡ (not (is_inside text k) && begin_with_words (ahead k) words)
      → stand_from k ≡ (here || stand_from (k + 1))
  here_or_behind k here within is =
      ⊎_elim
      (λ (start : starts (in_word text) k ≡ true).
      let split = first_ahead k within start in
      let outside = not_inside k start in
      let told : here ≡ begin_with_words (ahead k) words = is ∙ ap (λ (b : Bool). not b && begin_with_words (ahead k) words) outside in
      ap (some_end (begins_phrase words)) split
      ∙ ap (λ (b : Bool). b || stand_from (k + 1)) (sym (told ∙ ap (λ (ws : List (List ℕ)). begin_with_words ws words) split)))
      (λ (none : starts (in_word text) k ≡ false).
      let same = none_ahead k within none in
      let told : here ≡ (not (is_inside text k) && begin_with_words (ahead (k + 1)) words) = is ∙ ap (λ (ws : List (List ℕ)). not (is_inside text k) && begin_with_words ws words) same in
      ap (some_end (begins_phrase words)) same
      ∙ sym (ap (λ (b : Bool). b || stand_from (k + 1)) told ∙ either (not (is_inside text k)) (begin_with_words (ahead (k + 1)) words) (stand_from (k + 1)) (begins_or (ahead (k + 1)))))
      (cases_Bool (starts (in_word text) k))
    where
      either : (a b e : Bool) → (b || e) ≡ e → ((a && b) || e) ≡ e
      either true b e same = same
      either false b e same = refl

  -- a word that starts at a place and is the first of the phrase stands there
  stands_there : (k : ℕ) → k < length text → bytes_eq (lowered (bytes_of text (word_at_place k))) (first_word words) ≡ true → StandsAt text (first_word words) k
  stands_there k within same =
      let e = run_end (in_word text) k (length text - k) in
      let order = run_end_order (in_word text) k (length text - k) in
      let found : List ℕ = slice_range text k e in
      let is : lowered found ≡ first_word words = (bytes_eq-Decides (lowered found) (first_word words)).0 same in
      let found_long : length found ≡ e - k = omega (arith, length-take (e - k) (drop k text), length-drop k text, order.1) in
      let long : length (first_word words) ≡ e - k = ap length (sym is) ∙ length-map found to_ascii_lowercase ∙ found_long in
      record {
        within = omega (arith, long, order.0, order.1);
        bytes = λ i less.
            let inside : i < e - k = omega (arith, less, long) in
            let byte : get_or found i 0 ≡ get_or text (k + i) 0 = get_or-take (e - k) (drop k text) i 0 inside ∙ get_or-drop k text i 0 in
            ap to_ascii_lowercase (sym byte) ∙ sym (get_or-map to_ascii_lowercase found i 0 0 (omega (arith, inside, found_long))) ∙ ap (λ (bs : List ℕ). get_or bs i 0) is;
      }

  -- from a place at which the first word does not stand one looks on
  pub not_here : (k : ℕ) → k < length text → (StandsAt text (first_word words) k → ⊥) → stand_from k ≡ stand_from (k + 1)
  not_here k within none =
      ⊎_elim
      (λ (start : starts (in_word text) k ≡ true).
      let split = first_ahead k within start in
      ap (some_end (begins_phrase words)) split ∙ ap (λ (b : Bool). b || stand_from (k + 1)) (differs words refl))
      (λ (no_start : starts (in_word text) k ≡ false). ap (some_end (begins_phrase words)) (none_ahead k within no_start))
      (cases_Bool (starts (in_word text) k))
    where
      differs : (ws : List (List ℕ)) → ws ≡ words → starts_with_words (lowered (bytes_of text (word_at_place k)) ∷ ahead (k + 1)) words ≡ false
      differs [] e =
          absurd (none (subst (λ (vs : List (List ℕ)). StandsAt text (first_word vs) k) e (record { within = omega (arith, within); bytes = λ i less. absurd (omega (arith, less)) })))
      differs (w ∷ ws) e =
          ⊎_elim
          (λ (same : bytes_eq (lowered (bytes_of text (word_at_place k))) (first_word words) ≡ true). absurd (none (stands_there k within same)))
          (λ (other : bytes_eq (lowered (bytes_of text (word_at_place k))) (first_word words) ≡ false).
          let first : w ≡ first_word words = ap first_word e in
          let fails : bytes_eq (lowered (bytes_of text (word_at_place k))) w ≡ false = ap (bytes_eq (lowered (bytes_of text (word_at_place k)))) first ∙ other in
          ap (starts_with_words (lowered (bytes_of text (word_at_place k)) ∷ ahead (k + 1))) (sym e) ∙ ap (λ (b : Bool). b && starts_with_words (ahead (k + 1)) ws) fails)
          (cases_Bool (bytes_eq (lowered (bytes_of text (word_at_place k))) (first_word words)))

  pub passed : (at place : ℕ) → at ≤ place → place ≤ length text → StandsAtNone text (first_word words) at place → stand_from at ≡ stand_from place
  passed at place order within none = let all : at + (place - at) ≡ place = omega (arith, order) in far (place - at) at all none
    where
      far : (d from : ℕ) → from + d ≡ place → StandsAtNone text (first_word words) from place → stand_from from ≡ stand_from place
      far zero from e none = let same : from ≡ place = omega (arith, e) in ap stand_from same
      far (suc d) from e none =
          not_here from (omega (arith, e, within)) (none from (omega arith) (omega (arith, e))) ∙ far d (from + 1) (omega (arith, e)) (λ k low high. none k (omega (arith, low)) high)

  -- ---- the loop

  pub record IsSeekingFrom (at : ℕ) : Type 0 where
    pub within : at ≤ length text
    pub same : stand_from at ≡ stands_in words text

  pub from_start : IsSeekingFrom 0
  from_start = record {
    within = omega arith;
    same = ap (some_end (begins_phrase words)) (all_words text _ refl) ∙ sym (some_end_is (begins_phrase words) (words_in text));
  }

  pub found_here : (at place : ℕ) (here : Bool) → at ≤ place → place < length text → StandsAtNone text (first_word words) at place
      → here ≡ (not (is_inside text place) && begin_with_words (ahead place) words) → here ≡ true → IsSeekingFrom at → true ≡ stands_in words text
  found_here at place here order within none is told s =
      sym (passed at place order (omega (arith, within)) none ∙ here_or_behind place here within is ∙ ap (λ (b : Bool). b || stand_from (place + 1)) told) ∙ s.same

  pub go_on : (at place : ℕ) (here : Bool) → at ≤ place → place < length text → StandsAtNone text (first_word words) at place
      → here ≡ (not (is_inside text place) && begin_with_words (ahead place) words) → here ≡ false → IsSeekingFrom at → IsSeekingFrom (place + 1)
  go_on at place here order within none is told s = record {
    within = omega (arith, within);
    same = sym (passed at place order (omega (arith, within)) none ∙ here_or_behind place here within is ∙ ap (λ (b : Bool). b || stand_from (place + 1)) told) ∙ s.same;
  }

  pub found_nowhere : (at : ℕ) → StandsAtNone text (first_word words) at (length text) → IsSeekingFrom at → false ≡ stands_in words text
  unfolding runs_from
  found_nowhere at none s =
      let empty : length text - length text ≡ 0 = omega arith in
      let end : stand_from (length text) ≡ false = rw empty refl in
      sym (passed at (length text) s.within (omega arith) none ∙ end) ∙ s.same
