-- Raw words are the runs of the places that belong to a word.
use Rattle.std.proofs.Common.{◌≡◌, ℕ, ◌+◌, ◌-◌, ◌<◌, ◌≤◌, ◌⊎◌, ◌↔◌, Bool, true, false, ◌&&◌, ◌||◌, List, length, get_or, sym, refl, ap, subst, inl, inr, ⊎_elim, arith, eqb-true}
use Rattle.std.specs.Prelude.{All, Contains}
use Rattle.std.proofs.lemmas.Bool.{cases_Bool, cases_lt, or_cases, and_parts, and_from}
use Rattle.std.proofs.lemmas.List.{get_or_past}
use Rattle.std.proofs.lemmas.List.Elements.{All-weaker, All-contains, Contains-get_or}
use Rattle.fts_words.specs.declared.span.Span.{Span}
use Rattle.fts_words.specs.Byte.{is_word_byte, word_at, apostrophe_at}
use Rattle.fts_words.specs.Word.{IsRawWord}
use Rattle.fts_words.specs.Run.{IsRun, IsAscending}
use Rattle.fts_words.specs.RawWords.{in_word, raw_words}
use Rattle.fts_words.proofs.RunLemmas.{clash, runs_apart, runs_each, runs_all, runs_ascend, run_around, same_ascending}

-- a byte isn't a word byte and an apostrophe
apart : (text : List ℕ) (i : ℕ) → word_at text i ≡ true → apostrophe_at text i ≡ true → ⊥
unfolding word_at apostrophe_at
apart text i word mark =
    let byte_is : get_or text i 0 ≡ 39 = eqb-true _ 39 mark in
    clash (is_word_byte (get_or text i 0)) word (ap is_word_byte byte_is)

-- behind the end there is no word byte
pub word_at_past : (text : List ℕ) (i : ℕ) → length text ≤ i → word_at text i ≡ false
unfolding word_at
word_at_past text i past = ap is_word_byte (get_or_past text i 0 past)

pub in_word_by_byte : (text : List ℕ) (i : ℕ) → word_at text i ≡ true → in_word text i ≡ true
unfolding in_word
in_word_by_byte text i word = rw word refl

pub in_word_by_mark : (text : List ℕ) (i : ℕ) → apostrophe_at text i ≡ true → word_at text (i - 1) ≡ true → word_at text (i + 1) ≡ true → in_word text i ≡ true
unfolding in_word
in_word_by_mark text i mark left right =
    ⊎_elim (λ (word : word_at text i ≡ true). rw word refl) (λ (other : word_at text i ≡ false). rw (other, mark, left, right) refl) (cases_Bool (word_at text i))

-- an apostrophe between two word bytes
pub record IsInner (text : List ℕ) (i : ℕ) : Type 0 where
  pub mark : apostrophe_at text i ≡ true
  pub left : word_at text (i - 1) ≡ true
  pub right : word_at text (i + 1) ≡ true

pub in_word_cases : (text : List ℕ) (i : ℕ) → in_word text i ≡ true → (word_at text i ≡ true) ⊎ IsInner text i
unfolding in_word
in_word_cases text i h =
    ⊎_elim inl
    (λ inner.
    let first = and_parts (apostrophe_at text i) _ inner in
    let sides = and_parts (word_at text (i - 1)) _ first.1 in
    inr (record { mark = first.0; left = sides.0; right = sides.1 }))
    (or_cases (word_at text i) _ h)

-- a place in no word has no word byte, and no apostrophe between two
pub not_in_word : (text : List ℕ) (i : ℕ) → (word_at text i ≡ true → ⊥) → (IsInner text i → ⊥) → in_word text i ≡ false
not_in_word text i byte inner =
    ⊎_elim (λ pass. absurd (⊎_elim byte inner (in_word_cases text i pass))) (λ fail. fail) (cases_Bool (in_word text i))

pub no_byte : (text : List ℕ) (i : ℕ) → in_word text i ≡ false → word_at text i ≡ false
no_byte text i none =
    ⊎_elim (λ word. clash (in_word text i) (in_word_by_byte text i word) none) (λ fail. fail) (cases_Bool (word_at text i))

no_pair : (a b : Bool) → (a ≡ true → b ≡ true → ⊥) → (a && b) ≡ false
no_pair a b never =
    ⊎_elim (λ pass. let parts = and_parts a b pass in absurd (never parts.0 parts.1)) (λ fail. fail) (cases_Bool (a && b))

-- no place behind the text's end belongs to a word
pub in_word_past : (text : List ℕ) (k : ℕ) → length text ≤ k → in_word text k ≡ false
in_word_past text k past =
    not_in_word text k
    (λ word. clash (word_at text k) word (word_at_past text k past))
    (λ inner. clash (word_at text (k + 1)) inner.right (word_at_past text (k + 1) (omega arith)))

-- a raw word is a run
pub run_from_word : (text : List ℕ) (a b : ℕ) → IsRawWord text a b → IsRun (in_word text) a b
run_from_word text a b w = record {
  nonempty = w.nonempty;
  each = λ i low high. ⊎_elim (in_word_by_byte text i) (inner i low high) (or_cases (word_at text i) _ (w.bytes i low high));
  before = λ i next. not_in_word text i
      (λ word. clash (word_at text i) word (w.left i next))
      (λ mark. ⊎_elim
      (λ (some : 0 < i). clash (word_at text (i - 1) && apostrophe_at text (i - 1 + 1)) (and_from _ _ mark.left (let same : i - 1 + 1 ≡ i = omega arith in subst (λ (x : ℕ). apostrophe_at text x ≡ true) (sym same) mark.mark)) (w.left_beyond (i - 1) (omega arith)))
      (λ (none : i ≤ 0). let same : i - 1 ≡ i = omega arith in clash (word_at text i) (subst (λ (x : ℕ). word_at text x ≡ true) same mark.left) (w.left i next))
      (cases_lt 0 i));
  behind = not_in_word text b (λ word. clash (word_at text b) word w.right) (λ mark. clash (apostrophe_at text b && word_at text (b + 1)) (and_from _ _ mark.mark mark.right) w.right_beyond);
}
  where
    beside : (i : ℕ) → a ≤ i → i + 1 < b → apostrophe_at text i ≡ true → word_at text (i + 1) ≡ true
    beside i low high mark =
        ⊎_elim (λ word. word) (λ twice. clash (apostrophe_at text i && apostrophe_at text (i + 1)) (and_from _ _ mark twice) (w.single i low high)) (or_cases (word_at text (i + 1)) _ (w.bytes (i + 1) (omega arith) high))

    beside_left : (i : ℕ) → a ≤ i → i + 1 < b → apostrophe_at text (i + 1) ≡ true → word_at text i ≡ true
    beside_left i low high mark =
        ⊎_elim (λ word. word) (λ twice. clash (apostrophe_at text i && apostrophe_at text (i + 1)) (and_from _ _ twice mark) (w.single i low high)) (or_cases (word_at text i) _ (w.bytes i low (omega arith)))

    inner : (i : ℕ) → a ≤ i → i < b → apostrophe_at text i ≡ true → in_word text i ≡ true
    inner i low high mark =
        let not_first : a < i = ⊎_elim (λ less. less) (λ least. let same : a ≡ i = omega arith in absurd (apart text i (subst (λ (x : ℕ). word_at text x ≡ true) same w.first) mark)) (cases_lt a i) in
        let not_last : i + 1 < b = ⊎_elim (λ less. less) (λ most. let same : b - 1 ≡ i = omega arith in absurd (apart text i (subst (λ (x : ℕ). word_at text x ≡ true) same w.last) mark)) (cases_lt (i + 1) b) in
        let same : i - 1 + 1 ≡ i = omega arith in
        in_word_by_mark text i mark
        (beside_left (i - 1) (omega arith) (omega arith) (subst (λ (x : ℕ). apostrophe_at text x ≡ true) (sym same) mark))
        (beside i low not_last mark)

-- a run is a raw word
pub word_from_run : (text : List ℕ) (a b : ℕ) → IsRun (in_word text) a b → IsRawWord text a b
word_from_run text a b r = record {
  nonempty = r.nonempty;
  bytes = λ i low high. ⊎_elim (λ word. rw word refl) (λ mark. joined i mark.mark) (in_word_cases text i (r.each i low high));
  first = first;
  last = last;
  single = λ i low high. no_pair _ _ (λ mark twice. ⊎_elim (λ word. apart text i word mark) (λ inner. apart text (i + 1) inner.right twice) (in_word_cases text i (r.each i low (omega arith))));
  left = λ i next. no_byte text i (r.before i next);
  right = no_byte text b r.behind;
  left_beyond = λ i next. no_pair _ _ (λ word mark.
      let back : i + 1 - 1 ≡ i = omega arith in
      let ahead : i + 1 + 1 ≡ a = omega arith in
      clash (in_word text (i + 1)) (in_word_by_mark text (i + 1) mark (subst (λ (x : ℕ). word_at text x ≡ true) (sym back) word) (subst (λ (x : ℕ). word_at text x ≡ true) (sym ahead) first)) (r.before (i + 1) (omega arith)));
  right_beyond = no_pair _ _ (λ mark word. clash (in_word text b) (in_word_by_mark text b mark last word) r.behind);
}
  where
    last_next : b - 1 + 1 ≡ b
    last_next = let ordered = r.nonempty in omega arith

    joined : (i : ℕ) → apostrophe_at text i ≡ true → (word_at text i || apostrophe_at text i) ≡ true
    joined i mark = ⊎_elim (λ (word : word_at text i ≡ true). rw word refl) (λ (other : word_at text i ≡ false). rw (other, mark) refl) (cases_Bool (word_at text i))

    first : word_at text a ≡ true
    first =
        ⊎_elim (λ word. word)
        (λ mark. ⊎_elim
        (λ (some : 0 < a). clash (in_word text (a - 1)) (in_word_by_byte text (a - 1) mark.left) (r.before (a - 1) (omega arith)))
        (λ (none : a ≤ 0). let same : a - 1 ≡ a = omega arith in absurd (apart text a (subst (λ (x : ℕ). word_at text x ≡ true) same mark.left) mark.mark))
        (cases_lt 0 a))
        (in_word_cases text a (r.each a (omega arith) r.nonempty))

    last : word_at text (b - 1) ≡ true
    last =
        let ordered = r.nonempty in
        ⊎_elim (λ word. word) (λ mark. clash (in_word text b) (in_word_by_byte text b (subst (λ (x : ℕ). word_at text x ≡ true) last_next mark.right)) r.behind) (in_word_cases text (b - 1) (r.each (b - 1) (omega arith) (omega arith)))

-- the list of a text's raw words has raw words alone, each of them, in ascending order
pub raw_words_each : (text : List ℕ) → All (λ w. IsRawWord text w.from w.to) (raw_words text)
raw_words_each text =
    All-weaker _ _ (λ w run. word_from_run text w.from w.to run) _ (runs_each (in_word text) (length text) (in_word_past text))

pub raw_words_all : (text : List ℕ) (w : Span) → IsRawWord text w.from w.to → Contains (raw_words text) w
raw_words_all text w word =
    runs_all (in_word text) (length text) (in_word_past text) w (run_from_word text w.from w.to word)

pub raw_words_ascend : (text : List ℕ) → IsAscending (raw_words text)
raw_words_ascend text = runs_ascend (in_word text) (length text) (in_word_past text)

-- two raw words are one and the same, or one ends before the other starts
pub words_apart : (text : List ℕ) (a b c d : ℕ) → IsRawWord text a b → IsRawWord text c d → ((a ≡ c) × (b ≡ d)) ⊎ ((b < c) ⊎ (d < a))
words_apart text a b c d v w = runs_apart (in_word text) a b c d (run_from_word text a b v) (run_from_word text c d w)

-- a word byte lies in a raw word
pub word_around : (text : List ℕ) (i : ℕ) → word_at text i ≡ true → (from : ℕ) × (to : ℕ) × IsRawWord text from to × (from ≤ i) × (i < to)
word_around text i here =
    let found = run_around (in_word text) (length text) (in_word_past text) i (in_word_by_byte text i here) in
    (found.0, found.1, word_from_run text found.0 found.1 found.2, found.3, found.4)

-- another ascending list of the same words is the same list
pub raw_words_only : (text : List ℕ) (spans : List Span) → IsAscending spans → ((w : Span) → Contains spans w ↔ IsRawWord text w.from w.to) → spans ≡ raw_words text
raw_words_only text spans up members =
    let full : (ws : List Span) → ((w : Span) → Contains ws w → IsRawWord text w.from w.to) → All (λ w. w.from < w.to) ws = λ ws word. λ k d less. (word (get_or ws k d) (Contains-get_or ws k d less)).nonempty in
    let listed : (w : Span) → Contains (raw_words text) w → IsRawWord text w.from w.to = λ w inside. All-contains (λ (v : Span). IsRawWord text v.from v.to) (raw_words text) w (raw_words_each text) inside in
    same_ascending spans (raw_words text) up (raw_words_ascend text)
    (full spans (λ w. (members w).0)) (full (raw_words text) listed)
    (λ w inside. raw_words_all text w ((members w).0 inside)) (λ w inside. (members w).1 (listed w inside))

-- a raw word lies within its text
pub raw_words_within : (text : List ℕ) (from to : ℕ) → IsRawWord text from to → to ≤ length text
raw_words_within text from to word =
    let ordered = word.nonempty in
    ⊎_elim (λ over. clash (word_at text (to - 1)) word.last (word_at_past text (to - 1) (omega arith))) (λ within. within) (cases_lt (length text) to)
