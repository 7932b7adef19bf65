-- Words that lie near each other, by the last number of each.
use Rattle.std.proofs.Common.{◌≡◌, ℕ, zero, suc, ◌+◌, ◌-◌, ◌<◌, ◌≤◌, min, max, Bool, true, false, ◌&&◌, cond, List, [], ◌∷◌, length, take, drop, get_or, nat_le, refl, sym, ap, subst, ◌∙◌, ⊎_elim, arith, length-take, length-drop}
use Rattle.std.specs.List.{list_any, list_all, range_with_len}
use Rattle.std.specs.Str.{bytes_eq}
use Rattle.std.proofs.lemmas.Bool.{cases_Bool, cases_lt, cases_eq, false≢true, leb-true, le-leb}
use Rattle.std.proofs.lemmas.List.{get_or-take, get_or-drop, drop_more}
use Rattle.std.proofs.lemmas.List.Folds.{list_any_at}
use Rattle.std.proofs.lemmas.List.FromFn.{get_or-range_with_len, length-range_with_len}
use Rattle.fts_words.specs.declared.span.Span.{Span}
use Rattle.fts_words.specs.Byte.{lowered}
use Rattle.fts_words.specs.Order.{is_among}
use Rattle.fts_words.specs.RawWords.{bytes_of}
use Rattle.fts_meaning.specs.Holds.{from_some_place}
use Rattle.fts_phrase.specs.Words.{lowered_words, LieIn, window_start}
use Rattle.fts_phrase.proofs.Given.{lie_rest}

-- ---- tests of lists, by places

list_all_at : {X : Type 0} (p : X → Bool) (d : X) (xs : List X) → ((k : ℕ) → k < length xs → p (get_or xs k d) ≡ true) → list_all p xs ≡ true
list_all_at p d [] h = refl
list_all_at p d (x ∷ xs) h =
    ap (λ (b : Bool). b && list_all p xs) (h 0 (omega arith)) ∙ list_all_at p d xs (λ k lt. h (suc k) (omega (arith, lt)))

all_each : {X : Type 0} (p : X → Bool) (d : X) (xs : List X) → list_all p xs ≡ true → (k : ℕ) → k < length xs → p (get_or xs k d) ≡ true
all_each p d [] h k lt = absurd (omega (arith, lt))
all_each p d (x ∷ xs) h zero lt = first (p x) (list_all p xs) h
  where
    first : (a b : Bool) → (a && b) ≡ true → a ≡ true
    first true b e = refl
    first false b e = e
all_each p d (x ∷ xs) h (suc k) lt = all_each p d xs (second (p x) (list_all p xs) h) k (omega (arith, lt))
  where
    second : (a b : Bool) → (a && b) ≡ true → b ≡ true
    second true b e = e
    second false b e = absurd (false≢true e)

any_place : {X : Type 0} (p : X → Bool) (d : X) (xs : List X) → list_any p xs ≡ true → (k : ℕ) × (k < length xs) × (p (get_or xs k d) ≡ true)
any_place p d [] h = absurd (false≢true h)
any_place p d (x ∷ xs) h =
    ⊎_elim
    (λ (passes : p x ≡ true). (0, omega arith, passes))
    (λ (fails : p x ≡ false). let found : (k : ℕ) × (k < length xs) × (p (get_or xs k d) ≡ true) = any_place p d xs (rw fails at h) in (suc found.0, omega (arith, found.1), found.2))
    (cases_Bool (p x))

-- ---- the last number of a word

-- of the first words the last that is this one has this number, from 1; 0 where none of them is
pub record LastIs (ws : List (List ℕ)) (w : List ℕ) (number last : ℕ) : Type 0 where
  pub within : last ≤ number
  pub is : 0 < last → bytes_eq (get_or ws (last - 1) []) w ≡ true
  pub none : (i : ℕ) → last ≤ i → i < number → bytes_eq (get_or ws i []) w ≡ false

pub last_first : (ws : List (List ℕ)) (w : List ℕ) → LastIs ws w 0 0
last_first ws w = record {
  within = omega arith;
  is = λ some. absurd (omega (arith, some));
  none = λ i le lt. absurd (omega (arith, lt));
}

last_more : (ws : List (List ℕ)) (w : List ℕ) (number last last' : ℕ) → LastIs ws w number last → last' ≡ cond (bytes_eq (get_or ws number []) w) (number + 1) last → LastIs ws w (number + 1) last'
last_more ws w number last last' l new =
    ⊎_elim
    (λ (same : bytes_eq (get_or ws number []) w ≡ true).
    let e : last' ≡ number + 1 = rw same at new in
    let back : last' - 1 ≡ number = omega (arith, e) in
    record {
      within = omega (arith, e);
      is = λ some. ap (λ (i : ℕ). bytes_eq (get_or ws i []) w) back ∙ same;
      none = λ i le lt. absurd (omega (arith, e, le, lt));
    })
    (λ (differs : bytes_eq (get_or ws number []) w ≡ false).
    let e : last' ≡ last = rw differs at new in
    subst (LastIs ws w (number + 1)) (sym e) (record {
      within = omega (arith, l.within);
      is = l.is;
      none = λ i le lt.
          ⊎_elim
          (λ (before : i < number). l.none i le before)
          (λ (past : number ≤ i). let here : i ≡ number = omega (arith, past, lt) in ap (λ (j : ℕ). bytes_eq (get_or ws j []) w) here ∙ differs)
          (cases_lt i number);
    }))
    (cases_Bool (bytes_eq (get_or ws number []) w))

-- each word has a place before the one with this number, and within reach of it
pub record AreNear (ws words : List (List ℕ)) (reach number : ℕ) : Type 0 where
  pub some : 1 ≤ number
  pub each : (k : ℕ) → k < length words → (i : ℕ) × (i < number) × (number ≤ i + 1 + reach) × (bytes_eq (get_or ws i []) (get_or words k []) ≡ true)

module _ (ws words : List (List ℕ)) (reach : ℕ) where
  abbrev pub Lasts : ℕ → List ℕ → Type 0
  Lasts number lasts = (k : ℕ) → k < length words → LastIs ws (get_or words k []) number (get_or lasts k 0)

  near_by_last : (number : ℕ) (lasts : List ℕ) → 1 ≤ number → length lasts ≡ length words → Lasts number lasts → list_all (nat_le (window_start number reach)) lasts ≡ true → AreNear ws words reach number
  near_by_last number lasts some long are h = record {
    some = some;
    each = λ k lt.
        let inside : k < length lasts = omega (arith, long, lt) in
        let last = get_or lasts k 0 in
        let l = are k lt in
        let le : max 1 (number - reach) ≤ last = leb-true (max 1 (number - reach)) last (all_each (nat_le (window_start number reach)) 0 lasts h k inside) in
        (last - 1, omega (arith, le, l.within), omega (arith, le), l.is (omega (arith, le)));
  }

  last_by_near : (number : ℕ) (lasts : List ℕ) → length lasts ≡ length words → Lasts number lasts → AreNear ws words reach number → list_all (nat_le (window_start number reach)) lasts ≡ true
  last_by_near number lasts long are near =
      list_all_at (nat_le (window_start number reach)) 0 lasts (λ k lt.
      let inside : k < length words = omega (arith, long, lt) in
      let last = get_or lasts k 0 in
      let l = are k inside in
      let found = near.each k inside in
      ⊎_elim
      (λ (behind : found.0 < last). le-leb (max 1 (number - reach)) last (omega (arith, behind, found.2, l.within)))
      (λ (before : last ≤ found.0). absurd (false≢true (sym (l.none found.0 before found.1) ∙ found.3)))
      (cases_lt found.0 last))

  -- ---- near words and windows

  abbrev pub in_window : List (List ℕ) → Bool
  in_window rest = list_all (is_among (take (reach + 1) rest)) words

  among_at : (from i : ℕ) (w : List ℕ) → i < reach + 1 → from + i < length ws → bytes_eq (get_or ws (from + i) []) w ≡ true → is_among (take (reach + 1) (drop from ws)) w ≡ true
  among_at from i w less room same =
      let xs = take (reach + 1) (drop from ws) in
      let inside : i < length xs = omega (arith, length-take (reach + 1) (drop from ws), length-drop from ws) in
      let at : get_or xs i [] ≡ get_or ws (from + i) [] = get_or-take (reach + 1) (drop from ws) i [] less ∙ get_or-drop from ws i [] in
      list_any_at (λ (v : List ℕ). bytes_eq v w) xs i [] inside (ap (λ (v : List ℕ). bytes_eq v w) at ∙ same)

  pub near_found : (number : ℕ) → number ≤ length ws → AreNear ws words reach number → from_some_place ws in_window ≡ true
  near_found number within near =
      let some = near.some in
      let from = number - 1 - reach in
      let less : from < length ws = omega (arith, some, within) in
      let at : get_or (range_with_len 0 (length ws)) from 0 ≡ from = get_or-range_with_len 0 (length ws) from 0 less ∙ omega arith in
      let inside : from < length (range_with_len 0 (length ws)) = omega (arith, length-range_with_len 0 (length ws), less) in
      let holds : in_window (drop from ws) ≡ true = list_all_at (is_among (take (reach + 1) (drop from ws))) [] words (λ k lt.
      let found = near.each k lt in
      let back : from + (found.0 - from) ≡ found.0 = omega (arith, found.2, some) in
      let room : from + (found.0 - from) < length ws = omega (arith, back, found.1, within) in
      let near_enough : found.0 - from < reach + 1 = omega (arith, found.1) in
      among_at from (found.0 - from) (get_or words k []) near_enough room (ap (λ (i : ℕ). bytes_eq (get_or ws i []) (get_or words k [])) back ∙ found.3)) in
      list_any_at (λ (place : ℕ). in_window (drop place ws)) (range_with_len 0 (length ws)) from 0 inside (ap (λ (place : ℕ). in_window (drop place ws)) at ∙ holds)

  -- a window that has all words ends at a number that is near
  window_near : (place : ℕ) → place < length ws → in_window (drop place ws) ≡ true → AreNear ws words reach (min (place + reach) (length ws - 1) + 1)
  window_near place less holds = record {
    some = omega arith;
    each = λ k lt.
        let w = get_or words k [] in
        let xs = take (reach + 1) (drop place ws) in
        let found = any_place (λ (v : List ℕ). bytes_eq v w) [] xs (all_each (is_among xs) [] words holds k lt) in
        let long = length-take (reach + 1) (drop place ws) in
        let left = length-drop place ws in
        let inside : found.0 < reach + 1 = omega (arith, found.1, long) in
        let room : place + found.0 < length ws = omega (arith, found.1, long, left) in
        let at : get_or xs found.0 [] ≡ get_or ws (place + found.0) [] = get_or-take (reach + 1) (drop place ws) found.0 [] inside ∙ get_or-drop place ws found.0 [] in
        (place + found.0, omega (arith, inside, room), omega arith, ap (λ (v : List ℕ). bytes_eq v w) (sym at) ∙ found.2);
  }

  pub near_none : ((number : ℕ) → number ≤ length ws → AreNear ws words reach number → ⊥) → from_some_place ws in_window ≡ false
  near_none none =
      ⊎_elim
      (λ (holds : from_some_place ws in_window ≡ true).
      let found = any_place (λ (place : ℕ). in_window (drop place ws)) 0 (range_with_len 0 (length ws)) holds in
      let less : found.0 < length ws = omega (arith, found.1, length-range_with_len 0 (length ws)) in
      let at : get_or (range_with_len 0 (length ws)) found.0 0 ≡ found.0 = get_or-range_with_len 0 (length ws) found.0 0 less ∙ omega arith in
      absurd (none (min (found.0 + reach) (length ws - 1) + 1) (omega (arith, less)) (window_near found.0 less (ap (λ (place : ℕ). in_window (drop place ws)) (sym at) ∙ found.2))))
      (λ fails. fails)
      (cases_Bool (from_some_place ws in_window))

-- ---- the walk

-- the words before a number are passed: their last numbers are noted, and up to there none is near
pub record IsPassing (text : List ℕ) (ws words : List (List ℕ)) (reach : ℕ) (left : List Span) (number : ℕ) (lasts : List ℕ) : Type 0 where
  pub left_is : lowered_words text left ≡ drop number ws
  pub lie : LieIn text left
  pub long : length lasts ≡ length words
  pub lasts_are : (k : ℕ) → k < length words → LastIs ws (get_or words k []) number (get_or lasts k 0)
  pub none : (j : ℕ) → j ≤ number → AreNear ws words reach j → ⊥

module _ (text : List ℕ) (ws words : List (List ℕ)) (reach : ℕ) where
  pub passing_first : (left : List Span) (lasts : List ℕ) → lowered_words text left ≡ ws → LieIn text left → length lasts ≡ length words → ((k : ℕ) → k < length words → get_or lasts k 0 ≡ 0) → IsPassing text ws words reach left 0 lasts
  passing_first left lasts all lie long zeros = record {
    left_is = all;
    lie = lie;
    long = long;
    lasts_are = λ k lt. subst (LastIs ws (get_or words k []) 0) (sym (zeros k lt)) (last_first ws (get_or words k []));
    none = λ j le near. let some = near.some in omega (arith, le, some);
  }

  -- the next word is the one with the next number
  pub next_word : (left rest : List Span) (span : Span) (number : ℕ) (lasts : List ℕ) → left ≡ span ∷ rest → IsPassing text ws words reach left number lasts
      → (number < length ws) × (get_or ws number [] ≡ lowered (bytes_of text span)) × (lowered_words text rest ≡ drop (number + 1) ws)
  next_word left rest span number lasts split p =
      let is : lowered (bytes_of text span) ∷ lowered_words text rest ≡ drop number ws = sym (ap (lowered_words text) split) ∙ p.left_is in
      let within : number < length ws = omega (arith, ap length is, length-drop number ws) in
      let cut : drop number ws ≡ get_or ws number [] ∷ drop (number + 1) ws = drop_more ws number [] within in
      (within, cc, cc)

  -- what a word's note makes of the last numbers
  abbrev pub Noted : List ℕ → ℕ → List ℕ → List ℕ → Type 0
  Noted found number lasts lasts' = (k : ℕ) → k < length words → get_or lasts' k 0 ≡ cond (bytes_eq found (get_or words k [])) number (get_or lasts k 0)

  noted_lasts : (span : Span) (number : ℕ) (lasts lasts' : List ℕ) → get_or ws number [] ≡ lowered (bytes_of text span) → Noted (lowered (bytes_of text span)) (number + 1) lasts lasts'
      → ((k : ℕ) → k < length words → LastIs ws (get_or words k []) number (get_or lasts k 0))
      → (k : ℕ) → k < length words → LastIs ws (get_or words k []) (number + 1) (get_or lasts' k 0)
  noted_lasts span number lasts lasts' here noted are k lt =
      last_more ws (get_or words k []) number (get_or lasts k 0) (get_or lasts' k 0) (are k lt)
      (noted k lt ∙ ap (λ (v : List ℕ). cond (bytes_eq v (get_or words k [])) (number + 1) (get_or lasts k 0)) (sym here))

  pub passing_found : (left rest : List Span) (span : Span) (number : ℕ) (lasts lasts' : List ℕ) → left ≡ span ∷ rest → IsPassing text ws words reach left number lasts
      → length lasts' ≡ length words → Noted (lowered (bytes_of text span)) (number + 1) lasts lasts' → list_all (nat_le (window_start (number + 1) reach)) lasts' ≡ true
      → true ≡ from_some_place ws (in_window ws words reach)
  passing_found left rest span number lasts lasts' split p long noted h =
      let next = next_word left rest span number lasts split p in
      sym (near_found ws words reach (number + 1) (omega (arith, next.0)) (near_by_last ws words reach (number + 1) lasts' (omega arith) long (noted_lasts span number lasts lasts' next.1 noted p.lasts_are) h))

  passing_more : (left rest : List Span) (span : Span) (number : ℕ) (lasts lasts' : List ℕ) → left ≡ span ∷ rest → IsPassing text ws words reach left number lasts
      → length lasts' ≡ length words → Noted (lowered (bytes_of text span)) (number + 1) lasts lasts' → (AreNear ws words reach (number + 1) → ⊥)
      → IsPassing text ws words reach rest (number + 1) lasts'
  passing_more left rest span number lasts lasts' split p long noted far =
      let next = next_word left rest span number lasts split p in
      record {
        left_is = next.2;
        lie = lie_rest text left rest span split p.lie;
        long = long;
        lasts_are = noted_lasts span number lasts lasts' next.1 noted p.lasts_are;
        none = λ j le near.
            ⊎_elim
            (λ (before : j < number + 1). p.none j (omega (arith, before)) near)
            (λ (past : number + 1 ≤ j). let here : j ≡ number + 1 = omega (arith, past, le) in far (subst (AreNear ws words reach) here near))
            (cases_lt j (number + 1));
      }

  pub passing_far : (left rest : List Span) (span : Span) (number : ℕ) (lasts lasts' : List ℕ) → left ≡ span ∷ rest → IsPassing text ws words reach left number lasts
      → length lasts' ≡ length words → Noted (lowered (bytes_of text span)) (number + 1) lasts lasts' → list_all (nat_le (window_start (number + 1) reach)) lasts' ≡ false
      → IsPassing text ws words reach rest (number + 1) lasts'
  passing_far left rest span number lasts lasts' split p long noted fails =
      let next = next_word left rest span number lasts split p in
      passing_more left rest span number lasts lasts' split p long noted
      (λ near. false≢true (sym fails ∙ last_by_near ws words reach (number + 1) lasts' long (noted_lasts span number lasts lasts' next.1 noted p.lasts_are) near))

  -- a word that is none of them makes nothing near that was not
  unmet_far : (number : ℕ) (found : List ℕ) → get_or ws number [] ≡ found → 0 < length words → list_any (bytes_eq found) words ≡ false → (AreNear ws words reach number → ⊥) → AreNear ws words reach (number + 1) → ⊥
  unmet_far number found here some unmet far near =
      let before : (k : ℕ) → k < length words → (i : ℕ) × (i < number) × (number ≤ i + 1 + reach) × (bytes_eq (get_or ws i []) (get_or words k []) ≡ true) = λ k lt.
      let at = near.each k lt in
      let earlier : at.0 < number = ⊎_elim
      (λ (e : at.0 ≡ number).
      let same : bytes_eq found (get_or words k []) ≡ true = ap (λ (v : List ℕ). bytes_eq v (get_or words k [])) (sym here) ∙ ap (λ (i : ℕ). bytes_eq (get_or ws i []) (get_or words k [])) (sym e) ∙ at.3 in
      absurd (false≢true (sym unmet ∙ list_any_at (bytes_eq found) words k [] lt same)))
      (λ (ne : at.0 ≡ number → ⊥). omega (arith, at.1, ne))
      (cases_eq at.0 number) in
      (at.0, earlier, omega (arith, at.2), at.3) in
      let first = before 0 some in
      far (record { some = omega (arith, first.1); each = before })

  pub passing_unmet : (left rest : List Span) (span : Span) (number : ℕ) (lasts lasts' : List ℕ) → left ≡ span ∷ rest → IsPassing text ws words reach left number lasts
      → length lasts' ≡ length words → Noted (lowered (bytes_of text span)) (number + 1) lasts lasts' → 0 < length words → list_any (bytes_eq (lowered (bytes_of text span))) words ≡ false
      → IsPassing text ws words reach rest (number + 1) lasts'
  passing_unmet left rest span number lasts lasts' split p long noted some unmet =
      let next = next_word left rest span number lasts split p in
      passing_more left rest span number lasts lasts' split p long noted
      (unmet_far number (lowered (bytes_of text span)) next.1 some unmet (p.none number (omega arith)))

  pub passing_all : (left : List Span) (number : ℕ) (lasts : List ℕ) → left ≡ [] → IsPassing text ws words reach left number lasts → false ≡ from_some_place ws (in_window ws words reach)
  passing_all left number lasts none p =
      let gone : drop number ws ≡ [] = sym p.left_is ∙ ap (lowered_words text) none in
      let past : length ws ≤ number = omega (arith, ap length gone, length-drop number ws) in
      sym (near_none ws words reach (λ j le near. p.none j (omega (arith, past, le)) near))
