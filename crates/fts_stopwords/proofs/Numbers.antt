-- A word that stands in a text is compared with the default stopwords by its number.
use Rattle.std.proofs.Common.{◌≡◌, ℕ, ◌+◌, ◌-◌, ◌*◌, ◌/◌, ◌%◌, ◌<◌, ◌≤◌, ◌^◌, min, Bool, true, false, not, cond, ltb, leb, eqb, ◌&&◌, ◌||◌, List, [], ◌∷◌, map, length, get_or, take, drop, replicate, ◌++◌, bit_and, bit_or, Fits, w8, sym, refl, ap, ap₂, ◌∙◌, subst, ⊎_elim, arith}
use Rattle.std.specs.Prelude.{◌==◌}
use Rattle.std.specs.Int.{w64, to_le_bytes, from_le_bytes}
use Rattle.std.specs.List.{list_all, list_any, range_with_len}
use Rattle.std.specs.Str.{bytes_eq}
use Rattle.std.specs.Char.{to_ascii_lowercase}
use Rattle.std.proofs.lemmas.Bool.{false≢true, cases_Bool, cases_lt, or_cases, and_parts, eqb-true, eq-eqb, agree_below, agree_below_at, ltb-true, lt-ltb, le-ltb, leb-true, cond_below, cond_above}
use Rattle.std.proofs.lemmas.List.{length-map, length-drop, take_all, get_or_past, get_or-drop, get_or_append_left, get_or-append_right, get_or-replicate}
use Rattle.std.proofs.lemmas.List.FromFn.{get_or-map-range_with_len}
use Rattle.std.proofs.lemmas.Grind.{same_number_lists}
use Rattle.std.proofs.lemmas.Nat.{or_lt, and_shr, or_shr, and_mod, or_mod, le_bytes_8, from_le_bytes-to_le_bytes_8}
use Rattle.std.proofs.lemmas.Simd.{length-chunk, get_or-chunk}
use lib.Lanes.{chunk}
use native.Mathlib.Nat.{div-one, zero-add}
use Rattle.fts_words.specs.Byte.{lowered}
use Rattle.fts_words.specs.Stopwords.{default_stopwords}
use Rattle.fts_words.specs.Order.{is_among}
use Rattle.fts_stopwords.specs.Number.{number_of, is_stopword_number, place_of, number_at, fronts, letter_at}
use Rattle.fts_stopwords.proofs.Listed.{tests_agree, lowered_at}

-- ---- the number at its place

has_place : List ℕ → Bool
has_place word = number_at (place_of (number_of word)) == number_of word

all_have_places : (words : List (List ℕ)) (number : ℕ) → list_all has_place words ≡ true → list_any (λ w. number_of w == number) words ≡ true → (number_at (place_of number) == number) ≡ true
unfolding has_place
all_have_places [] number all h = absurd (false≢true h)
all_have_places (w ∷ ws) number all h =
    let parts = and_parts (has_place w) (list_all has_place ws) all in
    ⊎_elim
    (λ (here : (number_of w == number) ≡ true). subst (λ (n : ℕ). (number_at (place_of n) == n) ≡ true) (eqb-true _ _ here) parts.0)
    (λ (later : list_any (λ w. number_of w == number) ws ≡ true). all_have_places ws number parts.1 later)
    (or_cases (number_of w == number) _ h)

default_has_place : (number : ℕ) → is_stopword_number number ≡ true → (number_at (place_of number) == number) ≡ true
unfolding default_stopwords has_place
default_has_place number h = all_have_places default_stopwords number refl h

sound_below : agree_below (λ place. is_stopword_number (number_at place)) (λ _. true) 64 ≡ true
unfolding default_stopwords
sound_below = refl

-- the number at its place decides whether a number is that of a default stopword
pub decided_by_place : (number place : ℕ) → place ≡ place_of number → place < 64 → (number_at place == number) ≡ is_stopword_number number
decided_by_place number place is within =
    ⊎_elim
    (λ (yes : (number_at place == number) ≡ true).
    let sound = agree_below_at (λ place. is_stopword_number (number_at place)) (λ _. true) 64 place sound_below within in
    yes ∙ sym (subst (λ (n : ℕ). is_stopword_number n ≡ true) (eqb-true _ _ yes) sound))
    (λ (no : (number_at place == number) ≡ false).
    no ∙ ⊎_elim
    (λ (listed : is_stopword_number number ≡ true).
    absurd (false≢true (sym no ∙ ap (λ p. number_at p == number) is ∙ default_has_place number listed)))
    (λ (other : is_stopword_number number ≡ false). sym other)
    (cases_Bool (is_stopword_number number)))
    (cases_Bool (number_at place == number))

-- ---- the number of a word in a text

-- eight bytes that were read from a text
pub byte_is_read : (text : List ℕ) (from n : ℕ) → from + 8 ≤ length text → ((k : ℕ) → Fits w8 (get_or text k 0)) → n ≡ from_le_bytes w64 (chunk from 8 text)
    → (i : ℕ) → i < 8 → get_or (to_le_bytes w64 n) i 0 ≡ get_or text (from + i) 0
byte_is_read text from n room fits is i less =
    let long = length-chunk from 8 text room in
    let small : (k : ℕ) → get_or (chunk from 8 text) k 0 < 256 = λ k.
    ⊎_elim (λ (inside : k < 8). subst (λ x. x < 256) (sym (get_or-chunk from 8 text k 0 inside)) (fits (from + k)).fits)
    (λ (behind : 8 ≤ k). subst (λ x. x < 256) (sym (get_or_past (chunk from 8 text) k 0 (omega (arith, long)))) (omega arith))
    (cases_lt k 8) in
    ap (λ bs. get_or bs i 0) (le_bytes_8 (chunk from 8 text) n long small is) ∙ get_or-chunk from 8 text i 0 less

bytes_by_place : (n : ℕ) → to_le_bytes w64 n ≡ map (λ i. n / 2 ^ (8 * i) % 2 ^ 8) (range_with_len 0 8)
bytes_by_place n = ap (λ m. m % 2 ^ 8 ∷ map (λ i. n / 2 ^ (8 * i) % 2 ^ 8) (range_with_len 1 7)) (sym (div-one n))

byte_at : (n i : ℕ) → i < 8 → get_or (to_le_bytes w64 n) i 0 ≡ n / 2 ^ (8 * i) % 2 ^ 8
byte_at n i less = ap (λ bs. get_or bs i 0) (bytes_by_place n) ∙ get_or-map-range_with_len (λ i. n / 2 ^ (8 * i) % 2 ^ 8) 0 8 i i 0 less (omega arith)

byte_at-and : (a b i : ℕ) → i < 8 → get_or (to_le_bytes w64 (bit_and a b)) i 0 ≡ bit_and (get_or (to_le_bytes w64 a) i 0) (get_or (to_le_bytes w64 b) i 0)
byte_at-and a b i less =
    byte_at (bit_and a b) i less ∙ ap (λ x. x % 2 ^ 8) (and_shr a b (8 * i)) ∙ and_mod (a / 2 ^ (8 * i)) (b / 2 ^ (8 * i)) 8
    ∙ sym (ap₂ bit_and (byte_at a i less) (byte_at b i less))

byte_at-or : (a b i : ℕ) → i < 8 → get_or (to_le_bytes w64 (bit_or a b)) i 0 ≡ bit_or (get_or (to_le_bytes w64 a) i 0) (get_or (to_le_bytes w64 b) i 0)
byte_at-or a b i less =
    byte_at (bit_or a b) i less ∙ ap (λ x. x % 2 ^ 8) (or_shr a b (8 * i)) ∙ or_mod (a / 2 ^ (8 * i)) (b / 2 ^ (8 * i)) 8
    ∙ sym (ap₂ bit_or (byte_at a i less) (byte_at b i less))

all_ones : (x : ℕ) → x < 256 → bit_and x 255 ≡ x
all_ones x less = eqb-true _ _ (agree_below_at (λ x. eqb (bit_and x 255) x) (λ _. true) 256 x refl less)

no_ones : (x : ℕ) → x < 256 → bit_and x 0 ≡ 0
no_ones x less = eqb-true _ _ (agree_below_at (λ x. eqb (bit_and x 0) 0) (λ _. true) 256 x refl less)

kept : (x : ℕ) (b : Bool) → x < 256 → bit_and x (cond b 255 0) ≡ cond b x 0
kept x true less = all_ones x less
kept x false less = no_ones x less

-- the bit of lower-case letters in each byte
abbrev case_bits : ℕ
case_bits = 2314885530818453536

case_bit_at : (i : ℕ) → i < 8 → get_or (to_le_bytes w64 case_bits) i 0 ≡ 32
case_bit_at i less = eqb-true _ _ (agree_below_at (λ i. eqb (get_or (to_le_bytes w64 case_bits) i 0) 32) (λ _. true) 8 i refl less)

is_front_at : ℕ → ℕ → Bool
is_front_at few i = eqb (get_or (to_le_bytes w64 (get_or fronts few 0)) i 0) (cond (ltb i few) 255 0)

front_at : (few i : ℕ) → few < 9 → i < 8 → get_or (to_le_bytes w64 (get_or fronts few 0)) i 0 ≡ cond (ltb i few) 255 0
unfolding is_front_at
front_at few i within less =
    let at = agree_below_at (λ few. agree_below (is_front_at few) (λ _. true) 8) (λ _. true) 9 few refl within in
    eqb-true _ _ (agree_below_at (is_front_at few) (λ _. true) 8 i at less)

in_front : (i few len : ℕ) → few ≡ min len 8 → i < 8 → ltb i few ≡ ltb i len
in_front i few len least less =
    ⊎_elim (λ (inside : i < len). lt-ltb i few (omega (arith, least)) ∙ sym (lt-ltb i len inside))
    (λ (behind : len ≤ i). le-ltb i few (omega (arith, least)) ∙ sym (le-ltb i len behind))
    (cases_lt i len)

-- the number of a word, from eight bytes
pub letter_is_kept : (text : List ℕ) (from len few n : ℕ) → ((k : ℕ) → Fits w8 (get_or text k 0)) → ((i : ℕ) → i < 8 → get_or (to_le_bytes w64 n) i 0 ≡ get_or text (from + i) 0)
    → (masks : List ℕ) → masks ≡ fronts → few ≡ min len 8 → (i : ℕ) → i < 8
    → get_or (to_le_bytes w64 (bit_and (bit_or n case_bits) (get_or masks few 0))) i 0 ≡ letter_at text from len i
letter_is_kept text from len few n fits read masks these least i less =
    byte_at-and (bit_or n case_bits) (get_or masks few 0) i less
    ∙ ap₂ bit_and (byte_at-or n case_bits i less ∙ ap₂ bit_or (read i less) (case_bit_at i less))
    (ap (λ ms. get_or (to_le_bytes w64 (get_or ms few 0)) i 0) these ∙ front_at few i (omega (arith, least)) less)
    ∙ kept _ (ltb i few) (or_lt 8 (get_or text (from + i) 0) 32 (fits (from + i)).fits (omega arith))
    ∙ ap (λ b. cond b (bit_or (get_or text (from + i) 0) 32) 0) (in_front i few len least less)

-- ---- the end of a text, with zeros behind it

abbrev zeros : List ℕ
zeros = replicate 8 0

zero_at : (i : ℕ) → get_or zeros i 0 ≡ 0
zero_at i = ⊎_elim (λ (inside : i < 8). get_or-replicate 8 i 0 0 inside) (λ (behind : 8 ≤ i). get_or_past zeros i 0 behind) (cases_lt i 8)

module _ (text end : List ℕ) (from : ℕ) (start : from ≤ length text) (copied : end ≡ take (length text - from) (drop from text)) where
  is_rest : end ≡ drop from text
  is_rest = copied ∙ take_all (length text - from) (drop from text) (omega (arith, length-drop from text))

  end_at : (few i : ℕ) → get_or (end ++ drop few zeros) i 0 ≡ get_or text (from + i) 0
  end_at few i =
      ⊎_elim
      (λ (inside : i < length end). get_or_append_left end _ 0 i inside ∙ ap (λ xs. get_or xs i 0) is_rest ∙ get_or-drop from text i 0)
      (λ (behind : length end ≤ i).
      get_or-append_right end _ (length end) i 0 refl behind ∙ get_or-drop few zeros (i - length end) 0 ∙ zero_at (few + (i - length end))
      ∙ sym (get_or_past text (from + i) 0 (omega (arith, ap length is_rest, length-drop from text))))
      (cases_lt i (length end))

  -- a word of the end has the same letters there
  pub letter_of_end : (few len i : ℕ) → letter_at (end ++ drop few zeros) 0 len i ≡ letter_at text from len i
  letter_of_end few len i =
      ap (λ k. cond (ltb i len) (bit_or (get_or (end ++ drop few zeros) k 0) 32) 0) (zero-add i) ∙ ap (λ x. cond (ltb i len) (bit_or x 32) 0) (end_at few i)

-- ---- a word of lower-case letters

abbrev is_letter : ℕ → Bool
is_letter byte = leb 97 byte && leb byte 122

letter_bounds : (byte : ℕ) → is_letter byte ≡ true → (97 ≤ byte) × (byte ≤ 122)
letter_bounds byte h = let parts = and_parts (leb 97 byte) (leb byte 122) h in (leb-true _ _ parts.0, leb-true _ _ parts.1)

-- to lower a letter is to set its bit, where that gives a letter
lower_or : (x : ℕ) → x < 256 → is_letter (bit_or x 32) ≡ true → to_ascii_lowercase x ≡ bit_or x 32
lower_or x less h =
    ⊎_elim (λ (no : not (is_letter (bit_or x 32)) ≡ true). absurd (false≢true (sym (ap not h) ∙ no))) (λ same. eqb-true _ _ same)
    (or_cases (not (is_letter (bit_or x 32))) _ (agree_below_at (λ x. not (is_letter (bit_or x 32)) || eqb (to_ascii_lowercase x) (bit_or x 32)) (λ _. true) 256 x refl less))

or_lower : (x : ℕ) → x < 256 → is_letter (to_ascii_lowercase x) ≡ true → bit_or x 32 ≡ to_ascii_lowercase x
or_lower x less h =
    ⊎_elim (λ (no : not (is_letter (to_ascii_lowercase x)) ≡ true). absurd (false≢true (sym (ap not h) ∙ no))) (λ same. eqb-true _ _ same)
    (or_cases (not (is_letter (to_ascii_lowercase x))) _ (agree_below_at (λ x. not (is_letter (to_ascii_lowercase x)) || eqb (bit_or x 32) (to_ascii_lowercase x)) (λ _. true) 256 x refl less))

has_bit_5 : (x : ℕ) → x < 256 → 32 ≤ bit_or x 32
has_bit_5 x less = leb-true _ _ (agree_below_at (λ x. leb 32 (bit_or x 32)) (λ _. true) 256 x refl less)

-- the number spells the word at this place, and the word has a letter there or ends before
is_plain_at : List ℕ → ℕ → Bool
is_plain_at word i = eqb (get_or (to_le_bytes w64 (number_of word)) i 0) (get_or word i 0) && (leb (length word) i || is_letter (get_or word i 0))

-- the word has lower-case letters alone, at most seven
is_plain : List ℕ → Bool
is_plain word = leb (length word) 7 && (ltb (number_of word) (2 ^ 64) && agree_below (is_plain_at word) (λ _. true) 8)

record Plain (word : List ℕ) : Type 0 where
  short : length word ≤ 7
  fits : number_of word < 2 ^ 64
  spelled : (i : ℕ) → i < 8 → get_or (to_le_bytes w64 (number_of word)) i 0 ≡ get_or word i 0
  letter : (i : ℕ) → i < length word → is_letter (get_or word i 0) ≡ true

plain_from : (word : List ℕ) → is_plain word ≡ true → Plain word
unfolding is_plain is_plain_at
plain_from word h =
    let parts = and_parts (leb (length word) 7) _ h in
    let rest = and_parts (ltb (number_of word) (2 ^ 64)) _ parts.1 in
    let short = leb-true _ _ parts.0 in
    let at : (i : ℕ) → i < 8 → is_plain_at word i ≡ true = λ i less. agree_below_at (is_plain_at word) (λ _. true) 8 i rest.1 less in
    record {
      short = short;
      fits = ltb-true _ _ rest.0;
      spelled = λ i less. eqb-true _ _ (and_parts (eqb (get_or (to_le_bytes w64 (number_of word)) i 0) (get_or word i 0)) _ (at i less)).0;
      letter = λ i less.
          ⊎_elim (λ (past : leb (length word) i ≡ true). let over = leb-true _ _ past in absurd (omega arith)) (λ (is : is_letter (get_or word i 0) ≡ true). is)
          (or_cases (leb (length word) i) _ (and_parts (eqb (get_or (to_le_bytes w64 (number_of word)) i 0) (get_or word i 0)) _ (at i (omega arith))).1);
    }

module _ (text word : List ℕ) (from len n : ℕ) (fits : (k : ℕ) → Fits w8 (get_or text k 0)) (long : length word ≡ len)
    (stands : (i : ℕ) → i < len → get_or word i 0 ≡ get_or text (from + i) 0) (small : n < 2 ^ 64)
    (spells : (i : ℕ) → i < 8 → get_or (to_le_bytes w64 n) i 0 ≡ letter_at text from len i) where
  letter_inside : (i : ℕ) → i < len → letter_at text from len i ≡ bit_or (get_or word i 0) 32
  letter_inside i less = sym (cond_below i len (bit_or (get_or text (from + i) 0) 32) 0 less) ∙ ap (λ x. bit_or x 32) (sym (stands i less))

  letter_behind : (i : ℕ) → len ≤ i → letter_at text from len i ≡ 0
  letter_behind i past = sym (cond_above i len (bit_or (get_or text (from + i) 0) 32) 0 0 past refl)

  byte : (i : ℕ) → i < len → get_or word i 0 < 256
  byte i less = subst (λ x. x < 256) (sym (stands i less)) (fits (from + i)).fits

  low_at : (i : ℕ) → i < len → get_or (lowered word) i 0 ≡ to_ascii_lowercase (get_or word i 0)
  low_at i less = lowered_at word i (omega (arith, long))

  module _ (key : List ℕ) (plain : Plain key) where
    found : number_of key ≡ n → key ≡ lowered word
    found e =
        let at : (i : ℕ) → i < 8 → get_or key i 0 ≡ letter_at text from len i = λ i less. sym (plain.spelled i less) ∙ ap (λ m. get_or (to_le_bytes w64 m) i 0) e ∙ spells i less in
        let no_less : length key ≤ len =
        ⊎_elim
        (λ (more : len < length key).
        let low = letter_bounds (get_or key len 0) (plain.letter len more) in
        let none = at len (omega (arith, plain.short)) ∙ letter_behind len (omega arith) in absurd (omega (arith, low.0, none)))
        (λ (h : length key ≤ len). h) (cases_lt len (length key)) in
        let no_more : len ≤ length key =
        ⊎_elim
        (λ (more : length key < len).
        let set = has_bit_5 (get_or word (length key) 0) (byte (length key) more) in
        let some = at (length key) (omega (arith, plain.short)) ∙ letter_inside (length key) more in
        let none = get_or_past key (length key) 0 (omega arith) in absurd (omega (arith, set, some, none)))
        (λ (h : len ≤ length key). h) (cases_lt (length key) len) in
        same_number_lists key (lowered word) (omega (arith, long, length-map word to_ascii_lowercase, no_less, no_more))
        (λ i less.
        let inside : i < len = omega (arith, no_less) in
        let same = at i (omega (arith, plain.short)) ∙ letter_inside i inside in
        same ∙ sym (lower_or (get_or word i 0) (byte i inside) (ap is_letter (sym same) ∙ plain.letter i less)) ∙ sym (low_at i inside))

    told : key ≡ lowered word → number_of key ≡ n
    told e =
        let lens : length key ≡ len = ap length e ∙ length-map word to_ascii_lowercase ∙ long in
        let same : to_le_bytes w64 (number_of key) ≡ to_le_bytes w64 n =
        same_number_lists (to_le_bytes w64 (number_of key)) (to_le_bytes w64 n) refl
        (λ i less.
        plain.spelled i less
        ∙ ⊎_elim
        (λ (inside : i < len).
        let low = ap (λ ws. get_or ws i 0) e ∙ low_at i inside in
        low ∙ sym (or_lower (get_or word i 0) (byte i inside) (ap is_letter (sym low) ∙ plain.letter i (omega (arith, lens)))) ∙ sym (letter_inside i inside))
        (λ (behind : len ≤ i). get_or_past key i 0 (omega (arith, lens)) ∙ sym (letter_behind i behind)) (cases_lt i len)
        ∙ sym (spells i less)) in
        sym (from_le_bytes-to_le_bytes_8 (number_of key) plain.fits) ∙ ap (from_le_bytes w64) same ∙ from_le_bytes-to_le_bytes_8 n small

    one_test : (number_of key == n) ≡ bytes_eq key (lowered word)
    one_test = tests_agree _ key (lowered word) ((λ h. found (eqb-true _ _ h)), (λ e. eq-eqb _ _ (told e)))

  all_tests : (keys : List (List ℕ)) → list_all is_plain keys ≡ true → list_any (λ key. number_of key == n) keys ≡ is_among keys (lowered word)
  all_tests [] all = refl
  all_tests (key ∷ keys) all =
      let parts = and_parts (is_plain key) (list_all is_plain keys) all in
      ap₂ (λ (a b : Bool). a || b) (one_test key (plain_from key parts.0)) (all_tests keys parts.1)

  pub decided_by_number : is_stopword_number n ≡ is_among default_stopwords (lowered word)
  unfolding default_stopwords is_plain is_plain_at
  decided_by_number = all_tests default_stopwords refl
