-- What is read is spelled so, and what is spelled so is read: numbers, texts and lists of them.
use Rattle.std.proofs.Common.{◌≡◌, ℕ, suc, ◌+◌, ◌^◌, ◌<◌, ◌≤◌, Bool, true, false, cond, eqb, ltb, List, [], ◌∷◌, ◌++◌, length, get_or, take, drop, Option, Some, None, refl, sym, ap, subst, ◌∙◌, append_assoc, arith, inl, inr}
use Rattle.std.specs.Int.{Width, w16, w32, w64, byte_len, from_be_bytes, to_be_bytes, is_in_range}
use Rattle.std.proofs.lemmas.Bool.{cases_lt, eqb-true, eq-eqb, ltb-false, le-ltb, leb-true, le-leb, and_parts}
use Rattle.std.proofs.lemmas.List.{take_at, drop_at, take-append-drop, length-append, length-take, get_or-drop, get_or-take, get_or_past}
use Rattle.std.proofs.lemmas.Nat.{be_bytes_2, be_bytes_4, be_bytes_8, from_be_bytes-to_be_bytes_2, from_be_bytes-to_be_bytes_4, from_be_bytes-to_be_bytes_8}
use Rattle.fts_codec.specs.Reading.{first_at, behind_at, number_at, piece_at}
use Rattle.fts_codec.specs.Fields.{only, tested}
use Rattle.fts_codec.specs.Grammar.{one_byte, IsFrom}

abbrev pub IsBytes : List ℕ → Type 0
IsBytes bytes = (i : ℕ) → get_or bytes i 0 < 256

pub bytes-drop : (n : ℕ) (bytes : List ℕ) → IsBytes bytes → IsBytes (drop n bytes)
bytes-drop n bytes h i = rw get_or-drop (h (n + i))

bytes-take : (n : ℕ) (bytes : List ℕ) → IsBytes bytes → IsBytes (take n bytes)
bytes-take n bytes h i =
    elim (cases_lt i n) [
      | inl lt ↦ rw (get_or-take n bytes i 0 lt) (h i)
      | inr le ↦ rw (get_or_past (take n bytes) i 0 (omega (arith, length-take n bytes))) (omega arith)
    ]

-- tests that did not fail
pub passed : {A : Type 0} (b : Bool) (x y : A) → cond b (Some x) None ≡ Some y → (b ≡ true) × (x ≡ y)
passed true x y e = (refl, cc)
passed false x y e = absurd cc

pub not_short : {A : Type 0} (b : Bool) (x y : A) → cond b None (Some x) ≡ Some y → (b ≡ false) × (x ≡ y)
not_short true x y e = absurd cc
not_short false x y e = (refl, cc)

abbrev found : {A : Type 0} → A → Option A
found x = Some x

pub some_is : {A : Type 0} (x y : A) → found x ≡ found y → x ≡ y
some_is x y e = cc

-- what a reader took from the front
abbrev pub Takes : List ℕ → List ℕ → List ℕ → Type 0
Takes bytes text rest = (bytes ≡ text ++ rest) × IsBytes rest

pub takes_both : (a x b y c : List ℕ) → Takes a x b → Takes b y c → Takes a (x ++ y) c
takes_both a x b y c p q = (p.0 ∙ ap (λ (t : List ℕ). x ++ t) q.0 ∙ sym (append_assoc x y c), q.1)

same_is : (n byte : ℕ) → n ≡ byte → eqb n byte ≡ true
same_is n byte is = eq-eqb n byte is

-- a byte that is given
pub byte_takes : (byte : ℕ) (bytes rest : List ℕ) → IsBytes bytes → behind_at byte bytes ≡ Some rest → Takes bytes (byte ∷ []) rest
byte_takes byte [] rest fits e = absurd cc
byte_takes byte (first ∷ bytes) rest fits e =
    let g = passed (eqb first byte) bytes rest e in
    (ap (λ (b : ℕ). b ∷ bytes) (eqb-true first byte g.0) ∙ ap (λ (r : List ℕ). byte ∷ r) g.1, λ i. rw (← g.1) (fits (suc i)))

pub byte_again : (byte n : ℕ) (rest : List ℕ) → n ≡ byte → behind_at byte (n ∷ rest) ≡ Some rest
byte_again byte n rest is = rw (same_is n byte is) refl

-- a reader gives the values that are spelled so, and all of these
pub record Spells {X : Type 0} (f : X → List ℕ) (Is : X → Type 0) (one : List ℕ → Option (X × List ℕ)) : Type 0 where
  pub takes : (bytes : List ℕ) (x : X) (rest : List ℕ) → IsBytes bytes → one bytes ≡ Some (x, rest) → Is x × Takes bytes (f x) rest
  pub again : (x : X) (rest : List ℕ) → Is x → one (f x ++ rest) ≡ Some (x, rest)

-- numbers of a width
pub record IsWide (w : Width) (limit : ℕ) : Type 0 where
  pub len : (n : ℕ) → length (to_be_bytes w n) ≡ byte_len w
  pub back : (bytes : List ℕ) → length bytes ≡ byte_len w → IsBytes bytes → to_be_bytes w (from_be_bytes w bytes) ≡ bytes
  pub again : (n : ℕ) → n < limit → from_be_bytes w (to_be_bytes w n) ≡ n
  pub below : (bytes : List ℕ) → IsBytes bytes → from_be_bytes w bytes < limit

wide16 : IsWide w16 (2 ^ 16)
wide16 = record {
  len = λ n. refl;
  back = λ bytes len fits. be_bytes_2 bytes _ len fits refl;
  again = λ n lt. from_be_bytes-to_be_bytes_2 n lt;
  below = λ bytes fits. omega (arith, fits 0, fits 1);
}

wide32 : IsWide w32 (2 ^ 32)
wide32 = record {
  len = λ n. refl;
  back = λ bytes len fits. be_bytes_4 bytes _ len fits refl;
  again = λ n lt. from_be_bytes-to_be_bytes_4 n lt;
  below = λ bytes fits. omega (arith, fits 0, fits 1, fits 2, fits 3);
}

wide64 : IsWide w64 (2 ^ 64)
wide64 = record {
  len = λ n. refl;
  back = λ bytes len fits. be_bytes_8 bytes _ len fits refl;
  again = λ n lt. from_be_bytes-to_be_bytes_8 n lt;
  below = λ bytes fits. omega (arith, fits 0, fits 1, fits 2, fits 3, fits 4, fits 5, fits 6, fits 7);
}

number : (w : Width) (limit : ℕ) → IsWide w limit → Spells (to_be_bytes w) (λ n. n < limit) (number_at w)
number w limit wide = record {
  takes = λ bytes n rest fits e.
      let size = byte_len w in
      let g = not_short (ltb (length bytes) size) (from_be_bytes w (take size bytes), drop size bytes) (n, rest) e in
      let long : size ≤ length bytes = ltb-false _ _ g.0 in
      let front : to_be_bytes w (from_be_bytes w (take size bytes)) ≡ take size bytes = wide.back (take size bytes) (omega (arith, length-take size bytes)) (bytes-take size bytes fits) in
      let parts : bytes ≡ to_be_bytes w (from_be_bytes w (take size bytes)) ++ drop size bytes = sym (take-append-drop size bytes) ∙ ap (λ (xs : List ℕ). xs ++ drop size bytes) (sym front) in
      subst (λ (p : ℕ × List ℕ). (p.0 < limit) × Takes bytes (to_be_bytes w p.0) p.1) g.1 (wide.below (take size bytes) (bytes-take size bytes fits), (parts, bytes-drop size bytes fits));
  again = λ n rest lt.
      let len = wide.len n in
      let long : ltb (length (to_be_bytes w n ++ rest)) (byte_len w) ≡ false = le-ltb _ _ (omega (arith, length-append (to_be_bytes w n) rest)) in
      rw (long, take_at (to_be_bytes w n) rest (byte_len w) len, drop_at (to_be_bytes w n) rest (byte_len w) len, wide.again n lt) refl;
}

pub number16 : Spells (to_be_bytes w16) (λ n. n < 2 ^ 16) (number_at w16)
number16 = number w16 (2 ^ 16) wide16

pub number32 : Spells (to_be_bytes w32) (λ n. n < 2 ^ 32) (number_at w32)
number32 = number w32 (2 ^ 32) wide32

pub number64 : Spells (to_be_bytes w64) (λ n. n < 2 ^ 64) (number_at w64)
number64 = number w64 (2 ^ 64) wide64

-- so many bytes
pub piece_takes : (count : ℕ) (bytes piece rest : List ℕ) → IsBytes bytes → piece_at count bytes ≡ Some (piece, rest) → (length piece ≡ count) × Takes bytes piece rest
piece_takes count bytes piece rest fits e =
    let g = not_short (ltb (length bytes) count) (take count bytes, drop count bytes) (piece, rest) e in
    let long : count ≤ length bytes = ltb-false _ _ g.0 in
    subst (λ (p : List ℕ × List ℕ). (length p.0 ≡ count) × Takes bytes p.0 p.1) g.1 (omega (arith, length-take count bytes), (sym (take-append-drop count bytes), bytes-drop count bytes fits))

pub piece_again : (piece rest : List ℕ) → piece_at (length piece) (piece ++ rest) ≡ Some (piece, rest)
piece_again piece rest =
    let long : ltb (length (piece ++ rest)) (length piece) ≡ false = le-ltb _ _ (omega (arith, length-append piece rest)) in
    rw (long, take_at piece rest (length piece) refl, drop_at piece rest (length piece) refl) refl

-- ---- readers of fields

pub piece_spells : (count : ℕ) → Spells (λ piece. piece) (λ piece. length piece ≡ count) (piece_at count)
piece_spells count = record {
  takes = λ bytes piece rest fits e. piece_takes count bytes piece rest fits e;
  again = λ piece rest is. ap (λ (n : ℕ). piece_at n (piece ++ rest)) (sym is) ∙ piece_again piece rest;
}

first_takes : (bytes : List ℕ) (n : ℕ) (rest : List ℕ) → IsBytes bytes → first_at bytes ≡ Some (n, rest) → (n < 256) × Takes bytes (one_byte n) rest
first_takes [] n rest fits e = absurd cc
first_takes (first ∷ bytes) n rest fits e =
    subst (λ (p : ℕ × List ℕ). (p.0 < 256) × Takes (first ∷ bytes) (one_byte p.0) p.1) (some_is (first, bytes) (n, rest) e) (fits 0, (refl, λ i. fits (suc i)))

pub first_spells : Spells one_byte (λ n. n < 256) first_at
first_spells = record { takes = first_takes; again = λ n rest is. refl }

-- values that pass a test
module _ {X : Type 0} (f : X → List ℕ) (Is : X → Type 0) (one : List ℕ → Option (X × List ℕ)) (spells : Spells f Is one) (test : X → Bool) where
  tested_takes : (bytes : List ℕ) (x : X) (rest : List ℕ) → IsBytes bytes → tested test one bytes ≡ Some (x, rest) → (Is x × (test x ≡ true)) × Takes bytes (f x) rest
  tested_takes bytes x rest fits e = by (one bytes) refl e
    where
      by : (read : Option (X × List ℕ)) → one bytes ≡ read → only test read ≡ Some (x, rest) → (Is x × (test x ≡ true)) × Takes bytes (f x) rest
      by (Some y) at e =
          let g = passed (test y.0) y (x, rest) e in
          let read = spells.takes bytes y.0 y.1 fits at in
          subst (λ (p : X × List ℕ). (Is p.0 × (test p.0 ≡ true)) × Takes bytes (f p.0) p.1) g.1 ((read.0, g.0), read.1)
      by None at e = absurd cc

  tested_again : (x : X) (rest : List ℕ) → Is x × (test x ≡ true) → tested test one (f x ++ rest) ≡ Some (x, rest)
  tested_again x rest is = ap (only test) (spells.again x rest is.0) ∙ rw is.1 refl

  pub tested_spells : Spells f (λ x. Is x × (test x ≡ true)) (tested test one)
  tested_spells = record { takes = tested_takes; again = tested_again }

-- what values are, said in another way
pub spells_as : {X : Type 0} (f : X → List ℕ) (Is May : X → Type 0) (one : List ℕ → Option (X × List ℕ)) → ((x : X) → Is x → May x) → ((x : X) → May x → Is x)
    → Spells f Is one → Spells f May one
spells_as f Is May one to from spells = record {
  takes = λ bytes x rest fits e. let read = spells.takes bytes x rest fits e in (to x read.0, read.1);
  again = λ x rest may. spells.again x rest (from x may);
}

-- numbers of a range
pub in_range : (low high n : ℕ) → IsFrom low high n → is_in_range low high n ≡ true
in_range low high n is = rw (le-leb low n is.0, le-leb n high is.1) refl

pub range_is : (low high n : ℕ) → is_in_range low high n ≡ true → IsFrom low high n
range_is low high n e = let parts = and_parts _ _ e in (leb-true low n parts.0, leb-true n high parts.1)

pub spells_from : (f : ℕ → List ℕ) (one : List ℕ → Option (ℕ × List ℕ)) (limit low high : ℕ) → high < limit → Spells f (λ n. n < limit) one
    → Spells f (IsFrom low high) (tested (is_in_range low high) one)
spells_from f one limit low high within spells =
    spells_as f (λ n. (n < limit) × (is_in_range low high n ≡ true)) (IsFrom low high) (tested (is_in_range low high) one)
    (λ n is. range_is low high n is.1) (λ n is. (omega (arith, within, is.1), in_range low high n is))
    (tested_spells f (λ n. n < limit) one spells (is_in_range low high))
