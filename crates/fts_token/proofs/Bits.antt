-- One bit of a number as a Bool, through each operation.
use Rattle.std.proofs.Common.{◌≡◌, ◌≢◌, ℕ, zero, suc, ◌+◌, ◌-◌, ◌*◌, ◌/◌, ◌%◌, ◌^◌, ◌<◌, ◌≤◌, min, max, Bool, true, false, ◌&&◌, ◌||◌, ◌==◌, List, map, length, get_or, cond, Fits, w8, w64, refl, sym, ap, ap₂, ◌∙◌, subst, ⊎_elim, arith, mod-lt, ne_eqb}
use mir.Val.{bool_byte}
use Rattle.std.specs.Int.{bit_at, trailing_zeros}
use Rattle.std.specs.Int.Bits.{bit_and, bit_or, bit_xor}
use Rattle.std.proofs.Math.Nat.{pow-suc}
use Rattle.std.proofs.lemmas.Nat.Bits.{bit_at-lt, bit_at_lowest, bit_at-suc, bit_at_and, bit_at_or, bit_at_xor, bit_at_cat_low, bit_at_cat_high, bit_at_above, bit_at_ones_above, bit_at-zero, bit_at-pow_same, bit_at-pow_other, bit_at-trailing_zeros, same_from_bits_below}
use Rattle.std.proofs.lemmas.Nat.{shr-shr, pow_pos}
use Rattle.std.proofs.lemmas.Simd.{bit_mask_l, map-map, mask_l-mod, length-chunk, get_or-chunk}
use Rattle.std.proofs.lemmas.Bool.{agree_below, agree_below_at, cases_eq, cases_lt}
use Rattle.std.proofs.lemmas.List.{length-map, get_or-map}
use lib.Lanes.{chunk, mask_l, top}
use lib.Pow.{split}
use Rattle.fts_token.specs.Bits.{has_bit, differ, one_before, one_behind}

bit_cases : (P : ℕ → Type 0) → P 0 → P 1 → (x : ℕ) → x < 2 → P x
bit_cases P p q zero h = p
bit_cases P p q (suc zero) h = q
bit_cases P p q (suc (suc r)) h = absurd (omega arith)

two_bits : (P : ℕ → ℕ → Type 0) → P 0 0 → P 0 1 → P 1 0 → P 1 1 → (a b i : ℕ) → P (bit_at a i) (bit_at b i)
two_bits P p q r s a b i =
    bit_cases (λ x. P x (bit_at b i)) (bit_cases (P 0) p q (bit_at b i) (bit_at-lt b i)) (bit_cases (P 1) r s (bit_at b i) (bit_at-lt b i)) (bit_at a i) (bit_at-lt a i)

pub has_bit-and : (a b i : ℕ) → has_bit (bit_and a b) i ≡ (has_bit a i && has_bit b i)
unfolding has_bit
has_bit-and a b i = ap (λ n. n == 1) (bit_at_and a b i) ∙ two_bits (λ x y. (min x y == 1) ≡ ((x == 1) && (y == 1))) refl refl refl refl a b i

pub has_bit-or : (a b i : ℕ) → has_bit (bit_or a b) i ≡ (has_bit a i || has_bit b i)
unfolding has_bit
has_bit-or a b i = ap (λ n. n == 1) (bit_at_or a b i) ∙ two_bits (λ x y. (max x y == 1) ≡ ((x == 1) || (y == 1))) refl refl refl refl a b i

pub has_bit-xor : (a b i : ℕ) → has_bit (bit_xor a b) i ≡ differ (has_bit a i) (has_bit b i)
unfolding has_bit
has_bit-xor a b i = ap (λ n. n == 1) (bit_at_xor a b i) ∙ two_bits (λ x y. ((x + y) % 2 == 1) ≡ differ (x == 1) (y == 1)) refl refl refl refl a b i

pub has_bit-zero : (i : ℕ) → has_bit 0 i ≡ false
unfolding has_bit
has_bit-zero i = ap (λ n. n == 1) (bit_at-zero i)

-- a shift to the left
cut : (n i : ℕ) → i < 64 → bit_at (n % 2 ^ 64) i ≡ bit_at n i
cut n i less = sym (bit_at_cat_low (n / 2 ^ 64) 64 (n % 2 ^ 64) i less) ∙ ap (λ x. bit_at x i) (split n 64)

pub has_bit-shl : (n i : ℕ) → 1 ≤ i → i < 64 → has_bit (n * 2 ^ 1 % 2 ^ 64) i ≡ has_bit n (i - 1)
unfolding has_bit
has_bit-shl n i some less =
    let plain : n * 2 ^ 1 ≡ n * 2 ^ 1 + 0 = omega arith in
    ap (λ x. x == 1) (cut (n * 2 ^ 1) i less ∙ ap (λ x. bit_at x i) plain ∙ bit_at_cat_high n 1 0 i (omega arith) some)

pub has_bit-shl_lowest : (n : ℕ) → has_bit (n * 2 ^ 1 % 2 ^ 64) 0 ≡ false
unfolding has_bit
has_bit-shl_lowest n =
    let even : n * 2 ^ 1 % 2 ≡ 0 = omega arith in
    ap (λ x. x == 1) (cut (n * 2 ^ 1) 0 (omega arith) ∙ bit_at_lowest (n * 2 ^ 1) ∙ even)

-- a shift to the right
pub has_bit-shr : (n i : ℕ) → has_bit (n / 2 ^ 1) i ≡ has_bit n (i + 1)
unfolding has_bit
has_bit-shr n i =
    let place : 1 + i ≡ i + 1 = omega arith in
    ap (λ x. x % 2 == 1) (shr-shr n 1 i) ∙ ap (λ j. bit_at n j == 1) place

-- a bit that was a Bool
has_bit-bool : (b : Bool) → has_bit (bool_byte b) 0 ≡ b
unfolding has_bit
has_bit-bool true = refl
has_bit-bool false = refl

has_bit-bool_above : (b : Bool) (i : ℕ) → has_bit (bool_byte b) (suc i) ≡ false
unfolding has_bit
has_bit-bool_above true i = ap (λ n. n == 1) (bit_at-suc 1 i ∙ bit_at-zero i)
has_bit-bool_above false i = ap (λ n. n == 1) (bit_at-zero (suc i))

has_bit-bool_last : (b : Bool) (i : ℕ) → i < 64 → has_bit (bool_byte b * 2 ^ 63 % 2 ^ 64) i ≡ (b && (i == 63))
unfolding has_bit
has_bit-bool_last true i less =
    ⊎_elim
    (λ (last : i ≡ 63). subst (λ (k : ℕ). (bit_at (2 ^ 63) k == 1) ≡ (k == 63)) (sym last) refl)
    (λ (other : i ≢ 63). ap (λ n. n == 1) (bit_at-pow_other 63 i other) ∙ sym (ne_eqb i 63 other))
    (cases_eq i 63)
has_bit-bool_last false i less = ap (λ n. n == 1) (bit_at-zero i)

or_false : (b : Bool) → (b || false) ≡ b
or_false true = refl
or_false false = refl

-- the bits moved by one place, and another bit at the end that is left
pub moved_up : (n : ℕ) (b : Bool) (i : ℕ) → i < 64 → has_bit (bit_or (n * 2 ^ 1 % 2 ^ 64) (bool_byte b)) i ≡ one_before b (has_bit n) i
moved_up n b zero less = has_bit-or (n * 2 ^ 1 % 2 ^ 64) (bool_byte b) 0 ∙ ap₂ (λ (x y : Bool). x || y) (has_bit-shl_lowest n) (has_bit-bool b)
moved_up n b (suc i) less =
    let last : suc i - 1 ≡ i = omega arith in
    has_bit-or (n * 2 ^ 1 % 2 ^ 64) (bool_byte b) (suc i) ∙ ap₂ (λ (x y : Bool). x || y) (has_bit-shl n (suc i) (omega arith) less ∙ ap (has_bit n) last) (has_bit-bool_above b i) ∙ or_false (has_bit n i)

pub moved_down : (n : ℕ) (b : Bool) (i : ℕ) → n < 2 ^ 64 → i < 64 → has_bit (bit_or (n / 2 ^ 1) (bool_byte b * 2 ^ 63 % 2 ^ 64)) i ≡ one_behind b (has_bit n) i
unfolding has_bit
moved_down n b i fits less =
    has_bit-or (n / 2 ^ 1) (bool_byte b * 2 ^ 63 % 2 ^ 64) i ∙ ap₂ (λ (x y : Bool). x || y) (has_bit-shr n i) (has_bit-bool_last b i less)
    ∙ ⊎_elim (λ (last : i ≡ 63). at_last last) (λ (other : i ≢ 63). let no = ne_eqb i 63 other in rw no (ap (λ (y : Bool). has_bit n (i + 1) || y) (and_false b) ∙ or_false (has_bit n (i + 1)))) (cases_eq i 63)
  where
    and_false : (c : Bool) → (c && false) ≡ false
    and_false true = refl
    and_false false = refl

    and_true : (c : Bool) → (c && true) ≡ c
    and_true true = refl
    and_true false = refl

    above : has_bit n 64 ≡ false
    above = ap (λ x. x == 1) (bit_at_above n 64 64 fits (omega arith))

    at_last : i ≡ 63 → (has_bit n (i + 1) || (b && (i == 63))) ≡ one_behind b (has_bit n) i
    at_last last = subst (λ (k : ℕ). (has_bit n (k + 1) || (b && (k == 63))) ≡ one_behind b (has_bit n) k) (sym last) (ap₂ (λ (x y : Bool). x || y) above (and_true b))

-- the places that differ from the one before them
pub changed : (marks : ℕ) (first : Bool) (one : ℕ) → one ≡ bool_byte first → (j : ℕ) → j < 64 → has_bit (bit_xor marks (bit_or (marks * 2 ^ 1 % 2 ^ 64) one)) j ≡ differ (has_bit marks j) (one_before first (has_bit marks) j)
changed marks first one is j less =
    has_bit-xor marks (bit_or (marks * 2 ^ 1 % 2 ^ 64) one) j ∙ ap (differ (has_bit marks j)) (ap (λ x. has_bit (bit_or (marks * 2 ^ 1 % 2 ^ 64) x) j) is ∙ moved_up marks first j less)

-- the word bytes, and the apostrophes between two of them
pub joined_bits : (words apostrophes : ℕ) (first last : Bool) (one other : ℕ) → one ≡ bool_byte first → other ≡ bool_byte last → words < 2 ^ 64 → (j : ℕ) → j < 64
    → has_bit (bit_or words (bit_and apostrophes (bit_and (bit_or (words * 2 ^ 1 % 2 ^ 64) one) (bit_or (words / 2 ^ 1) (other * 2 ^ 63 % 2 ^ 64))))) j
    ≡ (has_bit words j || (has_bit apostrophes j && (one_before first (has_bit words) j && one_behind last (has_bit words) j)))
joined_bits words apostrophes first last one other is also fits j less =
    let left = ap (λ x. has_bit (bit_or (words * 2 ^ 1 % 2 ^ 64) x) j) is ∙ moved_up words first j less in
    let right = ap (λ x. has_bit (bit_or (words / 2 ^ 1) (x * 2 ^ 63 % 2 ^ 64)) j) also ∙ moved_down words last j fits less in
    has_bit-or words _ j
    ∙ ap (λ t. has_bit words j || t)
    (has_bit-and apostrophes _ j ∙ ap (λ t. has_bit apostrophes j && t) (has_bit-and (bit_or (words * 2 ^ 1 % 2 ^ 64) one) (bit_or (words / 2 ^ 1) (other * 2 ^ 63 % 2 ^ 64)) j ∙ ap₂ (λ (x y : Bool). x && y) left right))

pow_next : (k : ℕ) → 2 ^ (k + 1) ≡ 2 ^ k + 2 ^ k
pow_next k =
    let place : k + 1 ≡ suc k = omega arith in
    ap (λ x. 2 ^ x) place ∙ pow-suc 2 k ∙ omega arith

-- the lowest bit that is set, and the bits without it
module _ (m : ℕ) (some : 0 < m) (fits : m < 2 ^ 64) where
  abbrev t : ℕ
  t = trailing_zeros w64 m

  low : (t < 64) × (bit_at m t ≡ 1) × ((i : ℕ) → i < t → bit_at m i ≡ 0)
  low = bit_at-trailing_zeros w64 m some fits

  abbrev high : ℕ
  high = m / 2 ^ (t + 1)

  low_part : m % 2 ^ (t + 1) ≡ 2 ^ t
  low_part =
      same_from_bits_below (t + 1) (m % 2 ^ (t + 1)) (2 ^ t) (mod-lt m (pow_pos (t + 1))) (omega (arith, pow_next t, pow_pos t))
      (λ i l. sym (bit_at_cat_low high (t + 1) (m % 2 ^ (t + 1)) i l) ∙ ap (λ x. bit_at x i) (split m (t + 1))
      ∙ ⊎_elim (λ (same : i ≡ t). ap (bit_at m) same ∙ low.1 ∙ sym (ap (bit_at (2 ^ t)) same ∙ bit_at-pow_same t)) (λ (other : i ≢ t). low.2 i (omega (arith, other)) ∙ sym (bit_at-pow_other t i other)) (cases_eq i t))

  parts : m ≡ high * 2 ^ (t + 1) + 2 ^ t
  parts = sym (split m (t + 1)) ∙ ap (λ x. high * 2 ^ (t + 1) + x) low_part

  less_one : m - 1 ≡ high * 2 ^ (t + 1) + (2 ^ t - 1)
  less_one = omega (arith, parts, pow_pos t)

  pub lowest_set : has_bit m t ≡ true
  unfolding has_bit
  lowest_set = ap (λ x. x == 1) low.1

  pub lowest_within : t < 64
  lowest_within = low.0

  pub none_below : (j : ℕ) → j < t → has_bit m j ≡ false
  unfolding has_bit
  none_below j less = ap (λ x. x == 1) (low.2 j less)

  pub kept_above : (j : ℕ) → t < j → has_bit (bit_and m (m - 1)) j ≡ has_bit m j
  unfolding has_bit
  kept_above j more =
      let here = ap (λ x. bit_at x j) parts ∙ bit_at_cat_high high (t + 1) (2 ^ t) j (omega (arith, pow_next t, pow_pos t)) (omega arith) in
      let other = ap (λ x. bit_at x j) less_one ∙ bit_at_cat_high high (t + 1) (2 ^ t - 1) j (omega (arith, pow_next t, pow_pos t)) (omega arith) in
      ap (λ x. x == 1) (bit_at_and m (m - 1) j ∙ omega (arith, here, other))

  pub cleared : (j : ℕ) → j ≤ t → has_bit (bit_and m (m - 1)) j ≡ false
  unfolding has_bit
  cleared j up =
      ap (λ x. x == 1) (bit_at_and m (m - 1) j ∙ ⊎_elim
      (λ (less : j < t). omega (arith, low.2 j less))
      (λ (least : t ≤ j).
      let same : t ≡ j = omega arith in
      let unset = ap (λ x. bit_at x t) less_one ∙ bit_at_cat_low high (t + 1) (2 ^ t - 1) t (omega arith) ∙ bit_at_ones_above t t (omega arith) in
      subst (λ (k : ℕ). min (bit_at m k) (bit_at (m - 1) k) ≡ 0) same (omega (arith, unset)))
      (cases_lt j t))

has_bit-mask : (ms : List Bool) (i : ℕ) → has_bit (mask_l ms) i ≡ get_or ms i false
unfolding has_bit
has_bit-mask ms i = ap (λ x. x == 1) (bit_mask_l ms i) ∙ back (get_or ms i false)
  where
    back : (b : Bool) → (cond b 1 0 == 1) ≡ b
    back true = refl
    back false = refl

-- a bit of the mask of one load is the test of its byte
pub marked : (q : ℕ → Bool) (d : List ℕ) (i r : ℕ) (z : List ℕ) → i + 64 ≤ length d → ((k : ℕ) → Fits w8 (get_or d k 0)) → r ≡ mask_l (map (top 7) z) % 2 ^ 64
    → (f : ℕ → ℕ) → z ≡ map f (chunk i 64 d) → agree_below (λ x. top 7 (f x)) q 256 ≡ true → (j : ℕ) → j < 64 → has_bit r j ≡ q (get_or d (i + j) 0)
marked q d i r z room fits found f lanes all j within =
    let v = chunk i 64 d in
    let stops = λ (x : ℕ). top 7 (f x) in
    let long = length-chunk i 64 d room in
    let mask : r ≡ mask_l (map stops v) = found ∙ ap (λ l. mask_l l % 2 ^ 64) (ap (map (top 7)) lanes ∙ map-map (top 7) f v) ∙ mask_l-mod (map stops v) 64 (omega (arith, length-map v stops, long)) in
    ap (λ m. has_bit m j) mask ∙ has_bit-mask (map stops v) j ∙ get_or-map stops v j 0 false (omega (arith, long)) ∙ ap stops (get_or-chunk i 64 d j 0 within)
    ∙ agree_below_at stops q 256 (get_or d (i + j) 0) all (fits (i + j)).fits
