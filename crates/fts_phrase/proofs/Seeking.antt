-- The places at which a word may stand, by marks.
use Rattle.std.proofs.Common.{min, replicate, ◌≡◌, ℕ, ◌+◌, ◌-◌, ◌%◌, ◌^◌, ◌<◌, ◌≤◌, Bool, true, false, eqb, List, map, length, get_or, cond, w64, refl, sym, ap, ap₂, ◌∙◌, subst, ⊎_elim, arith}
use Rattle.std.specs.Prelude.{Option, Some, None}
use Rattle.std.specs.Int.{bit_at, trailing_zeros}
use Rattle.std.specs.Int.Bits.{bit_or, bit_and}
use Rattle.std.specs.Char.{to_ascii_lowercase}
use Rattle.std.proofs.lemmas.Simd.{bit_mask_l, map-map, mask_l-mod, length-chunk, get_or-chunk, zip2_splat}
use Rattle.std.proofs.lemmas.Bool.{agree_below_at, cases_lt}
use Rattle.std.proofs.lemmas.List.{length-map, get_or-map}
use lib.Lanes.{chunk, mask_l, top, zip2}
use Rattle.std.proofs.lemmas.Nat.Bits.{bit_at_and, bit_at-zero, bit_at-trailing_zeros}
use Rattle.fts_phrase.specs.Words.{StandsAt, StandsAtNone, MayStandFirst}

-- ---- a bit of a mask

-- a bit of the mask of one load is the top bit of what was made of its byte
pub marked_by : (d : List ℕ) (i r : ℕ) (z : List ℕ) → i + 64 ≤ length d → r ≡ mask_l (map (top 7) z) % 2 ^ 64
    → (f : ℕ → ℕ) → z ≡ map f (chunk i 64 d) → (j : ℕ) → j < 64 → bit_at r j ≡ cond (top 7 (f (get_or d (i + j) 0))) 1 0
marked_by d i r z room found f lanes j within =
    let v = chunk i 64 d in
    let stops = λ (x : ℕ). top 7 (f x) in
    let long = length-chunk i 64 d room in
    let mask : r ≡ mask_l (map stops v) = found ∙ ap (λ l. mask_l l % 2 ^ 64) (ap (map (top 7)) lanes ∙ map-map (top 7) f v) ∙ mask_l-mod (map stops v) 64 (omega (arith, length-map v stops, long)) in
    ap (λ m. bit_at m j) mask ∙ bit_mask_l (map stops v) j
    ∙ ap (λ (b : Bool). cond b 1 0) (get_or-map stops v j 0 false (omega (arith, long)) ∙ ap stops (get_or-chunk i 64 d j 0 within))

-- two operations on all lanes of a load, each with one number
pub lanes_twice : (g h : ℕ → ℕ → ℕ) (v : List ℕ) (n a b : ℕ) → length v ≡ n → zip2 h (zip2 g v (replicate n a)) (replicate n b) ≡ map (λ x. h (g x a) b) v
lanes_twice g h v n a b long =
    let first : zip2 g v (replicate n a) ≡ map (λ x. g x a) v = zip2_splat {Y = ℕ} g v n a long in
    ap (λ (xs : List ℕ). zip2 h xs (replicate n b)) first
    ∙ zip2_splat {Y = ℕ} h (map (λ x. g x a) v) n b (length-map v (λ x. g x a) ∙ long)
    ∙ map-map (λ y. h y b) (λ x. g x a) v

-- a byte and the same letter lowered differ in the bit of their case alone
same_letter : (byte : ℕ) → byte < 256 → eqb (bit_or byte 32) (bit_or (to_ascii_lowercase byte) 32) ≡ true
same_letter byte fits =
    agree_below_at (λ (b : ℕ). eqb (bit_or b 32) (bit_or (to_ascii_lowercase b) 32)) (λ _. true) 256 byte refl fits

pub letter_bit : (byte letter : ℕ) → byte < 256 → to_ascii_lowercase byte ≡ letter → ◌≡◌ {A = ℕ} (cond (top 7 (cond (eqb (bit_or byte 32) (bit_or letter 32)) 255 0)) 1 0) 1
letter_bit byte letter fits same =
    ap {B = ℕ} (λ (x : ℕ). cond (top 7 (cond (eqb (bit_or byte 32) (bit_or x 32)) 255 0)) 1 0) (sym same)
    ∙ ap {B = ℕ} (λ (b : Bool). cond (top 7 (cond b 255 0)) 1 0) (same_letter byte fits)

-- ---- places

-- the word stands at none of the places before the lowest mark
pub before_mark : (text word : List ℕ) (at from marks : ℕ) → 0 < marks → marks < 2 ^ 64 → StandsAtNone text word at from
    → ((j : ℕ) → j < 64 → StandsAt text word (from + j) → bit_at marks j ≡ 1) → StandsAtNone text word at (from + trailing_zeros w64 marks)
before_mark text word at from marks some fits none marked place low high stands =
    ⊎_elim
    (λ (before : place < from). none place low before stands)
    (λ (past : from ≤ place).
    let here : from + (place - from) ≡ place = omega arith in
    let under : place - from < trailing_zeros w64 marks = omega (arith, high, past) in
    let lowest = bit_at-trailing_zeros w64 marks some fits in
    let set = marked (place - from) (omega (arith, under, lowest.0)) (subst (StandsAt text word) (sym here) stands) in
    absurd (omega (arith, lowest.2 (place - from) under, set)))
    (cases_lt place from)

-- nor at those of marks of which none is set
pub before_none : (text word : List ℕ) (at from marks : ℕ) → marks ≡ 0 → StandsAtNone text word at from
    → ((j : ℕ) → j < 64 → StandsAt text word (from + j) → bit_at marks j ≡ 1) → StandsAtNone text word at (from + 64)
before_none text word at from marks zeros none marked place low high stands =
    ⊎_elim
    (λ (before : place < from). none place low before stands)
    (λ (past : from ≤ place).
    let here : from + (place - from) ≡ place = omega arith in
    let set = marked (place - from) (omega (arith, high, past)) (subst (StandsAt text word) (sym here) stands) in
    absurd (omega (arith, bit_at-zero (place - from), ap (λ m. bit_at m (place - from)) zeros, set)))
    (cases_lt place from)

-- nor at one more at which it may not stand
pub before_next : (text word : List ℕ) (at place : ℕ) → StandsAtNone text word at place → (StandsAt text word place → ⊥) → StandsAtNone text word at (place + 1)
before_next text word at place none here k low high stands =
    ⊎_elim
    (λ (before : k < place). none k low before stands)
    (λ (past : place ≤ k). let same : k ≡ place = omega (arith, high, past) in here (subst (StandsAt text word) same stands))
    (cases_lt k place)

-- the places up to two, one behind the other
pub before_both : (text word : List ℕ) (at from to : ℕ) → StandsAtNone text word at from → StandsAtNone text word from to → StandsAtNone text word at to
before_both text word at from to none more place low high stands =
    ⊎_elim (λ (before : place < from). none place low before stands) (λ (past : from ≤ place). more place past high stands) (cases_lt place from)

-- what is found from a place on is found from one before it, if the word stands at none between them
pub found_before : (text word : List ℕ) (at from : ℕ) → at ≤ from → StandsAtNone text word at from → (found : Option ℕ)
    → MayStandFirst text word from found → MayStandFirst text word at found
found_before text word at from order none (Some place) h = (omega (arith, order, h.0), h.1, before_both text word at from place none h.2)
found_before text word at from order none None h = before_both text word at from (length text) none h

-- a bit of both marks
pub both_bits : (a b j : ℕ) → bit_at a j ≡ 1 → bit_at b j ≡ 1 → bit_at (bit_and a b) j ≡ 1
both_bits a b j one other = bit_at_and a b j ∙ ap₂ min one other
