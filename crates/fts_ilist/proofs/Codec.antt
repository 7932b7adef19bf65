-- What the loops over the bytes of a number keep.
use Rattle.std.proofs.Common.{◌≡◌, ℕ, zero, suc, ◌+◌, ◌-◌, ◌*◌, ◌/◌, ◌%◌, ◌^◌, ◌<◌, ◌≤◌, List, [], ◌∷◌, ◌++◌, length, set, drop, refl, sym, ap, ◌∙◌, append_assoc, arith, inl, inr}
use Rattle.std.proofs.lemmas.Bool.{cases_lt}
use Rattle.std.proofs.lemmas.List.{drop-set, drop_all, length-append, length-drop, append_cancel_left, nil_from_length}
use Rattle.fts_ilist.specs.Number.{number_bytes, BeginsWithNumber}
use Rattle.fts_ilist.specs.Spelling.{Item}
use Rattle.fts_ilist.specs.Spelling.Item.{increase, document_end}
use Rattle.fts_ilist.specs.Reading.{items_after}
use Rattle.fts_ilist.proofs.Groups.{all_groups, one_more_group, last_byte, number_is, reads_end, reads_group, reads_number, number_first, grows, groups_of_positive, length_all_groups, length_no_groups, length_number}

-- ---- lengths

-- 128 to the k
abbrev limit : ℕ → ℕ
limit zero = 1
limit (suc k) = 128 * limit k

short_groups : (k n : ℕ) → n < limit k → length (all_groups n) ≤ k
short_groups zero n h = let none : n ≡ 0 = omega arith in omega (arith, ap (λ (w : ℕ). length (all_groups w)) none, length_no_groups)
short_groups (suc k) n h =
    elim (cases_lt 0 n) [
      | inl lt ↦ omega (arith, length_all_groups n lt, short_groups k (n / 128) (omega arith))
      | inr le ↦ let none : n ≡ 0 = omega arith in omega (arith, ap (λ (w : ℕ). length (all_groups w)) none, length_no_groups)
    ]

pub number_fits : (n : ℕ) → n < 2 ^ 64 → length (number_bytes n) ≤ 10
number_fits n h = omega (arith, length_number n, short_groups 9 (n / 128) (omega arith))

-- the increase of an id, and of a position
pub id_fits : (n : ℕ) → n < 2 ^ 63 → length (number_bytes n) ≤ 9
id_fits n h = omega (arith, length_number n, short_groups 8 (n / 128) (omega arith))

-- a number of 32 bits
pub short_fits : (n : ℕ) → n < 2 ^ 32 → length (number_bytes n) ≤ 5
short_fits n h = omega (arith, length_number n, short_groups 4 (n / 128) (omega arith))

pub position_fits : (n : ℕ) → n ≤ 131072 → length (number_bytes n) ≤ 3
position_fits n h = omega (arith, length_number n, short_groups 2 (n / 128) (omega arith))

pub groups_positive : (n : ℕ) → 0 < length (all_groups n) → 0 < n
groups_positive n h =
    elim (cases_lt 0 n) [
      | inl lt ↦ lt
      | inr le ↦ let none : n ≡ 0 = omega arith in absurd (omega (arith, ap (λ (w : ℕ). length (all_groups w)) none, length_no_groups))
    ]

-- ---- writing

pub writes_last : (n at : ℕ) (buf : List ℕ) → at + 1 ≡ length (number_bytes n) → length (number_bytes n) ≤ length buf
    → number_bytes n ++ drop (at + 1) buf ≡ all_groups (n / 128) ++ drop at (set buf at (n % 128 + 128))
writes_last n at buf e room =
    let within : at < length buf = omega arith in
    ap (λ (w : List ℕ). w ++ drop (at + 1) buf) (number_is n)
    ∙ append_assoc (all_groups (n / 128)) ((n % 128 + 128) ∷ []) (drop (at + 1) buf)
    ∙ ap (λ (w : List ℕ). all_groups (n / 128) ++ w) (sym (drop-set buf at (n % 128 + 128) within))

pub writes_group : (rest at : ℕ) (buf whole : List ℕ) → at + 1 ≡ length (all_groups rest) → at < length buf → whole ≡ all_groups rest ++ drop (at + 1) buf
    → whole ≡ all_groups (rest / 128) ++ drop at (set buf at (rest % 128))
writes_group rest at buf whole e within so_far =
    let positive : 0 < rest = omega (arith, groups_positive rest (omega arith)) in
    so_far
    ∙ ap (λ (w : List ℕ). w ++ drop (at + 1) buf) (groups_of_positive rest positive)
    ∙ append_assoc (all_groups (rest / 128)) ((rest % 128) ∷ []) (drop (at + 1) buf)
    ∙ ap (λ (w : List ℕ). all_groups (rest / 128) ++ w) (sym (drop-set buf at (rest % 128) within))

-- ---- reading

-- the bytes so far are groups of this value, and no other reading of them is a number
pub record TakesGroups (bytes : List ℕ) (i value : ℕ) : Type 0 where
  pub front : bytes ≡ all_groups value ++ drop i bytes
  pub same : items_after 0 bytes ≡ items_after value (drop i bytes)

pub takes_none : (bytes : List ℕ) → TakesGroups bytes 0 0
takes_none bytes = record { front = ap (λ (w : List ℕ). w ++ bytes) (sym (nil_from_length (all_groups 0) length_no_groups)); same = refl }

pub takes_group : (bytes : List ℕ) (i value byte : ℕ) → TakesGroups bytes i value → drop i bytes ≡ byte ∷ drop (i + 1) bytes → byte < 128 → 0 < value + byte
    → TakesGroups bytes (i + 1) (value * 128 + byte)
takes_group bytes i value byte t e small positive = record {
  front = t.front ∙ ap (λ (w : List ℕ). all_groups value ++ w) e
      ∙ sym (append_assoc (all_groups value) (byte ∷ []) (drop (i + 1) bytes))
      ∙ ap (λ (w : List ℕ). w ++ drop (i + 1) bytes) (sym (one_more_group value byte small positive));
  same = t.same ∙ ap (items_after value) e ∙ reads_group value byte (drop (i + 1) bytes) small positive;
}

pub takes_last : (bytes : List ℕ) (i value byte : ℕ) → TakesGroups bytes i value → drop i bytes ≡ byte ∷ drop (i + 1) bytes → 128 ≤ byte → byte < 256
    → bytes ≡ number_bytes (value * 128 + (byte - 128)) ++ drop (i + 1) bytes
takes_last bytes i value byte t e high low =
    t.front ∙ ap (λ (w : List ℕ). all_groups value ++ w) e
    ∙ sym (append_assoc (all_groups value) (byte ∷ []) (drop (i + 1) bytes))
    ∙ ap (λ (w : List ℕ). w ++ drop (i + 1) bytes) (sym (last_byte value byte high low))

-- what a number at the front would be read as
number_read : (bytes : List ℕ) (i value n : ℕ) (rest : List ℕ) → TakesGroups bytes i value → bytes ≡ number_bytes n ++ rest → items_after value (drop i bytes) ≡ increase n ∷ items_after 0 rest
number_read bytes i value n rest t e = sym t.same ∙ ap (items_after 0) e ∙ reads_number n rest

pub none_too_large : (bytes : List ℕ) (i value : ℕ) → TakesGroups bytes i value → 2 ^ 57 ≤ value → BeginsWithNumber bytes → ⊥
none_too_large bytes i value t large b =
    omega (arith, grows value b.0 (drop i bytes) (items_after 0 b.1) (omega arith) (number_read bytes i value b.0 b.1 t b.3), b.2)

no_end : (n : ℕ) (items others : List Item) → document_end ∷ items ≡ increase n ∷ others → ⊥
no_end n items others e = absurd cc

pub none_from_zero : (bytes : List ℕ) (i value byte : ℕ) → TakesGroups bytes i value → drop i bytes ≡ byte ∷ drop (i + 1) bytes → value + byte ≡ 0 → BeginsWithNumber bytes → ⊥
none_from_zero bytes i value byte t e zeros b =
    let v : value ≡ 0 = omega arith in
    let w : byte ≡ 0 = omega arith in
    no_end b.0 (items_after 0 (drop (i + 1) bytes)) (items_after 0 b.1)
    (sym (ap (λ (x : ℕ). items_after x (drop i bytes)) v ∙ ap (items_after 0) (e ∙ ap (λ (x : ℕ). x ∷ drop (i + 1) bytes) w) ∙ reads_end (drop (i + 1) bytes))
    ∙ number_read bytes i value b.0 b.1 t b.3)

nothing_after : (v n : ℕ) (others : List Item) → items_after v [] ≡ increase n ∷ others → ⊥
unfolding items_after
nothing_after v n others e = absurd cc

pub none_at_end : (bytes : List ℕ) (i value : ℕ) → TakesGroups bytes i value → drop i bytes ≡ [] → BeginsWithNumber bytes → ⊥
none_at_end bytes i value t e b =
    nothing_after value b.0 (items_after 0 b.1) (sym (ap (items_after value) e) ∙ number_read bytes i value b.0 b.1 t b.3)

-- in bytes that begin with a number: the place is within, and the next group may follow
pub number_within : (bytes : List ℕ) (i value : ℕ) → TakesGroups bytes i value → BeginsWithNumber bytes → i < length bytes
number_within bytes i value t b =
    elim (cases_lt i (length bytes)) [
      | inl lt ↦ lt
      | inr le ↦ absurd (none_at_end bytes i value t (drop_all i bytes le) b)
    ]

pub value_fits : (bytes : List ℕ) (i value : ℕ) → TakesGroups bytes i value → BeginsWithNumber bytes → value < 2 ^ 57
value_fits bytes i value t b =
    elim (cases_lt value (2 ^ 57)) [
      | inl lt ↦ lt
      | inr le ↦ absurd (none_too_large bytes i value t le b)
    ]

pub group_positive : (bytes : List ℕ) (i value byte : ℕ) → TakesGroups bytes i value → drop i bytes ≡ byte ∷ drop (i + 1) bytes → BeginsWithNumber bytes → 0 < value + byte
group_positive bytes i value byte t e b =
    elim (cases_lt 0 (value + byte)) [
      | inl lt ↦ lt
      | inr le ↦ absurd (none_from_zero bytes i value byte t e (omega arith) b)
    ]

pub one_number : (m n : ℕ) (x y : List ℕ) → number_bytes m ++ x ≡ number_bytes n ++ y → (m ≡ n) × (x ≡ y)
one_number m n x y e =
    let same : m ≡ n = number_first m n x y e in
    (same, append_cancel_left (number_bytes m) x y (e ∙ ap (λ (w : ℕ). number_bytes w ++ y) (sym same)))

pub length_at_last : (bytes : List ℕ) (i m : ℕ) → i < length bytes → bytes ≡ number_bytes m ++ drop (i + 1) bytes → i + 1 ≡ length (number_bytes m)
length_at_last bytes i m lt e = omega (arith, ap length e, length-append (number_bytes m) (drop (i + 1) bytes), length-drop (i + 1) bytes)

pub reads_back : (m len n : ℕ) (x rest bytes : List ℕ) → bytes ≡ number_bytes m ++ x → len ≡ length (number_bytes m) → bytes ≡ number_bytes n ++ rest → ◌≡◌ {A = ℕ × ℕ} (m, len) (n, length (number_bytes n))
reads_back m len n x rest bytes e l f =
    let same : m ≡ n = number_first m n x rest (sym e ∙ f) in
    ap (λ (w : ℕ). (m, w)) l ∙ ap (λ (w : ℕ). (w, length (number_bytes w))) same

-- a number of one byte
pub small_number : (n : ℕ) → n < 128 → number_bytes n ≡ (n + 128) ∷ []
small_number n h =
    let q : n / 128 ≡ 0 = omega arith in
    let r : n % 128 + 128 ≡ n + 128 = omega arith in
    number_is n ∙ ap (λ (w : ℕ). all_groups w ++ (n % 128 + 128) ∷ []) q
    ∙ ap (λ (w : List ℕ). w ++ (n % 128 + 128) ∷ []) (nil_from_length (all_groups 0) length_no_groups)
    ∙ ap (λ (w : ℕ). w ∷ []) r

-- a number of two bytes
pub medium_number : (n : ℕ) → 128 ≤ n → n < 16384 → number_bytes n ≡ n / 128 ∷ (n % 128 + 128) ∷ []
medium_number n large h =
    let high : (n / 128) / 128 ≡ 0 = omega arith in
    let same : (n / 128) % 128 ≡ n / 128 = omega arith in
    let some : 0 < n / 128 = omega arith in
    number_is n
    ∙ ap (λ (w : List ℕ). w ++ (n % 128 + 128) ∷ []) (groups_of_positive (n / 128) some)
    ∙ ap (λ (w : ℕ). (all_groups w ++ ((n / 128) % 128) ∷ []) ++ (n % 128 + 128) ∷ []) high
    ∙ ap (λ (w : List ℕ). (w ++ ((n / 128) % 128) ∷ []) ++ (n % 128 + 128) ∷ []) (nil_from_length (all_groups 0) length_no_groups)
    ∙ ap (λ (w : ℕ). w ∷ (n % 128 + 128) ∷ []) same
