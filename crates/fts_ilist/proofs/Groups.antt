-- The groups of a number, and reading them back.
use Rattle.std.proofs.Common.{◌≡◌, ◌≢◌, ℕ, zero, suc, ◌+◌, ◌-◌, ◌*◌, ◌/◌, ◌%◌, ◌<◌, ◌≤◌, List, [], ◌∷◌, ◌++◌, length, refl, sym, ap, ◌∙◌, append_assoc, arith, inl, inr}
use Rattle.std.proofs.lemmas.Bool.{cases_lt, le-ltb, lt-ltb, ne_eqb}
use Rattle.std.proofs.lemmas.List.{length-append}
use Rattle.fts_ilist.specs.Number.{groups, number_bytes}
use Rattle.fts_ilist.specs.Spelling.{Item}
use Rattle.fts_ilist.specs.Spelling.Item.{increase, document_end}
use Rattle.fts_ilist.specs.Reading.{items_after}

-- all groups of a number
abbrev pub all_groups : ℕ → List ℕ
all_groups n = groups n n

groups_none : (k : ℕ) → groups k 0 ≡ []
unfolding groups
groups_none zero = refl
groups_none (suc k) = refl

-- it doesn't matter how many groups are allowed, where they are enough
same_groups : (j k n : ℕ) → n ≤ j → n ≤ k → groups j n ≡ groups k n
unfolding groups
same_groups j k zero h i = groups_none j ∙ sym (groups_none k)
same_groups zero k (suc m) h i = absurd (omega arith)
same_groups (suc j) zero (suc m) h i = absurd (omega arith)
same_groups (suc j) (suc k) (suc m) h i = ap (λ (gs : List ℕ). gs ++ (suc m % 128) ∷ []) (same_groups j k (suc m / 128) (omega arith) (omega arith))

-- the groups of a number are those of its 128th part, and one more
pub groups_of_positive : (n : ℕ) → 0 < n → all_groups n ≡ all_groups (n / 128) ++ (n % 128) ∷ []
unfolding groups
groups_of_positive zero h = absurd (omega arith)
groups_of_positive (suc m) h = ap (λ (gs : List ℕ). gs ++ (suc m % 128) ∷ []) (same_groups m (suc m / 128) (suc m / 128) (omega arith) (omega arith))

pub one_more_group : (v b : ℕ) → b < 128 → 0 < v + b → all_groups (v * 128 + b) ≡ all_groups v ++ b ∷ []
one_more_group v b small positive =
    let q : (v * 128 + b) / 128 ≡ v = omega arith in
    let r : (v * 128 + b) % 128 ≡ b = omega arith in
    groups_of_positive (v * 128 + b) (omega arith) ∙ ap (λ (w : ℕ). all_groups w ++ ((v * 128 + b) % 128) ∷ []) q ∙ ap (λ (w : ℕ). all_groups v ++ w ∷ []) r

pub last_byte : (v b : ℕ) → 128 ≤ b → b < 256 → number_bytes (v * 128 + (b - 128)) ≡ all_groups v ++ b ∷ []
unfolding number_bytes
last_byte v b high low =
    let q : (v * 128 + (b - 128)) / 128 ≡ v = omega arith in
    let r : (v * 128 + (b - 128)) % 128 + 128 ≡ b = omega arith in
    ap (λ (w : ℕ). all_groups w ++ ((v * 128 + (b - 128)) % 128 + 128) ∷ []) q ∙ ap (λ (w : ℕ). all_groups v ++ w ∷ []) r

pub number_is : (n : ℕ) → number_bytes n ≡ all_groups (n / 128) ++ (n % 128 + 128) ∷ []
unfolding number_bytes
number_is n = refl

-- ---- one byte at a time

pub reads_end : (bs : List ℕ) → items_after 0 (0 ∷ bs) ≡ document_end ∷ items_after 0 bs
unfolding items_after
reads_end bs = refl

pub reads_group : (v b : ℕ) (bs : List ℕ) → b < 128 → 0 < v + b → items_after v (b ∷ bs) ≡ items_after (v * 128 + b) bs
unfolding items_after
reads_group v b bs small positive =
    let some : v + b ≢ 0 = omega arith in
    rw (lt-ltb b 128 small, ne_eqb (v + b) 0 some) refl

pub reads_last : (v b : ℕ) (bs : List ℕ) → 128 ≤ b → items_after v (b ∷ bs) ≡ increase (v * 128 + (b - 128)) ∷ items_after 0 bs
unfolding items_after
reads_last v b bs high = rw (le-ltb b 128 high) refl

-- ---- whole numbers

reads_groups : (k n : ℕ) (rest : List ℕ) → n ≤ k → items_after 0 (groups k n ++ rest) ≡ items_after n rest
unfolding groups
reads_groups zero zero rest h = refl
reads_groups zero (suc m) rest h = absurd (omega arith)
reads_groups (suc k) zero rest h = refl
reads_groups (suc k) (suc m) rest h =
    let back : suc m / 128 * 128 + suc m % 128 ≡ suc m = omega arith in
    ap (items_after 0) (append_assoc (groups k (suc m / 128)) ((suc m % 128) ∷ []) rest)
    ∙ reads_groups k (suc m / 128) ((suc m % 128) ∷ rest) (omega arith)
    ∙ reads_group (suc m / 128) (suc m % 128) rest (omega arith) (omega arith)
    ∙ ap (λ (w : ℕ). items_after w rest) back

pub reads_number : (n : ℕ) (rest : List ℕ) → items_after 0 (number_bytes n ++ rest) ≡ increase n ∷ items_after 0 rest
unfolding number_bytes
reads_number n rest =
    let back : n / 128 * 128 + (n % 128 + 128 - 128) ≡ n = omega arith in
    ap (items_after 0) (append_assoc (all_groups (n / 128)) ((n % 128 + 128) ∷ []) rest)
    ∙ reads_groups (n / 128) (n / 128) ((n % 128 + 128) ∷ rest) (omega arith)
    ∙ reads_last (n / 128) (n % 128 + 128) rest (omega arith)
    ∙ ap (λ (w : ℕ). increase w ∷ items_after 0 rest) back

first_is : (m n : ℕ) (is js : List Item) → increase m ∷ is ≡ increase n ∷ js → m ≡ n
first_is m n is js e = cc

-- no spelling of a number begins another
pub number_first : (m n : ℕ) (x y : List ℕ) → number_bytes m ++ x ≡ number_bytes n ++ y → m ≡ n
number_first m n x y e =
    first_is m n (items_after 0 x) (items_after 0 y) (sym (reads_number m x) ∙ ap (items_after 0) e ∙ reads_number n y)

-- the value that was read is not above that of the whole number
pub grows : (v n : ℕ) (bs : List ℕ) (items : List Item) → 0 < v → items_after v bs ≡ increase n ∷ items → v * 128 ≤ n
unfolding items_after
grows v n [] items h e = absurd cc
grows v n (b ∷ bs) items h e =
    elim (cases_lt b 128) [
      | inl lt ↦
          let more : v * 128 + b ≤ (v * 128 + b) * 128 = omega arith in
          let rest : (v * 128 + b) * 128 ≤ n = grows (v * 128 + b) n bs items (omega arith) (sym (reads_group v b bs lt (omega arith)) ∙ e) in
          omega arith
      | inr le ↦
          let same : v * 128 + (b - 128) ≡ n = first_is (v * 128 + (b - 128)) n (items_after 0 bs) items (sym (reads_last v b bs le) ∙ e) in
          omega arith
    ]

-- ---- lengths

pub length_all_groups : (n : ℕ) → 0 < n → length (all_groups n) ≡ length (all_groups (n / 128)) + 1
length_all_groups n h = ap length (groups_of_positive n h) ∙ length-append (all_groups (n / 128)) ((n % 128) ∷ [])

pub length_no_groups : length (all_groups 0) ≡ 0
unfolding groups
length_no_groups = refl

pub length_number : (n : ℕ) → length (number_bytes n) ≡ length (all_groups (n / 128)) + 1
length_number n = ap length (number_is n) ∙ length-append (all_groups (n / 128)) ((n % 128 + 128) ∷ [])
