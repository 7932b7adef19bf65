-- Numbers that were sorted, each once.
use Rattle.std.proofs.Common.{◌≡◌, ◌≢◌, ⊎_elim, ℕ, zero, suc, ◌<◌, Bool, true, false, ◌||◌, nat_eq, List, [], ◌∷◌, length, slice_index_or, refl, sym, ap, ◌∙◌, arith}
use Rattle.std.specs.List.{IsDistinct, AllByRecursion, AllPairs, Contains, dedup}
use Rattle.std.specs.List.Sorted.{IsStrictlyIncreasing}
use Rattle.std.proofs.lemmas.List.Kept.{AllPairs-from_increasing, Contains-dedup_nat}
use Rattle.fts_cache.specs.Words.{has_number}
use Rattle.fts_cache.proofs.Table.{which_number}

or_rest : (a b : Bool) → (a || b) ≡ true → a ≡ false → b ≡ true
or_rest true b e f = absurd cc
or_rest false b e f = e

or_left : (a b : Bool) → a ≡ true → (a || b) ≡ true
or_left true b e = refl
or_left false b e = absurd cc

or_right : (a b : Bool) → b ≡ true → (a || b) ≡ true
or_right true b e = refl
or_right false b e = e

contains : (n : ℕ) (ns : List ℕ) → has_number n ns ≡ true → Contains ns n
contains n [] e = absurd cc
contains n (m ∷ ms) e =
    ⊎_elim
    (λ (h : (nat_eq n m ≡ true) × (n ≡ m)). let r : Contains (m ∷ ms) n = (0, omega arith, sym h.1) in r)
    (λ (h : (nat_eq n m ≡ false) × (n ≢ m)).
    let c = contains n ms (or_rest (nat_eq n m) (has_number n ms) e h.0) in
    let r : Contains (m ∷ ms) n = (suc c.0, omega (arith, c.1), c.2) in r)
    (which_number n m)

has_from : (n k : ℕ) (ns : List ℕ) → k < length ns → slice_index_or ns k n ≡ n → has_number n ns ≡ true
has_from n k [] lt e = absurd (omega (arith, lt))
has_from n zero (m ∷ ms) lt e = or_left (nat_eq n m) (has_number n ms) (ap (nat_eq n) e ∙ same n)
  where
    same : (m : ℕ) → nat_eq m m ≡ true
    same m = grind arith
has_from n (suc k) (m ∷ ms) lt e = or_right (nat_eq n m) (has_number n ms) (has_from n k ms (omega (arith, lt)) e)

pub still_has : (n : ℕ) (ns ms : List ℕ) → ms ≡ dedup nat_eq ns → has_number n ns ≡ true → has_number n ms ≡ true
still_has n ns ms e h =
    let c = Contains-dedup_nat ns n (contains n ns h) in
    ap (has_number n) e ∙ has_from n c.0 (dedup nat_eq ns) c.1 c.2

others : (n : ℕ) (ns : List ℕ) → ((j d : ℕ) → j < length ns → n < slice_index_or ns j d) → AllByRecursion (λ (y : ℕ). nat_eq n y ≡ false) ns
others n [] h = tt
others n (m ∷ ms) h = (differ n m (h 0 m (omega arith)), others n ms (λ j d lt. h (suc j) d (omega (arith, lt))))
  where
    differ : (a b : ℕ) → a < b → nat_eq a b ≡ false
    differ a b lt = grind arith

pairs_distinct : (ns : List ℕ) → AllPairs (λ x y. x < y) ns → IsDistinct nat_eq ns
unfolding IsDistinct
pairs_distinct [] h = tt
pairs_distinct (n ∷ ns) h = (others n ns (λ j d lt. h 0 (suc j) d (omega arith) (omega (arith, lt))), pairs_distinct ns (λ i j d less lt. h (suc i) (suc j) d (omega (arith, less)) (omega (arith, lt))))

pub all_distinct : (ns : List ℕ) → IsStrictlyIncreasing ns → IsDistinct nat_eq ns
all_distinct ns h = pairs_distinct ns (AllPairs-from_increasing ns h)
