-- What a sort by words and positions makes of each word.
use Rattle.std.proofs.Common.{◌≡◌, ℕ, ◌<◌, ◌≤◌, ⊎_elim, Bool, true, false, cond, ◌&&◌, ◌||◌, List, [], ◌∷◌, map, refl, sym, ap, ◌∙◌, filter, nat_eq, is_lt, nat_cmp, Ordering, Less, Equal, Greater, IsPermutation, IsSortedBy, arith}
use Rattle.std.specs.List.{AllPairs, AllByRecursion, IsDistinct, list_any}
use Rattle.std.specs.Cmp.{IsStrictWeakOrder, nat_cmp_is}
use Rattle.std.specs.Ordering.{ordering_then}
use Rattle.std.proofs.lemmas.Bool.{cases_lt, cases_Bool, false≢true, ne_eqb, eq-eqb, eqb-true}
use Rattle.std.proofs.lemmas.Cmp.{nat_list_cmp_total, nat_cmp_total, on_total, then_total, tied_itself}
use Rattle.std.proofs.lemmas.List.Sorted.{ranks_by, sorted_far, list_any-IsPermutation}
use Rattle.std.proofs.lemmas.List.Elements.{recursion_from_All}
use Rattle.std.proofs.lemmas.Map.Keys.{IsDistinct-IsPermutation}
use Rattle.std.proofs.lemmas.Slice.Eq.{bytes_eq-Decides}
use Rattle.fts_words.specs.Order.{byte_order}
use Rattle.fts_words.proofs.RunLemmas.{AllPairs-head, AllPairs-tail}
use Rattle.fts_index.specs.declared.keyed.Occurrence.{Occurrence}
use Rattle.fts_index.specs.Occurrences.{Spot, spot_of, comes_before, stands_before, is_of, positions_among}

-- the order of words
pub ranks : IsStrictWeakOrder comes_before
ranks = ranks_by nat_list_cmp_total (λ (o : Occurrence). o.word.now)

-- the order of words and positions
pub places_rank : IsStrictWeakOrder stands_before
places_rank = ranks_by (then_total (on_total (λ (s : Spot). s.word) nat_list_cmp_total) (on_total (λ (s : Spot). s.position) nat_cmp_total)) spot_of

-- what does not stand before another has no word that comes before its word
first_decides : (p q : Ordering) → is_lt (ordering_then p q) ≡ false → is_lt p ≡ false
first_decides Less q h = h
first_decides Equal q h = refl
first_decides Greater q h = refl

pub by_words : (xs : List Occurrence) → IsSortedBy stands_before xs → IsSortedBy comes_before xs
by_words xs sorted = λ i d low high. first_decides _ _ (sorted i d low high)

-- ---- ascending numbers

abbrev Ascends : List ℕ → Type 0
Ascends [] = Unit {0}
Ascends (x ∷ xs) = AllByRecursion (λ y. x < y) xs × Ascends xs

abbrev has : List ℕ → ℕ → Bool
has xs q = list_any (λ x. nat_eq x q) xs

none_below : (x : ℕ) (xs : List ℕ) → AllByRecursion (λ y. x < y) xs → (q : ℕ) → q ≤ x → has xs q ≡ false
none_below x [] h q low = refl
none_below x (y ∷ ys) h q low = ap (λ (b : Bool). b || has ys q) (ne_eqb y q (λ e. omega (arith, e, h.0, low))) ∙ none_below x ys h.1 q low

below_all : (y : ℕ) (ys : List ℕ) → AllByRecursion (λ z. y < z) ys → (q : ℕ) → q < y → has (y ∷ ys) q ≡ false
below_all y ys h q low = ap (λ (b : Bool). b || has ys q) (ne_eqb y q (λ e. omega (arith, e, low))) ∙ none_below y ys h q (omega (arith, low))

has_first : (x : ℕ) (xs : List ℕ) → has (x ∷ xs) x ≡ true
has_first x xs = ap (λ (b : Bool). b || has xs x) (eq-eqb x x refl)

first_same : (x y : ℕ) (xs ys : List ℕ) → AllByRecursion (λ z. x < z) xs → AllByRecursion (λ z. y < z) ys → ((q : ℕ) → has (x ∷ xs) q ≡ has (y ∷ ys) q) → x ≡ y
first_same x y xs ys up up' same =
    ⊎_elim
    (λ (less : x < y). absurd (false≢true (sym (below_all y ys up' x less) ∙ sym (same x) ∙ has_first x xs)))
    (λ (least : y ≤ x). ⊎_elim
    (λ (less : y < x). absurd (false≢true (sym (below_all x xs up y less) ∙ same y ∙ has_first y ys)))
    (λ (most : x ≤ y). omega (arith, least, most))
    (cases_lt y x))
    (cases_lt x y)

behind_first : (x q : ℕ) (xs : List ℕ) → x < q → has (x ∷ xs) q ≡ has xs q
behind_first x q xs less = ap (λ (b : Bool). b || has xs q) (ne_eqb x q (λ e. omega (arith, e, less)))

rest_same : (x y : ℕ) (xs ys : List ℕ) → AllByRecursion (λ z. x < z) xs → AllByRecursion (λ z. y < z) ys → ((q : ℕ) → has (x ∷ xs) q ≡ has (y ∷ ys) q) → (q : ℕ) → has xs q ≡ has ys q
rest_same x y xs ys up up' same q =
    let e = first_same x y xs ys up up' same in
    ⊎_elim
    (λ (less : x < q). sym (behind_first x q xs less) ∙ same q ∙ behind_first y q ys (omega (arith, e, less)))
    (λ (least : q ≤ x). none_below x xs up q least ∙ sym (none_below y ys up' q (omega (arith, e, least))))
    (cases_lt x q)

-- two ascending lists with the same numbers are one
same_numbers : (xs ys : List ℕ) → Ascends xs → Ascends ys → ((q : ℕ) → has xs q ≡ has ys q) → xs ≡ ys
same_numbers [] [] up up' same = refl
same_numbers [] (y ∷ ys) up up' same = absurd (false≢true (same y ∙ has_first y ys))
same_numbers (x ∷ xs) [] up up' same = absurd (false≢true (sym (same x) ∙ has_first x xs))
same_numbers (x ∷ xs) (y ∷ ys) up up' same =
    ap (λ (z : ℕ). z ∷ xs) (first_same x y xs ys up.0 up'.0 same)
    ∙ ap (λ (l : List ℕ). y ∷ l) (same_numbers xs ys up.1 up'.1 (rest_same x y xs ys up.0 up'.0 same))

-- ---- occurrences in order

each : (P Q : Occurrence → Type 0) → ((x : Occurrence) → P x → Q x) → (xs : List Occurrence) → AllByRecursion P xs → AllByRecursion Q xs
each P Q step [] h = tt
each P Q step (x ∷ xs) h = (step x h.0, each P Q step xs h.1)

join : (P Q R : Occurrence → Type 0) → ((x : Occurrence) → P x → Q x → R x) → (xs : List Occurrence) → AllByRecursion P xs → AllByRecursion Q xs → AllByRecursion R xs
join P Q R step [] p q = tt
join P Q R step (x ∷ xs) p q = (step x p.0 q.0, join P Q R step xs p.1 q.1)

module _ (R : Occurrence → Occurrence → Type 0) where
  abbrev Ordered : List Occurrence → Type 0
  Ordered [] = Unit {0}
  Ordered (x ∷ xs) = AllByRecursion (R x) xs × Ordered xs

  ordered_pairs : (xs : List Occurrence) → AllPairs R xs → Ordered xs
  ordered_pairs [] h = tt
  ordered_pairs (x ∷ xs) h = (recursion_from_All (R x) xs (AllPairs-head R x xs h), ordered_pairs xs (AllPairs-tail R x xs h))

  module _ (word : List ℕ) (above : (x y : Occurrence) → R x y → is_of word x ≡ true → is_of word y ≡ true → x.position < y.position) where
    all_above : (x : Occurrence) → is_of word x ≡ true → (ys : List Occurrence) → AllByRecursion (R x) ys → AllByRecursion (λ p. x.position < p) (positions_among word ys)
    all_above x is [] h = tt
    all_above x is (y ∷ ys) h = by (is_of word y) refl (all_above x is ys h.1)
      where
        by : (b : Bool) → is_of word y ≡ b → AllByRecursion (λ p. x.position < p) (positions_among word ys) → AllByRecursion (λ p. x.position < p) (map (λ (o : Occurrence). o.position) (cond b (y ∷ filter (is_of word) ys) (filter (is_of word) ys)))
        by true y_is rest = (above x y h.0 is y_is, rest)
        by false y_is rest = rest

    -- the positions of the word ascend
    rises : (xs : List Occurrence) → Ordered xs → Ascends (positions_among word xs)
    rises [] h = tt
    rises (x ∷ xs) h = by (is_of word x) refl (rises xs h.1)
      where
        by : (b : Bool) → is_of word x ≡ b → Ascends (positions_among word xs) → Ascends (map (λ (o : Occurrence). o.position) (cond b (x ∷ filter (is_of word) xs) (filter (is_of word) xs)))
        by true is rest = (all_above x is xs h.0, rest)
        by false is rest = rest

-- the positions of all of them ascend
abbrev Earlier : Occurrence → Occurrence → Type 0
Earlier x y = x.position < y.position

abbrev same_place : Occurrence → Occurrence → Bool
same_place x y = nat_eq x.position y.position

-- what a sort leaves of two of them
abbrev After : Occurrence → Occurrence → Type 0
After x y = (stands_before y x ≡ false) × (same_place x y ≡ false)

distinct : (xs : List Occurrence) → Ordered Earlier xs → IsDistinct same_place xs
unfolding IsDistinct
distinct [] h = tt
distinct (x ∷ xs) h = (each (Earlier x) (λ y. same_place x y ≡ false) (λ y less. ne_eqb x.position y.position (λ e. omega (arith, e, less))) xs h.0, distinct xs h.1)

both : (xs : List Occurrence) → Ordered (λ x y. stands_before y x ≡ false) xs → IsDistinct same_place xs → Ordered After xs
unfolding IsDistinct
both [] h k = tt
both (x ∷ xs) h k = (join (λ y. stands_before y x ≡ false) (λ y. same_place x y ≡ false) (After x) (λ y a b. (a, b)) xs h.0 k.0, both xs h.1 k.1)

above_place : (p q : ℕ) → is_lt (nat_cmp q p) ≡ false → nat_eq p q ≡ false → p < q
above_place p q upto apart =
    ⊎_elim (λ (less : p < q). less)
    (λ (least : q ≤ p). ⊎_elim
    (λ (less : q < p). absurd (false≢true (sym upto ∙ ap is_lt (sym (nat_cmp_is q p Less less)))))
    (λ (most : p ≤ q). absurd (false≢true (sym apart ∙ eq-eqb p q (omega (arith, least, most)))))
    (cases_lt q p))
    (cases_lt p q)

-- of one word, the later one has the larger position
after_above : (word : List ℕ) (x y : Occurrence) → After x y → is_of word x ≡ true → is_of word y ≡ true → x.position < y.position
after_above word x y after x_is y_is =
    let same : x.word.now ≡ y.word.now = sym ((bytes_eq-Decides word x.word.now).0 x_is) ∙ (bytes_eq-Decides word y.word.now).0 y_is in
    let tied : byte_order y.word.now x.word.now ≡ Equal = ap (byte_order y.word.now) same ∙ tied_itself nat_list_cmp_total y.word.now in
    above_place x.position y.position (sym (ap (λ (o : Ordering). is_lt (ordering_then o (nat_cmp y.position x.position))) tied) ∙ after.0) after.1

-- whether the word has a position
has_at : (word : List ℕ) (q : ℕ) (xs : List Occurrence) → has (positions_among word xs) q ≡ list_any (λ o. is_of word o && nat_eq o.position q) xs
has_at word q [] = refl
has_at word q (x ∷ xs) = by (is_of word x) (has_at word q xs)
  where
    by : (b : Bool) → has (positions_among word xs) q ≡ list_any (λ o. is_of word o && nat_eq o.position q) xs
        → has (map (λ (o : Occurrence). o.position) (cond b (x ∷ filter (is_of word) xs) (filter (is_of word) xs))) q ≡ ((b && nat_eq x.position q) || list_any (λ o. is_of word o && nat_eq o.position q) xs)
    by true rest = ap (λ (c : Bool). nat_eq x.position q || c) rest
    by false rest = rest

flips : (x y : Occurrence) → same_place x y ≡ same_place y x
flips x y =
    ⊎_elim (λ (is : nat_eq x.position y.position ≡ true). is ∙ sym (eq-eqb y.position x.position (sym (eqb-true x.position y.position is))))
    (λ (other : nat_eq x.position y.position ≡ false). other ∙ sym (ne_eqb y.position x.position (λ e. false≢true (sym other ∙ eq-eqb x.position y.position (sym e)))))
    (cases_Bool (nat_eq x.position y.position))

-- the sort keeps the positions of each word, in their order
pub same_positions : (xs ys : List Occurrence) → IsPermutation xs ys → AllPairs Earlier xs → IsSortedBy stands_before ys → (word : List ℕ) → positions_among word ys ≡ positions_among word xs
same_positions xs ys same ascend sorted word =
    let earlier : Ordered Earlier xs = ordered_pairs Earlier xs ascend in
    let apart : IsDistinct same_place ys = IsDistinct-IsPermutation same_place flips xs ys same (distinct xs earlier) in
    let order : Ordered (λ x y. stands_before y x ≡ false) ys =
    ordered_pairs (λ x y. stands_before y x ≡ false) ys (λ i j d less within. sorted_far stands_before places_rank ys sorted i j d (omega (arith, less)) within) in
    same_numbers (positions_among word ys) (positions_among word xs)
    (rises After word (after_above word) ys (both ys order apart))
    (rises Earlier word (λ x y less x_is y_is. less) xs earlier)
    (λ q. has_at word q ys ∙ sym (list_any-IsPermutation (λ o. is_of word o && nat_eq o.position q) xs ys same) ∙ sym (has_at word q xs))
