-- How many indexed words a row can have, how long they are, and where they stand.
use Rattle.std.proofs.Common.{◌≡◌, ℕ, zero, suc, ◌+◌, ◌<◌, ◌≤◌, Bool, true, false, cond, not, ◌&&◌, nat_le, List, [], ◌∷◌, map, filter, length, get_or, sum_by, sym, refl, ap, ◌∙◌, subst, arith, bytes_eq, leb-true, IsPermutation, IsSortedBy}
use Rattle.std.specs.Prelude.{All}
use Rattle.std.specs.List.{AllPairs}
use Rattle.std.proofs.lemmas.Bool.{and_parts}
use Rattle.std.proofs.lemmas.List.{length-map, get_or-map}
use Rattle.std.proofs.lemmas.List.Elements.{All-weaker, All-map}
use Rattle.std.proofs.lemmas.List.Sorted.{All-permutation, length_permutation, sum_by-IsPermutation}
use Rattle.std.proofs.lemmas.List.Sums.{sum_by-cons}
use Rattle.fts_types.specs.Row.{IsRow}
use Rattle.fts_words.specs.declared.placed.PlacedWord.{PlacedWord}
use Rattle.fts_words.specs.Order.{is_among}
use Rattle.fts_words.specs.Indexed.{Rules, word_of, IsIndexedWord, indexed_words, PositionsAscend}
use Rattle.fts_words.proofs.PlacedLemmas.{indexed_words_each, indexed_words_ascend}
use Rattle.fts_index.specs.declared.keyed.Occurrence.{Occurrence}
use Rattle.fts_entries.specs.Words.{positions_of}
use Rattle.fts_entries.proofs.Places.{all_low}
use Rattle.fts_index.specs.Occurrences.{Spot, spot_of, spot_in, AreListed, stands_before, positions_among, AreSorted}
use Rattle.fts_index.proofs.Sorting.{by_words, same_positions}

-- ---- where the words stand

-- as many words as stand before a word start below its position
place_below : (xs : List PlacedWord) → PositionsAscend xs → (k : ℕ) (d : PlacedWord) → k < length xs → k ≤ (get_or xs k d).position
place_below xs up zero d less = omega arith
place_below xs up (suc k) d less =
    let before = place_below xs up k d (omega arith) in
    let step : (get_or xs k d).position < (get_or xs (suc k) d).position = up k (suc k) d (omega arith) less in
    omega arith

few_words : (xs : List PlacedWord) → PositionsAscend xs → All (λ w. w.position < 65543) xs → length xs ≤ 65544
few_words [] up below = omega arith
few_words (x ∷ xs) up below =
    let last : length xs < length (x ∷ xs) = omega arith in
    let place = place_below (x ∷ xs) up (length xs) x last in
    let position : (get_or (x ∷ xs) (length xs) x).position < 65543 = below (length xs) x last in
    omega arith

-- ---- what is listed

map_twice : {X Y : Type 0} (g : Y → ℕ) (f : X → Y) (xs : List X) → map g (map f xs) ≡ map (λ x. g (f x)) xs
map_twice g f [] = refl
map_twice g f (x ∷ xs) = ap (λ (l : List ℕ). g (f x) ∷ l) (map_twice g f xs)

pairs_map : {X : Type 0} (f : X → ℕ) (xs : List X) → AllPairs (λ x y. f x < f y) xs → AllPairs (λ (a b : ℕ). a < b) (map f xs)
pairs_map f [] h i j d order less = absurd (omega (arith, less))
pairs_map f (x ∷ xs) h i j d order less =
    let long : length (map f (x ∷ xs)) ≡ length (x ∷ xs) = length-map (x ∷ xs) f in
    rw (get_or-map f (x ∷ xs) i x d (omega (arith, order, less, long)), get_or-map f (x ∷ xs) j x d (omega (arith, less, long))) (h i j x order (omega (arith, less, long)))

pairs_unmap : {X : Type 0} (f : X → ℕ) (xs : List X) → AllPairs (λ (a b : ℕ). a < b) (map f xs) → AllPairs (λ x y. f x < f y) xs
pairs_unmap f xs h i j d order less =
    let long : length (map f xs) ≡ length xs = length-map xs f in
    subst (λ (a : ℕ). a < f (get_or xs j d)) (get_or-map f xs i d (f d) (omega (arith, order, less)))
    (subst (λ (b : ℕ). get_or (map f xs) i (f d) < b) (get_or-map f xs j d (f d) less) (h i j (f d) order (omega (arith, less, long))))

kept : {X : Type 0} (g : X → ℕ) (b : Bool) (s : Spot) (x : X) (ss : List Spot) (xs : List X) → s.position ≡ g x → map (λ t. t.position) ss ≡ map g xs → map (λ t. t.position) (cond b (s ∷ ss) ss) ≡ map g (cond b (x ∷ xs) xs)
kept g true s x ss xs here rest = ap (λ (n : ℕ). n ∷ map (λ (t : Spot). t.position) ss) here ∙ ap (λ (l : List ℕ). g x ∷ l) rest
kept g false s x ss xs here rest = rest

abbrev spots_of_word : List ℕ → List Spot → List ℕ
spots_of_word word spots = map (λ s. s.position) (filter (λ s. bytes_eq word s.word) spots)

seen : {X : Type 0} (word : List ℕ) (f : X → Spot) (xs : List X) → spots_of_word word (map f xs) ≡ map (λ x. (f x).position) (filter (λ x. bytes_eq word (f x).word) xs)
seen word f [] = refl
seen word f (x ∷ xs) =
    kept (λ y. (f y).position) (bytes_eq word (f x).word) (f x) x (filter (λ (s : Spot). bytes_eq word s.word) (map f xs)) (filter (λ y. bytes_eq word (f y).word) xs) refl (seen word f xs)

module _ (rules : Rules) (columns : List (List ℕ)) (xs : List Occurrence) (listed : AreListed rules columns xs) where
  listed_positions : (word : List ℕ) → positions_among word xs ≡ positions_of rules columns word
  listed_positions word = sym (seen word spot_of xs) ∙ ap (spots_of_word word) listed ∙ seen word (spot_in columns) (indexed_words rules columns)

  -- the positions of all of them ascend
  listed_ascend : AllPairs (λ a b. a.position < b.position) xs
  listed_ascend =
      let all = indexed_words rules columns in
      let P : List ℕ → Type 0 = AllPairs (λ (a b : ℕ). a < b) in
      let places : P (map (λ (w : PlacedWord). w.position) all) = pairs_map (λ (w : PlacedWord). w.position) all (indexed_words_ascend columns rules) in
      let same : map (λ (w : PlacedWord). w.position) all ≡ map (λ (o : Occurrence). o.position) xs =
      sym (map_twice (λ (s : Spot). s.position) (spot_in columns) all) ∙ ap (map (λ (s : Spot). s.position)) (sym listed) ∙ map_twice (λ (s : Spot). s.position) spot_of xs in
      pairs_unmap (λ (o : Occurrence). o.position) xs (subst P same places)

  sizes_map : {X : Type 0} (f : X → Spot) (ys : List X) → sum_by (λ (s : Spot). length s.word + 8) (map f ys) ≡ sum_by (λ y. length (f y).word + 8) ys
  sizes_map f [] = refl
  sizes_map f (y ∷ ys) =
      omega (arith, sizes_map f ys, sum_by-cons (λ (s : Spot). length s.word + 8) (f y) (map f ys), sum_by-cons (λ z. length (f z).word + 8) y ys)

  listed_size : sum_by (λ (o : Occurrence). length o.word.now + 8) xs ≡ sum_by (λ found. length (word_of columns found) + 8) (indexed_words rules columns)
  listed_size =
      sym (sizes_map spot_of xs) ∙ ap (sum_by (λ (s : Spot). length s.word + 8)) listed ∙ sizes_map (spot_in columns) (indexed_words rules columns)

  listed_few : IsRow columns → length xs ≤ 65544
  listed_few row =
      let few = few_words (indexed_words rules columns) (indexed_words_ascend columns rules) (all_low rules columns row) in
      let long : length xs ≡ length (indexed_words rules columns) = sym (length-map xs spot_of) ∙ ap length listed ∙ length-map (indexed_words rules columns) (spot_in columns) in
      omega arith

  listed_short : rules.max ≤ 255 → All (λ o. length o.word.now ≤ 255) xs
  listed_short max =
      let S : Spot → Type 0 = λ s. length s.word ≤ 255 in
      let words : All (λ (w : PlacedWord). S (spot_in columns w)) (indexed_words rules columns)
      = All-weaker (IsIndexedWord rules columns) (λ (w : PlacedWord). S (spot_in columns w)) (λ (w : PlacedWord) (word : IsIndexedWord rules columns w).
      let v : List ℕ = word_of columns w in
      let parts = and_parts (nat_le rules.min (length v) && nat_le (length v) rules.max) (not (is_among rules.stopwords v)) word.indexable in
      let long = leb-true (length v) rules.max (and_parts (nat_le rules.min (length v)) (nat_le (length v) rules.max) parts.0).1 in
      omega arith) (indexed_words rules columns) (indexed_words_each columns rules) in
      let spots : All S (map spot_of xs) = subst (All S) (sym listed) (All-map S (spot_in columns) (indexed_words rules columns) words) in
      λ k d less. subst S (get_or-map spot_of xs k d (spot_of d) less) (spots k (spot_of d) (omega (arith, length-map xs spot_of)))

  -- the list, once it is sorted
  pub listed_sorted : (ys : List Occurrence) → IsRow columns → rules.max ≤ 255 → IsPermutation xs ys → IsSortedBy stands_before ys → AreSorted rules columns ys
  listed_sorted ys row max same sorted = record {
    sorted = by_words ys sorted;
    positions = λ word. same_positions xs ys same listed_ascend sorted word ∙ listed_positions word;
    size = sum_by-IsPermutation (λ (o : Occurrence). length o.word.now + 8) xs ys same ∙ listed_size;
    few = omega (arith, length_permutation xs ys same, listed_few row);
    short = All-permutation (λ o. length o.word.now ≤ 255) xs ys same (listed_short max);
  }
