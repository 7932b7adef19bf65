-- A document that is made of sorted occurrences, a run of one word after another.
use Rattle.std.proofs.Common.{◌≡◌, ◌≢◌, ⊎_elim, ℕ, suc, ◌+◌, ◌*◌, ◌<◌, ◌≤◌, Bool, true, false, cond, List, [], ◌∷◌, ◌++◌, map, filter, length, sum_by, take, drop, take_while, sym, refl, ap, ◌∙◌, subst, append-nil, arith, bytes_eq, is_lt, is_eq, nat_cmp, Ordering, Less, Equal, Greater, IsSortedBy, ◌⊎◌, mul-le-mul_left, slice_get, Some}
use Rattle.std.specs.List.{AllByRecursion, AllPairs, prefix_len}
use Rattle.std.specs.Cmp.Lexicographic.{slice_cmp}
use Rattle.std.specs.Ordering.{ordering_reverse}
use Rattle.std.proofs.lemmas.Bool.{false≢true}
use Rattle.std.proofs.lemmas.Cmp.{nat_list_cmp_total, tied_itself}
use Rattle.std.proofs.lemmas.List.{length-map, map_push}
use Rattle.std.proofs.lemmas.List.Elements.{recursion_from_All, filter-append}
use Rattle.std.proofs.lemmas.List.Folds.{length-prefix_len}
use Rattle.std.proofs.lemmas.List.Sorted.{sorted_far}
use Rattle.std.proofs.Math.Nat.{suc-mul}
use Rattle.std.proofs.lemmas.List.Sums.{sum_by-cons}
use Rattle.std.proofs.lemmas.Map.Text.{is_eq-slice_cmp}
use Rattle.fts_types.specs.Row.{IsRow, Row}
use Rattle.fts_words.specs.Indexed.{Rules}
use Rattle.fts_words.proofs.RunLemmas.{AllPairs-head, AllPairs-tail}
use Rattle.fts_ilist.specs.Spelling.{Posting, PositionsFrom}
use Rattle.fts_cache.specs.Document.{Document, WordPositions, document_size, found_words, postings_from, IsBefore, EndsBefore, CanPush}
use Rattle.fts_cache.proofs.Queues.{which_word, is_same}
use Rattle.fts_cache.proofs.Documents.{size_push, found_here, found_later}
use Rattle.fts_index.specs.declared.keyed.Occurrence.{Occurrence}
use Rattle.fts_entries.specs.Words.{posting_at, row_postings, row_size}
use Rattle.fts_entries.proofs.Places.{positions_spelled}
use Rattle.fts_index.specs.Occurrences.{comes_before, is_of, positions_among, AreSorted}
use Rattle.fts_index.proofs.Sorting.{ranks}

-- ---- the front of a list that passes a test, and what stands behind it

abbrev front : (Occurrence → Bool) → List Occurrence → List Occurrence
front p [] = []
front p (x ∷ xs) = cond (p x) (x ∷ front p xs) []

abbrev back : (Occurrence → Bool) → List Occurrence → List Occurrence
back p [] = []
back p (x ∷ xs) = cond (p x) (back p xs) (x ∷ xs)

take_step : (b : Bool) (n : ℕ) (x : Occurrence) (xs ys : List Occurrence) → take n xs ≡ ys → take (cond b (1 + n) 0) (x ∷ xs) ≡ cond b (x ∷ ys) []
take_step true n x xs ys e = let k : 1 + n ≡ suc n = omega arith in ap (λ (m : ℕ). take m (x ∷ xs)) k ∙ ap (λ (l : List Occurrence). x ∷ l) e
take_step false n x xs ys e = refl

drop_step : (b : Bool) (n : ℕ) (x : Occurrence) (xs ys : List Occurrence) → drop n xs ≡ ys → drop (cond b (1 + n) 0) (x ∷ xs) ≡ cond b ys (x ∷ xs)
drop_step true n x xs ys e = let k : 1 + n ≡ suc n = omega arith in ap (λ (m : ℕ). drop m (x ∷ xs)) k ∙ e
drop_step false n x xs ys e = refl

front_is : (p : Occurrence → Bool) (xs : List Occurrence) → take (prefix_len p xs) xs ≡ front p xs
front_is p [] = refl
front_is p (x ∷ xs) = take_step (p x) (prefix_len p xs) x xs (front p xs) (front_is p xs)

back_is : (p : Occurrence → Bool) (xs : List Occurrence) → drop (prefix_len p xs) xs ≡ back p xs
back_is p [] = refl
back_is p (x ∷ xs) = drop_step (p x) (prefix_len p xs) x xs (back p xs) (back_is p xs)

-- the parts, by the length that is counted
pub run_front : (p : Occurrence → Bool) (xs : List Occurrence) (n : ℕ) → n ≡ length (take_while p xs) → take n xs ≡ front p xs
run_front p xs n e = ap (λ (k : ℕ). take k xs) (e ∙ length-prefix_len p xs) ∙ front_is p xs

pub run_back : (p : Occurrence → Bool) (xs : List Occurrence) (n : ℕ) → n ≡ length (take_while p xs) → drop n xs ≡ back p xs
run_back p xs n e = ap (λ (k : ℕ). drop k xs) (e ∙ length-prefix_len p xs) ∙ back_is p xs

lengths_step : (b : Bool) (x : Occurrence) (xs us vs : List Occurrence) → length us + length vs ≡ length xs → length (cond b (x ∷ us) []) + length (cond b vs (x ∷ xs)) ≡ length (x ∷ xs)
lengths_step true x xs us vs e = omega arith
lengths_step false x xs us vs e = omega arith

lengths : (p : Occurrence → Bool) (xs : List Occurrence) → length (front p xs) + length (back p xs) ≡ length xs
lengths p [] = refl
lengths p (x ∷ xs) = lengths_step (p x) x xs (front p xs) (back p xs) (lengths p xs)

sums_step : (f : Occurrence → ℕ) (b : Bool) (x : Occurrence) (xs us vs : List Occurrence) → sum_by f us + sum_by f vs ≡ sum_by f xs → sum_by f (cond b (x ∷ us) []) + sum_by f (cond b vs (x ∷ xs)) ≡ sum_by f (x ∷ xs)
sums_step f true x xs us vs e = omega (arith, e, sum_by-cons f x us, sum_by-cons f x xs)
sums_step f false x xs us vs e = omega arith

sums : (f : Occurrence → ℕ) (p : Occurrence → Bool) (xs : List Occurrence) → sum_by f (front p xs) + sum_by f (back p xs) ≡ sum_by f xs
sums f p [] = refl
sums f p (x ∷ xs) = sums_step f (p x) x xs (front p xs) (back p xs) (sums f p xs)

-- ---- in order

-- no word comes before one that stands in front of it
abbrev Ascend : List Occurrence → Type 0
Ascend [] = Unit {0}
Ascend (x ∷ xs) = AllByRecursion (λ y. comes_before y x ≡ false) xs × Ascend xs

ascend_from_pairs : (xs : List Occurrence) → AllPairs (λ x y. comes_before y x ≡ false) xs → Ascend xs
ascend_from_pairs [] h = tt
ascend_from_pairs (x ∷ xs) h =
    let R : Occurrence → Occurrence → Type 0 = λ v w. comes_before w v ≡ false in
    (recursion_from_All (R x) xs (AllPairs-head R x xs h), ascend_from_pairs xs (AllPairs-tail R x xs h))

ascend : (xs : List Occurrence) → IsSortedBy comes_before xs → Ascend xs
ascend xs up = ascend_from_pairs xs (λ i j d less within. sorted_far comes_before ranks xs up i j d (omega arith) within)

all_back : (P : Occurrence → Type 0) (p : Occurrence → Bool) (xs : List Occurrence) → AllByRecursion P xs → AllByRecursion P (back p xs)
all_back P p [] h = tt
all_back P p (x ∷ xs) h = by (p x) (all_back P p xs h.1)
  where
    by : (b : Bool) → AllByRecursion P (back p xs) → AllByRecursion P (cond b (back p xs) (x ∷ xs))
    by true rest = rest
    by false rest = h

ascend_back : (p : Occurrence → Bool) (xs : List Occurrence) → Ascend xs → Ascend (back p xs)
ascend_back p [] h = tt
ascend_back p (x ∷ xs) h = by (p x) (ascend_back p xs h.1)
  where
    by : (b : Bool) → Ascend (back p xs) → Ascend (cond b (back p xs) (x ∷ xs))
    by true rest = rest
    by false rest = h

-- ---- words in order

upto : (p q : Ordering) → p ≡ ordering_reverse q → is_lt q ≡ false → is_eq p ≡ false → p ≡ Less
upto Less q e le ne = refl
upto Equal q e le ne = absurd (false≢true (sym ne))
upto Greater Less e le ne = absurd (false≢true (sym le))
upto Greater Equal e le ne = absurd cc
upto Greater Greater e le ne = absurd cc

-- a word that is not before v, and another one, is behind it
strictly_before : (v w : List ℕ) → is_lt (slice_cmp nat_cmp w v) ≡ false → bytes_eq v w ≡ false → IsBefore v w
strictly_before v w le ne = upto (slice_cmp nat_cmp v w) (slice_cmp nat_cmp w v) (nat_list_cmp_total.antisymm v w) le (is_eq-slice_cmp v w ∙ ne)

-- what is before v is before each word that is not before v
before_upto : (u v w : List ℕ) → IsBefore u v → is_lt (slice_cmp nat_cmp w v) ≡ false → IsBefore u w
before_upto u v w lt le =
    ⊎_elim
    (λ (e : (bytes_eq v w ≡ true) × (v ≡ w)). subst (λ (x : List ℕ). IsBefore u x) e.1 lt)
    (λ (e : (bytes_eq v w ≡ false) × (v ≢ w)). nat_list_cmp_total.trans u v w lt (strictly_before v w le e.0))
    (which_word v w)

different : (v w : List ℕ) → IsBefore v w → bytes_eq v w ≡ false
different v w lt = sym (is_eq-slice_cmp v w) ∙ ap is_eq lt

-- none of these comes before the word
abbrev AtLeast : List ℕ → List Occurrence → Type 0
AtLeast v xs = AllByRecursion (λ o. is_lt (slice_cmp nat_cmp o.word.now v) ≡ false) xs

one_more : (n k : ℕ) → suc n * k ≡ k + n * k
one_more n k = (let e = suc-mul n k in omega (arith, e))

-- a run counts so much for each of its occurrences
run_counts : (v : List ℕ) (xs : List Occurrence) → sum_by (λ (o : Occurrence). length o.word.now + 8) (front (is_of v) xs) ≡ length (front (is_of v) xs) * (length v + 8)
run_counts v [] = omega arith
run_counts v (x ∷ xs) = by (run_counts v xs) (which_word v x.word.now)
  where
    size : Occurrence → ℕ
    size o = length o.word.now + 8

    by : sum_by size (front (is_of v) xs) ≡ length (front (is_of v) xs) * (length v + 8) → ((bytes_eq v x.word.now ≡ true) × (v ≡ x.word.now)) ⊎ ((bytes_eq v x.word.now ≡ false) × (v ≢ x.word.now))
        → sum_by size (cond (is_of v x) (x ∷ front (is_of v) xs) []) ≡ length (cond (is_of v x) (x ∷ front (is_of v) xs) []) * (length v + 8)
    by rest which =
        ⊎_elim
        (λ (e : (bytes_eq v x.word.now ≡ true) × (v ≡ x.word.now)).
        subst (λ (b : Bool). sum_by size (cond b (x ∷ front (is_of v) xs) []) ≡ length (cond b (x ∷ front (is_of v) xs) []) * (length v + 8)) (sym e.0)
        (sum_by-cons size x (front (is_of v) xs) ∙ ap (λ (w : List ℕ). length w + 8 + sum_by size (front (is_of v) xs)) (sym e.1) ∙ ap (λ (n : ℕ). length v + 8 + n) rest ∙ sym (one_more (length (front (is_of v) xs)) (length v + 8))))
        (λ (e : (bytes_eq v x.word.now ≡ false) × (v ≢ x.word.now)).
        subst (λ (b : Bool). sum_by size (cond b (x ∷ front (is_of v) xs) []) ≡ length (cond b (x ∷ front (is_of v) xs) []) * (length v + 8)) (sym e.0) (omega arith))
        which

-- all of these come behind the word
abbrev Behind : List ℕ → List Occurrence → Type 0
Behind v xs = AllByRecursion (λ o. IsBefore v o.word.now) xs

behind_upto : (u v : List ℕ) (xs : List Occurrence) → IsBefore u v → AtLeast v xs → Behind u xs
behind_upto u v [] lt h = tt
behind_upto u v (x ∷ xs) lt h = (before_upto u v x.word.now lt h.0, behind_upto u v xs lt h.1)

none_behind : (v : List ℕ) (xs : List Occurrence) → Behind v xs → filter (is_of v) xs ≡ []
none_behind v [] h = refl
none_behind v (x ∷ xs) h = ap (λ (b : Bool). cond b (x ∷ filter (is_of v) xs) (filter (is_of v) xs)) (different v x.word.now h.0) ∙ none_behind v xs h.1

module _ (v : List ℕ) where
  -- behind the run of the word all is behind the word
  back_behind : (xs : List Occurrence) → AtLeast v xs → Ascend xs → Behind v (back (is_of v) xs)
  back_behind [] h up = tt
  back_behind (x ∷ xs) h up = by (is_of v x) refl (back_behind xs h.1 up.1)
    where
      by : (b : Bool) → is_of v x ≡ b → Behind v (back (is_of v) xs) → Behind v (cond b (back (is_of v) xs) (x ∷ xs))
      by true e rest = rest
      by false e rest = let first = strictly_before v x.word.now h.0 e in (first, behind_upto v x.word.now xs first up.0)

  -- the run has each occurrence of the word
  front_all : (xs : List Occurrence) → AtLeast v xs → Ascend xs → front (is_of v) xs ≡ filter (is_of v) xs
  front_all [] h up = refl
  front_all (x ∷ xs) h up = by (is_of v x) refl (front_all xs h.1 up.1)
    where
      by : (b : Bool) → is_of v x ≡ b → front (is_of v) xs ≡ filter (is_of v) xs → cond b (x ∷ front (is_of v) xs) [] ≡ cond b (x ∷ filter (is_of v) xs) (filter (is_of v) xs)
      by true e rest = ap (λ (l : List Occurrence). x ∷ l) rest
      by false e rest = sym (none_behind v xs (behind_upto v x.word.now xs (strictly_before v x.word.now h.0 e) up.0))

  -- it has no occurrence of another word
  others_back : (w : List ℕ) (xs : List Occurrence) → bytes_eq w v ≡ false → filter (is_of w) (back (is_of v) xs) ≡ filter (is_of w) xs
  others_back w [] ne = refl
  others_back w (x ∷ xs) ne = by (others_back w xs ne) (which_word v x.word.now)
    where
      same : filter (is_of w) (back (is_of v) xs) ≡ filter (is_of w) xs → (bytes_eq v x.word.now ≡ true) × (v ≡ x.word.now) → filter (is_of w) (back (is_of v) (x ∷ xs)) ≡ filter (is_of w) (x ∷ xs)
      same rest e =
          ap (λ (b : Bool). filter (is_of w) (cond b (back (is_of v) xs) (x ∷ xs))) e.0
          ∙ rest
          ∙ sym (ap (λ (b : Bool). cond b (x ∷ filter (is_of w) xs) (filter (is_of w) xs)) (ap (bytes_eq w) (sym e.1) ∙ ne))

      other : (bytes_eq v x.word.now ≡ false) × (v ≢ x.word.now) → filter (is_of w) (back (is_of v) (x ∷ xs)) ≡ filter (is_of w) (x ∷ xs)
      other e = ap (λ (b : Bool). filter (is_of w) (cond b (back (is_of v) xs) (x ∷ xs))) e.0

      by : filter (is_of w) (back (is_of v) xs) ≡ filter (is_of w) xs → ((bytes_eq v x.word.now ≡ true) × (v ≡ x.word.now)) ⊎ ((bytes_eq v x.word.now ≡ false) × (v ≢ x.word.now)) → filter (is_of w) (back (is_of v) (x ∷ xs)) ≡ filter (is_of w) (x ∷ xs)
      by rest which = ⊎_elim (same rest) other which

-- ---- the document so far

ends_push : (ws : List WordPositions) (v : WordPositions) (w : List ℕ) → IsBefore v.word w → EndsBefore (ws ++ v ∷ []) w
ends_push [] v w h = h
ends_push (u ∷ []) v w h = h
ends_push (u ∷ (t ∷ ts)) v w h = ends_push (t ∷ ts) v w h

ends_all : (ws : List WordPositions) (v : WordPositions) (xs : List Occurrence) → Behind v.word xs → AllByRecursion (λ o. EndsBefore (ws ++ v ∷ []) o.word.now) xs
ends_all ws v [] h = tt
ends_all ws v (x ∷ xs) h = (ends_push ws v x.word.now h.0, ends_all ws v xs h.1)

abbrev shown : ℕ → WordPositions → Posting
shown id w = record { id = id; positions = w.positions }

-- one more word puts its positions into its own list
postings_here : (id : ℕ) (w : List ℕ) (ws : List WordPositions) (v : WordPositions) → w ≡ v.word → postings_from id w (ws ++ v ∷ []) ≡ postings_from id w ws ++ record { id = id; positions = v.positions } ∷ []
postings_here id w ws v e =
    ap (map (shown id)) (filter-append (λ (u : WordPositions). bytes_eq w u.word) ws (v ∷ []) ∙ ap (λ (l : List WordPositions). found_words w ws ++ l) (found_here w v [] (subst (λ (x : List ℕ). bytes_eq w x ≡ true) e (is_same w))))
    ∙ map_push (shown id) (found_words w ws) v

-- and nothing into the list of another
postings_other : (id : ℕ) (w : List ℕ) (ws : List WordPositions) (v : WordPositions) → bytes_eq w v.word ≡ false → postings_from id w (ws ++ v ∷ []) ≡ postings_from id w ws
postings_other id w ws v e =
    ap (map (shown id)) (filter-append (λ (u : WordPositions). bytes_eq w u.word) ws (v ∷ []) ∙ ap (λ (l : List WordPositions). found_words w ws ++ l) (found_later w v [] e) ∙ append-nil (found_words w ws))

posting_at_some : (id : ℕ) (ps : List ℕ) → 0 < length ps → posting_at id ps ≡ record { id = id; positions = ps } ∷ []
posting_at_some id [] some = absurd (omega (arith, some))
posting_at_some id (p ∷ ps) some = refl

-- what the document has, and what the rest of the occurrences add to it, is the row's
pub record IsBuilding (rules : Rules) (row : Row) (document : Document) (rest : List Occurrence) : Type 0 where
  pub id : document.id ≡ row.doc
  pub postings : (word : List ℕ) → postings_from row.doc word document.words ++ posting_at row.doc (positions_among word rest) ≡ row_postings rules word row
  pub up : Ascend rest
  pub ends : AllByRecursion (λ o. EndsBefore document.words o.word.now) rest
  pub spelled : (word : List ℕ) → PositionsFrom 0 (positions_among word rest)
  pub short : AllByRecursion (λ o. length o.word.now ≤ 255) rest
  -- 16, and 255 + 8 for each of 65,544 occurrences
  pub size : document_size document + 263 * length rest ≤ 17238088
  pub counted : document_size document + sum_by (λ o. length o.word.now + 8) rest ≡ row_size rules row

module _ (rules : Rules) (row : Row) where
  -- nothing ends behind a word
  ends_none : (xs : List Occurrence) → AllByRecursion (λ o. EndsBefore [] o.word.now) xs
  ends_none [] = tt
  ends_none (x ∷ xs) = (tt, ends_none xs)

  pub building_begins : (document : Document) (xs : List Occurrence) → document ≡ record { id = row.doc; words = [] } → AreSorted rules row.texts xs → IsRow row.texts → IsBuilding rules row document xs
  building_begins document xs new sorted texts =
      let few = sorted.few in
      let empty : IsBuilding rules row (record { id = row.doc; words = [] }) xs = record {
        id = refl;
        postings = λ word. ap (posting_at row.doc) (sorted.positions word);
        up = ascend xs sorted.sorted;
        ends = ends_none xs;
        spelled = λ word. subst (PositionsFrom 0) (sym (sorted.positions word)) (positions_spelled rules row.texts word texts);
        short = recursion_from_All (λ (o : Occurrence). length o.word.now ≤ 255) xs sorted.short;
        size = omega arith;
        counted = omega (arith, sorted.size);
      } in
      subst (λ (d : Document). IsBuilding rules row d xs) (sym new) empty

  module _ (document : Document) (x : Occurrence) (xs : List Occurrence) (building : IsBuilding rules row document (x ∷ xs)) where
    abbrev run : List Occurrence
    run = front (is_of x.word.now) (x ∷ xs)

    abbrev behind : List Occurrence
    behind = back (is_of x.word.now) (x ∷ xs)

    abbrev pushed : WordPositions
    pushed = record { word = x.word.now; positions = map (λ o. o.position) run }

    itself : is_of x.word.now x ≡ true
    itself = is_same x.word.now

    at_least : AtLeast x.word.now (x ∷ xs)
    at_least = (ap is_lt (tied_itself nat_list_cmp_total x.word.now), building.up.0)

    run_is : map (λ (o : Occurrence). o.position) run ≡ positions_among x.word.now (x ∷ xs)
    run_is = ap (map (λ (o : Occurrence). o.position)) (front_all x.word.now (x ∷ xs) at_least building.up)

    behind_is : Behind x.word.now behind
    behind_is = back_behind x.word.now (x ∷ xs) at_least building.up

    parts : length run + length behind ≡ length (x ∷ xs)
    parts = lengths (is_of x.word.now) (x ∷ xs)

    run_some : 0 < length run
    run_some = subst (λ (b : Bool). 0 < length (cond b (x ∷ front (is_of x.word.now) xs) [])) (sym itself) (omega arith)

    run_long : length pushed.positions ≡ length run
    run_long = length-map run (λ (o : Occurrence). o.position)

    added : length pushed.positions * (length x.word.now + 8) ≤ 263 * length run
    added =
        let short = building.short.0 in
        let bound : length x.word.now + 8 ≤ 263 = omega arith in
        omega (arith, run_long, ap (λ (n : ℕ). n * (length x.word.now + 8)) run_long, mul-le-mul_left (length run) bound)

    run_can_push : CanPush document pushed.word pushed.positions
    run_can_push = record {
      above = building.ends.0;
      are_positions = (omega (arith, run_long, run_some), subst (PositionsFrom 0) (sym run_is) (building.spelled x.word.now));
      small = let size = building.size in omega (arith, added, parts);
    }

    none_left : positions_among x.word.now behind ≡ []
    none_left = ap (map (λ (o : Occurrence). o.position)) (none_behind x.word.now behind behind_is)

    same_left : (w : List ℕ) → bytes_eq w x.word.now ≡ false → positions_among w behind ≡ positions_among w (x ∷ xs)
    same_left w ne = ap (map (λ (o : Occurrence). o.position)) (others_back x.word.now w (x ∷ xs) ne)

    here : (w : List ℕ) → w ≡ x.word.now → postings_from row.doc w (document.words ++ pushed ∷ []) ++ posting_at row.doc (positions_among w behind) ≡ row_postings rules w row
    here w e =
        let none : positions_among w behind ≡ [] = ap (λ (u : List ℕ). positions_among u behind) e ∙ none_left in
        let all : pushed.positions ≡ positions_among w (x ∷ xs) = run_is ∙ ap (λ (u : List ℕ). positions_among u (x ∷ xs)) (sym e) in
        ap (λ (ps : List ℕ). postings_from row.doc w (document.words ++ pushed ∷ []) ++ posting_at row.doc ps) none
        ∙ append-nil (postings_from row.doc w (document.words ++ pushed ∷ []))
        ∙ postings_here row.doc w document.words pushed e
        ∙ ap (λ (l : List Posting). postings_from row.doc w document.words ++ l) (sym (posting_at_some row.doc pushed.positions (omega (arith, run_long, run_some))) ∙ ap (posting_at row.doc) all)
        ∙ building.postings w

    elsewhere : (w : List ℕ) → bytes_eq w x.word.now ≡ false → postings_from row.doc w (document.words ++ pushed ∷ []) ++ posting_at row.doc (positions_among w behind) ≡ row_postings rules w row
    elsewhere w ne =
        ap (λ (ps : List ℕ). postings_from row.doc w (document.words ++ pushed ∷ []) ++ posting_at row.doc ps) (same_left w ne)
        ∙ ap (λ (l : List Posting). l ++ posting_at row.doc (positions_among w (x ∷ xs))) (postings_other row.doc w document.words pushed ne)
        ∙ building.postings w

    spelled_left : (w : List ℕ) → PositionsFrom 0 (positions_among w behind)
    spelled_left w =
        ⊎_elim
        (λ (e : (bytes_eq w x.word.now ≡ true) × (w ≡ x.word.now)). subst (PositionsFrom 0) (sym (ap (λ (u : List ℕ). positions_among u behind) e.1 ∙ none_left)) tt)
        (λ (e : (bytes_eq w x.word.now ≡ false) × (w ≢ x.word.now)). subst (PositionsFrom 0) (sym (same_left w e.0)) (building.spelled w))
        (which_word w x.word.now)

    run_pushed : IsBuilding rules row (record document { words = document.words ++ pushed ∷ [] }) behind
    run_pushed =
        let size = building.size in
        record {
          id = building.id;
          postings = λ w. ⊎_elim
              (λ (e : (bytes_eq w x.word.now ≡ true) × (w ≡ x.word.now)). here w e.1)
              (λ (e : (bytes_eq w x.word.now ≡ false) × (w ≢ x.word.now)). elsewhere w e.0)
              (which_word w x.word.now);
          up = ascend_back (is_of x.word.now) (x ∷ xs) building.up;
          ends = ends_all document.words pushed behind behind_is;
          spelled = spelled_left;
          short = all_back (λ o. length o.word.now ≤ 255) (is_of x.word.now) (x ∷ xs) building.short;
          size = omega (arith, size_push document.words pushed, added, parts);
          counted = omega (arith, size_push document.words pushed, building.counted, sums (λ (o : Occurrence). length o.word.now + 8) (is_of x.word.now) (x ∷ xs), run_counts x.word.now (x ∷ xs), ap (λ (n : ℕ). n * (length x.word.now + 8)) run_long);
        }

-- ---- a turn of the loop

-- the rest from the first on
split_first : (x : Occurrence) (rest : List Occurrence) → slice_get rest 0 ≡ Some x → (xs : List Occurrence) × (rest ≡ x ∷ xs)
split_first x [] e = absurd cc
split_first x (y ∷ ys) e = (ys, let same : y ≡ x = cc in ap (λ (z : Occurrence). z ∷ ys) same)

-- the word can be added with its positions, and what stands behind its run is the rest
pub record IsTurn (rules : Rules) (row : Row) (document : Document) (rest : List Occurrence) (w ps : List ℕ) (n : ℕ) : Type 0 where
  pub can_push : CanPush document w ps
  pub pushed : IsBuilding rules row (record document { words = document.words ++ record { word = w; positions = ps } ∷ [] }) (drop n rest)
  pub shorter : length (drop n rest) < length rest

module _ (rules : Rules) (row : Row) (document : Document) (x : Occurrence) (w ps : List ℕ) (n : ℕ) (word : w ≡ x.word.now) where
  turn_here : (xs : List Occurrence) → n ≡ length (take_while (is_of w) (x ∷ xs)) → ps ≡ map (λ o. o.position) (take n (x ∷ xs)) → IsBuilding rules row document (x ∷ xs) → IsTurn rules row document (x ∷ xs) w ps n
  turn_here xs long positions building =
      let fit : n ≡ length (take_while (is_of x.word.now) (x ∷ xs)) = long ∙ ap (λ (u : List ℕ). length (take_while (is_of u) (x ∷ xs))) word in
      let ps_are : ps ≡ map (λ (o : Occurrence). o.position) (run rules row document x xs building) = positions ∙ ap (map (λ (o : Occurrence). o.position)) (run_front (is_of x.word.now) (x ∷ xs) n fit) in
      let left : drop n (x ∷ xs) ≡ behind rules row document x xs building = run_back (is_of x.word.now) (x ∷ xs) n fit in
      let shown : pushed rules row document x xs building ≡ record { word = w; positions = ps } = λ i. record { word = sym word i; positions = sym ps_are i } in
      let more = parts rules row document x xs building in
      let some = run_some rules row document x xs building in
      record {
        can_push = subst (λ (v : WordPositions). CanPush document v.word v.positions) shown (run_can_push rules row document x xs building);
        pushed = subst (IsBuilding rules row (record document { words = document.words ++ record { word = w; positions = ps } ∷ [] })) (sym left)
            (subst (λ (v : WordPositions). IsBuilding rules row (record document { words = document.words ++ v ∷ [] }) (behind rules row document x xs building)) shown (run_pushed rules row document x xs building));
        shorter = omega (arith, ap length left);
      }

  pub turn : (rest : List Occurrence) → slice_get rest 0 ≡ Some x → n ≡ length (take_while (is_of w) rest) → ps ≡ map (λ o. o.position) (take n rest) → IsBuilding rules row document rest → IsTurn rules row document rest w ps n
  turn rest first long positions building =
      let split = split_first x rest first in
      subst (λ (l : List Occurrence). IsTurn rules row document l w ps n) (sym split.1)
      (turn_here split.0 (long ∙ ap (λ (l : List Occurrence). length (take_while (is_of w) l)) split.1)
      (positions ∙ ap (λ (l : List Occurrence). map (λ (o : Occurrence). o.position) (take n l)) split.1)
      (subst (IsBuilding rules row document) split.1 building))
