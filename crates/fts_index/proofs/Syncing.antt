-- What an index stands for behind a batch, and that a batch which was planned is the next one.
use Rattle.std.proofs.Common.{◌≡◌, ◌≢◌, ℕ, zero, suc, ◌+◌, ◌-◌, ◌<◌, ◌≤◌, Bool, true, false, cond, not, ◌&&◌, ◌||◌, if◌then◌else◌, List, [], ◌∷◌, ◌++◌, map, filter, length, take, drop, get_or, slice_index_or, max, append-nil, nat_lt, nat_le, nat_eq, refl, sym, ap, ap₂, subst, ◌∙◌, arith, ⊎_elim}
use Rattle.std.specs.List.{All, AllByRecursion, AllPairs, Contains, dedup, flat_map, prefix_len, take_while, list_any, IsDistinct}
use Rattle.std.specs.List.Sorted.{IsStrictlySortedBy, IsStrictlyIncreasing}
use Rattle.std.proofs.lemmas.List.Kept.{AllPairs-from_increasing, Contains-dedup_nat, Contains-from_dedup}
use Rattle.std.proofs.lemmas.List.Folds.{length-prefix_len}
use Rattle.std.specs.Map.{keys_of}
use Rattle.std.proofs.Math.Nat.{max-le, le-max_left}
use Rattle.std.proofs.lemmas.Bool.{cases_lt, eq-eqb, or_right, false≢true, true≢false, leb-true, le-leb, lt-leb, eqb-true, or_cases}
use Rattle.std.proofs.lemmas.Grind.{flat_map-append}
use Rattle.std.proofs.lemmas.List.{take-append-drop, drop-drop, drop-map, length-map, length-drop}
use Rattle.std.proofs.lemmas.List.Elements.{filter-append, All-from_recursion}
use Rattle.std.proofs.lemmas.List.Folds.{list_any-append}
use Rattle.fts_words.specs.Indexed.{Rules}
use Rattle.fts_words.specs.Order.{byte_order}
use Rattle.fts_types.specs.Row.{Row}
use Rattle.fts_ids.specs.Ids.{has, Ascend, AscendFrom}
use Rattle.fts_ids.proofs.Ascending.{same_ids, has-filter, has_below}
use Rattle.fts_lists.specs.Ids.{with_ids}
use Rattle.fts_lists.specs.State.{ids_of, room_of}
use Rattle.fts_lists.specs.declared.lists.DeleteList.TheVariants.{Deleted, DeletedCache}
use Rattle.fts_lists.proofs.Merging.{has-with_ids, AscendFrom-with_ids}
use Rattle.fts_ilist.specs.Spelling.{Posting}
use Rattle.fts_ilist.specs.Node.{Docs, nodes_for, NodesAfter, last_of}
use Rattle.fts_ilist.specs.Packing.{packed}
use Rattle.fts_ilist.specs.Queue.{postings_behind}
use Rattle.fts_cache.specs.Cache.{CachedDocument, cached_behind}
use Rattle.fts_aux.specs.Table.{Room, needs, IsWithin}
use Rattle.fts_aux.specs.Tables as tables
use Rattle.fts_commits.specs.Turn.{Turn, RowsAscend, AreTurns, births_of, deaths_of}
use Rattle.fts_entries.specs.Entry.{IndexState, sealed, after_entry, unflushed, unflushed_through, flushed_deaths}
use Rattle.fts_entries.specs.Batch.{IsBatch, covers, covered_within, alive_of, largest_after, after_batch}
use Rattle.fts_entries.specs.Exact.{FitsTurns}
use Rattle.fts_entries.specs.Words.{rows_postings}
use Rattle.fts_entries.proofs.Filters.{same_left, leads}
use Rattle.fts_entries.proofs.Postings.{IsBetween, rows_left, ends_within}
use Rattle.fts_entries.proofs.Turns.{AreTwo, two_parts, births_ascend, deaths_within, asked_so, ids_rise, largest_behind}
use Rattle.fts_entries.proofs.Batches.{fails}
use Rattle.fts_entries.proofs.Groups.{own_nodes}
use Rattle.fts_entries.proofs.Kept.{through_within, same_state, comes_after}
use Rattle.fts_sync.specs.Leaving.{leaving, leaving_nodes}
use Rattle.fts_index.specs.declared.index.Index.{Index}
use Rattle.fts_index.specs.declared.pending.Pending.{Pending}
use Rattle.fts_index.specs.declared.sync.SyncPlan.{SyncPlan}
use Rattle.fts_index.specs.Stands.{AreCommits}
use Rattle.fts_index.specs.Index.{FitsSync, PendingSeen, pending_seen, pending_of, cached_row, Represents}
use Rattle.fts_index.specs.Parts.{counted_within, deaths_through, IsFlushed, HasSame}

-- ---- rows up to an id and behind it

all_pass : {X : Type 0} (test : X → Bool) (xs : List X) → AllByRecursion (λ x. test x ≡ true) xs → filter test xs ≡ xs
all_pass test [] h = refl
all_pass test (x ∷ xs) h = ap (λ (b : Bool). cond b (x ∷ filter test xs) (filter test xs)) h.0 ∙ ap (λ (ys : List _). x ∷ ys) (all_pass test xs h.1)

none_passes : {X : Type 0} (test : X → Bool) (xs : List X) → AllByRecursion (λ x. test x ≡ false) xs → filter test xs ≡ []
none_passes test [] h = refl
none_passes test (x ∷ xs) h = ap (λ (b : Bool). cond b (x ∷ filter test xs) (filter test xs)) h.0 ∙ none_passes test xs h.1

between : (low high : ℕ) (rows : List Row) → RowsAscend low high rows → AllByRecursion (λ row. IsBetween low high row.doc) rows
between low high [] ids = tt
between low high (row ∷ rows) ids = (
  record { above = ids.0; within = ends_within row.doc high rows ids.1 },
  leads (λ r. IsBetween row.doc high r.doc) (λ r. IsBetween low high r.doc) rows
      (λ r h. record { above = (let above = h.above in omega (arith, ids.0, above)); within = h.within }) (between row.doc high rows ids.1),
)

filter_map : {X Y : Type 0} (f : X → Y) (test : Y → Bool) (xs : List X) → filter test (map f xs) ≡ map f (filter (λ x. test (f x)) xs)
filter_map f test [] = refl
filter_map f test (x ∷ xs) = by (test (f x)) (filter_map f test xs)
  where
    by : (b : Bool) → filter test (map f xs) ≡ map f (filter (λ y. test (f y)) xs)
        → cond b (f x ∷ filter test (map f xs)) (filter test (map f xs)) ≡ map f (cond b (x ∷ filter (λ y. test (f y)) xs) (filter (λ y. test (f y)) xs))
    by true rest = ap (λ (ys : List _). f x ∷ ys) rest
    by false rest = rest

module _ (low synced high : ℕ) (front rest : List Row) (first : RowsAscend low synced front) (later : RowsAscend synced high rest) where
  rows_behind : filter (λ row. nat_lt synced row.doc) (front ++ rest) ≡ rest
  rows_behind =
      filter-append (λ (row : Row). nat_lt synced row.doc) front rest
      ∙ ap₂ (λ (xs ys : List Row). xs ++ ys)
      (none_passes (λ row. nat_lt synced row.doc) front
      (leads (λ row. IsBetween low synced row.doc) (λ row. nat_lt synced row.doc ≡ false) front
      (λ row h. lt-leb (suc synced) row.doc (let within = h.within in omega (arith, within))) (between low synced front first)))
      (all_pass (λ row. nat_lt synced row.doc) rest
      (leads (λ row. IsBetween synced high row.doc) (λ row. nat_lt synced row.doc ≡ true) rest
      (λ row h. le-leb (suc synced) row.doc (let above = h.above in omega (arith, above))) (between synced high rest later)))

  rows_until : filter (λ row. nat_le row.doc synced) (front ++ rest) ≡ front
  rows_until =
      filter-append (λ (row : Row). nat_le row.doc synced) front rest
      ∙ ap₂ (λ (xs ys : List Row). xs ++ ys)
      (all_pass (λ row. nat_le row.doc synced) front
      (leads (λ row. IsBetween low synced row.doc) (λ row. nat_le row.doc synced ≡ true) front
      (λ row h. le-leb row.doc synced (h.within)) (between low synced front first)))
      (none_passes (λ row. nat_le row.doc synced) rest
      (leads (λ row. IsBetween synced high row.doc) (λ row. nat_le row.doc synced ≡ false) rest
      (λ row h. lt-leb row.doc synced (h.above)) (between synced high rest later)))
      ∙ append-nil front

-- ---- ids that ascend

leb-false : (x y : ℕ) → nat_le x y ≡ false → y < x
leb-false x y e = ⊎_elim (λ (less : y < x). less) (λ (le : x ≤ y). absurd (false≢true (sym e ∙ le-leb x y le))) (cases_lt y x)

up_to_has : (low last : ℕ) (xs : List ℕ) → AscendFrom low xs → (id : ℕ) → has (take (prefix_len (λ x. nat_le x last) xs) xs) id ≡ (nat_le id last && has xs id)
up_to_has low last [] up id = sym (and_none (nat_le id last))
  where
    and_none : (a : Bool) → (a && false) ≡ false
    and_none true = refl
    and_none false = refl
up_to_has low last (x ∷ xs) up id = by (nat_le x last) refl (up_to_has (x + 1) last xs up.1 id)
  where
    n : ℕ
    n = prefix_len (λ y. nat_le y last) xs

    here : (b c l : Bool) → (b ≡ true → l ≡ true) → (b || (l && c)) ≡ (l && (b || c))
    here true c l h = ap (λ (z : Bool). true) (h refl) ∙ sym (ap (λ (z : Bool). z && true) (h refl))
    here false c l h = refl

    none : (b l : Bool) → (l ≡ true → b ≡ false) → false ≡ (l && b)
    none b true h = sym (h refl)
    none b false h = refl

    by : (b : Bool) → nat_le x last ≡ b → has (take n xs) id ≡ (nat_le id last && has xs id) → has (take (cond b (1 + n) 0) (x ∷ xs)) id ≡ (nat_le id last && has (x ∷ xs) id)
    by true e rest =
        let k : 1 + n ≡ suc n = omega arith in
        ap (λ (m : ℕ). has (take m (x ∷ xs)) id) k
        ∙ ap (λ (b : Bool). nat_eq id x || b) rest
        ∙ here (nat_eq id x) (has xs id) (nat_le id last) (λ same. ap (λ (m : ℕ). nat_le m last) (eqb-true id x same) ∙ e)
    by false e rest = none (has (x ∷ xs) id) (nat_le id last) (λ le. has_below x id (x ∷ xs) (omega arith, up.1) (let low = leb-true id last le in let high = leb-false x last e in omega (arith, low, high)))

-- the first of ids that ascend, up to one
pub up_to_is : (last : ℕ) (xs : List ℕ) (n : ℕ) → AscendFrom 0 xs → n ≡ length (take_while (λ x. nat_le x last) xs) → (id : ℕ) → has (take n xs) id ≡ (nat_le id last && has xs id)
up_to_is last xs n up is id =
    ap (λ (m : ℕ). has (take m xs) id) (is ∙ length-prefix_len (λ x. nat_le x last) xs) ∙ up_to_has 0 last xs up id

-- sorted ids, each once
ascend_from : (n : ℕ) (xs : List ℕ) → AllPairs (λ x y. x < y) xs → ((d : ℕ) → 0 < length xs → n ≤ get_or xs 0 d) → AscendFrom n xs
ascend_from n [] pairs low = tt
ascend_from n (x ∷ xs) pairs low = (
  low 0 (omega arith),
  ascend_from (x + 1) xs (λ i j d less lt. pairs (suc i) (suc j) d (omega (arith, less)) (omega (arith, lt)))
      (λ d some. (let less : x < get_or xs 0 d = pairs 0 1 d (omega arith) (omega (arith, some)) in omega (arith, less))),
)

pub increasing_ascends : (xs : List ℕ) → IsStrictlyIncreasing xs → AscendFrom 0 xs
increasing_ascends xs up = ascend_from 0 xs (AllPairs-from_increasing xs up) (λ d some. omega arith)

has_at : (xs : List ℕ) (id : ℕ) → Contains xs id → has xs id ≡ true
has_at xs id c = by xs c.0 c.1 c.2
  where
    by : (ys : List ℕ) (k : ℕ) → k < length ys → slice_index_or ys k id ≡ id → has ys id ≡ true
    by [] k less e = absurd (omega (arith, less))
    by (y ∷ ys) zero less e = ap (λ (b : Bool). b || has ys id) (eq-eqb id y (sym e))
    by (y ∷ ys) (suc k) less e = or_right (nat_eq id y) (has ys id) (by ys k (omega (arith, less)) e)

at_has : (xs : List ℕ) (id : ℕ) → has xs id ≡ true → Contains xs id
at_has [] id there = absurd (false≢true there)
at_has (x ∷ xs) id there =
    ⊎_elim
    (λ (e : nat_eq id x ≡ true). (let first : Contains (x ∷ xs) id = (0, omega arith, sym (eqb-true id x e)) in first))
    (λ (later : has xs id ≡ true). (let c = at_has xs id later in let more : Contains (x ∷ xs) id = (suc c.0, omega (arith, c.1), c.2) in more))
    (or_cases (nat_eq id x) (has xs id) there)

pub same_truth : (a b : Bool) → (a ≡ true → b ≡ true) → (b ≡ true → a ≡ true) → a ≡ b
same_truth true b f g = sym (f refl)
same_truth false true f g = g refl
same_truth false false f g = refl

-- each id once has the same ids
pub dedup_has : (xs : List ℕ) (id : ℕ) → has (dedup nat_eq xs) id ≡ has xs id
dedup_has xs id =
    same_truth (has (dedup nat_eq xs) id) (has xs id)
    (λ there. has_at xs id (Contains-from_dedup nat_eq xs id (at_has (dedup nat_eq xs) id there)))
    (λ there. has_at (dedup nat_eq xs) id (Contains-dedup_nat xs id (at_has xs id there)))

-- ---- the commits that wait

deaths_seen : (k : ℕ) (ps : List Pending) → deaths_through k ps ≡ flat_map (λ (p : PendingSeen). p.deaths) (take k (map pending_seen ps))
deaths_seen zero ps = refl
deaths_seen (suc k) [] = refl
deaths_seen (suc k) (p ∷ ps) = ap (λ (ids : List ℕ). p.deaths.items ++ ids) (deaths_seen k ps)

deaths_told : (k : ℕ) (ts : List Turn) → flat_map (λ (p : PendingSeen). p.deaths) (take k (map pending_of ts)) ≡ deaths_of (take k ts)
deaths_told zero ts = refl
deaths_told (suc k) [] = refl
deaths_told (suc k) (t ∷ ts) = ap (λ (ids : List ℕ). t.deaths ++ ids) (deaths_told k ts)

pub deaths_same : (k : ℕ) (ps : List Pending) (ts : List Turn) → map pending_seen ps ≡ map pending_of ts → deaths_through k ps ≡ deaths_of (take k ts)
deaths_same k ps ts same =
    deaths_seen k ps ∙ ap (λ (qs : List PendingSeen). flat_map (λ (p : PendingSeen). p.deaths) (take k qs)) same ∙ deaths_told k ts

counted_is : (limit born : ℕ) (ts : List Turn) → counted_within limit born (map pending_of ts) ≡ covered_within limit born ts
counted_is limit born [] = refl
counted_is limit born (t ∷ ts) = ap (λ (n : ℕ). if nat_lt limit (born + length t.births) then 0 else 1 + n) (counted_is limit (born + length t.births) ts)

pub covers_is : (limit : ℕ) (ps : List Pending) (ts : List Turn) → map pending_seen ps ≡ map pending_of ts → max 1 (counted_within limit 0 (map pending_seen ps)) ≡ covers limit ts
covers_is limit ps ts same = ap (λ (qs : List PendingSeen). max 1 (counted_within limit 0 qs)) same ∙ ap (max 1) (counted_is limit 0 ts)

pub long_as : (ps : List Pending) (ts : List Turn) → map pending_seen ps ≡ map pending_of ts → length ps ≡ length ts
long_as ps ts same = sym (length-map ps pending_seen) ∙ ap length same ∙ length-map ts pending_of

-- the largest id that the first of them used is that of the last one
largest_at : (n k : ℕ) (ts : List Turn) (d : PendingSeen) → k < length ts → largest_after n (take (suc k) ts) ≡ (get_or (map pending_of ts) k d).largest
largest_at n k [] d less = absurd (omega (arith, less))
largest_at n zero (t ∷ ts) d less = refl
largest_at n (suc k) (t ∷ ts) d less = largest_at t.largest k ts d (omega (arith, less))

seen_at : (k : ℕ) (ps : List Pending) (p : Pending) → get_or (map pending_seen ps) k (pending_seen p) ≡ pending_seen (get_or ps k p)
seen_at zero [] p = refl
seen_at (suc k) [] p = refl
seen_at zero (q ∷ ps) p = refl
seen_at (suc k) (q ∷ ps) p = seen_at k ps p

pub largest_same : (n k : ℕ) (ps : List Pending) (ts : List Turn) (p : Pending) → map pending_seen ps ≡ map pending_of ts → 0 < k → k ≤ length ps → p ≡ get_or ps (k - 1) p
    → p.largest ≡ largest_after n (take k ts)
largest_same n zero ps ts p same some within is = absurd (omega (arith, some))
largest_same n (suc k) ps ts p same some within is =
    let at : k ≡ suc k - 1 = omega arith in
    let long = long_as ps ts same in
    ap (λ (q : Pending). q.largest) (is ∙ ap (λ (m : ℕ). get_or ps m p) (sym at))
    ∙ ap (λ (q : PendingSeen). q.largest) (sym (seen_at k ps p) ∙ ap (λ (qs : List PendingSeen). get_or qs k (pending_seen p)) same)
    ∙ sym (largest_at n k ts (pending_seen p) (omega (arith, long, within)))

pub take_sum : (f k : ℕ) (ts : List Turn) → take (f + k) ts ≡ take f ts ++ take k (drop f ts)
take_sum zero k ts = ap (λ (n : ℕ). take n ts) (let e : 0 + k ≡ k = omega arith in e)
take_sum (suc f) zero [] = ap (λ (n : ℕ). take n none) (let e : suc f + 0 ≡ suc (f + 0) = omega arith in e)
  where
    none : List Turn
    none = []
take_sum (suc f) (suc k) [] = ap (λ (n : ℕ). take n none) (let e : suc f + suc k ≡ suc (f + suc k) = omega arith in e)
  where
    none : List Turn
    none = []
take_sum (suc f) k (t ∷ ts) =
    ap (λ (n : ℕ). take n (t ∷ ts)) (let e : suc f + k ≡ suc (f + k) = omega arith in e) ∙ ap (λ (us : List Turn). t ∷ us) (take_sum f k ts)

-- ---- none dies twice

apart : (xs ys : List ℕ) (id : ℕ) → IsDistinct nat_eq (xs ++ ys) → has xs id ≡ true → has ys id ≡ false
unfolding IsDistinct
apart [] ys id once here = absurd (false≢true here)
apart (x ∷ xs) ys id once here =
    ⊎_elim
    (λ (e : nat_eq id x ≡ true). absent x id (eqb-true id x e) (xs ++ ys) once.0 xs ys refl)
    (λ (later : has xs id ≡ true). apart xs ys id once.1 later)
    (or_cases (nat_eq id x) (has xs id) here)
  where
    absent : (x id : ℕ) → id ≡ x → (zs : List ℕ) → AllByRecursion (λ y. nat_eq x y ≡ false) zs → (us vs : List ℕ) → zs ≡ us ++ vs → has vs id ≡ false
    absent x id same zs all us vs is = both (has us id) (has vs id) (sym (list_any-append (nat_eq id) us vs) ∙ ap (λ (ids : List ℕ). has ids id) (sym is) ∙ none zs all)
      where
        none : (ws : List ℕ) → AllByRecursion (λ y. nat_eq x y ≡ false) ws → has ws id ≡ false
        none [] h = refl
        none (w ∷ ws) h = ap₂ (λ (b c : Bool). b || c) (ap (λ (n : ℕ). nat_eq n w) same ∙ h.0) (none ws h.1)

        both : (a b : Bool) → (a || b) ≡ false → b ≡ false
        both true b e = absurd (true≢false e)
        both false b e = e

last_apart : (xs ys : List ℕ) → IsDistinct nat_eq (xs ++ ys) → IsDistinct nat_eq ys
unfolding IsDistinct
last_apart [] ys once = once
last_apart (x ∷ xs) ys once = last_apart xs ys once.1

left_of : (a b : Bool) → (a ≡ true → b ≡ false) → (not a && (a || b)) ≡ b
left_of true b apart = sym (apart refl)
left_of false b apart = refl

-- ---- the commits of a batch

module _ (rules : Rules) (turns : List Turn) (s : IndexState) (k : ℕ) (synced : ℕ) (index : Index)
    (stands : Represents rules turns s index) (commits : AreCommits turns) (fits : FitsTurns turns s)
    (within : k ≤ length (unflushed turns s)) (is_synced : synced ≡ largest_after 0 (take (s.flushed + k) turns)) where
  abbrev wait : List Turn
  wait = unflushed turns s

  abbrev front : List Turn
  front = take k wait

  abbrev rest : List Turn
  rest = drop k wait

  both : front ++ rest ≡ wait
  both = take-append-drop k wait

  parts : AreTwo 0 (take s.flushed turns) wait
  parts = two_parts 0 (take s.flushed turns) wait (subst (AreTurns 0) (sym (take-append-drop s.flushed turns)) commits.ascend)

  halves : AreTwo s.synced front rest
  halves = two_parts s.synced front rest (subst (AreTurns s.synced) (sym both) (subst (λ n. AreTurns n wait) (sym fits.synced) parts.of_rest))

  synced_at : largest_after s.synced front ≡ synced
  synced_at =
      ap (λ (n : ℕ). largest_after n front) fits.synced ∙ sym (largest_behind 0 (take s.flushed turns) front)
      ∙ ap (largest_after 0) (sym (take_sum s.flushed k turns)) ∙ sym is_synced

  first_ids : RowsAscend s.synced synced (births_of front)
  first_ids = subst (λ n. RowsAscend s.synced n (births_of front)) synced_at (births_ascend s.synced front halves.of_front)

  later_ids : RowsAscend synced (largest_after synced rest) (births_of rest)
  later_ids = births_ascend synced rest (subst (λ n. AreTurns n rest) synced_at halves.of_rest)

  births_both : births_of wait ≡ births_of front ++ births_of rest
  births_both = ap births_of (sym both) ∙ flat_map-append (λ (t : Turn). t.births) front rest

  deaths_both : deaths_of wait ≡ deaths_of front ++ deaths_of rest
  deaths_both = ap deaths_of (sym both) ∙ flat_map-append (λ (t : Turn). t.deaths) front rest

  left_behind : filter (λ row. nat_lt synced row.doc) (births_of wait) ≡ births_of rest
  left_behind =
      ap (filter (λ (row : Row). nat_lt synced row.doc)) births_both
      ∙ rows_behind s.synced synced (largest_after synced rest) (births_of front) (births_of rest) first_ids later_ids

  left_until : filter (λ row. nat_le row.doc synced) (births_of wait) ≡ births_of front
  left_until =
      ap (filter (λ (row : Row). nat_le row.doc synced)) births_both
      ∙ rows_until s.synced synced (largest_after synced rest) (births_of front) (births_of rest) first_ids later_ids

  -- whom its commits bore, and no commit took away
  pub leaves : (word : List ℕ) → leaving_nodes index.cache synced index.lists word ≡ packed (rows_postings rules word (alive_of turns front))
  leaves word =
      let dead : List ℕ = ids_of DeletedCache index.lists in
      ap (λ (ps : List Posting). packed (leaving synced dead ps)) (stands.cache word)
      ∙ ap (λ (ps : List Posting). packed (filter (λ p. not (has dead p.id)) ps))
      (sym (rows_left rules word (λ id. nat_le id synced) (births_of wait)) ∙ ap (rows_postings rules word) left_until)
      ∙ ap packed (sym (rows_left rules word (λ id. not (has dead id)) (births_of front)) ∙ ap (rows_postings rules word) alive)
    where
      alive : filter (λ row. not (has (ids_of DeletedCache index.lists) row.doc)) (births_of front) ≡ alive_of turns front
      alive =
          same_left (λ row. not (has (ids_of DeletedCache index.lists) row.doc)) (λ row. not (list_any (λ id. nat_eq id row.doc) (deaths_of turns))) (births_of front)
          (leads (λ row. IsBetween s.synced synced row.doc) (λ row. not (has (ids_of DeletedCache index.lists) row.doc) ≡ not (list_any (λ id. nat_eq id row.doc) (deaths_of turns))) (births_of front)
          (λ row h. ap not (stands.dead row.doc ∙ sym (dead_is row.doc h.above))) (between s.synced synced (births_of front) first_ids))
        where
          dead_is : (id : ℕ) → s.synced < id → list_any (λ other. nat_eq other id) (deaths_of turns) ≡ has (deaths_of wait) id
          dead_is id above =
              asked_so id (deaths_of turns)
              ∙ ap (λ (ts : List Turn). has (deaths_of ts) id) (sym (take-append-drop s.flushed turns))
              ∙ ap (λ (ids : List ℕ). has ids id) (flat_map-append (λ (t : Turn). t.deaths) (take s.flushed turns) wait)
              ∙ list_any-append (nat_eq id) (deaths_of (take s.flushed turns)) (deaths_of wait)
              ∙ ap (λ (b : Bool). b || has (deaths_of wait) id)
              (fails (has (deaths_of (take s.flushed turns)) id) (λ there. (let low = deaths_within 0 id (take s.flushed turns) parts.of_front there in let order = fits.synced in omega (arith, low, order, above))))

  -- what died in its commits died in no other one
  died_once : (id : ℕ) → (not (has (deaths_of front) id) && has (deaths_of wait) id) ≡ has (deaths_of rest) id
  died_once id =
      ap (λ (b : Bool). not (has (deaths_of front) id) && b)
      (ap (λ (ids : List ℕ). has ids id) deaths_both ∙ list_any-append (nat_eq id) (deaths_of front) (deaths_of rest))
      ∙ left_of (has (deaths_of front) id) (has (deaths_of rest) id) (apart (deaths_of front) (deaths_of rest) id once)
    where
      once : IsDistinct nat_eq (deaths_of front ++ deaths_of rest)
      once =
          subst (IsDistinct nat_eq) deaths_both
          (last_apart (deaths_of (take s.flushed turns)) (deaths_of wait)
          (subst (IsDistinct nat_eq) (ap deaths_of (sym (take-append-drop s.flushed turns)) ∙ flat_map-append (λ (t : Turn). t.deaths) (take s.flushed turns) wait) commits.once))

  synced_within : synced ≤ largest_after 0 turns
  synced_within =
      let up = ids_rise synced rest (subst (λ n. AreTurns n rest) synced_at halves.of_rest) in
      let all : largest_after 0 turns ≡ largest_after synced rest =
      ap (largest_after 0) (sym (take-append-drop s.flushed turns)) ∙ largest_behind 0 (take s.flushed turns) wait
      ∙ ap (λ (n : ℕ). largest_after n wait) (sym fits.synced) ∙ ap (largest_after s.synced) (sym both) ∙ largest_behind s.synced front rest
      ∙ ap (λ (n : ℕ). largest_after n rest) synced_at in
      omega (arith, up, all)

-- ---- the state behind a batch

module _ (rules : Rules) (limit : ℕ) (turns : List Turn) (s : IndexState) (old : Index) (plan : SyncPlan) (new : Index)
    (is : IsFlushed old plan new) (fits_sync : FitsSync old plan) (stands : Represents rules turns s old) (commits : AreCommits turns) (fits : FitsTurns turns s)
    (batch : IsBatch rules limit turns s plan.through plan.synced plan.nodes.items) where
  through_at : plan.through ≡ s.flushed + plan.count
  through_at = fits_sync.through ∙ ap (λ (n : ℕ). n + plan.count) stands.flushed

  within_all : plan.count ≤ length (unflushed turns s)
  within_all = let long = long_as old.pending.items (unflushed turns s) stands.pending in let few = fits_sync.count in omega (arith, long, few)

  synced_at_all : plan.synced ≡ largest_after 0 (take (s.flushed + plan.count) turns)
  synced_at_all = batch.synced_is ∙ ap (λ (n : ℕ). largest_after 0 (take n turns)) through_at

  rest_at : drop plan.through turns ≡ drop plan.count (unflushed turns s)
  rest_at = sym (drop-drop plan.count s.flushed turns ∙ ap (λ (n : ℕ). drop n turns) (let e = through_at in omega (arith, e)))

  covered_at : unflushed_through plan.through turns s ≡ take plan.count (unflushed turns s)
  covered_at = ap (λ (n : ℕ). take n (unflushed turns s)) (let e = through_at in omega (arith, e))

  dead_at : (id : ℕ) → has plan.dead.items id ≡ has (deaths_of (take plan.count (unflushed turns s))) id
  dead_at id = fits_sync.same id ∙ ap (λ (ids : List ℕ). has ids id) (deaths_same plan.count old.pending.items (unflushed turns s) stands.pending)

  abbrev later : IndexState
  later = after_entry turns s (sealed plan.through plan.synced plan.nodes.items)

  deleted_at : ids_of Deleted new.lists ≡ later.deleted
  deleted_at =
      let more = flushed_deaths s.synced (unflushed_through plan.through turns s) in
      same_ids 0 0 (ids_of Deleted new.lists) (with_ids s.deleted more) is.lists.ascend_now
      (AscendFrom-with_ids s.deleted more (subst (AscendFrom 0) stands.deleted is.lists.ascend_then))
      (λ id. is.lists.deleted id
      ∙ ap₂ (λ (b c : Bool). b || c) (ap (λ (ids : List ℕ). has ids id) stands.deleted)
      (ap₂ (λ (n : ℕ) (b : Bool). nat_le id n && b) stands.synced (dead_at id)
      ∙ ap (λ (ts : List Turn). nat_le id s.synced && has (deaths_of ts) id) (sym covered_at)
      ∙ sym (has-filter (λ other. nat_le other s.synced) (deaths_of (unflushed_through plan.through turns s)) id))
      ∙ sym (has-with_ids s.deleted more id))

  stands_later : Represents rules turns later new
  stands_later = record {
    within = through_within rules limit turns s plan.through plan.synced plan.nodes.items batch;
    tables = λ word. is.nodes word ∙ ap (λ (ns : List Docs). ns ++ nodes_for word plan.nodes.items) (stands.tables word);
    flushed = is.flushed;
    synced = is.synced;
    deleted = deleted_at;
    being = is.lists.being ∙ stands.being;
    is_open = is.lists.is_open ∙ stands.is_open;
    checkpoint = is.lists.checkpoint ∙ stands.checkpoint;
    dead = λ id. is.lists.dead id
        ∙ ap₂ (λ (b c : Bool). not b && c) (dead_at id) (stands.dead id)
        ∙ died_once rules turns s plan.count plan.synced old stands commits fits within_all synced_at_all id
        ∙ ap (λ (ts : List Turn). has (deaths_of ts) id) (sym rest_at);
    cache = λ word. is.postings word
        ∙ ap (postings_behind plan.synced) (stands.cache word)
        ∙ sym (rows_left rules word (λ id. nat_lt plan.synced id) (births_of (unflushed turns s)))
        ∙ ap (rows_postings rules word) (left_behind rules turns s plan.count plan.synced old stands commits fits within_all synced_at_all)
        ∙ ap (λ (ts : List Turn). rows_postings rules word (births_of ts)) (sym rest_at);
    documents = is.documents
        ∙ ap (cached_behind plan.synced) stands.documents
        ∙ filter_map (cached_row rules) (λ (d : CachedDocument). nat_lt plan.synced d.id) (births_of (unflushed turns s))
        ∙ ap (map (cached_row rules)) (left_behind rules turns s plan.count plan.synced old stands commits fits within_all synced_at_all
        ∙ ap births_of (sym rest_at));
    pending = ap (map pending_seen) is.pending
        ∙ sym (drop-map pending_seen plan.count old.pending.items)
        ∙ ap (drop plan.count) stands.pending
        ∙ drop-map pending_of plan.count (unflushed turns s)
        ∙ ap (map pending_of) (sym rest_at);
    last = (let e = is.last in let le = stands.last in
        let up = synced_within rules turns s plan.count plan.synced old stands commits fits within_all synced_at_all in omega (arith, e, le, up, max-le le up));
  }

  -- the index stands for the state behind the batch
  pub stands_behind : Represents rules turns (after_batch rules limit turns s) new
  stands_behind = subst (λ (t : IndexState). Represents rules turns t new) (same_state rules limit turns s plan.through plan.synced plan.nodes.items batch) stands_later

-- ---- a batch that was planned

pub record IsPlanned (limit : ℕ) (old new : Index) (plan : SyncPlan) : Type 0 where
  pub same : HasSame old new
  pub some : 0 < length old.pending.items
  pub count : plan.count ≡ max 1 (counted_within limit 0 (map pending_seen old.pending.items))
  pub within : plan.count ≤ length old.pending.items
  pub last : Pending
  pub last_is : last ≡ get_or old.pending.items (plan.count - 1) last
  pub synced : plan.synced ≡ last.largest
  pub through : plan.through ≡ old.lists.flushed + plan.count
  pub ascend : Ascend plan.dead.items
  pub each : (id : ℕ) → has plan.dead.items id ≡ has (deaths_through plan.count old.pending.items) id
  pub words : IsStrictlySortedBy byte_order (keys_of plan.nodes.items)
  pub filled : All (λ g. g.1 ≢ []) plan.nodes.items
  pub exact : (word : List ℕ) → nodes_for word plan.nodes.items ≡ leaving_nodes old.cache plan.synced old.lists word
  pub room : tables.HasRoomOf new.tables plan.nodes.items
  pub dead : length plan.dead.items ≤ room_of Deleted new.lists

within_of : (r t : Room) → t ≡ r → IsWithin r t
within_of r t e = subst (IsWithin r) (sym e) (omega arith, omega arith)

module _ (rules : Rules) (limit : ℕ) (turns : List Turn) (s : IndexState) (old new : Index) (plan : SyncPlan) (is : IsPlanned limit old new plan)
    (stands : Represents rules turns s old) (commits : AreCommits turns) (fits : FitsTurns turns s) where
  abbrev left : List Turn
  left = unflushed turns s

  long : length old.pending.items ≡ length left
  long = long_as old.pending.items left stands.pending

  through_now : plan.through ≡ s.flushed + plan.count
  through_now = is.through ∙ ap (λ (n : ℕ). n + plan.count) stands.flushed

  count_now : plan.count ≡ covers limit left
  count_now = is.count ∙ covers_is limit old.pending.items left stands.pending

  count_some : 0 < plan.count
  count_some = (let e = is.count in let some = le-max_left 1 (counted_within limit 0 (map pending_seen old.pending.items)) in omega (arith, e, some))

  synced_now : plan.synced ≡ largest_after 0 (take (s.flushed + plan.count) turns)
  synced_now =
      is.synced
      ∙ largest_same (largest_after 0 (take s.flushed turns)) plan.count old.pending.items left is.last stands.pending count_some is.within is.last_is
      ∙ sym (largest_behind 0 (take s.flushed turns) (take plan.count left))
      ∙ ap (largest_after 0) (sym (take_sum s.flushed plan.count turns))

  within_now : plan.count ≤ length left
  within_now = (let few = is.within in omega (arith, few, long))

  covered_now : take plan.count left ≡ unflushed_through plan.through turns s
  covered_now = ap (λ (n : ℕ). take n left) (let e = through_now in omega (arith, e))

  pub is_batch : IsBatch rules limit turns s plan.through plan.synced plan.nodes.items
  is_batch = record {
    some = (let all = length-drop s.flushed turns in let some = is.some in omega (arith, all, some, long));
    through_is = through_now ∙ ap (λ (n : ℕ). s.flushed + n) count_now;
    synced_is = synced_now ∙ ap (λ (n : ℕ). largest_after 0 (take n turns)) (sym through_now);
    words = is.words;
    filled = is.filled;
    nodes = λ word. is.exact word
        ∙ leaves rules turns s plan.count plan.synced old stands commits fits within_now synced_now word
        ∙ ap (λ (ts : List Turn). packed (rows_postings rules word (alive_of turns ts))) covered_now;
  }

  pub is_fit : FitsSync new plan
  is_fit = record {
    words = is.words;
    room = λ word. within_of (needs (nodes_for word plan.nodes.items)) (tables.room new.tables word) (is.room word);
    after = All-from_recursion _ plan.nodes.items (own_nodes (λ word ns. NodesAfter (last_of 0 (tables.nodes new.tables word)) ns) plan.nodes.items is.words
        (λ word. subst (λ (ns : List Docs). NodesAfter (last_of 0 ns) (nodes_for word plan.nodes.items)) (sym (is.same.nodes word ∙ stands.tables word))
        (comes_after rules limit turns s plan.through plan.synced plan.nodes.items is_batch commits.ascend fits word)));
    count = (let few = is.within in let e = ap length is.same.pending in omega (arith, few, e));
    through = is.through ∙ ap (λ (n : ℕ). n + plan.count) (sym is.same.flushed);
    ascend = is.ascend;
    dead = is.dead;
    same = λ id. is.each id ∙ ap (λ (ps : List Pending). has (deaths_through plan.count ps) id) (sym is.same.pending);
  }
