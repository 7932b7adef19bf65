-- The runs of a test, and the list of them.
use Rattle.std.proofs.Common.{◌≡◌, ℕ, zero, suc, ◌+◌, ◌-◌, ◌<◌, ◌≤◌, ◌⊎◌, Bool, true, false, List, [], ◌∷◌, map, sym, refl, ap, ap₂, ◌∙◌, subst, inl, inr, ⊎_elim, arith}
use Rattle.std.specs.Prelude.{All, Contains, filter}
use Rattle.std.specs.List.{range_with_len, AllPairs}
use Rattle.std.proofs.lemmas.Bool.{false≢true, cases_Bool, cases_order, cases_lt}
use Rattle.std.proofs.lemmas.List.Elements.{All-nil, All-cons, All-weaker, All-map, All-contains}
use Rattle.std.proofs.lemmas.List.Kept.{AllPairs-cons}
use Rattle.fts_words.specs.declared.span.Span.{Span}
use Rattle.fts_words.specs.Run.{IsRun, starts, run_end, run_at, runs_from, IsAscending}

-- a test doesn't both pass and fail
pub clash : {P : Type 0} (b : Bool) → b ≡ true → b ≡ false → P
clash b pass fail = absurd (false≢true (sym fail ∙ pass))

-- two runs are one and the same, or one ends before the other starts
pub runs_apart : (test : ℕ → Bool) (a b c d : ℕ) → IsRun test a b → IsRun test c d → ((a ≡ c) × (b ≡ d)) ⊎ ((b < c) ⊎ (d < a))
runs_apart test a b c d r s = ⊎_elim same (λ order. inr (⊎_elim left right order)) (cases_order a c)
  where
    same : a ≡ c → ((a ≡ c) × (b ≡ d)) ⊎ ((b < c) ⊎ (d < a))
    same e =
        ⊎_elim (λ equal. inl (e, equal))
        (λ order. ⊎_elim
        (λ less. clash (test b) (s.each b (omega (arith, r.nonempty)) less) r.behind)
        (λ less. clash (test d) (r.each d (omega (arith, s.nonempty)) less) s.behind) order)
        (cases_order b d)

    left : a < c → (b < c) ⊎ (d < a)
    left less =
        ⊎_elim (λ within. inl within)
        (λ over. clash (test (c - 1)) (r.each (c - 1) (omega arith) (omega arith)) (s.before (c - 1) (omega arith)))
        (cases_lt b c)

    right : c < a → (b < c) ⊎ (d < a)
    right less =
        ⊎_elim (λ within. inr within)
        (λ over. clash (test (a - 1)) (s.each (a - 1) (omega arith) (omega arith)) (r.before (a - 1) (omega arith)))
        (cases_lt d a)

-- the places from i on pass up to e, which is the first of n that doesn't, or the place behind them
pub record Ends (test : ℕ → Bool) (i n e : ℕ) : Type 0 where
  pub order : i ≤ e
  pub within : e ≤ i + n
  pub each : (k : ℕ) → i ≤ k → k < e → test k ≡ true
  pub stops : e < i + n → test e ≡ false

run_end_ends : (test : ℕ → Bool) (i n : ℕ) → Ends test i n (run_end test i n)
run_end_ends test i zero =
    record { order = omega arith; within = omega arith; each = λ k a b. absurd (omega arith); stops = λ b. absurd (omega arith) }
run_end_ends test i (suc n) =
    let rest = run_end_ends test (i + 1) n in
    ⊎_elim
    (λ (pass : test i ≡ true). rw pass (record {
      order = omega (arith, rest.order);
      within = omega (arith, rest.within);
      each = λ k a b. ⊎_elim (λ less. rest.each k (omega arith) b) (λ least. let same : k ≡ i = omega arith in subst (λ (x : ℕ). test x ≡ true) (sym same) pass) (cases_lt i k);
      stops = λ b. rest.stops (omega arith);
    }))
    (λ (fail : test i ≡ false). rw fail (record { order = omega arith; within = omega arith; each = λ k a b. absurd (omega arith); stops = λ b. fail }))
    (cases_Bool (test i))

ends_one : (test : ℕ → Bool) (i n d e : ℕ) → Ends test i n d → Ends test i n e → d ≡ e
ends_one test i n d e p q =
    ⊎_elim (λ same. same)
    (λ order. ⊎_elim
    (λ less. clash (test d) (q.each d p.order less) (p.stops (omega (arith, q.within))))
    (λ less. clash (test e) (p.each e q.order less) (q.stops (omega (arith, p.within)))) order)
    (cases_order d e)

-- a start passes the test, and the place before it doesn't
pub starts_passes : (test : ℕ → Bool) (k : ℕ) → starts test k ≡ true → test k ≡ true
starts_passes test zero h = h
starts_passes test (suc i) h = ⊎_elim (λ pass. pass) (λ fail. absurd (false≢true (sym (rw fail refl) ∙ h))) (cases_Bool (test (suc i)))

pub starts_after : (test : ℕ → Bool) (k : ℕ) → starts test k ≡ true → (j : ℕ) → j + 1 ≡ k → test j ≡ false
starts_after test zero h j e = absurd (omega arith)
starts_after test (suc i) h j e =
    let same : j ≡ i = omega arith in
    subst (λ (x : ℕ). test x ≡ false) (sym same)
    (⊎_elim
    (λ (pass : test i ≡ true).
    let here = starts_passes test (suc i) h in
    let inside : starts test (suc i) ≡ false = rw (here, pass) refl in
    clash (starts test (suc i)) h inside)
    (λ fail. fail)
    (cases_Bool (test i)))

-- a place that passes behind one that doesn't is a start
pub starts_from : (test : ℕ → Bool) (k : ℕ) → test k ≡ true → ((j : ℕ) → j + 1 ≡ k → test j ≡ false) → starts test k ≡ true
starts_from test zero passes before = passes
starts_from test (suc i) passes before = let fail = before i (omega arith) in rw (passes, fail) refl

pub starts_outside : (test : ℕ → Bool) (k : ℕ) → test k ≡ false → starts test k ≡ false
starts_outside test zero fail = fail
starts_outside test (suc i) fail = rw fail refl

pub starts_inside : (test : ℕ → Bool) (j k : ℕ) → test j ≡ true → j + 1 ≡ k → starts test k ≡ false
starts_inside test j k pass e = ⊎_elim (λ start. clash (test j) pass (starts_after test k start j e)) (λ fail. fail) (cases_Bool (starts test k))

-- places at which nothing passes are fail part of a filtered range
filter_skip : (p : ℕ → Bool) (d i j m n : ℕ) → i + d ≡ j → m + d ≡ n → ((k : ℕ) → i ≤ k → k < j → p k ≡ false) → filter p (range_with_len i n) ≡ filter p (range_with_len j m)
filter_skip p zero i j m n e f none =
    let place : i ≡ j = omega arith in
    let count : n ≡ m = omega arith in
    ap₂ (λ (x y : ℕ). filter p (range_with_len x y)) place count
filter_skip p (suc d) i j m zero e f none = absurd (omega arith)
filter_skip p (suc d) i j m (suc n) e f none =
    let fail = none i (omega arith) (omega arith) in
    rw fail (filter_skip p d (i + 1) j m n (omega arith) (omega arith) (λ k a b. none k (omega arith) b))

-- what is between two places is left, up to the size
pub runs_skip : (test : ℕ → Bool) (size i j : ℕ) → i ≤ j → j ≤ size → ((k : ℕ) → i ≤ k → k < j → starts test k ≡ false) → runs_from test size i ≡ runs_from test size j
unfolding runs_from
runs_skip test size i j order within none =
    ap (map (run_at test size)) (filter_skip (starts test) (j - i) i j (size - j) (size - i) (omega arith) (omega arith) none)

-- a start below the size begins the list
runs_start : (test : ℕ → Bool) (size i e : ℕ) → i < size → starts test i ≡ true → run_end test i (size - i) ≡ e → runs_from test size i ≡ record { from = i; to = e } ∷ runs_from test size (i + 1)
unfolding runs_from
runs_start test size i e within start end_is =
    let counted : size - i ≡ suc (size - (i + 1)) = omega arith in
    let shape : map (run_at test size) (filter (starts test) (range_with_len i (size - i))) ≡ run_at test size i ∷ map (run_at test size) (filter (starts test) (range_with_len (i + 1) (size - (i + 1)))) = ap (λ (n : ℕ). map (run_at test size) (filter (starts test) (range_with_len i n))) counted ∙ rw start refl in
    shape ∙ ap (λ (x : ℕ). record { from = i; to = x } ∷ map (run_at test size) (filter (starts test) (range_with_len (i + 1) (size - (i + 1))))) end_is

-- where a run is the first from a place on, it begins the list
pub first_run : (test : ℕ → Bool) (size i from to : ℕ) → i ≤ from → to ≤ size → ((k : ℕ) → i ≤ k → k < from → test k ≡ false) → IsRun test from to → runs_from test size i ≡ record { from = from; to = to } ∷ runs_from test size to
first_run test size i from to order within none run =
    let ordered = run.nonempty in
    let ends : Ends test from (size - from) to = record { order = omega arith; within = omega arith; each = run.each; stops = λ _. run.behind } in
    let end_is = ends_one test from (size - from) _ to (run_end_ends test from (size - from)) ends in
    let start = starts_from test from (run.each from (omega arith) ordered) run.before in
    runs_skip test size i from order (omega arith) (λ k a b. starts_outside test k (none k a b))
    ∙ runs_start test size from to (omega arith) start end_is
    ∙ ap (λ rest. record { from = from; to = to } ∷ rest) (runs_skip test size (from + 1) to (omega arith) within (λ k a b. starts_inside test (k - 1) k (run.each (k - 1) (omega arith) (omega arith)) (omega arith)))

-- where no place passes, the list is empty
pub no_run : (test : ℕ → Bool) (size i : ℕ) → i ≤ size → ((k : ℕ) → i ≤ k → k < size → test k ≡ false) → runs_from test size i ≡ []
unfolding runs_from
no_run test size i order none =
    let empty : size - size ≡ 0 = omega arith in
    runs_skip test size i size order (omega arith) (λ k a b. starts_outside test k (none k a b))
    ∙ ap (λ (n : ℕ). map (run_at test size) (filter (starts test) (range_with_len size n))) empty

-- what a filtered range has
kept_places : (p : ℕ → Bool) (i n : ℕ) → All (λ k. (i ≤ k) × (k < i + n) × (p k ≡ true)) (filter p (range_with_len i n))
kept_places p i zero = All-nil _
kept_places p i (suc n) =
    let P : ℕ → Type 0 = λ k. (i ≤ k) × (k < i + suc n) × (p k ≡ true) in
    let rest : All P (filter p (range_with_len (i + 1) n)) = All-weaker (λ k. (i + 1 ≤ k) × (k < i + 1 + n) × (p k ≡ true)) P (λ k h. (omega (arith, h.0), omega (arith, h.1), h.2)) _ (kept_places p (i + 1) n) in
    ⊎_elim (λ (pass : p i ≡ true). rw pass (All-cons P i _ (omega arith, omega arith, pass) rest)) (λ (fail : p i ≡ false). rw fail rest) (cases_Bool (p i))

-- a place of the range that passes is kept
pub Contains-there : {X : Type 0} (x y : X) (xs : List X) → Contains xs x → Contains (y ∷ xs) x
Contains-there x y xs h = (suc h.0, omega (arith, h.1), h.2)

contains_place : (p : ℕ → Bool) (k i n : ℕ) → i ≤ k → k < i + n → p k ≡ true → Contains (filter p (range_with_len i n)) k
contains_place p k i zero low high e = absurd (omega arith)
contains_place p k i (suc n) low high e =
    ⊎_elim
    (λ (more : i < k).
    let rest = contains_place p k (i + 1) n (omega arith) (omega arith) e in
    ⊎_elim (λ (pass : p i ≡ true). rw pass (Contains-there k i _ rest)) (λ (fail : p i ≡ false). rw fail rest) (cases_Bool (p i)))
    (λ (least : k ≤ i).
    let same : k ≡ i = omega arith in
    let here : p i ≡ true = subst (λ (x : ℕ). p x ≡ true) same e in
    rw here (0, omega arith, sym same))
    (cases_lt i k)

pub Contains-map : {X Y : Type 0} (f : X → Y) (xs : List X) (x : X) → Contains xs x → Contains (map f xs) (f x)
Contains-map f [] x h = absurd (omega (arith, h.1))
Contains-map f (y ∷ ys) x (zero, less, e) = (0, omega arith, ap f e)
Contains-map f (y ∷ ys) x (suc k, less, e) = Contains-there (f x) (f y) (map f ys) (Contains-map f ys x (k, omega arith, e))

module _ (test : ℕ → Bool) (size : ℕ) (beyond : (k : ℕ) → size ≤ k → test k ≡ false) where
  -- from a start to its end is a run
  run_from_start : (i : ℕ) → i < size → starts test i ≡ true → IsRun test i (run_end test i (size - i))
  run_from_start i within start =
      let e = run_end test i (size - i) in
      let ends = run_end_ends test i (size - i) in
      let passes = starts_passes test i start in
      record {
        nonempty = ⊎_elim (λ less. less) (λ over. let same : e ≡ i = omega (arith, ends.order) in clash (test e) (subst (λ (x : ℕ). test x ≡ true) (sym same) passes) (ends.stops (omega arith))) (cases_lt i e);
        each = ends.each;
        before = starts_after test i start;
        behind = ⊎_elim (λ less. ends.stops (omega arith)) (λ over. beyond e over) (cases_lt e size);
      }

  -- the list has runs alone
  pub runs_each : All (λ w. IsRun test w.from w.to) (runs_from test size 0)
  unfolding runs_from
  runs_each =
      All-map (λ w. IsRun test w.from w.to) (run_at test size) _
      (All-weaker (λ k. (0 ≤ k) × (k < 0 + (size - 0)) × (starts test k ≡ true)) _ (λ k h. run_from_start k (omega (arith, h.1)) h.2) _ (kept_places (starts test) 0 (size - 0)))

  -- the list has each run
  pub runs_all : (w : Span) → IsRun test w.from w.to → Contains (runs_from test size 0) w
  unfolding runs_from
  runs_all w run =
      let ordered = run.nonempty in
      let starts_within : w.from < size = ⊎_elim (λ less. less) (λ over. clash (test w.from) (run.each w.from (omega arith) ordered) (beyond w.from over)) (cases_lt w.from size) in
      let ends_within : w.to ≤ size = ⊎_elim (λ over. clash (test (w.to - 1)) (run.each (w.to - 1) (omega arith) (omega arith)) (beyond (w.to - 1) (omega arith))) (λ less. less) (cases_lt size w.to) in
      let ends : Ends test w.from (size - w.from) w.to = record { order = omega arith; within = omega arith; each = run.each; stops = λ _. run.behind } in
      let end_is = ends_one test w.from (size - w.from) _ w.to (run_end_ends test w.from (size - w.from)) ends in
      let start = starts_from test w.from (run.each w.from (omega arith) ordered) run.before in
      let span_is : run_at test size w.from ≡ w = ap (λ (x : ℕ). record { from = w.from; to = x }) end_is in
      subst (Contains (runs_from test size 0)) span_is
      (Contains-map (run_at test size) _ w.from (contains_place (starts test) w.from 0 (size - 0) (omega arith) (omega arith) start))

  -- the runs ascend
  ends_before : (i k : ℕ) → i < k → starts test k ≡ true → run_end test i (size - i) < k
  ends_before i k order start =
      let e = run_end test i (size - i) in
      let ends = run_end_ends test i (size - i) in
      ⊎_elim (λ less. less) (λ over. ⊎_elim (λ inside. clash (test (k - 1)) (ends.each (k - 1) (omega arith) inside) (starts_after test k start (k - 1) (omega arith))) (λ outside. omega arith) (cases_lt (k - 1) e)) (cases_lt e k)

  ascend : (i n : ℕ) → IsAscending (map (run_at test size) (filter (starts test) (range_with_len i n)))
  ascend i zero = λ a b d less within. absurd (omega arith)
  ascend i (suc n) =
      let rest = ascend (i + 1) n in
      let later : All (λ k. run_end test i (size - i) < k) (filter (starts test) (range_with_len (i + 1) n)) = All-weaker (λ k. (i + 1 ≤ k) × (k < i + 1 + n) × (starts test k ≡ true)) _ (λ k h. ends_before i k (omega (arith, h.0)) h.2) _ (kept_places (starts test) (i + 1) n) in
      let R : Span → Span → Type 0 = λ v w. v.to < w.from in
      let joined : AllPairs R (run_at test size i ∷ map (run_at test size) (filter (starts test) (range_with_len (i + 1) n))) = AllPairs-cons R _ _ (All-map (R (run_at test size i)) (run_at test size) _ later) rest in
      ⊎_elim (λ (pass : starts test i ≡ true). rw pass joined) (λ (fail : starts test i ≡ false). rw fail rest) (cases_Bool (starts test i))

  pub runs_ascend : IsAscending (runs_from test size 0)
  unfolding runs_from
  runs_ascend = ascend 0 (size - 0)

-- where the run round a place begins
record Begins (test : ℕ → Bool) (i from : ℕ) : Type 0 where
  pub order : from ≤ i
  pub each : (k : ℕ) → from ≤ k → k ≤ i → test k ≡ true
  pub before : (k : ℕ) → k + 1 ≡ from → test k ≡ false

begin : (test : ℕ → Bool) (i : ℕ) → test i ≡ true → (from : ℕ) × Begins test i from
begin test zero here =
    (0, record { order = omega arith; each = λ k low high. (let same : k ≡ 0 = omega arith in subst (λ (x : ℕ). test x ≡ true) (sym same) here); before = λ k next. absurd (omega arith) })
begin test (suc i) here =
    ⊎_elim
    (λ (pass : test i ≡ true).
    let rest = begin test i pass in (
      rest.0,
      record {
        order = omega (arith, rest.1.order);
        each = λ k low high. ⊎_elim (λ less. rest.1.each k low (omega arith)) (λ more. let same : k ≡ suc i = omega arith in subst (λ (x : ℕ). test x ≡ true) (sym same) here) (cases_lt k (suc i));
        before = rest.1.before;
      },
    ))
    (λ (fail : test i ≡ false). (
      suc i,
      record {
        order = omega arith;
        each = λ k low high. (let same : k ≡ suc i = omega arith in subst (λ (x : ℕ). test x ≡ true) (sym same) here);
        before = λ k next. (let same : k ≡ i = omega arith in subst (λ (x : ℕ). test x ≡ false) (sym same) fail);
      },
    ))
    (cases_Bool (test i))

-- a place that passes lies in a run
pub run_around : (test : ℕ → Bool) (size : ℕ) → ((k : ℕ) → size ≤ k → test k ≡ false) → (i : ℕ) → test i ≡ true → (from : ℕ) × (to : ℕ) × IsRun test from to × (from ≤ i) × (i < to)
run_around test size beyond i here =
    let begun = begin test i here in
    let from = begun.0 in
    let begins : Begins test i from = begun.1 in
    let within : i < size = ⊎_elim (λ less. less) (λ over. clash (test i) here (beyond i over)) (cases_lt i size) in
    let first : test from ≡ true = begins.each from (omega arith) begins.order in
    let run = run_from_start test size beyond from (omega (arith, begins.order)) (starts_from test from first begins.before) in
    let behind = run_end test from (size - from) in
    let past : i < behind = ⊎_elim (λ less. less) (λ over. clash (test behind) (begins.each behind (let ordered = run.nonempty in omega arith) over) run.behind) (cases_lt i behind) in
    (from, behind, run, begins.order, past)

-- two ascending lists with the same spans are equal, if no span is empty
Contains-cons_cases : {X : Type 0} (x y : X) (xs : List X) → Contains (y ∷ xs) x → (y ≡ x) ⊎ Contains xs x
Contains-cons_cases x y xs (zero, less, e) = inl e
Contains-cons_cases x y xs (suc k, less, e) = inr (k, omega arith, e)

Contains-here : {X : Type 0} (x : X) (xs : List X) → Contains (x ∷ xs) x
Contains-here x xs = (0, omega arith, refl)

pub AllPairs-head : {X : Type 0} (R : X → X → Type 0) (x : X) (xs : List X) → AllPairs R (x ∷ xs) → All (R x) xs
AllPairs-head R x xs pairs = λ k d less. pairs 0 (suc k) d (omega arith) (omega arith)

pub AllPairs-tail : {X : Type 0} (R : X → X → Type 0) (x : X) (xs : List X) → AllPairs R (x ∷ xs) → AllPairs R xs
AllPairs-tail R x xs pairs = λ i j d order less. pairs (suc i) (suc j) d (omega arith) (omega arith)

pub same_ascending : (xs ys : List Span) → IsAscending xs → IsAscending ys → All (λ w. w.from < w.to) xs → All (λ w. w.from < w.to) ys → ((w : Span) → Contains xs w → Contains ys w) → ((w : Span) → Contains ys w → Contains xs w) → xs ≡ ys
same_ascending [] [] up up' full full' there back = refl
same_ascending [] (y ∷ ys) up up' full full' there back = absurd (omega (arith, (back y (Contains-here y ys)).1))
same_ascending (x ∷ xs) [] up up' full full' there back = absurd (omega (arith, (there x (Contains-here x xs)).1))
same_ascending (x ∷ xs) (y ∷ ys) up up' full full' there back =
    let R : Span → Span → Type 0 = λ v w. v.to < w.from in
    let x_full : x.from < x.to = All-contains (λ (w : Span). w.from < w.to) (x ∷ xs) x full (Contains-here x xs) in
    let y_full : y.from < y.to = All-contains (λ (w : Span). w.from < w.to) (y ∷ ys) y full' (Contains-here y ys) in
    let behind_x : (w : Span) → Contains xs w → x.to < w.from = λ w. All-contains (R x) xs w (AllPairs-head R x xs up) in
    let behind_y : (w : Span) → Contains ys w → y.to < w.from = λ w. All-contains (R y) ys w (AllPairs-head R y ys up') in
    let first : x ≡ y =
    ⊎_elim (λ same. sym same)
    (λ x_later. ⊎_elim (λ same. same) (λ y_later. absurd (omega (arith, behind_y x x_later, behind_x y y_later))) (Contains-cons_cases y x xs (back y (Contains-here y ys))))
    (Contains-cons_cases x y ys (there x (Contains-here x xs))) in
    let from_same : x.from ≡ y.from = ap (λ (w : Span). w.from) first in
    let to_same : x.to ≡ y.to = ap (λ (w : Span). w.to) first in
    let rest = same_ascending xs ys (AllPairs-tail R x xs up) (AllPairs-tail R y ys up') (λ k d less. full (suc k) d (omega arith)) (λ k d less. full' (suc k) d (omega arith))
    (λ w inside. ⊎_elim (λ (same : y ≡ w). absurd (omega (arith, behind_x w inside, ap (λ (v : Span). v.from) same))) (λ later. later) (Contains-cons_cases w y ys (there w (Contains-there w x xs inside))))
    (λ w inside. ⊎_elim (λ (same : x ≡ w). absurd (omega (arith, behind_y w inside, ap (λ (v : Span). v.from) same))) (λ later. later) (Contains-cons_cases w x xs (back w (Contains-there w y ys inside)))) in
    ap₂ ◌∷◌ first rest

-- an element that passes is kept
pub contains_filtered : {X : Type 0} (p : X → Bool) (x : X) (xs : List X) → Contains xs x → p x ≡ true → Contains (filter p xs) x
contains_filtered p x [] h pass = absurd (omega (arith, h.1))
contains_filtered p x (y ∷ ys) h pass =
    ⊎_elim
    (λ (same : y ≡ x). let here : p y ≡ true = ap p same ∙ pass in rw here (0, omega arith, same))
    (λ later.
    let rest = contains_filtered p x ys later pass in
    ⊎_elim (λ (keep : p y ≡ true). rw keep (Contains-there x y _ rest)) (λ (out : p y ≡ false). rw out rest) (cases_Bool (p y)))
    (Contains-cons_cases x y ys h)
