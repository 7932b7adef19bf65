-- Ascending lists of ids, as sets.
use Rattle.std.proofs.Common.{◌≡◌, ◌≢◌, suc, length, drop, get_or, ℕ, ◌+◌, ◌<◌, ◌≤◌, Bool, true, false, not, cond, ◌&&◌, ◌||◌, List, [], ◌∷◌, nat_eq, refl, sym, ap, subst, ◌∙◌, arith, ⊎_elim}
use Rattle.std.specs.List.{filter, AllPairs, AllByRecursion, IsDistinct}
use Rattle.std.specs.List.Sorted.{IsNonDecreasing, IsPermutation, IsSorted}
use Rattle.std.specs.declared.cmp.Ordering.{Ordering}
use Rattle.std.specs.declared.cmp.Ordering.TheVariants.{Less, Equal, Greater}
use Rattle.std.specs.Ordering.{nat_cmp, match_ordering}
use Rattle.std.specs.Cmp.{nat_cmp_is, nat_eq_equiv}
use Rattle.std.proofs.lemmas.Bool.{cases_lt, cases_eq, false≢true, eqb-true, eq-eqb}
use Rattle.std.proofs.lemmas.Bool.Decides.{Decides-eqb}
use Rattle.std.proofs.lemmas.List.{drop_more, drop_all}
use Rattle.std.proofs.lemmas.List.Sorted.{IsNonDecreasingBy-from_sort, list_any-IsPermutation}
use Rattle.std.proofs.lemmas.Map.Keys.{IsDistinct-IsPermutation}
use Rattle.std.proofs.lemmas.Map.Made.{AllPairs-from_IsDistinct}
use Rattle.std.proofs.lemmas.Map.Views.{any-filter_same}
use Rattle.fts_lists.specs.Ids.{Held, with_id, without, ascending}
use Rattle.fts_ids.proofs.Ascending.{same_ids, AscendFrom-filter}
use Rattle.fts_ids.specs.Ids.{has, AscendFrom}

-- the three ways in which two numbers compare
by_order : (x y : ℕ) (P : Ordering → Type 0) → (x < y → P Less) → (x ≡ y → P Equal) → (y < x → P Greater) → P (nat_cmp x y)
by_order x y P less equal greater =
    ⊎_elim
    (λ h. subst P (nat_cmp_is x y Less h) (less h))
    (λ h. ⊎_elim
    (λ e. subst P (nat_cmp_is x y Equal e) (equal e))
    (λ n. let above : y < x = omega (arith, n) in subst P (nat_cmp_is x y Greater above) (greater above))
    (cases_eq x y))
    (cases_lt x y)

pub AscendFrom-with_id : (n : ℕ) (ids : List ℕ) (id : ℕ) → AscendFrom n ids → n ≤ id → AscendFrom n (with_id ids id)
AscendFrom-with_id n [] id f le = (le, tt)
AscendFrom-with_id n (x ∷ xs) id f le =
    by_order id x (λ o. AscendFrom n (match_ordering o (id ∷ x ∷ xs) (x ∷ xs) (x ∷ with_id xs id)))
    (λ lt. (le, (omega (arith, lt), f.1)))
    (λ e. f)
    (λ gt. (f.0, AscendFrom-with_id (x + 1) xs id f.1 (omega (arith, gt))))

or_swap : (a b c : Bool) → (a || (b || c)) ≡ (b || (a || c))
or_swap true true c = refl
or_swap true false c = refl
or_swap false true c = refl
or_swap false false c = refl

or_again : (a c : Bool) → (a || c) ≡ (a || (a || c))
or_again true c = refl
or_again false c = refl

pub has-with_id : (ids : List ℕ) (id q : ℕ) → has (with_id ids id) q ≡ (nat_eq q id || has ids q)
has-with_id [] id q = refl
has-with_id (x ∷ xs) id q =
    by_order id x (λ o. has (match_ordering o (id ∷ x ∷ xs) (x ∷ xs) (x ∷ with_id xs id)) q ≡ (nat_eq q id || has (x ∷ xs) q))
    (λ lt. refl)
    (λ e. or_again (nat_eq q x) (has xs q) ∙ ap (λ z. nat_eq q z || (nat_eq q x || has xs q)) (sym e))
    (λ gt. ap (λ b. nat_eq q x || b) (has-with_id xs id q) ∙ or_swap (nat_eq q x) (nat_eq q id) (has xs q))

pub AscendFrom-ascending : (xs : List ℕ) → AscendFrom 0 (ascending xs)
AscendFrom-ascending [] = tt
AscendFrom-ascending (x ∷ xs) = AscendFrom-with_id 0 (ascending xs) x (AscendFrom-ascending xs) (omega arith)

pub has-ascending : (xs : List ℕ) (q : ℕ) → has (ascending xs) q ≡ has xs q
has-ascending [] q = refl
has-ascending (x ∷ xs) q = has-with_id (ascending xs) x q ∙ ap (λ b. nat_eq q x || b) (has-ascending xs q)

-- the ascending list of a set is known by its ids
pub ascending_is : (xs ys : List ℕ) → AscendFrom 0 ys → ((q : ℕ) → has xs q ≡ has ys q) → ascending xs ≡ ys
ascending_is xs ys f same = same_ids 0 0 (ascending xs) ys (AscendFrom-ascending xs) f (λ q. has-ascending xs q ∙ same q)

pub has-without : (taken ids : List ℕ) (q : ℕ) → has (without taken ids) q ≡ (not (has taken q) && has ids q)
has-without taken ids q =
    any-filter_same (nat_eq q) (λ k. not (has taken k)) (not (has taken q)) (λ k e. ap (λ z. not (has taken z)) (sym (eqb-true q k e))) ids

-- ---- what a change of the keys is to the ascending list

pub kept : (old new : List ℕ) → ((q : ℕ) → has new q ≡ has old q) → ascending new ≡ ascending old
kept old new same = ascending_is new (ascending old) (AscendFrom-ascending old) (λ q. same q ∙ sym (has-ascending old q))

cond_or : (b c : Bool) → cond b true c ≡ (b || c)
cond_or true c = refl
cond_or false c = refl

cond_and : (b c : Bool) → cond b false c ≡ (not (b || false) && c)
cond_and true c = refl
cond_and false c = refl

pub added : (old new : List ℕ) (id : ℕ) → ((q : ℕ) → has new q ≡ cond (nat_eq id q) true (has old q)) → ascending new ≡ with_id (ascending old) id
added old new id same =
    ascending_is new (with_id (ascending old) id) (AscendFrom-with_id 0 (ascending old) id (AscendFrom-ascending old) (omega arith))
    (λ q. same q ∙ ap (λ b. cond b true (has old q)) (nat_eq_equiv.symm id q) ∙ cond_or (nat_eq q id) (has old q) ∙ ap (λ b. nat_eq q id || b) (sym (has-ascending old q)) ∙ sym (has-with_id (ascending old) id q))

pub removed : (old new : List ℕ) (id : ℕ) → ((q : ℕ) → has new q ≡ cond (nat_eq id q) false (has old q)) → ascending new ≡ without (id ∷ []) (ascending old)
removed old new id same =
    ascending_is new (without (id ∷ []) (ascending old)) (AscendFrom-filter (λ k. not (has (id ∷ []) k)) 0 (ascending old) (AscendFrom-ascending old))
    (λ q. same q ∙ ap (λ b. cond b false (has old q)) (nat_eq_equiv.symm id q) ∙ cond_and (nat_eq q id) (has old q) ∙ ap (λ b. not (nat_eq q id || false) && b) (sym (has-ascending old q)) ∙ sym (has-without (id ∷ []) (ascending old) q))

pub nothing : (xs : List ℕ) → length xs ≡ 0 → ascending xs ≡ []
nothing [] e = refl
nothing (x ∷ xs) e = absurd (omega (arith, e))

-- ---- ids taken out one after another

pub without_none : (ids : List ℕ) → without [] ids ≡ ids
without_none [] = refl
without_none (x ∷ xs) = ap (λ ys. x ∷ ys) (without_none xs)

pub without_one_more : (x : ℕ) (taken ids : List ℕ) → without taken (without (x ∷ []) ids) ≡ without (x ∷ taken) ids
without_one_more x taken [] = refl
without_one_more x taken (y ∷ ys) =
    let step : Bool → Type 0 = λ b.
    filter (λ id. not (has taken id)) (cond (not (b || false)) (y ∷ without (x ∷ []) ys) (without (x ∷ []) ys))
    ≡ cond (not (b || has taken y)) (y ∷ without (x ∷ taken) ys) (without (x ∷ taken) ys) in
    elim (nat_eq y x) as step [ true ↦ without_one_more x taken ys | false ↦ ap (λ zs. cond (not (has taken y)) (y ∷ zs) zs) (without_one_more x taken ys) ]

-- ---- a sorted list of ids that differ

pub AscendFrom-sorted : (n : ℕ) (xs : List ℕ) → IsNonDecreasing xs → AllPairs (λ x y. x ≢ y) xs → ((k : ℕ) (d : ℕ) → k < length xs → n ≤ get_or xs k d) → AscendFrom n xs
AscendFrom-sorted n [] up apart low = tt
AscendFrom-sorted n (x ∷ xs) up apart low = (
  low 0 0 (omega arith),
  AscendFrom-sorted (x + 1) xs
      (λ i j d le lt. up (suc i) (suc j) d (omega (arith, le)) (omega (arith, lt)))
      (λ i j d below lt. apart (suc i) (suc j) d (omega (arith, below)) (omega (arith, lt)))
      (λ k d lt.
      let le : x ≤ get_or xs k d = up 0 (suc k) d (omega arith) (omega (arith, lt)) in
      let ne : x ≡ get_or xs k d → ⊥ = apart 0 (suc k) d (omega arith) (omega (arith, lt)) in
      omega (arith, le, ne)),
)

pub sorted_ids : (keys xs : List ℕ) → IsDistinct nat_eq keys → IsPermutation keys xs → IsSorted nat_cmp xs → xs ≡ ascending keys
sorted_ids keys xs distinct same up =
    let apart : IsDistinct nat_eq xs = IsDistinct-IsPermutation nat_eq nat_eq_equiv.symm keys xs same distinct in
    let from : AscendFrom 0 xs = AscendFrom-sorted 0 xs (IsNonDecreasingBy-from_sort (λ n. n) xs up) (AllPairs-from_IsDistinct Decides-eqb xs apart) (λ k d lt. omega arith) in
    sym (ascending_is keys xs from (λ q. list_any-IsPermutation (nat_eq q) keys xs same))

pub purge_step : (ids s s' all : List ℕ) (i : ℕ) → i < length ids → without (drop i ids) s ≡ all → s' ≡ without (get_or ids i 0 ∷ []) s → without (drop (i + 1) ids) s' ≡ all
purge_step ids s s' all i lt so step =
    ap (λ t. without (drop (i + 1) ids) t) step
    ∙ without_one_more (get_or ids i 0) (drop (i + 1) ids) s
    ∙ ap (λ t. without t s) (sym (drop_more ids i 0 lt))
    ∙ so

pub purge_end : (ids s all : List ℕ) (i : ℕ) → length ids ≤ i → without (drop i ids) s ≡ all → s ≡ all
purge_end ids s all i le so = sym (without_none s) ∙ ap (λ t. without t s) (sym (drop_all i ids le)) ∙ so

-- what is held, by its parts
pub held_is : (h : Held) (ids : List ℕ) (room : ℕ) → h.ids ≡ ids → h.room ≡ room → h ≡ record { ids = ids; room = room }
held_is h ids room e f = ap (λ xs. record { ids = xs; room = h.room }) e ∙ ap (λ r. record { ids = ids; room = r }) f

-- ---- how many

absent : (x : ℕ) (xs : List ℕ) → AllByRecursion (λ y. nat_eq x y ≡ false) xs → has xs x ≡ false
absent x [] none = refl
absent x (y ∷ ys) none = ap (λ b. b || has ys x) none.0 ∙ absent x ys none.1

length-with_id : (ids : List ℕ) (id : ℕ) → has ids id ≡ false → length (with_id ids id) ≡ suc (length ids)
length-with_id [] id none = refl
length-with_id (x ∷ xs) id none =
    by_order id x (λ o. length (match_ordering o (id ∷ x ∷ xs) (x ∷ xs) (x ∷ with_id xs id)) ≡ suc (length (x ∷ xs)))
    (λ lt. refl)
    (λ e. absurd (false≢true (sym none ∙ ap (λ b. b || has xs id) (eq-eqb id x e))))
    (λ gt. ap suc (length-with_id xs id (second (nat_eq id x) (has xs id) none)))
  where
    second : (a b : Bool) → (a || b) ≡ false → b ≡ false
    second true b e = absurd (false≢true (sym e))
    second false b e = e

pub length-ascending : (keys : List ℕ) → IsDistinct nat_eq keys → length (ascending keys) ≡ length keys
unfolding IsDistinct
length-ascending [] distinct = refl
length-ascending (x ∷ xs) distinct =
    length-with_id (ascending xs) x (has-ascending xs x ∙ absent x xs distinct.0) ∙ ap suc (length-ascending xs distinct.1)
