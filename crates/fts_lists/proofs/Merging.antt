-- Merges from the back.
use Rattle.std.proofs.Common.{◌≡◌, length, take, drop, set, get_or, ℕ, ◌+◌, ◌-◌, ◌<◌, ◌≤◌, Bool, true, false, ◌||◌, List, [], ◌∷◌, ◌++◌, nat_eq, refl, sym, ap, subst, ◌∙◌, arith}
use Rattle.std.proofs.lemmas.Bool.{false≢true, eq-eqb}
use Rattle.std.proofs.lemmas.List.{take_more, drop-set, take-set-le, length-take-le, length-set, get_or-take, drop_all, take_all, take-take}
use Rattle.std.proofs.lemmas.List.Folds.{list_any-append}
use Rattle.fts_lists.specs.Ids.{with_id, with_ids}
use Rattle.fts_ids.specs.Ids.{has, AscendFrom}
use Rattle.fts_lists.specs.Merging.{IsMerging}
use Rattle.fts_ids.proofs.Ascending.{same_ids, below_at, at_most, AscendFrom-take, AscendFrom-join}
use Rattle.fts_lists.proofs.Ascending.{has-with_id, AscendFrom-with_id}

or_left : (a b : Bool) → a ≡ true → (a || b) ≡ true
or_left true b e = refl
or_left false b e = absurd (false≢true e)

or_right : (a b : Bool) → b ≡ true → (a || b) ≡ true
or_right true b e = refl
or_right false b e = e

-- ---- ids at a place

has-more : (xs : List ℕ) (k : ℕ) (id : ℕ) → k < length xs → has (take (k + 1) xs) id ≡ (has (take k xs) id || (nat_eq id (get_or xs k 0) || false))
has-more xs k id lt = ap (λ ys. has ys id) (take_more xs k 0 lt) ∙ list_any-append (nat_eq id) (take k xs) (get_or xs k 0 ∷ [])

kept_before : (xs : List ℕ) (k : ℕ) (id : ℕ) → k < length xs → has (take k xs) id ≡ true → has (take (k + 1) xs) id ≡ true
kept_before xs k id lt h = has-more xs k id lt ∙ or_left (has (take k xs) id) _ h

last_of : (xs : List ℕ) (k : ℕ) → k < length xs → has (take (k + 1) xs) (get_or xs k 0) ≡ true
last_of xs k lt =
    has-more xs k (get_or xs k 0) lt
    ∙ or_right (has (take k xs) (get_or xs k 0)) _ (or_left (nat_eq (get_or xs k 0) (get_or xs k 0)) false (eq-eqb (get_or xs k 0) (get_or xs k 0) refl))

pub AscendFrom-with_ids : (ids more : List ℕ) → AscendFrom 0 ids → AscendFrom 0 (with_ids ids more)
AscendFrom-with_ids ids [] up = up
AscendFrom-with_ids ids (x ∷ xs) up = AscendFrom-with_ids (with_id ids x) xs (AscendFrom-with_id 0 ids x up (omega arith))

or_false : (b : Bool) → (b || false) ≡ b
or_false true = refl
or_false false = refl

or_move : (a b c : Bool) → ((a || b) || c) ≡ (b || (a || c))
or_move true true c = refl
or_move true false c = refl
or_move false true c = refl
or_move false false c = refl

pub has-with_ids : (ids more : List ℕ) (id : ℕ) → has (with_ids ids more) id ≡ (has ids id || has more id)
has-with_ids ids [] id = sym (or_false (has ids id))
has-with_ids ids (x ∷ xs) id =
    has-with_ids (with_id ids x) xs id
    ∙ ap (λ b. b || has xs id) (has-with_id ids x id)
    ∙ or_move (nat_eq id x) (has ids id) (has xs id)

-- ---- the steps of a merge

shuffle_old : (a b x t : Bool) → (a || (b || (x || t))) ≡ ((a || (x || false)) || (b || t))
shuffle_old true b x t = refl
shuffle_old false true true t = refl
shuffle_old false true false t = refl
shuffle_old false false true t = refl
shuffle_old false false false t = refl

shuffle_new : (a b x t : Bool) → (a || (b || (x || t))) ≡ (a || ((b || (x || false)) || t))
shuffle_new true b x t = refl
shuffle_new false true x t = refl
shuffle_new false false true t = refl
shuffle_new false false false t = refl

shuffle_both : (a b x t : Bool) → ((a || (x || false)) || (b || t)) ≡ ((a || (x || false)) || ((b || (x || false)) || t))
shuffle_both true b x t = refl
shuffle_both false b true t = refl
shuffle_both false true false t = refl
shuffle_both false false false t = refl

pub begun : (old ids held : List ℕ) (count : ℕ) → old ≡ take count held → count + length ids ≡ length held → IsMerging old ids held count (length ids) (length held)
begun old ids held count e long =
    let none : drop (length held) held ≡ [] = drop_all (length held) held (omega arith) in
    let old_long : length old ≡ count = ap length e ∙ length-take-le count held (omega (arith, long)) in
    let whole : take count old ≡ old = take_all count old (omega (arith, old_long)) in
    record {
      of_old = omega (arith, old_long);
      of_ids = omega arith;
      room = omega (arith, long);
      within = omega arith;
      front = sym e ∙ sym whole;
      ascend = subst (λ ys. AscendFrom 0 ys) (sym none) tt;
      old_below = λ id h. subst (λ ys. AscendFrom (id + 1) ys) (sym none) tt;
      ids_below = λ id h. subst (λ ys. AscendFrom (id + 1) ys) (sym none) tt;
      same = λ id.
          ap (λ ys. has ys id || (has (take (length ids) ids) id || has (drop (length held) held) id)) whole
          ∙ ap (λ ys. has old id || (has ys id || has (drop (length held) held) id)) (take_all (length ids) ids (omega arith))
          ∙ ap (λ ys. has old id || (has ids id || has ys id)) none
          ∙ ap (λ b. has old id || b) (or_false (has ids id));
    }

-- what stands at the last place that was kept is the old id there
front_at : (held old : List ℕ) (k : ℕ) → take (k + 1) held ≡ take (k + 1) old → get_or held k 0 ≡ get_or old k 0
front_at held old k e =
    sym (get_or-take (k + 1) held k 0 (omega arith)) ∙ ap (λ ys. get_or ys k 0) e ∙ get_or-take (k + 1) old k 0 (omega arith)

front_less : (held old : List ℕ) (k e x : ℕ) → k ≤ e → take (k + 1) held ≡ take (k + 1) old → take k (set held e x) ≡ take k old
front_less held old k e x le same =
    take-set-le k held e x le
    ∙ sym (take-take k (k + 1) held (omega arith)) ∙ ap (take k) same ∙ take-take k (k + 1) old (omega arith)

-- an old id is put
pub moved : (old ids held : List ℕ) (k l e : ℕ) → AscendFrom 0 old → AscendFrom 0 ids → IsMerging old ids held (k + 1) l (e + 1) → 0 < l
    → get_or ids (l - 1) 0 < get_or held k 0 → IsMerging old ids (set held e (get_or held k 0)) k l e
moved old ids held k l e up ids_up m some less =
    let x : ℕ = get_or old k 0 in
    let at : get_or held k 0 ≡ x = front_at held old k m.front in
    let inside : k < length old = omega (arith, m.of_old) in
    let tail : drop e (set held e (get_or held k 0)) ≡ x ∷ drop (e + 1) held = drop-set held e (get_or held k 0) (omega (arith, m.within)) ∙ ap (λ y. y ∷ drop (e + 1) held) at in
    let above : AscendFrom (x + 1) (drop (e + 1) held) = m.old_below x (last_of old k inside) in
    let one : l ≡ l - 1 + 1 = omega (arith, some) in
    record {
      of_old = omega (arith, m.of_old);
      of_ids = m.of_ids;
      room = omega (arith, m.room);
      within = omega (arith, m.within, length-set held e (get_or held k 0));
      front = front_less held old k e (get_or held k 0) (omega (arith, m.room)) m.front;
      ascend = subst (λ ys. AscendFrom 0 ys) (sym tail) (omega arith, above);
      old_below = λ id h. subst (λ ys. AscendFrom (id + 1) ys) (sym tail) (omega (arith, below_at 0 old k id up inside h), above);
      ids_below = λ id h. subst (λ ys. AscendFrom (id + 1) ys) (sym tail)
          (omega (arith, at_most ids (l - 1) id ids_up (omega (arith, some, m.of_ids)) (ap (λ n. has (take n ids) id) (sym one) ∙ h), less, at), above);
      same = λ id.
          ap (λ ys. has (take k old) id || (has (take l ids) id || has ys id)) tail
          ∙ shuffle_old (has (take k old) id) (has (take l ids) id) (nat_eq id x) (has (drop (e + 1) held) id)
          ∙ ap (λ b. b || (has (take l ids) id || has (drop (e + 1) held) id)) (sym (has-more old k id inside))
          ∙ m.same id;
    }

-- a new id is put
pub put : (old ids held : List ℕ) (k l e : ℕ) → AscendFrom 0 old → AscendFrom 0 ids → IsMerging old ids held k (l + 1) (e + 1)
    → ((id : ℕ) → has (take k old) id ≡ true → id < get_or ids l 0) → IsMerging old ids (set held e (get_or ids l 0)) k l e
put old ids held k l e up ids_up m less =
    let x : ℕ = get_or ids l 0 in
    let inside : l < length ids = omega (arith, m.of_ids) in
    let tail : drop e (set held e x) ≡ x ∷ drop (e + 1) held = drop-set held e x (omega (arith, m.within)) in
    let above : AscendFrom (x + 1) (drop (e + 1) held) = m.ids_below x (last_of ids l inside) in
    record {
      of_old = m.of_old;
      of_ids = omega (arith, m.of_ids);
      room = omega (arith, m.room);
      within = omega (arith, m.within, length-set held e x);
      front = take-set-le k held e x (omega (arith, m.room)) ∙ m.front;
      ascend = subst (λ ys. AscendFrom 0 ys) (sym tail) (omega arith, above);
      old_below = λ id h. subst (λ ys. AscendFrom (id + 1) ys) (sym tail) (omega (arith, less id h), above);
      ids_below = λ id h. subst (λ ys. AscendFrom (id + 1) ys) (sym tail) (omega (arith, below_at 0 ids l id ids_up inside h), above);
      same = λ id.
          ap (λ ys. has (take k old) id || (has (take l ids) id || has ys id)) tail
          ∙ shuffle_new (has (take k old) id) (has (take l ids) id) (nat_eq id x) (has (drop (e + 1) held) id)
          ∙ ap (λ b. has (take k old) id || (b || has (drop (e + 1) held) id)) (sym (has-more ids l id inside))
          ∙ m.same id;
    }

-- the old ids in their place are below a new one that is above the last of them
pub all_less : (old ids held : List ℕ) (k l e : ℕ) → AscendFrom 0 old → IsMerging old ids held k l e → (x : ℕ) → 0 < k → get_or held (k - 1) 0 < x → (id : ℕ) → has (take k old) id ≡ true → id < x
all_less old ids held k l e up m x some less id h =
    let one : k ≡ k - 1 + 1 = omega (arith, some) in
    let front : take (k - 1 + 1) held ≡ take (k - 1 + 1) old = subst (λ n. take n held ≡ take n old) one m.front in
    let up_to : id ≤ get_or old (k - 1) 0 = at_most old (k - 1) id up (omega (arith, some, m.of_old)) (ap (λ n. has (take n old) id) (sym one) ∙ h) in
    omega (arith, up_to, less, front_at held old (k - 1) front)

pub none_less : (old : List ℕ) (k x : ℕ) → k ≡ 0 → (id : ℕ) → has (take k old) id ≡ true → id < x
none_less old k x e id h = absurd (false≢true (sym (ap (λ n. has (take n old) id) e) ∙ h))

-- a new id that is an old one is passed over
pub passed : (old ids held : List ℕ) (k l e : ℕ) → IsMerging old ids held (k + 1) (l + 1) e → get_or held k 0 ≡ get_or ids l 0 → IsMerging old ids held (k + 1) l e
passed old ids held k l e m same =
    let x : ℕ = get_or old k 0 in
    let at : get_or ids l 0 ≡ x = sym same ∙ front_at held old k m.front in
    let inside : l < length ids = omega (arith, m.of_ids) in
    let inside_old : k < length old = omega (arith, m.of_old) in
    record {
      of_old = m.of_old;
      of_ids = omega (arith, m.of_ids);
      room = omega (arith, m.room);
      within = m.within;
      front = m.front;
      ascend = m.ascend;
      old_below = m.old_below;
      ids_below = λ id h. m.ids_below id (kept_before ids l id inside h);
      same = λ id.
          ap (λ b. b || (has (take l ids) id || has (drop e held) id)) (has-more old k id inside_old)
          ∙ shuffle_both (has (take k old) id) (has (take l ids) id) (nat_eq id x) (has (drop e held) id)
          ∙ ap (λ b. b || ((has (take l ids) id || (nat_eq id x || false)) || has (drop e held) id)) (sym (has-more old k id inside_old))
          ∙ ap (λ y. has (take (k + 1) old) id || ((has (take l ids) id || (nat_eq id y || false)) || has (drop e held) id)) (sym at)
          ∙ ap (λ b. has (take (k + 1) old) id || (b || has (drop e held) id)) (sym (has-more ids l id inside))
          ∙ m.same id;
    }

-- the same at places that are equal
pub at_places : (old ids held : List ℕ) (k l e k' l' e' : ℕ) → IsMerging old ids held k l e → k ≡ k' → l ≡ l' → e ≡ e' → IsMerging old ids held k' l' e'
at_places old ids held k l e k' l' e' m ks ls es =
    subst (λ n. IsMerging old ids held n l' e') ks (subst (λ n. IsMerging old ids held k n e') ls (subst (λ n. IsMerging old ids held k l n) es m))

pub merged : (old ids held : List ℕ) (k e : ℕ) → AscendFrom 0 old → IsMerging old ids held k 0 e → take k held ++ drop e held ≡ with_ids old ids
merged old ids held k e up m =
    ap (λ ys. ys ++ drop e held) m.front
    ∙ same_ids 0 0 (take k old ++ drop e held) (with_ids old ids)
    (AscendFrom-join 0 (take k old) (drop e held) (AscendFrom-take 0 old k up) m.ascend m.old_below)
    (AscendFrom-with_ids old ids up)
    (λ id. list_any-append (nat_eq id) (take k old) (drop e held) ∙ m.same id ∙ sym (has-with_ids old ids id))
