-- A reader that takes items comes to one state, and the states are those of lists.
use Rattle.std.proofs.Common.{◌≡◌, ℕ, zero, suc, ◌+◌, ◌-◌, ◌^◌, ◌<◌, ◌≤◌, List, [], ◌∷◌, ◌++◌, length, refl, sym, ap, subst, ◌∙◌, arith}
use Rattle.std.proofs.lemmas.List.{append-nil}
use Rattle.fts_ilist.specs.Spelling.{Posting, Item, position_items, posting_items, postings_items, PositionsFrom, ArePositions, PostingsAfter, id_at_end, next_at_end}
use Rattle.fts_ilist.specs.Spelling.Item.{increase, document_end}
use Rattle.fts_ilist.specs.Reading.{State}
use Rattle.fts_ilist.specs.Reading.State.{between, inside}
use Rattle.fts_ilist.specs.Fault.{BeginsList}
use Rattle.fts_ilist.specs.Progress.{Runs}
use Rattle.fts_ilist.proofs.Postings.{posting_regroup}

pub runs_append : (a b : List Item) (s u t : State) → Runs s a u → Runs u b t → Runs s (a ++ b) t
runs_append [] b s u t h k = subst (λ (w : State). Runs w b t) (sym h) k
runs_append (increase n ∷ a) b (between last) u t h k = (h.0, h.1, runs_append a b (inside (last + n) 0) u t h.2 k)
runs_append (document_end ∷ a) b (between last) u t h k = absurd h
runs_append (increase n ∷ a) b (inside id next) u t h k = (h.0, h.1, runs_append a b (inside id (next + n)) u t h.2 k)
runs_append (document_end ∷ a) b (inside id next) u t h k = (h.0, runs_append a b (between id) u t h.1 k)

pub runs_split : (a b : List Item) (s t : State) → Runs s (a ++ b) t → (u : State) × Runs s a u × Runs u b t
runs_split [] b s t h = (s, refl, h)
runs_split (increase n ∷ a) b (between last) t h = let r = runs_split a b (inside (last + n) 0) t h.2 in (r.0, (h.0, h.1, r.1), r.2)
runs_split (document_end ∷ a) b (between last) t h = absurd h
runs_split (increase n ∷ a) b (inside id next) t h = let r = runs_split a b (inside id (next + n)) t h.2 in (r.0, (h.0, h.1, r.1), r.2)
runs_split (document_end ∷ a) b (inside id next) t h = let r = runs_split a b (between id) t h.1 in (r.0, (h.0, r.1), r.2)

pub runs_same : (a : List Item) (s t u : State) → Runs s a t → Runs s a u → t ≡ u
runs_same [] s t u h k = sym h ∙ k
runs_same (increase n ∷ a) (between last) t u h k = runs_same a (inside (last + n) 0) t u h.2 k.2
runs_same (document_end ∷ a) (between last) t u h k = absurd h
runs_same (increase n ∷ a) (inside id next) t u h k = runs_same a (inside id (next + n)) t u h.2 k.2
runs_same (document_end ∷ a) (inside id next) t u h k = runs_same a (between id) t u h.1 k.1

-- ---- a list is read to its end

pub positions_run : (id next : ℕ) (ps : List ℕ) → PositionsFrom next ps → Runs (inside id next) (position_items next ps) (inside id (next_at_end next ps))
positions_run id next [] h = refl
positions_run id next (p ∷ ps) h =
    let e : next + (p + 1 - next) ≡ p + 1 = omega (arith, h.0) in
    let positive : 0 < p + 1 - next = omega (arith, h.0) in
    let limit : next + (p + 1 - next) ≤ 131072 = omega (arith, h.0, h.1) in
    (positive, limit, subst (λ (w : ℕ). Runs (inside id w) (position_items (p + 1) ps) (inside id (next_at_end (p + 1) ps))) (sym e) (positions_run id (p + 1) ps h.2))

next_positive : (next : ℕ) (ps : List ℕ) → 0 < next + length ps → 0 < next_at_end next ps
next_positive next [] h = omega arith
next_positive next (p ∷ ps) h = next_positive (p + 1) ps (omega arith)

pub posting_runs : (last : ℕ) (d : Posting) → last < d.id → d.id < 2 ^ 63 → ArePositions d.positions → Runs (between last) (posting_items last d) (between d.id)
posting_runs last d above limit are =
    let e : last + (d.id - last) ≡ d.id = omega arith in
    let body : Runs (inside d.id 0) (position_items 0 d.positions ++ document_end ∷ []) (between d.id)
    = runs_append (position_items 0 d.positions) (document_end ∷ []) (inside d.id 0) (inside d.id (next_at_end 0 d.positions)) (between d.id) (positions_run d.id 0 d.positions are.1) (next_positive 0 d.positions (omega (arith, are.0)), refl) in
    let positive : 0 < d.id - last = omega arith in
    let small : last + (d.id - last) < 2 ^ 63 = omega arith in
    (positive, small, subst (λ (w : ℕ). Runs (inside w 0) (position_items 0 d.positions ++ document_end ∷ []) (between d.id)) (sym e) body)

pub postings_run : (last : ℕ) (ds : List Posting) → PostingsAfter last ds → Runs (between last) (postings_items last ds) (between (id_at_end last ds))
postings_run last [] h = refl
postings_run last (d ∷ ds) h =
    runs_append (posting_items last d) (postings_items d.id ds) (between last) (between d.id) (between (id_at_end d.id ds)) (posting_runs last d h.0 h.1 h.2) (postings_run d.id ds h.3)

-- ---- what is read to an end is a list

-- the items behind a state, up to the end of a list
pub record Ends (last : ℕ) (items : List Item) (end : ℕ) : Type 0 where
  pub postings : List Posting
  pub after : PostingsAfter last postings
  pub items_are : items ≡ postings_items last postings
  pub end_is : end ≡ id_at_end last postings

pub record EndsInside (id next : ℕ) (items : List Item) (end : ℕ) : Type 0 where
  pub positions : List ℕ
  pub from : PositionsFrom next positions
  pub some : 0 < next + length positions
  pub others : List Item
  pub items_are : items ≡ position_items next positions ++ document_end ∷ others
  pub ends : Ends id others end

abbrev EndsFrom : State → List Item → ℕ → Type 0
EndsFrom (between last) items end = Ends last items end
EndsFrom (inside id next) items end = EndsInside id next items end

same_last : (a b : ℕ) → between a ≡ between b → a ≡ b
same_last a b e = cc

runs_back : (items : List Item) (s : State) (end : ℕ) → Runs s items (between end) → EndsFrom s items end
runs_back [] (between last) end h = record { postings = []; after = tt; items_are = refl; end_is = sym (same_last last end h) }
runs_back [] (inside id next) end h = absurd cc
runs_back (document_end ∷ items) (between last) end h = absurd h
runs_back (increase n ∷ items) (between last) end h =
    let r : EndsInside (last + n) 0 items end = runs_back items (inside (last + n) 0) end h.2 in
    let d : Posting = record { id = last + n; positions = r.positions } in
    let e : last + n - last ≡ n = omega arith in
    let one : increase n ∷ items ≡ posting_items last d ++ r.others
    = ap (λ (w : List Item). increase n ∷ w) r.items_are
    ∙ ap (λ (w : ℕ). increase w ∷ (position_items 0 r.positions ++ document_end ∷ r.others)) (sym e)
    ∙ sym (posting_regroup last d r.others) in
    let above : last < last + n = omega (arith, h.0) in
    let some : 0 < length r.positions = omega (arith, r.some) in
    record {
      postings = d ∷ r.ends.postings;
      after = (above, h.1, (some, r.from), r.ends.after);
      items_are = one ∙ ap (λ (w : List Item). posting_items last d ++ w) r.ends.items_are;
      end_is = r.ends.end_is;
    }
runs_back (increase n ∷ items) (inside id next) end h =
    let r : EndsInside id (next + n) items end = runs_back items (inside id (next + n)) end h.2 in
    let p : ℕ = next + n - 1 in
    let e : next + n ≡ p + 1 = omega (arith, h.0) in
    let f : n ≡ p + 1 - next = omega (arith, h.0) in
    let from : PositionsFrom (p + 1) r.positions = subst (λ (w : ℕ). PositionsFrom w r.positions) e r.from in
    let le : next ≤ p = omega (arith, h.0) in
    let limit : p ≤ 131071 = omega (arith, h.1) in
    record {
      positions = p ∷ r.positions;
      from = (le, limit, from);
      some = omega arith;
      others = r.others;
      items_are = ap (λ (w : ℕ). increase w ∷ items) f ∙ ap (λ (w : List Item). increase (p + 1 - next) ∷ w) (r.items_are ∙ ap (λ (w : ℕ). position_items w r.positions ++ document_end ∷ r.others) e);
      ends = r.ends;
    }
runs_back (document_end ∷ items) (inside id next) end h =
    let r : Ends id items end = runs_back items (between id) end h.1 in
    record { positions = []; from = tt; some = omega (arith, h.0); others = items; items_are = refl; ends = r }

pub ends_from : (last : ℕ) (items : List Item) (end : ℕ) → Runs (between last) items (between end) → Ends last items end
ends_from last items end h = runs_back items (between last) end h

-- ---- items that can be read begin a list, and no others do

finish : (items more : List Item) (end : ℕ) → Runs (between 0) (items ++ more) (between end) → BeginsList items
finish items more end h =
    let r = ends_from 0 (items ++ more) end h in
    (r.postings, more, r.after, sym r.items_are)

pub runs_begin : (items : List Item) (t : State) → Runs (between 0) items t → BeginsList items
runs_begin items (between last) h = finish items [] last (subst (λ (w : List Item). Runs (between 0) w (between last)) (sym (append-nil items)) h)
runs_begin items (inside id zero) h =
    finish items (increase 1 ∷ document_end ∷ []) id (runs_append items (increase 1 ∷ document_end ∷ []) (between 0) (inside id 0) (between id) h (omega arith, omega arith, (omega arith, refl)))
runs_begin items (inside id (suc p)) h =
    finish items (document_end ∷ []) id (runs_append items (document_end ∷ []) (between 0) (inside id (suc p)) (between id) h (omega arith, refl))

pub begins_runs : (items : List Item) → BeginsList items → (t : State) × Runs (between 0) items t
begins_runs items b =
    let all : Runs (between 0) (items ++ b.1) (between (id_at_end 0 b.0)) = subst (λ (w : List Item). Runs (between 0) w (between (id_at_end 0 b.0))) b.3 (postings_run 0 b.0 b.2) in
    let r = runs_split items b.1 (between 0) (between (id_at_end 0 b.0)) all in
    (r.0, r.1)
