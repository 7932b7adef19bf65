-- Lists without some documents, and the merge of two lists.
use Rattle.std.proofs.Common.{◌≡◌, ℕ, ◌+◌, ◌<◌, ◌≤◌, Bool, true, false, cond, not, List, [], ◌∷◌, ◌++◌, length, Some, Result, Ok, Err, refl, sym, ap, subst, ◌∙◌, append_assoc, arith, inl, inr}
use Rattle.std.specs.List.{Contains}
use Rattle.std.specs.List.Sorted.{IsPermutation}
use Rattle.std.specs.Result.{OnOk, OnErr}
use Rattle.std.proofs.lemmas.List.Elements.{Contains-append_right, Contains-append_left}
use Rattle.std.proofs.lemmas.List.Sorted.{IsPermutation-append_comm, IsPermutation-append_left, IsPermutation-append_right, IsPermutation-trans}
use Rattle.fts_ilist.specs.Spelling.{Posting, PostingsAfter, ArePostings, last_id, HasFirstId}
use Rattle.fts_ilist.specs.Changes.{is_among, postings_without, AreDisjoint, TakesFirst, MergesNext}
use Rattle.fts_ilist.proofs.Postings.{id_at_end-append, PostingsAfter-append}

pub after_sooner : (a b : ℕ) (ds : List Posting) → PostingsAfter a ds → b ≤ a → PostingsAfter b ds
after_sooner a b [] h le = tt
after_sooner a b (d ∷ ds) h le = let above : b < d.id = omega (arith, h.0) in (above, h.1, h.2, h.3)

pub last_of_push : (out : List Posting) (d : Posting) → last_id (out ++ d ∷ []) ≡ d.id
last_of_push out d = id_at_end-append 0 out (d ∷ [])

-- ---- a list without some documents

-- so far left, and what of the rest is to be left
pub record IsLeaving (ids : List ℕ) (all left rest : List Posting) : Type 0 where
  pub parts : postings_without ids all ≡ left ++ postings_without ids rest
  pub after : PostingsAfter (last_id left) rest

without_kept : (ids : List ℕ) (d : Posting) (rest : List Posting) → is_among ids d.id ≡ false → postings_without ids (d ∷ rest) ≡ d ∷ postings_without ids rest
without_kept ids d rest e = ap (λ (b : Bool). cond (not b) (d ∷ postings_without ids rest) (postings_without ids rest)) e

without_dropped : (ids : List ℕ) (d : Posting) (rest : List Posting) → is_among ids d.id ≡ true → postings_without ids (d ∷ rest) ≡ postings_without ids rest
without_dropped ids d rest e = ap (λ (b : Bool). cond (not b) (d ∷ postings_without ids rest) (postings_without ids rest)) e

pub leaves_kept : (ids : List ℕ) (all left rest later : List Posting) (d : Posting) → IsLeaving ids all left rest → rest ≡ d ∷ later → is_among ids d.id ≡ false → IsLeaving ids all (left ++ d ∷ []) later
leaves_kept ids all left rest later d l e none =
    let after : PostingsAfter (last_id left) (d ∷ later) = subst (PostingsAfter (last_id left)) e l.after in
    record {
      parts = l.parts ∙ ap (λ (w : List Posting). left ++ postings_without ids w) e ∙ ap (λ (w : List Posting). left ++ w) (without_kept ids d later none) ∙ sym (append_assoc left (d ∷ []) (postings_without ids later));
      after = subst (λ (w : ℕ). PostingsAfter w later) (sym (last_of_push left d)) after.3;
    }

pub leaves_dropped : (ids : List ℕ) (all left rest later : List Posting) (d : Posting) → IsLeaving ids all left rest → rest ≡ d ∷ later → is_among ids d.id ≡ true → IsLeaving ids all left later
leaves_dropped ids all left rest later d l e among =
    let after : PostingsAfter (last_id left) (d ∷ later) = subst (PostingsAfter (last_id left)) e l.after in
    record {
      parts = l.parts ∙ ap (λ (w : List Posting). left ++ postings_without ids w) e ∙ ap (λ (w : List Posting). left ++ w) (without_dropped ids d later among);
      after = after_sooner d.id (last_id left) later after.3 (omega (arith, after.0));
    }

-- ---- a whole merge

pub record IsMerging (a b out left right : List Posting) : Type 0 where
  pub union : IsPermutation (a ++ b) (out ++ (left ++ right))
  pub out_are : ArePostings out
  pub left_after : PostingsAfter (last_id out) left
  pub right_after : PostingsAfter (last_id out) right
  pub disjoint : AreDisjoint left right

-- a document was taken, and fewer are left
pub record HasMerged (a b out left right later_left later_right : List Posting) (p : Posting) : Type 0 where
  pub above : last_id out < p.id
  pub merging : IsMerging a b (out ++ p ∷ []) later_left later_right
  pub fewer : length later_left + length later_right + 1 ≡ length left + length right

here : (p : Posting) (ps : List Posting) → Contains (p ∷ ps) p
here p ps = Contains-append_left (p ∷ []) ps p (0, omega arith, refl)

there : (p q : Posting) (ps : List Posting) → Contains ps q → Contains (p ∷ ps) q
there p q ps h = Contains-append_right (p ∷ []) ps q h

-- what is behind one list's first is behind the other's, if its own first is not before it and not the same
behind_first : (last : ℕ) (p : Posting) (ps qs : List Posting) → PostingsAfter last qs → AreDisjoint (p ∷ ps) qs → ((q : Posting) (others : List Posting) → qs ≡ q ∷ others → p.id ≤ q.id) → PostingsAfter p.id qs
behind_first last p ps [] h disjoint below = tt
behind_first last p ps (q ∷ qs) h disjoint below =
    let apart : p.id ≡ q.id → ⊥ = disjoint p q (here p ps) (here q qs) in
    let above : p.id < q.id = omega (arith, below q qs refl, apart) in
    (above, h.1, h.2, h.3)

pushed_are : (out : List Posting) (p : Posting) (rest : List Posting) → ArePostings out → PostingsAfter (last_id out) (p ∷ rest) → ArePostings (out ++ p ∷ [])
pushed_are out p rest are h = PostingsAfter-append 0 out (p ∷ []) are (h.0, h.1, h.2, tt)

merge_left : (a b out left right later : List Posting) (p : Posting) → IsMerging a b out left right → TakesFirst left right later p → HasMerged a b out left right later right p
merge_left a b out left right later p m t =
    let after : PostingsAfter (last_id out) (p ∷ later) = subst (PostingsAfter (last_id out)) t.parts m.left_after in
    let disjoint : AreDisjoint (p ∷ later) right = subst (λ (w : List Posting). AreDisjoint w right) t.parts m.disjoint in
    let behind : PostingsAfter p.id right = behind_first (last_id out) p later right m.right_after disjoint t.below in
    record {
      above = after.0;
      merging = record {
        union = subst (IsPermutation (a ++ b)) (ap (λ (w : List Posting). out ++ (w ++ right)) t.parts ∙ sym (append_assoc out (p ∷ []) (later ++ right))) m.union;
        out_are = pushed_are out p later m.out_are after;
        left_after = subst (λ (w : ℕ). PostingsAfter w later) (sym (last_of_push out p)) after.3;
        right_after = subst (λ (w : ℕ). PostingsAfter w right) (sym (last_of_push out p)) behind;
        disjoint = λ x y h k. disjoint x y (there p x later h) k;
      };
      fewer = omega (arith, ap length t.parts);
    }

merge_right : (a b out left right later : List Posting) (p : Posting) → IsMerging a b out left right → TakesFirst right left later p → HasMerged a b out left right left later p
merge_right a b out left right later p m t =
    let after : PostingsAfter (last_id out) (p ∷ later) = subst (PostingsAfter (last_id out)) t.parts m.right_after in
    let disjoint : AreDisjoint left (p ∷ later) = subst (λ (w : List Posting). AreDisjoint left w) t.parts m.disjoint in
    let swapped : AreDisjoint (p ∷ later) left = λ x y h k e. disjoint y x k h (sym e) in
    let behind : PostingsAfter p.id left = behind_first (last_id out) p later left m.left_after swapped t.below in
    let moved : IsPermutation (left ++ (p ∷ later)) (p ∷ (left ++ later))
    = subst (λ (w : List Posting). IsPermutation w (p ∷ (left ++ later))) (append_assoc left (p ∷ []) later)
    (IsPermutation-append_left later (left ++ p ∷ []) (p ∷ left) (IsPermutation-append_comm left (p ∷ []))) in
    let union : IsPermutation (a ++ b) (out ++ (p ∷ (left ++ later)))
    = IsPermutation-trans (a ++ b) (out ++ (left ++ right)) (out ++ (p ∷ (left ++ later))) m.union
    (subst (λ (w : List Posting). IsPermutation (out ++ (left ++ w)) (out ++ (p ∷ (left ++ later)))) (sym t.parts)
    (IsPermutation-append_right out (left ++ (p ∷ later)) (p ∷ (left ++ later)) moved)) in
    record {
      above = after.0;
      merging = record {
        union = subst (IsPermutation (a ++ b)) (sym (append_assoc out (p ∷ []) (left ++ later))) union;
        out_are = pushed_are out p later m.out_are after;
        left_after = subst (λ (w : ℕ). PostingsAfter w left) (sym (last_of_push out p)) behind;
        right_after = subst (λ (w : ℕ). PostingsAfter w later) (sym (last_of_push out p)) after.3;
        disjoint = λ x y h k. disjoint x y h (there p y later k);
      };
      fewer = omega (arith, ap length t.parts);
    }

pub merge_step : (a b out left right later_left later_right : List Posting) (p : Posting) → IsMerging a b out left right → MergesNext left right later_left later_right (Some p)
    → HasMerged a b out left right later_left later_right p
merge_step a b out left right later_left later_right p m next =
    elim next [
      | inl h ↦ subst (λ (w : List Posting). HasMerged a b out left right later_left w p) (sym h.1) (merge_left a b out left right later_left p m h.0)
      | inr h ↦ subst (λ (w : List Posting). HasMerged a b out left right w later_right p) (sym h.1) (merge_right a b out left right later_right p m h.0)
    ]

-- ---- joining

-- documents behind the last are disjoint from the others, and their order is kept
pub behind_last : (ps qs : List Posting) (first : ℕ) → ArePostings qs → HasFirstId qs first → last_id ps < first → PostingsAfter (last_id ps) qs
behind_last ps [] first are has lt = tt
behind_last ps (q ∷ qs) first are has lt = let above : last_id ps < q.id = omega (arith, has) in (above, are.1, are.2, are.3)

pub joined_are : (ps qs : List Posting) → ArePostings ps → PostingsAfter (last_id ps) qs → ArePostings (ps ++ qs)
joined_are ps qs are after = PostingsAfter-append 0 ps qs are after

pub appended_are : {E : Type 0} (r : Result (Unit {0}) E) (ps qs new : List Posting) → OnOk r (new ≡ ps ++ qs) → OnErr r (new ≡ ps) → ArePostings ps → PostingsAfter (last_id ps) qs → ArePostings new
appended_are (Ok u) ps qs new e f are after = subst ArePostings (sym e) (joined_are ps qs are after)
appended_are (Err x) ps qs new e f are after = subst ArePostings (sym f) are
