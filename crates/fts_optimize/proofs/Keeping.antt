-- The documents of a node, one after another, without those that are taken out.
use Rattle.std.proofs.Common.{◌≡◌, ℕ, ◌<◌, ◌≤◌, Bool, true, false, cond, not, filter, List, [], ◌∷◌, ◌++◌, append_assoc, append-nil, refl, sym, ap, subst, ◌∙◌, arith}
use Rattle.std.proofs.lemmas.List.Elements.{filter-append}
use Rattle.fts_ids.specs.Ids.{has}
use Rattle.fts_ilist.specs.Changes.{is_among, postings_without}
use Rattle.fts_ilist.specs.Spelling.{Posting, PostingsAfter, last_id, id_at_end}
use Rattle.fts_ilist.proofs.Postings.{id_at_end-append}
use Rattle.fts_entries.proofs.Turns.{asked_so}
use Rattle.fts_optimize.specs.Reworking.{IsKeeping}

pub begins : (being : List ℕ) (before all : List Posting) → PostingsAfter (last_id before) all → IsKeeping being being before all before all
begins being before all after = record { same = refl; low = last_id before; below = omega arith; after = after; agree = λ id less. refl }

-- what the walk says of a document, the ids say
same_kept : (being walk : List ℕ) (d : Posting) → has walk d.id ≡ has being d.id → filter (λ p. not (has walk p.id)) (d ∷ []) ≡ postings_without being (d ∷ [])
same_kept being walk d same = ap (λ (b : Bool). cond (not b) (d ∷ []) []) (same ∙ sym (asked_so d.id being))

pub goes_on : (being walk walk' : List ℕ) (before all done rest : List Posting) (d : Posting) (left new : List Posting) → IsKeeping being walk before all done rest → rest ≡ d ∷ left
    → new ≡ done ++ filter (λ p. not (has walk p.id)) (d ∷ []) → ((later : ℕ) → d.id ≤ later → has walk' later ≡ has walk later) → IsKeeping being walk' before all new left
goes_on being walk walk' before all done rest d left new is steps put later =
    let after : PostingsAfter is.low (d ∷ left) = subst (PostingsAfter is.low) steps is.after in
    let kept : new ≡ done ++ postings_without being (d ∷ []) = put ∙ ap (λ (ps : List Posting). done ++ ps) (same_kept being walk d (is.agree d.id after.0)) in
    record {
      same = ap (λ (ps : List Posting). ps ++ postings_without being left) kept
          ∙ append_assoc done (postings_without being (d ∷ [])) (postings_without being left)
          ∙ ap (λ (ps : List Posting). done ++ ps) (sym (filter-append (λ (p : Posting). not (is_among being p.id)) (d ∷ []) left) ∙ ap (postings_without being) (sym steps))
          ∙ is.same;
      low = d.id;
      below = by (not (is_among being d.id)) (ap last_id kept ∙ id_at_end-append 0 done (postings_without being (d ∷ [])));
      after = after.3;
      agree = λ id less. later id (omega (arith, less)) ∙ is.agree id (omega (arith, less, after.0));
    }
  where
    by : (b : Bool) → last_id new ≡ id_at_end (last_id done) (cond b (d ∷ []) []) → last_id new ≤ d.id
    by true e = omega (arith, e)
    by false e =
        let after : PostingsAfter is.low (d ∷ left) = subst (PostingsAfter is.low) steps is.after in
        omega (arith, e, is.below, after.0)

pub is_above : (being walk : List ℕ) (before all done rest : List Posting) (d : Posting) (left : List Posting) → IsKeeping being walk before all done rest → rest ≡ d ∷ left → last_id done < d.id
is_above being walk before all done rest d left is steps =
    let after : PostingsAfter is.low (d ∷ left) = subst (PostingsAfter is.low) steps is.after in
    omega (arith, is.below, after.0)

pub ends : (being walk : List ℕ) (before all done rest : List Posting) → IsKeeping being walk before all done rest → rest ≡ [] → done ≡ before ++ postings_without being all
ends being walk before all done rest is none =
    sym (append-nil done) ∙ ap (λ (ps : List Posting). done ++ postings_without being ps) (sym none) ∙ is.same
