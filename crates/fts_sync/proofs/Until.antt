-- Documents up to an id, one after another.
use Rattle.std.proofs.Common.{◌≡◌, ℕ, ◌<◌, ◌≤◌, Bool, true, false, cond, not, ◌||◌, filter, List, [], ◌∷◌, ◌++◌, append_assoc, append-nil, refl, sym, ap, subst, ◌∙◌, arith}
use Rattle.std.proofs.lemmas.Bool.{lt-leb, le-leb, true≢false}
use Rattle.std.proofs.lemmas.List.Elements.{filter-append}
use Rattle.std.proofs.lemmas.List.Folds.{list_any-append}
use Rattle.fts_ids.specs.Ids.{has}
use Rattle.fts_ilist.specs.Spelling.{Posting, PostingsAfter, last_id, id_at_end}
use Rattle.fts_ilist.proofs.Postings.{id_at_end-append}
use Rattle.fts_ilist.proofs.Until.{none_until}
use Rattle.fts_ilist.specs.Cursor.{postings_until}
use Rattle.fts_ilist.specs.Node.{Docs}
use Rattle.fts_ilist.specs.Packing.{packed, joined}
use Rattle.fts_ilist.proofs.Packs.{joined_packed}
use Rattle.fts_sync.specs.Leaving.{leaving, some_dead, IsPackingUntil}

all_alive : (ps : List Posting) → filter (λ p. not (has [] p.id)) ps ≡ ps
all_alive [] = refl
all_alive (p ∷ ps) = ap (λ (w : List Posting). p ∷ w) (all_alive ps)

-- where nobody died
pub none_dead : (doc : ℕ) (dead : List ℕ) (ps : List Posting) → dead ≡ [] → postings_until doc ps ≡ leaving doc dead ps
none_dead doc dead ps none = sym (ap (λ (ids : List ℕ). leaving doc ids ps) none ∙ all_alive (postings_until doc ps))

-- where none of them did
pub none_of_dead : (dead : List ℕ) (ps : List Posting) → some_dead dead ps ≡ false → filter (λ p. not (has dead p.id)) ps ≡ ps
none_of_dead dead [] none = refl
none_of_dead dead (p ∷ ps) none = by (has dead p.id) (some_dead dead ps) (none_of_dead dead ps) none
  where
    by : (here behind : Bool) → (behind ≡ false → filter (λ p. not (has dead p.id)) ps ≡ ps) → (here || behind) ≡ false
        → cond (not here) (p ∷ filter (λ p. not (has dead p.id)) ps) (filter (λ p. not (has dead p.id)) ps) ≡ p ∷ ps
    by true behind rest alive = absurd (true≢false alive)
    by false behind rest alive = ap (λ (qs : List Posting). p ∷ qs) (rest alive)

-- one that died is found, or it did not and the rest is looked at
pub found_dead : (dead : List ℕ) (all rest : List Posting) (d : Posting) (left : List Posting) → some_dead dead rest ≡ some_dead dead all → rest ≡ d ∷ left → has dead d.id ≡ true → true ≡ some_dead dead all
found_dead dead all rest d left same steps died =
    sym (sym same ∙ ap (some_dead dead) steps ∙ ap (λ (b : Bool). b || some_dead dead left) died)

pub found_alive : (dead : List ℕ) (all rest : List Posting) (d : Posting) (left : List Posting) → some_dead dead rest ≡ some_dead dead all → rest ≡ d ∷ left → has dead d.id ≡ false → some_dead dead left ≡ some_dead dead all
found_alive dead all rest d left same steps alive =
    sym (ap (some_dead dead) steps ∙ ap (λ (b : Bool). b || some_dead dead left) alive) ∙ same

joined_step : (dead : List ℕ) (rest : List Docs) (n : Docs) (left : List Docs) → rest ≡ n ∷ left → some_dead dead (joined rest) ≡ (some_dead dead n || some_dead dead (joined left))
joined_step dead rest n left steps = ap (λ (ns : List Docs). some_dead dead (joined ns)) steps ∙ list_any-append (λ p. has dead p.id) n (joined left)

-- the same of nodes
pub node_dead : (dead : List ℕ) (all rest : List Docs) (n : Docs) (left : List Docs) → some_dead dead (joined rest) ≡ some_dead dead (joined all) → rest ≡ n ∷ left → true ≡ some_dead dead n
    → true ≡ some_dead dead (joined all)
node_dead dead all rest n left same steps died =
    sym (sym same ∙ joined_step dead rest n left steps ∙ ap (λ (b : Bool). b || some_dead dead (joined left)) (sym died))

pub node_alive : (dead : List ℕ) (all rest : List Docs) (n : Docs) (left : List Docs) → some_dead dead (joined rest) ≡ some_dead dead (joined all) → rest ≡ n ∷ left → false ≡ some_dead dead n
    → some_dead dead (joined left) ≡ some_dead dead (joined all)
node_alive dead all rest n left same steps alive =
    sym (joined_step dead rest n left steps ∙ ap (λ (b : Bool). b || some_dead dead (joined left)) (sym alive)) ∙ same

-- nodes none of whose documents died are those of what leaves
pub none_of_nodes : (doc : ℕ) (dead : List ℕ) (ps : List Posting) (nodes : List Docs) → nodes ≡ packed (postings_until doc ps) → some_dead dead (joined nodes) ≡ false → nodes ≡ packed (leaving doc dead ps)
none_of_nodes doc dead ps nodes made none =
    made ∙ ap packed (sym (none_of_dead dead (postings_until doc ps) (sym (ap (some_dead dead) (ap joined made ∙ joined_packed (postings_until doc ps))) ∙ none)))

pub begins : (doc : ℕ) (dead : List ℕ) (all done : List Posting) → done ≡ [] → PostingsAfter 0 all → IsPackingUntil doc dead all done all
begins doc dead all done none after = record {
  same = ap (λ (ps : List Posting). ps ++ leaving doc dead all) none;
  low = 0;
  below = (let e : last_id done ≡ 0 = ap last_id none in omega (arith, e));
  after = after;
}

-- one more document, which is within
pub goes_on : (doc : ℕ) (dead : List ℕ) (all done rest : List Posting) (d : Posting) (left new : List Posting) → IsPackingUntil doc dead all done rest → rest ≡ d ∷ left
    → d.id ≤ doc → new ≡ done ++ filter (λ p. not (has dead p.id)) (d ∷ []) → IsPackingUntil doc dead all new left
goes_on doc dead all done rest d left new is steps within put =
    let after : PostingsAfter is.low (d ∷ left) = subst (PostingsAfter is.low) steps is.after in
    let alive : Posting → Bool = λ p. not (has dead p.id) in
    let here : leaving doc dead (d ∷ left) ≡ filter alive (d ∷ []) ++ leaving doc dead left =
    ap (λ (b : Bool). filter alive (cond b (d ∷ postings_until doc left) (postings_until doc left))) (le-leb d.id doc within)
    ∙ filter-append alive (d ∷ []) (postings_until doc left) in
    record {
      same = ap (λ (ps : List Posting). ps ++ leaving doc dead left) put
          ∙ append_assoc done (filter alive (d ∷ [])) (leaving doc dead left)
          ∙ ap (λ (ps : List Posting). done ++ ps) (sym here ∙ ap (leaving doc dead) (sym steps))
          ∙ is.same;
      low = d.id;
      below = by (alive d) (ap last_id put ∙ id_at_end-append 0 done (filter alive (d ∷ [])));
      after = after.3;
    }
  where
    by : (b : Bool) → last_id new ≡ id_at_end (last_id done) (cond b (d ∷ []) []) → last_id new ≤ d.id
    by true e = omega (arith, e)
    by false e =
        let after : PostingsAfter is.low (d ∷ left) = subst (PostingsAfter is.low) steps is.after in
        omega (arith, e, is.below, after.0)

-- what is to be put behind has an id above
pub is_above : (doc : ℕ) (dead : List ℕ) (all done rest : List Posting) (d : Posting) (left : List Posting) → IsPackingUntil doc dead all done rest → rest ≡ d ∷ left → last_id done < d.id
is_above doc dead all done rest d left is steps =
    let after : PostingsAfter is.low (d ∷ left) = subst (PostingsAfter is.low) steps is.after in
    omega (arith, is.below, after.0)

-- the end: no document is left, or one behind the id
pub ends : (doc : ℕ) (dead : List ℕ) (all done rest : List Posting) → IsPackingUntil doc dead all done rest → rest ≡ [] → done ≡ leaving doc dead all
ends doc dead all done rest is none =
    sym (append-nil done) ∙ ap (λ (ps : List Posting). done ++ leaving doc dead ps) (sym none) ∙ is.same

pub ends_behind : (doc : ℕ) (dead : List ℕ) (all done rest : List Posting) (d : Posting) (left : List Posting) → IsPackingUntil doc dead all done rest → rest ≡ d ∷ left → doc < d.id
    → done ≡ leaving doc dead all
ends_behind doc dead all done rest d left is steps past =
    let after : PostingsAfter is.low (d ∷ left) = subst (PostingsAfter is.low) steps is.after in
    let alive : Posting → Bool = λ p. not (has dead p.id) in
    let none : postings_until doc rest ≡ [] =
    ap (postings_until doc) steps
    ∙ ap (λ (b : Bool). cond b (d ∷ postings_until doc left) (postings_until doc left)) (lt-leb d.id doc past)
    ∙ none_until doc d.id left after.3 (omega (arith, past)) in
    sym (append-nil done) ∙ ap (λ (ps : List Posting). done ++ filter alive ps) (sym none) ∙ is.same
