-- The nodes of a word, one after another, without the documents that are taken out.
use Rattle.std.proofs.Common.{◌≡◌, ◌≢◌, ℕ, ◌≤◌, Bool, true, false, cond, not, filter, List, [], ◌∷◌, ◌++◌, append_assoc, append-nil, refl, sym, ap, subst, ◌∙◌, arith, length, Result, Ok, Err, IfOk}
use Rattle.std.specs.List.{AllByRecursion}
use Rattle.std.proofs.lemmas.List.Elements.{filter-append}
use Rattle.fts_ilist.specs.Changes.{is_among, postings_without}
use Rattle.fts_ilist.specs.Spelling.{Posting, PostingsAfter, ArePostings, last_id, id_at_end}
use Rattle.fts_ilist.specs.Node.{Docs, BeginsAfter, NodesAfter}
use Rattle.fts_ilist.specs.Packing.{packed, joined}
use Rattle.fts_ilist.proofs.Postings.{id_at_end-append, after_lower, PostingsAfter-append}
use Rattle.fts_entries.specs.Exact.{IdsAfter}
use Rattle.fts_entries.proofs.Packing.{packed_ascend}
use Rattle.fts_optimize.specs.Reworking.{IsReworking}

-- documents of which the first is behind a bound
node_after : (low : ℕ) (docs : List Posting) → ArePostings docs → BeginsAfter low docs → PostingsAfter low docs
node_after low [] are begins = absurd begins
node_after low (p ∷ ps) are begins = (begins, are.1, are.2, are.3)

module _ (test : Posting → Bool) where
  kept_after : (low : ℕ) (docs : List Posting) → PostingsAfter low docs → PostingsAfter low (filter test docs)
  kept_after low [] after = tt
  kept_after low (p ∷ ps) after = by (test p) (kept_after p.id ps after.3)
    where
      by : (b : Bool) → PostingsAfter p.id (filter test ps) → PostingsAfter low (cond b (p ∷ filter test ps) (filter test ps))
      by true rest = (after.0, after.1, after.2, rest)
      by false rest = after_lower low p.id (filter test ps) (omega (arith, after.0)) rest

  kept_end : (start low : ℕ) (docs : List Posting) → start ≤ low → PostingsAfter low docs → id_at_end start (filter test docs) ≤ id_at_end low docs
  kept_end start low [] less after = less
  kept_end start low (p ∷ ps) less after =
      by (test p) (kept_end p.id p.id ps (omega arith) after.3) (kept_end start p.id ps (omega (arith, less, after.0)) after.3)
    where
      by : (b : Bool) → id_at_end p.id (filter test ps) ≤ id_at_end p.id ps → id_at_end start (filter test ps) ≤ id_at_end p.id ps
          → id_at_end start (cond b (p ∷ filter test ps) (filter test ps)) ≤ id_at_end p.id ps
      by true kept gone = kept
      by false kept gone = gone

end_is : (low : ℕ) (docs : List Posting) → BeginsAfter low docs → id_at_end low docs ≡ id_at_end 0 docs
end_is low [] begins = absurd begins
end_is low (p ∷ ps) begins = refl

pub begins : (being : List ℕ) (all : List Docs) (done : List Posting) → done ≡ [] → NodesAfter 0 all → IsReworking being all done all
begins being all done none after = record {
  same = ap (λ (ps : List Posting). ps ++ postings_without being (joined all)) none;
  are = subst ArePostings (sym none) tt;
  low = 0;
  below = (let e : last_id done ≡ 0 = ap last_id none in omega (arith, e));
  after = after;
}

-- what is next comes behind what was put
pub is_behind : (being : List ℕ) (all : List Docs) (done : List Posting) (rest : List Docs) (docs : Docs) (left : List Docs) → IsReworking being all done rest → rest ≡ docs ∷ left
    → ArePostings docs → PostingsAfter (last_id done) docs
is_behind being all done rest docs left is steps are =
    let after : NodesAfter is.low (docs ∷ left) = subst (NodesAfter is.low) steps is.after in
    after_lower (last_id done) is.low docs is.below (node_after is.low docs are after.0)

pub goes_on : (being : List ℕ) (all : List Docs) (done : List Posting) (rest : List Docs) (docs : Docs) (left : List Docs) (new : List Posting) → IsReworking being all done rest
    → rest ≡ docs ∷ left → ArePostings docs → new ≡ done ++ postings_without being docs → IsReworking being all new left
goes_on being all done rest docs left new is steps are put =
    let stays = λ (p : Posting). not (is_among being p.id) in
    let after : NodesAfter is.low (docs ∷ left) = subst (NodesAfter is.low) steps is.after in
    let behind : PostingsAfter is.low docs = node_after is.low docs are after.0 in
    record {
      same = ap (λ (ps : List Posting). ps ++ postings_without being (joined left)) put
          ∙ append_assoc done (postings_without being docs) (postings_without being (joined left))
          ∙ ap (λ (ps : List Posting). done ++ ps) (sym (filter-append stays docs (joined left)) ∙ ap (λ (ns : List Docs). postings_without being (joined ns)) (sym steps))
          ∙ is.same;
      are = subst ArePostings (sym put) (PostingsAfter-append 0 done (postings_without being docs) is.are (kept_after stays (last_id done) docs (after_lower (last_id done) is.low docs is.below behind)));
      low = id_at_end 0 docs;
      below = (let e : last_id new ≡ id_at_end (last_id done) (postings_without being docs) = ap last_id put ∙ id_at_end-append 0 done (postings_without being docs) in
          omega (arith, e, kept_end stays (last_id done) is.low docs is.below behind, end_is is.low docs after.0));
      after = after.1;
    }

pub ends : (being : List ℕ) (all : List Docs) (done : List Posting) (rest : List Docs) → IsReworking being all done rest → rest ≡ [] → done ≡ postings_without being (joined all)
ends being all done rest is none =
    sym (append-nil done) ∙ ap (λ (ns : List Docs). done ++ postings_without being (joined ns)) (sym none) ∙ is.same

ids_after : (low : ℕ) (docs : List Posting) → PostingsAfter low docs → IdsAfter low docs
ids_after low [] after = tt
ids_after low (p ∷ ps) after = (after.0, ids_after p.id ps after.3)

pub packed_after : (ps : List Posting) → ArePostings ps → NodesAfter 0 (packed ps)
packed_after ps are = packed_ascend 0 ps (ids_after 0 ps are)

-- nodes that ascend have documents
pub after_filled : (low : ℕ) (nodes : List Docs) → NodesAfter low nodes → AllByRecursion (λ docs. docs ≢ []) nodes
after_filled low [] after = tt
after_filled low ([] ∷ nodes) after = absurd after.0
after_filled low ((p ∷ ps) ∷ nodes) after = ((λ (e : p ∷ ps ≡ []). absurd (omega (arith, ap length e))), after_filled (id_at_end 0 (p ∷ ps)) nodes after.1)

pub ok_leads : {X E : Type 0} (r : Result X E) (P Q : X → Type 0) → ((x : X) → P x → Q x) → IfOk r P → IfOk r Q
ok_leads (Ok x) P Q step h = step x h
ok_leads (Err e) P Q step h = tt
