-- What is found is the scan.
use Rattle.std.proofs.Common.{◌≡◌, ℕ, zero, suc, ⊎_elim, ◌+◌, ◌-◌, ◌<◌, ◌≤◌, arith, List, [], ◌∷◌, ◌++◌, filter, length, map, get_or, Option, Some, None, refl, sym, ap, subst, ◌∙◌, append-nil}
use Rattle.std.proofs.lemmas.Bool.{cases_lt}
use Rattle.fts_ids.specs.Ids.{has, AscendFrom}
use Rattle.fts_ids.proofs.Ascending.{same_ids}
use Rattle.fts_words.specs.Indexed.{Rules}
use Rattle.fts_types.specs.Row.{Row}
use Rattle.fts_meaning.specs.declared.sign.Sign.TheVariants.{Optional}
use Rattle.fts_meaning.specs.Tree.{Terms, group}
use Rattle.fts_meaning.specs.Holds.{list_holds}
use Rattle.fts_meaning.specs.Leaf.{Leaf, leaves}
use Rattle.fts_meaning.specs.Scan.{scan}
use Rattle.fts_meaning.specs.View.{Candidate, Postings, View, is_looked_into, candidate_of, ids_where, postings_of, StandsFor, columns_at}
use Rattle.fts_query.specs.declared.view.Candidate.{Candidate as Kept}
use Rattle.fts_query.specs.Seen.{candidate_seen}
use Rattle.fts_eval.specs.declared.part.Part.{Part}
use Rattle.fts_eval.specs.declared.resolve.Parts.{Parts}
use Rattle.fts_eval.specs.Says.{docs_of}
use Rattle.fts_eval.specs.Means.{PostingsBegin, Means, PartsMean, IsGroup, part_says}
use Rattle.fts_eval.proofs.Meaning.{no_term, dropped_list}
use Rattle.fts_eval.proofs.Building.{group_means}
use Rattle.fts_query.proofs.Chosen.{where_ascends, has_where}

-- ---- ids that ascend, one by one

one_more : (k : ℕ) → suc k + 1 ≡ suc (k + 1)
one_more k = omega arith

pub ascend_from_increasing : (n : ℕ) (xs : List ℕ) → ((k : ℕ) → k + 1 < length xs → get_or xs k 0 < get_or xs (k + 1) 0) → (0 < length xs → n ≤ get_or xs 0 0) → AscendFrom n xs
ascend_from_increasing n [] up low = tt
ascend_from_increasing n (x ∷ xs) up low = (
  low (omega arith),
  ascend_from_increasing (x + 1) xs (λ k lt. subst (λ n. get_or (x ∷ xs) (suc k) 0 < get_or (x ∷ xs) n 0) (one_more k) (up (suc k) (omega (arith, lt)))) (λ lt. omega (arith, up 0 (omega (arith, lt)))),
)

pub increasing_from_ascend : (n : ℕ) (xs : List ℕ) → AscendFrom n xs → (k : ℕ) → k + 1 < length xs → get_or xs k 0 < get_or xs (k + 1) 0
increasing_from_ascend n [] up k lt = absurd (omega (arith, lt))
increasing_from_ascend n (x ∷ []) up k lt = absurd (omega (arith, lt))
increasing_from_ascend n (x ∷ (y ∷ ys)) up zero lt = omega (arith, up.1.0)
increasing_from_ascend n (x ∷ (y ∷ ys)) up (suc k) lt =
    subst (λ m. get_or (x ∷ (y ∷ ys)) (suc k) 0 < get_or (x ∷ (y ∷ ys)) m 0) (sym (one_more k)) (increasing_from_ascend (x + 1) (y ∷ ys) up.1 k (omega (arith, lt)))

pub doc_at : (rows : List Kept) (k : ℕ) (d : Kept) → k < length rows → get_or (docs_of rows) k 0 ≡ (get_or rows k d).doc
doc_at [] k d lt = absurd (omega (arith, lt))
doc_at (c ∷ cs) zero d lt = refl
doc_at (c ∷ cs) (suc k) d lt = doc_at cs k d (omega (arith, lt))

pub docs_long : (rows : List Kept) → length (docs_of rows) ≡ length rows
docs_long [] = refl
docs_long (c ∷ cs) = ap suc (docs_long cs)

-- ---- the candidates of a view ascend

docs_seen : (rows : List Kept) → docs_of rows ≡ map (λ (c : Candidate). c.doc) (map candidate_seen rows)
docs_seen [] = refl
docs_seen (c ∷ cs) = ap (λ (ds : List ℕ). c.doc ∷ ds) (docs_seen cs)

docs_where : (rows : List Row) → map (λ (c : Candidate). c.doc) (map candidate_of rows) ≡ map (λ (row : Row). row.doc) rows
docs_where [] = refl
docs_where (row ∷ rows) = ap (λ (ds : List ℕ). row.doc ∷ ds) (docs_where rows)

pub candidates_ascend : (rules : Rules) (rows : List Row) (terms : Terms) (view : View) (kept : List Kept) → map candidate_seen kept ≡ view.texts → AscendFrom 0 (map (λ (row : Row). row.doc) rows) → StandsFor rules rows terms view → AscendFrom 0 (docs_of kept)
candidates_ascend rules rows terms view kept seen up s =
    let looked = is_looked_into rules (leaves rules terms) in
    let are : view.texts ≡ map candidate_of (filter looked rows) = ap (λ (v : View). v.texts) s in
    let same : docs_of kept ≡ ids_where looked rows = docs_seen kept ∙ ap (map (λ (c : Candidate). c.doc)) (seen ∙ are) ∙ docs_where (filter looked rows) in
    subst (AscendFrom 0) (sym same) (where_ascends looked rows 0 up)

-- ---- a view that stands for rows

pub stands : (rules : Rules) (rows : List Row) (terms : Terms) (view : View) → AscendFrom 0 (map (λ (row : Row). row.doc) rows) → StandsFor rules rows terms view → PostingsBegin rules rows [] (leaves rules terms) [] view.texts view.postings
stands rules rows terms view up s =
    let all : leaves rules terms ++ [] ≡ leaves rules terms = append-nil (leaves rules terms) in
    record {
      ascend = up;
      texts_are = ap (λ (v : View). v.texts) s ∙ ap (λ (ls : List Leaf). map candidate_of (filter (is_looked_into rules ls) rows)) (sym all);
      postings_are = ap (λ (v : View). v.postings) s ∙ ap (map (postings_of rules rows)) (sym all);
    }

said : (rules : Rules) (rows : List Row) (texts : List Candidate) (terms : Terms) (part : Option Part) → Means rules rows texts (group Optional terms) part → (id : ℕ) → part_says texts part id ≡ list_holds rules (columns_at rows id) terms
said rules rows texts terms None m id = sym (dropped_list rules (columns_at rows id) terms m)
said rules rows texts terms (Some part) m id = m.1 id

pub answered : (rules : Rules) (rows : List Row) (texts : List Candidate) (terms : Terms) (parts : Parts) (part : Option Part) (list : List ℕ) → AscendFrom 0 (map (λ (row : Row). row.doc) rows) → PartsMean rules rows texts terms parts → IsGroup parts part → AscendFrom 0 list → ((id : ℕ) → has list id ≡ part_says texts part id) → list ≡ scan rules rows terms
answered rules rows texts terms parts part list up m g ascends h =
    same_ids 0 0 list (scan rules rows terms) ascends (where_ascends (λ (row : Row). list_holds rules row.texts terms) rows 0 up)
    (λ id. h id ∙ said rules rows texts terms part (group_means rules rows texts Optional terms parts part m g) id ∙ sym (has_where (λ (columns : List (List ℕ)). list_holds rules columns terms) (no_term rules (group Optional terms)) rows 0 up id))

-- the same, where the parts of a view and of a query are lent
pub stands_at : (rules : Rules) (rows : List Row) (terms lent : Terms) (view : View) (texts : List Candidate) (postings : List Postings) → lent ≡ terms → texts ≡ view.texts → postings ≡ view.postings
    → AscendFrom 0 (map (λ (row : Row). row.doc) rows) → StandsFor rules rows terms view → PostingsBegin rules rows [] (leaves rules lent) [] texts postings
stands_at rules rows terms lent view texts postings e f g up s =
    subst (λ (ts : Terms). PostingsBegin rules rows [] (leaves rules ts) [] texts postings) (sym e)
    (subst (λ (cs : List Candidate). PostingsBegin rules rows [] (leaves rules terms) [] cs postings) (sym f)
    (subst (λ (ps : List Postings). PostingsBegin rules rows [] (leaves rules terms) [] view.texts ps) (sym g) (stands rules rows terms view up s)))

-- ---- rows whose ids ascend, one beside another

module _ (rows : List Kept) (place : ℕ) (a b : Kept) (some : 1 ≤ place) (within : place < length rows) where
  here : get_or (docs_of rows) place 0 ≡ (get_or rows place a).doc
  here = doc_at rows place a within

  before : get_or (docs_of rows) (place - 1) 0 ≡ (get_or rows (place - 1) b).doc
  before = doc_at rows (place - 1) b (omega (arith, within))

  pub falling : (get_or rows place a).doc ≤ (get_or rows (place - 1) b).doc → AscendFrom 0 (docs_of rows) → ⊥
  falling le up =
      let back : place - 1 + 1 ≡ place = omega (arith, some) in
      let rises : get_or (docs_of rows) (place - 1) 0 < get_or (docs_of rows) (place - 1 + 1) 0 = increasing_from_ascend 0 (docs_of rows) up (place - 1) (omega (arith, back, within, docs_long rows)) in
      let at : get_or (docs_of rows) (place - 1 + 1) 0 ≡ get_or (docs_of rows) place 0 = ap (λ (k : ℕ). get_or (docs_of rows) k 0) back in
      omega (arith, rises, at, here, before, le)

  pub rising : (get_or rows (place - 1) b).doc < (get_or rows place a).doc → ((k : ℕ) → k + 1 < place → get_or (docs_of rows) k 0 < get_or (docs_of rows) (k + 1) 0) → (k : ℕ) → k + 1 < place + 1 → get_or (docs_of rows) k 0 < get_or (docs_of rows) (k + 1) 0
  rising less inv k lt =
      ⊎_elim
      (λ (sooner : k + 1 < place). inv k sooner)
      (λ (late : place ≤ k + 1).
      let back : k ≡ place - 1 = omega (arith, late, lt, some) in
      let next : k + 1 ≡ place = omega (arith, late, lt) in
      let first : get_or (docs_of rows) k 0 ≡ (get_or rows (place - 1) b).doc = ap (λ (j : ℕ). get_or (docs_of rows) j 0) back ∙ before in
      let second : get_or (docs_of rows) (k + 1) 0 ≡ (get_or rows place a).doc = ap (λ (j : ℕ). get_or (docs_of rows) j 0) next ∙ here in
      omega (arith, first, second, less))
      (cases_lt (k + 1) place)
