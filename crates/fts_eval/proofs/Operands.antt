-- What the part of an operand means.
use Rattle.std.proofs.Common.{◌≡◌, ℕ, Bool, true, false, not, ◌&&◌, ◌||◌, List, [], ◌∷◌, ◌++◌, filter, map, Option, Some, None, refl, sym, ap, ◌∙◌, ⊎_elim}
use Rattle.std.specs.List.{list_any}
use Rattle.std.proofs.lemmas.Bool.{cases_Bool, false≢true}
use Rattle.std.proofs.lemmas.List.Folds.{list_any-append}
use Rattle.fts_ids.specs.Ids.{has, AscendFrom}
use Rattle.fts_words.specs.Indexed.{Rules, is_indexable, placed_words}
use Rattle.fts_types.specs.Row.{Row}
use Rattle.fts_meaning.specs.declared.sign.Sign.{Sign}
use Rattle.fts_meaning.specs.Tree.{Operand, word, prefix, phrase, distance, leaf}
use Rattle.fts_meaning.specs.Holds.{operand_holds, stays, stand_together, lie_near}
use Rattle.fts_meaning.specs.Leaf.{Leaf, no_leaf, of_word, of_prefix, of_words, words_leaf, leaf_of}
use Rattle.fts_meaning.specs.View.{Candidate, Postings, is_candidate, needs_texts, is_looked_into, candidate_of, postings_of, texts_at, columns_at}
use Rattle.fts_meaning.proofs.Candidates.{candidate}
use Rattle.fts_eval.specs.declared.part.Part.{Part}
use Rattle.fts_eval.specs.Means.{PostingsBegin, Means, MeansOperand, operand_says, phrase_says, distance_says, is_dropped}
use Rattle.fts_eval.proofs.Meaning.{texts_kept}
use Rattle.fts_query.proofs.Chosen.{has_where}

or_first : (a b : Bool) → a ≡ true → (a || b) ≡ true
or_first true b e = refl
or_first false b e = absurd (false≢true e)

or_second : (a b : Bool) → b ≡ true → (a || b) ≡ true
or_second true b e = refl
or_second false b e = e

-- a test that holds in candidates alone, beside them
beside : (c s i : Bool) → ((i && s) ≡ true → c ≡ true) → (c ≡ true → i ≡ true) → (c && s) ≡ (i && s)
beside true s i h g = ap (λ (b : Bool). b && s) (sym (g refl))
beside false true true h g = absurd (false≢true (h refl))
beside false true false h g = refl
beside false false true h g = refl
beside false false false h g = refl

unless : (b : Bool) → (b ≡ true → ⊥) → b ≡ false
unless true no_way = absurd (no_way refl)
unless false no_way = refl

some_in : (p : List ℕ → Bool) (words : List (List ℕ)) (w : List ℕ) (ws : List (List ℕ)) → filter p words ≡ w ∷ ws → list_any p words ≡ true
some_in p [] w ws e = cc
some_in p (v ∷ vs) w ws e =
    ⊎_elim
    (λ (passes : p v ≡ true). ap (λ (b : Bool). b || list_any p vs) passes)
    (λ (fails : p v ≡ false). or_second (p v) (list_any p vs) (some_in p vs w ws (rw fails at e)))
    (cases_Bool (p v))

module _ (rules : Rules) (rows : List Row) (up : AscendFrom 0 (map (λ (row : Row). row.doc) rows)) where
  -- the ids of a leaf
  leaf_has : (l : Leaf) → is_candidate rules [] l ≡ false → (id : ℕ) → has (postings_of rules rows l).ids id ≡ is_candidate rules (columns_at rows id) l
  leaf_has l nothing id = has_where (λ (columns : List (List ℕ)). is_candidate rules columns l) nothing rows 0 up id

  word_nowhere : (w : List ℕ) → is_candidate rules [] (of_word w) ≡ false
  unfolding placed_words
  word_nowhere w = refl

  prefix_nowhere : (w : List ℕ) → is_candidate rules [] (of_prefix w) ≡ false
  unfolding placed_words
  prefix_nowhere w = refl

  words_nowhere : (w : List ℕ) (ws : List (List ℕ)) → is_candidate rules [] (of_words (w ∷ ws)) ≡ false
  unfolding placed_words
  words_nowhere w ws = refl

  module _ (texts : List Candidate) (looked : Row → Bool) (are : texts ≡ map candidate_of (filter looked rows)) where
    -- the texts of a candidate are those of its row
    texts_same : (w : List ℕ) (ws : List (List ℕ)) → ((row : Row) → is_candidate rules row.texts (of_words (w ∷ ws)) ≡ true → looked row ≡ true) → (id : ℕ) → is_candidate rules (columns_at rows id) (of_words (w ∷ ws)) ≡ true → texts_at texts id ≡ columns_at rows id
    texts_same w ws h id holds =
        ap (λ (cs : List Candidate). texts_at cs id) are
        ∙ texts_kept looked rows 0 up (λ (columns : List (List ℕ)). is_candidate rules columns (of_words (w ∷ ws))) (words_nowhere w ws) h id holds

    -- a test of the texts of candidates
    tested : (w : List ℕ) (ws : List (List ℕ)) → ((row : Row) → is_candidate rules row.texts (of_words (w ∷ ws)) ≡ true → looked row ≡ true) → (test : List (List ℕ) → Bool) (i : Bool) (id : ℕ)
        → ((i && test (columns_at rows id)) ≡ true → is_candidate rules (columns_at rows id) (of_words (w ∷ ws)) ≡ true) → i ≡ true
        → (has (postings_of rules rows (of_words (w ∷ ws))).ids id && test (texts_at texts id)) ≡ (i && test (columns_at rows id))
    tested w ws h test i id law some =
        let c = is_candidate rules (columns_at rows id) (of_words (w ∷ ws)) in
        let same : (c && test (texts_at texts id)) ≡ (c && test (columns_at rows id)) = ⊎_elim
        (λ (holds : c ≡ true). ap (λ (t : List (List ℕ)). c && test t) (texts_same w ws h id holds))
        (λ (fails : c ≡ false). ap (λ (b : Bool). b && test (texts_at texts id)) fails ∙ sym (ap (λ (b : Bool). b && test (columns_at rows id)) fails))
        (cases_Bool c) in
        ap (λ (b : Bool). b && test (texts_at texts id)) (leaf_has (of_words (w ∷ ws)) (words_nowhere w ws) id) ∙ same ∙ beside c (test (columns_at rows id)) i law (λ e. some)

    abbrev looks : Leaf → Type 0
    looks l = (row : Row) → (needs_texts l && is_candidate rules row.texts l) ≡ true → looked row ≡ true

    -- a phrase, by what is left of its words
    phrase_means : (words some : List (List ℕ)) → filter (is_indexable rules) words ≡ some → looks (words_leaf some) → (id : ℕ) → phrase_says (words_leaf some) words (postings_of rules rows (words_leaf some)).ids texts id ≡ operand_holds rules (columns_at rows id) (phrase words)
    phrase_means words [] e h id =
        let columns = columns_at rows id in
        leaf_has no_leaf refl id ∙ sym (unless (operand_holds rules columns (phrase words)) (λ holds. false≢true (ap (λ (ws : List (List ℕ)). is_candidate rules columns (words_leaf ws)) (sym e) ∙ candidate rules columns (phrase words) holds)))
    phrase_means words (w ∷ ws) e h id =
        let columns = columns_at rows id in
        tested w ws h (λ (t : List (List ℕ)). stand_together t words) (list_any (is_indexable rules) words) id
        (λ holds. ap (λ (vs : List (List ℕ)). is_candidate rules columns (words_leaf vs)) (sym e) ∙ candidate rules columns (phrase words) holds)
        (some_in (is_indexable rules) words w ws e)

    distance_means : (words : List (List ℕ)) (n : ℕ) (some : List (List ℕ)) → filter (is_indexable rules) words ≡ some → looks (words_leaf some) → (id : ℕ) → distance_says (words_leaf some) n (postings_of rules rows (words_leaf some)).ids texts id ≡ operand_holds rules (columns_at rows id) (distance words n)
    distance_means words n [] e h id =
        let columns = columns_at rows id in
        leaf_has no_leaf refl id ∙ sym (unless (operand_holds rules columns (distance words n)) (λ holds. false≢true (ap (λ (ws : List (List ℕ)). is_candidate rules columns (words_leaf ws)) (sym e) ∙ candidate rules columns (distance words n) holds)))
    distance_means words n (w ∷ ws) e h id =
        let columns = columns_at rows id in
        tested w ws h (λ (t : List (List ℕ)). lie_near t (w ∷ ws) n) (list_any (is_indexable rules) words) id
        (λ holds. ap (λ (vs : List (List ℕ)). is_candidate rules columns (words_leaf vs)) (sym e) ∙ candidate rules columns (distance words n) (ap (λ (vs : List (List ℕ)). list_any (is_indexable rules) words && lie_near columns vs n) e ∙ holds))
        (some_in (is_indexable rules) words w ws e)
        ∙ ap (λ (vs : List (List ℕ)). list_any (is_indexable rules) words && lie_near columns vs n) (sym e)

    -- what an operand's part says is where the operand holds
    operand_means : (operand : Operand) → looks (leaf_of rules operand) → is_dropped operand (leaf_of rules operand) ≡ false → (id : ℕ) → operand_says operand (postings_of rules rows (leaf_of rules operand)) texts id ≡ operand_holds rules (columns_at rows id) operand
    operand_means (word w) h stay id =
        ⊎_elim
        (λ (can : is_indexable rules w ≡ true). rw can (leaf_has (of_word w) (word_nowhere w) id))
        (λ (can't : is_indexable rules w ≡ false). absurd (false≢true (sym stay ∙ rw can't refl)))
        (cases_Bool (is_indexable rules w))
    operand_means (prefix w) h stay id = leaf_has (of_prefix w) (prefix_nowhere w) id
    operand_means (phrase words) h stay id = phrase_means words (filter (is_indexable rules) words) refl h id
    operand_means (distance words n) h stay id = distance_means words n (filter (is_indexable rules) words) refl h id

operand_stays : (rules : Rules) (sign : Sign) (operand : Operand) → stays rules (leaf sign operand) ≡ not (is_dropped operand (leaf_of rules operand))
operand_stays rules sign (word w) =
    ⊎_elim
    (λ (can : is_indexable rules w ≡ true). rw can refl)
    (λ (can't : is_indexable rules w ≡ false). rw can't refl)
    (cases_Bool (is_indexable rules w))
operand_stays rules sign (prefix w) = refl
operand_stays rules sign (phrase words) = refl
operand_stays rules sign (distance words n) = refl

-- the part of an operand means what its term says
pub leaf_means : (rules : Rules) (rows : List Row) (before after : List Leaf) (texts : List Candidate) (sign : Sign) (operand : Operand) (p : Postings) (ps : List Postings) (part : Option Part)
    → PostingsBegin rules rows before (leaf_of rules operand ∷ []) after texts (p ∷ ps) → MeansOperand operand p part → Means rules rows texts (leaf sign operand) part
leaf_means rules rows before after texts sign operand p ps None s m =
    let here : p ≡ postings_of rules rows (leaf_of rules operand) = (let e = s.postings_are in cc) in
    operand_stays rules sign operand ∙ ap not (ap (λ (q : Postings). is_dropped operand q.leaf) (sym here) ∙ m)
leaf_means rules rows before after texts sign operand p ps (Some part) s m =
    let here : p ≡ postings_of rules rows (leaf_of rules operand) = (let e = s.postings_are in cc) in
    let stay : is_dropped operand (leaf_of rules operand) ≡ false = ap (λ (q : Postings). is_dropped operand q.leaf) (sym here) ∙ m.0 in
    let l = leaf_of rules operand in
    let looked = is_looked_into rules (before ++ (l ∷ after)) in
    let looks_into : (row : Row) → (needs_texts l && is_candidate rules row.texts l) ≡ true → looked row ≡ true = λ row e.
    list_any-append (λ (k : Leaf). needs_texts k && is_candidate rules row.texts k) before (l ∷ after)
    ∙ or_second (is_looked_into rules before row) (is_looked_into rules (l ∷ after) row) (or_first (needs_texts l && is_candidate rules row.texts l) (is_looked_into rules after row) e) in (
      operand_stays rules sign operand ∙ ap not stay,
      λ id. m.1 texts id ∙ ap (λ (q : Postings). operand_says operand q texts id) here ∙ operand_means rules rows s.ascend texts looked s.texts_are operand looks_into stay id,
    )
