-- New rows and the documents that have their words.
use Rattle.std.proofs.Common.{◌≡◌, ℕ, zero, suc, ◌+◌, ◌<◌, ◌≤◌, List, [], ◌∷◌, ◌++◌, length, map, take, get_or, All, arith, refl, sym, ap, ap₂, subst, ◌∙◌}
use Rattle.std.specs.List.{flat_map}
use Rattle.std.proofs.lemmas.List.{take_more, map-append}
use Rattle.std.proofs.lemmas.List.Elements.{All-head, All-tail}
use Rattle.fts_words.specs.Indexed.{Rules}
use Rattle.fts_ilist.specs.Spelling.{Posting}
use Rattle.fts_cache.specs.Document.{Document, document_postings}
use Rattle.fts_cache.specs.Cache.{CachedDocument, cached}
use Rattle.fts_types.specs.Row.{Row, row_of}
use Rattle.fts_types.specs.declared.row.Row.{Row as Kept}
use Rattle.fts_commits.specs.Turn.{RowsAscend}
use Rattle.fts_entries.specs.Rows.{CanIndex}
use Rattle.fts_index.specs.Births.{AreBirths}
use Rattle.fts_entries.specs.Words.{row_postings, rows_postings}
use Rattle.fts_index.specs.Document.{HasWordsOf, HaveWordsOf}
use Rattle.fts_index.specs.Index.{IdsAscendFrom, cached_row}
use Rattle.fts_index.specs.Parts.{last_after}

-- a new row by its place: its id is above the last, and it can be indexed
pub birth_at : (last largest : ℕ) (births : List Kept) (i : ℕ) (birth : Kept) → RowsAscend last largest (map row_of births) → All CanIndex (map row_of births)
    → i < length births → birth ≡ get_or births i birth → (last < birth.doc) × CanIndex (row_of birth)
birth_at last largest [] i birth ids rows lt e = absurd (omega (arith, lt))
birth_at last largest (b ∷ bs) zero birth ids rows lt e =
    let first : CanIndex (row_of b) = All-head CanIndex (row_of b) (map row_of bs) rows in
    (omega (arith, ids.0, ap (λ (r : Kept). r.doc) e), subst (λ (r : Kept). CanIndex (row_of r)) (sym e) first)
birth_at last largest (b ∷ bs) (suc i) birth ids rows lt e =
    let later = birth_at b.doc largest bs i birth ids.1 (All-tail CanIndex (row_of b) (map row_of bs) rows) (omega (arith, lt)) e in
    (omega (arith, ids.0, later.0), later.1)

pub words_push : (rules : Rules) (rows : List Row) (documents : List Document) (row : Row) (document : Document)
    → HaveWordsOf rules rows documents → HasWordsOf rules row document → HaveWordsOf rules (rows ++ row ∷ []) (documents ++ document ∷ [])
words_push rules [] [] row document h one = (one, tt)
words_push rules (r ∷ rs) (d ∷ ds) row document h one = (h.0, words_push rules rs ds row document h.1 one)
words_push rules [] (d ∷ ds) row document h one = absurd h
words_push rules (r ∷ rs) [] row document h one = absurd h

-- the documents of one row more
pub words_at : (rules : Rules) (births : List Kept) (i : ℕ) (birth : Kept) (documents more : List Document) (document : Document) → i < length births → birth ≡ get_or births i birth
    → HaveWordsOf rules (map row_of (take i births)) documents → HasWordsOf rules (row_of birth) document → more ≡ documents ++ document ∷ []
    → HaveWordsOf rules (map row_of (take (i + 1) births)) more
words_at rules births i birth documents more document lt e h one pushed =
    let taken : map row_of (take (i + 1) births) ≡ map row_of (take i births) ++ row_of birth ∷ []
    = ap (map row_of) (take_more births i birth lt ∙ ap (λ (b : Kept). take i births ++ b ∷ []) (sym e)) ∙ map-append row_of (take i births) (birth ∷ []) in
    subst (λ (rows : List Row). HaveWordsOf rules rows more) (sym taken)
    (subst (HaveWordsOf rules (map row_of (take i births) ++ row_of birth ∷ [])) (sym pushed) (words_push rules (map row_of (take i births)) documents (row_of birth) document h one))

-- the documents' ids ascend as the rows' do
pub documents_ascend : (rules : Rules) (low last largest : ℕ) (rows : List Row) (documents : List Document)
    → low ≤ last → RowsAscend last largest rows → HaveWordsOf rules rows documents → IdsAscendFrom low documents
documents_ascend rules low last largest [] [] le ids h = tt
documents_ascend rules low last largest (r ∷ rs) (d ∷ ds) le ids h =
    let same : d.id ≡ r.doc = h.0.id in
    (omega (arith, ids.0), documents_ascend rules d.id r.doc largest rs ds (omega arith) ids.1 h.1)
documents_ascend rules low last largest [] (d ∷ ds) le ids h = absurd h
documents_ascend rules low last largest (r ∷ rs) [] le ids h = absurd h

-- and end as they do
pub documents_end : (rules : Rules) (low last largest : ℕ) (rows : List Row) (documents : List Document)
    → low ≤ last → RowsAscend last largest rows → HaveWordsOf rules rows documents → last_after low documents ≤ largest
documents_end rules low last largest [] [] le ids h = omega (arith, ids)
documents_end rules low last largest (r ∷ rs) (d ∷ ds) le ids h =
    let same : d.id ≡ r.doc = h.0.id in
    documents_end rules d.id r.doc largest rs ds (omega arith) ids.1 h.1
documents_end rules low last largest [] (d ∷ ds) le ids h = absurd h
documents_end rules low last largest (r ∷ rs) [] le ids h = absurd h

-- the documents put into the list of a word what the rows do
pub same_postings : (rules : Rules) (word : List ℕ) (rows : List Row) (documents : List Document)
    → HaveWordsOf rules rows documents → flat_map (document_postings word) documents ≡ rows_postings rules word rows
same_postings rules word [] [] h = refl
same_postings rules word (r ∷ rs) (d ∷ ds) h =
    ap (λ (ps : List Posting). ps ++ flat_map (document_postings word) ds) (h.0.postings word)
    ∙ ap (λ (ps : List Posting). row_postings rules word r ++ ps) (same_postings rules word rs ds h.1)
same_postings rules word [] (d ∷ ds) h = absurd h
same_postings rules word (r ∷ rs) [] h = absurd h

-- and the cache keeps them as it does these
pub same_documents : (rules : Rules) (rows : List Row) (documents : List Document) → HaveWordsOf rules rows documents → map cached documents ≡ map (cached_row rules) rows
same_documents rules [] [] h = refl
same_documents rules (r ∷ rs) (d ∷ ds) h =
    ap₂ (λ (one : CachedDocument) (more : List CachedDocument). one ∷ more) (λ i. record { id = h.0.id i; size = h.0.size i }) (same_documents rules rs ds h.1)
same_documents rules [] (d ∷ ds) h = absurd h
same_documents rules (r ∷ rs) [] h = absurd h

-- ids that ascend from one on ascend from a smaller one on
pub ids_lower : (less low high : ℕ) (rows : List Row) → less ≤ low → RowsAscend low high rows → RowsAscend less high rows
ids_lower less low high [] under up = omega (arith, under, up)
ids_lower less low high (row ∷ rows) under up = (omega (arith, under, up.0), up.1)

-- births that can come behind one id can come behind a smaller one
pub births_lower : (less low high : ℕ) (births : List Row) → less ≤ low → AreBirths low high births → AreBirths less high births
births_lower less low high births under are = record { ids = ids_lower less low high births under are.ids; rows = are.rows }
