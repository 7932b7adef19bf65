-- What documents have by the cache is what rows have by their texts.
use Rattle.std.proofs.Common.{◌≡◌, ◌⊎◌, inl, inr, ◌↔◌, ℕ, suc, ◌+◌, ◌-◌, ◌<◌, Bool, true, false, cond, not, ◌&&◌, ◌||◌, List, [], ◌∷◌, ◌++◌, map, filter, length, take, get_or, nat_lt, append_assoc, append-nil, nat_eq, Some, refl, sym, ap, ap₂, subst, ◌∙◌, ⊎_elim, arith, IsTrue}
use Rattle.std.specs.Prelude.{◌≢◌, Result, Ok, Err, IfOk}
use Rattle.std.specs.Borrow.{Bor}
use Rattle.std.specs.List.{AllByRecursion, list_any, list_all}
use Rattle.fts_cache.specs.Sorted.{IsAmong}
use Rattle.std.specs.Option.{unwrap_or}
use Rattle.std.specs.Map.{keys_of, lookup}
use Rattle.std.specs.BTreeMap.{is_at}
use Rattle.std.specs.Str.{bytes_eq}
use Rattle.std.proofs.lemmas.Bool.{cases_Bool, false≢true, eqb-true, leb-true, or_cases}
use Rattle.std.proofs.lemmas.List.{map-append, take-append-drop}
use Rattle.std.proofs.lemmas.List.Folds.{list_any-append}
use Rattle.std.proofs.lemmas.Map.Text.{is_eq-slice_cmp}
use Rattle.std.proofs.lemmas.List.Elements.{recursion_from_All}
use Rattle.std.proofs.lemmas.Slice.Eq.{bytes_eq-Decides}
use Rattle.fts_words.specs.declared.placed.PlacedWord.{PlacedWord}
use Rattle.fts_words.specs.Order.{begins_with, byte_order}
use Rattle.fts_words.specs.Indexed.{Rules, indexed_words, placed_words, word_of}
use Rattle.fts_types.specs.Row.{Row}
use Rattle.fts_ids.specs.Ids.{has, Ascend, AscendFrom}
use Rattle.fts_ids.proofs.Ascending.{AscendFrom-sooner, AscendFrom-join, same_ids, has-filter}
use Rattle.fts_ids.proofs.Marking.{last_most}
use Rattle.fts_commits.specs.Commit.{Rows}
use Rattle.fts_commits.specs.Turn.{Turn, RowsAscend, AreTurns, births_of, deaths_of}
use Rattle.fts_ilist.specs.Spelling.{Posting, PostingsAfter, ArePostings, id_at_end}
use Rattle.fts_ilist.specs.Node.{Docs, NodesAfter}
use Rattle.fts_ilist.specs.Packing.{joined}
use Rattle.fts_aux.specs.Words.{IsListing, nodes_at}
use Rattle.fts_aux.specs.Tables.{nodes}
use Rattle.fts_lists.specs.State as lists
use Rattle.fts_lists.specs.declared.lists.DeleteList.TheVariants.{Deleted, DeletedCache}
use Rattle.fts_entries.specs.Entry.{IndexState, unflushed}
use Rattle.fts_entries.specs.Batch.{largest_after}
use Rattle.fts_entries.proofs.Filters.{leads}
use Rattle.fts_entries.proofs.Postings.{IsBetween, rows_between}
use Rattle.fts_entries.proofs.Turns.{two_parts, births_ascend}
use Rattle.fts_entries.proofs.Batches.{fails}
use Rattle.fts_index.specs.declared.index.Index.{Index}
use Rattle.fts_index.specs.Index.{Represents}
use Rattle.fts_index.specs.Stands.{StandsFor, Indexes}
use Rattle.fts_cache.specs.Cache.{postings_of}
use Rattle.fts_meaning.specs.Leaf.{Leaf, no_leaf, of_word, of_prefix, of_words}
use Rattle.fts_meaning.specs.Holds.{some_indexed}
use Rattle.fts_meaning.specs.View as view
use Rattle.fts_meaning.specs.View.{has_word, has_words, is_candidate, needs_texts, ids_where, columns_at, is_looked_into}
use Rattle.fts_query.specs.declared.view.Leaf.{Leaf as Asked}
use Rattle.fts_query.specs.Seen.{leaves_seen}
use Rattle.fts_query.proofs.Chosen.{has_where, where_ascends}
use Rattle.fts_entries.specs.Words.{rows_postings}
use Rattle.fts_index.specs.Gathered.{doc_ids, Shown, table_has, cache_has, doc_has, doc_has_words, HasPrefix, IsAskedFor, AreAskedFor, AreTold, is_needed, IsGathered}
use Rattle.fts_index.specs.declared.gather.Gathered.{Gathered}
use Rattle.fts_index.proofs.Found.{rows_having}

-- the ids of rows that ascend
pub docs_ascend : (low high : ℕ) (rows : List Row) → RowsAscend low high rows → AscendFrom (low + 1) (map (λ (row : Row). row.doc) rows)
docs_ascend low high [] up = tt
docs_ascend low high (row ∷ rows) up = (omega (arith, up.0), docs_ascend row.doc high rows up.1)

-- the ids of postings ascend
ids_ascend : (last : ℕ) (ps : List Posting) → PostingsAfter last ps → AscendFrom (last + 1) (doc_ids ps)
ids_ascend last [] are = tt
ids_ascend last (p ∷ ps) are = (omega (arith, are.0), ids_ascend p.id ps are.3)

pub postings_ascend : (ids : List ℕ) (ps : List Posting) → ids ≡ doc_ids ps → ArePostings ps → Ascend ids
postings_ascend ids ps e are = subst Ascend (sym e) (AscendFrom-sooner 1 0 (doc_ids ps) (ids_ascend 0 ps are) (omega arith))

same_truth : (a b : Bool) → (a ≡ true → b ≡ true) → (b ≡ true → a ≡ true) → a ≡ b
same_truth true b f g = sym (f refl)
same_truth false true f g = g refl
same_truth false false f g = refl

and_false : (a : Bool) → (a && false) ≡ false
and_false true = refl
and_false false = refl

and_true : (a : Bool) → (a && true) ≡ a
and_true true = refl
and_true false = refl

or_left : (a b : Bool) → a ≡ true → (a || b) ≡ true
or_left true b e = refl
or_left false b e = absurd (false≢true e)

or_right : (a b : Bool) → b ≡ true → (a || b) ≡ true
or_right true b e = refl
or_right false b e = e

same_words : (v w : List ℕ) → bytes_eq v w ≡ true → v ≡ w
same_words v w e = (bytes_eq-Decides v w).0 e

-- an answer that tells of each id one thing tells another that is the same
pub told_so : {E : Type 0} (r : Result (List ℕ) E) (f g : ℕ → Bool) → IfOk r (λ ids. (id : ℕ) → has ids id ≡ f id) → ((id : ℕ) → f id ≡ g id) → IfOk r (λ ids. (id : ℕ) → has ids id ≡ g id)
told_so (Ok ids) f g told same = λ id. told id ∙ same id
told_so (Err e) f g told same = told

-- ---- the ids of nodes

chained : (last : ℕ) (ps rest : List Posting) → PostingsAfter last ps → AscendFrom (id_at_end last ps + 1) (doc_ids rest) → AscendFrom (last + 1) (doc_ids (ps ++ rest))
chained last [] rest are more = more
chained last (p ∷ ps) rest are more = (omega (arith, are.0), chained p.id ps rest are.3 more)

nodes_ascend : (last : ℕ) (nodes : List Docs) → NodesAfter last nodes → AllByRecursion ArePostings nodes → AscendFrom (last + 1) (doc_ids (joined nodes))
nodes_ascend last [] after are = tt
nodes_ascend last ([] ∷ ns) after are = absurd after.0
nodes_ascend last ((p ∷ ps) ∷ ns) after are =
    (omega (arith, after.0), chained p.id ps (joined ns) are.0.3 (nodes_ascend (id_at_end p.id ps) ns after.1 are.1))

-- what was read of nodes, and what is left of them
pub record IsReading (all : List Docs) (ids : List ℕ) (rest : List Docs) : Type 0 where
  pub same : ids ++ doc_ids (joined rest) ≡ doc_ids (joined all)
  pub are : AllByRecursion ArePostings rest → AllByRecursion ArePostings all

pub reading_more : (all : List Docs) (ids : List ℕ) (rest : List Docs) (node : Docs) (left : List Docs) (new : List ℕ) → IsReading all ids rest → rest ≡ node ∷ left → ArePostings node
    → new ≡ ids ++ doc_ids node → IsReading all new left
reading_more all ids rest node left new reading steps are put = record {
  same = ap (λ (is : List ℕ). is ++ doc_ids (joined left)) put
      ∙ append_assoc ids (doc_ids node) (doc_ids (joined left))
      ∙ ap (λ (is : List ℕ). ids ++ is) (sym (map-append (λ (p : Posting). p.id) node (joined left)) ∙ ap (λ (ns : List Docs). doc_ids (joined ns)) (sym steps))
      ∙ reading.same;
  are = λ h. reading.are (subst (AllByRecursion ArePostings) (sym steps) (are, h));
}

pub read_all : (all : List Docs) (ids : List ℕ) (rest : List Docs) → IsReading all ids rest → rest ≡ [] → ids ≡ doc_ids (joined all)
read_all all ids rest reading none = sym (append-nil ids) ∙ ap (λ (ns : List Docs). ids ++ doc_ids (joined ns)) (sym none) ∙ reading.same

pub read_ascend : (all : List Docs) (ids : List ℕ) (rest : List Docs) → IsReading all ids rest → rest ≡ [] → NodesAfter 0 all → Ascend ids
read_ascend all ids rest reading none after =
    subst Ascend (sym (read_all all ids rest reading none))
    (AscendFrom-sooner 1 0 (doc_ids (joined all)) (nodes_ascend 0 all after (reading.are (subst (AllByRecursion ArePostings) (sym none) tt))) (omega arith))

-- ---- ids without others

pub none_taken : (ids taken : List ℕ) → taken ≡ [] → (id : ℕ) → has ids id ≡ (has ids id && not (has taken id))
none_taken ids taken none id = sym (ap (λ (ts : List ℕ). has ids id && not (has ts id)) none ∙ and_true (has ids id))

and_comm : (a b : Bool) → (a && b) ≡ (b && a)
and_comm true true = refl
and_comm true false = refl
and_comm false true = refl
and_comm false false = refl

pub taken_out : (ids left taken : List ℕ) → left ≡ filter (λ id. not (has taken id)) ids → (id : ℕ) → has left id ≡ (has ids id && not (has taken id))
taken_out ids left taken is id =
    ap (λ (xs : List ℕ). has xs id) is ∙ has-filter (λ k. not (has taken k)) ids id ∙ and_comm (not (has taken id)) (has ids id)

-- ids before others, by the last of the first and the first of the others
pub before_all : (front rest : List ℕ) → AscendFrom 0 front → AscendFrom 0 rest → 0 < length rest → nat_lt (get_or front (length front - 1) 0) (get_or rest 0 0) ≡ true → (id : ℕ) → has front id ≡ true
    → AscendFrom (id + 1) rest
before_all front [] up down some less id there = absurd (omega (arith, some))
before_all front (x ∷ xs) up down some less id there =
    let low = last_most front id up there in
    let above = leb-true (suc (get_or front (length front - 1) 0)) x less in
    (omega (arith, low, above), down.1)

pub joined_up : (a b items : List ℕ) → items ≡ a ++ b → Ascend a → Ascend b → ((id : ℕ) → has a id ≡ true → AscendFrom (id + 1) b) → Ascend items
joined_up a b items is up down above = subst Ascend (sym is) (AscendFrom-join 0 a b up down above)

pub ok_leads : {X E : Type 0} (r : Result X E) (P Q : X → Type 0) → ((x : X) → P x → Q x) → IfOk r P → IfOk r Q
ok_leads (Ok x) P Q step h = step x h
ok_leads (Err e) P Q step h = h

pub any_mapped : {X Y : Type 0} (f : Y → Bool) (g : X → Y) (xs : List X) → list_any f (map g xs) ≡ list_any (λ x. f (g x)) xs
any_mapped f g [] = refl
any_mapped f g (x ∷ xs) = ap (λ (b : Bool). f (g x) || b) (any_mapped f g xs)

-- ---- what the index shows is what the rows have

of_id : (t d x c : Bool) → (c ≡ true → d ≡ false) → (((t && not d) && not x) || (c && not x)) ≡ ((t || c) && not (d || x))
of_id true true true true h = refl
of_id true true true false h = refl
of_id true true false true h = absurd (false≢true (sym (h refl)))
of_id true true false false h = refl
of_id true false true true h = refl
of_id true false true false h = refl
of_id true false false true h = refl
of_id true false false false h = refl
of_id false true true true h = refl
of_id false true true false h = refl
of_id false true false true h = absurd (false≢true (sym (h refl)))
of_id false true false false h = refl
of_id false false true true h = refl
of_id false false true false h = refl
of_id false false false true h = refl
of_id false false false false h = refl

left_ids : (test : ℕ → Bool) (ps : List Posting) → doc_ids (filter (λ p. test p.id) ps) ≡ filter test (doc_ids ps)
left_ids test [] = refl
left_ids test (p ∷ ps) = by (test p.id) (left_ids test ps)
  where
    by : (b : Bool) → doc_ids (filter (λ q. test q.id) ps) ≡ filter test (doc_ids ps)
        → doc_ids (cond b (p ∷ filter (λ q. test q.id) ps) (filter (λ q. test q.id) ps)) ≡ cond b (p.id ∷ filter test (doc_ids ps)) (filter test (doc_ids ps))
    by true rest = ap (λ (ids : List ℕ). p.id ∷ ids) rest
    by false rest = rest

above_all : (low id : ℕ) (ps : List Posting) → AllByRecursion (λ p. low < p.id) ps → has (doc_ids ps) id ≡ true → low < id
above_all low id [] h there = absurd (false≢true there)
above_all low id (p ∷ ps) h there =
    ⊎_elim (λ (here : nat_eq id p.id ≡ true). (let e = eqb-true id p.id here in omega (arith, e, h.0)))
    (λ (later : has (doc_ids ps) id ≡ true). above_all low id ps h.1 later)
    (or_cases (nat_eq id p.id) (has (doc_ids ps) id) there)

pub shows_rows : (rules : Rules) (rows : Rows) (turns : List Turn) (s : IndexState) (index : Index) → Indexes rules rows turns s index
    → (id : ℕ) (word : List ℕ) → doc_has index id word ≡ has (doc_ids (rows_postings rules word rows.list)) id
unfolding StandsFor
shows_rows rules rows turns s index is id word =
    let stands : Represents rules turns s index = is.stands in
    let fits = is.fits in
    let wait = unflushed turns s in
    let tables = joined (s.nodes word) in
    let cached = rows_postings rules word (births_of wait) in
    let test : ℕ → Bool = λ q. not (has s.deleted q || has (deaths_of wait) q) in
    let parts = two_parts 0 (take s.flushed turns) wait (subst (AreTurns 0) (sym (take-append-drop s.flushed turns)) is.commits.ascend) in
    let ids = births_ascend s.synced wait (subst (λ n. AreTurns n wait) (sym fits.synced) parts.of_rest) in
    let above = leads (λ p. IsBetween s.synced (largest_after s.synced wait) p.id) (λ p. s.synced < p.id) cached (λ p h. h.above)
    (rows_between rules word s.synced (largest_after s.synced wait) (births_of wait) ids) in
    let d : has (lists.ids_of Deleted index.lists) id ≡ has s.deleted id = ap (λ (xs : List ℕ). has xs id) stands.deleted in
    let x : has (lists.ids_of DeletedCache index.lists) id ≡ has (deaths_of wait) id = stands.dead id in
    let t : has (doc_ids (joined (nodes index.tables word))) id ≡ has (doc_ids tables) id = ap (λ (ns : List Docs). has (doc_ids (joined ns)) id) (stands.tables word) in
    let k : has (doc_ids (postings_of index.cache word)) id ≡ has (doc_ids cached) id = ap (λ (ps : List Posting). has (doc_ids ps) id) (stands.cache word) in
    ap₂ (λ (a b : Bool). a || b)
    (ap₂ (λ (a b : Bool). a && not b) (ap₂ (λ (a b : Bool). a && not b) t d) x)
    (ap₂ (λ (a b : Bool). a && not b) k x)
    ∙ of_id (has (doc_ids tables) id) (has s.deleted id) (has (deaths_of wait) id) (has (doc_ids cached) id)
    (λ there. fails (has s.deleted id) (λ gone. (let up = above_all s.synced id cached above there in let low = fits.deleted id gone in omega (arith, up, low))))
    ∙ ap (λ (b : Bool). b && test id) (sym (list_any-append (nat_eq id) (doc_ids tables) (doc_ids cached)) ∙ ap (λ (xs : List ℕ). has xs id) (sym (map-append (λ (p : Posting). p.id) tables cached)))
    ∙ and_comm (has (doc_ids (tables ++ cached)) id) (test id)
    ∙ sym (has-filter test (doc_ids (tables ++ cached)) id)
    ∙ ap (λ (xs : List ℕ). has xs id) (sym (left_ids test (tables ++ cached)))
    ∙ ap (λ (ps : List Posting). has (doc_ids ps) id) (is.exact.live word)

-- ---- words of tables and cache that begin so

found_nodes : (es : List (List ℕ × List Docs)) (v : List ℕ) → AllByRecursion (λ e. e.1 ≢ []) es → list_any (bytes_eq v) (keys_of es) ≡ true → nodes_at v es ≡ [] → ⊥
found_nodes [] v some e none = false≢true e
found_nodes (e ∷ es) v some here none =
    ⊎_elim
    (λ (yes : bytes_eq v e.0 ≡ true). some.0 (sym (ap (λ (b : Bool). unwrap_or (cond b (Some e.1) (lookup (is_at (byte_order v)) es)) []) (is_eq-slice_cmp v e.0 ∙ yes)) ∙ none))
    (λ (no : bytes_eq v e.0 ≡ false). found_nodes es v some.1 (sym (ap (λ (b : Bool). b || list_any (bytes_eq v) (keys_of es)) no) ∙ here)
    (sym (ap (λ (b : Bool). unwrap_or (cond b (Some e.1) (lookup (is_at (byte_order v)) es)) []) (is_eq-slice_cmp v e.0 ∙ no)) ∙ none))
    (cases_Bool (bytes_eq v e.0))

pub listed_begin : (nodes_of : List ℕ → List Docs) (prefix : List ℕ) (listing : List (List ℕ × List Docs)) → IsListing nodes_of prefix listing → (w : List ℕ) → list_any (bytes_eq w) (keys_of listing) ≡ true
    → begins_with prefix w ≡ true
listed_begin nodes_of prefix listing is w there =
    ⊎_elim (λ (yes : begins_with prefix w ≡ true). yes)
    (λ (no : begins_with prefix w ≡ false). absurd (found_nodes listing w (recursion_from_All (λ (e : List ℕ × List Docs). e.1 ≢ []) listing is.filled) there
    (is.exact w ∙ ap (λ (b : Bool). cond b (nodes_of w) []) no)))
    (cases_Bool (begins_with prefix w))

-- a word that is listed has nodes
pub listed_some : (nodes_of : List ℕ → List Docs) (prefix : List ℕ) (listing : List (List ℕ × List Docs)) → IsListing nodes_of prefix listing → (w : List ℕ) → list_any (bytes_eq w) (keys_of listing) ≡ true
    → nodes_of w ≢ []
listed_some nodes_of prefix listing is w there none =
    found_nodes listing w (recursion_from_All (λ (e : List ℕ × List Docs). e.1 ≢ []) listing is.filled) there
    (is.exact w ∙ ap (λ (ns : List Docs). cond (begins_with prefix w) ns []) none ∙ nothing (begins_with prefix w))
  where
    no_nodes : List Docs
    no_nodes = []

    nothing : (b : Bool) → cond b no_nodes no_nodes ≡ no_nodes
    nothing true = refl
    nothing false = refl

pub listed_all : (nodes_of : List ℕ → List Docs) (prefix : List ℕ) (listing : List (List ℕ × List Docs)) → IsListing nodes_of prefix listing → (w : List ℕ) → begins_with prefix w ≡ true → nodes_of w ≢ []
    → list_any (bytes_eq w) (keys_of listing) ≡ true
listed_all nodes_of prefix listing is w begins some =
    ⊎_elim (λ (yes : list_any (bytes_eq w) (keys_of listing) ≡ true). yes)
    (λ (no : list_any (bytes_eq w) (keys_of listing) ≡ false).
    absurd (some (sym (is.exact w ∙ ap (λ (b : Bool). cond b (nodes_of w) []) begins) ∙ absent listing no)))
    (cases_Bool (list_any (bytes_eq w) (keys_of listing)))
  where
    absent : (es : List (List ℕ × List Docs)) → list_any (bytes_eq w) (keys_of es) ≡ false → nodes_at w es ≡ []
    absent [] e = refl
    absent (e ∷ es) h =
        ap (λ (b : Bool). unwrap_or (cond b (Some e.1) (lookup (is_at (byte_order w)) es)) []) (is_eq-slice_cmp w e.0 ∙ first (bytes_eq w e.0) (list_any (bytes_eq w) (keys_of es)) h)
        ∙ absent es (second (bytes_eq w e.0) (list_any (bytes_eq w) (keys_of es)) h)
      where
        first : (a b : Bool) → (a || b) ≡ false → a ≡ false
        first true b x = x
        first false b x = refl

        second : (a b : Bool) → (a || b) ≡ false → b ≡ false
        second true b x = absurd (false≢true (sym x))
        second false b x = x

-- ---- a list of words

module _ (shown : Shown) (id : ℕ) where
  some_word : (words : List (List ℕ)) → list_any (shown id) words ≡ true
      → (v : List ℕ) × (list_any (bytes_eq v) words ≡ true) × (shown id v ≡ true)
  some_word [] e = absurd (false≢true e)
  some_word (w ∷ ws) e =
      ⊎_elim
      (λ (yes : shown id w ≡ true).
      let same : bytes_eq w w ≡ true = (bytes_eq-Decides w w).1 refl in
      (w, rw same refl, yes))
      (λ (no : shown id w ≡ false).
      let later = some_word ws (rw no at e) in
      (later.0, or_right (bytes_eq later.0 w) _ later.1, later.2))
      (cases_Bool (shown id w))

  among_words : (v : List ℕ) (words : List (List ℕ)) → list_any (bytes_eq v) words ≡ true → shown id v ≡ true
      → list_any (shown id) words ≡ true
  among_words v [] e has_it = absurd (false≢true e)
  among_words v (w ∷ ws) e has_it =
      ⊎_elim
      (λ (yes : bytes_eq v w ≡ true).
      let first : shown id w ≡ true = ap (shown id) (sym (same_words v w yes)) ∙ has_it in
      rw first refl)
      (λ (no : bytes_eq v w ≡ false). or_right (shown id w) _ (among_words v ws (rw no at e) has_it))
      (cases_Bool (bytes_eq v w))

  -- some word that begins so is the document's
  pub prefix_told : (prefix : List ℕ) (words : List (List ℕ)) (some : Bool) → some ≡ list_any (shown id) words
      → ((w : List ℕ) → IsTrue (list_any (bytes_eq w) words) → IsTrue (begins_with prefix w))
      → ((w : List ℕ) → IsTrue (begins_with prefix w) → IsTrue (shown id w) → IsTrue (list_any (bytes_eq w) words)) → IsTrue some ↔ HasPrefix shown id prefix
  prefix_told prefix words some is begin all = (
    λ e. let found = some_word words (sym is ∙ e) in
        record { word = found.0; begins = begin found.0 found.1; here = found.2 },
    λ has_prefix. let w = has_prefix.word in is ∙ among_words w words (all w has_prefix.begins has_prefix.here) has_prefix.here,
  )

  -- one word more
  pub each_more : (first : List ℕ) (words : List (List ℕ)) (word : List ℕ) → (doc_has_words shown id (first ∷ words) && shown id word) ≡ doc_has_words shown id (first ∷ (words ++ word ∷ []))
  each_more first words word =
      and_assoc (shown id first) (list_all (shown id) words) (shown id word)
      ∙ ap (λ (b : Bool). shown id first && b) (last_one words word)
    where
      and_assoc : (a b c : Bool) → ((a && b) && c) ≡ (a && (b && c))
      and_assoc true b c = refl
      and_assoc false b c = refl

      last_one : (ws : List (List ℕ)) (w : List ℕ) → (list_all (shown id) ws && shown id w) ≡ list_all (shown id) (ws ++ w ∷ [])
      last_one [] w = sym (and_true (shown id w))
      last_one (v ∷ vs) w = and_assoc (shown id v) (list_all (shown id) vs) (shown id w) ∙ ap (λ (b : Bool). shown id v && b) (last_one vs w)

-- the words of the cache, and of the tables, that begin so
pub cache_told : (index : Index) (id : ℕ) (prefix : List ℕ) (words : List (Bor (List ℕ))) (some : Bool) → some ≡ list_any (λ (w : Bor (List ℕ)). cache_has index id w.now) words
    → ((w : List ℕ) → IsAmong w words ↔ (IsTrue (begins_with prefix w) × (postings_of index.cache w ≢ []))) → IsTrue some ↔ HasPrefix (cache_has index) id prefix
cache_told index id prefix words some is tells =
    prefix_told (cache_has index) id prefix (map (λ (w : Bor (List ℕ)). w.now) words) some (is ∙ sym (any_mapped (cache_has index id) (λ (w : Bor (List ℕ)). w.now) words))
    (λ w there. ((tells w).0 there).0)
    (λ w begins here. (tells w).1 (
      begins,
      (λ none. false≢true (sym (ap (λ (ps : List Posting). has (doc_ids ps) id && not (has (lists.ids_of DeletedCache index.lists) id)) none) ∙ here)),
    ))

pub table_told : (index : Index) (id : ℕ) (prefix : List ℕ) (listing : List (List ℕ × List Docs)) (some : Bool) → some ≡ list_any (table_has index id) (keys_of listing)
    → IsListing (nodes index.tables) prefix listing → IsTrue some ↔ HasPrefix (table_has index) id prefix
table_told index id prefix listing some is lists_them =
    prefix_told (table_has index) id prefix (keys_of listing) some is
    (λ w there. listed_begin (nodes index.tables) prefix listing lists_them w there)
    (λ w begins here. listed_all (nodes index.tables) prefix listing lists_them w begins
    (λ none. false≢true (sym (ap (λ (ns : List Docs). (has (doc_ids (joined ns)) id && not (has (lists.ids_of Deleted index.lists) id)) && not (has (lists.ids_of DeletedCache index.lists) id)) none) ∙ here)))

pub truth_moves : (a b : Bool) (P : Type 0) → a ≡ b → IsTrue b ↔ P → IsTrue a ↔ P
truth_moves a b P e h = (λ x. h.0 (sym e ∙ x), λ p. e ∙ h.1 p)

-- words that begin so, of one kind or the other
pub either_told : (a b some : Bool) (f g : Shown) (id : ℕ) (prefix : List ℕ) → some ≡ (a || b) → IsTrue a ↔ HasPrefix f id prefix → IsTrue b ↔ HasPrefix g id prefix
    → IsTrue some ↔ HasPrefix (λ d w. f d w || g d w) id prefix
either_told a b some f g id prefix is left right = (
  λ e. ⊎_elim
      (λ (yes : a ≡ true). (let h = left.0 yes in record { word = h.word; begins = h.begins; here = or_left (f id h.word) (g id h.word) h.here }))
      (λ (yes : b ≡ true). (let h = right.0 yes in record { word = h.word; begins = h.begins; here = or_right (f id h.word) (g id h.word) h.here }))
      (or_cases a b (sym is ∙ e)),
  λ h. is ∙ ⊎_elim
      (λ (yes : f id h.word ≡ true). or_left a b (left.1 (record { word = h.word; begins = h.begins; here = yes })))
      (λ (yes : g id h.word ≡ true). or_right a b (right.1 (record { word = h.word; begins = h.begins; here = yes })))
      (or_cases (f id h.word) (g id h.word) h.here),
)

module _ (texts : List (List ℕ)) (prefix : List ℕ) where
  -- a word that begins so, among the words of a row
  begun : (w : List ℕ) (founds : List PlacedWord) → begins_with prefix w ≡ true → list_any (λ (found : PlacedWord). bytes_eq (word_of texts found) w) founds ≡ true
      → list_any (λ (found : PlacedWord). begins_with prefix (word_of texts found)) founds ≡ true
  begun w [] begins e = absurd (false≢true e)
  begun w (found ∷ founds) begins e =
      ⊎_elim
      (λ (yes : bytes_eq (word_of texts found) w ≡ true).
      let first : begins_with prefix (word_of texts found) ≡ true = ap (begins_with prefix) (same_words (word_of texts found) w yes) ∙ begins in
      rw first refl)
      (λ (no : bytes_eq (word_of texts found) w ≡ false).
      let later = begun w founds begins (rw no at e) in
      ⊎_elim (λ (yes : begins_with prefix (word_of texts found) ≡ true). rw yes refl) (λ (not : begins_with prefix (word_of texts found) ≡ false). rw not later) (cases_Bool (begins_with prefix (word_of texts found))))
      (cases_Bool (bytes_eq (word_of texts found) w))

  -- and the other way round
  beginning : (founds : List PlacedWord) → list_any (λ (found : PlacedWord). begins_with prefix (word_of texts found)) founds ≡ true
      → (w : List ℕ) × (begins_with prefix w ≡ true) × (list_any (λ (found : PlacedWord). bytes_eq (word_of texts found) w) founds ≡ true)
  beginning [] e = absurd (false≢true e)
  beginning (found ∷ founds) e =
      ⊎_elim
      (λ (yes : begins_with prefix (word_of texts found) ≡ true).
      let same : bytes_eq (word_of texts found) (word_of texts found) ≡ true = (bytes_eq-Decides (word_of texts found) (word_of texts found)).1 refl in
      (word_of texts found, yes, rw same refl))
      (λ (no : begins_with prefix (word_of texts found) ≡ false).
      let later = beginning founds (rw no at e) in
      (later.0, later.1, ⊎_elim (λ (yes : bytes_eq (word_of texts found) later.0 ≡ true). rw yes refl) (λ (not : bytes_eq (word_of texts found) later.0 ≡ false). rw not later.2) (cases_Bool (bytes_eq (word_of texts found) later.0))))
      (cases_Bool (begins_with prefix (word_of texts found)))

module _ (rules : Rules) (rows : List Row) (shown : Shown) (up : AscendFrom 0 (map (λ (row : Row). row.doc) rows))
    (h : (id : ℕ) (word : List ℕ) → shown id word ≡ has (doc_ids (rows_postings rules word rows)) id) where
  no_word : (w : List ℕ) → has_word rules [] w ≡ false
  unfolding placed_words
  no_word w = refl

  has_at : (id : ℕ) (w : List ℕ) → shown id w ≡ has_word rules (columns_at rows id) w
  has_at id w =
      h id w
      ∙ ap (λ ids. has ids id) (rows_having rules w rows)
      ∙ has_where (λ (columns : List (List ℕ)). has_word rules columns w) (no_word w) rows 0 up id

  each_at : (id : ℕ) (ws : List (List ℕ)) → list_all (shown id) ws ≡ list_all (has_word rules (columns_at rows id)) ws
  each_at id [] = refl
  each_at id (w ∷ ws) = ap (λ b. b && list_all (shown id) ws) (has_at id w) ∙ ap (λ b. has_word rules (columns_at rows id) w && b) (each_at id ws)

  words_at : (id : ℕ) (ws : List (List ℕ)) → doc_has_words shown id ws ≡ has_words rules (columns_at rows id) ws
  words_at id [] = refl
  words_at id (w ∷ ws) = each_at id (w ∷ ws)

  prefix_at : (id : ℕ) (prefix : List ℕ) → HasPrefix shown id prefix ↔ IsTrue (some_indexed rules (columns_at rows id) (begins_with prefix))
  prefix_at id prefix =
      let columns = columns_at rows id in (
        λ has. begun columns prefix has.word (indexed_words rules columns) has.begins (sym (has_at id has.word) ∙ has.here),
        λ some. let found = beginning columns prefix (indexed_words rules columns) some in
            record { word = found.0; begins = found.1; here = has_at id found.0 ∙ found.2 },
      )

  -- a document is asked for where its row is a candidate
  candidate_at : (leaf : Leaf) (id : ℕ) → IsAskedFor shown leaf id ↔ IsTrue (is_candidate rules (columns_at rows id) leaf)
  candidate_at no_leaf id = (λ no. absurd no, λ no. absurd (false≢true no))
  candidate_at (of_word w) id = (λ here. sym (has_at id w) ∙ here, λ here. has_at id w ∙ here)
  candidate_at (of_prefix w) id = prefix_at id w
  candidate_at (of_words ws) id = (λ here. sym (words_at id ws) ∙ here, λ here. words_at id ws ∙ here)

  no_candidate : (leaf : Leaf) → is_candidate rules [] leaf ≡ false
  unfolding placed_words
  no_candidate no_leaf = refl
  no_candidate (of_word w) = refl
  no_candidate (of_prefix w) = refl
  no_candidate (of_words []) = refl
  no_candidate (of_words (w ∷ ws)) = refl

  -- whether an id is told of a leaf is whether its row is a candidate
  told_at : (leaf : Leaf) (ids : List ℕ) → AreAskedFor shown leaf ids → (id : ℕ) → has ids id ≡ is_candidate rules (columns_at rows id) leaf
  told_at leaf ids told id = same_truth (has ids id) (is_candidate rules (columns_at rows id) leaf)
      (λ e. (candidate_at leaf id).0 ((told.each id).0 e))
      (λ e. (told.each id).1 ((candidate_at leaf id).1 e))

  -- the ids that a leaf is told are those of its candidates
  told_ids : (leaf : Leaf) (ids : List ℕ) → AreAskedFor shown leaf ids → ids ≡ (view.postings_of rules rows leaf).ids
  told_ids leaf ids told =
      let test : List (List ℕ) → Bool = λ columns. is_candidate rules columns leaf in
      same_ids 0 0 ids (ids_where (λ (row : Row). test row.texts) rows) told.ascend (where_ascends (λ (row : Row). test row.texts) rows 0 up)
      (λ id. told_at leaf ids told id ∙ sym (has_where test (no_candidate leaf) rows 0 up id))

  told_lists : (asked : List Leaf) (lists : List (List ℕ)) → AreTold shown asked lists → lists ≡ map (λ (l : Leaf). (view.postings_of rules rows l).ids) asked
  told_lists [] [] all = refl
  told_lists [] (ids ∷ lists) all = absurd all
  told_lists (l ∷ ls) [] all = absurd all
  told_lists (l ∷ ls) (ids ∷ lists) all =
      ap (λ (first : List ℕ). first ∷ lists) (told_ids l ids all.0)
      ∙ ap (λ (rest : List (List ℕ)). (view.postings_of rules rows l).ids ∷ rest) (told_lists ls lists all.1)

  needed_at : (id : ℕ) (asked : List Leaf) (lists : List (List ℕ)) → AreTold shown asked lists
      → is_needed asked lists id ≡ list_any (λ (l : Leaf). needs_texts l && is_candidate rules (columns_at rows id) l) asked
  needed_at id [] [] all = refl
  needed_at id [] (ids ∷ lists) all = absurd all
  needed_at id (l ∷ ls) [] all = absurd all
  needed_at id (l ∷ ls) (ids ∷ lists) all =
      ap (λ (b : Bool). (needs_texts l && b) || is_needed ls lists id) (told_at l ids all.0 id)
      ∙ ap (λ (b : Bool). (needs_texts l && is_candidate rules (columns_at rows id) l) || b) (needed_at id ls lists all.1)

  none_needed : (asked : List Leaf) → list_any (λ (l : Leaf). needs_texts l && is_candidate rules [] l) asked ≡ false
  none_needed [] = refl
  none_needed (l ∷ ls) = ap (λ (b : Bool). (needs_texts l && b) || list_any (λ (k : Leaf). needs_texts k && is_candidate rules [] k) ls) (no_candidate l)
      ∙ ap (λ (b : Bool). b || list_any (λ (k : Leaf). needs_texts k && is_candidate rules [] k) ls) (and_false (needs_texts l))
      ∙ none_needed ls

  -- what is told of leaves is gathered
  pub gathers : (asked : List Leaf) (gathered : Gathered) → AreTold shown asked gathered.lists.items → Ascend gathered.looked_into
      → ((id : ℕ) → has gathered.looked_into id ≡ is_needed asked gathered.lists.items id) → IsGathered rules rows asked gathered
  gathers asked gathered told ascend each =
      let test : List (List ℕ) → Bool = λ columns. list_any (λ (l : Leaf). needs_texts l && is_candidate rules columns l) asked in
      record {
        lists = told_lists asked gathered.lists.items told;
        looked_into = same_ids 0 0 gathered.looked_into (ids_where (is_looked_into rules asked) rows) ascend (where_ascends (is_looked_into rules asked) rows 0 up)
            (λ id. each id ∙ needed_at id asked gathered.lists.items told ∙ sym (has_where test (none_needed asked) rows 0 up id));
      }

-- one of two lists that are walked together has ended
or_nothing : (b : Bool) → b ≡ (b || false)
or_nothing true = refl
or_nothing false = refl

pub no_more : (b : Bool) (id : ℕ) (left : List Asked) (lists : List (List ℕ)) → (length left ≡ 0) ⊎ (length lists ≡ 0) → b ≡ (b || is_needed (leaves_seen left) lists id)
no_more b id [] lists over = or_nothing b
no_more b id (leaf ∷ left) [] over = or_nothing b
no_more b id (leaf ∷ left) (ids ∷ lists) (inl over) = absurd (omega (arith, over))
no_more b id (leaf ∷ left) (ids ∷ lists) (inr over) = absurd (omega (arith, over))
