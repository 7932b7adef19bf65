-- What an index tells of the leaves of a query.
use Rattle.std.specs.Prelude.{◌≡◌, ◌↔◌, ℕ, Bool, false, ◌&&◌, ◌||◌, not, List, [], ◌∷◌, map, IsTrue}
use Rattle.std.specs.List.{list_any, list_all, zip, AllZip}
use Rattle.fts_words.specs.Order.{begins_with}
use Rattle.fts_words.specs.Indexed.{Rules}
use Rattle.fts_types.specs.Row.{Row}
use Rattle.fts_ids.specs.Ids.{has, Ascend}
use Rattle.fts_ilist.specs.Spelling.{Posting}
use Rattle.fts_ilist.specs.Packing.{joined}
use Rattle.fts_cache.specs.Cache.{postings_of}
use Rattle.fts_aux.specs.Tables.{nodes}
use Rattle.fts_lists.specs.State.{ids_of}
use Rattle.fts_lists.specs.declared.lists.DeleteList.TheVariants.{Deleted, DeletedCache}
use Rattle.fts_meaning.specs.Leaf.{Leaf, no_leaf, of_word, of_prefix, of_words}
use Rattle.fts_meaning.specs.View as view
use Rattle.fts_meaning.specs.View.{ids_where, is_looked_into, needs_texts}
use Rattle.fts_index.specs.declared.gather.Gathered.{Gathered}
use Rattle.fts_index.specs.declared.index.Index.{Index}

-- the ids of postings
abbrev pub doc_ids : List Posting → List ℕ
doc_ids postings = map (λ p. p.id) postings

-- whether the document has the word in the tables, and is not deleted
abbrev pub table_has : Index → ℕ → List ℕ → Bool
table_has index id word = (has (doc_ids (joined (nodes index.tables word))) id
    && not (has (ids_of Deleted index.lists) id)) && not (has (ids_of DeletedCache index.lists) id)

-- whether it has the word in the cache, and did not die
abbrev pub cache_has : Index → ℕ → List ℕ → Bool
cache_has index id word =
    has (doc_ids (postings_of index.cache word)) id && not (has (ids_of DeletedCache index.lists) id)

-- whether it has the word
abbrev pub doc_has : Index → ℕ → List ℕ → Bool
doc_has index id word = table_has index id word || cache_has index id word

-- which documents have which words
abbrev pub Shown : Type 0
Shown = ℕ → List ℕ → Bool

-- whether it has each of the words; where there is none, no document has them
abbrev pub doc_has_words : Shown → ℕ → List (List ℕ) → Bool
doc_has_words shown id [] = false
doc_has_words shown id (w ∷ ws) = list_all (shown id) (w ∷ ws)

-- it has a word that begins so
pub record HasPrefix (shown : Shown) (id : ℕ) (prefix : List ℕ) : Type 0 where
  pub word : List ℕ
  pub begins : IsTrue (begins_with prefix word)
  pub here : IsTrue (shown id word)

-- the document is one for which the leaf asks
abbrev pub IsAskedFor : Shown → Leaf → ℕ → Type 0
IsAskedFor shown no_leaf id = ⊥
IsAskedFor shown (of_word w) id = IsTrue (shown id w)
IsAskedFor shown (of_prefix w) id = HasPrefix shown id w
IsAskedFor shown (of_words ws) id = IsTrue (doc_has_words shown id ws)

-- the ids are those of the documents for which the leaf asks, ascending
pub record AreAskedFor (shown : Shown) (leaf : Leaf) (ids : List ℕ) : Type 0 where
  pub ascend : Ascend ids
  pub each : (id : ℕ) → IsTrue (has ids id) ↔ IsAskedFor shown leaf id

-- for each leaf there are the ids of the documents for which it asks
abbrev pub AreTold : Shown → List Leaf → List (List ℕ) → Type 0
AreTold shown asked lists = AllZip (AreAskedFor shown) asked lists

-- the document is one for which a leaf asks that needs texts
abbrev pub is_needed : List Leaf → List (List ℕ) → ℕ → Bool
is_needed asked lists id = list_any (λ p. needs_texts p.0 && has p.1 id) (zip asked lists)

-- for each leaf the ids of the rows that are its candidates, and those of the rows whose texts are looked into
pub record IsGathered (rules : Rules) (rows : List Row) (asked : List Leaf) (gathered : Gathered) : Type 0 where
  pub lists : gathered.lists.items ≡ map (λ leaf. (view.postings_of rules rows leaf).ids) asked
  pub looked_into : gathered.looked_into ≡ ids_where (is_looked_into rules asked) rows
