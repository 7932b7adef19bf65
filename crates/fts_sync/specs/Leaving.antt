-- What leaves a cache with a batch.
use Rattle.std.specs.Prelude.{◌≡◌, ◌≢◌, ℕ, Bool, not, List, [], ◌∷◌, ◌++◌, ◌≤◌, filter}
use Rattle.std.specs.List.{flat_map, list_any}
use Rattle.fts_ids.specs.Ids.{has}
use Rattle.fts_lists.specs.State.{State, ids_of}
use Rattle.fts_lists.specs.declared.lists.DeleteList.TheVariants.{DeletedCache}
use Rattle.fts_ilist.specs.Spelling.{Posting, PostingsAfter, last_id}
use Rattle.fts_ilist.specs.Node.{Docs}
use Rattle.fts_ilist.specs.Packing.{packed}
use Rattle.fts_cache.specs.Cache.{CacheState, postings_of}
use Rattle.fts_ilist.specs.Cursor.{postings_until}

-- of a word's documents those up to an id that are not dead
abbrev pub leaving : ℕ → List ℕ → List Posting → List Posting
leaving doc dead ps = filter (λ p. not (has dead p.id)) (postings_until doc ps)

-- the nodes of those documents of a cache's word
abbrev pub leaving_nodes : CacheState → ℕ → State → List ℕ → List Docs
leaving_nodes cache doc lists word = packed (leaving doc (ids_of DeletedCache lists) (postings_of cache word))

-- a word with its nodes, where it has some
abbrev pub filled_word : List ℕ → List Docs → List (List ℕ × List Docs)
filled_word word [] = []
filled_word word (n ∷ ns) = (word, n ∷ ns) ∷ []

-- words with their nodes, those that have some
abbrev pub filled_words : (List ℕ → List Docs) → List (List ℕ) → List (List ℕ × List Docs)
filled_words nodes words = flat_map (λ word. filled_word word (nodes word)) words

-- whether one of the documents is dead
abbrev pub some_dead : List ℕ → List Posting → Bool
some_dead dead ps = list_any (λ p. has dead p.id) ps

-- a word of a cache with the nodes of its documents up to an id, of which there is one
pub record IsMade (cache : CacheState) (doc : ℕ) (word : List ℕ) (nodes : List Docs) : Type 0 where
  pub same : nodes ≡ packed (postings_until doc (postings_of cache word))
  pub some : nodes ≢ []

-- some documents are packed, and these are left
pub record IsPackingUntil (doc : ℕ) (dead : List ℕ) (all done rest : List Posting) : Type 0 where
  pub same : done ++ leaving doc dead rest ≡ leaving doc dead all
  pub low : ℕ
  pub below : last_id done ≤ low
  pub after : PostingsAfter low rest
