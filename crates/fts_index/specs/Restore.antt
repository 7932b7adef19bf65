-- Batches that are read again from an index log.
use Rattle.std.specs.Prelude.{◌≡◌, ◌≢◌, ℕ, ◌+◌, ◌==◌, nat_lt, Bool, not, ◌&&◌, List, [], ◌++◌, length}
use Rattle.std.specs.List.{All, list_all}
use Rattle.std.specs.List.Sorted.{IsStrictlySortedBy}
use Rattle.std.specs.Map.{keys_of}
use Rattle.fts_words.specs.Indexed.{Rules}
use Rattle.fts_words.specs.Order.{byte_order}
use Rattle.fts_ids.specs.Ids.{has}
use Rattle.fts_commits.specs.Turn.{Turn, AreTurns, deaths_of}
use Rattle.fts_ilist.specs.Node.{Docs, NodesAfter, last_of, nodes_for}
use Rattle.fts_ilist.specs.Packing.{are_loose, joined}
use Rattle.fts_aux.specs.Tables as tables
use Rattle.fts_aux.specs.Tables.{begins_above}
use Rattle.fts_cache.specs.Cache.{SameContents}
use Rattle.fts_entries.specs.Entry.{Batch, IndexState, sealed, after_entry}
use Rattle.fts_entries.specs.Batch.{largest_after}
use Rattle.fts_entries.specs.Coming.{CanSeal, born_ids}
use Rattle.fts_entries.specs.Exact.{FitsTurns, IdsAfter}
use Rattle.fts_index.specs.declared.index.Index.{Index}
use Rattle.fts_index.specs.declared.restore.Covered.{Covered}
use Rattle.fts_index.specs.Stands.{StandsFor}
use Rattle.fts_index.specs.Parts.{MovesDead}

-- what was noted of the commits that the next batch covers
pub record Covers (turns : List Turn) (covered : Covered) : Type 0 where
  pub births : covered.births.items ≡ born_ids turns
  pub deaths : covered.deaths.items ≡ deaths_of turns
  pub count : covered.count ≡ length turns
  pub largest : covered.largest ≡ largest_after 0 turns

-- the words of a batch as the index log has them: each once, in byte order, none of them empty, and the ids of its
-- documents ascend
pub record AreRead (batch : Batch) : Type 0 where
  pub ascend : IsStrictlySortedBy byte_order (keys_of batch)
  pub filled : All (λ g. g.0 ≢ []) batch
  pub nodes : All (λ g. NodesAfter 0 g.1) batch
  pub ids : All (λ g. IdsAfter 0 (joined g.1)) batch

-- all documents of nodes were born
abbrev pub are_born : (ℕ → Bool) → List Docs → Bool
are_born born nodes = list_all (λ docs. list_all (λ p. born p.id) docs) nodes

-- packing leaves the nodes of a word as they are, and their documents were born in the commits covered
abbrev pub is_new : (ℕ → Bool) → List ℕ × List Docs → Bool
is_new born g = not (are_loose g.1) && are_born born g.1

-- such nodes can come behind those that the tables have of the word
abbrev pub is_fit : tables.Held → (ℕ → Bool) → List ℕ × List Docs → Bool
is_fit held born g = begins_above (last_of 0 (tables.nodes held g.0)) g.1 && is_new born g

-- the batch flushes the commits covered, which are some
abbrev pub is_next : Index → Covered → ℕ → ℕ → Bool
is_next index covered through synced =
    nat_lt 0 covered.count && ((through == index.lists.flushed + covered.count) && (synced == covered.largest))

-- the batch can be installed
abbrev pub can_restore : Index → Covered → ℕ → ℕ → Batch → Bool
can_restore index covered through synced batch =
    is_next index covered through synced && list_all (is_fit index.tables (has covered.births.items)) batch

-- all commits that an index stands for are flushed, and behind them these more were noted
pub record Restores (rules : Rules) (turns more : List Turn) (s : IndexState) (index : Index) (covered : Covered)
    : Type 0 where
  pub stands : StandsFor rules turns s index
  pub flushed : s.flushed ≡ length turns
  pub fits : FitsTurns turns s
  pub ascend : AreTurns 0 (turns ++ more)
  pub covers : Covers more covered

-- a batch could come that flushes all commits, and the index stands for what it leaves
pub record IsRestored (rules : Rules) (turns : List Turn) (s : IndexState) (through synced : ℕ) (batch : Batch)
    (index : Index) : Type 0 where
  pub whole : through ≡ length turns
  pub can : CanSeal turns s through synced batch
  pub stands : StandsFor rules turns (after_entry turns s (sealed through synced batch)) index

-- what a batch did to the parts of an index that has nothing in its cache
pub record IsAdded (old : Index) (through synced : ℕ) (batch : Batch) (dead : List ℕ) (new : Index) : Type 0 where
  pub nodes : (word : List ℕ) → tables.nodes new.tables word ≡ tables.nodes old.tables word ++ nodes_for word batch
  pub lists : MovesDead old.lists dead new.lists
  pub flushed : new.lists.flushed ≡ through
  pub synced_is : new.lists.synced ≡ synced
  pub cache : SameContents old.cache new.cache
  pub pending : new.pending.items ≡ old.pending.items
