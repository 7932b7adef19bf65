-- What an index keeps of commits, and what its plans do.
use Rattle.std.specs.Prelude.{◌≡◌, ℕ, ◌+◌, ◌<◌, ◌≤◌, List, [], ◌∷◌, map, length, take, flat_map}
use Rattle.std.specs.Prelude.{Option, Some, None}
use Rattle.std.specs.List.Sorted.{IsStrictlySortedBy}
use Rattle.std.specs.Map.{keys_of}
use Rattle.std.specs.VecDeque.{deque_len, deque_capacity}
use Rattle.fts_words.specs.Order.{byte_order}
use Rattle.fts_words.specs.Indexed.{Rules}
use Rattle.fts_ids.specs.Ids.{has, Ascend}
use Rattle.fts_cache.specs.Document.{Document}
use Rattle.fts_cache.specs.Cache.{CachedDocument, postings_of, HasRoom}
use Rattle.fts_aux.specs.Tables as tables
use Rattle.fts_lists.specs.State.{ids_of, room_of}
use Rattle.fts_lists.specs.declared.lists.DeleteList.TheVariants.{Deleted, BeingDeleted, DeletedCache}
use Rattle.fts_types.specs.Row.{Row}
use Rattle.fts_commits.specs.Turn.{Turn, births_of, deaths_of}
use Rattle.fts_entries.specs.Words.{rows_postings, row_size}
use Rattle.fts_entries.specs.Entry.{IndexState, unflushed}
use Rattle.fts_entries.specs.Batch.{IsBatch, largest_after}
use Rattle.fts_index.specs.Births.{AreBirths}
use Rattle.fts_index.specs.Document.{HaveWordsOf}
use Rattle.fts_index.specs.declared.index.Index.{Index}
use Rattle.fts_index.specs.declared.index.CommitPlan.{CommitPlan}
use Rattle.fts_index.specs.declared.pending.Pending.{Pending}
use Rattle.fts_index.specs.declared.sync.SyncPlan.{SyncPlan}

-- a row as the cache keeps it
abbrev pub cached_row : Rules → Row → CachedDocument
cached_row rules row = record { id = row.doc; size = row_size rules row }

-- a commit that is not flushed as the index keeps it: how many documents were born in it, which ids died, and the
-- largest id that was used after it
pub record PendingSeen : Type 0 where
  pub births : ℕ
  pub deaths : List ℕ
  pub largest : ℕ

abbrev pub pending_seen : Pending → PendingSeen
pending_seen p = record { births = p.births; deaths = p.deaths.items; largest = p.largest }

abbrev pub pending_of : Turn → PendingSeen
pending_of turn = record { births = length turn.births; deaths = turn.deaths; largest = turn.largest }

-- the index represents this state over these commits: its tables and lists have what the state has, and its cache and
-- DELETED_CACHE what the commits that are not flushed bore and took away
pub record Represents (rules : Rules) (turns : List Turn) (s : IndexState) (index : Index) : Type 0 where
  pub within : s.flushed ≤ length turns
  pub tables : (word : List ℕ) → tables.nodes index.tables word ≡ s.nodes word
  pub flushed : index.lists.flushed ≡ s.flushed
  pub synced : index.lists.synced ≡ s.synced
  pub deleted : ids_of Deleted index.lists ≡ s.deleted
  pub being : ids_of BeingDeleted index.lists ≡ s.being_deleted
  pub is_open : index.lists.is_open ≡ s.is_open
  pub checkpoint : index.lists.checkpoint ≡ s.checkpoint
  pub dead : (id : ℕ) → has (ids_of DeletedCache index.lists) id ≡ has (deaths_of (unflushed turns s)) id
  pub cache : (word : List ℕ) → postings_of index.cache word ≡ rows_postings rules word (births_of (unflushed turns s))
  pub documents : index.cache.documents ≡ map (cached_row rules) (births_of (unflushed turns s))
  pub pending : map pending_seen index.pending.items ≡ map pending_of (unflushed turns s)
  pub last : index.cache.last ≤ largest_after 0 turns

-- one more commit can come: its rows can be indexed, and have ids above all that were used
abbrev pub CanTurn : List Turn → Turn → Type 0
CanTurn turns turn = AreBirths (largest_after 0 turns) turn.largest turn.births

-- the largest id that came into the cache
abbrev pub newest : Index → ℕ
newest index = index.cache.last

-- the rows of one more commit can be indexed behind the documents that came into the cache
abbrev pub CanAdd : Index → Turn → Type 0
CanAdd index turn = AreBirths (newest index) turn.largest turn.births

-- the ids of the documents ascend, the first above `last`
abbrev pub IdsAscendFrom : ℕ → List Document → Type 0
IdsAscendFrom last [] = Unit {0}
IdsAscendFrom last (document ∷ documents) = (last < document.id) × IdsAscendFrom document.id documents

-- the plan can be installed without memory
pub record FitsIndex (index : Index) (plan : CommitPlan) : Type 0 where
  pub ids : IdsAscendFrom (newest index) plan.documents.items
  pub room : HasRoom index.cache plan.documents.items
  pub ascend : Ascend plan.pending.deaths.items
  pub dead : length plan.pending.deaths.items ≤ room_of DeletedCache index.lists
  pub queue : deque_len index.pending < deque_capacity index.pending

-- the plan adds exactly what this commit does to the index, and the room for it is made
pub record WillTurn (rules : Rules) (turn : Turn) (index : Index) (plan : CommitPlan) : Type 0 where
  pub words : HaveWordsOf rules turn.births plan.documents.items
  pub pending : pending_seen plan.pending ≡ pending_of turn
  pub fits : FitsIndex index plan

-- a batch can be installed without memory: the next `count` commits are covered, and `dead` has what died in them
pub record FitsSync (index : Index) (plan : SyncPlan) : Type 0 where
  pub words : IsStrictlySortedBy byte_order (keys_of plan.nodes.items)
  pub room : tables.HasRoom index.tables plan.nodes.items
  pub after : tables.ComesAfter index.tables plan.nodes.items
  pub count : plan.count ≤ length index.pending.items
  pub through : plan.through ≡ index.lists.flushed + plan.count
  pub ascend : Ascend plan.dead.items
  pub dead : length plan.dead.items ≤ room_of Deleted index.lists
  pub same : (id : ℕ) → has plan.dead.items id
      ≡ has (flat_map (λ p. p.deaths.items) (take plan.count index.pending.items)) id

-- the plan of a batch is the next one of the state; where there is none, all commits are flushed
abbrev pub PlansBatch : Rules → ℕ → List Turn → IndexState → Index → Option SyncPlan → Type 0
PlansBatch rules limit turns s index None = length turns ≤ s.flushed
PlansBatch rules limit turns s index (Some plan) =
    IsBatch rules limit turns s plan.through plan.synced plan.nodes.items × FitsSync index plan
