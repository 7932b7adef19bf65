-- What the parts of an index say.
use Rattle.std.specs.Prelude.{◌≡◌, ℕ, ◌+◌, List, [], ◌∷◌, ◌++◌, ◌||◌, ◌&&◌, not, take, drop, flat_map, map}
use Rattle.std.specs.Prelude.{max, nat_lt, nat_le, if◌then◌else◌}
use Rattle.fts_cache.specs.Document.{Document, document_postings}
use Rattle.fts_cache.specs.Cache.{CacheState, cached, cached_behind, postings_of, SameContents}
use Rattle.fts_aux.specs.Tables as tables
use Rattle.fts_ids.specs.Ids.{has, Ascend}
use Rattle.fts_ilist.specs.Node.{nodes_for}
use Rattle.fts_ilist.specs.Queue.{postings_behind}
use Rattle.fts_lists.specs.Ids.{with_ids}
use Rattle.fts_lists.specs.State.{State, ids_of, ChangesOnly}
use Rattle.fts_lists.specs.declared.lists.DeleteList.TheVariants.{Deleted, BeingDeleted, DeletedCache}
use Rattle.fts_index.specs.declared.index.Index.{Index}
use Rattle.fts_index.specs.declared.index.CommitPlan.{CommitPlan}
use Rattle.fts_index.specs.declared.pending.Pending.{Pending}
use Rattle.fts_index.specs.declared.sync.SyncPlan.{SyncPlan}
use Rattle.fts_index.specs.Index.{PendingSeen}

-- how many of the first commits have at most so many births together, where some were counted before
abbrev pub counted_within : ℕ → ℕ → List PendingSeen → ℕ
counted_within limit born [] = 0
counted_within limit born (p ∷ ps) =
    if nat_lt limit (born + p.births)
    then 0
    else 1 + counted_within limit (born + p.births) ps

-- what died in the first of these commits, in their order
abbrev pub deaths_through : ℕ → List Pending → List ℕ
deaths_through count pending = flat_map (λ p. p.deaths.items) (take count pending)

-- the id of the last document, and `last` where there is none
abbrev pub last_after : ℕ → List Document → ℕ
last_after last [] = last
last_after last (document ∷ documents) = last_after document.id documents

-- the cache has some more documents
pub record AddsDocuments (old : CacheState) (added : List Document) (new : CacheState) : Type 0 where
  pub documents : new.documents ≡ old.documents ++ map cached added
  pub postings : (word : List ℕ) → postings_of new word
      ≡ postings_of old word ++ flat_map (document_postings word) added
  pub last : new.last ≡ last_after old.last added

-- the index has what it had, if other room
pub record HasSame (old new : Index) : Type 0 where
  pub nodes : (word : List ℕ) → tables.nodes new.tables word ≡ tables.nodes old.tables word
  pub deleted : ids_of Deleted new.lists ≡ ids_of Deleted old.lists
  pub being : ids_of BeingDeleted new.lists ≡ ids_of BeingDeleted old.lists
  pub dead : ids_of DeletedCache new.lists ≡ ids_of DeletedCache old.lists
  pub flushed : new.lists.flushed ≡ old.lists.flushed
  pub synced : new.lists.synced ≡ old.lists.synced
  pub is_open : new.lists.is_open ≡ old.lists.is_open
  pub checkpoint : new.lists.checkpoint ≡ old.lists.checkpoint
  pub cache : SameContents old.cache new.cache
  pub pending : new.pending.items ≡ old.pending.items

-- what a commit did to the parts of an index
pub record IsCommitted (old : Index) (plan : CommitPlan) (new : Index) : Type 0 where
  pub nodes : (word : List ℕ) → tables.nodes new.tables word ≡ tables.nodes old.tables word
  pub cache : AddsDocuments old.cache plan.documents.items new.cache
  pub dead : ids_of DeletedCache new.lists ≡ with_ids (ids_of DeletedCache old.lists) plan.pending.deaths.items
  pub others : ChangesOnly DeletedCache old.lists new.lists
  pub pending : new.pending.items ≡ old.pending.items ++ plan.pending ∷ []

-- what died in the commits of a batch left DELETED_CACHE, and what of it was flushed before entered DELETED
pub record MovesDead (old : State) (gone : List ℕ) (new : State) : Type 0 where
  pub ascend_then : Ascend (ids_of Deleted old)
  pub ascend_now : Ascend (ids_of Deleted new)
  pub deleted : (id : ℕ) → has (ids_of Deleted new) id
      ≡ (has (ids_of Deleted old) id || (nat_le id old.synced && has gone id))
  pub dead : (id : ℕ) → has (ids_of DeletedCache new) id ≡ (not (has gone id) && has (ids_of DeletedCache old) id)
  pub being : ids_of BeingDeleted new ≡ ids_of BeingDeleted old
  pub is_open : new.is_open ≡ old.is_open
  pub checkpoint : new.checkpoint ≡ old.checkpoint

-- what a batch did to the parts of an index
pub record IsFlushed (old : Index) (plan : SyncPlan) (new : Index) : Type 0 where
  pub nodes : (word : List ℕ) → tables.nodes new.tables word
      ≡ tables.nodes old.tables word ++ nodes_for word plan.nodes.items
  pub documents : new.cache.documents ≡ cached_behind plan.synced old.cache.documents
  pub postings : (word : List ℕ) → postings_of new.cache word
      ≡ postings_behind plan.synced (postings_of old.cache word)
  pub last : new.cache.last ≡ max old.cache.last plan.synced
  pub lists : MovesDead old.lists plan.dead.items new.lists
  pub flushed : new.lists.flushed ≡ plan.through
  pub synced : new.lists.synced ≡ plan.synced
  pub pending : new.pending.items ≡ drop plan.count old.pending.items
