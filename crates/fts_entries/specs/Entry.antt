-- The entries of the index log, and the state of an index that they leave.
use Rattle.std.specs.Prelude.{ℕ, ◌-◌, ◌≤◌, Bool, true, false, nat_le, if◌then◌else◌, List, [], ◌∷◌, ◌++◌, filter, fold}
use Rattle.std.specs.Prelude.{take, drop, Option, Some, None}
use Rattle.std.specs.Str.{bytes_eq}
use Rattle.fts_commits.specs.Turn.{Turn, deaths_of}
use Rattle.fts_lists.specs.Ids.{with_ids, without}
use Rattle.fts_ilist.specs.Node.{Docs, nodes_for}

-- the words of a batch: each once, in byte order, with its nodes
abbrev pub Batch : Type 0
Batch = List (List ℕ × List Docs)

-- what a step of the index adds to its log: a batch, through which commit and up to which id it flushes; the begin of a
-- pass; a word of the pass with the nodes that it has from then on; the finish of the pass
pub data IndexEntry : Type 0 where
  sealed : ℕ → ℕ → Batch → IndexEntry
  begun : IndexEntry
  worked : List ℕ → List Docs → IndexEntry
  finished : IndexEntry

-- the state of an index: how many commits are flushed, and the largest id that these used; the ids in DELETED and in
-- BEING_DELETED; whether a pass is open, and the last word that it worked on; the nodes of each word in the tables
pub record IndexState : Type 0 where
  pub flushed : ℕ
  pub synced : ℕ
  pub deleted : List ℕ
  pub being_deleted : List ℕ
  pub is_open : Bool
  pub checkpoint : Option (List ℕ)
  pub nodes : List ℕ → List Docs

-- that of an index without entries
abbrev pub no_entries : IndexState
no_entries = record {
  flushed = 0;
  synced = 0;
  deleted = [];
  being_deleted = [];
  is_open = false;
  checkpoint = None;
  nodes = λ word. [];
}

-- the commits that are not flushed, and those of them that come through this one
abbrev pub unflushed : List Turn → IndexState → List Turn
unflushed turns s = drop s.flushed turns

abbrev pub unflushed_through : ℕ → List Turn → IndexState → List Turn
unflushed_through through turns s = take (through - s.flushed) (unflushed turns s)

-- the ids that died in these commits and that were flushed before them
abbrev pub flushed_deaths : ℕ → List Turn → List ℕ
flushed_deaths synced turns = filter (λ id. nat_le id synced) (deaths_of turns)

-- the state after one more entry. A batch puts its nodes behind those that stand; of the ids that died in the commits
-- that it covers those enter DELETED that were flushed before. A pass begins over what is in DELETED, gives each of its
-- words other nodes, and takes its ids out of DELETED at its finish
abbrev pub after_entry : List Turn → IndexState → IndexEntry → IndexState
after_entry turns s (sealed through synced batch) = record s {
  flushed = through;
  synced = synced;
  deleted = with_ids s.deleted (flushed_deaths s.synced (unflushed_through through turns s));
  nodes = λ word. s.nodes word ++ nodes_for word batch;
}
after_entry turns s begun = record s { being_deleted = s.deleted; is_open = true; checkpoint = None }
after_entry turns s (worked word new) = record s {
  checkpoint = Some word;
  nodes = λ other. if bytes_eq other word then new else s.nodes other;
}
after_entry turns s finished = record s {
  deleted = without s.being_deleted s.deleted;
  being_deleted = [];
  is_open = false;
  checkpoint = None;
}

-- the state that entries leave over commits
abbrev pub index_of : List Turn → List IndexEntry → IndexState
index_of turns entries = fold (after_entry turns) no_entries entries

-- no batch flushes more commits than there are
abbrev pub AreThrough : ℕ → List IndexEntry → Type 0
AreThrough commits [] = Unit {0}
AreThrough commits (sealed through synced batch ∷ entries) = (through ≤ commits) × AreThrough commits entries
AreThrough commits (entry ∷ entries) = AreThrough commits entries
