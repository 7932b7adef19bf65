-- Which entries can come one behind another in an index log.
use Rattle.std.specs.Prelude.{◌≡◌, ℕ, ◌<◌, ◌≤◌, true, List, [], ◌∷◌, length, take, map}
use Rattle.std.specs.List.{All}
use Rattle.fts_commits.specs.Turn.{Turn, births_of}
use Rattle.fts_ids.specs.Ids.{has}
use Rattle.fts_ilist.specs.Node.{nodes_for}
use Rattle.fts_ilist.specs.Packing.{packed, joined}
use Rattle.fts_entries.specs.Entry.{Batch, IndexEntry, IndexState, sealed, begun, worked, finished, no_entries}
use Rattle.fts_entries.specs.Entry.{after_entry, unflushed_through}
use Rattle.fts_entries.specs.Batch.{largest_after}
use Rattle.fts_entries.specs.Exact.{IdsAfter}
use Rattle.fts_entries.specs.Pass.{CanBegin, IsWord, CanFinish}

-- the ids of the documents that were born in some commits, in their order
abbrev pub born_ids : List Turn → List ℕ
born_ids turns = map (λ row. row.doc) (births_of turns)

-- a batch can come behind a state: it flushes further commits, up to the largest id that these used, and of each word
-- it has documents that were born in them, by ascending ids, packed into nodes. It says nothing of the texts of these
-- documents
pub record CanSeal (turns : List Turn) (s : IndexState) (through synced : ℕ) (batch : Batch) : Type 0 where
  pub later : s.flushed < through
  pub made : through ≤ length turns
  pub synced_is : synced ≡ largest_after 0 (take through turns)
  pub ascend : (word : List ℕ) → IdsAfter 0 (joined (nodes_for word batch))
  pub no_empty : nodes_for [] batch ≡ []
  pub packed_are : (word : List ℕ) → packed (joined (nodes_for word batch)) ≡ nodes_for word batch
  pub born : (word : List ℕ) → All (λ p. has (born_ids (unflushed_through through turns s)) p.id ≡ true)
      (joined (nodes_for word batch))

-- an entry can come behind a state: a batch, or the next step of OPTIMIZE
abbrev pub CanCome : List Turn → IndexState → IndexEntry → Type 0
CanCome turns s (sealed through synced batch) = CanSeal turns s through synced batch
CanCome turns s begun = CanBegin s
CanCome turns s (worked word new) = IsWord s word new
CanCome turns s finished = CanFinish s

-- entries can come one behind another, the first behind this state
abbrev pub CanComeAll : List Turn → IndexState → List IndexEntry → Type 0
CanComeAll turns s [] = Unit {0}
CanComeAll turns s (entry ∷ entries) = CanCome turns s entry × CanComeAll turns (after_entry turns s entry) entries

-- the entries of an index over these commits
abbrev pub AreEntries : List Turn → List IndexEntry → Type 0
AreEntries turns entries = CanComeAll turns no_entries entries
