-- What keeps an index right: its state fits the commits, what it has and is not deleted is what the rows have, and what
-- it has and is deleted was born so.
use Rattle.std.specs.Prelude.{◌≡◌, ℕ, ◌<◌, ◌≤◌, Bool, true, false, not, ◌||◌, List, [], ◌∷◌, ◌++◌, length, take, filter}
use Rattle.std.specs.Prelude.{Option, Some, None}
use Rattle.std.specs.List.{All, Contains}
use Rattle.std.specs.Ordering.{is_gt}
use Rattle.fts_words.specs.Indexed.{Rules}
use Rattle.fts_words.specs.Order.{byte_order}
use Rattle.fts_types.specs.Row.{Row}
use Rattle.fts_commits.specs.Turn.{Turn, births_of, deaths_of}
use Rattle.fts_ids.specs.Ids.{has}
use Rattle.fts_ilist.specs.Spelling.{Posting}
use Rattle.fts_ilist.specs.Packing.{joined}
use Rattle.fts_entries.specs.Entry.{IndexState, unflushed}
use Rattle.fts_entries.specs.Batch.{largest_after}
use Rattle.fts_entries.specs.Words.{rows_postings}

-- a pass has gone past the word: its last word is this one or one behind it
abbrev pub IsPassed : Option (List ℕ) → List ℕ → Type 0
IsPassed None word = ⊥
IsPassed (Some place) word = is_gt (byte_order word place) ≡ false

-- the ids of documents ascend, the first above `last`
abbrev pub IdsAfter : ℕ → List Posting → Type 0
IdsAfter last [] = Unit {0}
IdsAfter last (p ∷ ps) = (last < p.id) × IdsAfter p.id ps

-- the state fits the commits: the tables have ids of flushed commits alone, ascending, and no empty word; DELETED has
-- ids of these; and a pass takes out what is in DELETED, and has taken it out of the words that it has gone past
pub record FitsTurns (turns : List Turn) (s : IndexState) : Type 0 where
  pub flushed : s.flushed ≤ length turns
  pub synced : s.synced ≡ largest_after 0 (take s.flushed turns)
  pub tables : (word : List ℕ) → All (λ p. p.id ≤ s.synced) (joined (s.nodes word))
  pub ascend : (word : List ℕ) → IdsAfter 0 (joined (s.nodes word))
  pub no_empty : s.nodes [] ≡ []
  pub deleted : (id : ℕ) → has s.deleted id ≡ true → id ≤ s.synced
  pub being : (id : ℕ) → has s.being_deleted id ≡ true → has s.deleted id ≡ true
  pub passed : (word : List ℕ) → IsPassed s.checkpoint word
      → All (λ p. has s.being_deleted p.id ≡ false) (joined (s.nodes word))

-- an id is in DELETED, or died in a commit that is not flushed
abbrev pub is_deleted : List Turn → IndexState → ℕ → Bool
is_deleted turns s id = has s.deleted id || has (deaths_of (unflushed turns s)) id

-- what tables and cache have of a word: its nodes, and behind them what was born in the commits that are not flushed
abbrev pub all_postings : Rules → List Turn → IndexState → List ℕ → List Posting
all_postings rules turns s word = joined (s.nodes word) ++ rows_postings rules word (births_of (unflushed turns s))

-- what the tables have of a word are documents of these rows, each with all positions at which its row has the word
abbrev pub TablesAreOf : Rules → List Row → IndexState → Type 0
TablesAreOf rules rows s = (word : List ℕ) → All (Contains (rows_postings rules word rows)) (joined (s.nodes word))

-- what is not deleted of tables and cache is what these rows have
abbrev pub LiveAreOf : Rules → List Row → List Turn → IndexState → Type 0
LiveAreOf rules rows turns s = (word : List ℕ)
    → filter (λ p. not (is_deleted turns s p.id)) (all_postings rules turns s word) ≡ rows_postings rules word rows

-- what is not deleted is what the rows have; and what the tables have, of who is dead too, was born so in the flushed
-- commits
pub record IsExact (rules : Rules) (rows : List Row) (turns : List Turn) (s : IndexState) : Type 0 where
  pub live : LiveAreOf rules rows turns s
  pub tables : TablesAreOf rules (births_of (take s.flushed turns)) s
