-- What an index stands for. Nobody above this crate opens it: what the index keeps for that is its own affair.
use Rattle.std.specs.Prelude.{ℕ, List, nat_eq}
use Rattle.std.specs.List.{IsDistinct}
use Rattle.fts_words.specs.Indexed.{Rules}
use Rattle.fts_commits.specs.Commit.{Rows}
use Rattle.fts_commits.specs.Turn.{Turn, RowsAscend, AreTurns, deaths_of}
use Rattle.fts_entries.specs.Entry.{IndexState}
use Rattle.fts_entries.specs.Exact.{FitsTurns, IsExact}
use Rattle.fts_index.specs.declared.index.Index.{Index}
use Rattle.fts_index.specs.Index.{Represents}

-- the index stands for this state over these commits: it has of each word what the state has in its tables, and what
-- the commits that are not flushed bore and took away. It says nothing of the texts behind the nodes
unfoldable pub StandsFor : Rules → List Turn → IndexState → Index → Type 0
StandsFor rules turns s index = Represents rules turns s index

-- commits as a database makes them: ids ascend, and none dies twice
pub record AreCommits (turns : List Turn) : Type 0 where
  pub ascend : AreTurns 0 turns
  pub once : IsDistinct nat_eq (deaths_of turns)

-- the index has exactly the words of the rows: it stands for a state that is right
pub record Indexes (rules : Rules) (rows : Rows) (turns : List Turn) (s : IndexState) (index : Index) : Type 0 where
  pub stands : StandsFor rules turns s index
  pub commits : AreCommits turns
  pub fits : FitsTurns turns s
  pub exact : IsExact rules rows.list turns s
  pub ascend : RowsAscend 0 rows.largest rows.list
