-- New rows that can be indexed.
use Rattle.std.specs.Prelude.{ℕ, List, All}
use Rattle.fts_types.specs.Row.{Row}
use Rattle.fts_commits.specs.Turn.{RowsAscend, Turn}
use Rattle.fts_entries.specs.Rows.{CanIndex}

-- the rows can be indexed behind those up to the id `last`, one after another, and none has an id above `largest`
pub record AreBirths (last largest : ℕ) (births : List Row) : Type 0 where
  pub ids : RowsAscend last largest births
  pub rows : All CanIndex births

-- a commit in which these rows are born and these ids die, and behind which this is the largest id that was used
abbrev pub turn_of : List Row → List ℕ → ℕ → Turn
turn_of births deaths largest = record { births = births; deaths = deaths; largest = largest }
