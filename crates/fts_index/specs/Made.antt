-- An index that commits and batches made.
use Rattle.std.specs.Prelude.{◌≡◌, ℕ, ◌<◌, List}
use Rattle.fts_words.specs.Indexed.{Rules}
use Rattle.fts_commits.specs.Turn.{Turn, deaths_of}
use Rattle.fts_entries.specs.Entry.{IndexState}
use Rattle.fts_entries.specs.Batch.{largest_after}
use Rattle.fts_entries.specs.Exact.{FitsTurns}
use Rattle.fts_index.specs.declared.index.Index.{Index}
use Rattle.fts_index.specs.Stands.{StandsFor, AreCommits}

-- it stands for some commits and a state that fits them, where `last` was the largest id used, and `dead` died
pub record IsMade (rules : Rules) (last : ℕ) (dead : List ℕ) (index : Index) : Type 0 where
  pub turns : List Turn
  pub state : IndexState
  pub stands : StandsFor rules turns state index
  pub commits : AreCommits turns
  pub fits : FitsTurns turns state
  pub last_is : largest_after 0 turns ≡ last
  pub dead_are : deaths_of turns ≡ dead
  pub positive : 0 < rules.min
