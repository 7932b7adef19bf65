-- The largest id that came into a cache.
use Rattle.std.proofs.Common.{ℕ, ◌≤◌, List}
use Rattle.fts_words.specs.Indexed.{Rules}
use Rattle.fts_commits.specs.Turn.{Turn}
use Rattle.fts_entries.specs.Entry.{IndexState}
use Rattle.fts_entries.specs.Batch.{largest_after}
use Rattle.fts_index.specs.declared.index.Index.{Index}
use Rattle.fts_index.specs.Index.{Represents, newest}
use Rattle.fts_index.specs.Stands.{StandsFor}

-- it is one that was used
pub newest_used : (rules : Rules) (turns : List Turn) (s : IndexState) (index : Index) → StandsFor rules turns s index → newest index ≤ largest_after 0 turns
unfolding StandsFor
newest_used rules turns s index stands = (let kept : Represents rules turns s index = stands in kept.last)
