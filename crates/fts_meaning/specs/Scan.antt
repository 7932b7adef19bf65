use Rattle.std.specs.Prelude.{ℕ, List, map, filter}
use Rattle.fts_types.specs.Row.{Row}
use Rattle.fts_words.specs.Indexed.{Rules}
use Rattle.fts_meaning.specs.Tree.{Terms}
use Rattle.fts_meaning.specs.Holds.{list_holds}

-- the scan: the document ids of the rows in which the query holds, in the order of the rows
abbrev pub scan : Rules → List Row → Terms → List ℕ
scan rules rows terms = map (λ row. row.doc) (filter (λ row. list_holds rules row.texts terms) rows)
