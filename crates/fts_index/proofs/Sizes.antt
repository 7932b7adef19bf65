-- The size of a cache by the rows that it has.
use Rattle.std.proofs.Common.{◌≡◌, List, [], ◌∷◌, map, sum_by, refl, ap, ◌∙◌, arith}
use Rattle.std.proofs.lemmas.List.Sums.{sum_by-cons}
use Rattle.fts_words.specs.Indexed.{Rules}
use Rattle.fts_types.specs.Row.{Row}
use Rattle.fts_cache.specs.Cache.{CachedDocument}
use Rattle.fts_commits.specs.Turn.{Turn, births_of}
use Rattle.fts_entries.specs.Entry.{IndexState, unflushed}
use Rattle.fts_entries.specs.Words.{row_size, rows_size}
use Rattle.fts_index.specs.declared.index.Index.{Index}
use Rattle.fts_index.specs.Index.{cached_row, Represents}

sizes : (rules : Rules) (rows : List Row) → sum_by (λ (d : CachedDocument). d.size) (map (cached_row rules) rows) ≡ rows_size rules rows
sizes rules [] = refl
sizes rules (row ∷ rows) =
    omega (arith, sizes rules rows, sum_by-cons (λ (d : CachedDocument). d.size) (cached_row rules row) (map (cached_row rules) rows), sum_by-cons (row_size rules) row rows)

pub cached_size : (rules : Rules) (turns : List Turn) (s : IndexState) (index : Index) → Represents rules turns s index
    → sum_by (λ (d : CachedDocument). d.size) index.cache.documents ≡ rows_size rules (births_of (unflushed turns s))
cached_size rules turns s index stands = ap (sum_by (λ (d : CachedDocument). d.size)) stands.documents ∙ sizes rules (births_of (unflushed turns s))
