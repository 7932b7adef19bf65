-- Rows that an index can take.
use Rattle.std.specs.Prelude.{◌<◌, ◌^◌}
use Rattle.fts_types.specs.Row.{IsRow, Row}

-- the row can be indexed
pub record CanIndex (row : Row) : Type 0 where
  pub limit : row.doc < 2 ^ 63
  pub texts : IsRow row.texts
