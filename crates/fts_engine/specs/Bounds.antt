use Rattle.std.specs.Prelude.{◌≤◌}
use Rattle.fts_types.specs.declared.limits.Limits.{Limits}

-- limits that are within others
pub record AreWithin (outer inner : Limits) : Type 0 where
  pub rows : inner.rows ≤ outer.rows
  pub ids : inner.ids ≤ outer.ids
  pub log_bytes : inner.log_bytes ≤ outer.log_bytes
