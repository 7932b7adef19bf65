use Rattle.std.specs.Prelude.{◌^◌, ◌-◌}
use Rattle.fts_types.specs.declared.limits.Limits.{Limits}

-- the limits of a database: a million rows, ids to 2^63 - 1, and a log of 2^32 bytes
abbrev pub standard_limits : Limits
standard_limits = record { rows = 1000000; ids = 2 ^ 63 - 1; log_bytes = 2 ^ 32 }
