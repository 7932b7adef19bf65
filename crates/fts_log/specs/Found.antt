use Rattle.std.specs.Prelude.{ℕ, List, [], Option, Some, None}
use Rattle.fts_log.specs.declared.found.Found.{Found}

-- where the records end that an opening found, if there was one
abbrev pub ends_in : Option Found → List ℕ
ends_in (Some found) = found.ends.items
ends_in None = []
