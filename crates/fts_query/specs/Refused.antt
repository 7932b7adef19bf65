use Rattle.std.specs.Prelude.{◌≡◌, ℕ, ◌+◌, ◌<◌, ◌≤◌, List, length}
use Rattle.fts_query.specs.declared.parser.ParseError.{ParseError}
use Rattle.fts_query.specs.declared.parser.ParseError.TheVariants.{TooLong, Syntax, TooDeep, NoMemory}
use Rattle.fts_meaning.specs.Fault.{FaultsAt, IsTooDeepAt}

-- when a text is refused so; a place counts from 1 in an answer. The causes exclude one another; want of memory is free
-- where the text is not too long.
abbrev pub RefusedAs : List ℕ → ParseError → Type 0
RefusedAs text (TooLong n) = (4096 < length text) × (n ≡ length text)
RefusedAs text (Syntax at) = (length text ≤ 4096) × ((place : ℕ) × (at ≡ place + 1) × FaultsAt text place)
RefusedAs text (TooDeep at) = (length text ≤ 4096) × ((place : ℕ) × (at ≡ place + 1) × IsTooDeepAt text place)
RefusedAs text NoMemory = length text ≤ 4096
