-- What the text of a query asks for.
use Rattle.std.specs.Prelude.{◌≡◌, ℕ, ◌+◌, ◌<◌, ◌≤◌, List, length}
use Rattle.fts_meaning.specs.Tree.{Terms}
use Rattle.fts_meaning.specs.Token.{IsTreeOf}
use Rattle.fts_meaning.specs.Fault.{FaultsAt, IsShallow, IsTooDeepAt}

-- the rows in which its terms hold; or nothing, since it has too many bytes, or since a byte is at fault or a bracket
-- stands too deep, which is told with its place, from 1
pub data Search : Type 0 where
  looks_for : Terms → Search
  too_long : ℕ → Search
  syntax_at : ℕ → Search
  too_deep_at : ℕ → Search

-- which search a text is. The cases exclude one another
abbrev pub IsSearch : List ℕ → Search → Type 0
IsSearch text (looks_for terms) = (length text ≤ 4096) × IsTreeOf text terms × IsShallow text
IsSearch text (too_long n) = (4096 < length text) × (n ≡ length text)
IsSearch text (syntax_at at) = (length text ≤ 4096) × ((place : ℕ) × (at ≡ place + 1) × FaultsAt text place)
IsSearch text (too_deep_at at) = (length text ≤ 4096) × ((place : ℕ) × (at ≡ place + 1) × IsTooDeepAt text place)
