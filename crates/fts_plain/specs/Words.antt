use Rattle.std.specs.Prelude.{ℕ, Bool, true, List, take, drop, filter, if◌then◌else◌}
use Rattle.std.specs.List.{list_all}
use Rattle.std.specs.Str.{bytes_eq}
use Rattle.fts_words.specs.Indexed.{Rules, is_indexable}
use Rattle.fts_meaning.specs.Tree.{Operand, word, prefix, phrase, distance}
use Rattle.fts_words.specs.Order.{begins_with, is_among}
use Rattle.fts_meaning.specs.Holds.{starts_with_words}

-- a word that was found is the word, or begins with it
abbrev pub fits : Bool → List ℕ → List ℕ → Bool
fits is_prefix w found = if is_prefix then begins_with w found else bytes_eq found w

-- what is behind a place passes the test
abbrev pub from_place : List (List ℕ) → (List (List ℕ) → Bool) → ℕ → Bool
from_place words test place = test (drop place words)

-- the others begin with the words
abbrev pub stand_first : List (List ℕ) → List (List ℕ) → Bool
stand_first words rest = starts_with_words rest words

-- each indexable word is among the first of the others, so many
abbrev pub is_close : Rules → ℕ → List (List ℕ) → List (List ℕ) → Bool
is_close rules count words rest = list_all (is_among (take count rest)) (filter (is_indexable rules) words)

-- a term that is this operand stays
abbrev pub operand_stays : Rules → Operand → Bool
operand_stays rules (word w) = is_indexable rules w
operand_stays rules (prefix w) = true
operand_stays rules (phrase words) = true
operand_stays rules (distance words n) = true
