use Rattle.std.specs.Prelude.{Option, Some, None, ◌≡◌, ℕ, ◌+◌, ◌-◌, ◌<◌, ◌≤◌, max, Bool, false, List, [], ◌∷◌}
use Rattle.std.specs.Prelude.{length, map, slice_index, All}
use Rattle.std.specs.Char.{to_ascii_lowercase}
use Rattle.fts_words.specs.declared.span.Span.{Span}
use Rattle.fts_words.specs.Byte.{lowered}
use Rattle.fts_words.specs.RawWords.{bytes_of}
use Rattle.fts_meaning.specs.Holds.{starts_with_words}

-- words of a text, their letters lowered
abbrev pub lowered_words : List ℕ → List Span → List (List ℕ)
lowered_words text spans = map (λ span. lowered (bytes_of text span)) spans

-- the spans lie in the text
abbrev pub LieIn : List ℕ → List Span → Type 0
LieIn text spans = All (λ span. (span.from ≤ span.to) × (span.to ≤ length text)) spans

-- there are words, and they begin with the others
abbrev pub begin_with_words : List (List ℕ) → List (List ℕ) → Bool
begin_with_words [] words = false
begin_with_words (v ∷ vs) words = starts_with_words (v ∷ vs) words

-- the bytes of the text from a place on are those of the word once their letters are lowered
pub record StandsAt (text word : List ℕ) (place : ℕ) : Type 0 where
  pub within : place + length word ≤ length text
  pub bytes : (k : ℕ) → k < length word → to_ascii_lowercase (slice_index text (place + k)) ≡ slice_index word k

-- at none of the places from one up to another does the word stand
abbrev pub StandsAtNone : List ℕ → List ℕ → ℕ → ℕ → Type 0
StandsAtNone text word from to = (place : ℕ) → from ≤ place → place < to → StandsAt text word place → ⊥

-- a place from one on at which the word may stand first: at none before it, or at none at all, does it stand
abbrev pub MayStandFirst : List ℕ → List ℕ → ℕ → Option ℕ → Type 0
MayStandFirst text word at (Some place) = (at ≤ place) × (place < length text) × StandsAtNone text word at place
MayStandFirst text word at None = StandsAtNone text word at (length text)

-- the least number, from 1, of a word that a window can begin with whose last word has this number
abbrev pub window_start : ℕ → ℕ → ℕ
window_start number reach = max 1 (number - reach)
