use Rattle.std.specs.Prelude.{◌≡◌, ℕ, ◌+◌, ◌-◌, Bool, not, ◌==◌, ◌&&◌, ◌||◌, List, [], ◌∷◌, length, map, drop, flat_map}
use Rattle.std.specs.Prelude.{slice_index, slice_range, if◌then◌else◌, Option, None, Some, is_none}
use Rattle.std.specs.List.{range_with_len}
use Rattle.fts_words.specs.declared.span.Span.{Span}
use Rattle.fts_words.specs.Byte.{is_word_byte, word_at, lowered}
use Rattle.fts_words.specs.Run.{starts, run_at}
use Rattle.fts_words.specs.RawWords.{in_word, raw_words, bytes_of}
use Rattle.fts_meaning.specs.declared.sign.Sign.{Sign}
use Rattle.fts_meaning.specs.declared.sign.Sign.TheVariants.{Optional, Required, Excluded}
use Rattle.fts_meaning.specs.Quote.{closing_quote}
use Rattle.fts_meaning.specs.Distance.{Tail, distance_tail}
use Rattle.fts_meaning.specs.Plain.{plain}
use Rattle.fts_meaning.specs.Tree.{Operand, word, prefix, phrase, distance, Terms, Token, single, opening, closing}
use Rattle.fts_meaning.specs.Tree.{stray, written}

-- In what follows `query` is the text of a query and `text` is what is left of it, `plain query`.

-- `+` (43), `-` (45), `<` (60), `>` (62), `~` (126)
abbrev pub is_sign : ℕ → Bool
is_sign byte = (byte == 43) || ((byte == 45) || ((byte == 60) || ((byte == 62) || (byte == 126))))

-- the sign that a byte gives to the operand or bracket directly behind it
abbrev pub sign_of : ℕ → Sign
sign_of byte = if byte == 43 then Required else (if byte == 45 then Excluded else Optional)

-- an operand or a bracket begins with a word byte, a quote (34) or `(` (40)
abbrev pub begins_unit : ℕ → Bool
begins_unit byte = is_word_byte byte || ((byte == 34) || (byte == 40))

-- A byte that is at fault by itself: a sign that is not directly before a word byte, a quote or a `(`; a `*` (42) that
-- is not directly behind a word; an `@` (64), which no distance has; a quote that no other one closes.
unfoldable pub stray_at : List ℕ → List ℕ → ℕ → Bool
stray_at query text place =
    let byte = slice_index text place in
    (is_sign byte && not (begins_unit (slice_index text (place + 1))))
    || (((byte == 42) && not (word_at text (place - 1)))
    || ((byte == 64)
    || ((byte == 34) && is_none (closing_quote query place))))

-- the raw words of a text, in their order, with their letters lowered
unfoldable pub words_in : List ℕ → List (List ℕ)
words_in text = map (λ span. lowered (bytes_of text span)) (raw_words text)

-- the word or prefix that a raw word of the text is: a prefix where a `*` stands directly behind it
abbrev pub word_operand : List ℕ → Span → Operand
word_operand text span =
    if slice_index text span.to == 42 then prefix (lowered (bytes_of text span)) else word
    (lowered (bytes_of text span))

-- the phrase or distance of these words
abbrev pub with_tail : List (List ℕ) → Option Tail → Operand
with_tail words None = phrase words
with_tail words (Some tail) = distance words tail.number

-- the phrase or distance that opens at a place and whose closing quote is given
abbrev pub quoted : List ℕ → ℕ → Option ℕ → Operand
quoted query place None = phrase []
quoted query place (Some close) =
    with_tail (words_in (slice_range query (place + 1) close)) (distance_tail (drop (close + 1) query))

-- what begins at a place of the text, with the sign directly before it: at most one token
unfoldable pub tokens_at : List ℕ → List ℕ → ℕ → List Token
tokens_at query text place =
    let byte = slice_index text place in
    let sign = sign_of (slice_index text (place - 1)) in
    if stray_at query text place then stray ∷ []
    else (if byte == 34 then single sign (quoted query place (closing_quote query place)) ∷ []
    else (if byte == 40 then opening sign ∷ []
    else (if byte == 41 then closing ∷ []
    else (if starts (in_word text) place then single sign
    (word_operand text (run_at (in_word text) (length text) place)) ∷ []
    else []))))

-- what begins at a place or behind it
unfoldable pub tokens_from : List ℕ → List ℕ → ℕ → List Token
tokens_from query text place = flat_map (tokens_at query text) (range_with_len place (length text - place))

-- The tree of a query's text: written out, it is what the text is made of.
abbrev pub IsTreeOf : List ℕ → Terms → Type 0
IsTreeOf query terms = written terms ≡ tokens_from query (plain query) 0
