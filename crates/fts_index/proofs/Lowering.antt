-- The words of a row in its lowered texts.
use Rattle.std.proofs.Common.{◌≡◌, ℕ, ◌-◌, List, [], map, length, take, drop, ap, ◌∙◌, arith}
use Rattle.std.specs.Char.{to_ascii_lowercase}
use Rattle.std.proofs.Math.ListN.{get_or-map}
use Rattle.std.proofs.lemmas.List.{length-map, take-map, drop-map}
use Rattle.fts_words.specs.declared.span.Span.{Span}
use Rattle.fts_words.specs.declared.placed.PlacedWord.{PlacedWord}
use Rattle.fts_words.specs.Byte.{lowered}
use Rattle.fts_words.specs.RawWords.{bytes_of}
use Rattle.fts_words.specs.Indexed.{column_text}
use Rattle.fts_token.specs.Row.{LiesIn}
use Rattle.fts_index.specs.Occurrences.{spot_at, spot_in}

lowered_column : (texts : List (List ℕ)) (column : ℕ) → column_text (map lowered texts) column ≡ lowered (column_text texts column)
lowered_column texts column = get_or-map lowered texts column []

lowered_span : (text : List ℕ) (span : Span) → bytes_of (lowered text) span ≡ lowered (bytes_of text span)
lowered_span text span =
    ap (take (span.to - span.from)) (drop-map to_ascii_lowercase span.from text)
    ∙ take-map to_ascii_lowercase (span.to - span.from) (drop span.from text)

-- the lowered texts have the row's words where the row has them
pub lowered_spot : (texts : List (List ℕ)) (found : PlacedWord) → spot_at (map lowered texts) found ≡ spot_in texts found
lowered_spot texts found =
    let word : bytes_of (column_text (map lowered texts) found.column) found.span ≡ lowered (bytes_of (column_text texts found.column) found.span)
    = ap (λ (text : List ℕ). bytes_of text found.span) (lowered_column texts found.column) ∙ lowered_span (column_text texts found.column) found.span in
    λ i. record { word = word i; position = found.position }

pub lowered_lies : (texts : List (List ℕ)) (found : PlacedWord) → LiesIn texts found → LiesIn (map lowered texts) found
lowered_lies texts found lies = record {
  column = omega (arith, length-map texts lowered);
  order = lies.order;
  within = omega (arith, ap length (lowered_column texts found.column), length-map (column_text texts found.column) to_ascii_lowercase);
}
