use Rattle.std.proofs.Common.{◌≡◌, ℕ, true, ◌&&◌, List, [], ◌∷◌, ◌++◌, refl, sym, ap, ◌∙◌}
use Rattle.std.specs.List.{list_all}
use Rattle.std.proofs.lemmas.Bool.{and_from}
use Rattle.std.proofs.lemmas.List.{append_assoc}
use Rattle.std.proofs.lemmas.List.Folds.{list_all-append}
use Rattle.fts_commits.specs.Text.{is_text_byte}
use Rattle.fts_sql.specs.Token.{string, quoted, IsToken}
use Rattle.fts_sql.specs.Reading.{IsText, unquoted, goes_on_text}
use Rattle.fts_sql.proofs.Quotes.{unquoted-quoted, quoted_more}

-- a text behind an apostrophe, and the closing one behind it, are a string
pub string_token : (inner written rest after : List ℕ) → IsText inner written rest → rest ≡ 39 ∷ after
    → (spelling : List ℕ) × IsToken (string (unquoted written)) (39 ∷ inner) spelling after
string_token inner written rest after is closes = (
  39 ∷ (written ++ 39 ∷ []),
  record {
    cut = ap (λ s. 39 ∷ s) (is.cut ∙ ap (λ s. written ++ s) closes ∙ sym (append_assoc written (39 ∷ []) after));
    spelled = (
      ap (λ s. 39 ∷ (s ++ 39 ∷ [])) (is.is_quoted ∙ ap quoted (sym (unquoted-quoted is.text) ∙ ap unquoted (sym is.is_quoted))),
      ap (list_all is_text_byte) (ap unquoted is.is_quoted ∙ unquoted-quoted is.text) ∙ is.printable,
    );
    ends = sym (ap goes_on_text closes) ∙ is.stops;
  },
)

-- one byte more of a text
pub text_more : (inner rest after : List ℕ) → ((text : List ℕ) × (inner ≡ quoted text ++ rest) × (list_all is_text_byte text ≡ true))
    → ((b : ℕ) × (rest ≡ quoted (b ∷ []) ++ after) × (is_text_byte b ≡ true))
    → (text : List ℕ) × (inner ≡ quoted text ++ after) × (list_all is_text_byte text ≡ true)
text_more inner rest after so_far piece = (
  so_far.0 ++ piece.0 ∷ [],
  quoted_more inner so_far.0 rest after piece.0 so_far.1 piece.1,
  list_all-append is_text_byte so_far.0 (piece.0 ∷ []) ∙ and_from (list_all is_text_byte so_far.0) (is_text_byte piece.0 && true) so_far.2 (and_from (is_text_byte piece.0) true piece.2 refl),
)

-- the same, of a byte that is the closing apostrophe
pub string_here : (inner written rest after : List ℕ) (stop : ℕ) → IsText inner written rest → rest ≡ stop ∷ after → stop ≡ 39
    → (spelling : List ℕ) × IsToken (string (unquoted written)) (39 ∷ inner) spelling after
string_here inner written rest after stop is cut closes =
    string_token inner written rest after is (cut ∙ ap (λ b. b ∷ after) closes)
