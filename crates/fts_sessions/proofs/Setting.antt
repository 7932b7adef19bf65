-- The texts that an UPDATE sets, found one name after another.
use Rattle.std.proofs.Common.{◌≡◌, ℕ, zero, suc, ◌<◌, ◌≤◌, cond, List, [], ◌∷◌, drop, length, Some, None, refl, arith}
use Rattle.std.specs.Prelude.{slice_index_or}
use Rattle.std.specs.Str.{str_eq_ignore_ascii_case}
use Rattle.fts_sessions.specs.Table.{text_for}

-- the name and the text at a place, and those behind them
pub text_step : (column : List ℕ) (names texts : List (List ℕ)) (place : ℕ) → place < length names → place < length texts
    → text_for column (drop place names) (drop place texts)
    ≡ cond (str_eq_ignore_ascii_case (slice_index_or names place []) column) (Some (slice_index_or texts place [])) (text_for column (drop (suc place) names) (drop (suc place) texts))
text_step column [] texts place less less' = absurd (omega (arith, less))
text_step column (name ∷ names) [] place less less' = absurd (omega (arith, less'))
text_step column (name ∷ names) (text ∷ texts) zero less less' = refl
text_step column (name ∷ names) (text ∷ texts) (suc place) less less' = text_step column names texts place (omega (arith, less)) (omega (arith, less'))

no_text : (column : List ℕ) (names : List (List ℕ)) → text_for column names [] ≡ None
no_text column [] = refl
no_text column (name ∷ names) = refl

-- where the texts end, none is set any more
pub text_end : (column : List ℕ) (names texts : List (List ℕ)) (place : ℕ) → length texts ≤ place → text_for column (drop place names) (drop place texts) ≡ None
text_end column names [] zero less = no_text column names
text_end column names (text ∷ texts) zero less = absurd (omega (arith, less))
text_end column [] [] (suc place) less = refl
text_end column (name ∷ names) [] (suc place) less = no_text column (drop place names)
text_end column [] (text ∷ texts) (suc place) less = refl
text_end column (name ∷ names) (text ∷ texts) (suc place) less = text_end column names texts place (omega (arith, less))
