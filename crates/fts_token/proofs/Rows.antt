-- The columns of a row, one after another.
use Rattle.std.proofs.Common.{◌≡◌, ℕ, ◌+◌, ◌<◌, ◌≤◌, List, [], ◌∷◌, ◌++◌, length, drop, sym, refl, ap, subst, ⊎_elim, arith}
use Rattle.std.specs.Prelude.{sum_by}
use Rattle.std.proofs.lemmas.Bool.{cases_lt}
use Rattle.std.proofs.lemmas.List.{get_or_past, drop_more, drop_all}
use Rattle.std.proofs.lemmas.List.Sums.{sum_by-cons}
use Rattle.fts_words.specs.RawWords.{raw_words, raw_words_from}
use Rattle.fts_words.specs.Indexed.{column_text, placed_spans, placed_words_from}
use Rattle.fts_token.proofs.Blocks.{no_words}

-- the texts of a row, and a byte behind each
pub sum_by_with_joints : (columns : List (List ℕ)) → sum_by (λ text. length text + 1) columns ≡ sum_by length columns + length columns
sum_by_with_joints [] = refl
sum_by_with_joints (text ∷ texts) =
    omega (arith, sum_by_with_joints texts, sum_by-cons (λ (t : List ℕ). length t + 1) text texts, sum_by-cons (λ (t : List ℕ). length t) text texts)

-- the words of a column from its begin on, and those of the columns behind it
pub words_from_column : (columns : List (List ℕ)) (column offset : ℕ) → placed_spans column offset 0 (raw_words (column_text columns column)) ++ placed_words_from (column + 1) (offset + length (column_text columns column) + 1) (drop (column + 1) columns) ≡ placed_words_from column offset (drop column columns)
words_from_column columns column offset = ⊎_elim inside past (cases_lt column (length columns))
  where
    Goal : List (List ℕ) → Type 0
    Goal texts = placed_spans column offset 0 (raw_words (column_text columns column)) ++ placed_words_from (column + 1) (offset + length (column_text columns column) + 1) (drop (column + 1) columns) ≡ placed_words_from column offset texts

    inside : column < length columns → Goal (drop column columns)
    inside within = subst Goal (sym (drop_more columns column [] within)) refl

    past : length columns ≤ column → Goal (drop column columns)
    past over =
        let text_is : column_text columns column ≡ [] = get_or_past columns column [] over in
        let empty : raw_words (column_text columns column) ≡ [] = subst (λ (t : List ℕ). raw_words t ≡ []) (sym text_is) (no_words [] 0 (omega arith)) in
        let behind : drop (column + 1) columns ≡ [] = drop_all (column + 1) columns (omega arith) in
        let here : drop column columns ≡ [] = drop_all column columns over in
        rw (empty, behind, here) refl

-- behind the last column nothing is left
pub nothing_left : (columns : List (List ℕ)) (column offset number at : ℕ) → length columns ≤ column → placed_spans column offset number (raw_words_from (column_text columns column) at) ++ placed_words_from (column + 1) (offset + length (column_text columns column) + 1) (drop (column + 1) columns) ≡ []
nothing_left columns column offset number at over =
    let text_is : column_text columns column ≡ [] = get_or_past columns column [] over in
    let length_is : length (column_text columns column) ≡ 0 = ap length text_is in
    let empty : raw_words_from (column_text columns column) at ≡ [] = no_words (column_text columns column) at (omega arith) in
    let behind : drop (column + 1) columns ≡ [] = drop_all (column + 1) columns (omega arith) in
    rw (empty, behind) refl
