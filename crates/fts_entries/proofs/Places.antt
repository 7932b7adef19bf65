-- Where the indexed words of a row stand.
use Rattle.std.proofs.Common.{◌≡◌, ℕ, ◌+◌, ◌<◌, ◌≤◌, Bool, List, [], ◌∷◌, map, filter, length, sum_by, refl, arith, bytes_eq}
use Rattle.std.specs.Prelude.{All}
use Rattle.std.proofs.lemmas.List.Elements.{All-head, All-tail, All-weaker, All-filter}
use Rattle.std.proofs.lemmas.List.Kept.{AllPairs-filter}
use Rattle.std.proofs.lemmas.List.Sums.{sum_by-cons, sum_by-take-le}
use Rattle.fts_types.specs.Row.{IsRow}
use Rattle.fts_ilist.specs.Spelling.{PositionsFrom}
use Rattle.fts_words.specs.declared.placed.PlacedWord.{PlacedWord}
use Rattle.fts_words.specs.Indexed.{Rules, column_text, column_offset, word_of, IsIndexedWord, indexed_words, PositionsAscend}
use Rattle.fts_words.proofs.RunLemmas.{AllPairs-head, AllPairs-tail}
use Rattle.fts_words.proofs.WordLemmas.{raw_words_within}
use Rattle.fts_words.proofs.PlacedLemmas.{column_offset_next, indexed_words_each, indexed_words_ascend}
use Rattle.fts_entries.specs.Words.{positions_of}

-- the texts of a row, and a byte behind each
with_joints : (columns : List (List ℕ)) → sum_by (λ text. length text + 1) columns ≡ sum_by length columns + length columns
with_joints [] = refl
with_joints (text ∷ texts) =
    omega (arith, with_joints texts, sum_by-cons (λ (t : List ℕ). length t + 1) text texts, sum_by-cons (λ (t : List ℕ). length t) text texts)

-- an indexed word starts in its row
low : (rules : Rules) (columns : List (List ℕ)) → IsRow columns → (w : PlacedWord) → IsIndexedWord rules columns w → w.position < 65543
low rules columns row w word =
    let raw = word.placed.raw_word in
    let some = raw.nonempty in
    let within = raw_words_within (column_text columns w.column) w.span.from w.span.to raw in
    let next = column_offset_next columns w.column word.placed.column in
    let all : column_offset columns (w.column + 1) ≤ sum_by (λ text. length text + 1) columns = sum_by-take-le (λ (t : List ℕ). length t + 1) columns (w.column + 1) in
    omega (arith, word.placed.position, with_joints columns, row.few, row.short)

pub all_low : (rules : Rules) (columns : List (List ℕ)) → IsRow columns → All (λ w. w.position < 65543) (indexed_words rules columns)
all_low rules columns row =
    All-weaker (IsIndexedWord rules columns) (λ (w : PlacedWord). w.position < 65543) (low rules columns row) (indexed_words rules columns) (indexed_words_each columns rules)

-- words in ascending order have positions as a document has them
spelled : (next : ℕ) (xs : List PlacedWord) → PositionsAscend xs → All (λ w. w.position < 65543) xs → All (λ w. next ≤ w.position) xs → PositionsFrom next (map (λ w. w.position) xs)
spelled next [] up below above = tt
spelled next (x ∷ xs) up below above =
    let R : PlacedWord → PlacedWord → Type 0 = λ v w. v.position < w.position in
    let B : PlacedWord → Type 0 = λ w. w.position < 65543 in
    let A : PlacedWord → Type 0 = λ w. next ≤ w.position in
    let N : PlacedWord → Type 0 = λ w. x.position + 1 ≤ w.position in
    let first : x.position < 65543 = All-head B x xs below in (
      All-head A x xs above,
      omega arith,
      spelled (x.position + 1) xs (AllPairs-tail R x xs up) (All-tail B x xs below)
          (All-weaker (R x) N (λ (w : PlacedWord) less. omega (arith, less)) xs (AllPairs-head R x xs up)),
    )

-- the positions of a word of a row are as a document has them
pub positions_spelled : (rules : Rules) (columns : List (List ℕ)) (word : List ℕ) → IsRow columns → PositionsFrom 0 (positions_of rules columns word)
positions_spelled rules columns word row =
    let p : PlacedWord → Bool = λ found. bytes_eq word (word_of columns found) in
    let R : PlacedWord → PlacedWord → Type 0 = λ v w. v.position < w.position in
    let B : PlacedWord → Type 0 = λ w. w.position < 65543 in
    let all = indexed_words rules columns in
    spelled 0 (filter p all) (AllPairs-filter R p all (indexed_words_ascend columns rules)) (All-filter p B all (all_low rules columns row)) (λ k d less. omega arith)
