-- The words of a row, column by column.
use Rattle.std.proofs.Common.{◌≡◌, ℕ, zero, suc, ◌+◌, ◌<◌, ◌≤◌, Bool, true, false, cond, List, [], ◌∷◌, ◌++◌, length, get_or, drop, sym, refl, ap, ◌∙◌, subst, arith, lt-ltb, le-ltb}
use Rattle.std.specs.Prelude.{All, Contains, count_by, nat_lt}
use Rattle.std.specs.List.{enumerate_from, AllPairs}
use Rattle.std.proofs.lemmas.List.{length-map, get_or-map, drop_more, drop_all}
use Rattle.std.proofs.lemmas.List.Elements.{All-nil, All-head, All-tail, All-append, All-weaker, All-filter, filter_passes, Contains-append_left, Contains-append_right}
use Rattle.std.proofs.lemmas.List.FromFn.{length-enumerate_from, get_or-enumerate_from}
use Rattle.std.proofs.lemmas.List.Kept.{AllPairs-cons, AllPairs-filter}
use Rattle.std.proofs.lemmas.List.Sums.{sum_by-cons, sum_by_more}
use Rattle.fts_words.specs.declared.span.Span.{Span}
use Rattle.fts_words.specs.declared.placed.PlacedWord.{PlacedWord}
use Rattle.fts_words.specs.Word.{IsRawWord}
use Rattle.fts_words.specs.Run.{IsAscending}
use Rattle.fts_words.specs.RawWords.{raw_words}
use Rattle.fts_words.specs.Indexed.{Rules, is_indexable, column_text, column_offset, word_of, IsPlaced, IsIndexedWord, placed_spans, placed_words_from, placed_words, indexed_words, PositionsAscend}
use Rattle.fts_words.proofs.RunLemmas.{AllPairs-head, AllPairs-tail, contains_filtered}
use Rattle.fts_words.proofs.WordLemmas.{raw_words_each, raw_words_all, raw_words_ascend, raw_words_within}

-- nothing counts where nothing passes
count_none : {X : Type 0} (p : X → Bool) (xs : List X) → All (λ x. p x ≡ false) xs → count_by p xs ≡ 0
count_none p [] none = refl
count_none p (x ∷ xs) none =
    let first : p x ≡ false = All-head (λ y. p y ≡ false) x xs none in
    let rest = count_none p xs (All-tail (λ y. p y ≡ false) x xs none) in
    sum_by-cons (λ y. cond (p y) 1 0) x xs ∙ rw (first, rest) refl

-- in an ascending list, as many spans start before one as stand before it
count_before : (xs : List Span) (k : ℕ) (d : Span) → IsAscending xs → All (λ w. w.from < w.to) xs → k < length xs → count_by (λ other. nat_lt other.from (get_or xs k d).from) xs ≡ k
count_before [] k d up full less = absurd (omega arith)
count_before (x ∷ xs) zero d up full less =
    let R : Span → Span → Type 0 = λ v w. v.to < w.from in
    let x_full : x.from < x.to = All-head (λ (w : Span). w.from < w.to) x xs full in
    let first : nat_lt x.from x.from ≡ false = le-ltb x.from x.from (omega arith) in
    let rest : count_by (λ (other : Span). nat_lt other.from x.from) xs ≡ 0 = count_none _ xs (All-weaker (R x) (λ (w : Span). nat_lt w.from x.from ≡ false) (λ (w : Span) later. le-ltb w.from x.from (omega arith)) xs (AllPairs-head R x xs up)) in
    sum_by-cons (λ (other : Span). cond (nat_lt other.from x.from) 1 0) x xs ∙ rw (first, rest) refl
count_before (x ∷ xs) (suc k) d up full less =
    let R : Span → Span → Type 0 = λ v w. v.to < w.from in
    let x_full : x.from < x.to = All-head (λ (w : Span). w.from < w.to) x xs full in
    let later : x.to < (get_or xs k d).from = AllPairs-head R x xs up k d (omega arith) in
    let first : nat_lt x.from (get_or xs k d).from ≡ true = lt-ltb x.from (get_or xs k d).from (omega arith) in
    let rest = count_before xs k d (AllPairs-tail R x xs up) (All-tail (λ (w : Span). w.from < w.to) x xs full) (omega arith) in
    sum_by-cons (λ (other : Span). cond (nat_lt other.from (get_or xs k d).from) 1 0) x xs ∙ rw (first, rest) (omega arith)

AllPairs-append : {X : Type 0} (R : X → X → Type 0) (xs ys : List X) → AllPairs R xs → AllPairs R ys → All (λ x. All (R x) ys) xs → AllPairs R (xs ++ ys)
AllPairs-append R [] ys first second across = second
AllPairs-append R (x ∷ xs) ys first second across =
    AllPairs-cons R x (xs ++ ys)
    (All-append (R x) xs ys (AllPairs-head R x xs first) (All-head (λ y. All (R y) ys) x xs across))
    (AllPairs-append R xs ys (AllPairs-tail R x xs first) second (All-tail (λ y. All (R y) ys) x xs across))

-- the words of a column at a place of the list
place_at : (column offset : ℕ) (spans : List Span) (k : ℕ) (d : PlacedWord) → k < length spans → get_or (placed_spans column offset 0 spans) k d ≡ record { column = column; span = get_or spans k d.span; number = k; position = offset + (get_or spans k d.span).from }
place_at column offset spans k d less =
    let place : ℕ × Span → PlacedWord = λ p. record { column = column; span = p.1; number = p.0; position = offset + p.1.from } in
    let within : k < length (enumerate_from 0 spans) = omega (arith, length-enumerate_from 0 spans) in
    let index : 0 + k ≡ k = omega arith in
    get_or-map place (enumerate_from 0 spans) k (0, d.span) d within
    ∙ ap place (get_or-enumerate_from 0 spans k (0, d.span) less)
    ∙ ap (λ (n : ℕ). place (n, get_or spans k d.span)) index

length-placed : (column offset : ℕ) (spans : List Span) → length (placed_spans column offset 0 spans) ≡ length spans
length-placed column offset spans = length-map (enumerate_from 0 spans) (λ p. record { column = column; span = p.1; number = p.0; position = offset + p.1.from }) ∙ length-enumerate_from 0 spans

length-placed_spans : (column offset : ℕ) (spans : List Span) (k : ℕ) → k < length (placed_spans column offset 0 spans) → k < length spans
length-placed_spans column offset spans k less = subst (λ (n : ℕ). k < n) (length-placed column offset spans) less

nonempty_words : (text : List ℕ) → All (λ w. w.from < w.to) (raw_words text)
nonempty_words text = All-weaker (λ (w : Span). IsRawWord text w.from w.to) (λ (w : Span). w.from < w.to) (λ w word. word.nonempty) (raw_words text) (raw_words_each text)

module _ (columns : List (List ℕ)) where
  -- the words of the columns from one on
  rows_from : ℕ → List PlacedWord
  rows_from column = placed_words_from column (column_offset columns column) (drop column columns)

  block : ℕ → List PlacedWord
  block column = placed_spans column (column_offset columns column) 0 (raw_words (column_text columns column))

  pub column_offset_next : (column : ℕ) → column < length columns → column_offset columns (column + 1) ≡ column_offset columns column + (length (column_text columns column) + 1)
  column_offset_next column within = sum_by_more (λ (t : List ℕ). length t + 1) columns column [] within

  rows_step : (column : ℕ) → column < length columns → rows_from column ≡ block column ++ rows_from (column + 1)
  unfolding rows_from block
  rows_step column within =
      let offset = column_offset columns column in
      let offset_is : offset + length (column_text columns column) + 1 ≡ column_offset columns (column + 1) = omega (arith, column_offset_next column within) in
      ap (placed_words_from column offset) (drop_more columns column [] within)
      ∙ ap (λ (x : ℕ). placed_spans column offset 0 (raw_words (column_text columns column)) ++ placed_words_from (column + 1) x (drop (column + 1) columns)) offset_is

  rows_end : (column : ℕ) → length columns ≤ column → rows_from column ≡ []
  unfolding rows_from
  rows_end column over = ap (placed_words_from column (column_offset columns column)) (drop_all column columns over)

  -- each word of a column is placed, and its position lies in the column
  block_each : (column : ℕ) → column < length columns → All (λ w. IsPlaced columns w × (column_offset columns column ≤ w.position) × (w.position < column_offset columns (column + 1))) (block column)
  unfolding block
  block_each column within k d less =
      let text = column_text columns column in
      let offset = column_offset columns column in
      let index = length-placed_spans column offset (raw_words text) k less in
      let word : IsRawWord text (get_or (raw_words text) k d.span).from (get_or (raw_words text) k d.span).to = raw_words_each text k d.span index in
      let counted = count_before (raw_words text) k d.span (raw_words_ascend text) (nonempty_words text) index in
      let inside : (get_or (raw_words text) k d.span).to ≤ length text = raw_words_within text _ _ word in
      let ordered = word.nonempty in
      let P : PlacedWord → Type 0 = λ w. IsPlaced columns w × (column_offset columns column ≤ w.position) × (w.position < column_offset columns (column + 1)) in
      subst P (sym (place_at column offset (raw_words text) k d index))
      (record { column = within; raw_word = word; number = sym counted; position = refl }, omega arith, omega (arith, column_offset_next column within))

  -- the words of a column ascend
  block_ascends : (column : ℕ) → PositionsAscend (block column)
  unfolding block
  block_ascends column i j d order less =
      let text = column_text columns column in
      let offset = column_offset columns column in
      let second = length-placed_spans column offset (raw_words text) j less in
      let first : i < length (raw_words text) = omega arith in
      let apart : (get_or (raw_words text) i d.span).to < (get_or (raw_words text) j d.span).from = raw_words_ascend text i j d.span order second in
      let word : IsRawWord text (get_or (raw_words text) i d.span).from (get_or (raw_words text) i d.span).to = raw_words_each text i d.span first in
      let ordered = word.nonempty in
      let R : PlacedWord → PlacedWord → Type 0 = λ v w. v.position < w.position in
      let at_i = place_at column offset (raw_words text) i d first in
      let at_j = place_at column offset (raw_words text) j d second in
      let v : PlacedWord = record { column = column; span = get_or (raw_words text) i d.span; number = i; position = offset + (get_or (raw_words text) i d.span).from } in
      subst (λ (u : PlacedWord). R u (get_or (placed_spans column offset 0 (raw_words text)) j d)) (sym at_i) (subst (R v) (sym at_j) (omega arith))

  -- a placed word of the column is one of its words
  block_all : (w : PlacedWord) → IsPlaced columns w → Contains (block w.column) w
  unfolding block
  block_all w placed =
      let text = column_text columns w.column in
      let offset = column_offset columns w.column in
      let found = raw_words_all text w.span placed.raw_word in
      let k : ℕ = found.0 in
      let span_is : get_or (raw_words text) k w.span ≡ w.span = found.2 in
      let counted = count_before (raw_words text) k w.span (raw_words_ascend text) (nonempty_words text) found.1 in
      let number_is : k ≡ w.number = sym counted ∙ ap (λ (v : Span). count_by (λ (other : Span). nat_lt other.from v.from) (raw_words text)) span_is ∙ sym placed.number in
      let word_is : record { column = w.column; span = get_or (raw_words text) k w.span; number = k; position = offset + (get_or (raw_words text) k w.span).from } ≡ w = (λ i. record { column = w.column; span = span_is i; number = number_is i; position = offset + (span_is i).from }) ∙ (λ i. record { column = w.column; span = w.span; number = w.number; position = sym placed.position i }) in (
        k,
        subst (λ (n : ℕ). k < n) (sym (length-placed w.column offset (raw_words text))) found.1,
        place_at w.column offset (raw_words text) k w found.1 ∙ word_is,
      )

  -- placed, in a column or behind it
  IsFrom : ℕ → PlacedWord → Type 0
  IsFrom column w = IsPlaced columns w × (column_offset columns column ≤ w.position)

  -- placed, in a column
  IsInside : ℕ → PlacedWord → Type 0
  IsInside column w = IsPlaced columns w × (column_offset columns column ≤ w.position) × (w.position < column_offset columns (column + 1))

  rows_each : (n column : ℕ) → column + n ≡ length columns → All (IsFrom column) (rows_from column)
  unfolding IsFrom IsInside
  rows_each zero column all = subst (All (IsFrom column)) (sym (rows_end column (omega arith))) (All-nil _)
  rows_each (suc n) column all =
      let P : PlacedWord → Type 0 = IsFrom column in
      let next = column_offset_next column (omega arith) in
      subst (All P) (sym (rows_step column (omega arith)))
      (All-append P _ _
      (All-weaker (IsInside column) P (λ w h. (h.0, h.1)) _ (block_each column (omega arith)))
      (All-weaker (IsFrom (column + 1)) P (λ w h. (h.0, omega (arith, h.1))) _ (rows_each n (column + 1) (omega arith))))

  rows_ascend : (n column : ℕ) → column + n ≡ length columns → PositionsAscend (rows_from column)
  unfolding IsFrom IsInside
  rows_ascend zero column all = subst PositionsAscend (sym (rows_end column (omega arith))) (λ i j d order less. absurd (omega arith))
  rows_ascend (suc n) column all =
      let R : PlacedWord → PlacedWord → Type 0 = λ v w. v.position < w.position in
      let behind = rows_each n (column + 1) (omega arith) in
      subst (AllPairs R) (sym (rows_step column (omega arith)))
      (AllPairs-append R _ _ (block_ascends column) (rows_ascend n (column + 1) (omega arith))
      (All-weaker (IsInside column) (λ v. All (R v) (rows_from (column + 1))) (λ v h. All-weaker (IsFrom (column + 1)) (R v) (λ w later. omega (arith, h.2, later.1)) _ behind) _ (block_each column (omega arith))))

  rows_all : (n column : ℕ) (w : PlacedWord) → column + n ≡ w.column → IsPlaced columns w → Contains (rows_from column) w
  rows_all zero column w reached placed =
      let same : column ≡ w.column = omega arith in
      let within : column < length columns = omega (arith, placed.column) in
      subst (λ ws. Contains ws w) (sym (rows_step column within))
      (Contains-append_left _ _ w (subst (λ (x : ℕ). Contains (block x) w) (sym same) (block_all w placed)))
  rows_all (suc n) column w reached placed =
      let within : column < length columns = omega (arith, placed.column) in
      subst (λ ws. Contains ws w) (sym (rows_step column within))
      (Contains-append_right _ _ w (rows_all n (column + 1) w (omega arith) placed))

  placed_words_are : placed_words columns ≡ rows_from 0
  unfolding rows_from placed_words
  placed_words_are = refl

  -- the list of a row's words has placed words alone, each of them, in ascending order
  pub placed_words_each : All (IsPlaced columns) (placed_words columns)
  unfolding IsFrom
  placed_words_each = subst (All (IsPlaced columns)) (sym placed_words_are) (All-weaker (IsFrom 0) (IsPlaced columns) (λ w h. h.0) _ (rows_each (length columns) 0 (omega arith)))

  pub placed_words_all : (w : PlacedWord) → IsPlaced columns w → Contains (placed_words columns) w
  placed_words_all w placed = subst (λ ws. Contains ws w) (sym placed_words_are) (rows_all w.column 0 w (omega arith) placed)

  pub placed_words_ascend : PositionsAscend (placed_words columns)
  placed_words_ascend = subst PositionsAscend (sym placed_words_are) (rows_ascend (length columns) 0 (omega arith))

  module _ (rules : Rules) where
    -- the same of the indexed words
    pub indexed_words_each : All (IsIndexedWord rules columns) (indexed_words rules columns)
    indexed_words_each =
        let test : PlacedWord → Bool = λ w. is_indexable rules (word_of columns w) in
        let placed = All-filter test (IsPlaced columns) (placed_words columns) placed_words_each in
        let passing = filter_passes test (placed_words columns) in
        λ k d less. record { placed = placed k d less; indexable = passing k d less }

    pub indexed_words_all : (w : PlacedWord) → IsIndexedWord rules columns w → Contains (indexed_words rules columns) w
    indexed_words_all w indexed =
        contains_filtered (λ v. is_indexable rules (word_of columns v)) w (placed_words columns) (placed_words_all w indexed.placed) indexed.indexable

    pub indexed_words_ascend : PositionsAscend (indexed_words rules columns)
    indexed_words_ascend = AllPairs-filter (λ v w. v.position < w.position) (λ v. is_indexable rules (word_of columns v)) (placed_words columns) placed_words_ascend
