-- An operand holds only in rows that are candidates of its leaf.
use Rattle.std.proofs.Common.{◌≡◌, ℕ, zero, suc, ◌+◌, ◌<◌, Bool, true, false, ◌&&◌, ◌||◌, List, [], ◌∷◌, length, map, filter, take, drop, get_or, refl, sym, ap, ◌∙◌, ⊎_elim, arith, length-drop}
use Rattle.std.specs.List.{list_any, list_all}
use Rattle.std.specs.Str.{bytes_eq}
use Rattle.std.proofs.lemmas.Bool.{cases_Bool, false≢true}
use Rattle.std.proofs.lemmas.List.{drop_more}
use Rattle.std.proofs.lemmas.List.Folds.{list_any_at, list_any-append}
use Rattle.std.proofs.lemmas.Map.Views.{any-filter_same}
use Rattle.std.proofs.lemmas.Slice.Eq.{bytes_eq-Decides}
use Rattle.fts_types.specs.Row.{Row}
use Rattle.fts_words.specs.declared.span.Span.{Span}
use Rattle.fts_words.specs.declared.placed.PlacedWord.{PlacedWord}
use Rattle.fts_words.specs.Byte.{lowered}
use Rattle.fts_words.specs.RawWords.{raw_words, bytes_of}
use Rattle.fts_words.specs.Order.{is_among}
use Rattle.fts_words.specs.Indexed.{Rules, is_indexable, column_text, placed_spans, placed_words_from, placed_words, word_of}
use Rattle.fts_meaning.specs.Token.{words_in}
use Rattle.fts_meaning.specs.Tree.{Operand, word, prefix, phrase, distance}
use Rattle.fts_meaning.specs.Holds.{starts_with_words, stands_in, are_near_in, operand_holds}
use Rattle.fts_meaning.specs.Leaf.{Leaf, words_leaf, leaf_of}
use Rattle.fts_meaning.specs.View.{has_word, is_candidate, needs_texts, is_looked_into, view_of}
use Rattle.fts_meaning.proofs.Indexable.{indexable}

-- ---- tests of lists

or_later : (a b : Bool) → b ≡ true → (a || b) ≡ true
or_later true b e = refl
or_later false b e = e

and_both : (a b : Bool) → a ≡ true → b ≡ true → (a && b) ≡ true
and_both true b e f = f
and_both false b e f = e

and_first : (a b : Bool) → (a && b) ≡ true → a ≡ true
and_first true b e = refl
and_first false b e = e

and_second : (a b : Bool) → (a && b) ≡ true → b ≡ true
and_second true b e = e
and_second false b e = absurd (false≢true e)

-- what follows from any element that passes a test
any_leads : {X : Type 0} (test : X → Bool) (b : Bool) → ((x : X) → test x ≡ true → b ≡ true) → (xs : List X) → list_any test xs ≡ true → b ≡ true
any_leads test b h [] e = absurd (false≢true e)
any_leads test b h (x ∷ xs) e =
    ⊎_elim (λ (yes : test x ≡ true). h x yes) (λ (no : test x ≡ false). any_leads test b h xs (rw no at e)) (cases_Bool (test x))

-- and from any with its place
any_at : {X : Type 0} (test : X → Bool) (b : Bool) (d : X) (xs : List X) → ((i : ℕ) → i < length xs → test (get_or xs i d) ≡ true → b ≡ true) → list_any test xs ≡ true → b ≡ true
any_at test b d [] h e = absurd (false≢true e)
any_at test b d (x ∷ xs) h e =
    ⊎_elim (λ (yes : test x ≡ true). h 0 (omega arith) yes) (λ (no : test x ≡ false). any_at test b d xs (λ i less here. h (suc i) (omega (arith, less)) here) (rw no at e)) (cases_Bool (test x))

any_drop : {X : Type 0} (test : X → Bool) (n : ℕ) (xs : List X) → list_any test (drop n xs) ≡ true → list_any test xs ≡ true
any_drop test zero xs e = e
any_drop test (suc n) [] e = e
any_drop test (suc n) (x ∷ xs) e = or_later (test x) (list_any test xs) (any_drop test n xs e)

any_take : {X : Type 0} (test : X → Bool) (n : ℕ) (xs : List X) → list_any test (take n xs) ≡ true → list_any test xs ≡ true
any_take test zero xs e = absurd (false≢true e)
any_take test (suc n) [] e = e
any_take test (suc n) (x ∷ xs) e =
    ⊎_elim
    (λ (yes : test x ≡ true). ap (λ (b : Bool). b || list_any test xs) yes)
    (λ (no : test x ≡ false). or_later (test x) (list_any test xs) (any_take test n xs (rw no at e)))
    (cases_Bool (test x))

-- ---- a word of a column is a word of the row

module _ (columns : List (List ℕ)) (w : List ℕ) where
  abbrev is_it : PlacedWord → Bool
  is_it found = bytes_eq (word_of columns found) w

  in_spans : (column offset number : ℕ) (spans : List Span) → is_among (map (λ (span : Span). lowered (bytes_of (column_text columns column) span)) spans) w ≡ list_any is_it (placed_spans column offset number spans)
  in_spans column offset number [] = refl
  in_spans column offset number (span ∷ spans) =
      ap (λ (b : Bool). bytes_eq (lowered (bytes_of (column_text columns column) span)) w || b) (in_spans column offset (number + 1) spans)

  in_columns : (column offset : ℕ) (texts : List (List ℕ)) → drop column columns ≡ texts → list_any (λ (text : List ℕ). is_among (words_in text) w) texts ≡ list_any is_it (placed_words_from column offset texts)
  unfolding words_in
  in_columns column offset [] e = refl
  in_columns column offset (text ∷ texts) e =
      let within : column < length columns = omega (arith, ap length e, length-drop column columns) in
      let split : drop column columns ≡ get_or columns column [] ∷ drop (column + 1) columns = drop_more columns column [] within in
      let here : get_or columns column [] ≡ text = cc in
      let behind : drop (column + 1) columns ≡ texts = cc in
      let first = ap (λ (t : List ℕ). is_among (map (λ (span : Span). lowered (bytes_of t span)) (raw_words text)) w) (sym here) ∙ in_spans column offset 0 (raw_words text) in
      ap (λ (b : Bool). b || list_any (λ (t : List ℕ). is_among (words_in t) w) texts) first
      ∙ ap (λ (b : Bool). list_any is_it (placed_spans column offset 0 (raw_words text)) || b) (in_columns (column + 1) (offset + length text + 1) texts behind)
      ∙ sym (list_any-append is_it (placed_spans column offset 0 (raw_words text)) (placed_words_from (column + 1) (offset + length text + 1) texts))

  -- a word of a column that can be indexed is an indexed word of the row
  column_word : (rules : Rules) (i : ℕ) → i < length columns → is_among (words_in (get_or columns i [])) w ≡ true → is_indexable rules w ≡ true → has_word rules columns w ≡ true
  unfolding placed_words
  column_word rules i within among can =
      let there : list_any is_it (placed_words columns) ≡ true = sym (in_columns 0 0 columns refl) ∙ list_any_at (λ (text : List ℕ). is_among (words_in text) w) columns i [] within among in
      any-filter_same is_it (λ (found : PlacedWord). is_indexable rules (word_of columns found)) true (λ found same. ap (is_indexable rules) ((bytes_eq-Decides (word_of columns found) w).0 same) ∙ can) (placed_words columns)
      ∙ there

-- ---- the words of a phrase or a distance

module _ (can good : List ℕ → Bool) where
  starts_all : (vs ws : List (List ℕ)) → ((w : List ℕ) → is_among vs w ≡ true → can w ≡ true → good w ≡ true) → starts_with_words vs ws ≡ true → list_all good (filter can ws) ≡ true
  starts_all vs [] h e = refl
  starts_all [] (w ∷ ws) h e = absurd (false≢true e)
  starts_all (v ∷ vs) (w ∷ ws) h e =
      let same : bytes_eq v w ≡ true = and_first (bytes_eq v w) (starts_with_words vs ws) e in
      let rest : list_all good (filter can ws) ≡ true = starts_all vs ws (λ u among is. h u (or_later (bytes_eq v u) (is_among vs u) among) is) (and_second (bytes_eq v w) (starts_with_words vs ws) e) in
      ⊎_elim
      (λ (yes : can w ≡ true). rw yes (and_both (good w) (list_all good (filter can ws)) (h w (ap (λ (b : Bool). b || is_among vs w) same) yes) rest))
      (λ (no : can w ≡ false). rw no rest)
      (cases_Bool (can w))

  each_leads : (test : List ℕ → Bool) → ((w : List ℕ) → test w ≡ true → can w ≡ true → good w ≡ true) → (ws : List (List ℕ)) → list_all test (filter can ws) ≡ true → list_all good (filter can ws) ≡ true
  each_leads test h [] e = refl
  each_leads test h (w ∷ ws) e =
      ⊎_elim
      (λ (yes : can w ≡ true).
      let both : (test w && list_all test (filter can ws)) ≡ true = rw yes at e in
      rw yes (and_both (good w) (list_all good (filter can ws)) (h w (and_first (test w) (list_all test (filter can ws)) both) yes) (each_leads test h ws (and_second (test w) (list_all test (filter can ws)) both))))
      (λ (no : can w ≡ false). rw no (each_leads test h ws (rw no at e)))
      (cases_Bool (can w))

  some_left : (ws : List (List ℕ)) → list_any can ws ≡ true → filter can ws ≡ [] → ⊥
  some_left [] e none = false≢true e
  some_left (w ∷ ws) e none =
      ⊎_elim
      (λ (yes : can w ≡ true). let has : w ∷ filter can ws ≡ [] = rw yes at none in cc)
      (λ (no : can w ≡ false). some_left ws (rw no at e) (rw no at none))
      (cases_Bool (can w))

module _ (rules : Rules) (columns : List (List ℕ)) where
  of_some : (ws : List (List ℕ)) → (ws ≡ [] → ⊥) → list_all (has_word rules columns) ws ≡ true → is_candidate rules columns (words_leaf ws) ≡ true
  of_some [] some e = absurd (some refl)
  of_some (w ∷ ws) some e = e

  words_candidate : (words : List (List ℕ)) → list_any (is_indexable rules) words ≡ true → list_all (has_word rules columns) (filter (is_indexable rules) words) ≡ true → is_candidate rules columns (words_leaf (filter (is_indexable rules) words)) ≡ true
  words_candidate words some each = of_some (filter (is_indexable rules) words) (some_left (is_indexable rules) (has_word rules columns) words some) each

  phrase_words : (words : List (List ℕ)) → list_any (stands_in words) columns ≡ true → list_all (has_word rules columns) (filter (is_indexable rules) words) ≡ true
  phrase_words words e =
      let all = list_all (has_word rules columns) (filter (is_indexable rules) words) in
      any_at (stands_in words) all [] columns (λ i within here.
      let ws = words_in (get_or columns i []) in
      any_leads (λ (place : ℕ). starts_with_words (drop place ws) words) all (λ place starts.
      starts_all (is_indexable rules) (has_word rules columns) (drop place ws) words
      (λ w among can. column_word columns w rules i within (any_drop (λ (v : List ℕ). bytes_eq v w) place ws among) can)
      starts) _ here) e

  distance_words : (words : List (List ℕ)) (n : ℕ) → list_any (are_near_in (filter (is_indexable rules) words) n) columns ≡ true → list_all (has_word rules columns) (filter (is_indexable rules) words) ≡ true
  distance_words words n e =
      let some = filter (is_indexable rules) words in
      let all = list_all (has_word rules columns) some in
      any_at (are_near_in some n) all [] columns (λ i within here.
      let ws = words_in (get_or columns i []) in
      any_leads (λ (place : ℕ). list_all (is_among (take (n + 1) (drop place ws))) some) all (λ place near.
      each_leads (is_indexable rules) (has_word rules columns) (is_among (take (n + 1) (drop place ws)))
      (λ w among can. column_word columns w rules i within (any_drop (λ (v : List ℕ). bytes_eq v w) place ws (any_take (λ (v : List ℕ). bytes_eq v w) (n + 1) (drop place ws) among)) can)
      words near) _ here) e

  -- the word of an operand that holds can be an indexed word
  word_candidate : (w : List ℕ) → has_word rules columns w ≡ true → is_candidate rules columns (leaf_of rules (word w)) ≡ true
  word_candidate w e = let can : is_indexable rules w ≡ true = indexable rules columns w (placed_words columns) e in rw can e

  pub candidate : (operand : Operand) → operand_holds rules columns operand ≡ true → is_candidate rules columns (leaf_of rules operand) ≡ true
  candidate (word w) e = word_candidate w e
  candidate (prefix w) e = e
  candidate (phrase words) e =
      let some = and_first (list_any (is_indexable rules) words) (list_any (stands_in words) columns) e in
      words_candidate words some (phrase_words words (and_second (list_any (is_indexable rules) words) (list_any (stands_in words) columns) e))
  candidate (distance words n) e =
      let near = list_any (are_near_in (filter (is_indexable rules) words) n) columns in
      let some = and_first (list_any (is_indexable rules) words) near e in
      words_candidate words some (distance_words words n (and_second (list_any (is_indexable rules) words) near e))

-- ---- rows that are looked into

not_looked_into : (rules : Rules) (row : Row) (asked : List Leaf) → list_any needs_texts asked ≡ false → is_looked_into rules asked row ≡ false
not_looked_into rules row [] e = refl
not_looked_into rules row (leaf ∷ asked) e =
    ⊎_elim
    (λ (yes : needs_texts leaf ≡ true). absurd (false≢true (sym e ∙ ap (λ (b : Bool). b || list_any needs_texts asked) yes)))
    (λ (no : needs_texts leaf ≡ false). rw no (not_looked_into rules row asked (rw no at e)))
    (cases_Bool (needs_texts leaf))

none_left : {X : Type 0} (test : X → Bool) → ((x : X) → test x ≡ false) → (xs : List X) → filter test xs ≡ []
none_left test h [] = refl
none_left test h (x ∷ xs) = rw (h x) (none_left test h xs)

-- a view that no phrase and no distance asked for has no texts
pub no_texts : (rules : Rules) (rows : List Row) (number : ℕ) (asked : List Leaf) → list_any needs_texts asked ≡ false → (view_of rules rows number asked).texts ≡ []
no_texts rules rows number asked e = rw (none_left (is_looked_into rules asked) (λ row. not_looked_into rules row asked e) rows) refl
