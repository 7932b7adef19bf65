use Rattle.std.specs.Prelude.{ℕ, ◌+◌, Bool, true, false, not, ◌&&◌, ◌||◌, List, [], ◌∷◌, length, take, drop, filter}
use Rattle.std.specs.List.{list_any, list_all, range_with_len}
use Rattle.std.specs.Str.{bytes_eq}
use Rattle.fts_words.specs.Order.{begins_with, is_among}
use Rattle.fts_words.specs.Indexed.{Rules, is_indexable, indexed_words, word_of}
use Rattle.fts_meaning.specs.declared.sign.Sign.{Sign}
use Rattle.fts_meaning.specs.declared.sign.Sign.TheVariants.{Optional, Required, Excluded}
use Rattle.fts_meaning.specs.Token.{words_in}
use Rattle.fts_meaning.specs.Tree.{Operand, word, prefix, phrase, distance, Term, Terms, leaf, group, none, more}

-- In what follows a row is the list of its columns' texts.

-- some indexed word of the row passes the test
abbrev pub some_indexed : Rules → List (List ℕ) → (List ℕ → Bool) → Bool
some_indexed rules columns test = list_any (λ found. test (word_of columns found)) (indexed_words rules columns)

-- the first words begin with the others
abbrev pub starts_with_words : List (List ℕ) → List (List ℕ) → Bool
starts_with_words words [] = true
starts_with_words [] (w ∷ ws) = false
starts_with_words (v ∷ vs) (w ∷ ws) = bytes_eq v w && starts_with_words vs ws

-- the words have a place from which on the test passes
abbrev pub from_some_place : List (List ℕ) → (List (List ℕ) → Bool) → Bool
from_some_place words test = list_any (λ place. test (drop place words)) (range_with_len 0 (length words))

-- the words stand one behind another in the text
abbrev pub stands_in : List (List ℕ) → List ℕ → Bool
stands_in words text = from_some_place (words_in text) (λ rest. starts_with_words rest words)

-- the words stand together: one behind another in some column
abbrev pub stand_together : List (List ℕ) → List (List ℕ) → Bool
stand_together columns words = list_any (stands_in words) columns

-- the row has the phrase: one of its words is indexable, and they stand together
abbrev pub phrase_holds : Rules → List (List ℕ) → List (List ℕ) → Bool
phrase_holds rules columns words = list_any (is_indexable rules) words && stand_together columns words

-- each of the words is among n + 1 words of the text that stand one behind another, so that the largest of their word
-- numbers less the smallest is at most n
abbrev pub are_near_in : List (List ℕ) → ℕ → List ℕ → Bool
are_near_in words n text =
    from_some_place (words_in text) (λ rest. list_all (is_among (take (n + 1) rest)) words)

-- the words lie near each other: so in some column
abbrev pub lie_near : List (List ℕ) → List (List ℕ) → ℕ → Bool
lie_near columns words n = list_any (are_near_in words n) columns

-- the row has the words at the distance: one of them is indexable, and those that are lie near each other
abbrev pub distance_holds : Rules → List (List ℕ) → List (List ℕ) → ℕ → Bool
distance_holds rules columns words n =
    list_any (is_indexable rules) words && lie_near columns (filter (is_indexable rules) words) n

-- the operand holds in the row
abbrev pub operand_holds : Rules → List (List ℕ) → Operand → Bool
operand_holds rules columns (word w) = some_indexed rules columns (λ found. bytes_eq found w)
operand_holds rules columns (prefix w) = some_indexed rules columns (begins_with w)
operand_holds rules columns (phrase words) = phrase_holds rules columns words
operand_holds rules columns (distance words n) = distance_holds rules columns words n

-- A term stays unless it is dropped with its sign: a word that can't be an indexed word is, and a group left without
-- terms. A prefix, a phrase and a distance stay.
abbrev mutual
  pub stays : Rules → Term → Bool
  stays rules (leaf sign (word w)) = is_indexable rules w
  stays rules (leaf sign (prefix w)) = true
  stays rules (leaf sign (phrase words)) = true
  stays rules (leaf sign (distance words n)) = true
  stays rules (group sign terms) = some_stays rules terms

  pub some_stays : Rules → Terms → Bool
  some_stays rules none = false
  some_stays rules (more term rest) = stays rules term || some_stays rules rest

abbrev pub is_required : Sign → Bool
is_required Required = true
is_required Optional = false
is_required Excluded = false

abbrev pub is_optional : Sign → Bool
is_optional Optional = true
is_optional Required = false
is_optional Excluded = false

abbrev pub is_excluded : Sign → Bool
is_excluded Excluded = true
is_excluded Optional = false
is_excluded Required = false

abbrev pub sign_of_term : Term → Sign
sign_of_term (leaf sign _) = sign
sign_of_term (group sign _) = sign

-- A list of terms holds where, of the terms that stay, no excluded one holds, each required one holds and, if none is
-- required, some optional one holds. The four tests go over the list; `term_holds` joins them for a group.
abbrev mutual
  pub term_holds : Rules → List (List ℕ) → Term → Bool
  term_holds rules columns (leaf sign operand) = operand_holds rules columns operand
  term_holds rules columns (group sign terms) =
      none_excluded rules columns terms
      && (each_required rules columns terms && (has_required rules terms || some_optional rules columns terms))

  -- no excluded term that stays holds
  pub none_excluded : Rules → List (List ℕ) → Terms → Bool
  none_excluded rules columns none = true
  none_excluded rules columns (more term rest) =
      not (stays rules term && (is_excluded (sign_of_term term) && term_holds rules columns term)) && none_excluded
      rules columns rest

  -- each required term that stays holds
  pub each_required : Rules → List (List ℕ) → Terms → Bool
  each_required rules columns none = true
  each_required rules columns (more term rest) =
      (not (stays rules term && is_required (sign_of_term term)) || term_holds rules columns term) && each_required
      rules columns rest

  -- a required term stays
  pub has_required : Rules → Terms → Bool
  has_required rules none = false
  has_required rules (more term rest) = (stays rules term && is_required (sign_of_term term)) || has_required rules rest

  -- some optional term that stays holds
  pub some_optional : Rules → List (List ℕ) → Terms → Bool
  some_optional rules columns none = false
  some_optional rules columns (more term rest) =
      (stays rules term && (is_optional (sign_of_term term) && term_holds rules columns term)) || some_optional rules
      columns rest

-- the list of terms holds in the row
abbrev pub list_holds : Rules → List (List ℕ) → Terms → Bool
list_holds rules columns terms = term_holds rules columns (group Optional terms)
