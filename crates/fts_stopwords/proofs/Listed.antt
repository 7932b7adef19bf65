-- The words of a set, and what holds of each.
use Rattle.std.proofs.Common.{◌≡◌, ℕ, zero, suc, ◌<◌, ◌↔◌, Bool, true, false, List, [], ◌∷◌, length, get_or, sym, refl, ap, ◌∙◌, subst, ⊎_elim, arith}
use Rattle.std.specs.Prelude.{Contains, IsTrue}
use Rattle.std.specs.List.{list_all}
use Rattle.std.specs.Str.{bytes_eq}
use Rattle.std.specs.Char.{to_ascii_lowercase}
use Rattle.std.proofs.lemmas.Bool.{false≢true, cases_Bool, or_cases, and_parts}
use Rattle.std.proofs.lemmas.Slice.Eq.{bytes_eq-Decides}
use Rattle.std.proofs.lemmas.List.{get_or-map}
use Rattle.fts_words.specs.Byte.{lowered}
use Rattle.fts_words.specs.Stopwords.{default_stopwords}
use Rattle.fts_words.specs.Order.{is_among}
use Rattle.fts_stopwords.specs.StopSet.{words_of}
use Rattle.fts_stopwords.specs.declared.StopSet.{StopSet}
use Rattle.fts_stopwords.specs.declared.StopSet.TheVariants.{Empty, Default}

-- a listed word is an element of the list
contains_listed : (words : List (List ℕ)) (word : List ℕ) → IsTrue (is_among words word) → Contains words word
contains_listed [] word h = absurd (false≢true h)
contains_listed (w ∷ ws) word h =
    ⊎_elim (λ here. (0, omega arith, (bytes_eq-Decides w word).0 here))
    (λ later. let found : Contains ws word = contains_listed ws word later in (suc found.0, omega (arith, found.1), found.2))
    (or_cases (bytes_eq w word) _ h)

-- an element of the list is listed
listed_contained : (words : List (List ℕ)) (word : List ℕ) → Contains words word → IsTrue (is_among words word)
listed_contained [] word h = absurd (omega (arith, h.1))
listed_contained (w ∷ ws) word (zero, less, e) = let here : bytes_eq w word ≡ true = (bytes_eq-Decides w word).1 e in rw here refl
listed_contained (w ∷ ws) word (suc k, less, e) =
    let rest : is_among ws word ≡ true = listed_contained ws word (k, omega arith, e) in
    ⊎_elim (λ (here : bytes_eq w word ≡ true). rw here refl) (λ (other : bytes_eq w word ≡ false). rw other rest) (cases_Bool (bytes_eq w word))

pub listed_iff_contains : (words : List (List ℕ)) (word : List ℕ) → IsTrue (is_among words word) ↔ Contains words word
listed_iff_contains words word = (contains_listed words word, listed_contained words word)

-- a word of lower-case letters
abbrev is_lower : List ℕ → Bool
is_lower word = bytes_eq (lowered word) word

all_lower : (words : List (List ℕ)) (word : List ℕ) → list_all is_lower words ≡ true → is_among words word ≡ true → is_lower word ≡ true
all_lower [] word all h = absurd (false≢true h)
all_lower (w ∷ ws) word all h =
    let parts = and_parts (is_lower w) (list_all is_lower ws) all in
    ⊎_elim
    (λ (here : bytes_eq w word ≡ true). subst (λ (x : List ℕ). is_lower x ≡ true) ((bytes_eq-Decides w word).0 here) parts.0)
    (λ (later : is_among ws word ≡ true). all_lower ws word parts.1 later)
    (or_cases (bytes_eq w word) _ h)

words_are_lower : (set : StopSet) → list_all is_lower (words_of set) ≡ true
unfolding default_stopwords
words_are_lower Empty = refl
words_are_lower Default = refl

-- a word of a set is lowered
listed_is_lower : (set : StopSet) (word : List ℕ) → is_among (words_of set) word ≡ true → lowered word ≡ word
listed_is_lower set word h = (bytes_eq-Decides (lowered word) word).0 (all_lower (words_of set) word (words_are_lower set) h)

module _ (set : StopSet) (word : List ℕ) where
  -- a word that is one of a set once it is lowered is in the set just if it is lowered
  pub listed_if_lower : (is_low : Bool) → is_among (words_of set) (lowered word) ≡ true → (IsTrue is_low ↔ (lowered word ≡ word)) → is_low ≡ is_among (words_of set) word
  listed_if_lower true listed low = sym (ap (is_among (words_of set)) (sym (low.0 refl)) ∙ listed)
  listed_if_lower false listed low =
      ⊎_elim (λ (h : is_among (words_of set) word ≡ true). low.1 (listed_is_lower set word h) ∙ sym h) (λ (h : is_among (words_of set) word ≡ false). sym h)
      (cases_Bool (is_among (words_of set) word))

  pub not_listed : is_among (words_of set) (lowered word) ≡ false → false ≡ is_among (words_of set) word
  not_listed other =
      ⊎_elim (λ (h : is_among (words_of set) word ≡ true). sym other ∙ ap (is_among (words_of set)) (listed_is_lower set word h)) (λ (h : is_among (words_of set) word ≡ false). sym h)
      (cases_Bool (is_among (words_of set) word))

pub lowered_at : (word : List ℕ) (i : ℕ) → i < length word → get_or (lowered word) i 0 ≡ to_ascii_lowercase (get_or word i 0)
lowered_at word i within = get_or-map to_ascii_lowercase word i 0 0 within

-- two tests of whether two words are the same agree
pub tests_agree : (b : Bool) (v w : List ℕ) → (IsTrue b ↔ (v ≡ w)) → b ≡ bytes_eq v w
tests_agree b v w (found, told) =
    ⊎_elim (λ (yes : b ≡ true). yes ∙ sym ((bytes_eq-Decides v w).1 (found yes)))
    (λ (no : b ≡ false).
    no ∙ ⊎_elim (λ (same : bytes_eq v w ≡ true). absurd (false≢true (sym no ∙ told ((bytes_eq-Decides v w).0 same)))) (λ (other : bytes_eq v w ≡ false). sym other) (cases_Bool (bytes_eq v w)))
    (cases_Bool b)
