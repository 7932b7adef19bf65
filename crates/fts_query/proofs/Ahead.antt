-- The raw words of a text, met place by place.
use Rattle.std.proofs.Common.{◌≡◌, ◌≢◌, ℕ, zero, suc, ◌+◌, ◌-◌, ◌<◌, ◌≤◌, Bool, true, false, cond, List, [], ◌∷◌, length, map, filter, drop, get_or, Option, None, Some, refl, sym, ap, ◌∙◌, arith}
use Rattle.std.specs.List.{range_with_len}
use Rattle.std.specs.Prelude.{if◌then◌else◌, MatchOption}
use Rattle.fts_words.specs.declared.span.Span.{Span}
use Rattle.fts_words.specs.Run.{starts, run_end, run_at, runs_from}
use Rattle.fts_words.specs.RawWords.{in_word, raw_words_from}
use Rattle.fts_query.specs.Ahead.{first_and, word_from}

pub some_first : (word : Span) (rest : List Span) → [] ≡ word ∷ rest → ⊥
some_first word rest e = absurd (omega (arith, ap length e))

pub same_first : (v w : Span) (vs ws : List Span) → v ∷ vs ≡ w ∷ ws → v ≡ w
same_first v w vs ws e = ap (λ (l : List Span). get_or l 0 w) e

same_rest : (v w : Span) (vs ws : List Span) → v ∷ vs ≡ w ∷ ws → vs ≡ ws
same_rest v w vs ws e = ap (λ (l : List Span). drop 1 l) e

-- what an iterator gave, before what it has yet to give
pub first_given : (given : Option Span) (before after : List Span) → MatchOption given ((before ≡ []) × (after ≡ [])) (λ word. before ≡ word ∷ after) → first_and given after ≡ before
first_given None before after h = sym h.0
first_given (Some word) before after h = sym h

kept : (f : ℕ → Span) (i : ℕ) (rest : List ℕ) (b : Bool) → map f (cond b (i ∷ rest) rest) ≡ cond b (f i ∷ map f rest) (map f rest)
kept f i rest true = refl
kept f i rest false = refl

module _ (text : List ℕ) where
  -- what a place adds to the words behind it
  step : (i : ℕ) → i < length text
      → raw_words_from text i ≡ cond (starts (in_word text) i) (run_at (in_word text) (length text) i ∷ raw_words_from text (i + 1)) (raw_words_from text (i + 1))
  unfolding runs_from
  step i within =
      let counted : length text - i ≡ suc (length text - (i + 1)) = omega arith in
      ap (λ (n : ℕ). map (run_at (in_word text) (length text)) (filter (starts (in_word text)) (range_with_len i n))) counted
      ∙ kept (run_at (in_word text) (length text)) i (filter (starts (in_word text)) (range_with_len (i + 1) (length text - (i + 1)))) (starts (in_word text) i)

  -- no word starts before them
  from_here : (n i : ℕ) (word : Span) (rest : List Span) → map (run_at (in_word text) (length text)) (filter (starts (in_word text)) (range_with_len i n)) ≡ word ∷ rest → i ≤ word.from
  from_here zero i word rest e = absurd (some_first word rest e)
  from_here (suc n) i word rest e = by (starts (in_word text) i) (from_here n (i + 1) word rest) e
    where
      later : List ℕ
      later = filter (starts (in_word text)) (range_with_len (i + 1) n)

      by : (b : Bool) → (map (run_at (in_word text) (length text)) later ≡ word ∷ rest → i + 1 ≤ word.from) → map (run_at (in_word text) (length text)) (cond b (i ∷ later) later) ≡ word ∷ rest → i ≤ word.from
      by true ih e = let first = ap (λ (w : Span). w.from) (same_first (run_at (in_word text) (length text) i) word (map (run_at (in_word text) (length text)) later) rest e) in omega (arith, first)
      by false ih e = let low = ih e in omega (arith, low)

  low_first : (i : ℕ) (word : Span) (rest : List Span) → raw_words_from text i ≡ word ∷ rest → i ≤ word.from
  unfolding runs_from
  low_first i word rest e = from_here (length text - i) i word rest e

  -- what is met at a place, and what is left
  pub record Met (i : ℕ) (given : Option Span) (left : List Span) : Type 0 where
    pub word : given ≡ word_from text i
    pub rest : left ≡ raw_words_from text (i + 1)

  module _ (i : ℕ) (within : i < length text) (ahead : List Span) (are : ahead ≡ raw_words_from text i) where
    pub none_met : ((word : Span) (rest : List Span) → ahead ≡ word ∷ rest → word.from ≢ i) → Met i None ahead
    none_met never = by (starts (in_word text) i) refl (are ∙ step i within)
      where
        by : (b : Bool) → starts (in_word text) i ≡ b → ahead ≡ cond b (run_at (in_word text) (length text) i ∷ raw_words_from text (i + 1)) (raw_words_from text (i + 1)) → Met i None ahead
        by true is e = absurd (never (run_at (in_word text) (length text) i) (raw_words_from text (i + 1)) e refl)
        by false is e = record { word = ap (λ (b : Bool). if b then Some (run_at (in_word text) (length text) i) else None) (sym is); rest = e }

    pub one_met : (word : Span) (rest : List Span) → ahead ≡ word ∷ rest → word.from ≡ i → Met i (Some word) rest
    one_met word rest split here = by (starts (in_word text) i) refl (sym split ∙ are ∙ step i within)
      where
        by : (b : Bool) → starts (in_word text) i ≡ b → word ∷ rest ≡ cond b (run_at (in_word text) (length text) i ∷ raw_words_from text (i + 1)) (raw_words_from text (i + 1)) → Met i (Some word) rest
        by true is e = record {
          word = ap Some (same_first word (run_at (in_word text) (length text) i) rest (raw_words_from text (i + 1)) e)
              ∙ ap (λ (b : Bool). if b then Some (run_at (in_word text) (length text) i) else None) (sym is);
          rest = same_rest word (run_at (in_word text) (length text) i) rest (raw_words_from text (i + 1)) e;
        }
        by false is e = absurd (omega (arith, here, low_first (i + 1) word rest (sym e)))

-- what was met there, read back
pub none_starts : (text : List ℕ) (i : ℕ) → None ≡ word_from text i → starts (in_word text) i ≡ false
none_starts text i e = by (starts (in_word text) i) e
  where
    by : (b : Bool) → None ≡ (if b then Some (run_at (in_word text) (length text) i) else None) → b ≡ false
    by true e = absurd cc
    by false e = refl

pub one_starts : (text : List ℕ) (i : ℕ) (word : Span) → Some word ≡ word_from text i → (starts (in_word text) i ≡ true) × (word ≡ run_at (in_word text) (length text) i)
one_starts text i word e = by (starts (in_word text) i) e
  where
    by : (b : Bool) → Some word ≡ (if b then Some (run_at (in_word text) (length text) i) else None) → (b ≡ true) × (word ≡ run_at (in_word text) (length text) i)
    by true e = (refl, cc)
    by false e = absurd cc

end_order : (test : ℕ → Bool) (i n : ℕ) → (i ≤ run_end test i n) × (run_end test i n ≤ i + n)
end_order test i zero = (omega arith, omega arith)
end_order test i (suc n) = by (test i) (end_order test (i + 1) n)
  where
    by : (b : Bool) → (i + 1 ≤ run_end test (i + 1) n) × (run_end test (i + 1) n ≤ i + 1 + n) → (i ≤ (if b then run_end test (i + 1) n else i)) × ((if b then run_end test (i + 1) n else i) ≤ i + suc n)
    by true ih = (omega (arith, ih.0), omega (arith, ih.1))
    by false ih = (omega arith, omega arith)

pub word_order : (text : List ℕ) (i : ℕ) (word : Span) → word ≡ run_at (in_word text) (length text) i → word.from ≤ word.to
word_order text i word is =
    let from = ap (λ (w : Span). w.from) is in
    let to = ap (λ (w : Span). w.to) is in
    omega (arith, from, to, (end_order (in_word text) i (length text - i)).0)

pub word_within : (text : List ℕ) (i : ℕ) (word : Span) → i < length text → word ≡ run_at (in_word text) (length text) i → word.to ≤ length text
word_within text i word within is =
    let to = ap (λ (w : Span). w.to) is in
    omega (arith, to, within, (end_order (in_word text) i (length text - i)).1)
