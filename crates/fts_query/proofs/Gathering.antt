-- The words of a text, one after another.
use Rattle.std.proofs.Common.{◌≡◌, ℕ, ◌≤◌, List, [], ◌∷◌, ◌++◌, length, map, All, refl, sym, subst, arith, append_assoc}
use Rattle.std.proofs.lemmas.List.Elements.{All-head, All-tail, All-weaker}
use Rattle.fts_words.specs.declared.span.Span.{Span}
use Rattle.fts_words.specs.Byte.{lowered}
use Rattle.fts_words.specs.Word.{IsRawWord}
use Rattle.fts_words.specs.RawWords.{raw_words, bytes_of}
use Rattle.fts_words.proofs.WordLemmas.{raw_words_each, raw_words_within}
use Rattle.fts_meaning.specs.Token.{words_in}

abbrev LiesWithin : List ℕ → Span → Type 0
LiesWithin text span = (span.from ≤ span.to) × (span.to ≤ length text)

-- these words, and then those of these spans, are the words of the text
pub record IsGathered (text : List ℕ) (words : List (List ℕ)) (left : List Span) : Type 0 where
  pub same : words ++ map (λ span. lowered (bytes_of text span)) left ≡ words_in text
  pub within : All (λ span. (span.from ≤ span.to) × (span.to ≤ length text)) left

pub gathered_first : (text : List ℕ) (words : List (List ℕ)) (left : List Span) → words ≡ [] → left ≡ raw_words text → IsGathered text words left
unfolding words_in
gathered_first text words left none all = record {
  same = rw (none, all) refl;
  within = subst (All (LiesWithin text)) (sym all) (All-weaker (λ (w : Span). IsRawWord text w.from w.to) (LiesWithin text) (λ w word. let some = word.nonempty in (omega arith, raw_words_within text w.from w.to word)) (raw_words text) (raw_words_each text));
}

pub gathered_more : (text : List ℕ) (words more : List (List ℕ)) (span : Span) (left rest : List Span) → IsGathered text words left → left ≡ span ∷ rest → more ≡ words ++ lowered (bytes_of text span) ∷ [] → IsGathered text more rest
gathered_more text words more span left rest gathered split added =
    let here : IsGathered text words (span ∷ rest) = subst (IsGathered text words) split gathered in
    record {
      same = rw (added, append_assoc) here.same;
      within = All-tail (LiesWithin text) span rest here.within;
    }

pub gathered_span : (text : List ℕ) (words : List (List ℕ)) (span : Span) (left rest : List Span) → IsGathered text words left → left ≡ span ∷ rest → (span.from ≤ span.to) × (span.to ≤ length text)
gathered_span text words span left rest gathered split =
    let here : IsGathered text words (span ∷ rest) = subst (IsGathered text words) split gathered in
    All-head (LiesWithin text) span rest here.within
