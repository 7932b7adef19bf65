-- A query in which phrases become spaces, one after another.
use Rattle.std.proofs.Common.{◌≡◌, ℕ, zero, suc, ◌+◌, ◌-◌, ◌≤◌, List, [], ◌∷◌, ◌++◌, length, take, drop, replicate, set, sym, ap, ap₂, ◌∙◌, arith, append_assoc}
use Rattle.std.proofs.lemmas.List.{take-append-drop, take_more, take-set-le, drop-set-lt, get_or-set_same, length-set}
use Rattle.fts_words.specs.declared.span.Span.{Span}
use Rattle.fts_meaning.specs.Plain.{with_spaces, phrase_end, without}

-- so many spaces, between what stands before and behind them
pub filled : (text : List ℕ) (from n : ℕ) → from + n ≤ length text → with_spaces text from n ≡ take from text ++ (replicate n 32 ++ drop (from + n) text)
unfolding with_spaces
filled text from zero within = sym (take-append-drop from text) ∙ ap (λ (i : ℕ). take from text ++ drop i text) (omega arith)
filled text from (suc n) within =
    let more : List ℕ = set text from 32 in
    let front : take (from + 1) more ≡ take from text ++ 32 ∷ [] =
    take_more more from 0 (omega (arith, length-set text from 32, within))
    ∙ ap₂ (λ (l : List ℕ) (b : ℕ). l ++ b ∷ []) (take-set-le from text from 32 (omega arith)) (get_or-set_same text from 32 0 (omega (arith, within))) in
    let back : drop (from + 1 + n) more ≡ drop (from + suc n) text = drop-set-lt (from + 1 + n) text from 32 (omega arith) ∙ ap (λ (i : ℕ). drop i text) (omega arith) in
    filled more (from + 1) n (omega (arith, length-set text from 32, within))
    ∙ ap₂ (λ (f b : List ℕ). f ++ (replicate n 32 ++ b)) front back
    ∙ append_assoc (take from text) (32 ∷ []) (replicate n 32 ++ drop (from + suc n) text)

pub without_more : (query text : List ℕ) (phrase : Span) (left rest : List Span) → left ≡ phrase ∷ rest → without query left text ≡ without query rest (with_spaces text (phrase.from + 1) (phrase_end query phrase.to - (phrase.from + 1)))
unfolding without
without_more query text phrase left rest split = ap (λ (ps : List Span). without query ps text) split

pub without_none : (query text : List ℕ) (left : List Span) → left ≡ [] → without query left text ≡ text
unfolding without
without_none query text left none = ap (λ (ps : List Span). without query ps text) none
