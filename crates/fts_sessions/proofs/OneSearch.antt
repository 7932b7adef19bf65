-- The text of a query is one search.
use Rattle.std.proofs.Common.{◌≡◌, ℕ, ◌+◌, List, ap, sym, ◌∙◌, ⊎_elim, arith}
use Rattle.std.proofs.lemmas.Bool.{cases_order}
use Rattle.fts_meaning.specs.Plain.{plain}
use Rattle.fts_meaning.specs.Fault.{IsFirst, IsFaulty, IsTooDeep}
use Rattle.fts_meaning.proofs.Pairing.{tree_faultless, tree_one}
use Rattle.fts_sessions.specs.Query.{Search, IsSearch, looks_for, too_long, syntax_at, too_deep_at}

-- a first place is the only one
first_one : (Kind : ℕ → Type 0) (p q : ℕ) → IsFirst Kind p → IsFirst Kind q → p ≡ q
first_one Kind p q first other =
    ⊎_elim (λ same. same)
    (λ order. ⊎_elim (λ less. absurd (other.before p less first.here)) (λ more. absurd (first.before q more other.here)) order)
    (cases_order p q)

-- and so is the place that tells it, from 1
told_one : (Kind : ℕ → Type 0) (p q a b : ℕ) → IsFirst Kind p → IsFirst Kind q → a ≡ p + 1 → b ≡ q + 1 → a ≡ b
told_one Kind p q a b first other is is' = is ∙ ap (λ (n : ℕ). n + 1) (first_one Kind p q first other) ∙ sym is'

pub one_search : (text : List ℕ) (a b : Search) → IsSearch text a → IsSearch text b → a ≡ b
one_search text (looks_for v) (looks_for w) h k = ap looks_for (tree_one text v w h.1 k.1)
one_search text (looks_for v) (too_long n) h k = absurd (omega (arith, h.0, k.0))
one_search text (looks_for v) (syntax_at b) h k = absurd (tree_faultless text v h.1 k.1.0 k.1.2.here)
one_search text (looks_for v) (too_deep_at b) h k = absurd (h.2 k.1.0 k.1.2.first.here)
one_search text (too_long n) (looks_for w) h k = absurd (omega (arith, h.0, k.0))
one_search text (too_long n) (too_long m) h k = ap too_long (h.1 ∙ sym k.1)
one_search text (too_long n) (syntax_at b) h k = absurd (omega (arith, h.0, k.0))
one_search text (too_long n) (too_deep_at b) h k = absurd (omega (arith, h.0, k.0))
one_search text (syntax_at a) (looks_for w) h k = absurd (tree_faultless text w k.1 h.1.0 h.1.2.here)
one_search text (syntax_at a) (too_long m) h k = absurd (omega (arith, h.0, k.0))
one_search text (syntax_at a) (syntax_at b) h k = ap syntax_at (told_one (IsFaulty text (plain text)) h.1.0 k.1.0 a b h.1.2 k.1.2 h.1.1 k.1.1)
one_search text (syntax_at a) (too_deep_at b) h k = absurd (k.1.2.faultless h.1.0 h.1.2.here)
one_search text (too_deep_at a) (looks_for w) h k = absurd (k.2 h.1.0 h.1.2.first.here)
one_search text (too_deep_at a) (too_long m) h k = absurd (omega (arith, h.0, k.0))
one_search text (too_deep_at a) (syntax_at b) h k = absurd (h.1.2.faultless k.1.0 k.1.2.here)
one_search text (too_deep_at a) (too_deep_at b) h k = ap too_deep_at (told_one (IsTooDeep (plain text)) h.1.0 k.1.0 a b h.1.2.first k.1.2.first h.1.1 k.1.1)
