use Rattle.std.proofs.Common.{◌≡◌, ℕ, ◌+◌, not, true, false, List, [], ◌∷◌, ◌++◌, length, refl, sym, ap, ◌∙◌, subst, arith}
use Rattle.std.specs.List.{list_all}
use Rattle.std.proofs.lemmas.Bool.{both_ways, not-true}
use Rattle.std.proofs.lemmas.List.{append-nil}
use Rattle.fts_sql.specs.Token.{Token, is_blank, begins_with, IsToken}
use Rattle.fts_sql.specs.Line.{Placed, placed, Ending, whole, unreadable, Reads, IsUnreadable}
use Rattle.fts_sql.proofs.Fronts.{same_cut}
use Rattle.fts_sql.proofs.Tokens.{starts, same_token}
use Rattle.fts_sql.proofs.Faults.{kinds_of_fault, fault_starts, token_or_fault, one_offset}

-- bytes that begin with no blank
abbrev pub IsPiece : List ℕ → Type 0
IsPiece bytes = begins_with (λ b. not (is_blank b)) bytes ≡ true

pub no_blank : (bytes : List ℕ) → IsPiece bytes → begins_with is_blank bytes ≡ false
no_blank [] h = absurd (both_ways false refl h)
no_blank (b ∷ bytes) h = not-true (is_blank b) h

pub token_piece : (token : Token) (bytes spelling rest : List ℕ) → IsToken token bytes spelling rest → IsPiece bytes
token_piece token bytes spelling rest is = ap (begins_with (λ b. not (is_blank b))) is.cut ∙ starts token spelling rest is.spelled

pub fault_piece : (bytes : List ℕ) (offset : ℕ) → IsUnreadable bytes offset → IsPiece bytes
fault_piece bytes offset is = fault_starts bytes offset (kinds_of_fault bytes offset is)

-- what stands behind blanks is determined
pub one_piece : (bytes a b c d : List ℕ) → bytes ≡ a ++ b → list_all is_blank a ≡ true → IsPiece b
    → bytes ≡ c ++ d → list_all is_blank c ≡ true → IsPiece d → (a ≡ c) × (b ≡ d)
one_piece bytes a b c d e blank piece f blank2 piece2 =
    same_cut is_blank a b c d blank (no_blank b piece) blank2 (no_blank d piece2) (sym e ∙ f)

-- blanks alone have nothing behind them
pub only_blanks : (bytes a b : List ℕ) → list_all is_blank bytes ≡ true → bytes ≡ a ++ b → list_all is_blank a ≡ true → IsPiece b → ⊥
only_blanks bytes a b blank e blank2 piece =
    let same = same_cut is_blank bytes [] a b blank refl blank2 (no_blank b piece) (append-nil bytes ∙ e) in
    both_ways false refl (ap (begins_with (λ b. not (is_blank b))) same.1 ∙ piece)

-- the tokens of bytes, their places and their end are determined
pub one_reading : (place : ℕ) (bytes : List ℕ) (one other : List Placed) (end last : Ending)
    → Reads place bytes one end → Reads place bytes other last → (one ≡ other) × (end ≡ last)
one_reading place bytes [] [] (whole a) (whole b) r q = (refl, ap whole (r.1 ∙ sym q.1))
one_reading place bytes [] [] (whole a) (unreadable b) r q =
    absurd (only_blanks bytes q.0 q.1 r.0 q.3 q.4 (fault_piece q.1 q.2 q.5))
one_reading place bytes [] [] (unreadable a) (whole b) r q =
    absurd (only_blanks bytes r.0 r.1 q.0 r.3 r.4 (fault_piece r.1 r.2 r.5))
one_reading place bytes [] [] (unreadable a) (unreadable b) r q =
    let same = one_piece bytes r.0 r.1 q.0 q.1 r.3 r.4 (fault_piece r.1 r.2 r.5) q.3 q.4 (fault_piece q.1 q.2 q.5) in
    let offset = one_offset q.1 r.2 q.2 (subst (λ p. IsUnreadable p r.2) same.1 r.5) q.5 in
    let blanks : length r.0 ≡ length q.0 = ap length same.0 in
    let at : a ≡ b = omega (arith, r.6, q.6, offset, blanks) in
    (refl, ap unreadable at)
one_reading place bytes [] (placed b u ∷ other) (whole a) last r q =
    absurd (only_blanks bytes q.0 q.1 r.0 q.4 q.5 (token_piece u q.1 q.2 q.3 q.6))
one_reading place bytes [] (placed b u ∷ other) (unreadable a) last r q =
    let same = one_piece bytes r.0 r.1 q.0 q.1 r.3 r.4 (fault_piece r.1 r.2 r.5) q.4 q.5 (token_piece u q.1 q.2 q.3 q.6) in
    absurd (token_or_fault u q.1 q.2 q.3 r.2 q.6 (subst (λ p. IsUnreadable p r.2) same.1 r.5))
one_reading place bytes (placed a t ∷ one) [] end (whole b) r q =
    absurd (only_blanks bytes r.0 r.1 q.0 r.4 r.5 (token_piece t r.1 r.2 r.3 r.6))
one_reading place bytes (placed a t ∷ one) [] end (unreadable b) r q =
    let same = one_piece bytes q.0 q.1 r.0 r.1 q.3 q.4 (fault_piece q.1 q.2 q.5) r.4 r.5 (token_piece t r.1 r.2 r.3 r.6) in
    absurd (token_or_fault t r.1 r.2 r.3 q.2 r.6 (subst (λ p. IsUnreadable p q.2) same.1 q.5))
one_reading place bytes (placed a t ∷ one) (placed b u ∷ other) end last r q =
    let same = one_piece bytes r.0 r.1 q.0 q.1 r.4 r.5 (token_piece t r.1 r.2 r.3 r.6) q.4 q.5 (token_piece u q.1 q.2 q.3 q.6) in
    let tokens = same_token t u q.1 r.2 q.2 r.3 q.3 (subst (λ p. IsToken t p r.2 r.3) same.1 r.6) q.6 in
    let blanks : length r.0 ≡ length q.0 = ap length same.0 in
    let spelt : length r.2 ≡ length q.2 = ap length tokens.1.0 in
    let at : a ≡ b = omega (arith, r.7, q.7, blanks) in
    let next : place + length r.0 + length r.2 ≡ place + length q.0 + length q.2 = omega (arith, blanks, spelt) in
    let more = one_reading (place + length q.0 + length q.2) q.3 one other end last
    (subst (λ p. Reads p q.3 one end) next (subst (λ s. Reads (place + length r.0 + length r.2) s one end) tokens.1.1 r.8)) q.8 in (
      (let head : placed a t ≡ placed b u = ap (λ n. placed n t) at ∙ ap (placed b) tokens.0 in
          ap (λ p. p ∷ one) head ∙ ap (λ ps. placed b u ∷ ps) more.0),
      more.1,
    )
