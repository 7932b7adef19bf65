use Rattle.std.proofs.Common.{◌≡◌, ℕ, ◌==◌, true, false, List, [], ◌∷◌, ◌++◌, length, refl, sym, ap, ◌∙◌, inl, inr}
use Rattle.std.proofs.lemmas.Bool.{and_parts, both_ways, eqb-true}
use Rattle.std.proofs.lemmas.List.{append-nil}
use Rattle.fts_sql.specs.Token.{is_blank, IsFront}
use Rattle.fts_sql.specs.Line.{IsBlank}
use Rattle.fts_sql.specs.Reader.{is_comment}
use Rattle.fts_sql.proofs.Fronts.{same_cut, one_front}

pub blank_comment : (line blanks text : List ℕ) → IsFront is_blank line blanks text → is_comment text ≡ true → IsBlank line
blank_comment line blanks [] front is = absurd (both_ways false refl is)
blank_comment line blanks (b ∷ []) front is = absurd (both_ways false refl is)
blank_comment line blanks (b ∷ c ∷ text) front is =
    let parts = and_parts (b == 45) (c == 45) is in
    inr (
      blanks,
      text,
      front.passes,
      front.cut ∙ ap (λ x. blanks ++ x ∷ c ∷ text) (eqb-true b 45 parts.0) ∙ ap (λ x. blanks ++ 45 ∷ x ∷ text) (eqb-true c 45 parts.1),
    )

pub not_blank : (line blanks text : List ℕ) → IsFront is_blank line blanks text → (length text ≡ 0 → ⊥) → is_comment text ≡ false
    → IsBlank line → ⊥
not_blank line blanks text front some plain is =
    elim is [
      | inl all ↦ some (let same = same_cut is_blank line [] blanks text all refl front.passes front.ends (append-nil line ∙ front.cut) in ap length (sym same.1))
      | inr comment ↦ (
          let same = one_front is_blank line blanks text comment.0 (45 ∷ 45 ∷ comment.1) front comment.3 comment.2 refl in
          both_ways (is_comment text) plain (ap is_comment same.1))
    ]
