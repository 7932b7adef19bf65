-- Names of columns are compared one after another.
use Rattle.std.proofs.Common.{◌≡◌, ℕ, List, [], ◌∷◌, refl, ap, ◌∙◌, length, arith}
use Rattle.std.specs.Prelude.{Bool, true, false, ◌&&◌}
use Rattle.std.specs.Str.{str_eq_ignore_ascii_case}
use Rattle.fts_sessions.specs.Table.{are_names}

pub and_false : (b : Bool) → (b && false) ≡ false
and_false true = refl
and_false false = refl

-- as many names as are wanted, or they are not those
pub other_count : (wanted names : List (List ℕ)) → (length names ≡ length wanted → ⊥) → are_names wanted names ≡ false
other_count [] [] other = absurd (other refl)
other_count [] (name ∷ names) other = refl
other_count (first ∷ wanted) [] other = refl
other_count (first ∷ wanted) (name ∷ names) other =
    ap (λ (b : Bool). str_eq_ignore_ascii_case name first && b) (other_count wanted names (λ same. other (omega (arith, same))))
    ∙ and_false (str_eq_ignore_ascii_case name first)
