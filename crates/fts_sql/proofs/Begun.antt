use Rattle.std.proofs.Common.{◌≡◌, ℕ, ◌+◌, ◌-◌, ◌≤◌, List, [], ◌∷◌, ◌++◌, length, refl, sym, ap, ◌∙◌, subst, arith}
use Rattle.std.specs.List.{list_all}
use Rattle.std.proofs.lemmas.List.{append-nil, append_assoc, length-append}
use Rattle.fts_sql.specs.Token.{Token, is_blank, IsFront, IsToken}
use Rattle.fts_sql.specs.Line.{Placed, placed, Ending, whole, unreadable, Reads, IsUnreadable}

-- a line is these tokens, and then those of what is left of it
abbrev pub IsBegun : List ℕ → List ℕ → List Placed → Type 0
IsBegun line rest done =
    (place : ℕ) (more : List Placed) (ending : Ending) → place + length rest ≡ length line + 1
    → Reads place rest more ending → Reads 1 line (done ++ more) ending

parts : (rest blanks piece : List ℕ) → IsFront is_blank rest blanks piece → length rest ≡ length blanks + length piece
parts rest blanks piece front = ap length front.cut ∙ length-append blanks piece

no_bytes : (bytes : List ℕ) → length bytes ≡ 0 → bytes ≡ []
no_bytes [] e = refl
no_bytes (b ∷ bytes) e = absurd (omega (arith, e))

-- where only blanks are left, the line ends
pub ends_whole : (line rest blanks piece : List ℕ) (done : List Placed) (at : ℕ) → length rest ≤ length line → IsBegun line rest done
    → IsFront is_blank rest blanks piece → length piece ≡ 0 → at + length piece ≡ length line + 1
    → Reads 1 line done (whole at)
ends_whole line rest blanks piece done at within begun front none place =
    let bare : rest ≡ blanks = front.cut ∙ ap (λ s. blanks ++ s) (no_bytes piece none) ∙ append-nil blanks in
    let here : at ≡ (length line + 1 - length rest) + length rest = omega (arith, within, none, place) in
    subst (λ tokens. Reads 1 line tokens (whole at)) (append-nil done)
    (begun (length line + 1 - length rest) [] (whole at) (omega (arith, within)) (ap (list_all is_blank) bare ∙ front.passes, here))

-- where something is no token, the tokens end there
pub ends_unreadable : (line rest blanks piece : List ℕ) (done : List Placed) (at offset : ℕ) → length rest ≤ length line
    → IsBegun line rest done → IsFront is_blank rest blanks piece → IsUnreadable piece offset
    → at + length piece ≡ length line + 1 → Reads 1 line done (unreadable (at + offset))
ends_unreadable line rest blanks piece done at offset within begun front bad place =
    let size = parts rest blanks piece front in
    let here : at + offset ≡ (length line + 1 - length rest) + length blanks + offset = omega (arith, within, size, place) in
    subst (λ tokens. Reads 1 line tokens (unreadable (at + offset))) (append-nil done)
    (begun (length line + 1 - length rest) [] (unreadable (at + offset)) (omega (arith, within))
    (blanks, piece, offset, front.cut, front.passes, bad, here))

-- one token more
pub begun_more : (line rest blanks piece after : List ℕ) (done : List Placed) (at : ℕ) (token : Token) → length rest ≤ length line
    → IsBegun line rest done → IsFront is_blank rest blanks piece
    → ((spelling : List ℕ) × IsToken token piece spelling after) → at + length piece ≡ length line + 1
    → IsBegun line after (done ++ placed at token ∷ [])
begun_more line rest blanks piece after done at token within begun front is here = λ place more ending e reads.
    let size = parts rest blanks piece front in
    let size2 = ap length is.1.cut ∙ length-append is.0 after in
    let first : ℕ = length line + 1 - length rest in
    let next : place ≡ first + length blanks + length is.0 = omega (arith, within, size, size2, e) in
    let first_at : at ≡ first + length blanks = omega (arith, within, size, here) in
    let whole_rest : Reads 1 line (done ++ (placed at token ∷ more)) ending =
    begun first (placed at token ∷ more) ending (omega (arith, within))
    (blanks, piece, is.0, after, front.cut, front.passes, is.1, first_at, subst (λ p. Reads p after more ending) next reads) in
    subst (λ tokens. Reads 1 line tokens ending) (sym (append_assoc done (placed at token ∷ []) more)) whole_rest

-- what is left is no longer than the line
pub shorter : (line rest blanks piece spelling after : List ℕ) (token : Token) → length rest ≤ length line
    → IsFront is_blank rest blanks piece → IsToken token piece spelling after → length after ≤ length line
shorter line rest blanks piece spelling after token within front is =
    let size = parts rest blanks piece front in
    let size2 = ap length is.cut ∙ length-append spelling after in
    omega (arith, within, size, size2)
