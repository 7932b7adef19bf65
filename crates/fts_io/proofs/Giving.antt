use Rattle.std.proofs.Common.{◌≡◌, ℕ, ◌+◌, List, [], ◌∷◌, ◌++◌, length, refl, ap, sym, subst, ◌∙◌, inl, arith}
use Rattle.fts_io.specs.Text as text
use Rattle.fts_io.specs.Reading.{Gives, Ends, IsLine, lines_from}
use Rattle.fts_io.specs.declared.lines.Next.{Next}
use Rattle.fts_io.specs.declared.lines.Next.TheVariants.{Line, End, TooLong, Endless, ReadFault, NoMemory}

-- filling the buffer leaves the lines that are to come
pub lines_from-filled : (line line' buffer buffer' left left' : List ℕ) → line' ≡ line → buffer ++ left ≡ buffer' ++ left'
    → lines_from line (buffer ++ left) ≡ lines_from line' (buffer' ++ left')
lines_from-filled line line' buffer buffer' left left' same moved =
    ap (λ l. lines_from l (buffer ++ left)) (sym same) ∙ ap (lines_from line') moved

pub Gives-along : (answer : Next) (before before' after after' : List text.Line) → before' ≡ before → after' ≡ after
    → Gives answer before after → Gives answer before' after'
Gives-along answer before before' after after' one two gives =
    let P : List text.Line → Type 0 = λ b. Gives answer b after in
    let Q : List text.Line → Type 0 = λ a. Gives answer before' a in
    subst Q (sym two) (subst P (sym one) gives)

-- a line that is given is one that ends with an LF
pub ends_one : (answer : Next) (behind : List text.Line) (before after : ℕ) → IsLine answer → before ≡ after + 1 → Ends answer behind before after
ends_one (Line bytes) behind before after is one = inl one
ends_one (TooLong number) behind before after is one = inl one
ends_one End behind before after is one = absurd is
ends_one (Endless bytes) behind before after is one = absurd is
ends_one ReadFault behind before after is one = absurd is
ends_one NoMemory behind before after is one = absurd is

pub single : (buffer : List ℕ) → length buffer ≡ 1 → (byte : ℕ) × (buffer ≡ byte ∷ [])
single [] h = absurd (omega (arith, h))
single (byte ∷ []) h = (byte, refl)
single (byte ∷ next ∷ more) h = absurd (omega (arith, h))
