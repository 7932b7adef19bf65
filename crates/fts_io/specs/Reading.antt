use Rattle.std.specs.Prelude.{◌≡◌, ◌⊎◌, ℕ, ◌+◌, ◌-◌, ◌*◌, ◌^◌, ◌<◌, ◌≤◌, min, Bool, true, false, List, [], ◌∷◌, ◌++◌}
use Rattle.std.specs.Prelude.{length, map}
use Rattle.fts_io.specs.Text.{Line, onto, cut, lines_of, sorted, too_long, whole, feeds}
use Rattle.fts_io.specs.declared.lines.Lines.{Lines}
use Rattle.fts_io.specs.declared.lines.Filled.{Filled}
use Rattle.fts_io.specs.declared.lines.Filled.TheVariants as filled
use Rattle.fts_io.specs.declared.lines.Next.{Next}
use Rattle.fts_io.specs.declared.lines.Next.TheVariants as next

-- a line that was begun, before the lines of what follows
abbrev pub glue : List ℕ → List (List ℕ) → List (List ℕ)
glue [] lines = lines
glue (byte ∷ begun) lines = onto (byte ∷ begun) lines

-- the lines of a text of which some bytes of the first line were taken before
abbrev pub lines_from : List ℕ → List ℕ → List Line
lines_from begun text = map sorted (glue begun (cut text))

-- the lines that are still to come, where the source has these bytes left
abbrev pub ahead : Lines → List ℕ → List Line
ahead lines left = lines_from lines.line.items (lines.buffer ++ left)

-- how many of these end with an LF
abbrev pub ended_ahead : Lines → List ℕ → ℕ
ended_ahead lines left = feeds (lines.buffer ++ left)

-- how many bytes were taken from the source
abbrev pub taken_by : Lines → ℕ
taken_by lines = lines.taken

-- how many lines were given, the ones too long too
abbrev pub given_by : Lines → ℕ
given_by lines = lines.given

-- falls with each line that is given, so that a loop over the lines ends
abbrev pub work_left : Lines → ℕ
work_left lines = 4 * (2 ^ 40 + 1 - lines.taken) + 2 * length lines.buffer + min 1 (length lines.line.items)

-- what an answer says of the lines that were to come before it and after it: memory runs out for one of these alone
abbrev pub Gives : Next → List Line → List Line → Type 0
Gives (next.Line bytes) before after = before ≡ whole bytes.items ∷ after
Gives (next.TooLong number) before after = before ≡ too_long ∷ after
Gives next.End before after = (before ≡ []) × (after ≡ [])
Gives (next.Endless bytes) before after = after ≡ before
Gives next.ReadFault before after = after ≡ before
Gives next.NoMemory before after = (after ≡ before) × (after ≡ [] → ⊥)

-- what an answer says of the lines to come that end with an LF, before it and after it, by the lines after it: a line
-- that is given is one of them, or there is none behind it
abbrev pub Ends : Next → List Line → ℕ → ℕ → Type 0
Ends (next.Line bytes) behind before after = (before ≡ after + 1) ⊎ (behind ≡ [])
Ends (next.TooLong number) behind before after = (before ≡ after + 1) ⊎ (behind ≡ [])
Ends next.End behind before after = before ≡ after
Ends (next.Endless bytes) behind before after = before ≡ after
Ends next.ReadFault behind before after = before ≡ after
Ends next.NoMemory behind before after = before ≡ after

-- what an answer says of the count of lines given: each line is counted, and one too long carries its number
abbrev pub Counts : Next → ℕ → ℕ → Type 0
Counts (next.Line bytes) before after = after ≡ before + 1
Counts (next.TooLong number) before after = (after ≡ before + 1) × (number ≡ after)
Counts next.End before after = after ≡ before
Counts (next.Endless bytes) before after = after ≡ before
Counts next.ReadFault before after = after ≡ before
Counts next.NoMemory before after = after ≡ before

-- the answer is a line, whole or too long
abbrev pub IsLine : Next → Type 0
IsLine (next.Line bytes) = Unit {0}
IsLine (next.TooLong number) = Unit {0}
IsLine next.End = ⊥
IsLine (next.Endless bytes) = ⊥
IsLine next.ReadFault = ⊥
IsLine next.NoMemory = ⊥

-- Endless carries the bytes taken, and is the answer exactly where they are more than a text has
abbrev pub Measures : Next → ℕ → Type 0
Measures (next.Line bytes) taken = taken ≤ 2 ^ 40
Measures (next.TooLong number) taken = taken ≤ 2 ^ 40
Measures next.End taken = taken ≤ 2 ^ 40
Measures (next.Endless bytes) taken = (bytes ≡ taken) × (2 ^ 40 < taken)
Measures next.ReadFault taken = taken ≤ 2 ^ 40
Measures next.NoMemory taken = taken ≤ 2 ^ 40

-- what an answer says of the reader's counts: of the lines that were given, of the bytes that were taken, and that a
-- line brings the reading nearer to its end
pub record Accounts (answer : Next) (old new : Lines) : Type 0 where
  pub numbers : Counts answer (given_by old) (given_by new)
  pub endless : Measures answer (taken_by new)
  pub progress : IsLine answer → work_left new < work_left old

-- the answer is Endless with these bytes taken
abbrev pub IsEndless : Next → ℕ → Type 0
IsEndless answer bytes = answer ≡ next.Endless bytes

-- of these lines, of which so many end with an LF, no whole one was taken: they are those of what is left, behind what
-- was begun
abbrev pub OnlyBegun : List Line → ℕ → List ℕ → Type 0
OnlyBegun lines ended left = (begun : List ℕ) × (lines ≡ lines_from begun left) × (ended ≡ feeds left)

-- what is known once the buffer was filled
abbrev pub HasFilled : Filled → Lines → Type 0
HasFilled filled.Bytes lines = (0 < length lines.buffer) × (lines.taken ≤ 2 ^ 40)
HasFilled filled.Dry lines = (lines.buffer ≡ []) × (lines.taken ≤ 2 ^ 40)
HasFilled filled.Endless lines = 2 ^ 40 < lines.taken
HasFilled filled.Fault lines = (lines.buffer ≡ []) × (lines.taken ≤ 2 ^ 40)

-- a piece of the buffer was moved to the line begun, which it made whole, by an LF, or not
abbrev pub TakesPiece : Bool → Lines → Lines → List ℕ → Type 0
TakesPiece true old new left = (ahead old left ≡ sorted new.line.items ∷ lines_of (new.buffer ++ left))
    × (ended_ahead old left ≡ ended_ahead new left + 1)
TakesPiece false old new left = (ahead new left ≡ ahead old left) × (new.buffer ≡ [])
    × (ended_ahead old left ≡ ended_ahead new left)
