-- A script that is read to its end, or is too long.
use Rattle.std.specs.Prelude.{◌≡◌, ◌⊎◌, ◌≤◌, ◌<◌, ◌+◌, ◌^◌, ℕ, List, [], ◌∷◌, length, Result, Ok, Err}
use Rattle.fts_io.specs.Text.{Line, feeds, lines_of}
use Rattle.fts_io.specs.Reading.{OnlyBegun}
use Rattle.fts_script.specs.Script.{line_of}
use Rattle.fts_script.specs.declared.lines.ScriptLine.{ScriptLine}
use Rattle.fts_script.specs.declared.reading.Stop.{Stop}
use Rattle.fts_script.specs.declared.reading.Stop.TheVariants as stop

-- more than 2^40 bytes were taken. The lines are those that end before the last byte that was taken
pub record PassesBytes (lines bytes : ℕ) (script left : List ℕ) : Type 0 where
  pub passed : 2 ^ 40 < bytes
  pub last : ℕ
  pub ended : feeds script ≡ lines + feeds (last ∷ left)

-- the script has a line more than 100,000, and was read up to it, within its 2^40 bytes
pub record PassesLines (lines bytes : ℕ) (script : List ℕ) : Type 0 where
  pub passed : lines ≡ 100001
  pub are : lines ≤ length (lines_of script)
  pub within : bytes ≤ 2 ^ 40

-- the script is too long: so many lines and bytes of it were taken, and the rest is left
pub record IsTooLong (lines bytes : ℕ) (script left : List ℕ) : Type 0 where
  pub taken : bytes + length left ≡ length script
  pub why : PassesBytes lines bytes script left ⊎ PassesLines lines bytes script

-- the line was the first of those ahead; or none is ahead, or they are as they were
abbrev pub TakesLine : Result ScriptLine Stop → List Line → List Line → Type 0
TakesLine (Ok line) ahead behind = ahead ≡ line_of line ∷ behind
TakesLine (Err stop.End) ahead behind = ahead ≡ []
TakesLine (Err why) ahead behind = behind ≡ ahead

-- what it leaves of the lines ahead that end with an LF: it was one of them, or none is behind it
abbrev pub LeavesEnded : Result ScriptLine Stop → List Line → ℕ → ℕ → Type 0
LeavesEnded (Ok line) behind before after = (before ≡ after + 1) ⊎ (behind ≡ [])
LeavesEnded (Err why) behind before after = before ≡ after

-- the reader is past the longest text: of the lines ahead none was taken whole
abbrev pub IsPast : List Line → ℕ → List ℕ → Type 0
IsPast ahead ended left = (byte : ℕ) × OnlyBegun ahead ended (byte ∷ left)

-- what it says of the lines given, before it and after it, and of the bytes taken
abbrev pub Tallies : Result ScriptLine Stop → ℕ → ℕ → ℕ → Type 0
Tallies (Ok line) before after taken = (after ≡ before + 1) × (taken ≤ 2 ^ 40)
Tallies (Err (stop.Endless lines bytes)) before after taken = (lines ≡ before) × (bytes ≡ taken) × (2 ^ 40 < taken)
Tallies (Err why) before after taken = taken ≤ 2 ^ 40
