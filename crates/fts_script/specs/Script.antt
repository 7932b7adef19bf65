-- The lines that a script keeps.
use Rattle.std.specs.Prelude.{List, map}
use Rattle.fts_io.specs.Text.{Line, whole, too_long}
use Rattle.fts_script.specs.declared.lines.Script.{Script}
use Rattle.fts_script.specs.declared.lines.ScriptLine.{ScriptLine}
use Rattle.fts_script.specs.declared.lines.ScriptLine.TheVariants as kept

-- the line that is kept so
abbrev pub line_of : ScriptLine → Line
line_of (kept.Whole bytes) = whole bytes.items
line_of kept.TooLong = too_long

-- the lines of a script
abbrev pub lines_in : Script → List Line
lines_in script = map line_of script.lines.items
