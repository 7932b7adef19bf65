-- What `gen` does: it executes the lines of a script that is made from a number, and tells what they come to.
use Rattle.std.specs.Prelude.{◌≡◌, ℕ, true, List, [], ◌∷◌, ◌++◌, length, map, take, Result, Ok, Err}
use Rattle.fts_commits.specs.Commit.{replay}
use Rattle.fts_types.specs.declared.settings.Settings.{Settings}
use Rattle.fts_gen.specs.Script.{script_lines}
use Rattle.fts_io.specs.Text.{Line, whole}
use Rattle.fts_disk.specs.declared.disk.Disk.{Ghosts}
use Rattle.fts_engine.specs.declared.engine.Engine.{Engine}
use Rattle.fts_engine.specs.Stands.{Keeps}
use Rattle.fts_schema.specs.declared.summary.Sums.{Sums}
use Rattle.fts_steps.specs.State.{State}
use Rattle.fts_schema.specs.declared.reply.Reply.{Reply}
use Rattle.fts_schema.specs.declared.summary.Summary.{Summary}
use Rattle.fts_schema.specs.Summary.{AreSums, summary_text}
use Rattle.fts_steps.specs.Running.{Running}
use Rattle.fts_steps.specs.Step.{Sight, after_all}
use Rattle.fts_workers.specs.declared.health.Health.{Health}
use Rattle.fts_top.specs.declared.ends.Unsent.{Unsent}
use Rattle.fts_top.specs.declared.ends.Unsent.TheVariants as unsent
use Rattle.fts_top.specs.declared.generate.Played.{Played}
use Rattle.fts_sessions.specs.Transaction.{Transaction}
use Rattle.fts_sessions.specs.Execute.{Executes}
use Rattle.fts_workers.specs.Batches.{IsMetBehind}
use Rattle.fts_workers.specs.Health.{worse}
use Rattle.fts_top.specs.Run.{Sides, sides, Front}

-- these lines of a script, as a run reads them
abbrev pub as_lines : List (List ℕ) → List Line
as_lines lines = map whole lines

-- the lines of the script of a number, about the table of a database
abbrev pub script_of : Settings → ℕ → ℕ → List Line
script_of settings seed statements = as_lines (script_lines settings.columns seed statements)

-- lines from the front of a script were executed as a run executes them, and nothing was written
pub record Plays {S : Type 0} (sight : Sight S) (start : Running) (script ahead : List Line) (old new : S)
    : Type 0 where
  pub front : Front sight start true script ahead (sides [] [] old) (sides [] [] new)
  pub silent : front.text ≡ []

-- all were, and this is what they met and the sums of their replies; or memory ran out for one of them
abbrev pub IsPlayed : {S E : Type 0} → Sight S → Result Played E → Running → List Line → S → S → Type 0
IsPlayed sight (Ok played) start script old new =
    (plays : Plays sight start script [] old new) × (plays.front.met ≡ played.met)
    × AreSums plays.front.replies played.sums
IsPlayed sight (Err error) start script old new = (ahead : List Line) × Plays sight start script ahead old new

-- a line was executed in a session in which this transaction was open, and the batches were made behind it: what was
-- met and summed up so far, with this line
pub record PlaysLine {S : Type 0} (sight : Sight S) (line : Line) (before after : Played) (held left : Transaction)
    (old new : S) : Type 0 where
  pub reply : Reply
  pub middle : S
  pub executes : Executes sight line held old reply left middle
  pub now : Health
  pub behind : IsMetBehind sight reply now middle new
  pub met_is : after.met ≡ worse before.met now
  pub sums : (replies : List Reply) → AreSums replies before.sums → AreSums (replies ++ reply ∷ []) after.sums

-- what a script comes to: so many statements, what there is behind its steps, and the sums of its replies
pub record ComesTo (statements : ℕ) (running : Running) (replies : List Reply) (summary : Summary) : Type 0 where
  pub counted : summary.statements ≡ statements
  pub commits : summary.commits ≡ length running.state.commits
  pub rows : summary.rows ≡ length (replay running.state.commits).list
  pub largest : summary.largest ≡ (replay running.state.commits).largest
  pub sums : AreSums replies summary.sums

-- what an engine has behind a script, and the sums of the replies: of each state that it keeps
abbrev pub IsSummary : {D E : Type 0} {rows : Ghosts D} {index : Ghosts E} → Engine D E rows index → ℕ → Sums → Summary
    → Type 0
IsSummary engine statements sums summary = (summary.statements ≡ statements) × (summary.sums ≡ sums)
    × ((state : State) → Keeps state engine → (summary.commits ≡ length state.commits)
    × (summary.rows ≡ length (replay state.commits).list) × (summary.largest ≡ (replay state.commits).largest))

-- a text is written: all of it, a part of it, or nothing for want of memory
abbrev pub Writes : Result (Unit {0}) Unsent → List ℕ → List ℕ → List ℕ → Type 0
Writes (Ok done) text before now = now ≡ before ++ text
Writes (Err unsent.WriteFault) text before now = (n : ℕ) × (now ≡ before ++ take n text)
Writes (Err unsent.NoMemory) text before now = now ≡ before

-- all lines of a script were executed, and of the line that tells what it comes to this was written
pub record Tells {S : Type 0} (sight : Sight S) (statements : ℕ) (start : Running) (script : List Line)
    (Written : List ℕ → List ℕ → Type 0) (before after : Sides S) : Type 0 where
  pub front : Front sight start true script [] before after
  pub summary : Summary
  pub comes : ComesTo statements (after_all start front.calls) front.replies summary
  pub written : Written front.text (summary_text summary)

-- memory ran out for a line, or for what tells the script: lines from the front were executed, and nothing was written
pub record Breaks {S : Type 0} (sight : Sight S) (start : Running) (script : List Line) (before after : Sides S)
    : Type 0 where
  pub ahead : List Line
  pub front : Front sight start true script ahead before after
  pub silent : front.text ≡ []

-- what `gen` has done with these lines, by its end: what they met, or why they were not told
abbrev pub Generates : {S : Type 0} → Sight S → Result Health Unsent → ℕ → Running → List Line → Sides S → Sides S
    → Type 0
Generates sight (Ok met) statements start script before after =
    (tells : Tells sight statements start script (λ text whole. text ≡ whole) before after)
    × (tells.front.met ≡ met)
Generates sight (Err unsent.WriteFault) statements start script before after =
    Tells sight statements start script (λ text whole. (n : ℕ) × (text ≡ take n whole)) before after
Generates sight (Err unsent.NoMemory) statements start script before after = Breaks sight start script before after
