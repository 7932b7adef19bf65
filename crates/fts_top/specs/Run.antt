use Rattle.std.specs.Prelude.{◌≡◌, ◌⊎◌, ◌<◌, ◌≤◌, ◌+◌, ◌^◌, ℕ, Bool, true, false, List, [], ◌∷◌, ◌++◌, length, take}
use Rattle.std.specs.Prelude.{Result, Ok, Err, Some}
use Rattle.fts_io.specs.Text.{Line, feeds}
use Rattle.fts_io.specs.Reading.{OnlyBegun, lines_from}
use Rattle.fts_schema.specs.declared.reply.Reply.{Reply}
use Rattle.fts_schema.specs.Reply.{text_of, is_fixed}
use Rattle.fts_steps.specs.Running.{Running}
use Rattle.fts_steps.specs.Step.{Call, Sight, Runs}
use Rattle.fts_script.specs.Sessions.{IsOf}
use Rattle.fts_top.specs.Sessions.{Met, is_met, Serves}
use Rattle.fts_workers.specs.declared.health.Health.{Health}
use Rattle.fts_workers.specs.declared.health.Health.TheVariants as health
use Rattle.fts_top.specs.declared.ends.Halt.{Halt}
use Rattle.fts_top.specs.declared.ends.Halt.TheVariants as halt
use Rattle.fts_top.specs.declared.ends.RunEnd.{RunEnd}
use Rattle.fts_top.specs.declared.ends.RunEnd.TheVariants as end
use Rattle.fts_top.specs.declared.ends.Unsent.{Unsent}
use Rattle.fts_top.specs.declared.ends.Unsent.TheVariants as unsent
use Rattle.fts_workers.specs.Health.{health_of, worse}
use Rattle.fts_workers.specs.Batches.{committed_by}
use Rattle.fts_top.specs.Talk.{Talks, texts_of}
use Rattle.fts_workers.specs.Batches.{MakesBatches}

-- a run at one time: what the source has left, what the sink holds, and the steps
pub record Sides (S : Type 0) : Type 0 where
  pub left : List ℕ
  pub held : List ℕ
  pub steps : S

abbrev pub sides : {S : Type 0} → List ℕ → List ℕ → S → Sides S
sides left held steps = record { left = left; held = held; steps = steps }

-- nothing was written, and no step made
pub record Stays {S : Type 0} (before after : Sides S) : Type 0 where
  pub unwritten : after.held ≡ before.held
  pub unmade : after.steps ≡ before.steps

-- the lines from the front of the script that were executed, which are those of 16 sessions at most, what is ahead, and
-- the text that was written; `sent` says that the last reply was sent, and the batches behind it were made. All steps
-- of the lines and of the batches are one run from the start
pub record Front {S : Type 0} (sight : Sight S) (start : Running) (sent : Bool) (script ahead : List Line)
    (before after : Sides S) : Type 0 where
  pub lines : List Line
  pub calls : List Call
  pub replies : List Reply
  pub met : Health
  pub sessions : List Met
  pub text : List ℕ
  pub front : script ≡ lines ++ ahead
  pub written : after.held ≡ before.held ++ text
  pub talks : Talks (sight.settings before.steps) sent [] lines calls replies met sessions
  pub few : length sessions ≤ 16
  pub runs : Runs sight start calls before.steps after.steps

-- each reply was written, to the end
abbrev pub IsWhole : List Reply → List ℕ → Type 0
IsWhole replies text = text ≡ texts_of replies

-- of the last reply only the first n bytes were written
pub record IsCut (n : ℕ) (replies : List Reply) (text : List ℕ) : Type 0 where
  pub earlier : List Reply
  pub last : Reply
  pub replies_are : replies ≡ earlier ++ last ∷ []
  pub text_is : text ≡ texts_of earlier ++ take n (text_of last)

-- the lines ahead are those of what the source has left, behind bytes that were read and not used
abbrev pub IsLeft : List Line → List ℕ → Type 0
IsLeft ahead left = (begun unused : List ℕ) × (ahead ≡ lines_from begun (unused ++ left))

-- of the lines ahead, of which so many end with an LF, only the first was begun; n bytes behind its begun part were
-- read and not looked at
abbrev pub Begun : ℕ → List Line → ℕ → List ℕ → Type 0
Begun n ahead ended left = (kept : List ℕ) × (length kept ≡ n) × OnlyBegun ahead ended (kept ++ left)

-- so many lines were executed of a text, and of those ahead so many end with an LF: that is all that do, unless none is
-- ahead
abbrev pub AreAllEnded : List ℕ → ℕ → List Line → ℕ → Type 0
AreAllEnded script count ahead ended = (ahead ≡ []) ⊎ (feeds script ≡ count + ended)

-- the script was read to its end, and its lines met this
pub record ReadsToEnd {S : Type 0} (sight : Sight S) (met : Health) (start : Running) (script : List Line)
    (before after : Sides S) : Type 0 where
  pub front : Front sight start true script [] before after
  pub whole : IsWhole front.replies front.text
  pub met_is : front.met ≡ met
  pub empty : after.left ≡ []

-- whole lines from the front were executed, and of those ahead no whole one was read: of the first some bytes,
-- and behind it n bytes that were not looked at. So each line that ended was executed
pub record Stops {S : Type 0} (sight : Sight S) (start : Running) (script : List Line) (n : ℕ) (before after : Sides S)
    : Type 0 where
  pub ahead : List Line
  pub front : Front sight start true script ahead before after
  pub whole : IsWhole front.replies front.text
  pub ended : ℕ
  pub begun : Begun n ahead ended after.left
  pub all : AreAllEnded before.left (length front.lines) ahead ended

-- lines from the front were executed, and of the last one's reply n bytes written
pub record Late {S : Type 0} (sight : Sight S) (start : Running) (script : List Line) (n : ℕ) (before after : Sides S)
    : Type 0 where
  pub ahead : List Line
  pub front : Front sight start false script ahead before after
  pub cut : IsCut n front.replies front.text
  pub rest : IsLeft ahead after.left

-- each reply was sent, or all but the last, which has a number or a name: a text that is fixed takes no memory
abbrev pub IsSent : Bool → List Reply → List ℕ → Type 0
IsSent true replies text = IsWhole replies text
IsSent false replies text = (cut : IsCut 0 replies text) × (is_fixed cut.last ≡ false)

-- memory ran out for a line or for a reply: the lines before it were executed and each reply written, and a line is
-- ahead, unless none was executed; or it too was executed, and nothing of its reply written
pub record Starves {S : Type 0} (sight : Sight S) (start : Running) (script : List Line) (before after : Sides S)
    : Type 0 where
  pub ahead : List Line
  pub sent : Bool
  pub front : Front sight start sent script ahead before after
  pub written : IsSent sent front.replies front.text
  pub unread : sent ≡ true → (front.lines ≡ []) ⊎ (ahead ≡ [] → ⊥)
  pub rest : IsLeft ahead after.left

-- whole lines from the front were executed, and the first of those ahead is the first line of a 17th session
pub record Crowds {S : Type 0} (sight : Sight S) (start : Running) (script : List Line) (number : ℕ)
    (before after : Sides S) : Type 0 where
  pub line : Line
  pub ahead : List Line
  pub front : Front sight start true script (line ∷ ahead) before after
  pub whole : IsWhole front.replies front.text
  pub of : IsOf line (Some number)
  pub unmet : is_met front.sessions number ≡ false
  pub many : length front.sessions ≡ 16
  pub rest : IsLeft ahead after.left

-- what a run has done with these lines, by its end
abbrev pub Outcome : {S : Type 0} → Sight S → RunEnd → Running → List Line → Sides S → Sides S → Type 0
Outcome sight end.Done start script before after = ReadsToEnd sight health.Sound start script before after
Outcome sight end.ShortOfMemory start script before after = ReadsToEnd sight health.Short start script before after
Outcome sight end.DiskFault start script before after = ReadsToEnd sight health.Failed start script before after
Outcome sight end.ReadFault start script before after = Stops sight start script 0 before after
Outcome sight (end.ScriptTooLong lines bytes) start script before after =
    (stops : Stops sight start script 1 before after) × (lines ≡ length stops.front.lines)
Outcome sight (end.TooManySessions number) start script before after = Crowds sight start script number before after
Outcome sight end.WriteFault start script before after = (n : ℕ) × Late sight start script n before after
Outcome sight end.NoMemory start script before after = Starves sight start script before after

-- a line was executed, and of its reply the first n bytes were written
pub record Replies {S : Type 0} (sight : Sight S) (line : Line) (n : ℕ) (sessions left : List Met)
    (before after : Sides S) : Type 0 where
  pub reply : Reply
  pub serves : Serves sight line sessions before.steps reply left after.steps
  pub written : after.held ≡ before.held ++ take n (text_of reply)

-- a line was executed and its reply written, and then the batches were made that follow it
pub record IsDone {S : Type 0} (sight : Sight S) (line : Line) (met : Health) (sessions left : List Met)
    (before after : Sides S) : Type 0 where
  pub reply : Reply
  pub middle : S
  pub serves : Serves sight line sessions before.steps reply left middle
  pub written : after.held ≡ before.held ++ text_of reply
  pub later : Health
  pub batches : MakesBatches sight (committed_by reply) later middle after.steps
  pub met_is : met ≡ worse (health_of reply) later

-- one line of a run, which goes on or ends: from the lines ahead to those behind it, of which so many end with an LF,
-- and from these sessions to those
abbrev pub OneLine : {S : Type 0} → Sight S → Result Health Halt → List Line → List Line → ℕ → List Met → List Met
    → Sides S → Sides S → Type 0
OneLine sight (Ok met) ahead behind ended sessions left before after =
    (line : Line) × (ahead ≡ line ∷ behind) × IsDone sight line met sessions left before after
OneLine sight (Err halt.End) ahead behind ended sessions left before after =
    (ahead ≡ []) × (after.left ≡ []) × Stays before after
OneLine sight (Err halt.ReadFault) ahead behind ended sessions left before after =
    Begun 0 ahead ended after.left × Stays before after
OneLine sight (Err (halt.TooLong lines bytes)) ahead behind ended sessions left before after =
    Begun 1 ahead ended after.left × Stays before after
OneLine sight (Err (halt.TooManySessions number)) ahead behind ended sessions left before after = (line : Line)
    × (ahead ≡ line ∷ behind) × IsOf line (Some number) × (is_met sessions number ≡ false) × (length sessions ≡ 16)
    × IsLeft behind after.left × Stays before after
OneLine sight (Err halt.WriteFault) ahead behind ended sessions left before after =
    (line : Line) × (ahead ≡ line ∷ behind) × ((n : ℕ) × Replies sight line n sessions left before after)
    × IsLeft behind after.left
OneLine sight (Err halt.NoMemory) ahead behind ended sessions left before after =
    IsLeft behind after.left × (((ahead ≡ behind) × (behind ≡ [] → ⊥) × Stays before after)
    ⊎ ((line : Line) × (ahead ≡ line ∷ behind)
    × ((replies : Replies sight line 0 sessions left before after) × (is_fixed replies.reply ≡ false))))

-- what it leaves of the lines to come that end with an LF: it was one of them, or none is behind it; and all of them
-- where no line was read
abbrev pub LeavesEnded : Result Health Halt → List Line → ℕ → ℕ → Type 0
LeavesEnded (Ok met) behind before after = (before ≡ after + 1) ⊎ (behind ≡ [])
LeavesEnded (Err halt.ReadFault) behind before after = before ≡ after
LeavesEnded (Err (halt.TooLong lines bytes)) behind before after = before ≡ after
LeavesEnded (Err why) behind before after = Unit {0}

-- the script was too long: more than 2^40 bytes of it were taken, and the rest is left
abbrev pub PassesLimit : ℕ → List ℕ → List ℕ → Type 0
PassesLimit bytes script left = (2 ^ 40 < bytes) × (bytes + length left ≡ length script)

-- a reply is written: all of it, a part of it, or nothing for want of memory
abbrev pub Sends : Result (Unit {0}) Unsent → Reply → List ℕ → List ℕ → Type 0
Sends (Ok done) reply before now = now ≡ before ++ text_of reply
Sends (Err unsent.WriteFault) reply before now = (n : ℕ) × (now ≡ before ++ take n (text_of reply))
Sends (Err unsent.NoMemory) reply before now = now ≡ before
