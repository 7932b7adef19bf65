-- The lines of a script that is made from a number.
use Rattle.std.proofs.Common.{◌≡◌, ℕ, zero, suc, Bool, true, false, if◌then◌else◌, ◌==◌, ◌&&◌, List, [], ◌∷◌, ◌++◌, length, None, Some, refl, ap, sym, subst, ◌∙◌, inr, arith, append-nil}
use Rattle.std.specs.Prelude.{nat_lt, ◌%◌, take, Result, Ok, Err, IfOk, IsOk}
use Rattle.std.specs.Char.{is_ascii_digit}
use Rattle.std.proofs.lemmas.Bool.{both_ways}
use Rattle.fts_steps.specs.FaultCounts.{FaultCounts, CountsFaultOf}
use Rattle.fts_steps.proofs.FaultCounts.{counts_told}
use Rattle.fts_gen.specs.Draws.{draw}
use Rattle.fts_gen.specs.Script.{Spelled, decided, behind, lines_from}
use Rattle.fts_io.specs.Text.{Line, whole}
use Rattle.fts_schema.specs.declared.reply.Reply.{Reply}
use Rattle.fts_schema.specs.Summary.{AreSums, summary_text}
use Rattle.fts_schema.specs.declared.summary.Summary.{Summary}
use Rattle.fts_schema.specs.declared.summary.Sums.{Sums}
use Rattle.fts_disk.specs.declared.disk.Disk.{Ghosts}
use Rattle.fts_engine.specs.declared.engine.Engine.{Engine}
use Rattle.fts_engine.specs.Stands.{Holds}
use Rattle.fts_sessions.specs.Transaction.{Transaction}
use Rattle.fts_sessions.specs.Execute.{Executes}
use Rattle.fts_sql.specs.Token.{is_blank}
use Rattle.fts_sql.specs.Reader.{is_comment}
use Rattle.fts_sql.specs.Session.{IsSession}
use Rattle.fts_sql.proofs.Blanks.{not_blank}
use Rattle.fts_sql.proofs.Sessions.{not_numbered}
use Rattle.fts_steps.specs.Running.{Running}
use Rattle.fts_steps.specs.Step.{Sight, after_all}
use Rattle.fts_workers.specs.declared.health.Health.{Health}
use Rattle.fts_workers.specs.declared.health.Health.TheVariants.{Sound, Failed}
use Rattle.fts_top.specs.declared.ends.Unsent.{Unsent}
use Rattle.fts_top.specs.declared.ends.Unsent.TheVariants as unsent
use Rattle.fts_top.specs.declared.generate.Played.{Played}
use Rattle.fts_top.specs.Generate.{PlaysLine, Plays, Breaks, Tells, ComesTo, IsSummary, Writes, Generates}
use Rattle.fts_workers.specs.Health.{health_of, health_of_steps, worse}
use Rattle.fts_top.specs.Sessions.{Met, met, open_in, leaving}
use Rattle.fts_top.specs.Run.{sides, Front}
use Rattle.fts_steps.proofs.Making.{made_keeps}
use Rattle.fts_top.proofs.Fronts.{nothing_yet, one_more}
use Rattle.fts_workers.proofs.Worse.{counted_more, counted_reply}
use Rattle.fts_top.proofs.Turning.{executed}

-- ---- whose they are

-- a line that begins with a byte of no number, no blank and no comment is session 1's
no_comment : (b : ℕ) (bytes : List ℕ) → (b == 45) ≡ false → is_comment (b ∷ bytes) ≡ false
no_comment b [] other = refl
no_comment b (c ∷ bytes) other = ap (λ x. x && (c == 45)) other

of_session_one : (b : ℕ) (bytes : List ℕ) → is_blank b ≡ false → is_ascii_digit b ≡ false → (b == 45) ≡ false → IsSession (b ∷ bytes) (Some 1)
of_session_one b bytes blank digit comment = (
  not_blank (b ∷ bytes) [] (b ∷ bytes) (record { cut = refl; passes = refl; ends = blank }) (λ e. omega (arith, e)) (no_comment b bytes comment),
  inr (
    refl,
    not_numbered (b ∷ bytes) [] (b ∷ bytes) [] (b ∷ bytes) [] (b ∷ bytes) None (record { cut = refl; passes = refl; ends = blank })
        (record { cut = refl; passes = refl; ends = digit }) (record { cut = refl; passes = refl; ends = blank }) refl,
  ),
)

either : (P : List ℕ → Type 0) (b : Bool) (one other : List ℕ) → P one → P other → P (if b then one else other)
either P true one other p q = p
either P false one other p q = q

decided_one : (names : Spelled) (i x : ℕ) → IsSession (decided names i x) (Some 1)
decided_one names i x =
    either (λ line. IsSession line (Some 1)) (nat_lt (x % 8) 5) _ _ (of_session_one 73 _ refl refl refl)
    (either (λ line. IsSession line (Some 1)) (x % 8 == 5) _ _ (of_session_one 85 _ refl refl refl)
    (either (λ line. IsSession line (Some 1)) (x % 8 == 6) _ _ (of_session_one 68 _ refl refl refl) (of_session_one 83 _ refl refl refl)))

abbrev first_of : List (List ℕ) → List ℕ
first_of [] = []
first_of (line ∷ lines) = line

-- the first of the lines that are left is session 1's
pub first_one : (sync optimize : Bool) (names : Spelled) (i n x : ℕ) (line : List ℕ) (lines : List (List ℕ)) → behind sync optimize ++ lines_from names i n x ≡ line ∷ lines
    → IsSession line (Some 1)
first_one true optimize names i n x line lines e = subst (λ l. IsSession l (Some 1)) (ap first_of e) (of_session_one 83 _ refl refl refl)
first_one false true names i n x line lines e = subst (λ l. IsSession l (Some 1)) (ap first_of e) (of_session_one 79 _ refl refl refl)
first_one false false names i zero x line lines e = absurd (let none = ap length e in omega (arith, none))
first_one false false names i (suc n) x line lines e = subst (λ l. IsSession l (Some 1)) (ap first_of e) (decided_one names i (draw x))

-- ---- one line more

-- no line was executed yet, or session 1 is the only one that was met, with this transaction
pub data IsAlone : List Met → Transaction → Type 0 where
  unmet : IsAlone [] None
  alone : (transaction : Transaction) → IsAlone (met 1 transaction ∷ []) transaction

open_alone : (sessions : List Met) (transaction : Transaction) → IsAlone sessions transaction → open_in sessions 1 ≡ transaction
open_alone _ _ unmet = refl
open_alone _ _ (alone transaction) = refl

leaving_alone : (sessions : List Met) (transaction left : Transaction) → IsAlone sessions transaction → leaving sessions 1 left ≡ met 1 left ∷ []
leaving_alone _ _ left unmet = refl
leaving_alone _ _ left (alone transaction) = refl

module _ {S : Type 0} (sight : Sight S) (start : Running) (script : List Line) where
  -- the lines so far: what they met, and their sums
  pub record PlayedFar (ahead : List Line) (played : Played) (transaction : Transaction) (old now : S) : Type 0 where
    pub front : Front sight start true script ahead (sides [] [] old) (sides [] [] now)
    pub silent : front.text ≡ []
    pub met_is : front.met ≡ played.met
    pub sums_are : AreSums front.replies played.sums
    pub sessions_are : IsAlone front.sessions transaction
    pub kept : sight.settings now ≡ sight.settings old

  pub starts : (played : Played) (transaction : Transaction) (here : S) → sight.stands start here → played.met ≡ Sound → AreSums [] played.sums → transaction ≡ None
      → PlayedFar script played transaction here here
  starts played transaction here stands sound sums closed = record {
    front = nothing_yet sight start script (sides [] [] here) stands;
    silent = refl;
    met_is = sym sound;
    sums_are = sums;
    sessions_are = subst (IsAlone []) (sym closed) unmet;
    kept = refl;
  }

  pub plays_on : (line : List ℕ) (behind : List Line) (played next : Played) (transaction left : Transaction) (old middle now : S)
      → PlayedFar (whole line ∷ behind) played transaction old middle → IsSession line (Some 1) → PlaysLine sight (whole line) played next transaction left middle now
      → PlayedFar behind next left old now
  plays_on line behind played next transaction left old middle now far of one =
      let front = far.front in
      let batches = one.behind.batches in
      let sessions : List Met = met 1 left ∷ [] in
      let serves = executed sight line 1 front.sessions sessions left middle one.middle one.reply of
      (subst (λ (t : Transaction). Executes sight (whole line) t middle one.reply left one.middle) (sym (open_alone front.sessions transaction far.sessions_are)) one.executes)
      (sym (leaving_alone front.sessions transaction left far.sessions_are)) in
      record {
        front = one_more sight start script true (whole line) (whole line ∷ behind) behind (sides [] [] old) (sides [] [] middle) (sides [] [] now) one.reply [] one.middle
            batches.calls sessions front far.kept refl (omega arith) serves batches.are batches.steps refl;
        silent = append-nil front.text ∙ far.silent;
        met_is = ap (λ (h : Health). worse h (worse (health_of one.reply) (health_of_steps batches.calls))) far.met_is
            ∙ ap (λ (h : Health). worse played.met (worse (health_of one.reply) h)) batches.met_is ∙ ap (worse played.met) (sym one.behind.met_is) ∙ sym one.met_is;
        sums_are = one.sums front.replies far.sums_are;
        sessions_are = alone left;
        kept = (made_keeps sight batches.calls one.middle now batches.steps).settings ∙ (made_keeps sight one.executes.calls middle one.middle one.executes.made).settings ∙ far.kept;
      }

-- the counts of a line and of the batches behind it
pub line_counts : {S : Type 0} (sight : Sight S) (line : Line) (played next : Played) (transaction left : Transaction) (first old new : S)
    → CountsFaultOf (played.met ≡ Failed) (sight.faults first) (sight.faults old) → PlaysLine sight line played next transaction left old new
    → CountsFaultOf (next.met ≡ Failed) (sight.faults first) (sight.faults new)
line_counts sight line played next transaction left first old new before one =
    let batches = one.behind.batches in
    let here = counted_more (health_of one.reply) one.behind.later (sight.faults old) (sight.faults one.middle) (sight.faults new)
    (counted_reply one.reply (sight.faults old) (sight.faults one.middle) one.executes.faults) batches.faults in
    let now = subst (λ (h : Health). CountsFaultOf (h ≡ Failed) (sight.faults old) (sight.faults new)) (sym one.behind.met_is) here in
    subst (λ (h : Health). CountsFaultOf (h ≡ Failed) (sight.faults first) (sight.faults new)) (sym one.met_is)
    (counted_more played.met one.now (sight.faults first) (sight.faults old) (sight.faults new) before now)

-- ---- what is told

module _ {S : Type 0} (sight : Sight S) (start : Running) (script : List Line) where
  -- the same front, with what was written behind it
  abbrev pub front_with : (ahead : List Line) (part held held' : List ℕ) (old new : S) → Front sight start true script ahead (sides [] [] old) (sides [] [] new)
      → held' ≡ held ++ part → Front sight start true script ahead (sides [] held old) (sides [] held' new)
  front_with ahead part held held' old new front written = record {
    lines = front.lines;
    calls = front.calls;
    replies = front.replies;
    met = front.met;
    sessions = front.sessions;
    text = part;
    front = front.front;
    written = written;
    talks = front.talks;
    few = front.few;
    runs = front.runs;
  }

  -- nothing was told
  pub breaks : (ahead : List Line) (held : List ℕ) (old new : S) → Plays sight start script ahead old new
      → Breaks sight start script (sides [] held old) (sides [] held new)
  breaks ahead held old new plays = record {
    ahead = ahead;
    front = front_with ahead [] held held old new plays.front (sym (append-nil held));
    silent = refl;
  }

  -- so much was told of all lines
  abbrev pub tells : (statements : ℕ) (Written : List ℕ → List ℕ → Type 0) (part held held' : List ℕ) (summary : Summary) (old new : S)
      → (plays : Plays sight start script [] old new) → ComesTo statements (after_all start plays.front.calls) plays.front.replies summary
      → held' ≡ held ++ part → Written part (summary_text summary) → Tells sight statements start script Written (sides [] held old) (sides [] held' new)
  tells statements Written part held held' summary old new plays comes written is =
      record { front = front_with [] part held held' old new plays.front written; summary = summary; comes = comes; written = is }

  -- it was not told, or not all of it
  pub untold : (why : Unsent) (statements : ℕ) (held held' : List ℕ) (summary : Summary) (old new : S) → (plays : Plays sight start script [] old new)
      → ComesTo statements (after_all start plays.front.calls) plays.front.replies summary → Writes (Err why) (summary_text summary) held held'
      → Generates sight (Err why) statements start script (sides [] held old) (sides [] held' new)
  untold unsent.WriteFault statements held held' summary old new plays comes (n, written) =
      tells statements (λ text all. (m : ℕ) × (text ≡ take m all)) (take n (summary_text summary)) held held' summary old new plays comes written (n, refl)
  untold unsent.NoMemory statements held held' summary old new plays comes same =
      subst (λ (h : List ℕ). Breaks sight start script (sides [] held old) (sides [] h new)) (sym same) (breaks [] held old new plays)

-- a script comes to what the engine behind it keeps
pub comes_to : {D E : Type 0} {rows : Ghosts D} {index : Ghosts E} (engine : Engine D E rows index) (statements : ℕ) (running : Running) (replies : List Reply)
    (sums : Sums) (summary : Summary) → Holds running engine → IsSummary engine statements sums summary → AreSums replies sums → ComesTo statements running replies summary
comes_to engine statements running replies sums summary stands (counted, same, kept) are =
    let all = kept running.state stands.has.keeps in record {
      counted = counted;
      commits = all.0;
      rows = all.1;
      largest = all.2;
      sums = subst (AreSums replies) (sym same) are;
    }

-- the counts of a script whose lines were all executed
pub counted_end : (end : Result Health Unsent) (old new : FaultCounts) → IfOk end (λ met. CountsFaultOf (met ≡ Failed) old new) → IsOk end
    → CountsFaultOf (end ≡ Ok Failed) old new
counted_end (Ok health) old new counts is =
    counts_told _ _ old new (λ e. let same : ◌≡◌ {A = Result Health Unsent} (Ok health) (Ok Failed) = e in cc) (ap Ok) counts
counted_end (Err why) old new counts is = absurd (both_ways false refl is)
