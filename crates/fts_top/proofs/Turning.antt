use Rattle.std.proofs.Common.{◌≡◌, ℕ, List, ◌∷◌, [], refl, sym, ◌∙◌, inl, inr, false, append-nil, Some, None}
use Rattle.std.specs.Prelude.{Err}
use Rattle.fts_io.specs.Text.{Line, whole, too_long}
use Rattle.fts_sql.specs.Line.{IsBlank}
use Rattle.fts_schema.specs.declared.reply.Reply.{Reply}
use Rattle.fts_schema.specs.declared.reply.Reply.TheVariants.{LineTooLong, Nothing, DiskFault}
use Rattle.fts_schema.specs.Reply.{is_fixed}
use Rattle.fts_steps.specs.Step.{Sight}
use Rattle.fts_steps.proofs.FaultCounts.{counts_calm}
use Rattle.fts_sessions.specs.Transaction.{Transaction}
use Rattle.fts_sessions.specs.Request.{unread, blank}
use Rattle.fts_sessions.specs.Execute.{Executes}
use Rattle.fts_top.specs.declared.ends.Unsent.{Unsent}
use Rattle.fts_top.specs.declared.ends.Unsent.TheVariants as unsent
use Rattle.fts_workers.specs.declared.health.Health.TheVariants.{Sound}
use Rattle.fts_script.specs.Sessions.{IsOf}
use Rattle.fts_top.specs.Sessions.{Met, open_in, leaving, Speaks, Serves}
use Rattle.fts_workers.specs.Batches.{MakesBatches}
use Rattle.fts_top.specs.Ends.{halt_of_unsent}
use Rattle.fts_top.specs.Run.{Sides, OneLine, Sends, IsLeft}

module _ {S : Type 0} (sight : Sight S) where
  -- a line that makes no step
  no_step : (line : Line) (sessions left : List Met) (here : S) (reply : Reply) → (reply ≡ DiskFault → ⊥) → Speaks (sight.settings here) line sessions [] reply left
      → Serves sight line sessions here reply left here
  no_step line sessions left here reply calm says = record {
    calls = [];
    says = says;
    made = refl;
    faults = counts_calm _ _ _ calm refl;
  }

  -- a line too long has its reply, and counts for session 1
  pub skips : (sessions left : List Met) (here : S) → left ≡ leaving sessions 1 (open_in sessions 1) → Serves sight too_long sessions here LineTooLong left here
  skips sessions left here leaves =
      no_step too_long sessions left here LineTooLong (λ is. cc)
      (Some 1, refl, (open_in sessions 1, inl (unread, tt, refl, refl), leaves))

  -- a blank line is nobody's
  pub passes : (line : List ℕ) (sessions : List Met) (here : S) → IsBlank line → Serves sight (whole line) sessions here Nothing sessions here
  passes line sessions here is = no_step (whole line) sessions sessions here Nothing (λ is. cc) (None, is, (inl (blank, is, refl, refl), refl))

  -- a line that its session executed
  pub executed : (line : List ℕ) (number : ℕ) (sessions left : List Met) (transaction : Transaction) (old new : S) (reply : Reply) → IsOf (whole line) (Some number)
      → Executes sight (whole line) (open_in sessions number) old reply transaction new → left ≡ leaving sessions number transaction → Serves sight (whole line) sessions old reply left new
  executed line number sessions left transaction old new reply of executes leaves = record {
    calls = executes.calls;
    says = (Some number, of, (transaction, executes.says, leaves));
    made = executes.made;
    faults = executes.faults;
  }

  -- no batch follows it
  pub no_batches : (here : S) → MakesBatches sight 0 Sound here here
  no_batches here = record {
    calls = [];
    are = refl;
    steps = refl;
    met_is = refl;
    faults = counts_calm _ _ _ (λ is. cc) refl;
  }

  -- a line whose reply was not written whole
  pub not_sent : (cause : Unsent) (line : Line) (reply : Reply) (ahead behind : List Line) (ended : ℕ) (sessions left : List Met) (before after : Sides S)
      → ahead ≡ line ∷ behind → Serves sight line sessions before.steps reply left after.steps
      → Sends (Err cause) reply before.held after.held → (cause ≡ unsent.NoMemory → is_fixed reply ≡ false) → IsLeft behind after.left
      → OneLine sight (Err (halt_of_unsent cause)) ahead behind ended sessions left before after
  not_sent unsent.WriteFault line reply ahead behind ended sessions left before after one serves sends calm rest =
      (line, one, (sends.0, record { reply = reply; serves = serves; written = sends.1 }), rest)
  not_sent unsent.NoMemory line reply ahead behind ended sessions left before after one serves sends calm rest =
      (rest, inr (line, one, (record { reply = reply; serves = serves; written = sends ∙ sym (append-nil before.held) }, calm refl)))
