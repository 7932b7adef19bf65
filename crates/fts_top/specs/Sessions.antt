-- The sessions of a script that were met, and which transaction is open in each.
use Rattle.std.specs.Prelude.{◌≡◌, ◌==◌, ℕ, Bool, false, ◌||◌, if◌then◌else◌, List, [], ◌∷◌, map}
use Rattle.std.specs.Prelude.{Option, Some, None}
use Rattle.fts_io.specs.Text.{Line}
use Rattle.fts_schema.specs.declared.reply.Reply.{Reply}
use Rattle.fts_script.specs.Sessions.{IsOf}
use Rattle.fts_steps.specs.Step.{Call, Sight}
use Rattle.fts_types.specs.declared.settings.Settings.{Settings}
use Rattle.fts_sessions.specs.Transaction.{Transaction}
use Rattle.fts_sessions.specs.Execute.{Proceeds, Says}

-- a session that was met, by its number, and the transaction that is open in it
pub record Met : Type 0 where
  pub number : ℕ
  pub transaction : Transaction

abbrev pub met : ℕ → Transaction → Met
met number transaction = record { number = number; transaction = transaction }

-- whether a session of this number was met
abbrev pub is_met : List Met → ℕ → Bool
is_met [] number = false
is_met (one ∷ sessions) number = (one.number == number) || is_met sessions number

-- the transaction that is open in a session: none where it was not met
abbrev pub open_in : List Met → ℕ → Transaction
open_in [] number = None
open_in (one ∷ sessions) number = if one.number == number then one.transaction else open_in sessions number

-- the sessions where this transaction is open in one of them; it comes last where it was not met
abbrev pub leaving : List Met → ℕ → Transaction → List Met
leaving [] number transaction = met number transaction ∷ []
leaving (one ∷ sessions) number transaction =
    if one.number == number then met number transaction ∷ sessions else one ∷ leaving sessions number transaction

-- a line of this session, or of nobody, makes these steps and has this reply. It changes what is open in its own
-- session alone
abbrev pub SaysOf : Settings → Line → Option ℕ → List Met → List Call → Reply → List Met → Type 0
SaysOf settings line None sessions calls reply left = Says settings line None calls reply None × (left ≡ sessions)
SaysOf settings line (Some number) sessions calls reply left =
    (transaction : Transaction) × Says settings line (open_in sessions number) calls reply transaction
    × (left ≡ leaving sessions number transaction)

-- a line of a script makes these steps and has this reply, in its own session
abbrev pub Speaks : Settings → Line → List Met → List Call → Reply → List Met → Type 0
Speaks settings line sessions calls reply left =
    (session : Option ℕ) × IsOf line session × SaysOf settings line session sessions calls reply left

-- a line of a script is executed in its own session
abbrev pub Serves : {S : Type 0} → Sight S → Line → List Met → S → Reply → List Met → S → Type 0
Serves sight line sessions old reply left new =
    Proceeds sight (λ calls told. Speaks (sight.settings old) line sessions calls told left) old reply new

-- the numbers of sessions that were met
abbrev pub numbers_of : List Met → List ℕ
numbers_of sessions = map (λ one. one.number) sessions
