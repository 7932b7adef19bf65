-- The sessions that a run keeps, each at its place.
use Rattle.std.specs.Prelude.{◌≡◌, ◌≤◌, ◌<◌, ℕ, false, List, length, map, All, slice_index_or, slice_set, vec_capacity}
use Rattle.std.specs.Prelude.{◌∷◌, Option, Some, Result, Ok, Err}
use Rattle.fts_io.specs.Text.{Line}
use Rattle.fts_sessions.specs.declared.session.Session.{Session}
use Rattle.fts_sessions.specs.Transaction.{Transaction, FitsTable}
use Rattle.fts_top.specs.declared.sessions.Sessions.{Sessions}
use Rattle.fts_workers.specs.declared.health.Health.{Health}
use Rattle.fts_top.specs.declared.ends.Halt.{Halt}
use Rattle.fts_top.specs.declared.ends.Halt.TheVariants as halt
use Rattle.fts_script.specs.Sessions.{IsOf, joined_by}
use Rattle.fts_top.specs.Sessions.{Met, met, is_met, open_in, leaving, numbers_of}

-- what contracts see of sessions
abbrev pub met_of : Session → Met
met_of session = met session.number session.transaction

abbrev pub mets_of : List Session → List Met
mets_of sessions = map met_of sessions

-- the sessions that were met, in their order
abbrev pub mets : Sessions → List Met
mets sessions = mets_of sessions.sessions.items

-- there are 16 at most, and there is room for as many
pub record AreKept (sessions : Sessions) : Type 0 where
  pub few : length sessions.sessions.items ≤ 16
  pub room : 16 ≤ vec_capacity sessions.sessions

-- what is open in each can be committed to a table of so many columns
abbrev pub AllFit : ℕ → Sessions → Type 0
AllFit columns sessions = All (λ session. FitsTable columns session.transaction) sessions.sessions.items

-- a session stands at this place of the new sessions, which are the old ones but perhaps for itself: what is open in it
-- is found there, and put there
pub record IsPlace (old : List Met) (number place : ℕ) (new : List Session) : Type 0 where
  pub within : place < length new
  pub here : (d : Session) → met_of (slice_index_or new place d) ≡ met number (open_in old number)
  pub leaves : (transaction : Transaction) → leaving old number transaction
      ≡ slice_set (mets_of new) place (met number transaction)

-- the line is the first of one session more than 16
pub record IsOneMore (sessions : List Met) (number : ℕ) : Type 0 where
  pub unmet : is_met sessions number ≡ false
  pub many : length sessions ≡ 16

-- by how a line ended: it is of one of the sessions behind it, or the first of one more than 16
abbrev pub NextSession : Result Health Halt → List Line → List Line → List Met → List Met → Type 0
NextSession (Ok health) ahead behind sessions left = (line : Line) × (ahead ≡ line ∷ behind)
    × ((session : Option ℕ) × IsOf line session × (numbers_of left ≡ joined_by (numbers_of sessions) session))
NextSession (Err (halt.TooManySessions number)) ahead behind sessions left =
    (line : Line) × (ahead ≡ line ∷ behind) × IsOf line (Some number) × IsOneMore sessions number
NextSession (Err why) ahead behind sessions left = Unit {0}
