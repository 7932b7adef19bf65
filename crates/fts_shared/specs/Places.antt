-- Sessions and workers at their seats.
use Rattle.std.specs.Prelude.{◌≡◌, ◌≤◌, List, [], ◌∷◌, ◌++◌, length, Some, None, vec_capacity}
use Rattle.fts_disk.specs.declared.disk.Disk.{Ghosts}
use Rattle.fts_io.specs.Text.{Line}
use Rattle.fts_types.specs.declared.settings.Settings.{Settings}
use Rattle.fts_steps.specs.Running.{Entry}
use Rattle.fts_steps.specs.Step.{Call}
use Rattle.fts_sessions.specs.Transaction.{Transaction}
use Rattle.fts_turn.specs.declared.turn.Turns.{Turns}
use Rattle.fts_turn.specs.declared.seat.Seat.{Seat}
use Rattle.fts_turn.specs.Promises.{IsAtRest, IsSameSeat, IsSeat, Numbered}
use Rattle.fts_shared.specs.declared.at_turn.AtTurn.{AtTurn}
use Rattle.fts_workers.specs.declared.health.Health.{Health}
use Rattle.fts_workers.specs.Health.{worse}
use Rattle.fts_workers.specs.Workers.{Works, SyncRound, OptimizeRound}
use Rattle.fts_shared.specs.declared.joined.Done.{Done}
use Rattle.fts_shared.specs.declared.joined.Place.{Place}
use Rattle.fts_shared.specs.declared.joined.Sessions.{Sessions}
use Rattle.fts_shared.specs.declared.work.Work.{Work}
use Rattle.fts_shared.specs.Shared.{seat_sight}
use Rattle.fts_shared.specs.Talk.{TalksOn}
use Rattle.fts_shared.specs.Work.{work_lines, work_replies, IsSameWork}

-- so it is of each pair from two lists, which have as many
abbrev pub Pairwise : {A : Type 0} → (A → A → Type 0) → List A → List A → Type 0
Pairwise P [] [] = Unit {0}
Pairwise P [] (y ∷ ys) = ⊥
Pairwise P (x ∷ xs) [] = ⊥
Pairwise P (x ∷ xs) (y ∷ ys) = P x y × Pairwise P xs ys

module _ {D E : Type 0} {rows : Ghosts D} {index : Ghosts E} where
  -- a seat with the work of a session
  abbrev pub at_place : Seat (AtTurn D E rows index) Entry → Work → Place D E rows index
  at_place seat work = record { seat = Some seat; work = work }

  -- each seat with the work at its place in the list
  abbrev pub at_places : List (Seat (AtTurn D E rows index) Entry) → List Work → List (Place D E rows index)
  at_places [] works = []
  at_places (seat ∷ seats) [] = []
  at_places (seat ∷ seats) (work ∷ works) = at_place seat work ∷ at_places seats works

  -- its session executed its lines of a script at the seat, with no transaction open before
  pub record IsDone (lines : List Line) (turn : Turns (AtTurn D E rows index) Entry)
      (seat seat' : Seat (AtTurn D E rows index) Entry) (work work' : Work) : Type 0 where
    pub rest : IsAtRest turn seat'
    pub seat_is : IsSameSeat seat seat'
    pub work_is : IsSameWork work work'
    pub left : Transaction
    pub talks : TalksOn (seat_sight {rows = rows} {index = index}) None (work_lines lines work)
        (work_replies work') left (turn, seat) (turn, seat')

  -- so did each of them
  abbrev pub AreDone : List Line → Turns (AtTurn D E rows index) Entry → List (Seat (AtTurn D E rows index) Entry)
      → List Work → List (Seat (AtTurn D E rows index) Entry) → List Work → Type 0
  AreDone lines turn [] [] [] [] = Unit {0}
  AreDone lines turn (seat ∷ seats) (work ∷ works) (seat' ∷ seats') (work' ∷ works') =
      IsDone lines turn seat seat' work work' × AreDone lines turn seats works seats' works'
  AreDone lines turn seats works seats' works' = ⊥

  -- a place is ready: its seat is at rest
  pub record IsReady (turn : Turns (AtTurn D E rows index) Entry) (place : Place D E rows index) : Type 0 where
    pub seat : Seat (AtTurn D E rows index) Entry
    pub has : place.seat ≡ Some seat
    pub rest : IsAtRest turn seat

  -- a seat stands there
  pub record HasSeat (place : Place D E rows index) : Type 0 where
    pub seat : Seat (AtTurn D E rows index) Entry
    pub has : place.seat ≡ Some seat

  -- its session talked
  pub record HasTalked (lines : List Line) (turn : Turns (AtTurn D E rows index) Entry)
      (old new : Place D E rows index) : Type 0 where
    pub seat : Seat (AtTurn D E rows index) Entry
    pub has : old.seat ≡ Some seat
    pub seat' : Seat (AtTurn D E rows index) Entry
    pub has' : new.seat ≡ Some seat'
    pub done : IsDone lines turn seat seat' old.work new.work

  -- sessions can begin: each has a seat, at rest, and the row has room for them
  pub record AreReady (turn : Turns (AtTurn D E rows index) Entry) (sessions : Sessions D E rows index) : Type 0 where
    pub seats : Numbered (IsSeat turn) 0 sessions.seats.items
    pub count : length sessions.seats.items ≡ length sessions.works.items
    pub none : sessions.row.items ≡ []
    pub room : length sessions.seats.items ≤ vec_capacity sessions.row

  -- a worker made its rounds at the seat, and they met this
  pub record HasWorked (Round : Settings → List Call → Type 0) (turn : Turns (AtTurn D E rows index) Entry)
      (seat seat' : Seat (AtTurn D E rows index) Entry) (met : Health) : Type 0 where
    pub rest : IsAtRest turn seat'
    pub seat_is : IsSameSeat seat seat'
    pub works : Works (seat_sight {rows = rows} {index = index}) Round met (turn, seat) (turn, seat')

  -- the sessions executed their lines at their seats, and the workers made their rounds at the last two
  pub record AreAllDone (lines : List Line) (turn : Turns (AtTurn D E rows index) Entry)
      (seats : List (Seat (AtTurn D E rows index) Entry)) (works : List Work) (done : Done D E rows index)
      : Type 0 where
    pub first : List (Seat (AtTurn D E rows index) Entry)
    pub first' : List (Seat (AtTurn D E rows index) Entry)
    pub sync : Seat (AtTurn D E rows index) Entry
    pub sync' : Seat (AtTurn D E rows index) Entry
    pub optimizer : Seat (AtTurn D E rows index) Entry
    pub optimizer' : Seat (AtTurn D E rows index) Entry
    pub synced : Health
    pub optimized : Health
    pub were : seats ≡ first ++ (sync ∷ optimizer ∷ [])
    pub are : done.seats.items ≡ first' ++ (sync' ∷ optimizer' ∷ [])
    pub sessions : AreDone lines turn first works first' done.works.items
    pub syncs : HasWorked SyncRound turn sync sync' synced
    pub optimizes : HasWorked OptimizeRound turn optimizer optimizer' optimized
    pub met_is : done.met ≡ worse synced optimized
