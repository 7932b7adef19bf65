-- What contracts see of the steps of one seat at the turn.
use Rattle.std.specs.Prelude.{◌≡◌, ℕ, List, ◌++◌, true}
use Rattle.fts_disk.specs.declared.disk.Disk.{Ghosts}
use Rattle.fts_steps.specs.FaultCounts.{together}
use Rattle.fts_steps.specs.Running.{Running, Entry, grown}
use Rattle.fts_steps.specs.Step.{Sight}
use Rattle.fts_turn.specs.declared.turn.Turns.{Turns}
use Rattle.fts_turn.specs.declared.seat.Seat.{Seat}
use Rattle.fts_turn.specs.Promises.{opening_of, seat_number, seat_seen, seat_gave, seat_turns, IsAtRest, IsSameSeat}
use Rattle.fts_engine.specs.declared.engine.Engine.{Engine}
use Rattle.fts_engine.specs.Stands.{Holds, engine_settings, engine_limits, engine_faults, rows_device, index_device}
use Rattle.fts_shared.specs.declared.at_turn.AtTurn.{AtTurn}
use Rattle.fts_shared.specs.History.{faults_in}

-- a turn, and a seat at it
abbrev pub Seated : {D E : Type 0} → Ghosts D → Ghosts E → Type 0
Seated {D} {E} rows index = Turns (AtTurn D E rows index) Entry × Seat (AtTurn D E rows index) Entry

-- the engine that the turn was made with
abbrev pub first_of : {D E : Type 0} {rows : Ghosts D} {index : Ghosts E} → Turns (AtTurn D E rows index) Entry
    → Engine D E rows index
first_of turn = (opening_of turn).engine

-- what contracts see of who has a seat there: it stands for what the first engine held, grown by all that the seat has
-- seen; and its faults are those that it told itself
abbrev pub sight_at : {S D E : Type 0} {rows : Ghosts D} {index : Ghosts E} → (S → Seated rows index) → Sight S
sight_at {D} {E} {rows} {index} at = record {
  is_shared = true;
  Place = Turns (AtTurn D E rows index) Entry × ℕ;
  place = λ s. ((at s).0, (at s).1.inside.me.0.next_number);
  account = λ s. record {
    number = seat_number (at s).1;
    seen = seat_seen (at s).1;
    gave = seat_gave (at s).1;
    turns = seat_turns (at s).1;
  };
  settings = λ s. engine_settings (first_of (at s).0);
  limits = λ s. engine_limits (first_of (at s).0);
  faults = λ s. (faults_in (together (engine_faults (first_of (at s).0))) (seat_gave (at s).1), 0);
  stands = λ running s. (first : Running) × Holds first (first_of (at s).0)
      × (running ≡ grown first (seat_seen (at s).1));
  rows = record { Device = D; disk = rows; device = λ s. rows_device (first_of (at s).0) };
  index = record { Device = E; disk = index; device = λ s. index_device (first_of (at s).0) };
}

-- of the seat itself
abbrev pub seat_sight : {D E : Type 0} {rows : Ghosts D} {index : Ghosts E} → Sight (Seated rows index)
seat_sight = sight_at (λ s. s)

-- the value was given back by a seat that had the turn, with these entries
pub record IsGivenBack {T E : Type 0} (turn : Turns T E) (added : List E) (old new : Seat T E) : Type 0 where
  pub rest : IsAtRest turn new
  pub seen : seat_seen new ≡ seat_seen old ++ added
  pub gave : seat_gave new ≡ seat_gave old ++ added
  pub same : IsSameSeat old new
  pub turns : seat_turns new ≡ seat_turns old
