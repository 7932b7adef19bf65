-- What the calls of the turn promise.
use Rattle.std.specs.Prelude.{◌≡◌, ℕ, suc, ◌+◌, ◌^◌, ◌<◌, List, [], ◌∷◌, None}
use Rattle.fts_turn.specs.declared.seat.Seat.{Seat}
use Rattle.fts_turn.specs.declared.TheConstants.{MOST_SEATS}
use Rattle.fts_turn.specs.declared.turn.Turns.{Turns}
use Rattle.fts_turn.specs.declared.view.Account.{Account}
use Rattle.fts_turn.specs.declared.view.Stage.TheVariants.{Rests, Waits, HasTurn}
use Rattle.fts_turn.specs.Histories.{Begins, entries_by, NoneFrom}
use Rattle.fts_turn.specs.Steps.{TakesTurn}

module _ {T E : Type 0} where
  abbrev pub number_in : List (Account T E) → ℕ
  number_in [] = 0
  number_in (a ∷ others) = a.number

  abbrev pub gave_in : List (Account T E) → List E
  gave_in [] = []
  gave_in (a ∷ others) = a.gave

  abbrev pub seen_in : List (Account T E) → List E
  seen_in [] = []
  seen_in (a ∷ others) = a.seen

  -- the number of a seat, from 0 on
  abbrev pub seat_number : Seat T E → ℕ
  seat_number seat = number_in seat.inside.me.0.accounts

  -- the entries that a seat gave, in their order
  abbrev pub seat_gave : Seat T E → List E
  seat_gave seat = gave_in seat.inside.me.0.accounts

  -- the beginning of the history that a seat has seen
  abbrev pub seat_seen : Seat T E → List E
  seat_seen seat = seen_in seat.inside.me.0.accounts

  -- how often a seat asked for the turn
  abbrev pub seat_turns : Seat T E → ℕ
  seat_turns seat = seat.inside.me.0.turns

  -- how many seats a turn has
  abbrev pub seats_of : Turns T E → ℕ
  seats_of turn = turn.seats

  -- the value that a turn was made with
  abbrev pub opening_of : Turns T E → T
  opening_of turn = turn.table.shared.key.value

  -- a seat at this turn, which stands for itself alone
  pub record IsSeatAt (turn : Turns T E) (seat : Seat T E) : Type 0 where
    pub table : seat.inside.table_id ≡ turn.table.shared.table_id
    pub account : Account T E
    pub one : seat.inside.me.0.accounts ≡ account ∷ []
    pub origin : account.origin ≡ opening_of turn

  -- it has no ticket and doesn't hold the value
  pub record IsAtRest (turn : Turns T E) (seat : Seat T E) : Type 0 where
    pub at : IsSeatAt turn seat
    pub rests : seat.inside.me.0.stage ≡ Rests
    pub holds_nothing : seat.inside.me.1 ≡ []

  -- it has the turn, and the value was handed out
  pub record HasItsTurn (turn : Turns T E) (seat : Seat T E) : Type 0 where
    pub at : IsSeatAt turn seat
    pub ticket : ℕ
    pub has : seat.inside.me.0.stage ≡ HasTurn ticket
    pub early : ticket < 2 ^ 63
    pub holds : seat.inside.me.1 ≡ (0, None) ∷ []

  -- one seat at two moments: it has the same number, and is as far from making others
  pub record IsSameSeat (old new : Seat T E) : Type 0 where
    pub number : seat_number new ≡ seat_number old
    pub makes : new.inside.me.0.next_number ≡ old.inside.me.0.next_number

  -- a seat that was never used
  pub record IsUnused (seat : Seat T E) : Type 0 where
    pub seen : seat_seen seat ≡ []
    pub gave : seat_gave seat ≡ []
    pub turns : seat_turns seat ≡ 0

  -- the seat with this number at the turn, at rest
  pub record IsSeat (turn : Turns T E) (number : ℕ) (seat : Seat T E) : Type 0 where
    pub rest : IsAtRest turn seat
    pub number_is : seat_number seat ≡ number
    pub last : suc number ≡ seats_of turn → seat.inside.me.0.next_number ≡ seats_of turn
    pub others : suc number < seats_of turn → seat.inside.me.0.next_number ≡ 0

  -- the seat with this number, never used, which is to make those after it
  pub record IsMaker (turn : Turns T E) (number : ℕ) (seat : Seat T E) : Type 0 where
    pub rest : IsAtRest turn seat
    pub number_is : seat_number seat ≡ number
    pub next : seat.inside.me.0.next_number ≡ suc number
    pub left : seat.inside.me.0.seats_left + suc number ≡ MOST_SEATS
    pub unused : IsUnused seat

  -- it waits with this ticket
  pub record IsWaiting (turn : Turns T E) (ticket : ℕ) (seat : Seat T E) : Type 0 where
    pub at : IsSeatAt turn seat
    pub waits : seat.inside.me.0.stage ≡ Waits ticket
    pub holds_nothing : seat.inside.me.1 ≡ []

  -- a seat that waited with this ticket has the turn, and the value is still in the slot
  pub record IsServedAt (stands_for : T → T → List E → Type 0) (by : E → ℕ) (ticket : ℕ) (old new : Seat T E) : Type 0
    where
      pub table : new.inside.table_id ≡ old.inside.table_id
      pub early : ticket < 2 ^ 63
      pub account : Account T E
      pub one : old.inside.me.0.accounts ≡ account ∷ []
      pub takes : TakesTurn stands_for by ticket account old.inside.me new.inside.me

  -- what a seat knew at the end of this history: a beginning of it, and all entries of its number
  pub record IsToldBy (by : E → ℕ) (history : List E) (number : ℕ) (seat : Seat T E) : Type 0 where
    pub seen : Begins (seat_seen seat) history
    pub gave : entries_by by number history ≡ seat_gave seat

-- each item has the property with its number, counted from k on
abbrev pub Numbered : {A : Type 0} → (ℕ → A → Type 0) → ℕ → List A → Type 0
Numbered P k [] = Unit {0}
Numbered P k (x ∷ items) = P k x × Numbered P (suc k) items

-- accounts with the numbers from k on tell what these seats gave and saw
abbrev pub AreAccountsOf : {T E : Type 0} → ℕ → List (Account T E) → List (Seat T E) → Type 0
AreAccountsOf k [] [] = Unit {0}
AreAccountsOf k [] (seat ∷ seats) = ⊥
AreAccountsOf k (a ∷ accounts) [] = ⊥
AreAccountsOf k (a ∷ accounts) (seat ∷ seats) = (a.number ≡ k) × (a.seen ≡ seat_seen seat) × (a.gave ≡ seat_gave seat)
    × AreAccountsOf (suc k) accounts seats

-- one seat, at rest, with the accounts of all
pub record IsGathered {T E : Type 0} (turn : Turns T E) (seats : List (Seat T E)) (all : Seat T E) : Type 0 where
  pub table : all.inside.table_id ≡ turn.table.shared.table_id
  pub rests : all.inside.me.0.stage ≡ Rests
  pub holds_nothing : all.inside.me.1 ≡ []
  pub accounts : AreAccountsOf 0 all.inside.me.0.accounts seats
  pub made : all.inside.me.0.next_number ≡ seats_of turn

-- the value at the end stands for one history, which has the entries of these seats and no others
pub record HasWholeHistory {T E : Type 0} (stands_for : T → T → List E → Type 0) (by : E → ℕ) (turn : Turns T E)
    (seats : List (Seat T E)) (value : T) : Type 0 where
  pub history : List E
  pub stands : stands_for (opening_of turn) value history
  pub seats_are : Numbered (IsToldBy by history) 0 seats
  pub no_others : NoneFrom by (seats_of turn) history
