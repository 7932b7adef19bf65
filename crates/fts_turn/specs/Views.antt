-- What seats know, and how each step changes it.
use Rattle.std.specs.Prelude.{ℕ, ◌+◌, ◌-◌, List, [], ◌∷◌, ◌++◌, length}
use Rattle.fts_turn.specs.declared.TheConstants.{MOST_SEATS}
use Rattle.fts_turn.specs.declared.view.Account.{Account}
use Rattle.fts_turn.specs.declared.view.Stage.{Stage}
use Rattle.fts_turn.specs.declared.view.Stage.TheVariants.{Rests, Waits, HasTurn}
use Rattle.fts_turn.specs.declared.view.View.{View}

-- 1 for a seat that waits or has the turn, and 0 for one that rests
abbrev pub place_in_line : Stage → ℕ
place_in_line Rests = 0
place_in_line (Waits ticket) = 1
place_in_line (HasTurn ticket) = 1

-- the value is out with a seat at this stage
abbrev pub IsOut : Stage → Type 0
IsOut Rests = ⊥
IsOut (Waits ticket) = ⊥
IsOut (HasTurn ticket) = Unit {0}

module _ {T E : Type 0} where
  abbrev pub in_line : View T E → ℕ
  in_line v = place_in_line v.stage

  -- the seats that a view stands for, and those that it can still make
  abbrev pub weight : View T E → ℕ
  weight v = length v.accounts + v.seats_left

  -- the account of a new seat, which has seen this and given nothing
  abbrev pub new_account : T → ℕ → List E → Account T E
  new_account origin number seen = record { origin = origin; number = number; gave = []; seen = seen }

  -- the first seat, which makes the others
  abbrev pub first_view : T → View T E
  first_view origin = record {
    accounts = new_account origin 0 [] ∷ [];
    stage = Rests;
    next_number = 1;
    seats_left =
        MOST_SEATS - 1;
    turns = 0;
  }

  -- it drew this ticket
  abbrev pub waiting : View T E → ℕ → View T E
  waiting v ticket = record v { stage = Waits ticket; turns = v.turns + 1 }

  -- it has the turn, and has seen the whole history
  abbrev pub turning : View T E → Account T E → ℕ → List E → View T E
  turning v a ticket history = record v { accounts = record a { seen = history } ∷ []; stage = HasTurn ticket }

  -- it added these entries
  abbrev pub adding : View T E → Account T E → List E → View T E
  adding v a added = record v { accounts = record a { gave = a.gave ++ added; seen = a.seen ++ added } ∷ [] }

  -- it has no ticket
  abbrev pub resting : View T E → View T E
  resting v = record v { stage = Rests }

  -- it makes no more seats
  abbrev pub kept_part : View T E → View T E
  kept_part v = record v { next_number = 0; seats_left = 0 }

  -- the account of a seat that is made beside another: of the same history it has seen the same
  abbrev pub account_beside : ℕ → List (Account T E) → List (Account T E)
  account_beside number [] = []
  account_beside number (a ∷ others) = new_account a.origin number a.seen ∷ []

  -- the next seat, which makes those after it
  abbrev pub new_part : View T E → View T E
  new_part v = record {
    accounts = account_beside v.next_number v.accounts;
    stage = Rests;
    next_number =
        v.next_number + 1;
    seats_left = v.seats_left - 1;
    turns = 0;
  }

  -- one seat with the accounts of two
  abbrev pub both_parts : View T E → View T E → View T E
  both_parts v w = record {
    accounts = v.accounts ++ w.accounts;
    stage = v.stage;
    next_number =
        v.next_number + w.next_number;
    seats_left = v.seats_left + w.seats_left;
    turns = v.turns + w.turns;
  }

  -- a seat that was taken in by another: it has no account and no ticket
  abbrev pub spent_part : View T E
  spent_part = record { accounts = []; stage = Rests; next_number = 0; seats_left = 0; turns = 0 }
