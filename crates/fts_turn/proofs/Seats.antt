-- Making a turn and its seats.
use Rattle.std.proofs.Common.{◌≡◌, ℕ, zero, suc, ◌+◌, ◌^◌, ◌<◌, ◌≤◌, List, [], ◌∷◌, ◌++◌, length, map, Option, Some, refl, sym, ap, ◌∙◌, subst, arith}
use mathlib.Core.Option.{some, some-injective, some-ne-none}
use lib.ListN.{get_elem?}
use Rattle.atomic_table.specs.Table.{Splits, opening}
use Rattle.fts_turn.specs.declared.TheConstants.{MOST_SEATS}
use Rattle.fts_turn.specs.declared.seat.Seat.{Seat}
use Rattle.fts_turn.specs.declared.turn.Turns.{Turns}
use Rattle.fts_turn.specs.declared.view.View.{View}
use Rattle.fts_turn.specs.Rule.{Fits}
use Rattle.fts_turn.specs.Steps.{Seated}
use Rattle.fts_turn.specs.Views.{first_view, new_account, account_beside, kept_part, new_part}
use Rattle.fts_turn.specs.Promises.{number_in, gave_in, seen_in, seats_of, opening_of, IsUnused, IsSameSeat, IsAtRest, IsSeat, IsMaker, Numbered}
use Rattle.fts_turn.proofs.Steps.{keeps_rule}
use Rattle.fts_turn.proofs.Parts.{splits}

-- one item more
pub Numbered-snoc : {A : Type 0} (P : ℕ → A → Type 0) (k : ℕ) (xs : List A) (x : A) → Numbered P k xs → P (k + length xs) x → Numbered P k (xs ++ x ∷ [])
Numbered-snoc P k [] x all here = (subst (λ n. P n x) (let e : k + 0 ≡ k = omega arith in e) here, tt)
Numbered-snoc P k (y ∷ xs) x all here = (all.0, Numbered-snoc P (suc k) xs x all.1 (subst (λ n. P n x) (let e : k + suc (length xs) ≡ suc k + length xs = omega arith in e) here))

-- the item at a place
pub Numbered-at : {A : Type 0} (P : ℕ → A → Type 0) (k : ℕ) (xs ys : List A) (x : A) → Numbered P k (xs ++ x ∷ ys) → P (k + length xs) x
Numbered-at P k [] ys x all = subst (λ n. P n x) (let e : k ≡ k + 0 = omega arith in e) all.0
Numbered-at P k (z ∷ xs) ys x all = subst (λ n. P n x) (let e : suc k + length xs ≡ k + suc (length xs) = omega arith in e) (Numbered-at P (suc k) xs ys x all.1)

-- those in front
pub Numbered-front : {A : Type 0} (P : ℕ → A → Type 0) (k : ℕ) (xs ys : List A) → Numbered P k (xs ++ ys) → Numbered P k xs
Numbered-front P k [] ys all = tt
Numbered-front P k (x ∷ xs) ys all = (all.0, Numbered-front P (suc k) xs ys all.1)

-- a seat that was used and rests again is at its place
pub same_place : {T E : Type 0} (turn : Turns T E) (number : ℕ) (old new : Seat T E) → IsSeat turn number old → IsAtRest turn new → IsSameSeat old new → IsSeat turn number new
same_place turn number old new is rest same = record { rest = rest; number_is = same.number ∙ is.number_is; last = λ e. same.makes ∙ is.last e; others = λ e. same.makes ∙ is.others e }

module _ {T E : Type 0} (stands_for : T → T → List E → Type 0) (at_first : T → ℕ) (by : E → ℕ) (start : T) where
  -- the rule holds of the value alone and the first seat
  pub opens : (count : ℕ) (slots : List (Option T)) → slots ≡ Some start ∷ [] → count ≡ at_first start → at_first start + 0 < 2 ^ 63 → stands_for start start [] → keeps_rule stands_for at_first by start (opening (0 ∷ 0 ∷ count ∷ []) slots (first_view start))
  opens count slots is counted few begins = record {
    history = [];
    made = 1;
    maker = 0;
    serving = 0;
    next = 0;
    holder = λ _. 0;
    queuer = λ _. 0;
    three = ap (λ (n : ℕ). 0 ∷ 0 ∷ n ∷ []) (counted ∙ omega arith);
    few = few;
    early = omega arith;
    line = refl;
    seats = omega arith;
    each = each;
    unmade = λ _ _. refl;
    home = λ _. (start, ap (λ (l : List (Option T)). get_elem? (map some l) 0) is, begins);
  }
    where
      each : (j : ℕ) (v : View T E) → get_elem? (first_view start ∷ []) j ≡ some v → Fits by start [] 1 0 0 0 (λ _. 0) (λ _. 0) j v
      each zero v at = subst (Fits by start [] 1 0 0 0 (λ _. 0) (λ _. 0) 0) (some-injective (first_view start) v at)
          record { accounts = (record { origin = refl; held = refl; number = omega arith; seen = ([], refl); gave = refl }, tt); stage = tt; makes = λ _. (refl, refl) }
      each (suc j) v at = absurd (some-ne-none v (sym at))

module _ {T E : Type 0} (turn : Turns T E) (number : ℕ) (seat : Seat T E) (maker : IsMaker turn number seat) where
  pub may_split : (stands_for : T → T → List E → Type 0) (at_first : T → ℕ) (by : E → ℕ) → suc number < seats_of turn → seats_of turn ≤ MOST_SEATS → Splits (keeps_rule stands_for at_first by (opening_of turn)) seat.inside.id seat.inside.me.0 (kept_part seat.inside.me.0) (new_part seat.inside.me.0)
  may_split stands_for at_first by more limit =
      let next = maker.next in
      let left = maker.left in
      splits stands_for at_first by (opening_of turn) seat.inside.id seat.inside.me.0 maker.rest.at.account maker.rest.rests maker.rest.at.one (omega arith) (omega arith)

  -- the seat that made the next one is a seat like the others
  pub seat_after : (new : Seat T E) → suc number < seats_of turn → new.inside.table_id ≡ seat.inside.table_id → new.inside.me ≡ (kept_part seat.inside.me.0, seat.inside.me.1) → IsSeat turn number new
  seat_after new more table is =
      let accounts = ap (λ (x : Seated T E). x.0.accounts) is in
      record {
        rest = record {
          at = record { table = table ∙ maker.rest.at.table; account = maker.rest.at.account; one = accounts ∙ maker.rest.at.one; origin = maker.rest.at.origin };
          rests = ap (λ (x : Seated T E). x.0.stage) is ∙ maker.rest.rests;
          holds_nothing = ap (λ (x : Seated T E). x.1) is ∙ maker.rest.holds_nothing;
        };
        number_is = ap number_in accounts ∙ maker.number_is;
        last = λ e. absurd (omega arith);
        others = λ _. ap (λ (x : Seated T E). x.0.next_number) is;
      }

  pub unused_after : (new : Seat T E) → new.inside.me ≡ (kept_part seat.inside.me.0, seat.inside.me.1) → IsUnused new
  unused_after new is =
      let accounts = ap (λ (x : Seated T E). x.0.accounts) is in
      record { seen = ap seen_in accounts ∙ maker.unused.seen; gave = ap gave_in accounts ∙ maker.unused.gave; turns = ap (λ (x : Seated T E). x.0.turns) is ∙ maker.unused.turns }

  -- the seat that was made makes those after it
  pub maker_after : (new : Seat T E) → suc number < seats_of turn → seats_of turn ≤ MOST_SEATS → new.inside.table_id ≡ seat.inside.table_id → new.inside.me ≡ (new_part seat.inside.me.0, []) → IsMaker turn (suc number) new
  maker_after new more limit table is =
      let v = seat.inside.me.0 in
      let a = maker.rest.at.account in
      let next = maker.next in
      let left = maker.left in
      let accounts = ap (λ (x : Seated T E). x.0.accounts) is ∙ ap (account_beside v.next_number) maker.rest.at.one in
      let next_is = ap (λ (x : Seated T E). x.0.next_number) is in
      let left_is = ap (λ (x : Seated T E). x.0.seats_left) is in
      record {
        rest = record {
          at = record { table = table ∙ maker.rest.at.table; account = new_account a.origin v.next_number a.seen; one = accounts; origin = maker.rest.at.origin };
          rests = ap (λ (x : Seated T E). x.0.stage) is;
          holds_nothing = ap (λ (x : Seated T E). x.1) is;
        };
        number_is = ap number_in accounts ∙ maker.next;
        next = omega arith;
        left = omega arith;
        unused = record { seen = ap seen_in accounts ∙ ap seen_in (sym maker.rest.at.one) ∙ maker.unused.seen; gave = ap gave_in accounts; turns = ap (λ (x : Seated T E). x.0.turns) is };
      }

  -- the last seat makes no other
  pub last_is_seat : suc number ≡ seats_of turn → IsSeat turn number seat
  last_is_seat last = record { rest = maker.rest; number_is = maker.number_is; last = λ _. maker.next ∙ last; others = λ more. absurd (omega arith) }

pub Numbered-push : {A : Type 0} (P : ℕ → A → Type 0) (xs : List A) (x : A) → Numbered P 0 xs → P (length xs) x → Numbered P 0 (xs ++ x ∷ [])
Numbered-push P xs x all here = Numbered-snoc P 0 xs x all (subst (λ n. P n x) (let e : length xs ≡ 0 + length xs = omega arith in e) here)

pub opens_as : {T E : Type 0} (stands_for : T → T → List E → Type 0) (at_first : T → ℕ) (by : E → ℕ) (start value : T) (count : ℕ) (slots : List (Option T)) → start ≡ value → slots ≡ Some value ∷ [] → count ≡ at_first value → at_first value + 0 < 2 ^ 63 → stands_for value value [] → keeps_rule stands_for at_first by start (opening (0 ∷ 0 ∷ count ∷ []) slots (first_view start))
opens_as stands_for at_first by start value count slots same is counted few begins = subst (λ s. keeps_rule stands_for at_first by s (opening (0 ∷ 0 ∷ count ∷ []) slots (first_view s))) (sym same) (opens stands_for at_first by value count slots is counted few begins)

-- the first seat is to make the others
pub first_is_maker : {T E : Type 0} (turn : Turns T E) (seat : Seat T E) (start : T) → seat.inside.table_id ≡ turn.table.shared.table_id → seat.inside.me ≡ (first_view start, []) → start ≡ opening_of turn → IsMaker turn 0 seat
first_is_maker {T} {E} turn seat start table is same =
    let accounts = ap (λ (x : Seated T E). x.0.accounts) is in
    let next = ap (λ (x : Seated T E). x.0.next_number) is in
    let left = ap (λ (x : Seated T E). x.0.seats_left) is in
    record {
      rest = record {
        at = record { table = table; account = new_account start 0 []; one = accounts; origin = same };
        rests = ap (λ (x : Seated T E). x.0.stage) is;
        holds_nothing = ap (λ (x : Seated T E). x.1) is;
      };
      number_is = ap number_in accounts;
      next = next;
      left = omega arith;
      unused = record { seen = ap seen_in accounts; gave = ap gave_in accounts; turns = ap (λ (x : Seated T E). x.0.turns) is };
    }
