-- From what a call of the turn asks to what its steps ask, and from what they tell to what it ensures.
use Rattle.std.proofs.Common.{◌≡◌, ℕ, ◌+◌, ◌^◌, ◌%◌, ◌<◌, List, [], ◌∷◌, ◌++◌, length, Option, Some, None, sym, ap, ◌∙◌, subst}
use Rattle.atomic_table.specs.Table.{Allows, rest}
use Rattle.fts_turn.specs.declared.seat.Seat.{Seat}
use Rattle.fts_turn.specs.declared.turn.Turns.{Turns}
use Rattle.fts_turn.specs.declared.view.Account.{Account}
use Rattle.fts_turn.specs.Histories.{AllBy}
use Rattle.fts_turn.specs.Views.{waiting, adding}
use Rattle.fts_turn.specs.Steps.{Seated, Draws, Looks, Raises, Leaves}
use Rattle.fts_turn.specs.Promises.{number_in, seen_in, seat_number, seat_seen, opening_of, IsAtRest, HasItsTurn, IsWaiting, IsServedAt}
use Rattle.fts_turn.proofs.Steps.{same_one, keeps_rule, draws, raises, leaves_as, looks}

-- the value is in the slot, and the entries are added
pub put_in : {T E : Type 0} (a : Account T E) (added : List E) (value : T) (m m1 m2 : Seated T E) → m.0.accounts ≡ a ∷ [] → m.1 ≡ (0, None) ∷ [] → Raises added m m1 → m2 ≡ (m1.0, (0, Some value) ∷ rest m1.1) → m2 ≡ (adding m.0 a added, (0, Some value) ∷ [])
put_in {T} {E} a added value m m1 m2 one holds raised put =
    let e = raised a one in
    let there : m1 ≡ (adding m.0 a added, (0, None) ∷ []) = e ∙ ap (λ (cs : List (ℕ × Option T)). (adding m.0 a added, cs)) holds in
    put ∙ ap (λ (x : Seated T E). (x.0, (0, Some value) ∷ rest x.1)) there

module _ {T E : Type 0} (stands_for : T → T → List E → Type 0) (at_first : T → ℕ) (by : E → ℕ) (turn : Turns T E) (seat : Seat T E) where
  pub may_raise : (slots n : ℕ) (value : T) (added : List E) → HasItsTurn turn seat → length added ≡ n → AllBy by (seat_number seat) added → at_first (opening_of turn) + length (seat_seen seat ++ added) < 2 ^ 63 → Allows (keeps_rule stands_for at_first by (opening_of turn)) slots seat.inside.id seat.inside.me 2 (λ k. (k + n) % 2 ^ 64) (λ _. Raises added seat.inside.me)
  may_raise slots n value added has many all few =
      let at = has.at in
      let a = at.account in
      raises stands_for at_first by (opening_of turn) slots seat.inside.id seat.inside.me has.ticket n a added has.has at.one many
      (subst (λ accounts. AllBy by (number_in accounts) added) at.one all)
      (subst (λ (y : T × List (Account T E)). at_first y.0 + length (seen_in y.1 ++ added) < 2 ^ 63) (λ i. (sym at.origin i, at.one i)) few)

  -- the account after the entries were added
  abbrev pub after : HasItsTurn turn seat → List E → Account T E
  after has added = record has.at.account { gave = has.at.account.gave ++ added; seen = has.at.account.seen ++ added }

  pub may_leave : (slots id : ℕ) (m : Seated T E) (value : T) (added : List E) (has : HasItsTurn turn seat) → slots ≡ 1 → m ≡ (adding seat.inside.me.0 has.at.account added, (0, Some value) ∷ []) → stands_for (opening_of turn) value (seat_seen seat ++ added) → Allows (keeps_rule stands_for at_first by (opening_of turn)) slots id m 1 (λ k. (k + 1) % 2 ^ 64) (λ _. Leaves m)
  may_leave slots id m value added has one_slot is stands =
      let at = has.at in
      leaves_as stands_for at_first by (opening_of turn) slots id m has.ticket (after has added) value (ap (λ (x : Seated T E). x.1) is) one_slot
      (ap (λ (x : Seated T E). x.0.stage) is ∙ has.has)
      (ap (λ (x : Seated T E). x.0.accounts) is)
      (subst (λ (y : T × List (Account T E)). stands_for y.0 value (seen_in y.1 ++ added)) (λ i. (sym at.origin i, at.one i)) stands)

  pub rests_after : (new : Seat T E) (m : Seated T E) (value : T) (added : List E) (has : HasItsTurn turn seat) → new.inside.table_id ≡ turn.table.shared.table_id → m ≡ (adding seat.inside.me.0 has.at.account added, (0, Some value) ∷ []) → Leaves m new.inside.me → IsAtRest turn new
  rests_after new m value added has table is left = record {
    at = record {
      table = table;
      account = after has added;
      one = ap (λ (x : Seated T E). x.0.accounts) left ∙ ap (λ (x : Seated T E). x.0.accounts) is;
      origin = has.at.origin;
    };
    rests = ap (λ (x : Seated T E). x.0.stage) left;
    holds_nothing = ap (λ (x : Seated T E). x.1) left;
  }

  pub may_draw : (slots : ℕ) → IsAtRest turn seat → Allows (keeps_rule stands_for at_first by (opening_of turn)) slots seat.inside.id seat.inside.me 0 (λ n. (n + 1) % 2 ^ 64) (λ n. Draws seat.inside.me n)
  may_draw slots rest = draws stands_for at_first by (opening_of turn) slots seat.inside.id seat.inside.me rest.at.account rest.rests rest.at.one

  pub waits_after : (new : Seat T E) (ticket : ℕ) → IsAtRest turn seat → new.inside.table_id ≡ turn.table.shared.table_id → Draws seat.inside.me ticket new.inside.me → IsWaiting turn ticket new
  waits_after new ticket rest table drew = record {
    at = record { table = table; account = rest.at.account; one = ap (λ (x : Seated T E). x.0.accounts) drew ∙ rest.at.one; origin = rest.at.origin };
    waits = ap (λ (x : Seated T E). x.0.stage) drew;
    holds_nothing = ap (λ (x : Seated T E). x.1) drew ∙ rest.holds_nothing;
  }

  pub may_look : (slots id ticket : ℕ) (m : Seated T E) → IsWaiting turn ticket seat → m ≡ seat.inside.me → Allows (keeps_rule stands_for at_first by (opening_of turn)) slots id m 1 (λ n. n) (λ n. Looks stands_for by m n)
  may_look slots id ticket m waiting is = looks stands_for at_first by (opening_of turn) slots id m ticket waiting.at.account (ap (λ (x : Seated T E). x.0.stage) is ∙ waiting.waits) (ap (λ (x : Seated T E). x.0.accounts) is ∙ waiting.at.one)

  pub served_after : (new : Seat T E) (ticket found : ℕ) (m : Seated T E) → IsWaiting turn ticket seat → m ≡ seat.inside.me → new.inside.table_id ≡ seat.inside.table_id → found ≡ ticket → ticket < 2 ^ 63 → Looks stands_for by m found new.inside.me → IsServedAt stands_for by ticket seat new
  served_after new ticket found m waiting is table served early looked =
      let a = waiting.at.account in
      let looked_here = subst (λ x. Looks stands_for by x found new.inside.me) is looked in
      record { table = table; early = early; account = a; one = waiting.at.one; takes = (looked_here ticket a waiting.waits waiting.at.one).0 served early }

  pub waits_still : (ticket found : ℕ) (m after_ : Seated T E) → IsWaiting turn ticket seat → m ≡ seat.inside.me → ¬ ((found ≡ ticket) × (ticket < 2 ^ 63)) → Looks stands_for by m found after_ → after_ ≡ seat.inside.me
  waits_still ticket found m after_ waiting is not_yet looked =
      let a = waiting.at.account in
      (looked ticket a (ap (λ (x : Seated T E). x.0.stage) is ∙ waiting.waits) (ap (λ (x : Seated T E). x.0.accounts) is ∙ waiting.at.one)).1 not_yet ∙ is

-- what is taken first stands first
pub taken_first : {T : Type 0} (cs ds : List (ℕ × Option T)) (y : ℕ × Option T) → cs ≡ y ∷ ds → cs ≡ y ∷ rest cs
taken_first {T} cs ds y e = e ∙ sym (ap (λ (l : List (ℕ × Option T)). y ∷ rest l) e)

module _ {T E : Type 0} (stands_for : T → T → List E → Type 0) (by : E → ℕ) (turn : Turns T E) (old drawn served new : Seat T E) (ticket : ℕ) where
  -- a seat that rested drew a ticket, was served, and has the turn once the value is out of the slot
  pub has_turn_after : IsAtRest turn old → Draws old.inside.me ticket drawn.inside.me → (at : IsServedAt stands_for by ticket drawn served) → new.inside.table_id ≡ turn.table.shared.table_id → new.inside.me ≡ (served.inside.me.0, (0, None) ∷ rest served.inside.me.1) → HasItsTurn turn new
  has_turn_after resting_ drew at table out =
      let now = at.takes.now in
      let same : at.account ≡ resting_.at.account = same_one at.account resting_.at.account (sym at.one ∙ ap (λ (x : Seated T E). x.0.accounts) drew ∙ resting_.at.one) in
      record {
        at = record {
          table = table;
          account = record at.account { seen = at.takes.history };
          one = ap (λ (x : Seated T E). x.0.accounts) out ∙ ap (λ (x : Seated T E). x.0.accounts) now;
          origin = ap (λ (x : Account T E). x.origin) same ∙ resting_.at.origin;
        };
        ticket = ticket;
        has = ap (λ (x : Seated T E). x.0.stage) out ∙ ap (λ (x : Seated T E). x.0.stage) now;
        early = at.early;
        holds = ap (λ (x : Seated T E). x.1) out
            ∙ ap (λ (l : List (ℕ × Option T)). (0, None) ∷ rest l) (ap (λ (x : Seated T E). x.1) now)
            ∙ ap (λ (l : List (ℕ × Option T)). (0, None) ∷ l) (ap (λ (x : Seated T E). x.1) drew ∙ resting_.holds_nothing);
      }
