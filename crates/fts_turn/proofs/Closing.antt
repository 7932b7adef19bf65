-- Taking in all seats, and what the last state tells.
use Rattle.std.proofs.Common.{◌≡◌, ℕ, suc, ◌+◌, ◌<◌, ◌≤◌, List, [], ◌∷◌, ◌++◌, length, Option, Some, sym, ap, ◌∙◌, subst, append_assoc, length-append, arith}
use Rattle.std.proofs.lemmas.List.{append-nil}
use mathlib.Core.Logic.{dite}
use native.Mathlib.Decide.{ℕ_discrete}
use mathlib.Core.Option.{some, some-injective}
use lib.ListN.{get_elem?}
use Rattle.atomic_table.specs.Table.{State, Joins}
use Rattle.fts_turn.specs.declared.seat.Seat.{Seat}
use Rattle.fts_turn.specs.declared.turn.Turns.{Turns}
use Rattle.fts_turn.specs.declared.view.Account.{Account}
use Rattle.fts_turn.specs.declared.view.Stage.{Stage}
use Rattle.fts_turn.specs.declared.view.Stage.TheVariants.{Rests, Waits, HasTurn}
use Rattle.fts_turn.specs.declared.view.View.{View}
use Rattle.fts_turn.specs.Histories.{Begins, entries_by, NoneFrom}
use Rattle.fts_turn.specs.Rule.{AreTrueAccounts, FitsStage, NobodyHas}
use Rattle.fts_turn.specs.Steps.{Seated}
use Rattle.fts_turn.specs.Views.{IsOut, both_parts, spent_part}
use Rattle.fts_turn.specs.Promises.{number_in, gave_in, seen_in, seats_of, opening_of, IsSeat, IsToldBy, Numbered, AreAccountsOf, IsGathered, HasWholeHistory}
use Rattle.fts_turn.proofs.Steps.{keeps_rule, rests_not_out}
use Rattle.fts_turn.proofs.Parts.{joins}
use Rattle.fts_turn.proofs.Seats.{Numbered-at}

-- of the seats in their order, those behind were taken in by one seat, and those in front were not
pub record IsGathering {T E : Type 0} (turn : Turns T E) (seats front : List (Seat T E)) (all : Seat T E) : Type 0 where
  pub behind : List (Seat T E)
  pub parts : seats ≡ front ++ behind
  pub some_behind : 0 < length behind
  pub table : all.inside.table_id ≡ turn.table.shared.table_id
  pub rests : all.inside.me.0.stage ≡ Rests
  pub holds_nothing : all.inside.me.1 ≡ []
  pub accounts : AreAccountsOf (length front) all.inside.me.0.accounts behind
  pub made : all.inside.me.0.next_number ≡ seats_of turn

module _ {T E : Type 0} (turn : Turns T E) (seats : List (Seat T E)) (count : length seats ≡ seats_of turn) (numbered : Numbered (IsSeat turn) 0 seats) where
  -- one seat's account, in front of others
  accounts_with : (k : ℕ) (seat : Seat T E) (accounts : List (Account T E)) (behind : List (Seat T E)) → IsSeat turn k seat → AreAccountsOf (suc k) accounts behind → AreAccountsOf k (seat.inside.me.0.accounts ++ accounts) (seat ∷ behind)
  accounts_with k seat accounts behind is told =
      let one = is.rest.at.one in
      subst (λ own. AreAccountsOf k (own ++ accounts) (seat ∷ behind)) (sym one)
      (sym (ap number_in one) ∙ is.number_is, sym (ap seen_in one), sym (ap gave_in one), told)

  seat_at : (front behind : List (Seat T E)) (seat : Seat T E) → seats ≡ front ++ seat ∷ behind → IsSeat turn (length front) seat
  seat_at front behind seat parts = subst (λ n. IsSeat turn n seat) (let e : 0 + length front ≡ length front = omega arith in e) (Numbered-at (IsSeat turn) 0 front behind seat (subst (Numbered (IsSeat turn) 0) parts numbered))

  -- the last seat stands for itself
  pub gathers_last : (front : List (Seat T E)) (all : Seat T E) → seats ≡ front ++ all ∷ [] → IsGathering turn seats front all
  gathers_last front all parts =
      let is = seat_at front [] all parts in
      let sizes = ap length parts ∙ length-append front (all ∷ []) in
      record {
        behind = all ∷ [];
        parts = parts;
        some_behind = omega arith;
        table = is.rest.at.table;
        rests = is.rest.rests;
        holds_nothing = is.rest.holds_nothing;
        accounts = subst (λ own. AreAccountsOf (length front) own (all ∷ [])) (append-nil all.inside.me.0.accounts) (accounts_with (length front) all [] [] is tt);
        made = is.last (omega arith);
      }

  module _ (front : List (Seat T E)) (all seat : Seat T E) (before : List (Seat T E)) (g : IsGathering turn seats before all) (popped : before ≡ front ++ seat ∷ []) where
    parts_of : seats ≡ front ++ seat ∷ g.behind
    parts_of = g.parts ∙ ap (λ l. l ++ g.behind) popped ∙ append_assoc front (seat ∷ []) g.behind

    pub may_join : (stands_for : T → T → List E → Type 0) (at_first : T → ℕ) (by : E → ℕ) → Joins (keeps_rule stands_for at_first by (opening_of turn)) seat.inside.id seat.inside.me.0 all.inside.id all.inside.me.0 (both_parts seat.inside.me.0 all.inside.me.0) spent_part
    may_join stands_for at_first by = joins stands_for at_first by (opening_of turn) seat.inside.id all.inside.id seat.inside.me.0 all.inside.me.0 (seat_at front g.behind seat parts_of).rest.rests g.rests

    pub seat_is : IsSeat turn (length front) seat
    seat_is = seat_at front g.behind seat parts_of

    -- the seat before takes in all those behind it
    pub gathers_next : (new : Seat T E) → new.inside.table_id ≡ seat.inside.table_id → new.inside.me ≡ (both_parts seat.inside.me.0 all.inside.me.0, seat.inside.me.1) → IsGathering turn seats front new
    gathers_next new table is =
        let own = seat_at front g.behind seat parts_of in
        let sizes = ap length parts_of ∙ length-append front (seat ∷ g.behind) in
        let some_behind = g.some_behind in
        let before_is : length before ≡ suc (length front) = ap length popped ∙ length-append front (seat ∷ []) ∙ omega arith in
        let no_next : seat.inside.me.0.next_number ≡ 0 = own.others (omega arith) in
        let all_next = g.made in
        let sum = ap (λ (x : Seated T E). x.0.next_number) is in
        record {
          behind = seat ∷ g.behind;
          parts = parts_of;
          some_behind = omega arith;
          table = table ∙ own.rest.at.table;
          rests = ap (λ (x : Seated T E). x.0.stage) is ∙ own.rest.rests;
          holds_nothing = ap (λ (x : Seated T E). x.1) is ∙ own.rest.holds_nothing;
          accounts = subst (λ accounts. AreAccountsOf (length front) accounts (seat ∷ g.behind)) (sym (ap (λ (x : Seated T E). x.0.accounts) is))
              (accounts_with (length front) seat all.inside.me.0.accounts g.behind own (subst (λ n. AreAccountsOf n all.inside.me.0.accounts g.behind) before_is g.accounts));
          made = omega arith;
        }

  pub gathered : (front : List (Seat T E)) (all : Seat T E) → IsGathering turn seats front all → length front ≡ 0 → IsGathered turn seats all
  gathered [] all g none = record { table = g.table; rests = g.rests; holds_nothing = g.holds_nothing; accounts = subst (AreAccountsOf 0 all.inside.me.0.accounts) (sym g.parts) g.accounts; made = g.made }
  gathered (x ∷ front) all g none = absurd (omega arith)

module _ {T E : Type 0} (by : E → ℕ) (start : T) (history : List E) (made : ℕ) (holder : ℕ → ℕ) (id : ℕ) where
  -- one view holds each number of the seats that it took in
  holds_each : (k : ℕ) (accounts : List (Account T E)) (seats : List (Seat T E)) → AreAccountsOf k accounts seats → AreTrueAccounts by start history made holder id accounts → (n : ℕ) → k ≤ n → n < k + length seats → holder n ≡ id
  holds_each k [] [] told true_ n low high = absurd (omega arith)
  holds_each k [] (x ∷ seats) told true_ n low high = absurd told
  holds_each k (a ∷ accounts) [] told true_ n low high = absurd told
  holds_each k (a ∷ accounts) (x ∷ seats) told true_ n low high =
      dite (ℕ_discrete n k)
      (λ (e : n ≡ k). ap holder (e ∙ sym told.0) ∙ true_.0.held)
      (λ (apart : ¬ (n ≡ k)). holds_each (suc k) accounts seats told.3 true_.1 n (omega arith) (omega arith))

  told_by_accounts : (k : ℕ) (accounts : List (Account T E)) (seats : List (Seat T E)) → AreAccountsOf k accounts seats → AreTrueAccounts by start history made holder id accounts → Numbered (IsToldBy by history) k seats
  told_by_accounts k [] [] told true_ = tt
  told_by_accounts k [] (x ∷ seats) told true_ = absurd told
  told_by_accounts k (a ∷ accounts) [] told true_ = absurd told
  told_by_accounts k (a ∷ accounts) (x ∷ seats) told true_ = (
    record {
      seen = subst (λ seen. Begins seen history) told.1 true_.0.seen;
      gave = ap (λ n. entries_by by n history) (sym told.0) ∙ true_.0.gave ∙ told.2;
    },
    told_by_accounts (suc k) accounts seats told.3 true_.1,
  )

  -- a view that has the turn has one account, and so a number that was made and is its own
  number_of_served : (serving next : ℕ) (queuer : ℕ → ℕ) (j : ℕ) (accounts : List (Account T E)) (st : Stage) → FitsStage history serving next queuer j accounts st → IsOut st → AreTrueAccounts by start history made holder j accounts → (n : ℕ) × (n < made) × (holder n ≡ j)
  number_of_served serving next queuer j accounts Rests fit out true_ = absurd out
  number_of_served serving next queuer j accounts (Waits t) fit out true_ = absurd out
  number_of_served serving next queuer j accounts (HasTurn t) fit out true_ =
      let own = (subst (AreTrueAccounts by start history made holder j) fit.one true_).0 in
      (fit.account.number, own.number, own.held)

module _ {T E : Type 0} (stands_for : T → T → List E → Type 0) (at_first : T → ℕ) (by : E → ℕ) (turn : Turns T E) (seats : List (Seat T E)) (all : Seat T E) (count : length seats ≡ seats_of turn) (some_seats : 0 < seats_of turn) (g : IsGathered turn seats all) where
  -- at the end the value is at home, and stands for the whole history
  pub ends : (s : State (Option T) (View T E)) → keeps_rule stands_for at_first by (opening_of turn) s → get_elem? s.views all.inside.id ≡ some all.inside.me.0 → (value : T) × (get_elem? s.homes 0 ≡ some (some (Some value))) × HasWholeHistory stands_for by turn seats value
  ends s r at =
      let id = all.inside.id in
      let v = all.inside.me.0 in
      let start = opening_of turn in
      let fit = r.each id v at in
      let made = g.made in
      let all_made : r.made ≡ seats_of turn = sym (fit.makes (omega arith)).1 ∙ g.made in
      let nobody : NobodyHas s.views = λ j u there out.
      let f = r.each j u there in
      let own = number_of_served by start r.history r.made r.holder j r.serving r.next r.queuer j u.accounts u.stage f.stage out f.accounts in
      let below = own.1 in
      let here : j ≡ id = sym own.2 ∙ holds_each by start r.history r.made r.holder id 0 v.accounts seats g.accounts fit.accounts own.0 (omega arith) (omega arith) in
      let same : u ≡ v = some-injective u v (sym there ∙ ap (λ i. get_elem? s.views i) here ∙ at) in
      rests_not_out v g.rests (subst (λ (x : View T E). IsOut x.stage) same out) in
      let home = r.home nobody in (
        home.0,
        home.1,
        record {
          history = r.history;
          stands = home.2;
          seats_are = told_by_accounts by start r.history r.made r.holder id 0 v.accounts seats g.accounts fit.accounts;
          no_others = subst (λ n. NoneFrom by n r.history) all_made r.unmade;
        },
      )

-- one place has one value
pub same_at : {A : Type 0} (xs : List A) (x y : A) → get_elem? xs 0 ≡ some x → get_elem? xs 0 ≡ some y → x ≡ y
same_at xs x y one other = some-injective x y (sym one ∙ other)
