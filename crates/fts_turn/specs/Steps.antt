-- What each kind of step tells its seat.
use Rattle.std.specs.Prelude.{◌≡◌, ℕ, ◌^◌, ◌<◌, List, [], ◌∷◌, Option, Some}
use Rattle.atomic_table.specs.Table.{Me}
use Rattle.fts_turn.specs.declared.view.Account.{Account}
use Rattle.fts_turn.specs.declared.view.Stage.TheVariants.{Waits}
use Rattle.fts_turn.specs.declared.view.View.{View}
use Rattle.fts_turn.specs.Histories.{Begins, entries_by}
use Rattle.fts_turn.specs.Views.{waiting, turning, adding, resting}

-- a seat at the table: its view, and the slots that it holds
abbrev pub Seated : Type 0 → Type 0 → Type 0
Seated T E = Me (Option T) (View T E)

module _ {T E : Type 0} where
  -- it waits with the ticket found
  abbrev pub Draws : Seated T E → ℕ → Seated T E → Type 0
  Draws m found m' = m' ≡ (waiting m.0 found, m.1)

  -- the ticket is served, and its seat holds a value that stands for a history which begins with all that it had seen
  pub record TakesTurn (stands_for : T → T → List E → Type 0) (by : E → ℕ) (ticket : ℕ) (a : Account T E)
      (m m' : Seated T E) : Type 0 where
    pub value : T
    pub history : List E
    pub stands : stands_for a.origin value history
    pub seen : Begins a.seen history
    pub gave : entries_by by a.number history ≡ a.gave
    pub now : m' ≡ (turning m.0 a ticket history, (0, Some value) ∷ m.1)

  -- where its own ticket is served, it has the turn; and else nothing changes
  abbrev pub Looks : (T → T → List E → Type 0) → (E → ℕ) → Seated T E → ℕ → Seated T E → Type 0
  Looks stands_for by m found m' = (ticket : ℕ) (a : Account T E) → m.0.stage ≡ Waits ticket → m.0.accounts ≡ a ∷ []
      → (found ≡ ticket → ticket < 2 ^ 63 → TakesTurn stands_for by ticket a m m')
      × (¬ ((found ≡ ticket) × (ticket < 2 ^ 63)) → m' ≡ m)

  -- it gave these entries
  abbrev pub Raises : List E → Seated T E → Seated T E → Type 0
  Raises added m m' = (a : Account T E) → m.0.accounts ≡ a ∷ [] → m' ≡ (adding m.0 a added, m.1)

  -- it rests, and holds nothing
  abbrev pub Leaves : Seated T E → Seated T E → Type 0
  Leaves m m' = m' ≡ (resting m.0, [])
