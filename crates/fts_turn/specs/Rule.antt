-- The rule of the turn, which holds between any two steps.
-- Word 0 is the next ticket to be drawn, word 1 the ticket that is served, and word 2 the number of all entries.
use Rattle.std.specs.Prelude.{◌≡◌, ℕ, ◌+◌, ◌^◌, ◌<◌, ◌≤◌, List, [], ◌∷◌, length, Option, Some}
use Rattle.std.specs.List.{sum_by}
use mathlib.Core.Option as maybe
use mathlib.Core.Option.{some}
use lib.ListN.{get_elem?}
use Rattle.fts_turn.specs.declared.TheConstants.{MOST_SEATS}
use Rattle.fts_turn.specs.declared.view.Account.{Account}
use Rattle.fts_turn.specs.declared.view.Stage.{Stage}
use Rattle.fts_turn.specs.declared.view.Stage.TheVariants.{Rests, Waits, HasTurn}
use Rattle.fts_turn.specs.declared.view.View.{View}
use Rattle.fts_turn.specs.Histories.{Begins, entries_by, NoneFrom}
use Rattle.fts_turn.specs.Views.{in_line, weight, IsOut}

-- Of an account of the view j. The number of each seat that was made stands in the account of one view, holder says of
-- which. What the account has seen begins the history, and what it gave is all that the history has of its number
pub record IsTrueAccount {T E : Type 0} (by : E → ℕ) (start : T) (history : List E) (made : ℕ) (holder : ℕ → ℕ) (j : ℕ)
    (a : Account T E) : Type 0 where
  pub origin : a.origin ≡ start
  pub held : holder a.number ≡ j
  pub number : a.number < made
  pub seen : Begins a.seen history
  pub gave : entries_by by a.number history ≡ a.gave

abbrev pub AreTrueAccounts : {T E : Type 0} → (E → ℕ) → T → List E → ℕ → (ℕ → ℕ) → ℕ → List (Account T E) → Type 0
AreTrueAccounts by start history made holder j [] = Unit {0}
AreTrueAccounts by start history made holder j (a ∷ others) = IsTrueAccount by start history made holder j a
    × AreTrueAccounts by start history made holder j others

-- the view j waits with a ticket that isn't served yet, or is now. Each ticket is that of one view, queuer says of
-- which
pub record HasTicket {T E : Type 0} (serving next : ℕ) (queuer : ℕ → ℕ) (j : ℕ) (accounts : List (Account T E))
    (ticket : ℕ) : Type 0 where
  pub mine : queuer ticket ≡ j
  pub unserved : serving ≤ ticket
  pub drawn : ticket < next
  pub account : Account T E
  pub one : accounts ≡ account ∷ []

-- the view j has the turn: its ticket is the one that is served, and it has seen the whole history
pub record IsServed {T E : Type 0} (history : List E) (serving next : ℕ) (queuer : ℕ → ℕ) (j : ℕ)
    (accounts : List (Account T E)) (ticket : ℕ) : Type 0 where
  pub mine : queuer ticket ≡ j
  pub served : serving ≡ ticket
  pub drawn : ticket < next
  pub early : ticket < 2 ^ 63
  pub account : Account T E
  pub one : accounts ≡ account ∷ []
  pub whole : account.seen ≡ history

abbrev pub FitsStage : {T E : Type 0} → List E → ℕ → ℕ → (ℕ → ℕ) → ℕ → List (Account T E) → Stage → Type 0
FitsStage history serving next queuer j accounts Rests = Unit {0}
FitsStage history serving next queuer j accounts (Waits ticket) = HasTicket serving next queuer j accounts ticket
FitsStage history serving next queuer j accounts (HasTurn ticket) = IsServed history serving next queuer j accounts
    ticket

-- what the rule says of the view j. One view, the maker, makes the next seat
pub record Fits {T E : Type 0} (by : E → ℕ) (start : T) (history : List E) (made maker serving next : ℕ)
    (holder queuer : ℕ → ℕ) (j : ℕ) (v : View T E) : Type 0 where
  pub accounts : AreTrueAccounts by start history made holder j v.accounts
  pub stage : FitsStage history serving next queuer j v.accounts v.stage
  pub makes : 0 < v.next_number → (maker ≡ j) × (v.next_number ≡ made)

-- no seat has the turn
abbrev pub NobodyHas : {T E : Type 0} → List (View T E) → Type 0
NobodyHas {T} {E} views = (j : ℕ) (v : View T E) → get_elem? views j ≡ some v → IsOut v.stage → ⊥

-- the value at home stands for the history
abbrev pub AtHome : {T E : Type 0} → (T → T → List E → Type 0) → T → List E → List (maybe.Option (Option T)) → Type 0
AtHome {T} stands_for start history homes = (value : T) × (get_elem? homes 0 ≡ some (some (Some value)))
    × stands_for start value history

pub record IsKept {T E : Type 0} (stands_for : T → T → List E → Type 0) (at_first : T → ℕ) (by : E → ℕ) (start : T)
    (words : List ℕ) (homes : List (maybe.Option (Option T))) (views : List (View T E)) : Type 0 where
  pub history : List E
  pub made : ℕ
  pub maker : ℕ
  pub serving : ℕ
  pub next : ℕ
  pub holder : ℕ → ℕ
  pub queuer : ℕ → ℕ
  pub three : words ≡ next ∷ serving ∷ (at_first start + length history) ∷ []
  pub few : at_first start + length history < 2 ^ 63
  pub early : serving ≤ 2 ^ 63
  pub line : next ≡ serving + sum_by in_line views
  pub seats : sum_by weight views ≤ MOST_SEATS
  pub each : (j : ℕ) (v : View T E) → get_elem? views j ≡ some v
      → Fits by start history made maker serving next holder queuer j v
  pub unmade : NoneFrom by made history
  pub home : NobodyHas views → AtHome stands_for start history homes
