-- Replies in the order of a script's lines.
use Rattle.std.specs.Prelude.{◌≡◌, ℕ, List, length, slice_get, Option, Some, None, Vec}
use Rattle.std.specs.Global.{Global}
use Rattle.std.specs.Option.{option_and_then}
use Rattle.fts_io.specs.Text.{Line}
use Rattle.fts_script.specs.Sessions.{IsOf}
use Rattle.fts_script.specs.Group.{Share}

-- what a list of lists has
abbrev pub items_of : {T : Type 0} → Vec T Global → List T
items_of own = own.items

-- a session's reply of this number, if it gave so many
abbrev pub reply_of : {T : Type 0} → List (List T) → ℕ → ℕ → Option T
reply_of replies at number = option_and_then (λ own. slice_get own number) (slice_get replies at)

-- each line has the reply that its session gave to it, and one that is nobody's has none
pub record IsMerged {T : Type 0} (lines : List Line) (shares : List Share) (replies : List (List T))
    (all : List (Option T)) : Type 0 where
  pub count : length all ≡ length lines
  pub own : (at number place : ℕ) (one : Share) → slice_get shares at ≡ Some one
      → slice_get one.places number ≡ Some place → slice_get all place ≡ Some (reply_of replies at number)
  pub nobodys : (place : ℕ) (line : Line) → slice_get lines place ≡ Some line → IsOf line None
      → slice_get all place ≡ Some None

-- a place stands once among these
abbrev pub AreApart : List ℕ → Type 0
AreApart places = (i j place : ℕ) → slice_get places i ≡ Some place → slice_get places j ≡ Some place → i ≡ j

-- none of these places has a reply yet
abbrev pub AreFree : {T : Type 0} → List ℕ → List (Option T) → Type 0
AreFree places all = (number place : ℕ) → slice_get places number ≡ Some place → slice_get all place ≡ Some None

-- each of these places has its reply of a session, and any other what it had
pub record Scatters {T : Type 0} (places : List ℕ) (own : List T) (old new : List (Option T)) : Type 0 where
  pub count : length new ≡ length old
  pub put : (number place : ℕ) → slice_get places number ≡ Some place
      → slice_get new place ≡ Some (slice_get own number)
  pub kept : (place : ℕ) → ((number : ℕ) → slice_get places number ≡ Some place → ⊥)
      → slice_get new place ≡ slice_get old place
