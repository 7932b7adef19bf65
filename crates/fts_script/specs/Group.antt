-- The lines of a script by sessions.
use Rattle.std.specs.Prelude.{◌≡◌, ◌≢◌, ◌⊎◌, ◌==◌, ◌+◌, ◌<◌, ℕ, if◌then◌else◌, List, [], ◌∷◌, ◌++◌, length, map}
use Rattle.std.specs.Prelude.{All, AllPairs, Option, Some, None, slice_index_or, slice_set}
use Rattle.fts_io.specs.Text.{Line}
use Rattle.fts_script.specs.Sessions.{IsOf, AreOf}
use Rattle.fts_script.specs.declared.grouping.Group.{Group}

-- a session's number and the places of its lines
pub record Share : Type 0 where
  pub number : ℕ
  pub places : List ℕ

abbrev pub share : ℕ → List ℕ → Share
share number places = record { number = number; places = places }

-- what contracts see of groups
abbrev pub share_of : Group → Share
share_of group = share group.number group.places.items

abbrev pub shares_of : List Group → List Share
shares_of groups = map share_of groups

abbrev pub numbers_in : List Share → List ℕ
numbers_in shares = map (λ one. one.number) shares

-- of these lines, the first of which stands at this place, those of one session stand at those places, in order
abbrev pub StandAt : ℕ → ℕ → List Line → List ℕ → Type 0
StandAt number place [] places = places ≡ []
StandAt number place (line ∷ lines) places =
    ((more : List ℕ) × IsOf line (Some number) × (places ≡ place ∷ more) × StandAt number (place + 1) lines more)
    ⊎ ((IsOf line (Some number) → ⊥) × StandAt number (place + 1) lines places)

-- each session of the lines has one share, in the order in which the sessions come, and no other has one: a share has
-- the places of all lines of its session, and no other place
pub record IsGrouping (lines : List Line) (shares : List Share) : Type 0 where
  pub sessions : AreOf [] lines (numbers_in shares)
  pub differ : AllPairs (λ one other. one ≢ other) (numbers_in shares)
  pub places : All (λ one. StandAt one.number 0 lines one.places) shares

-- the shares with one place more, of a session that comes last where it had none
abbrev pub joining : List Share → ℕ → ℕ → List Share
joining [] number place = share number (place ∷ []) ∷ []
joining (one ∷ shares) number place =
    if one.number == number then share number (one.places ++ place ∷ []) ∷ shares else one ∷ joining shares number place

abbrev pub put_in : List Share → Option ℕ → ℕ → List Share
put_in shares None place = shares
put_in shares (Some number) place = joining shares number place

-- the place of this line was put into its session's share
abbrev pub Puts : Line → ℕ → List Share → List Share → Type 0
Puts line place old new = (session : Option ℕ) × IsOf line session × (new ≡ put_in old session place)

-- a session that has no share would be one more than 16
pub record IsOneMore (shares : List Share) (number : ℕ) : Type 0 where
  pub unmet : All (λ other. other ≢ number) (numbers_in shares)
  pub many : length shares ≡ 16

-- the group at this place is that of a session, into which its next place is put
pub record IsItsShare (groups : List Group) (number at : ℕ) : Type 0 where
  pub within : at < length groups
  pub joins : (place : ℕ) (d : Group) → joining (shares_of groups) number place
      ≡ slice_set (shares_of groups) at (share number ((slice_index_or groups at d).places.items ++ place ∷ []))
  pub its : (d : Group) → (slice_index_or groups at d).number ≡ number
