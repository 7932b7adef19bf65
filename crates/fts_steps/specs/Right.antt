-- Whether the index of whatever stands is right.
use Rattle.std.specs.Prelude.{◌≡◌, ◌⊎◌, List, ◌++◌}
use Rattle.fts_steps.specs.State.{State, HasEntries, IsRight}
use Rattle.fts_steps.specs.Running.{Running}

-- the list, or the list and what is in doubt behind it
abbrev pub IsWithOrWithout : {A : Type 0} → List A → List A → List A → Type 0
IsWithOrWithout all doubt found = (found ≡ all) ⊎ (found ≡ all ++ doubt)

-- the database of what runs: of each log what is in doubt may be there or not
pub record MayBe (running : Running) (state : State) : Type 0 where
  pub settings : state.settings ≡ running.state.settings
  pub commits : IsWithOrWithout running.state.commits running.doubt state.commits
  pub entries : IsWithOrWithout running.state.entries running.loose state.entries

-- the index is right: what is not deleted of it is exactly what the rows have, and what its tables have of who is dead
-- was born so. And so it is of whatever may be found
pub record HasRightIndex (running : Running) : Type 0 where
  pub right : IsRight running.state
  pub found : (state : State) → MayBe running state → HasEntries state → IsRight state
