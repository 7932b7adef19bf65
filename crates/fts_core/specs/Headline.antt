-- The headline: what holds of each event of a list, whatever crashes are among them.
use Rattle.std.specs.Prelude.{◌≡◌, List, [], ◌∷◌, Ok, Err, length}
use Rattle.fts_types.specs.Rules.{rules_of}
use Rattle.fts_commits.specs.Commit.{replay}
use Rattle.fts_disk.specs.declared.disk.Disk.{Ghosts}
use Rattle.fts_meaning.specs.Tree.{Terms}
use Rattle.fts_meaning.specs.Leaf as leaf
use Rattle.fts_meaning.specs.View as view
use Rattle.fts_query.specs.Seen.{leaves_seen, view_seen}
use Rattle.fts_core.specs.declared.event.Event.{Event}
use Rattle.fts_core.specs.declared.event.Event.TheVariants.{Opening, View}
use Rattle.fts_core.specs.declared.event.Outcome.{Outcome}
use Rattle.fts_core.specs.declared.event.Outcome.TheVariants.{Opened, Viewed}
use Rattle.fts_core.specs.declared.world.World.{World}
use Rattle.fts_core.specs.World.{moments}
use Rattle.fts_steps.specs.Right.{IsWithOrWithout, HasRightIndex}
use Rattle.fts_core.specs.Core.{Core, Fits, CanCome}
use Rattle.fts_core.specs.Turns.{Turns, IsFreeRefusal}

-- a law of one event: with its outcome, and with what stood before it and stands behind it
abbrev pub Law : Type 0 → Type 0 → Type 1
Law D E = Event D E → Outcome → Core → Core → Type 0

-- of these events, in worlds one behind another, each has its outcome and the law holds of it, up to the first crash
-- that cannot come so
abbrev pub Always : {D E : Type 0} {rows : Ghosts D} {index : Ghosts E}
    → Law D E → Core → World D E rows index → List (Event D E) → List Outcome → World D E rows index → Type 0
Always law core old [] [] new = new ≡ old
Always {D} {E} {rows} {index} law core old (event ∷ events) (outcome ∷ outcomes) new = CanCome core old event
    → (next : Core) × (mid : World D E rows index)
    × Turns rows index (moments old) event outcome core next × Fits next mid
    × law event outcome core next × Always law next mid events outcomes new
Always law core old [] (outcome ∷ outcomes) new = ⊥
Always law core old (event ∷ events) [] new = ⊥

-- a view tells of exactly the acknowledged commits: it has their number, and it stands for their rows, to each query
-- whose leaves were asked
pub record TellsAcknowledged (core : Core) (asked : List leaf.Leaf) (told : view.View) : Type 0 where
  pub number : told.number ≡ length core.now.state.commits
  pub stands : (terms : Terms) → asked ≡ leaf.leaves (rules_of core.now.state.settings) terms
      → view.StandsFor (rules_of core.now.state.settings) (replay core.now.state.commits).list terms told

abbrev pub ViewsTellAcknowledged : {D E : Type 0} → Law D E
ViewsTellAcknowledged (View asked) (Viewed (Ok told)) old new =
    TellsAcknowledged old (leaves_seen asked.items) (view_seen told)
ViewsTellAcknowledged event outcome old new = Unit {0}

-- an opening that answers Ok finds the acknowledged commits, or these and the one in doubt: what it finds is
-- acknowledged, and nothing is in doubt any more. None answers that there is no database, or a damaged one
pub record FindsAcknowledged (old new : Core) : Type 0 where
  pub commits : IsWithOrWithout old.now.state.commits old.now.doubt new.now.state.commits
  pub entries : IsWithOrWithout old.now.state.entries old.now.loose new.now.state.entries
  pub none : new.now.doubt ≡ []

abbrev pub OpeningsFindAcknowledged : {D E : Type 0} → Law D E
OpeningsFindAcknowledged (Opening limits) (Opened (Ok done)) old new = FindsAcknowledged old new
OpeningsFindAcknowledged (Opening limits) (Opened (Err error)) old new = IsFreeRefusal error
OpeningsFindAcknowledged event outcome old new = Unit {0}

-- behind each event the index is right: what is not deleted of it is exactly what the rows of the acknowledged commits
-- have, and what its tables have of who is dead was born so; and so it is of whatever an opening may find
abbrev pub IndexesAreRight : {D E : Type 0} → Law D E
IndexesAreRight event outcome old new = HasRightIndex new.now

-- the headline: so of each event
abbrev pub KeepsPromises : {D E : Type 0} → Law D E
KeepsPromises event outcome old new = ViewsTellAcknowledged event outcome old new
    × OpeningsFindAcknowledged event outcome old new × IndexesAreRight event outcome old new

-- from whatever stands in the first world, the law holds along these events
abbrev pub Along : {D E : Type 0} {rows : Ghosts D} {index : Ghosts E}
    → Law D E → World D E rows index → List (Event D E) → List Outcome → World D E rows index → Type 0
Along law first events outcomes last = (core : Core) → Fits core first → Always law core first events outcomes last
