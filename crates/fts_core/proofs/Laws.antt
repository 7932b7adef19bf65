-- What holds of each event of a list.
use Rattle.std.proofs.Common.{◌≡◌, ℕ, List, [], ◌∷◌, length, ap, subst, sym, ◌∙◌}
use Rattle.std.specs.Prelude.{Ok, Err}
use Rattle.fts_types.specs.Rules.{rules_of}
use Rattle.fts_commits.specs.Commit.{replay}
use Rattle.fts_disk.specs.declared.disk.Disk.{Ghosts}
use Rattle.fts_meaning.specs.Leaf as leaf
use Rattle.fts_meaning.specs.View as view
use Rattle.fts_query.specs.Seen.{leaves_seen, view_seen}
use Rattle.fts_steps.specs.Running.{Running}
use Rattle.fts_steps.specs.State.{IsRight}
use Rattle.fts_steps.specs.Step.{state_view}
use Rattle.fts_core.specs.declared.event.Event.{Event}
use Rattle.fts_core.specs.declared.event.Event.TheVariants.{Opening, Commit, SyncBatch, OptimizeStep, View, Listing, Crash}
use Rattle.fts_core.specs.declared.event.Outcome.{Outcome}
use Rattle.fts_core.specs.declared.event.Outcome.TheVariants.{NoEngine, DoesNotFit, Opened, Committed, Synced, Optimized, Viewed, Listed, Crashed}
use Rattle.fts_core.specs.declared.world.World.{World}
use Rattle.fts_core.specs.World.{Moments, moments}
use Rattle.fts_steps.specs.Right.{IsWithOrWithout}
use Rattle.fts_core.specs.Core.{Core, Fits}
use Rattle.fts_core.specs.Turns.{Turns}
use Rattle.fts_core.specs.Lists.{AllowsAll}
use Rattle.fts_core.specs.Headline.{Law, Always, TellsAcknowledged, ViewsTellAcknowledged, OpeningsFindAcknowledged, IndexesAreRight, KeepsPromises}

-- what holds of each event by its turn holds along a list
module _ {D E : Type 0} {disk : Ghosts D} {disk' : Ghosts E} (law : Law D E)
    (turned : (began : Moments) (event : Event D E) (outcome : Outcome) (old new : Core) (world : World D E disk disk') → Turns disk disk' began event outcome old new → Fits new world
    → law event outcome old new) where
  pub always : (core : Core) (old new : World D E disk disk') (events : List (Event D E)) (outcomes : List Outcome) → Fits core old → AllowsAll old events outcomes new
      → Always law core old events outcomes new
  always core old new [] [] fits same = same
  always core old new (event ∷ events) (outcome ∷ outcomes) fits (mid, allows, rest) = λ can.
      let turn = allows core fits can in (
        turn.next,
        mid,
        turn.turns,
        turn.fits,
        turned (moments old) event outcome core turn.next mid turn.turns turn.fits,
        always turn.next mid new events outcomes turn.fits rest,
      )
  always core old new [] (outcome ∷ outcomes) fits never = absurd never
  always core old new (event ∷ events) [] fits never = absurd never

-- a view tells of the acknowledged commits
tells : (core : Core) (asked : List leaf.Leaf) (told : view.View) → told.number ≡ length core.now.state.commits → told ≡ state_view core.now.state asked → TellsAcknowledged core asked told
tells core asked told number same = record {
  number = number;
  stands = λ terms is.
      same ∙ ap (λ (n : ℕ). view.view_of (rules_of core.now.state.settings) (replay core.now.state.commits).list n asked) (sym number)
      ∙ ap (view.view_of (rules_of core.now.state.settings) (replay core.now.state.commits).list told.number) is;
}

module _ {D E : Type 0} {disk : Ghosts D} {disk' : Ghosts E} where
  pub view_turned : (began : Moments) (event : Event D E) (outcome : Outcome) (old new : Core) (world : World D E disk disk') → Turns disk disk' began event outcome old new → Fits new world
      → ViewsTellAcknowledged event outcome old new
  view_turned began (View asked) (Viewed (Ok told)) old new world turn fits =
      tells old (leaves_seen asked.items) (view_seen told) turn.may.0 (turn.may.1 (subst (λ (r : Running). IsRight r.state) turn.now fits.right.right))
  view_turned began (View asked) (Viewed (Err error)) old new world turn fits = tt
  view_turned began (View asked) NoEngine old new world turn fits = tt
  view_turned began (View asked) DoesNotFit old new world turn fits = tt
  view_turned began (View asked) (Opened result) old new world turn fits = tt
  view_turned began (View asked) (Committed result) old new world turn fits = tt
  view_turned began (View asked) (Synced result) old new world turn fits = tt
  view_turned began (View asked) (Optimized result) old new world turn fits = tt
  view_turned began (View asked) (Listed result) old new world turn fits = tt
  view_turned began (View asked) Crashed old new world turn fits = tt
  view_turned began (Opening limits) outcome old new world turn fits = tt
  view_turned began (Commit changes) outcome old new world turn fits = tt
  view_turned began SyncBatch outcome old new world turn fits = tt
  view_turned began OptimizeStep outcome old new world turn fits = tt
  view_turned began (Listing kind) outcome old new world turn fits = tt
  view_turned began (Crash rows index within) outcome old new world turn fits = tt

  pub opening_turned : (began : Moments) (event : Event D E) (outcome : Outcome) (old new : Core) (world : World D E disk disk') → Turns disk disk' began event outcome old new → Fits new world
      → OpeningsFindAcknowledged event outcome old new
  opening_turned began (Opening limits) (Opened (Ok done)) old new world turn fits = record {
    commits = subst (λ (r : Running). IsWithOrWithout old.now.state.commits old.now.doubt r.state.commits) (sym turn.1.now) turn.1.finds.commits;
    entries = subst (λ (r : Running). IsWithOrWithout old.now.state.entries old.now.loose r.state.entries) (sym turn.1.now) turn.1.finds.entries;
    none = ap (λ (r : Running). r.doubt) turn.1.now;
  }
  opening_turned began (Opening limits) (Opened (Err error)) old new world turn fits = turn.1.free
  opening_turned began (Opening limits) NoEngine old new world turn fits = tt
  opening_turned began (Opening limits) DoesNotFit old new world turn fits = tt
  opening_turned began (Opening limits) (Committed result) old new world turn fits = tt
  opening_turned began (Opening limits) (Synced result) old new world turn fits = tt
  opening_turned began (Opening limits) (Optimized result) old new world turn fits = tt
  opening_turned began (Opening limits) (Viewed result) old new world turn fits = tt
  opening_turned began (Opening limits) (Listed result) old new world turn fits = tt
  opening_turned began (Opening limits) Crashed old new world turn fits = tt
  opening_turned began (Commit changes) outcome old new world turn fits = tt
  opening_turned began SyncBatch outcome old new world turn fits = tt
  opening_turned began OptimizeStep outcome old new world turn fits = tt
  opening_turned began (View asked) outcome old new world turn fits = tt
  opening_turned began (Listing kind) outcome old new world turn fits = tt
  opening_turned began (Crash rows index within) outcome old new world turn fits = tt

  pub index_turned : (began : Moments) (event : Event D E) (outcome : Outcome) (old new : Core) (world : World D E disk disk') → Turns disk disk' began event outcome old new → Fits new world
      → IndexesAreRight event outcome old new
  index_turned began event outcome old new world turn fits = fits.right

  pub promises : (began : Moments) (event : Event D E) (outcome : Outcome) (old new : Core) (world : World D E disk disk') → Turns disk disk' began event outcome old new → Fits new world
      → KeepsPromises event outcome old new
  promises began event outcome old new world turn fits = (
    view_turned began event outcome old new world turn fits,
    opening_turned began event outcome old new world turn fits,
    index_turned began event outcome old new world turn fits,
  )
