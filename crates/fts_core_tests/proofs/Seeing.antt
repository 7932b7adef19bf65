-- What the headline says to a client.
use Rattle.std.proofs.Common.{◌≡◌, ℕ, ◌+◌, List, [], ◌∷◌, ◌++◌, length, refl, sym, ap, subst, ◌∙◌, inl, inr, true, None}
use Rattle.std.proofs.lemmas.List.{append-nil, length_push}
use Rattle.std.specs.Prelude.{Ok}
use Rattle.fts_types.specs.declared.limits.Limits.{Limits}
use Rattle.fts_types.specs.declared.settings.Settings.{Settings}
use Rattle.fts_commits.specs.Commit.{Commit}
use Rattle.fts_disk.specs.declared.disk.Disk.{Ghosts}
use Rattle.fts_query.specs.declared.view.View.{View}
use Rattle.fts_steps.specs.Running.{Running}
use Rattle.fts_steps.specs.Right.{IsWithOrWithout}
use Rattle.fts_core.specs.declared.event.Event.{Event}
use Rattle.fts_core.specs.declared.event.Event.TheVariants as event
use Rattle.fts_core.specs.declared.event.Outcome.TheVariants as outcome
use Rattle.fts_core.specs.declared.world.Place.TheVariants.{Closed}
use Rattle.fts_core.specs.declared.world.World.{World}
use Rattle.fts_core.specs.World.{Moments, rows_at, index_at}
use Rattle.fts_core.specs.Parts.{behind}
use Rattle.fts_core.specs.Core.{Fits, CanCome}
use Rattle.fts_core.specs.Lists.{created_core}
use Rattle.fts_core.specs.Headline.{Along, KeepsPromises}
use Rattle.fts_core_tests.specs.Client.{Stands, CanCrash, IsSynced}

-- with nothing in doubt there is one list
sure_list : {A : Type 0} (all doubt found : List A) → doubt ≡ [] → IsWithOrWithout all doubt found → found ≡ all
sure_list all doubt found sure (inl same) = same
sure_list all doubt found sure (inr more) = more ∙ ap (λ d. all ++ d) sure ∙ append-nil all

module _ {D E : Type 0} (disk : Ghosts D) (disk' : Ghosts E) where
  abbrev At : Type 0
  At = World D E disk disk'

  -- behind an opening of a new database and two commits
  pub two_stand : (settings : Settings) (began : Moments) (limits : Limits) (first second : _) (one two : ℕ) (old new : At)
      → Fits (created_core settings began) old
      → Along KeepsPromises old (event.Opening limits ∷ event.Commit first ∷ event.Commit second ∷ [])
      (outcome.Opened (Ok tt) ∷ outcome.Committed (Ok one) ∷ outcome.Committed (Ok two) ∷ []) new
      → Stands 2 new
  two_stand settings began limits first second one two old new fits along =
      let opened = along (created_core settings began) fits tt in
      let next = opened.5 tt in
      let last = next.5 tt in
      let none = sure_list [] [] opened.0.now.state.commits refl opened.4.1.commits in
      record {
        core = last.0;
        fits = subst (Fits last.0) (sym last.5) last.3;
        counted = ap (λ (r : Running). length r.state.commits) last.2.1.now
            ∙ length_push next.0.now.state.commits second
            ∙ ap (λ n. n + 1) (ap (λ (r : Running). length r.state.commits) next.2.1.now
            ∙ length_push opened.0.now.state.commits first
            ∙ ap (λ (c : List Commit). length c + 1) none);
        sure = ap (λ (r : Running). r.doubt) last.2.1.now ∙ ap (λ (r : Running). r.doubt) next.2.1.now ∙ opened.4.1.none;
      }

  -- a world whose devices were closed and synced, and a crash within that
  pub can_crash : (commits : ℕ) (world : At) (rows left_rows : D) (index left_index : E) → Stands commits world
      → IsSynced disk (rows_at world.place) rows left_rows → IsSynced disk' (index_at world.place) index left_index
      → CanCrash {rows = disk} {index = disk'} commits (behind (Closed rows index) world.acknowledged world.doubt) (event.Crash left_rows left_index true)
  can_crash commits world rows left_rows index left_index stands synced synced' = record {
    core = record {
      now = stands.core.now;
      undone = stands.core.now;
      limits = None;
      since = record { rows = disk.moment (rows_at world.place); index = disk'.moment (index_at world.place) };
    };
    fits = record {
      acknowledged = stands.fits.acknowledged;
      doubt = stands.fits.doubt;
      last = (refl, refl);
      on_rows = record { now = λ c may. stands.fits.on_rows.now c (synced.now c may); undone = λ c left. stands.fits.on_rows.now c (synced.during c left) };
      on_index = record { now = λ c may. stands.fits.on_index.now c (synced'.now c may); undone = λ c left. stands.fits.on_index.now c (synced'.during c left) };
      runs = refl;
      right = stands.fits.right;
      right_undone = stands.fits.right;
    };
    can = (record { left = synced.comes; only = synced.only }, record { left = synced'.comes; only = synced'.only });
    left_rows = left_rows;
    left_index = left_index;
    is = refl;
    counted = stands.counted;
    sure = stands.sure;
  }

  -- behind the crash, an opening and a view
  pub view_tells : (commits : ℕ) (limits : Limits) (leaves : _) (view : View) (old new : At) (crash : Event D E) → CanCrash commits old crash
      → Along KeepsPromises old (crash ∷ event.Opening limits ∷ event.View leaves ∷ [])
      (outcome.Crashed ∷ outcome.Opened (Ok tt) ∷ outcome.Viewed (Ok view) ∷ []) new
      → view.number ≡ commits
  view_tells commits limits leaves view old new crash can along =
      let P : Event D E → Type 0 = λ e. CanCome can.core old e in
      let along' = subst (λ (e : Event D E). Along KeepsPromises old (e ∷ event.Opening limits ∷ event.View leaves ∷ [])
      (outcome.Crashed ∷ outcome.Opened (Ok tt) ∷ outcome.Viewed (Ok view) ∷ []) new) can.is along in
      let crashed = along' can.core can.fits (subst P can.is can.can) in
      let opened = crashed.5 tt in
      let viewed = opened.5 tt in
      let doubt = ap (λ (r : Running). r.doubt) crashed.2.now ∙ can.sure in
      let same = sure_list crashed.0.now.state.commits crashed.0.now.doubt opened.0.now.state.commits doubt opened.4.1.commits in
      viewed.4.0.number ∙ ap (λ (c : List Commit). length c) same ∙ ap (λ (r : Running). length r.state.commits) crashed.2.now ∙ can.counted
