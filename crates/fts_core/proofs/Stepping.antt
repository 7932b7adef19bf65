-- The turns of steps of an engine.
use Rattle.std.proofs.Common.{◌≡◌, ℕ, List, [], ◌∷◌, ◌++◌, length, refl, ap, subst, sym, ◌∙◌, inr}
use Rattle.std.specs.Prelude.{true, false, Vec, Option, Some, None, Result, Ok, Err, IsTrue, fold}
use Rattle.std.specs.declared.alloc.Global.{Global}
use Rattle.fts_listing.specs.declared.kind.ListingKind.{ListingKind}
use Rattle.fts_listing.specs.declared.listing.NumberedListing.{NumberedListing}
use Rattle.fts_query.specs.declared.view.Leaf.{Leaf}
use Rattle.fts_query.specs.declared.view.View.{View}
use Rattle.fts_query.specs.Seen.{leaves_seen}
use Rattle.fts_types.specs.declared.limits.Limits.{Limits}
use Rattle.fts_types.specs.declared.settings.Settings.{Settings}
use Rattle.fts_commits.specs.Commit.{Commit}
use Rattle.fts_commits.specs.Fits.{CanCommit}
use Rattle.fts_disk.specs.declared.disk.Disk.{Ghosts}
use Rattle.fts_entries.specs.Entry.{IndexEntry, IndexState, after_entry}
use Rattle.fts_steps.specs.State.{with_entries, turns_of, HasEntries, IsRight}
use Rattle.fts_steps.specs.declared.commit.CommitError.{CommitError}
use Rattle.fts_steps.specs.declared.commit.CommitError.TheVariants as commit_error
use Rattle.fts_steps.specs.declared.index_error.IndexError.{IndexError}
use Rattle.fts_steps.specs.declared.index_error.IndexError.TheVariants as index_error
use Rattle.fts_steps.specs.declared.view_error.ViewError.{ViewError}
use Rattle.fts_steps.specs.declared.sync.SyncBatch.{SyncBatch}
use Rattle.fts_steps.specs.declared.sync.SyncBatch.TheVariants as sync
use Rattle.fts_steps.specs.declared.optimize.OptimizeStep.{OptimizeStep}
use Rattle.fts_steps.specs.declared.optimize.OptimizeStep.TheVariants as optimize
use Rattle.fts_steps.specs.Running.{made, failed, optimized, with_what, next_batch, next_optimized, next_index}
use Rattle.fts_steps.specs.Step.{Ask, to_commit, to_sync, to_optimize, to_view, to_list, Answer, MayAnswer, committed, disk_fault, flushed, passed, after, changes_of, is_disk_fault, writes, would_write}
use Rattle.fts_steps.proofs.Adding.{one_answer, no_read_fault}
use Rattle.fts_steps.specs.Step as step
use Rattle.fts_steps.specs.Answers.{commit_answer_of, sync_answer_of, optimize_answer_of, view_answer_of, listing_answer_of}
use Rattle.fts_engine.specs.declared.engine.Engine.{Engine}
use Rattle.fts_engine.specs.Stands.{engine_sight, engine_settings, engine_limits, rows_log, index_log, rows_device, index_device}
use Rattle.fts_log.specs.declared.log.Log.{Log}
use Rattle.fts_log.specs.Log.{device_of}
use Rattle.fts_core.specs.declared.event.Event.{Event}
use Rattle.fts_core.specs.declared.event.Event.TheVariants as event
use Rattle.fts_core.specs.declared.event.Outcome.{Outcome}
use Rattle.fts_core.specs.declared.event.Outcome.TheVariants as outcome
use Rattle.fts_core.specs.declared.world.Last.{Last}
use Rattle.fts_core.specs.declared.world.Last.TheVariants.{Acknowledged}
use Rattle.fts_core.specs.declared.world.Place.{Place}
use Rattle.fts_core.specs.declared.world.Place.TheVariants.{Closed, Open}
use Rattle.fts_core.specs.declared.world.World.{World}
use Rattle.fts_core.specs.World.{moments}
use Rattle.fts_core.specs.Parts.{IsClosed, world_of, behind}
use Rattle.fts_core.specs.Core.{Core, Fits, RunsAt}
use Rattle.fts_core.specs.Turns.{AsksEngine, FitTable, FitsNot, MakesStep, doubting}
use Rattle.fts_core.specs.Lists.{Turned}
use Rattle.fts_core.proofs.Between.{IsOne}
use Rattle.fts_core.proofs.Right.{AllKnown, batch_more, step_more, next_is_step}
use Rattle.fts_core.proofs.Fitting.{kept_turns, kept_fits, behind_step, made_turns, made_fits, failed_turns, failed_fits, turns, written_fits, loosened_fits, may, told_goes, writes_goes}
use Rattle.fts_core.proofs.Fitting.{with_more, with_loose, left_loose}
use Rattle.fts_core.proofs.Turned.{IsHonest, same_world}

module _ {D E : Type 0} {disk : Ghosts D} {disk' : Ghosts E} where
  -- ---- no engine, and changes that do not fit

  closed_is : (core : Core) (place : Place D E disk disk') → IsClosed place → RunsAt core place → core.limits ≡ None
  closed_is core (Closed rows index) closed runs = runs
  closed_is core (Open engine) closed runs = absurd closed

  pub turned_no_engine : (ask : Event D E) → AsksEngine ask → (old new : World D E disk disk') → (new ≡ old) × IsClosed old.place → (core : Core) → Fits core old
      → Turned ask outcome.NoEngine core old new
  turned_no_engine ask asks old new closed core fits = record {
    next = core;
    turns = (asks, closed_is core old.place closed.1 fits.runs, refl);
    fits = subst (λ (w : World D E disk disk'). Fits core w) (sym closed.0) fits;
  }

  pub turned_no_fit : (ask : Event D E) (core : Core) (old new : World D E disk disk') → FitsNot ask core → new ≡ old → Fits core old → Turned ask outcome.DoesNotFit core old new
  turned_no_fit ask core old new unfit same fits = record {
    next = core;
    turns = (unfit, refl);
    fits = subst (λ (w : World D E disk disk'). Fits core w) (sym same) fits;
  }

  -- the table is that of what stands
  pub no_commit : (core : Core) (old : World D E disk disk') (engine : Engine D E disk disk') (commits : Vec Commit Global) (doubt : Option Commit) (last : Last) → old ≡ world_of (Open engine) commits doubt last
      → Fits core old → (commit : Commit) → (CanCommit (length (engine_settings engine).columns) commit → ⊥) → FitsNot {D = D} {E = E} (event.Commit commit) core
  no_commit core old engine commits doubt last is fits commit cannot =
      let fits' : Fits core (world_of (Open engine) commits doubt last) = subst (λ (w : World D E disk disk'). Fits core w) is fits in (
        (λ none. let no_engine : ◌≡◌ {A = Option Limits} (Some (engine_limits engine)) None = sym fits'.runs.0 ∙ none in absurd (let e = no_engine in cc)),
        (λ can. cannot (subst (λ (s : Settings). CanCommit (length s.columns) commit) fits'.runs.1.has.keeps.settings can)),
      )

module _ {D E : Type 0} {disk : Ghosts D} {disk' : Ghosts E} (h : IsHonest disk) (h' : IsHonest disk') (core : Core) (old new : Engine D E disk disk') (commits : Vec Commit Global)
    (doubt : Option Commit) (last : Last) (fits : Fits core (world_of (Open old) commits doubt last)) where
  abbrev pub old_world : World D E disk disk'
  old_world = world_of (Open old) commits doubt last

  same_rows : rows_log new ≡ rows_log old → rows_device new ≡ rows_device old
  same_rows same = ap (λ (log : Log D disk). device_of log) same

  same_index : index_log new ≡ index_log old → index_device new ≡ index_device old
  same_index same = ap (λ (log : Log E disk'). device_of log) same

  -- what stands behind a step that acknowledged no commit
  pub record Stepped (ask : Ask) (answer : Answer) : Type 0 where
    pub next : Core
    pub turns : MakesStep (moments old_world) ask answer core next
    pub still : Fits next (behind (Open new) commits doubt)

  pub keeps : (ask : Ask) (answer : Answer) → step.Steps engine_sight ask answer old new → changes_of ask answer ≡ [] → rows_log new ≡ rows_log old → index_log new ≡ index_log old → Stepped ask answer
  keeps ask answer steps adds same same' = record {
    next = behind_step core (moments old_world) core.now core.now;
    turns = kept_turns h.only h'.only h.told h'.told core old new commits doubt last fits ask answer steps adds (same_rows same) (same_index same');
    still = kept_fits h.only h'.only h.told h'.told core old new commits doubt last fits ask answer steps adds (same_rows same) (same_index same');
  }

  -- ---- commits

  module _ (commit : Commit) (able : CanCommit (length (engine_settings old).columns) commit) where
    fit : FitTable commit core
    fit = subst (λ (s : Settings). CanCommit (length s.columns) commit) (sym fits.runs.1.has.keeps.settings) able

    -- the refusals that leave the logs
    no_changes : (error : CommitError) → is_disk_fault (commit_answer_of (Err error)) ≡ false → changes_of (to_commit commit) (commit_answer_of (Err error)) ≡ []
    no_changes commit_error.NoMemory calm = refl
    no_changes (commit_error.Refused refusal) calm = refl
    no_changes (commit_error.LogFull at) calm = refl
    no_changes (commit_error.DiskFault faults) calm = absurd (let e = calm in cc)
    no_changes (commit_error.Stopped faults) calm = refl

    pub turned_refused : (error : CommitError) → step.Steps engine_sight (to_commit commit) (commit_answer_of (Err error)) old new → is_disk_fault (commit_answer_of (Err error)) ≡ false
        → rows_log new ≡ rows_log old → index_log new ≡ index_log old → (world : World D E disk disk') → world ≡ behind (Open new) commits doubt
        → Turned (event.Commit commit) (outcome.Committed (Err error)) core old_world world
    turned_refused error steps calm same same' world is =
        let kept = keeps (to_commit commit) (commit_answer_of (Err error)) steps (no_changes error calm) same same' in
        record { next = kept.next; turns = (fit, kept.turns); fits = subst (λ (w : World D E disk disk'). Fits kept.next w) (sym is) kept.still }

    pub turned_failed : AllKnown → (error : CommitError) → step.Steps engine_sight (to_commit commit) (commit_answer_of (Err error)) old new → is_disk_fault (commit_answer_of (Err error)) ≡ true
        → index_log new ≡ index_log old → (world : World D E disk disk') → world ≡ behind (Open new) commits (Some commit)
        → Turned (event.Commit commit) (outcome.Committed (Err error)) core old_world world
    turned_failed known (commit_error.DiskFault faults) steps fault same' world is =
        subst (λ (w : World D E disk disk'). Turned (event.Commit commit) (outcome.Committed (Err (commit_error.DiskFault faults))) core old_world w) (sym is)
        (record {
          next = behind_step core (moments old_world) (with_what core.now (failed faults (commit ∷ []))) (with_what core.now (failed faults (commit ∷ [])));
          turns = (fit, failed_turns h.only h'.only h.told h'.told core old new commits doubt last fits commit (same_index same') known faults steps);
          fits = failed_fits h.only h'.only h.told h'.told core old new commits doubt last fits commit (same_index same') known faults steps;
        })
    turned_failed known commit_error.NoMemory steps fault same' world is = absurd (let e = fault in cc)
    turned_failed known (commit_error.Refused refusal) steps fault same' world is = absurd (let e = fault in cc)
    turned_failed known (commit_error.LogFull at) steps fault same' world is = absurd (let e = fault in cc)
    turned_failed known (commit_error.Stopped faults) steps fault same' world is = absurd (let e = fault in cc)

    pub turned_made : AllKnown → (number : ℕ) → step.Steps engine_sight (to_commit commit) (committed number) old new → index_log new ≡ index_log old → (world : World D E disk disk')
        → world.place ≡ Open new → world.acknowledged.items ≡ commits.items ++ commit ∷ [] → world.doubt ≡ doubt → world.last ≡ Acknowledged
        → Turned (event.Commit commit) (outcome.Committed (Ok number)) core old_world world
    turned_made known number steps same' world place items same_doubt last' =
        subst (λ (w : World D E disk disk'). Turned (event.Commit commit) (outcome.Committed (Ok number)) core old_world w)
        (sym (same_world world (Open new) Acknowledged place last' ∙ ap (λ (d : Option Commit). world_of (Open new) world.acknowledged d Acknowledged) same_doubt))
        (record {
          next = behind_step core (moments old_world) (with_what core.now (made commit)) (doubting core.now (made commit));
          turns = (fit, made_turns h.only h'.only h.told h'.told core old new commits doubt last fits commit (same_index same') known number steps);
          fits = made_fits h.only h'.only h.told h'.told core old new commits doubt last fits commit (same_index same') known number steps world.acknowledged items;
        })

  -- ---- entries of the index log

  module _ (ask : Ask) (answer : Answer) (steps : step.Steps engine_sight ask answer old new) (same : rows_log new ≡ rows_log old) (more : List IndexEntry) (one : IsOne more)
      (going : core.now.stopped ≡ None) where
    wrote : (index : IndexState) → after core.now ask answer ≡ with_more core.now more index → with_loose core.now more ≡ fold doubting core.now (changes_of ask answer)
        → (HasEntries (with_entries core.now.state more) → IsRight (with_entries core.now.state more)) → Stepped ask answer
    wrote index is undone right_more = record {
      next = behind_step core (moments old_world) (after core.now ask answer) (with_loose core.now more);
      turns = turns h.only h'.only h.told h'.told core old new commits doubt last fits ask answer steps (with_loose core.now more) undone;
      still = written_fits h.only h'.only h.told h'.told core old new commits doubt last fits ask answer steps more one going (same_rows same) index is right_more;
    }

    loosened : (faults : ℕ) → after core.now ask answer ≡ left_loose core.now more faults → after core.now ask answer ≡ fold doubting core.now (changes_of ask answer)
        → (HasEntries (with_entries core.now.state more) → IsRight (with_entries core.now.state more)) → Stepped ask answer
    loosened faults is undone right_more = record {
      next = behind_step core (moments old_world) (after core.now ask answer) (after core.now ask answer);
      turns = turns h.only h'.only h.told h'.told core old new commits doubt last fits ask answer steps (after core.now ask answer) undone;
      still = loosened_fits h.only h'.only h.told h'.told core old new commits doubt last fits ask answer steps more one going (same_rows same) faults is right_more;
    }

  may_ : (ask : Ask) (answer : Answer) → step.Steps engine_sight ask answer old new → MayAnswer (engine_limits old) core.now ask answer
  may_ ask answer steps = may h.only h'.only h.told h'.told core old new commits doubt last fits ask answer steps

  has_ : HasEntries core.now.state
  has_ = fits.runs.1.has.keeps.entries

  right_ : IsRight core.now.state
  right_ = fits.right.right

  -- the index log is the same where nothing was written
  abbrev pub IsUntouched : Answer → Type 0
  IsUntouched answer = writes answer ≡ false → is_disk_fault answer ≡ false → index_log new ≡ index_log old

  pub synced : AllKnown → (result : Result SyncBatch IndexError) → step.Steps engine_sight to_sync (sync_answer_of result) old new → rows_log new ≡ rows_log old → IsUntouched (sync_answer_of result)
      → Stepped to_sync (sync_answer_of result)
  synced known (Ok (sync.Flushed through count)) steps same untouched =
      wrote to_sync (flushed through count) steps same (next_batch core.now ∷ []) (inr (next_batch core.now, refl))
      (told_goes core.now.stopped _ (flushed through count) (one_answer _ _ (may_ to_sync (flushed through count) steps)) refl) (next_index core.now.state core.now.index) refl refl
      (λ has. batch_more known (engine_limits old) core.now fits.runs.1.has.left
      (subst (λ (a : Option Answer). IsTrue (would_write a)) (sym (may_ to_sync (flushed through count) steps)) refl) has_ right_)
  synced known (Ok (sync.Nothing count)) steps same untouched = keeps to_sync (sync_answer_of (Ok (sync.Nothing count))) steps refl same (untouched refl refl)
  synced known (Err index_error.NoMemory) steps same untouched = keeps to_sync (sync_answer_of (Err index_error.NoMemory)) steps refl same (untouched refl refl)
  synced known (Err (index_error.LogFull at)) steps same untouched = keeps to_sync (sync_answer_of (Err (index_error.LogFull at))) steps refl same (untouched refl refl)
  synced known (Err (index_error.Stopped faults)) steps same untouched = keeps to_sync (sync_answer_of (Err (index_error.Stopped faults))) steps refl same (untouched refl refl)
  synced known (Err (index_error.DiskFault faults)) steps same untouched =
      let can = may_ to_sync (disk_fault faults) steps in
      loosened to_sync (disk_fault faults) steps same (next_batch core.now ∷ []) (inr (next_batch core.now, refl)) (writes_goes core.now.stopped _ can) faults refl refl
      (λ has. batch_more known (engine_limits old) core.now fits.runs.1.has.left can has_ right_)

  passed_on : AllKnown → (told : OptimizeStep) → step.Steps engine_sight to_optimize (passed told) old new → rows_log new ≡ rows_log old → IsTrue (writes (passed told))
      → after core.now to_optimize (passed told) ≡ with_what core.now optimized → fold doubting core.now (changes_of to_optimize (passed told)) ≡ doubting core.now optimized
      → Stepped to_optimize (passed told)
  passed_on known told steps same writes_ is undone =
      wrote to_optimize (passed told) steps same (next_optimized core.now) (next_is_step core.now.state.entries core.now.index).one
      (told_goes core.now.stopped _ (passed told) (one_answer _ _ (may_told told (may_ to_optimize (passed told) steps))) writes_)
      (fold (after_entry (turns_of core.now.state)) core.now.index (next_optimized core.now)) is (sym undone) (λ has. step_more known core.now has_ right_ has)
    where
      may_told : (told : OptimizeStep) → MayAnswer (engine_limits old) core.now to_optimize (passed told) → step.plain_answer (engine_limits old) core.now to_optimize ≡ Some (passed told)
      may_told told may = may

  pub optimized_ : AllKnown → (result : Result OptimizeStep IndexError) → step.Steps engine_sight to_optimize (optimize_answer_of result) old new → rows_log new ≡ rows_log old
      → IsUntouched (optimize_answer_of result) → Stepped to_optimize (optimize_answer_of result)
  optimized_ known (Ok optimize.Began) steps same untouched = passed_on known optimize.Began steps same refl refl refl
  optimized_ known (Ok optimize.Word) steps same untouched = passed_on known optimize.Word steps same refl refl refl
  optimized_ known (Ok optimize.Finished) steps same untouched = passed_on known optimize.Finished steps same refl refl refl
  optimized_ known (Ok optimize.Nothing) steps same untouched = keeps to_optimize (optimize_answer_of (Ok optimize.Nothing)) steps refl same (untouched refl refl)
  optimized_ known (Err index_error.NoMemory) steps same untouched = keeps to_optimize (optimize_answer_of (Err index_error.NoMemory)) steps refl same (untouched refl refl)
  optimized_ known (Err (index_error.LogFull at)) steps same untouched = keeps to_optimize (optimize_answer_of (Err (index_error.LogFull at))) steps refl same (untouched refl refl)
  optimized_ known (Err (index_error.Stopped faults)) steps same untouched = keeps to_optimize (optimize_answer_of (Err (index_error.Stopped faults))) steps refl same (untouched refl refl)
  optimized_ known (Err (index_error.DiskFault faults)) steps same untouched =
      let can = may_ to_optimize (disk_fault faults) steps in
      loosened to_optimize (disk_fault faults) steps same (next_optimized core.now) (next_is_step core.now.state.entries core.now.index).one (writes_goes core.now.stopped _ can) faults refl refl
      (λ has. step_more known core.now has_ right_ has)

  -- ---- the turns

  module _ (world : World D E disk disk') (is : world ≡ behind (Open new) commits doubt) where
    pub turned_sync : AllKnown → (result : Result SyncBatch IndexError) → step.Steps engine_sight to_sync (sync_answer_of result) old new → rows_log new ≡ rows_log old
        → IsUntouched (sync_answer_of result) → Turned event.SyncBatch (outcome.Synced result) core old_world world
    turned_sync known result steps same untouched =
        let stepped = synced known result steps same untouched in
        subst (λ (w : World D E disk disk'). Turned event.SyncBatch (outcome.Synced result) core old_world w) (sym is)
        (record { next = stepped.next; turns = stepped.turns; fits = stepped.still })

    pub turned_optimize : AllKnown → (result : Result OptimizeStep IndexError) → step.Steps engine_sight to_optimize (optimize_answer_of result) old new → rows_log new ≡ rows_log old
        → IsUntouched (optimize_answer_of result) → Turned event.OptimizeStep (outcome.Optimized result) core old_world world
    turned_optimize known result steps same untouched =
        let stepped = optimized_ known result steps same untouched in
        subst (λ (w : World D E disk disk'). Turned event.OptimizeStep (outcome.Optimized result) core old_world w) (sym is)
        (record { next = stepped.next; turns = stepped.turns; fits = stepped.still })

    pub turned_view : (asked : Vec Leaf Global) (result : Result View (ViewError × Vec Leaf Global)) → step.Steps engine_sight (to_view (leaves_seen asked.items)) (view_answer_of result) old new
        → is_disk_fault (view_answer_of result) ≡ false → rows_log new ≡ rows_log old → index_log new ≡ index_log old → Turned (event.View asked) (outcome.Viewed result) core old_world world
    turned_view asked result steps calm same same' =
        let stepped = keeps (to_view (leaves_seen asked.items)) (view_answer_of result) steps (no_read_fault (view_answer_of result) calm) same same' in
        subst (λ (w : World D E disk disk'). Turned (event.View asked) (outcome.Viewed result) core old_world w) (sym is)
        (record { next = stepped.next; turns = stepped.turns; fits = stepped.still })

    pub turned_listing : (kind : ListingKind) (result : Result NumberedListing ViewError) → step.Steps engine_sight (to_list kind) (listing_answer_of result) old new
        → is_disk_fault (listing_answer_of result) ≡ false → rows_log new ≡ rows_log old → index_log new ≡ index_log old → Turned (event.Listing kind) (outcome.Listed result) core old_world world
    turned_listing kind result steps calm same same' =
        let stepped = keeps (to_list kind) (listing_answer_of result) steps (no_read_fault (listing_answer_of result) calm) same same' in
        subst (λ (w : World D E disk disk'). Turned (event.Listing kind) (outcome.Listed result) core old_world w) (sym is)
        (record { next = stepped.next; turns = stepped.turns; fits = stepped.still })

-- ---- a list for which room was taken

module _ {D E : Type 0} {disk : Ghosts D} {disk' : Ghosts E} (core : Core) (place : Place D E disk disk') (commits more : Vec Commit Global) (doubt : Option Commit) (last : Last)
    (same : more.items ≡ commits.items) where
  pub with_room : Fits core (world_of place commits doubt last) → Fits core (world_of place more doubt last)
  with_room fits = record {
    acknowledged = same ∙ fits.acknowledged;
    doubt = fits.doubt;
    last = fits.last;
    on_rows = fits.on_rows;
    on_index = fits.on_index;
    runs = fits.runs;
    right = fits.right;
    right_undone = fits.right_undone;
  }

  pub without_room : (ask : Event D E) (told : Outcome) (new : World D E disk disk') → Turned ask told core (world_of place more doubt last) new → Turned ask told core (world_of place commits doubt last) new
  without_room ask told new turned = record { next = turned.next; turns = turned.turns; fits = turned.fits }
