-- What stands behind a step of the engine.
use Rattle.std.proofs.Common.{◌≡◌, ℕ, List, [], ◌∷◌, ◌++◌, refl, ap, subst, sym, ◌∙◌, map}
use Rattle.std.proofs.lemmas.List.{append-nil}
use Rattle.std.specs.Prelude.{Vec, Option, Some, None, fold, IsTrue}
use Rattle.std.specs.declared.alloc.Global.{Global}
use Rattle.fts_types.specs.declared.limits.Limits.{Limits}
use Rattle.fts_commits.specs.Commit.{Commit}
use Rattle.fts_disk.specs.Device.{Files}
use Rattle.fts_disk.specs.declared.disk.Disk.{Ghosts}
use Rattle.fts_entries.specs.Entry.{IndexEntry, IndexState}
use Rattle.fts_steps.specs.State.{with_entries, HasEntries, IsRight}
use Rattle.fts_steps.specs.Running.{Running, What, made, failed, Entry, grown, with_what}
use Rattle.fts_steps.specs.Crash.{MayHold, MayHoldIndex, IsBetween, IsIndexBetween}
use Rattle.fts_steps.specs.Step.{Ask, to_commit, Answer, committed, disk_fault, MayAnswer, after, changes_of, Leaves}
use Rattle.fts_steps.specs.Step as step
use Rattle.fts_engine.specs.declared.engine.Engine.{Engine}
use Rattle.fts_engine.specs.Stands.{Holds, engine_sight, engine_limits, rows_device, index_device}
use Rattle.fts_core.specs.declared.world.Last.{Last}
use Rattle.fts_core.specs.declared.world.Last.TheVariants.{Acknowledged}
use Rattle.fts_core.specs.declared.world.Place.TheVariants.{Open}
use Rattle.fts_core.specs.declared.world.World.{World}
use Rattle.fts_core.specs.World.{Moments, moments}
use Rattle.fts_core.specs.Parts.{world_of, behind}
use Rattle.fts_steps.specs.Right.{HasRightIndex}
use Rattle.fts_core.specs.Core.{Core, Fits}
use Rattle.fts_core.specs.Turns.{MakesStep, doubting}
use Rattle.fts_core.proofs.Between.{IsOne, sure_holds, sure_index, within_commit, within_entry, since_began, since_now}
use Rattle.fts_steps.proofs.Adding.{one_answer}
use Rattle.fts_steps.proofs.Growing.{right_stays}
use Rattle.fts_core.proofs.Right.{AllKnown, sure_right, doubt_right, loose_right}

-- what stands behind a step that adds this
abbrev pub behind_step : Core → Moments → Running → Running → Core
behind_step core began now undone = record { now = now; undone = undone; limits = core.limits; since = began }

module _ {D E : Type 0} {disk : Ghosts D} {disk' : Ghosts E} (only : (d : D) (c : Files) → disk.left_since d (disk.moment d) c → disk.images d c)
    (only' : (d : E) (c : Files) → disk'.left_since d (disk'.moment d) c → disk'.images d c) (told : IsTrue disk.tells) (told' : IsTrue disk'.tells) (core : Core)
    (old new : Engine D E disk disk') (commits : Vec Commit Global) (doubt : Option Commit) (last : Last) (fits : Fits core (world_of (Open old) commits doubt last))
    (ask : Ask) (answer : Answer) (steps : step.Steps engine_sight ask answer old new) where
  abbrev pub world : World D E disk disk'
  world = world_of (Open old) commits doubt last

  stands : Holds core.now old
  stands = fits.runs.1

  abbrev each : step.StepOf engine_sight core.now (record { more = steps.more; ask = ask; answer = answer }) old new
  each = steps.each core.now stands

  abbrev pub now_ : Running
  now_ = after core.now ask answer

  stands_now : Holds now_ new
  stands_now = subst (λ (more : List Entry). Holds (after (grown core.now more) ask answer) new) (each.alone refl) each.stands

  pub may : MayAnswer (engine_limits old) core.now ask answer
  may = subst (λ (more : List Entry). MayAnswer (engine_limits old) (grown core.now more) ask answer) (each.alone refl) each.may

  -- nothing is in doubt while no fault stopped the engine
  sure : core.now.stopped ≡ None → core.now.doubt ≡ []
  sure going = (stands.logs told going).sure

  sure' : core.now.stopped ≡ None → core.now.loose ≡ []
  sure' going = (stands.index_logs told' going).sure

  -- the step
  pub turns : (undone : Running) → undone ≡ fold doubting core.now (changes_of ask answer) → MakesStep (moments world) ask answer core (behind_step core (moments world) now_ undone)
  turns undone is = record {
    limits = engine_limits old;
    is_open = fits.runs.0;
    may = may;
    now = refl;
    undone = is;
    still = refl;
    since = refl;
  }

  limited : core.limits ≡ Some (engine_limits new)
  limited = fits.runs.0 ∙ ap (λ (l : Limits). Some l) (sym steps.keeps.limits)

  crash : Leaves (engine_sight {D = D} {E = E} {rows = disk} {index = disk'}).rows (IsBetween core.now now_) old new
  crash = subst (λ (more : List Entry). Leaves (engine_sight {D = D} {E = E} {rows = disk} {index = disk'}).rows (IsBetween core.now (after (grown core.now more) ask answer)) old new)
      (each.alone refl) (each.rows refl told)

  crash' : Leaves (engine_sight {D = D} {E = E} {rows = disk} {index = disk'}).index (IsIndexBetween core.now now_) old new
  crash' = subst (λ (more : List Entry). Leaves (engine_sight {D = D} {E = E} {rows = disk} {index = disk'}).index (IsIndexBetween core.now (after (grown core.now more) ask answer)) old new)
      (each.alone refl) (each.index refl told')

  -- ---- steps that add nothing

  module _ (adds : changes_of ask answer ≡ []) (same : rows_device new ≡ rows_device old) (same' : index_device new ≡ index_device old) where
    now_is : core.now ≡ now_
    now_is = ap (λ (whats : List What). grown core.now (map (λ (what : What). record { by = 0; what = what }) whats)) (sym adds)

    pub kept_turns : MakesStep (moments world) ask answer core (behind_step core (moments world) core.now core.now)
    kept_turns = record {
      limits = engine_limits old;
      is_open = fits.runs.0;
      may = may;
      now = now_is;
      undone = ap (fold doubting core.now) (sym adds);
      still = refl;
      since = refl;
    }

    pub kept_fits : Fits (behind_step core (moments world) core.now core.now) (behind (Open new) commits doubt)
    kept_fits = record {
      acknowledged = fits.acknowledged;
      doubt = fits.doubt;
      last = (refl, refl);
      on_rows = record {
        now = (stays.on_rows told).crash;
        undone = since_now disk (MayHold core.now.state core.now.doubt) (rows_device old) (rows_device new) only same (stands.on_rows told).crash;
      };
      on_index = record {
        now = (stays.on_index told').crash;
        undone = since_now disk' (MayHoldIndex core.now.state core.now.loose) (index_device old) (index_device new) only' same' (stands.on_index told').crash;
      };
      runs = (limited, stays);
      right = fits.right;
      right_undone = fits.right;
    }
      where
        stays : Holds core.now new
        stays = subst (λ (running : Running). Holds running new) (sym now_is) stands_now

-- ---- who goes on

pub writes_goes : (stop : Option ℕ) (answer : Answer) → IsTrue (step.writes (step.unless_stopped stop answer)) → stop ≡ None
writes_goes None answer is = refl
writes_goes (Some faults) answer is = absurd cc

-- a step that wrote was not stopped, as it tells by its answer
pub told_goes : (stop : Option ℕ) (answer told : Answer) → step.unless_stopped stop answer ≡ told → IsTrue (step.writes told) → stop ≡ None
told_goes stop answer told is wrote = writes_goes stop answer (subst (λ (a : Answer). IsTrue (step.writes a)) (sym is) wrote)

-- ---- commits

module _ {D E : Type 0} {disk : Ghosts D} {disk' : Ghosts E} (only : (d : D) (c : Files) → disk.left_since d (disk.moment d) c → disk.images d c)
    (only' : (d : E) (c : Files) → disk'.left_since d (disk'.moment d) c → disk'.images d c) (told : IsTrue disk.tells) (told' : IsTrue disk'.tells) (core : Core)
    (old new : Engine D E disk disk') (commits : Vec Commit Global) (doubt : Option Commit) (last : Last) (fits : Fits core (world_of (Open old) commits doubt last))
    (commit : Commit) (same' : index_device new ≡ index_device old) (known : AllKnown) where
  abbrev pub began : Moments
  began = moments (world_of (Open old) commits doubt last)

  -- it was made: it is acknowledged
  module _ (number : ℕ) (steps : step.Steps engine_sight (to_commit commit) (committed number) old new) where
    abbrev pub made_now : Running
    made_now = with_what core.now (made commit)

    abbrev pub made_undone : Running
    made_undone = doubting core.now (made commit)

    pub made_turns : MakesStep began (to_commit commit) (committed number) core (behind_step core began made_now made_undone)
    made_turns = turns only only' told told' core old new commits doubt last fits (to_commit commit) (committed number) steps made_undone refl

    pub made_fits : (more : Vec Commit Global) → more.items ≡ commits.items ++ commit ∷ [] → Fits (behind_step core began made_now made_undone) (world_of (Open new) more doubt Acknowledged)
    made_fits more items = record {
      acknowledged = items ∙ ap (λ (all : List Commit). all ++ commit ∷ []) fits.acknowledged;
      doubt = fits.doubt;
      last = (commit, refl, sure, refl);
      on_rows = record {
        now = (stays.on_rows told).crash;
        undone = since_began (engine_sight {D = D} {E = E} {rows = disk} {index = disk'}).rows (IsBetween core.now made_now) (MayHold core.now.state (commit ∷ [])) old new only
            (crash only only' told told' core old new commits doubt last fits (to_commit commit) (committed number) steps)
            (λ c between. within_commit core.now made_now commit c added between)
            (λ c may. sure_holds core.now.state core.now.doubt (commit ∷ []) c sure ((stands.on_rows told).crash c may));
      };
      on_index = record {
        now = (stays.on_index told').crash;
        undone = since_now disk' (MayHoldIndex core.now.state core.now.loose) (index_device old) (index_device new) only' same' (stands.on_index told').crash;
      };
      runs = (limited only only' told told' core old new commits doubt last fits (to_commit commit) (committed number) steps, stays);
      right = sure_right made_now sure sure'
          (right_stays core.now.state commit (known core.now.state.commits) (known (core.now.state.commits ++ commit ∷ [])) stands.has.keeps.entries fits.right.right);
      right_undone = doubt_right known made_undone commit refl sure' stands.has.keeps.entries fits.right.right;
    }
      where
        stands : Holds core.now old
        stands = fits.runs.1

        stays : Holds made_now new
        stays = stands_now only only' told told' core old new commits doubt last fits (to_commit commit) (committed number) steps

        going : core.now.stopped ≡ None
        going = told_goes core.now.stopped _ (committed number) (one_answer _ _ (may only only' told told' core old new commits doubt last fits (to_commit commit) (committed number) steps)) refl

        sure : core.now.doubt ≡ []
        sure = (stands.logs told going).sure

        sure' : core.now.loose ≡ []
        sure' = (stands.index_logs told' going).sure

        added : (core.now.state.commits ++ commit ∷ []) ++ core.now.doubt ≡ core.now.state.commits ++ commit ∷ []
        added = ap (λ (d : List Commit). (core.now.state.commits ++ commit ∷ []) ++ d) sure ∙ append-nil (core.now.state.commits ++ commit ∷ [])

  -- a device failed: it is in doubt
  module _ (faults : ℕ) (steps : step.Steps engine_sight (to_commit commit) (disk_fault faults) old new) where
    abbrev pub failed_now : Running
    failed_now = with_what core.now (failed faults (commit ∷ []))

    pub failed_turns : MakesStep began (to_commit commit) (disk_fault faults) core (behind_step core began failed_now failed_now)
    failed_turns = turns only only' told told' core old new commits doubt last fits (to_commit commit) (disk_fault faults) steps failed_now refl

    pub failed_fits : Fits (behind_step core began failed_now failed_now) (behind (Open new) commits (Some commit))
    failed_fits = record {
      acknowledged = fits.acknowledged;
      doubt = refl;
      last = (refl, refl);
      on_rows = record {
        now = (stays.on_rows told).crash;
        undone = since_began (engine_sight {D = D} {E = E} {rows = disk} {index = disk'}).rows (IsBetween core.now failed_now) (MayHold core.now.state (commit ∷ [])) old new only
            (crash only only' told told' core old new commits doubt last fits (to_commit commit) (disk_fault faults) steps)
            (λ c between. within_commit core.now failed_now commit c refl between)
            (λ c may. sure_holds core.now.state core.now.doubt (commit ∷ []) c sure ((stands.on_rows told).crash c may));
      };
      on_index = record {
        now = (stays.on_index told').crash;
        undone = since_now disk' (MayHoldIndex core.now.state core.now.loose) (index_device old) (index_device new) only' same' (stands.on_index told').crash;
      };
      runs = (limited only only' told told' core old new commits doubt last fits (to_commit commit) (disk_fault faults) steps, stays);
      right = right;
      right_undone = right;
    }
      where
        stands : Holds core.now old
        stands = fits.runs.1

        stays : Holds failed_now new
        stays = stands_now only only' told told' core old new commits doubt last fits (to_commit commit) (disk_fault faults) steps

        going : core.now.stopped ≡ None
        going = writes_goes core.now.stopped _ (may only only' told told' core old new commits doubt last fits (to_commit commit) (disk_fault faults) steps)

        sure : core.now.doubt ≡ []
        sure = (stands.logs told going).sure

        sure' : core.now.loose ≡ []
        sure' = (stands.index_logs told' going).sure

        right : HasRightIndex failed_now
        right = doubt_right known failed_now commit refl sure' stands.has.keeps.entries fits.right.right

-- ---- entries of the index log

-- what stands with more entries, and without a fault or with one that leaves them in doubt
abbrev pub with_more : Running → List IndexEntry → IndexState → Running
with_more running more index = record running { state = with_entries running.state more; index = index }

abbrev pub with_loose : Running → List IndexEntry → Running
with_loose running more = record running { loose = more }

abbrev pub left_loose : Running → List IndexEntry → ℕ → Running
left_loose running more faults = record running { stopped = Some faults; loose = more }

module _ {D E : Type 0} {disk : Ghosts D} {disk' : Ghosts E} (only : (d : D) (c : Files) → disk.left_since d (disk.moment d) c → disk.images d c)
    (only' : (d : E) (c : Files) → disk'.left_since d (disk'.moment d) c → disk'.images d c) (told : IsTrue disk.tells) (told' : IsTrue disk'.tells) (core : Core)
    (old new : Engine D E disk disk') (commits : Vec Commit Global) (doubt : Option Commit) (last : Last) (fits : Fits core (world_of (Open old) commits doubt last))
    (ask : Ask) (answer : Answer) (steps : step.Steps engine_sight ask answer old new) (more : List IndexEntry) (one : IsOne more) (going : core.now.stopped ≡ None)
    (same : rows_device new ≡ rows_device old) where
  stands_ : Holds core.now old
  stands_ = fits.runs.1

  surely : core.now.doubt ≡ []
  surely = (stands_.logs told going).sure

  surely' : core.now.loose ≡ []
  surely' = (stands_.index_logs told' going).sure

  -- before the entry or behind it
  before_entry : (c : Files) → disk'.images (index_device old) c → MayHoldIndex core.now.state more c
  before_entry c may = sure_index core.now.state core.now.loose more c surely' ((stands_.on_index told').crash c may)

  -- it was made
  pub written_fits : (index : IndexState) → after core.now ask answer ≡ with_more core.now more index
      → (HasEntries (with_entries core.now.state more) → IsRight (with_entries core.now.state more))
      → Fits (behind_step core (moments (world_of (Open old) commits doubt last)) (after core.now ask answer) (with_loose core.now more)) (behind (Open new) commits doubt)
  written_fits index is right_more =
      subst (λ (now : Running). Fits (behind_step core (moments (world_of (Open old) commits doubt last)) now (with_loose core.now more)) (behind (Open new) commits doubt)) (sym is)
      (record {
        acknowledged = fits.acknowledged;
        doubt = fits.doubt;
        last = (refl, refl);
        on_rows = record {
          now = (stays.on_rows told).crash;
          undone = since_now disk (MayHold core.now.state core.now.doubt) (rows_device old) (rows_device new) only same (stands_.on_rows told).crash;
        };
        on_index = record {
          now = (stays.on_index told').crash;
          undone = since_began (engine_sight {D = D} {E = E} {rows = disk} {index = disk'}).index (IsIndexBetween core.now now) (MayHoldIndex core.now.state more) old new only'
              (subst (λ (n : Running). Leaves (engine_sight {D = D} {E = E} {rows = disk} {index = disk'}).index (IsIndexBetween core.now n) old new) is
              (crash' only only' told told' core old new commits doubt last fits ask answer steps))
              (λ c between. within_entry core.now now more c one (λ entries files index. index) added between) before_entry;
        };
        runs = (limited only only' told told' core old new commits doubt last fits ask answer steps, stays);
        right = sure_right now surely surely' (right_more stays.has.keeps.entries);
        right_undone = loose_right (with_loose core.now more) more surely refl fits.right.right right_more;
      })
    where
      now : Running
      now = with_more core.now more index

      stays : Holds now new
      stays = subst (λ (n : Running). Holds n new) is (stands_now only only' told told' core old new commits doubt last fits ask answer steps)

      added : (core.now.state.entries ++ more) ++ core.now.loose ≡ core.now.state.entries ++ more
      added = ap (λ (l : List IndexEntry). (core.now.state.entries ++ more) ++ l) surely' ∙ append-nil (core.now.state.entries ++ more)

  -- the device failed
  pub loosened_fits : (faults : ℕ) → after core.now ask answer ≡ left_loose core.now more faults
      → (HasEntries (with_entries core.now.state more) → IsRight (with_entries core.now.state more))
      → Fits (behind_step core (moments (world_of (Open old) commits doubt last)) (after core.now ask answer) (after core.now ask answer)) (behind (Open new) commits doubt)
  loosened_fits faults is right_more =
      subst (λ (now : Running). Fits (behind_step core (moments (world_of (Open old) commits doubt last)) now now) (behind (Open new) commits doubt)) (sym is)
      (record {
        acknowledged = fits.acknowledged;
        doubt = fits.doubt;
        last = (refl, refl);
        on_rows = record {
          now = (stays.on_rows told).crash;
          undone = since_now disk (MayHold core.now.state core.now.doubt) (rows_device old) (rows_device new) only same (stands_.on_rows told).crash;
        };
        on_index = record {
          now = (stays.on_index told').crash;
          undone = since_began (engine_sight {D = D} {E = E} {rows = disk} {index = disk'}).index (IsIndexBetween core.now now) (MayHoldIndex core.now.state more) old new only'
              (subst (λ (n : Running). Leaves (engine_sight {D = D} {E = E} {rows = disk} {index = disk'}).index (IsIndexBetween core.now n) old new) is
              (crash' only only' told told' core old new commits doubt last fits ask answer steps))
              (λ c between. within_entry core.now now more c one (λ entries files index. index) refl between) before_entry;
        };
        runs = (limited only only' told told' core old new commits doubt last fits ask answer steps, stays);
        right = right;
        right_undone = right;
      })
    where
      now : Running
      now = left_loose core.now more faults

      stays : Holds now new
      stays = subst (λ (n : Running). Holds n new) is (stands_now only only' told told' core old new commits doubt last fits ask answer steps)

      right : HasRightIndex now
      right = loose_right now more surely refl fits.right.right right_more
