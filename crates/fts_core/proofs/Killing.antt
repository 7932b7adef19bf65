-- What an opening finds behind a crash within a step of a run.
use Rattle.std.proofs.Common.{◌≡◌, ℕ, List, [], ◌∷◌, ◌++◌, refl, ap, subst, sym, ◌∙◌, inl, inr, ⊎_elim}
use Rattle.std.proofs.lemmas.List.{append-nil, append_cancel_left}
use Rattle.std.specs.Prelude.{None, IsTrue, map}
use Rattle.fts_types.specs.declared.limits.Limits.{Limits}
use Rattle.fts_types.specs.declared.settings.Settings.{Settings}
use Rattle.fts_commits.specs.Commit.{Commit}
use Rattle.fts_disk.specs.Device.{Files}
use Rattle.fts_disk.specs.declared.disk.Disk.{Ghosts}
use Rattle.fts_entries.specs.Entry.{IndexEntry}
use Rattle.fts_steps.specs.State.{State, with_commits, with_entries, HasEntries, IsRight, IsRows, IsIndex}
use Rattle.fts_steps.specs.Right.{HasRightIndex, IsWithOrWithout}
use Rattle.fts_steps.specs.Running.{Running, What, made, batched, optimized, failed, batch_failed, optimize_failed, read_failed, Entry, with_what, grown, next_batch, next_optimized, opened}
use Rattle.fts_steps.specs.Crash.{MayHold, MayHoldIndex, IsBetween, IsIndexBetween}
use Rattle.fts_steps.specs.Step.{Ask, Answer, Call, StepOf, Traced, Runs, changes_of, after, after_call}
use Rattle.fts_steps.proofs.Adding.{Adds, with_both, rows_stay, index_stay, adds_call, grown_call, earlier, earlier_index}
use Rattle.fts_steps.proofs.Growing.{entries_stay}
use Rattle.fts_engine.specs.Stands.{OnRows, OnIndex}
use Rattle.fts_engine.specs.Devices.{Devices, Disks, disks_of, device_sight}
use Rattle.fts_core.specs.Turns.{doubting}
use Rattle.fts_core.specs.Killed.{AreFound, OpensWithin, AllOpen}
use Rattle.fts_core.proofs.Between.{IsOne, front_of, since_began}
use Rattle.fts_core.proofs.Right.{AllKnown, next_is_step, sure_right}
use Rattle.fts_core.proofs.Real.{IsReal, MayAdd, AddsOne, adds_one, real_behind, right_undone}

-- what stands if the answer of a step counts as not given, and that what the step added or left in doubt is in doubt there
record IsUndone (running now undone : Running) : Type 0 where
  settings : undone.state.settings ≡ running.state.settings
  commits : undone.state.commits ≡ running.state.commits
  entries : undone.state.entries ≡ running.state.entries
  rows : now.state.commits ++ now.doubt ≡ running.state.commits ++ undone.doubt
  index : now.state.entries ++ now.loose ≡ running.state.entries ++ undone.loose
  one : IsOne undone.doubt
  one' : IsOne undone.loose
  right : HasRightIndex undone
  over : (front : List Commit) (more rest : List IndexEntry) (files : Files) → now.state.entries ++ now.loose ≡ running.state.entries ++ (more ++ rest)
      → IsIndex (record now.state { entries = running.state.entries ++ more }) files → IsIndex (with_both running.state front more) files

no_front : {A : Type 0} (all front rest : List A) → all ++ [] ≡ all ++ (front ++ rest) → front ≡ []
no_front all front rest is = ⊎_elim (λ none. none) (λ none. none) (front_of front rest [] (inl refl) (append_cancel_left all [] (front ++ rest) is))

module _ (known : AllKnown) (limits : Limits) (running : Running) (real : IsReal running) (entries : running.stopped ≡ None → HasEntries running.state) where
  -- nothing was added
  none_undone : IsUndone running running running
  none_undone = record {
    settings = refl;
    commits = refl;
    entries = refl;
    rows = refl;
    index = refl;
    one = real.one;
    one' = real.one';
    right = real.right;
    over = λ front more rest files added index. index_stay (with_entries running.state more) front files index;
  }

  push : {A : Type 0} (all doubt more : List A) → doubt ≡ [] → (all ++ more) ++ doubt ≡ all ++ more
  push {A} all doubt more sure = ap (λ (d : List A). (all ++ more) ++ d) sure ∙ append-nil (all ++ more)

  one_undone : (what : What) → MayAdd limits running what → IsUndone running (with_what running what) (doubting running what)
  one_undone (made commit) going = record {
    settings = refl;
    commits = refl;
    entries = refl;
    rows = push running.state.commits running.doubt (commit ∷ []) (real.sure going).0;
    index = refl;
    one = inr (commit, refl);
    one' = real.one';
    right = right_undone known limits running real (made commit) going entries;
    over = λ front more rest files added index.
        let none : more ≡ [] = no_front running.state.entries more rest (ap (λ (l : List IndexEntry). running.state.entries ++ l) (sym (real.sure going).1) ∙ added) in
        record {
          sound = subst (λ (es : List IndexEntry). HasEntries (record { settings = running.state.settings; commits = running.state.commits ++ front; entries = es }))
              (sym (ap (λ (m : List IndexEntry). running.state.entries ++ m) none ∙ append-nil running.state.entries)) (entries_stay running.state front (entries going));
          log = index.log;
        };
  }
  one_undone batched (going, wrote) = record {
    settings = refl;
    commits = refl;
    entries = refl;
    rows = refl;
    index = push running.state.entries running.loose (next_batch running ∷ []) (real.sure going).1;
    one = real.one;
    one' = inr (next_batch running, refl);
    right = right_undone known limits running real batched (going, wrote) entries;
    over = λ front more rest files added index. index_stay (with_entries running.state more) front files index;
  }
  one_undone optimized going = record {
    settings = refl;
    commits = refl;
    entries = refl;
    rows = refl;
    index = push running.state.entries running.loose (next_optimized running) (real.sure going).1;
    one = real.one;
    one' = (next_is_step running.state.entries running.index).one;
    right = right_undone known limits running real optimized going entries;
    over = λ front more rest files added index. index_stay (with_entries running.state more) front files index;
  }
  one_undone (failed faults doubt) (going, (commit, is)) = record {
    settings = refl;
    commits = refl;
    entries = refl;
    rows = refl;
    index = refl;
    one = inr (commit, is);
    one' = real.one';
    right = right_undone known limits running real (failed faults doubt) (going, (commit, is)) entries;
    over = λ front more rest files added index. index_stay (with_entries running.state more) front files index;
  }
  one_undone (batch_failed faults) (going, wrote) = record {
    settings = refl;
    commits = refl;
    entries = refl;
    rows = refl;
    index = refl;
    one = real.one;
    one' = inr (next_batch running, refl);
    right = right_undone known limits running real (batch_failed faults) (going, wrote) entries;
    over = λ front more rest files added index. index_stay (with_entries running.state more) front files index;
  }
  one_undone (optimize_failed faults) going = record {
    settings = refl;
    commits = refl;
    entries = refl;
    rows = refl;
    index = refl;
    one = real.one;
    one' = (next_is_step running.state.entries running.index).one;
    right = right_undone known limits running real (optimize_failed faults) going entries;
    over = λ front more rest files added index. index_stay (with_entries running.state more) front files index;
  }
  one_undone (read_failed faults) may = record {
    settings = refl;
    commits = refl;
    entries = refl;
    rows = refl;
    index = refl;
    one = real.one;
    one' = real.one';
    right = real.right;
    over = λ front more rest files added index. index_stay (with_entries running.state more) front files index;
  }

-- a front of what is in doubt is none of it, or all
with_or_without : {A : Type 0} (all all' doubt front rest : List A) → all' ≡ all → IsOne doubt → all ++ doubt ≡ all ++ (front ++ rest) → IsWithOrWithout all' doubt (all ++ front)
with_or_without {A} all all' doubt front rest same one is =
    ⊎_elim
    (λ none. inl (ap (λ (f : List A). all ++ f) none ∙ append-nil all ∙ sym same))
    (λ whole. inr (ap (λ (f : List A). all ++ f) whole ∙ ap (λ (a : List A). a ++ doubt) (sym same)))
    (front_of front rest doubt one (append_cancel_left all doubt (front ++ rest) is))

-- so the two logs are those of a database, whose index is right
found : (running now undone : Running) (rows index : Files) → IsUndone running now undone → IsBetween running now rows → IsIndexBetween running now index → AreFound running now rows index
found running now undone rows index is between between' =
    let state : State = with_both running.state between.front between'.front in
    let of_index : IsIndex state index = is.over between.front between'.front between'.rest index between'.added between'.index in
    record {
      state = state;
      database = record { of_rows = rows_stay (with_commits running.state between.front) between'.front (rows 0) between.rows; of_index = of_index };
      right = is.right.found state
          (record {
            settings = sym is.settings;
            commits = with_or_without running.state.commits undone.state.commits undone.doubt between.front between.rest is.commits is.one (sym is.rows ∙ between.added);
            entries = with_or_without running.state.entries undone.state.entries undone.loose between'.front between'.rest is.entries is.one' (sym is.index ∙ between'.added);
          })
          of_index.sound;
      front = between.front;
      rest = between.rest;
      commits = refl;
      added = between.added;
    }

-- ---- what a crash before the step could leave is between too

held_between : (running : Running) (c : Files) → MayHold running.state running.doubt c → IsBetween running running c
held_between running c (inl rows) = record {
  front = [];
  rest = running.doubt;
  added = refl;
  rows = subst (λ (commits : List Commit). IsRows (record { settings = running.state.settings; commits = commits; entries = running.state.entries }) (c 0)) (sym (append-nil running.state.commits)) rows;
}
held_between running c (inr rows) = record {
  front = running.doubt;
  rest = [];
  added = ap (λ (d : List Commit). running.state.commits ++ d) (sym (append-nil running.doubt));
  rows = rows;
}

held_index : (running : Running) (c : Files) → MayHoldIndex running.state running.loose c → IsIndexBetween running running c
held_index running c (inl index) = record {
  front = [];
  rest = running.loose;
  added = refl;
  index = subst (λ (entries : List IndexEntry). IsIndex (record running.state { entries = entries }) c) (sym (append-nil running.state.entries)) index;
}
held_index running c (inr index) = record {
  front = running.loose;
  rest = [];
  added = ap (λ (l : List IndexEntry). running.state.entries ++ l) (sym (append-nil running.loose));
  index = index;
}

-- ---- a step

-- a step with what others added before it
abbrev alone_call : Call → List Entry → Call
alone_call one before = record { more = before; ask = one.ask; answer = one.answer }

module _ {D E : Type 0} (disk : Ghosts D) (disk' : Ghosts E) (only : (d : D) (c : Files) → disk.left_since d (disk.moment d) c → disk.images d c)
    (only' : (d : E) (c : Files) → disk'.left_since d (disk'.moment d) c → disk'.images d c) (told : IsTrue disk.tells) (told' : IsTrue disk'.tells) (known : AllKnown)
    (settings : Settings) (limits : Limits) where
  abbrev both : Disks D E
  both = disks_of disk disk'

  abbrev Stood : Running → Devices D E → Type 0
  Stood running here = OnRows disk running here.rows × OnIndex disk' running here.index

  module _ (running : Running) (ask : Ask) (answer : Answer) (old mid : Devices D E) (real : IsReal running) (stood : Stood running old)
      (step : StepOf (device_sight both settings limits) running (record { more = []; ask = ask; answer = answer }) old mid) where
    abbrev call : Call
    call = record { more = []; ask = ask; answer = answer }

    now : Running
    now = after running ask answer

    entries : running.stopped ≡ None → HasEntries running.state
    entries going = (stood.1.reads going).sound

    entries' : (after running ask answer).stopped ≡ None → HasEntries (after running ask answer).state
    entries' going = (step.stands.1.reads going).sound

    more : Adds running (after running ask answer)
    more = adds_call limits running call real.sure refl step.may

    rows_between : (c : Files) → disk.left_since mid.rows (disk.moment old.rows) c → IsBetween running (after running ask answer) c
    rows_between = since_began (device_sight both settings limits).rows (IsBetween running (after running ask answer)) (IsBetween running (after running ask answer)) old mid only (step.rows refl told)
        (λ c between. between) (λ c may. earlier running running (after running ask answer) c more (held_between running c (stood.0.crash c may)))

    index_between : (c : Files) → disk'.left_since mid.index (disk'.moment old.index) c → IsIndexBetween running (after running ask answer) c
    index_between = since_began (device_sight both settings limits).index (IsIndexBetween running (after running ask answer)) (IsIndexBetween running (after running ask answer)) old mid only'
        (step.index refl told') (λ c between. between)
        (λ c may. earlier_index running running (after running ask answer) c (grown_call running call) more (held_index running c (stood.1.crash c may)))

    after_is : (whats : List What) → changes_of ask answer ≡ whats → after running ask answer ≡ grown running (map (λ (what : What). record { by = 0; what = what }) whats)
    after_is whats is = ap (λ (all : List What). grown running (map (λ (what : What). record { by = 0; what = what }) all)) is

    undone_by : AddsOne limits running ask answer → (undone : Running) × IsUndone running (after running ask answer) undone
    undone_by (inl none) = (running, subst (λ (r : Running). IsUndone running r running) (sym (after_is [] none)) (none_undone known limits running real entries))
    undone_by (inr (what, is, can)) =
        (doubting running what, subst (λ (r : Running). IsUndone running r (doubting running what)) (sym (after_is (what ∷ []) is)) (one_undone known limits running real entries what can))

    real_by : AddsOne limits running ask answer → IsReal (after running ask answer)
    real_by (inl none) = subst IsReal (sym (after_is [] none)) real
    real_by (inr (what, is, can)) =
        subst IsReal (sym (after_is (what ∷ []) is))
        (real_behind known limits running real what can entries (subst (λ (r : Running). r.stopped ≡ None → HasEntries r.state) (after_is (what ∷ []) is) entries'))

    plain_opens : OpensWithin both running (after running ask answer) old mid
    plain_opens rows index left left' =
        let undone = undone_by (adds_one limits running ask answer step.may) in
        found running (after running ask answer) undone.0 rows index undone.1 (rows_between rows left) (index_between index left')

    plain_real : IsReal (after running ask answer)
    plain_real = real_by (adds_one limits running ask answer step.may)

  all_open : (running : Running) (calls : List Call) (old new : Devices D E) → IsReal running → Stood running old → Traced (device_sight both settings limits) running calls old new
      → AllOpen both settings limits running calls old new
  all_open running [] old new real stood is = is
  all_open running (call ∷ calls) old new real stood (mid, step, rest) =
      let none : call.more ≡ [] = step.alone refl in
      let plain : StepOf (device_sight both settings limits) running (alone_call call []) old mid =
      subst (λ (more : List Entry). StepOf (device_sight both settings limits) running (alone_call call more) old mid) none step in
      let opens = subst (λ (more : List Entry). OpensWithin both running (after_call running (alone_call call more)) old mid) (sym none)
      (plain_opens running call.ask call.answer old mid real stood plain) in
      let real' = subst (λ (more : List Entry). IsReal (after_call running (alone_call call more))) (sym none) (plain_real running call.ask call.answer old mid real stood plain) in
      (mid, step, opens, all_open (after_call running call) calls mid new real' step.stands rest)

  -- a run from a database whose index is right
  pub run_opens : (start : State) (calls : List Call) (before now : Devices D E) → IsRight start → Runs (device_sight both settings limits) (opened start) calls before now
      → (began : Devices D E) × AllOpen both settings limits (opened start) calls began now
  run_opens start calls before now right run = (
    run.began,
    all_open (opened start) calls run.began now
        (record { sure = λ going. (refl, refl); left = refl; one = inl refl; one' = inl refl; right = sure_right (opened start) refl refl right }) run.stood run.steps,
  )
