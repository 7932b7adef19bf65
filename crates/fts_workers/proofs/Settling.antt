-- Where batches end that met nothing, no batch is due.
use Rattle.std.proofs.Common.{◌≡◌, ◌⊎◌, ℕ, zero, suc, ◌+◌, ◌≤◌, ◌<◌, Bool, true, false, nat_lt, if◌then◌else◌, List, [], ◌∷◌, length, refl, ap, subst, sym, ◌∙◌, arith, inl, inr}
use Rattle.std.specs.Prelude.{Option, Some, None}
use Rattle.std.proofs.Math.Nat.{le-max_left}
use Rattle.std.proofs.lemmas.Bool.{false≢true, ltb-false}
use Rattle.std.proofs.lemmas.List.{drop_all}
use Rattle.fts_types.specs.Rules.{rules_of}
use Rattle.fts_types.specs.declared.limits.Limits.{Limits}
use Rattle.fts_commits.specs.Commit.{no_rows}
use Rattle.fts_commits.specs.Turn.{Turn, births_of}
use Rattle.fts_entries.specs.Entry.{unflushed}
use Rattle.fts_entries.specs.Batch.{covered_within}
use Rattle.fts_entries.specs.Words.{rows_size}
use Rattle.fts_steps.specs.State.{turns_of}
use Rattle.fts_steps.specs.Running.{Running, Entry, grown, batched, with_what, cache_size}
use Rattle.fts_steps.specs.Step.{Ask, Answer, committed, refused, full, flushed, all_flushed, passed, viewed, found, listed, measured, disk_fault, stopped, no_memory, to_measure, to_sync}
use Rattle.fts_steps.specs.Step.{Call, MayAnswer, Follows, AreAlone, after, after_call, after_all, plain_answer, batch_answer, unless_stopped}
use Rattle.fts_steps.proofs.Growing.{turns_count}
use Rattle.fts_workers.specs.declared.health.Health.{Health}
use Rattle.fts_workers.specs.declared.health.Health.TheVariants.{Sound}
use Rattle.fts_workers.specs.Health.{health_of_answer, health_of_steps, worse}
use Rattle.fts_workers.specs.Batches.{AreBatches, if_above, unless_refused}
use Rattle.fts_workers.specs.Settled.{NeedsNoBatch}
use Rattle.fts_workers.proofs.Worse.{sound_before, sound_behind}

-- ---- the plain answers to a batch

abbrev is_of_batch : Answer → Bool
is_of_batch (full place) = true
is_of_batch (flushed through commits) = true
is_of_batch (all_flushed commits) = true
is_of_batch (stopped faults) = true
is_of_batch answer = false

abbrev is_some_batch : Option Answer → Bool
is_some_batch None = true
is_some_batch (Some answer) = is_of_batch answer

-- by whether a fault stopped the engine, a commit is not flushed, and the log has no room
abbrev answer_by : Option ℕ → Bool → Bool → ℕ → ℕ → ℕ → Answer
answer_by halted some late place through commits = unless_stopped halted (if some then (if late then full place else flushed through commits) else all_flushed commits)

of_batch : (halted : Option ℕ) (some late : Bool) (place through commits : ℕ) → is_of_batch (answer_by halted some late place through commits) ≡ true
of_batch (Some faults) some late place through commits = refl
of_batch None true true place through commits = refl
of_batch None true false place through commits = refl
of_batch None false late place through commits = refl

flushes_none : (halted : Option ℕ) (some late : Bool) (place through commits told : ℕ) → Some (answer_by halted some late place through commits) ≡ Some (all_flushed told) → some ≡ false
flushes_none (Some faults) some late place through commits told is = absurd cc
flushes_none None true true place through commits told is = absurd cc
flushes_none None true false place through commits told is = absurd cc
flushes_none None false late place through commits told is = refl

is_halted : (halted : Option ℕ) (some late : Bool) (place through commits faults : ℕ) → Some (answer_by halted some late place through commits) ≡ Some (stopped faults) → halted ≡ None → ⊥
is_halted (Some before) some late place through commits faults is none = absurd cc
is_halted None true true place through commits faults is none = absurd cc
is_halted None true false place through commits faults is none = absurd cc
is_halted None false late place through commits faults is none = absurd cc

-- ---- rounds

module _ (limits : Limits) (bytes : ℕ) where
  none_cached : (running : Running) → length running.state.commits ≤ running.index.flushed → cache_size running ≡ 0
  none_cached running all =
      let count = turns_count no_rows running.state.commits in
      ap (λ (turns : List Turn). rows_size (rules_of running.state.settings) (births_of turns)) (drop_all running.index.flushed (turns_of running.state) (omega (arith, all, count)))

  abbrev Settles : ℕ → Type 0
  Settles most = (running : Running) (calls : List Call) → running.state.settings.cache_bytes ≡ bytes → length running.state.commits ≤ running.index.flushed + most
      → AreBatches bytes most calls → Follows limits running calls → AreAlone calls → health_of_steps calls ≡ Sound → NeedsNoBatch limits (after_all running calls)

  -- nothing follows
  at_end : (running : Running) (calls : List Call) → calls ≡ [] → NeedsNoBatch limits running → NeedsNoBatch limits (after_all running calls)
  at_end running calls none needs = subst (λ (c : List Call). NeedsNoBatch limits (after_all running c)) (sym none) needs

  not_of_batch : (running : Running) (answer : Answer) → is_of_batch answer ≡ false → plain_answer limits running to_sync ≡ Some answer → ⊥
  not_of_batch running answer other is =
      false≢true (sym other ∙ sym (ap is_some_batch is) ∙ of_batch running.stopped (nat_lt running.index.flushed (length running.state.commits)) _ _ _ (length running.state.commits))

  behind_batch : (most : ℕ) (running : Running) (answer : Answer) (calls : List Call) → Settles most → running.state.settings.cache_bytes ≡ bytes
      → length running.state.commits ≤ running.index.flushed + suc most → MayAnswer limits running to_sync answer → health_of_answer answer ≡ Sound
      → unless_refused answer (AreBatches bytes most) calls → Follows limits (after running to_sync answer) calls → AreAlone calls → health_of_steps calls ≡ Sound
      → NeedsNoBatch limits (after_all (after running to_sync answer) calls)
  behind_batch most running (flushed through commits) calls settles same few may sound rest follows alone calm =
      let one = le-max_left 1 (covered_within running.state.settings.batch_docs 0 (unflushed (turns_of running.state) running.index)) in
      settles (with_what running batched) calls same (omega (arith, few, one)) rest follows alone calm
  behind_batch most running (all_flushed commits) calls settles same few may sound rest follows alone calm =
      let none = flushes_none running.stopped (nat_lt running.index.flushed (length running.state.commits)) _ _ _ (length running.state.commits) commits may in
      let zero_now = none_cached running (ltb-false running.index.flushed (length running.state.commits) none) in
      at_end running calls rest (inl (omega (arith, zero_now)))
  behind_batch most running (full place) calls settles same few may sound rest follows alone calm = at_end running calls rest (inr (inl (place, may)))
  behind_batch most running (stopped faults) calls settles same few may sound rest follows alone calm =
      at_end running calls rest (inr (inr (is_halted running.stopped (nat_lt running.index.flushed (length running.state.commits)) _ _ _ (length running.state.commits) faults may)))
  behind_batch most running (committed number) calls settles same few may sound rest follows alone calm = absurd (not_of_batch running (committed number) refl may)
  behind_batch most running (refused why) calls settles same few may sound rest follows alone calm = absurd (not_of_batch running (refused why) refl may)
  behind_batch most running (passed step) calls settles same few may sound rest follows alone calm = absurd (not_of_batch running (passed step) refl may)
  behind_batch most running (measured size) calls settles same few may sound rest follows alone calm = absurd (not_of_batch running (measured size) refl may)
  behind_batch most running (viewed view) calls settles same few may sound rest follows alone calm = absurd may
  behind_batch most running (found number docs) calls settles same few may sound rest follows alone calm = absurd may
  behind_batch most running (listed number listing) calls settles same few may sound rest follows alone calm = absurd may
  behind_batch most running (disk_fault faults) calls settles same few may sound rest follows alone calm = absurd cc
  behind_batch most running no_memory calls settles same few may sound rest follows alone calm = absurd cc

  -- the size was told, and is or is not above the limit
  behind_size : (most : ℕ) (running : Running) (calls : List Call) → Settles most → running.state.settings.cache_bytes ≡ bytes
      → length running.state.commits ≤ running.index.flushed + suc most → (above : Bool) → nat_lt bytes (cache_size running) ≡ above
      → if_above above (AreBatches bytes most) calls → Follows limits running calls → AreAlone calls → health_of_steps calls ≡ Sound
      → NeedsNoBatch limits (after_all running calls)
  behind_size most running calls settles same few false small none follows alone calm =
      let within = ltb-false bytes (cache_size running) small in at_end running calls none (inl (omega (arith, within, same)))
  behind_size most running [] settles same few true large rest follows alone calm = absurd rest
  behind_size most running (call ∷ calls) settles same few true large (asked, rest) follows alone calm =
      let here : after_call running call ≡ after running to_sync call.answer =
      ap (λ (more : List Entry). after (grown running more) call.ask call.answer) alone.0 ∙ ap (λ (ask : Ask). after running ask call.answer) asked in
      let may : MayAnswer limits running to_sync call.answer =
      subst (λ (ask : Ask). MayAnswer limits running ask call.answer) asked (subst (λ (more : List Entry). MayAnswer limits (grown running more) call.ask call.answer) alone.0 follows.0) in
      let first = sound_before (health_of_answer call.answer) (health_of_steps calls) calm in
      let later = sound_behind (health_of_answer call.answer) (health_of_steps calls) calm in
      subst (λ (r : Running). NeedsNoBatch limits (after_all r calls)) (sym here)
      (behind_batch most running call.answer calls settles same few may first rest (subst (λ (r : Running). Follows limits r calls) here follows.1) alone.1 later)

  pub settles : (most : ℕ) → Settles most
  settles zero running calls same few are follows alone calm = at_end running calls are (inl (let none = none_cached running (omega (arith, few)) in omega (arith, none)))
  settles (suc most) running [] same few are follows alone calm = absurd are
  settles (suc most) running (call ∷ calls) same few (size, asked, answered, rest) follows alone calm =
      let here : after_call running call ≡ running =
      ap (λ (more : List Entry). after (grown running more) call.ask call.answer) alone.0
      ∙ ap (λ (ask : Ask). after running ask call.answer) asked
      ∙ ap (λ (answer : Answer). after running to_measure answer) answered in
      let may : Some (measured (cache_size running)) ≡ Some (measured size) =
      subst (λ (answer : Answer). MayAnswer limits running to_measure answer) answered
      (subst (λ (ask : Ask). MayAnswer limits running ask call.answer) asked (subst (λ (more : List Entry). MayAnswer limits (grown running more) call.ask call.answer) alone.0 follows.0)) in
      let size_is : size ≡ cache_size running = cc in
      let later = sound_behind (health_of_answer call.answer) (health_of_steps calls) calm in
      subst (λ (r : Running). NeedsNoBatch limits (after_all r calls)) (sym here)
      (behind_size most running calls (settles most) same few (nat_lt bytes (cache_size running)) refl
      (subst (λ (n : ℕ). if_above (nat_lt bytes n) (AreBatches bytes most) calls) size_is rest)
      (subst (λ (r : Running). Follows limits r calls) here follows.1) alone.1 later)
