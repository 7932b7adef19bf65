-- An OPTIMIZE that met nothing ends whole.
use Rattle.std.proofs.Common.{◌≡◌, ◌⊎◌, ℕ, ◌+◌, ◌≤◌, Bool, true, false, nat_lt, if◌then◌else◌, ◌&&◌, codes, List, [], ◌∷◌, ◌++◌, length, refl, ap, subst, sym, ◌∙◌, arith, inl, inr}
use Rattle.std.specs.Prelude.{Option, Some, None}
use Rattle.std.proofs.lemmas.Bool.{false≢true, ltb-false}
use Rattle.std.proofs.lemmas.List.{length-append}
use Rattle.fts_types.specs.declared.limits.Limits.{Limits}
use Rattle.fts_types.specs.declared.settings.Settings.{Settings}
use Rattle.fts_schema.specs.declared.reply.Reply.{Reply}
use Rattle.fts_schema.specs.declared.reply.Reply.TheVariants.{Optimized, NothingToOptimize, LogFull, Stopped}
use Rattle.fts_entries.specs.Entry.{IndexEntry, sealed, begun, worked, finished}
use Rattle.fts_steps.specs.declared.optimize.OptimizeStep.{OptimizeStep}
use Rattle.fts_steps.specs.declared.optimize.OptimizeStep.TheVariants as did
use Rattle.fts_steps.specs.State.{State, index_end_after}
use Rattle.fts_steps.specs.Running.{Running, Entry, grown, next_optimized}
use Rattle.fts_steps.specs.Step.{Ask, Answer, committed, refused, full, flushed, all_flushed, passed, viewed, found, listed, measured, disk_fault, stopped, no_memory, to_optimize}
use Rattle.fts_steps.specs.Step.{Call, MayAnswer, Follows, after_call, plain_answer, optimize_answer, step_of, unless_full, unless_stopped}
use Rattle.fts_sessions.specs.Request.{optimizes}
use Rattle.fts_sessions.specs.Conversation.{Next, asks, ends, Converses, reply_to, optimized, optimize_next, leaves_open, last_answer, words_in}
use Rattle.fts_workers.specs.declared.health.Health.{Health}
use Rattle.fts_workers.specs.declared.health.Health.TheVariants.{Sound}
use Rattle.fts_workers.specs.Health.{health_of_answer, health_of_steps, worse}
use Rattle.fts_workers.specs.Settled.{EndsWhole}
use Rattle.fts_workers.proofs.Conversing.{last_is}
use Rattle.fts_workers.proofs.Worse.{sound_before, sound_behind}

-- ---- the plain answers to a step of OPTIMIZE

abbrev is_of_step : Answer → Bool
is_of_step (full place) = true
is_of_step (passed step) = true
is_of_step (stopped faults) = true
is_of_step answer = false

abbrev is_some_step : Option Answer → Bool
is_some_step None = true
is_some_step (Some answer) = is_of_step answer

of_full : (late : Bool) (place : ℕ) (step : OptimizeStep) → is_of_step (if late then full place else passed step) ≡ true
of_full true place step = refl
of_full false place step = refl

of_step : (limits : Limits) (state : State) (halted : Option ℕ) (entries : List IndexEntry) → is_of_step (unless_stopped halted (optimize_answer limits state entries)) ≡ true
of_step limits state (Some faults) entries = refl
of_step limits state None [] = refl
of_step limits state None (entry ∷ entries) = of_full (nat_lt limits.log_bytes (index_end_after state entry)) (index_end_after state entry) (step_of entry)

not_of_step : (limits : Limits) (running : Running) (answer : Answer) → is_of_step answer ≡ false → plain_answer limits running to_optimize ≡ Some answer → ⊥
not_of_step limits running answer other is =
    false≢true (sym other ∙ sym (ap is_some_step is) ∙ of_step limits running.state running.stopped (next_optimized running))

-- so it is of each answer that met nothing
is_plain : (limits : Limits) (running : Running) (answer : Answer) → MayAnswer limits running to_optimize answer → health_of_answer answer ≡ Sound → is_of_step answer ≡ true
is_plain limits running (full place) may sound = refl
is_plain limits running (passed step) may sound = refl
is_plain limits running (stopped faults) may sound = refl
is_plain limits running (committed number) may sound = absurd (not_of_step limits running (committed number) refl may)
is_plain limits running (refused why) may sound = absurd (not_of_step limits running (refused why) refl may)
is_plain limits running (flushed through commits) may sound = absurd (not_of_step limits running (flushed through commits) refl may)
is_plain limits running (all_flushed commits) may sound = absurd (not_of_step limits running (all_flushed commits) refl may)
is_plain limits running (measured size) may sound = absurd (not_of_step limits running (measured size) refl may)
is_plain limits running (viewed view) may sound = absurd may
is_plain limits running (found number docs) may sound = absurd may
is_plain limits running (listed number listing) may sound = absurd may
is_plain limits running (disk_fault faults) may sound = absurd cc
is_plain limits running no_memory may sound = absurd cc

-- ---- the end

nothing_ends : (later : Bool) (most words steps : ℕ) (reply : Reply) → (if later then Optimized words true else NothingToOptimize) ≡ reply → EndsWhole most steps reply
nothing_ends true most words steps reply is = subst (EndsWhole most steps) is (inl refl)
nothing_ends false most words steps reply is = subst (EndsWhole most steps) is tt

-- a pass that stays open has all its words, or as many steps as it may have
open_ends : (few short : Bool) (most steps words : ℕ) (reply : Reply) → nat_lt words most ≡ few → nat_lt steps (most + 2) ≡ short
    → (if few && short then asks to_optimize else ends (Optimized words false)) ≡ ends reply → EndsWhole most steps reply
open_ends true true most steps words reply few short is = absurd cc
open_ends true false most steps words reply few short is =
    let same : Optimized words false ≡ reply = cc in subst (EndsWhole most steps) same (inr (inr (ltb-false steps (most + 2) short)))
open_ends false short' most steps words reply few short is =
    let same : Optimized words false ≡ reply = cc in subst (EndsWhole most steps) same (inr (inl (ltb-false words most few)))

step_ends : (most steps words : ℕ) (step : OptimizeStep) (reply : Reply)
    → (if (leaves_open step && nat_lt words most) && nat_lt steps (most + 2) then asks to_optimize else ends (optimized steps words step)) ≡ ends reply → EndsWhole most steps reply
step_ends most steps words did.Began reply is = open_ends (nat_lt words most) (nat_lt steps (most + 2)) most steps words reply refl refl is
step_ends most steps words did.Word reply is = open_ends (nat_lt words most) (nat_lt steps (most + 2)) most steps words reply refl refl is
step_ends most steps words did.Finished reply is = let same : Optimized words true ≡ reply = cc in subst (EndsWhole most steps) same (inl refl)
step_ends most steps words did.Nothing reply is =
    let same : (if nat_lt 1 steps then Optimized words true else NothingToOptimize) ≡ reply = cc in nothing_ends (nat_lt 1 steps) most words steps reply same

at_end : (most steps words : ℕ) (answer : Answer) (reply : Reply) → is_of_step answer ≡ true → optimize_next most steps words answer ≡ ends reply → EndsWhole most steps reply
at_end most steps words (passed step) reply of is = step_ends most steps words step reply is
at_end most steps words (full place) reply of is = let same : LogFull place ≡ reply = cc in subst (EndsWhole most steps) same tt
at_end most steps words (stopped faults) reply of is = let same : Stopped faults ≡ reply = cc in subst (EndsWhole most steps) same tt
at_end most steps words (committed number) reply of is = absurd (false≢true of)
at_end most steps words (refused why) reply of is = absurd (false≢true of)
at_end most steps words (flushed through commits) reply of is = absurd (false≢true of)
at_end most steps words (all_flushed commits) reply of is = absurd (false≢true of)
at_end most steps words (measured size) reply of is = absurd (false≢true of)
at_end most steps words (viewed view) reply of is = absurd (false≢true of)
at_end most steps words (found number docs) reply of is = absurd (false≢true of)
at_end most steps words (listed number listing) reply of is = absurd (false≢true of)
at_end most steps words (disk_fault faults) reply of is = absurd (false≢true of)
at_end most steps words no_memory reply of is = absurd (false≢true of)

-- one more step is asked for by a step alone
asked_by : (more : Bool) (told : Reply) (ask : Ask) → (if more then asks to_optimize else ends told) ≡ asks ask → ask ≡ to_optimize
asked_by true told ask is = sym cc
asked_by false told ask is = absurd cc

asks_again : (most steps words : ℕ) (answer : Answer) (ask : Ask) → is_of_step answer ≡ true → optimize_next most steps words answer ≡ asks ask → ask ≡ to_optimize
asks_again most steps words (passed step) ask of is = asked_by ((leaves_open step && nat_lt words most) && nat_lt steps (most + 2)) (optimized steps words step) ask is
asks_again most steps words (full place) ask of is = absurd cc
asks_again most steps words (stopped faults) ask of is = absurd cc
asks_again most steps words (committed number) ask of is = absurd cc
asks_again most steps words (refused why) ask of is = absurd cc
asks_again most steps words (flushed through commits) ask of is = absurd cc
asks_again most steps words (all_flushed commits) ask of is = absurd cc
asks_again most steps words (measured size) ask of is = absurd cc
asks_again most steps words (viewed view) ask of is = absurd cc
asks_again most steps words (found number docs) ask of is = absurd cc
asks_again most steps words (listed number listing) ask of is = absurd cc
asks_again most steps words (disk_fault faults) ask of is = absurd cc
asks_again most steps words no_memory ask of is = absurd cc

module _ (settings : Settings) (limits : Limits) where
  abbrev Whole : ℕ → Reply → Type 0
  Whole = EndsWhole settings.optimize_words

  may_of : (running : Running) (call : Call) → call.ask ≡ to_optimize → MayAnswer limits (grown running call.more) call.ask call.answer → health_of_answer call.answer ≡ Sound
      → is_of_step call.answer ≡ true
  may_of running call asked may sound =
      is_plain limits (grown running call.more) call.answer (subst (λ (ask : Ask). MayAnswer limits (grown running call.more) ask call.answer) asked may) sound

  behind : (running : Running) (first : Answer) (more : List Answer) (calls : List Call) (reply : Reply) → is_of_step (last_answer first more) ≡ true
      → Converses settings None (optimizes (codes "docs")) (first ∷ more) calls reply → Follows limits running calls → health_of_steps calls ≡ Sound
      → Whole (length (first ∷ more) + length calls) reply
  behind running first more [] reply of says follows calm =
      subst (λ (n : ℕ). Whole n reply) (let same : length (first ∷ more) ≡ length (first ∷ more) + length {A = Call} [] = omega arith in same)
      (at_end settings.optimize_words (length (first ∷ more)) (words_in (first ∷ more)) (last_answer first more) reply of says)
  behind running first more (call ∷ calls) reply of (says, rest) follows calm =
      let asked = asks_again settings.optimize_words (length (first ∷ more)) (words_in (first ∷ more)) (last_answer first more) call.ask of says in
      let here = may_of running call asked follows.0 (sound_before (health_of_answer call.answer) (health_of_steps calls) calm) in
      let later = sound_behind (health_of_answer call.answer) (health_of_steps calls) calm in
      let long = length-append more (call.answer ∷ []) in
      subst (λ (n : ℕ). Whole n reply) (omega (arith, long))
      (behind (after_call running call) first (more ++ call.answer ∷ []) calls reply (ap is_of_step (last_is first more call.answer) ∙ here) rest follows.1 later)

  -- behind its steps it ends whole
  pub ends_whole : (running : Running) (calls : List Call) (reply : Reply) → Converses settings None (optimizes (codes "docs")) [] calls reply → Follows limits running calls
      → health_of_steps calls ≡ Sound → Whole (length calls) reply
  ends_whole running [] reply says follows calm = let no : ◌≡◌ {A = Next} (asks to_optimize) (ends reply) = says in absurd cc
  ends_whole running (call ∷ calls) reply (says, rest) follows calm =
      let asked : call.ask ≡ to_optimize = (let is : ◌≡◌ {A = Next} (asks to_optimize) (asks call.ask) = says in sym cc) in
      let here = may_of running call asked follows.0 (sound_before (health_of_answer call.answer) (health_of_steps calls) calm) in
      let later = sound_behind (health_of_answer call.answer) (health_of_steps calls) calm in
      subst (λ (n : ℕ). Whole n reply) (omega arith) (behind (after_call running call) call.answer [] calls reply here rest follows.1 later)
