-- What an OPTIMIZE met, by its reply.
use Rattle.std.proofs.Common.{◌≡◌, ℕ, Bool, true, false, if◌then◌else◌, ◌&&◌, ◌+◌, nat_lt, codes, None, List, [], ◌∷◌, ◌++◌, length, refl, ap, sym, ◌∙◌}
use Rattle.fts_types.specs.declared.settings.Settings.{Settings}
use Rattle.fts_schema.specs.declared.reply.Reply.{Reply}
use Rattle.fts_schema.specs.declared.reply.Reply.TheVariants.{Optimized, NothingToOptimize}
use Rattle.fts_steps.specs.declared.optimize.OptimizeStep.{OptimizeStep}
use Rattle.fts_steps.specs.declared.optimize.OptimizeStep.TheVariants as did
use Rattle.fts_steps.specs.Step.{Ask, to_optimize, Answer, committed, refused, full, flushed, all_flushed, passed, viewed, found, listed, measured, disk_fault, stopped, no_memory, Call}
use Rattle.fts_sessions.specs.Request.{optimizes}
use Rattle.fts_sessions.specs.Conversation.{Next, asks, ends, Converses, reply_to, optimized, optimize_next, leaves_open, last_answer, words_in}
use Rattle.fts_workers.specs.declared.health.Health.{Health}
use Rattle.fts_workers.specs.declared.health.Health.TheVariants.{Sound}
use Rattle.fts_workers.specs.Health.{health_of, health_of_answer, health_of_steps, worse}
use Rattle.fts_workers.proofs.Worse.{worse_sound}

-- one more step follows only where the last one met nothing
goes_on : (most count words : ℕ) (answer : Answer) (ask : Ask) → optimize_next most count words answer ≡ asks ask → health_of_answer answer ≡ Sound
goes_on most count words (passed step) ask is = refl
goes_on most count words (committed number) ask is = refl
goes_on most count words (refused why) ask is = refl
goes_on most count words (full end) ask is = refl
goes_on most count words (flushed through commits) ask is = refl
goes_on most count words (all_flushed commits) ask is = refl
goes_on most count words (viewed view) ask is = refl
goes_on most count words (found number docs) ask is = refl
goes_on most count words (listed number listing) ask is = refl
goes_on most count words (measured size) ask is = refl
goes_on most count words (disk_fault faults) ask is = absurd cc
goes_on most count words (stopped faults) ask is = refl
goes_on most count words no_memory ask is = absurd cc

-- what tells the last step of a pass tells no fault
of_nothing : (b : Bool) (words : ℕ) → health_of (if b then Optimized words true else NothingToOptimize) ≡ Sound
of_nothing true words = refl
of_nothing false words = refl

of_step : (count words : ℕ) (step : OptimizeStep) → health_of (optimized count words step) ≡ Sound
of_step count words did.Began = refl
of_step count words did.Word = refl
of_step count words did.Finished = refl
of_step count words did.Nothing = of_nothing (nat_lt 1 count) words

of_end : (b : Bool) (told reply : Reply) → health_of told ≡ Sound → (if b then asks to_optimize else ends told) ≡ ends reply → health_of reply ≡ Sound
of_end true told reply sound is = absurd cc
of_end false told reply sound is = let same : told ≡ reply = cc in sym (ap health_of same) ∙ sound

-- the reply tells what the last step met
tells : (most count words : ℕ) (answer : Answer) (reply : Reply) → optimize_next most count words answer ≡ ends reply → health_of reply ≡ health_of_answer answer
tells most count words (passed step) reply is =
    of_end ((leaves_open step && nat_lt words most) && nat_lt count (most + 2)) (optimized count words step) reply (of_step count words step) is
tells most count words (committed number) reply is = let same : reply_to (committed number) ≡ reply = cc in sym (ap health_of same)
tells most count words (refused why) reply is = let same : reply_to (refused why) ≡ reply = cc in sym (ap health_of same)
tells most count words (full end) reply is = let same : reply_to (full end) ≡ reply = cc in sym (ap health_of same)
tells most count words (flushed through commits) reply is = let same : reply_to (flushed through commits) ≡ reply = cc in sym (ap health_of same)
tells most count words (all_flushed commits) reply is = let same : reply_to (all_flushed commits) ≡ reply = cc in sym (ap health_of same)
tells most count words (viewed view) reply is = let same : reply_to (viewed view) ≡ reply = cc in sym (ap health_of same)
tells most count words (found number docs) reply is = let same : reply_to (found number docs) ≡ reply = cc in sym (ap health_of same)
tells most count words (listed number listing) reply is = let same : reply_to (listed number listing) ≡ reply = cc in sym (ap health_of same)
tells most count words (measured size) reply is = let same : reply_to (measured size) ≡ reply = cc in sym (ap health_of same)
tells most count words (disk_fault faults) reply is = let same : reply_to (disk_fault faults) ≡ reply = cc in sym (ap health_of same)
tells most count words (stopped faults) reply is = let same : reply_to (stopped faults) ≡ reply = cc in sym (ap health_of same)
tells most count words no_memory reply is = let same : reply_to no_memory ≡ reply = cc in sym (ap health_of same)

pub last_is : (first : Answer) (more : List Answer) (answer : Answer) → last_answer first (more ++ answer ∷ []) ≡ answer
last_is first [] answer = refl
last_is first (next ∷ more) answer = last_is next more answer

module _ (settings : Settings) where
  -- behind some answers the reply tells the worse of what the last of them met and what the steps do that follow
  behind : (first : Answer) (more : List Answer) (calls : List Call) (reply : Reply) → Converses settings None (optimizes (codes "docs")) (first ∷ more) calls reply
      → health_of reply ≡ worse (health_of_answer (last_answer first more)) (health_of_steps calls)
  behind first more [] reply is =
      tells settings.optimize_words (length (first ∷ more)) (words_in (first ∷ more)) (last_answer first more) reply is
      ∙ sym (worse_sound (health_of_answer (last_answer first more)))
  behind first more (call ∷ calls) reply (is, rest) =
      behind first (more ++ call.answer ∷ []) calls reply rest
      ∙ ap (λ (answer : Answer). worse (health_of_answer answer) (health_of_steps calls)) (last_is first more call.answer)
      ∙ sym (ap (λ (health : Health). worse health (health_of_steps (call ∷ calls)))
      (goes_on settings.optimize_words (length (first ∷ more)) (words_in (first ∷ more)) (last_answer first more) call.ask is))

  -- the reply of an OPTIMIZE tells what its steps met
  pub reply_tells : (calls : List Call) (reply : Reply) → Converses settings None (optimizes (codes "docs")) [] calls reply → health_of reply ≡ health_of_steps calls
  reply_tells [] reply is = let no : ◌≡◌ {A = Next} (asks to_optimize) (ends reply) = is in absurd cc
  reply_tells (call ∷ calls) reply (is, rest) = behind call.answer [] calls reply rest
