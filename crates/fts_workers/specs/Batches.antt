-- Batches that are made while the index's cache is too large.
use Rattle.std.specs.Prelude.{◌≡◌, ℕ, zero, suc, Bool, true, false, nat_lt, List, [], ◌∷◌, ◌++◌, Option, Some, None}
use Rattle.fts_schema.specs.declared.reply.Reply.{Reply}
use Rattle.fts_schema.specs.declared.reply.Reply.TheVariants.{Committed, CommittedAndBegun}
use Rattle.fts_steps.specs.FaultCounts.{CountsFaultOf}
use Rattle.fts_steps.specs.Step.{Answer, flushed, measured, to_measure, to_sync, Call, Sight, AreMade}
use Rattle.fts_workers.specs.declared.health.Health.{Health}
use Rattle.fts_workers.specs.declared.health.Health.TheVariants.{Sound, Failed}
use Rattle.fts_workers.specs.Health.{health_of, health_of_steps, worse}

-- the number of the commit that a reply tells, 0 where it tells none
abbrev pub committed_by : Reply → ℕ
committed_by (Committed number) = number
committed_by (CommittedAndBegun number) = number
committed_by reply = 0

-- what follows where a batch flushed something, and nothing where it did not
abbrev pub unless_refused : Answer → (List Call → Type 0) → List Call → Type 0
unless_refused (flushed through commits) Rest calls = Rest calls
unless_refused answer Rest calls = calls ≡ []

-- a batch, and what follows it, where the cache is too large
abbrev pub if_above : Bool → (List Call → Type 0) → List Call → Type 0
if_above false Rest calls = calls ≡ []
if_above true Rest [] = ⊥
if_above true Rest (call ∷ calls) = (call.ask ≡ to_sync) × unless_refused call.answer Rest calls

-- while the cache is above so many bytes, one batch after another is made, up to the first that flushes nothing; and at
-- most so many
abbrev pub AreBatches : ℕ → ℕ → List Call → Type 0
AreBatches bytes zero calls = calls ≡ []
AreBatches bytes (suc most) [] = ⊥
AreBatches bytes (suc most) (call ∷ calls) =
    (size : ℕ) × (call.ask ≡ to_measure) × (call.answer ≡ measured size)
    × if_above (nat_lt bytes size) (AreBatches bytes most) calls

-- at most so many batches were made, while the cache was too large, and met this
pub record MakesBatches {S : Type 0} (sight : Sight S) (most : ℕ) (met : Health) (old new : S) : Type 0 where
  pub calls : List Call
  pub are : AreBatches (sight.settings old).cache_bytes most calls
  pub steps : AreMade sight calls old new
  pub met_is : health_of_steps calls ≡ met
  pub faults : CountsFaultOf (met ≡ Failed) (sight.faults old) (sight.faults new)

-- one batch was made, behind which more may come; or there is no more, and this was met
abbrev pub IsRound : ℕ → Option Health → List Call → Type 0
IsRound bytes None calls = (health_of_steps calls ≡ Sound)
    × ((most : ℕ) (rest : List Call) → AreBatches bytes most rest → AreBatches bytes (suc most) (calls ++ rest))
IsRound bytes (Some met) calls =
    (health_of_steps calls ≡ met) × ((most : ℕ) → AreBatches bytes (suc most) calls)

pub record MakesRound {S : Type 0} (sight : Sight S) (end : Option Health) (old new : S) : Type 0 where
  pub calls : List Call
  pub is : IsRound (sight.settings old).cache_bytes end calls
  pub steps : AreMade sight calls old new
  pub faults : CountsFaultOf (end ≡ Some Failed) (sight.faults old) (sight.faults new)

-- the batches that follow a reply were made, and this is the worse of what its line met and what they did
pub record IsMetBehind {S : Type 0} (sight : Sight S) (reply : Reply) (met : Health) (old new : S) : Type 0 where
  pub later : Health
  pub batches : MakesBatches sight (committed_by reply) later old new
  pub met_is : met ≡ worse (health_of reply) later
