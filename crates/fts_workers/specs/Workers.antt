-- What the two workers do.
use Rattle.std.specs.Prelude.{◌≡◌, ◌-◌, ◌^◌, List, [], ◌∷◌, ◌++◌, All, None, codes}
use Rattle.fts_types.specs.declared.settings.Settings.{Settings}
use Rattle.fts_schema.specs.declared.reply.Reply.{Reply}
use Rattle.fts_steps.specs.FaultCounts.{CountsFaultOf}
use Rattle.fts_steps.specs.Step.{Call, Sight, AreMade}
use Rattle.fts_sessions.specs.Conversation.{Converses}
use Rattle.fts_sessions.specs.Request.{optimizes}
use Rattle.fts_workers.specs.declared.health.Health.{Health}
use Rattle.fts_workers.specs.declared.health.Health.TheVariants.{Failed}
use Rattle.fts_workers.specs.Health.{health_of_steps}
use Rattle.fts_workers.specs.Batches.{AreBatches}

-- a round of the sync worker: batches while the cache is too large, more than there can be
abbrev pub SyncRound : Settings → List Call → Type 0
SyncRound settings calls = AreBatches settings.cache_bytes (2 ^ 64 - 1) calls

-- a round of the optimiser: one OPTIMIZE of the documents, with whatever reply
abbrev pub OptimizeRound : Settings → List Call → Type 0
OptimizeRound settings calls = (reply : Reply) × Converses settings None (optimizes (codes "docs")) [] calls reply

-- one round was made, and its steps met this
pub record MakesOne {S : Type 0} (sight : Sight S) (Round : Settings → List Call → Type 0) (met : Health) (old new : S)
    : Type 0 where
  pub calls : List Call
  pub is : Round (sight.settings old) calls
  pub made : AreMade sight calls old new
  pub met_is : met ≡ health_of_steps calls
  pub faults : CountsFaultOf (met ≡ Failed) (sight.faults old) (sight.faults new)

-- the steps of rounds, one after another
abbrev pub all_steps : List (List Call) → List Call
all_steps [] = []
all_steps (calls ∷ rounds) = calls ++ all_steps rounds

-- rounds were made one after another, then the last one, and all their steps met this
pub record Works {S : Type 0} (sight : Sight S) (Round : Settings → List Call → Type 0) (met : Health) (old new : S)
    : Type 0 where
  pub rounds : List (List Call)
  pub last : List Call
  pub are : All (Round (sight.settings old)) rounds
  pub last_is : Round (sight.settings old) last
  pub made : AreMade sight (all_steps rounds ++ last) old new
  pub met_is : met ≡ health_of_steps (all_steps rounds ++ last)
  pub faults : CountsFaultOf (met ≡ Failed) (sight.faults old) (sight.faults new)
