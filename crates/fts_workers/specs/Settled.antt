-- What the rounds of the workers leave that met nothing.
use Rattle.std.specs.Prelude.{◌≡◌, ◌⊎◌, ◌+◌, ◌≤◌, ℕ, true, None, Some}
use Rattle.fts_types.specs.declared.limits.Limits.{Limits}
use Rattle.fts_schema.specs.declared.reply.Reply.{Reply}
use Rattle.fts_schema.specs.declared.reply.Reply.TheVariants.{NothingToOptimize, Optimized, LogFull, Stopped}
use Rattle.fts_steps.specs.Running.{Running, cache_size}
use Rattle.fts_steps.specs.Step.{plain_answer, to_sync, full}

-- no batch is due: the cache is within its limit; or the log has no room for the next batch; or a fault stopped the
-- engine
abbrev pub NeedsNoBatch : Limits → Running → Type 0
NeedsNoBatch limits running = (cache_size running ≤ running.state.settings.cache_bytes)
    ⊎ (((place : ℕ) × (plain_answer limits running to_sync ≡ Some (full place)))
    ⊎ (running.stopped ≡ None → ⊥))

-- the reply of an OPTIMIZE of at most so many words that made so many steps: it had nothing to do; or it finished a
-- pass, or made all its words, or two steps more than these; or the log had no room for its next step; or a fault had
-- stopped the engine
abbrev pub EndsWhole : ℕ → ℕ → Reply → Type 0
EndsWhole most steps NothingToOptimize = Unit {0}
EndsWhole most steps (Optimized words finished) = (finished ≡ true) ⊎ ((most ≤ words) ⊎ (most + 2 ≤ steps))
EndsWhole most steps (LogFull place) = Unit {0}
EndsWhole most steps (Stopped faults) = Unit {0}
EndsWhole most steps reply = ⊥
