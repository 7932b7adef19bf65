-- The lines of one session, one behind another.
use Rattle.std.specs.Prelude.{◌≡◌, ℕ, List, [], ◌∷◌, ◌++◌}
use Rattle.fts_io.specs.Text.{Line}
use Rattle.fts_types.specs.declared.settings.Settings.{Settings}
use Rattle.fts_schema.specs.declared.reply.Reply.{Reply}
use Rattle.fts_steps.specs.Running.{Entry}
use Rattle.fts_steps.specs.FaultCounts.{CountsFaultOf}
use Rattle.fts_steps.specs.Step.{Call, Sight, AreMade, entries_of}
use Rattle.fts_sessions.specs.Execute.{Says}
use Rattle.fts_sessions.specs.Transaction.{Transaction}
use Rattle.fts_workers.specs.declared.health.Health.TheVariants.{Failed}
use Rattle.fts_workers.specs.Health.{health_of_all}

-- these lines of one session, in which this transaction is open, make these steps and have these replies, and that
-- transaction is left
abbrev pub Talks : Settings → Transaction → List Line → List Call → List Reply → Transaction → Type 0
Talks settings transaction [] calls replies left = (calls ≡ []) × (replies ≡ []) × (left ≡ transaction)
Talks settings transaction (line ∷ lines) calls replies left =
    (here : List Call) × (more : List Call) × (reply : Reply) × (rest : List Reply) × (middle : Transaction)
    × Says settings line transaction here reply middle × (calls ≡ here ++ more) × (replies ≡ reply ∷ rest)
    × Talks settings middle lines more rest left

-- and they were made so; a fault was counted exactly where a reply tells one
pub record TalksOn {S : Type 0} (sight : Sight S) (transaction : Transaction) (lines : List Line)
    (replies : List Reply) (left : Transaction) (old new : S) : Type 0 where
  pub calls : List Call
  pub talks : Talks (sight.settings old) transaction lines calls replies left
  pub made : AreMade sight calls old new
  pub faults : CountsFaultOf (health_of_all replies ≡ Failed) (sight.faults old) (sight.faults new)

-- what steps tell of the history up to the last of them: what others added before each, and what it added itself
abbrev pub history_of : ℕ → List Call → List Entry
history_of by [] = []
history_of by (call ∷ calls) = call.more ++ (entries_of by call.ask call.answer ++ history_of by calls)

-- what they added themselves
abbrev pub own_of : ℕ → List Call → List Entry
own_of by [] = []
own_of by (call ∷ calls) = entries_of by call.ask call.answer ++ own_of by calls
