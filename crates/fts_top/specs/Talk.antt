use Rattle.std.specs.Prelude.{◌≡◌, ℕ, zero, suc, Bool, true, false, nat_lt, List, [], ◌∷◌, ◌++◌}
use Rattle.fts_types.specs.declared.settings.Settings.{Settings}
use Rattle.fts_io.specs.Text.{Line}
use Rattle.fts_schema.specs.declared.reply.Reply.{Reply}
use Rattle.fts_schema.specs.declared.reply.Reply.TheVariants.{Committed, CommittedAndBegun}
use Rattle.fts_schema.specs.Reply.{text_of}
use Rattle.fts_steps.specs.Step.{Answer, flushed, measured, to_measure, to_sync, Call}
use Rattle.fts_top.specs.Sessions.{Met, Speaks}
use Rattle.fts_workers.specs.declared.health.Health.{Health}
use Rattle.fts_workers.specs.declared.health.Health.TheVariants.{Sound}
use Rattle.fts_workers.specs.Batches.{AreBatches, committed_by}
use Rattle.fts_workers.specs.Health.{health_of, health_of_steps, worse}

-- the text of replies, one after another
abbrev pub texts_of : List Reply → List ℕ
texts_of [] = []
texts_of (reply ∷ replies) = text_of reply ++ texts_of replies

-- how many batches may follow a reply: as many as there are commits where it tells one, since each flushes one at
-- least; none behind the last reply that was begun and not sent
abbrev pub most_behind : Bool → List Line → Reply → ℕ
most_behind sent (line ∷ lines) reply = committed_by reply
most_behind true [] reply = committed_by reply
most_behind false [] reply = 0

-- a line makes the first of these steps and has the first of these replies, batches follow, and then the rest, over the
-- sessions that the line leaves
pub record First (settings : Settings) (line : Line) (sessions : List Met) (most : Reply → ℕ)
    (Rest : List Met → List Call → List Reply → Health → Type 0) (calls : List Call) (replies : List Reply)
    (met : Health) : Type 0 where
  pub here : List Call
  pub batches : List Call
  pub more : List Call
  pub reply : Reply
  pub rest : List Reply
  pub later : Health
  pub behind : List Met
  pub says : Speaks settings line sessions here reply behind
  pub are : AreBatches settings.cache_bytes (most reply) batches
  pub calls_are : calls ≡ here ++ (batches ++ more)
  pub replies_are : replies ≡ reply ∷ rest
  pub met_is : met ≡ worse (worse (health_of reply) (health_of_steps batches)) later
  pub goes_on : Rest behind more rest later

-- these lines make these steps and have these replies, from the first of these sessions to the last; `sent` says that
-- the last reply was sent, and batches followed it; and what the lines and the batches met
abbrev pub Talks : Settings → Bool → List Met → List Line → List Call → List Reply → Health → List Met → Type 0
Talks settings sent sessions [] calls replies met last =
    (calls ≡ []) × (replies ≡ []) × (met ≡ Sound) × (last ≡ sessions)
Talks settings sent sessions (line ∷ lines) calls replies met last =
    First settings line sessions (most_behind sent lines)
    (λ behind more rest later. Talks settings sent behind lines more rest later last) calls replies met
