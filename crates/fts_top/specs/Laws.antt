use Rattle.std.specs.Prelude.{Bool, true, List, []}
use Rattle.fts_types.specs.declared.limits.Limits.{Limits}
use Rattle.fts_io.specs.Text.{Line}
use Rattle.fts_schema.specs.declared.reply.Reply.{Reply}
use Rattle.fts_steps.specs.Running.{Running}
use Rattle.fts_steps.specs.Step.{Call, Follows, FollowsRight, AreAlone}
use Rattle.fts_workers.specs.declared.health.Health.{Health}
use Rattle.fts_workers.specs.declared.health.Health.TheVariants.{Sound}
use Rattle.fts_top.specs.Sessions.{Met}
use Rattle.fts_top.specs.Talk.{Talks}

-- these lines, of whichever sessions, make these steps on the engine, whose index is right, with nobody else, and have
-- these replies, and neither they nor the batches behind them met a fault or want of memory
pub record Converse (limits : Limits) (start : Running) (lines : List Line) (calls : List Call) (replies : List Reply)
    : Type 0 where
  pub sessions : List Met
  pub talks : Talks start.state.settings true [] lines calls replies Sound sessions
  pub alone : AreAlone calls
  pub follows : FollowsRight limits start calls

-- these lines, of whichever sessions, make these steps on the engine, with nobody else, and have these replies,
-- whatever they met
pub record Talked (limits : Limits) (start : Running) (lines : List Line) (calls : List Call) (replies : List Reply)
    : Type 0 where
  pub sent : Bool
  pub met : Health
  pub sessions : List Met
  pub talks : Talks start.state.settings sent [] lines calls replies met sessions
  pub alone : AreAlone calls
  pub follows : Follows limits start calls
