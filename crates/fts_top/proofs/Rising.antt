-- The numbers that the replies of a run tell rise.
use Rattle.std.proofs.Common.{ℕ, ◌≤◌, max, Bool, List, [], ◌∷◌, ◌++◌, length, sym, subst, arith, Option, Some, None, inl, inr}
use Rattle.std.proofs.Math.Nat.{max-le, le-max_left, le-max_right}
use Rattle.fts_types.specs.declared.limits.Limits.{Limits}
use Rattle.fts_types.specs.declared.settings.Settings.{Settings}
use Rattle.fts_io.specs.Text.{Line}
use Rattle.fts_schema.specs.declared.reply.Reply.{Reply}
use Rattle.fts_schema.specs.declared.reply.Reply.TheVariants as reply
use Rattle.fts_steps.specs.Running.{Running}
use Rattle.fts_steps.specs.Step.{Call, Follows, after_call, after_all}
use Rattle.fts_sessions.specs.Seen.{number_told, IsBehind, Rise}
use Rattle.fts_sessions.proofs.Rising.{count_of, never_falls, Rises, line_rises}
use Rattle.fts_workers.specs.declared.health.Health.{Health}
use Rattle.fts_top.specs.Sessions.{Met, open_in, SaysOf}
use Rattle.fts_top.specs.Talk.{Talks}
use Rattle.fts_top.specs.Laws.{Talked}
use Rattle.fts_top.specs.Sight.{AreOwn}
use Rattle.fts_top.proofs.OneText.{follows_behind}

-- the first steps
follows_front : (limits : Limits) (running : Running) (here more : List Call) → Follows limits running (here ++ more) → Follows limits running here
follows_front limits running [] more follows = tt
follows_front limits running (call ∷ here) more follows = (follows.0, follows_front limits (after_call running call) here more follows.1)

-- a line of a script
of_rises : (limits : Limits) (settings : Settings) (line : Line) (session : Option ℕ) (sessions left : List Met) (running : Running) (seen : ℕ) (calls : List Call) (told : Reply)
    → seen ≤ count_of running → SaysOf settings line session sessions calls told left → Follows limits running calls → Rises seen (count_of (after_all running calls)) told
of_rises limits settings line None sessions left running seen calls told less says follows = line_rises limits settings line None None running seen calls told less says.0 follows
of_rises limits settings line (Some number) sessions left running seen calls told less says follows =
    line_rises limits settings line (open_in sessions number) says.0 running seen calls told less says.1 follows

talk_rises : (limits : Limits) (settings : Settings) (sent : Bool) (lines : List Line) (sessions last : List Met) (running : Running) (seen : ℕ) (calls : List Call) (replies : List Reply)
    (met : Health) → seen ≤ count_of running → Talks settings sent sessions lines calls replies met last → Follows limits running calls → Rise seen replies
talk_rises limits settings sent [] sessions last running seen calls replies met less talks follows = subst (Rise seen) (sym talks.1) tt
talk_rises limits settings sent (line ∷ lines) sessions last running seen calls replies met less talks follows =
    let follow = subst (Follows limits running) talks.calls_are follows in
    let mid = after_all running talks.here in
    let behind_line = follows_behind limits running talks.here (talks.batches ++ talks.more) follow in
    let says = talks.says in
    let here = of_rises limits settings line says.0 sessions talks.behind running seen talks.here talks.reply less says.2
    (follows_front limits running talks.here (talks.batches ++ talks.more) follow) in
    let some = never_falls running talks.here in
    let more = never_falls mid talks.batches in
    let told = here.1 in
    subst (Rise seen) (sym talks.replies_are) (
      here.0,
      talk_rises limits settings sent lines talks.behind last (after_all mid talks.batches) (max seen (number_told talks.reply)) talks.more talks.rest talks.later
          (max-le (omega (arith, less, some, more)) (omega (arith, told, more))) talks.goes_on
          (follows_behind limits mid talks.batches talks.more behind_line),
    )

pub all_rise : (limits : Limits) (start : Running) (lines : List Line) (calls : List Call) (replies : List Reply) → Talked limits start lines calls replies → Rise (length start.state.commits) replies
all_rise limits start lines calls replies talked =
    talk_rises limits start.state.settings talked.sent lines [] talked.sessions start (count_of start) calls replies talked.met (omega arith) talked.talks talked.follows

-- ---- some of the replies

-- behind less that was seen
less_behind : (seen before : ℕ) (told : Reply) → before ≤ seen → IsBehind seen told → IsBehind before told
less_behind seen before (reply.Committed number) less is = omega (arith, less, is)
less_behind seen before (reply.CommittedAndBegun number) less is = omega (arith, less, is)
less_behind seen before (reply.Found number docs) less is = omega (arith, less, is)
less_behind seen before (reply.Listed number listing) less is = omega (arith, less, is)
less_behind seen before (reply.Synced number) less is = omega (arith, less, is)
less_behind seen before reply.Begun less is = tt
less_behind seen before (reply.Buffered count) less is = tt
less_behind seen before reply.NothingToCommit less is = tt
less_behind seen before (reply.RolledBack count) less is = tt
less_behind seen before (reply.TooManyChanges count) less is = tt
less_behind seen before reply.NothingToOptimize less is = tt
less_behind seen before (reply.Optimized words finished) less is = tt
less_behind seen before (reply.Refused why) less is = tt
less_behind seen before (reply.LogFull end_) less is = tt
less_behind seen before reply.Nothing less is = tt
less_behind seen before (reply.Syntax place) less is = tt
less_behind seen before (reply.NoSuchTable name) less is = tt
less_behind seen before (reply.NoSuchColumn name) less is = tt
less_behind seen before reply.WrongColumns less is = tt
less_behind seen before (reply.QuerySyntax place) less is = tt
less_behind seen before (reply.QueryTooLong count) less is = tt
less_behind seen before (reply.QueryTooDeep place) less is = tt
less_behind seen before reply.LineTooLong less is = tt
less_behind seen before reply.NoMemory less is = tt
less_behind seen before reply.DiskFault less is = tt
less_behind seen before (reply.Stopped faults) less is = tt

own_less : (number seen before : ℕ) (lines : List Line) (replies own : List Reply) → before ≤ seen → Rise seen replies → AreOwn number lines replies own → Rise before own
own_less number seen before [] replies own less rise are = subst (Rise before) (sym are) tt
own_less number seen before (line ∷ lines) [] own less rise are = subst (Rise before) (sym are) tt
own_less number seen before (line ∷ lines) (told ∷ replies) own less rise (inl (more, of, is, are)) =
    let here = le-max_left seen (number_told told) in
    let there = le-max_right seen (number_told told) in
    subst (Rise before) (sym is) (
      less_behind seen before told less rise.0,
      own_less number (max seen (number_told told)) (max before (number_told told)) lines replies more (max-le (omega (arith, less, here)) there) rise.1 are,
    )
own_less number seen before (line ∷ lines) (told ∷ replies) own less rise (inr (other, are)) =
    let here = le-max_left seen (number_told told) in
    own_less number (max seen (number_told told)) before lines replies own (omega (arith, less, here)) rise.1 are

pub own_rise : (limits : Limits) (start : Running) (lines : List Line) (calls : List Call) (replies own : List Reply) (session : ℕ) → Talked limits start lines calls replies
    → AreOwn session lines replies own → Rise (length start.state.commits) own
own_rise limits start lines calls replies own session talked are =
    own_less session (count_of start) (count_of start) lines replies own (omega arith) (all_rise limits start lines calls replies talked) are
