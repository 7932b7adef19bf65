-- Several sessions and two workers at one engine, told by one history.
use Rattle.std.specs.Prelude.{◌≡◌, ℕ, List, [], ◌∷◌, ◌++◌, length, All, None}
use Rattle.std.specs.List.{AllByRecursion}
use Rattle.fts_disk.specs.declared.disk.Disk.{Ghosts}
use Rattle.fts_io.specs.Text.{Line}
use Rattle.fts_types.specs.declared.limits.Limits.{Limits}
use Rattle.fts_types.specs.declared.settings.Settings.{Settings}
use Rattle.fts_schema.specs.declared.reply.Reply.{Reply}
use Rattle.fts_schema.specs.declared.reply.Reply.TheVariants.{DiskFault}
use Rattle.fts_faults.specs.Count.{Rose}
use Rattle.fts_steps.specs.FaultCounts.{NoneFell, together}
use Rattle.fts_steps.specs.Running.{Running, Entry, grown}
use Rattle.fts_steps.specs.Step.{Call, Follows, after_all}
use Rattle.fts_engine.specs.declared.engine.Engine.{Engine}
use Rattle.fts_engine.specs.Stands.{Holds, engine_settings, engine_limits, engine_faults}
use Rattle.fts_sessions.specs.declared.direct.Direct.{Direct}
use Rattle.fts_sessions.specs.Direct.{direct_sight}
use Rattle.fts_sessions.specs.Transaction.{Transaction}
use Rattle.fts_turn.specs.declared.turn.Turns.{Turns}
use Rattle.fts_turn.specs.declared.seat.Seat.{Seat}
use Rattle.fts_turn.specs.Histories.{Begins, entries_by, NoneFrom}
use Rattle.fts_turn.specs.Promises.{seats_of, IsToldBy, Numbered}
use Rattle.fts_workers.specs.declared.health.Health.{Health}
use Rattle.fts_workers.specs.declared.health.Health.TheVariants.{Sound, Failed}
use Rattle.fts_workers.specs.Health.{worse, health_of_all, health_of_steps}
use Rattle.fts_workers.specs.Settled.{NeedsNoBatch, EndsWhole}
use Rattle.fts_workers.specs.Workers.{SyncRound, OptimizeRound, MakesOne, all_steps}
use Rattle.fts_shared.specs.declared.at_turn.AtTurn.{AtTurn}
use Rattle.fts_shared.specs.declared.served.Served.{Served}
use Rattle.fts_shared.specs.declared.work.Work.{Work}
use Rattle.fts_shared.specs.History.{WasHeld, faults_in, NoneTellsLess}
use Rattle.fts_shared.specs.Shared.{first_of}
use Rattle.fts_shared.specs.Talk.{Talks, history_of, own_of}
use Rattle.fts_shared.specs.Work.{work_lines, work_replies, IsSameWork}

-- who added an entry
abbrev pub by_whom : Entry → ℕ
by_whom entry = entry.by

-- the steps of the one with this number: each answered as it may on what ran then, from what ran at first; what they
-- saw begins the history, and of its number the history has those entries that they added, and no others
pub record AreStepsOf (limits : Limits) (running : Running) (history : List Entry) (number : ℕ) (calls : List Call)
    : Type 0 where
  pub follows : Follows limits running calls
  pub saw : Begins (history_of number calls) history
  pub own : entries_by by_whom number history ≡ own_of number calls

-- one history tells all these steps, each list by its number, and has what they added and nothing else
pub record TellsAll (limits : Limits) (running : Running) (history : List Entry) (all : List (List Call))
    : Type 0 where
  pub each : Numbered (AreStepsOf limits running history) 0 all
  pub no_others : NoneFrom by_whom (length all) history

-- a session executed its lines of a script by these steps, with no transaction open before
pub record IsSession (lines : List Line) (settings : Settings) (work work' : Work) (calls : List Call)
    : Type 0 where
  pub same : IsSameWork work work'
  pub left : Transaction
  pub talks : Talks settings None (work_lines lines work) calls (work_replies work') left

-- no reply tells a fault of a device
abbrev pub AreCalm : List Reply → Type 0
AreCalm replies = AllByRecursion (λ reply. reply ≡ DiskFault → ⊥) replies

-- what the lines of these sessions met
abbrev pub met_by : List Work → Health
met_by [] = Sound
met_by (work ∷ works) = worse (health_of_all (work_replies work)) (met_by works)

-- so did each of them
abbrev pub AreSessions : List Line → Settings → List Work → List Work → List (List Call) → Type 0
AreSessions lines settings [] [] [] = Unit {0}
AreSessions lines settings (work ∷ works) (work' ∷ works') (calls ∷ all) =
    IsSession lines settings work work' calls × AreSessions lines settings works works' all
AreSessions lines settings works works' all = ⊥

-- a worker made these steps: rounds one behind another, of which one was the last, and they met this
pub record IsWorker (Round : Settings → List Call → Type 0) (settings : Settings) (calls : List Call) (met : Health)
    : Type 0 where
  pub rounds : List (List Call)
  pub last : List Call
  pub are : All (Round settings) rounds
  pub last_is : Round settings last
  pub calls_are : calls ≡ all_steps rounds ++ last
  pub met_is : met ≡ health_of_steps calls

-- the steps of each session, and those of the two workers
pub record AllCalls : Type 0 where
  pub sessions : List (List Call)
  pub sync : List Call
  pub optimizer : List Call

-- all of them by their numbers: the workers have the last two
abbrev pub by_number : AllCalls → List (List Call)
by_number calls = calls.sessions ++ (calls.sync ∷ calls.optimizer ∷ [])

-- the steps of an engine that one thread owns
abbrev pub alone : {D E : Type 0} {rows : Ghosts D} {index : Ghosts E} → Engine D E rows index → Direct D E rows index
alone engine = record { engine = engine }

-- over an engine that nobody else uses the sync worker made one more round, and behind it the optimiser
pub record EndsAlone {D E : Type 0} {rows : Ghosts D} {index : Ghosts E} (first now : Engine D E rows index)
    (met : Health) : Type 0 where
  pub middle : Engine D E rows index
  pub synced : Health
  pub optimized : Health
  pub syncs : MakesOne direct_sight SyncRound synced (alone first) (alone middle)
  pub optimizes : MakesOne direct_sight OptimizeRound optimized (alone middle) (alone now)
  pub met_is : met ≡ worse synced optimized

-- no batch is due behind the last round of the sync worker, and the OPTIMIZE of the last round ended whole
pub record LeavesNoneDue {D E : Type 0} {rows : Ghosts D} {index : Ghosts E} {first now : Engine D E rows index}
    {met : Health} (limits : Limits) (running : Running) (ends : EndsAlone first now met) : Type 0 where
  pub batch : NeedsNoBatch limits (after_all running ends.syncs.calls)
  pub optimize : EndsWhole running.state.settings.optimize_words (length ends.optimizes.calls) ends.optimizes.is.0

-- what runs behind these rounds
abbrev pub behind_last : {D E : Type 0} {rows : Ghosts D} {index : Ghosts E} {first now : Engine D E rows index}
    {met : Health} → Running → EndsAlone first now met → Running
behind_last running ends = after_all (after_all running ends.syncs.calls) ends.optimizes.calls

-- from one engine the one at the close of the turn came by one history, which tells all steps of these sessions and of
-- the workers, from whatever the first one held; behind each of its entries some engine held what the history had made;
-- and behind the close each worker made one more round
pub record AreServed {D E : Type 0} {rows : Ghosts D} {index : Ghosts E} (lines : List Line)
    (first : Engine D E rows index) (works : List Work) (served : Served D E rows index) : Type 0 where
  pub history : List Entry
  pub closed : Engine D E rows index
  pub stands : (running : Running) → Holds running first → Holds (grown running history) closed
  pub held : (front rest : List Entry) → history ≡ front ++ rest → WasHeld first front
  pub settings : engine_settings closed ≡ engine_settings first
  pub limits : engine_limits closed ≡ engine_limits first
  pub none_fell : NoneFell (engine_faults first) (engine_faults closed)
  pub calls : AllCalls
  pub sessions : AreSessions lines (engine_settings first) works served.works.items calls.sessions
  pub told : (running : Running) → Holds running first
      → TellsAll (engine_limits first) running history (by_number calls)
  pub synced : Health
  pub optimized : Health
  pub last : Health
  pub syncs : IsWorker SyncRound (engine_settings first) calls.sync synced
  pub optimizes : IsWorker OptimizeRound (engine_settings first) calls.optimizer optimized
  pub ends : EndsAlone closed served.engine last
  pub counted : worse (worse synced optimized) (met_by served.works.items) ≡ Failed
      → Rose (together (engine_faults first)) (together (engine_faults closed))
  pub met_is : served.met ≡ worse (worse synced optimized) last

-- the engine at the end came from the one at first by one history, of which each seat knows a beginning, and which has
-- the entries that the seats gave and no others; and behind each of them some engine held what they had made
pub record IsToldOf {D E : Type 0} {rows : Ghosts D} {index : Ghosts E}
    (turn : Turns (AtTurn D E rows index) Entry) (seats : List (Seat (AtTurn D E rows index) Entry))
    (engine : Engine D E rows index) : Type 0 where
  pub history : List Entry
  pub stands : (running : Running) → Holds running (first_of turn) → Holds (grown running history) engine
  pub held : (front rest : List Entry) → history ≡ front ++ rest → WasHeld (first_of turn) front
  pub settings : engine_settings engine ≡ engine_settings (first_of turn)
  pub limits : engine_limits engine ≡ engine_limits (first_of turn)
  pub none_fell : NoneFell (engine_faults (first_of turn)) (engine_faults engine)
  pub faults : together (engine_faults engine) ≡ faults_in (together (engine_faults (first_of turn))) history
  pub rising : NoneTellsLess (together (engine_faults (first_of turn))) history
  pub told : Numbered (IsToldBy by_whom history) 0 seats
  pub no_others : NoneFrom by_whom (seats_of turn) history
