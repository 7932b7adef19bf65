-- What was done by the steps of an engine, seen by its devices.
use Rattle.std.specs.Prelude.{IsTrue, Result, Ok, Err}
use Rattle.std.proofs.Common.{◌≡◌, ℕ, Bool, true, false, List, [], ◌∷◌, refl, ap, subst, sym, ◌∙◌, inr}
use Rattle.fts_types.specs.declared.limits.Limits.{Limits}
use Rattle.fts_types.specs.declared.settings.Settings.{Settings}
use Rattle.fts_disk.specs.Moments.{LeavesAsBefore}
use Rattle.fts_engine.specs.Stands.{OnRows, OnIndex}
use Rattle.fts_steps.specs.FaultCounts.{FaultCounts, together, CountsFaultOf}
use Rattle.fts_io.specs.Text.{Line}
use Rattle.fts_steps.specs.Running.{Running, grown}
use Rattle.fts_steps.specs.Step.{Call, Sight, MayAnswer, is_disk_fault, Traced, Runs, after_call}
use Rattle.fts_workers.specs.declared.health.Health.{Health}
use Rattle.fts_top.specs.declared.ends.RunEnd.{RunEnd}
use Rattle.fts_top.specs.declared.ends.RunEnd.TheVariants as end
use Rattle.fts_top.specs.declared.ends.Unsent.{Unsent}
use Rattle.fts_top.specs.declared.ends.Unsent.TheVariants as unsent
use Rattle.fts_top.specs.Generate.{Tells, Generates}
use Rattle.fts_top.specs.Run.{Sides, Front, ReadsToEnd, Stops, Outcome}
use Rattle.fts_top.specs.Talk.{Talks}
use Rattle.fts_engine.specs.Devices.{Devices, devices_of, Disks, disks_of, disk_faults, device_sight}
use Rattle.fts_top.proofs.Crashing.{looked_behind}

-- what was looked at before, on both devices
pub record Looked {S : Type 0} (sight : Sight S) (first : Devices sight.rows.Device sight.index.Device) (opened : S) : Type 0 where
  pub rows : LeavesAsBefore sight.rows.disk first.rows (sight.rows.device opened)
  pub index : LeavesAsBefore sight.index.disk first.index (sight.index.device opened)

module _ {S : Type 0} (sight : Sight S) (single : sight.is_shared ≡ false) (settings : Settings) (limits : Limits)
    (held : (running : Running) (s : S) → sight.stands running s
    → OnRows sight.rows.disk running (sight.rows.device s) × OnIndex sight.index.disk running (sight.index.device s))
    (start : Running) (script : List Line) (before now : Sides S)
    (first : Devices sight.rows.Device sight.index.Device) (looked : Looked sight first before.steps)
    (same_settings : sight.settings before.steps ≡ settings) (same_limits : sight.limits before.steps ≡ limits)
    (calm : sight.faults before.steps ≡ (sight.rows.disk.faults first.rows, sight.index.disk.faults first.index))
    (counts : (s : S) → sight.faults s ≡ (sight.rows.disk.faults (sight.rows.device s), sight.index.disk.faults (sight.index.device s))) where
  abbrev both : Disks sight.rows.Device sight.index.Device
  both = disks_of sight.rows.disk sight.index.disk

  abbrev last : Devices sight.rows.Device sight.index.Device
  last = devices_of (sight.rows.device now.steps) (sight.index.device now.steps)

  -- the same sides with the devices in place of the steps: before, as they were before the opening
  abbrev begun : Sides (Devices sight.rows.Device sight.index.Device)
  begun = record { left = before.left; held = before.held; steps = first }

  abbrev done : Sides (Devices sight.rows.Device sight.index.Device)
  done = record { left = now.left; held = now.held; steps = last }

  -- the two devices of what makes steps
  abbrev seen : S → Devices sight.rows.Device sight.index.Device
  seen s = devices_of (sight.rows.device s) (sight.index.device s)

  traced_on : (running : Running) (calls : List Call) (old new : S) → sight.limits old ≡ limits → Traced sight running calls old new
      → Traced (device_sight both settings limits) running calls (seen old) (seen new)
  traced_on running [] old new kept is = ap seen is
  traced_on running (call ∷ calls) old new kept (mid, step, rest) = (
    seen mid,
    record {
      alone = λ e. step.alone single;
      may = subst (λ (n : Limits). MayAnswer n (grown running call.more) call.ask call.answer) kept step.may;
      stands = held (after_call running call) mid step.stands;
      rows = λ e told. step.rows single told;
      index = λ e told. step.index single told;
      keeps = record {
        settings = refl;
        limits = refl;
        faults = subst (λ (n : FaultCounts). CountsFaultOf (IsTrue (is_disk_fault call.answer)) n (disk_faults both (seen mid))) (counts old)
            (subst (λ (n : FaultCounts). CountsFaultOf (IsTrue (is_disk_fault call.answer)) (sight.faults old) n) (counts mid) step.keeps.faults);
        sum = λ n is. step.keeps.sum n is ∙ ap together (counts mid);
      };
    },
    traced_on (after_call running call) calls mid new (step.keeps.limits ∙ kept) rest,
  )

  runs_on : (calls : List Call) → Runs sight start calls before.steps now.steps → Runs (device_sight both settings limits) start calls first last
  runs_on calls run = record {
    began = seen run.began;
    looked = record {
      settings = refl;
      limits = refl;
      faults = sym (counts run.began) ∙ run.looked.faults ∙ calm;
      rows = λ told. inr (looked_behind sight.rows.disk first.rows (sight.rows.device before.steps) (sight.rows.device run.began) looked.rows (run.looked.rows told));
      index = λ told. inr (looked_behind sight.index.disk first.index (sight.index.device before.steps) (sight.index.device run.began) looked.index (run.looked.index told));
    };
    stood = held start run.began run.stood;
    steps = traced_on start calls run.began now.steps (run.looked.limits ∙ same_limits) run.steps;
  }

  abbrev front_on : (sent : Bool) (ahead : List Line) → Front sight start sent script ahead before now
      → Front (device_sight both settings limits) start sent script ahead begun done
  front_on sent ahead front = record {
    lines = front.lines;
    calls = front.calls;
    replies = front.replies;
    met = front.met;
    sessions = front.sessions;
    text = front.text;
    front = front.front;
    written = front.written;
    talks = subst (λ (s : Settings). Talks s sent [] front.lines front.calls front.replies front.met front.sessions) same_settings front.talks;
    few = front.few;
    runs = runs_on front.calls front.runs;
  }

  abbrev reads_on : (met : Health) → ReadsToEnd sight met start script before now → ReadsToEnd (device_sight both settings limits) met start script begun done
  reads_on met reads = record { front = front_on true [] reads.front; whole = reads.whole; met_is = reads.met_is; empty = reads.empty }

  abbrev stops_on : (n : ℕ) → Stops sight start script n before now → Stops (device_sight both settings limits) start script n begun done
  stops_on n stops = record { ahead = stops.ahead; front = front_on true stops.ahead stops.front; whole = stops.whole; ended = stops.ended; begun = stops.begun; all = stops.all }

  -- the outcome of a run
  pub outcome_on : (result : RunEnd) → Outcome sight result start script before now
      → Outcome (device_sight both settings limits) result start script begun done
  outcome_on end.Done outcome = reads_on _ outcome
  outcome_on end.ShortOfMemory outcome = reads_on _ outcome
  outcome_on end.DiskFault outcome = reads_on _ outcome
  outcome_on end.ReadFault outcome = stops_on 0 outcome
  outcome_on (end.ScriptTooLong lines bytes) outcome = (stops_on 1 outcome.0, outcome.1)
  outcome_on (end.TooManySessions number) crowds = record {
    line = crowds.line;
    ahead = crowds.ahead;
    front = front_on true (crowds.line ∷ crowds.ahead) crowds.front;
    whole = crowds.whole;
    of = crowds.of;
    unmet = crowds.unmet;
    many = crowds.many;
    rest = crowds.rest;
  }
  outcome_on end.WriteFault (n, late) = (n, record { ahead = late.ahead; front = front_on false late.ahead late.front; cut = late.cut; rest = late.rest })
  outcome_on end.NoMemory starves =
      record { ahead = starves.ahead; sent = starves.sent; front = front_on starves.sent starves.ahead starves.front; written = starves.written; unread = starves.unread; rest = starves.rest }

  -- that of a generated script
  abbrev tells_on : (statements : ℕ) (Written : List ℕ → List ℕ → Type 0) → Tells sight statements start script Written before now
      → Tells (device_sight both settings limits) statements start script Written begun done
  tells_on statements Written tells = record { front = front_on true [] tells.front; summary = tells.summary; comes = tells.comes; written = tells.written }

  pub generates_on : (result : Result Health Unsent) (statements : ℕ) → Generates sight result statements start script before now
      → Generates (device_sight both settings limits) result statements start script begun done
  generates_on (Ok met) statements generates = (tells_on statements _ generates.0, generates.1)
  generates_on (Err unsent.WriteFault) statements generates = tells_on statements _ generates
  generates_on (Err unsent.NoMemory) statements breaks = record { ahead = breaks.ahead; front = front_on true breaks.ahead breaks.front; silent = breaks.silent }
