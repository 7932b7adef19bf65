use Rattle.std.proofs.Common.{◌≡◌, refl, ap, subst, sym, ◌∙◌}
use Rattle.fts_io.specs.Text.{lines_of}
use Rattle.fts_steps.specs.FaultCounts.{FaultCounts, CountsFaultOf}
use Rattle.fts_steps.specs.State.{State}
use Rattle.fts_steps.specs.Running.{opened}
use Rattle.fts_engine.specs.Stands.{engine_faults, rows_device, index_device}
use Rattle.fts_engine.proofs.Single.{one_database}
use Rattle.fts_sessions.specs.Direct.{direct_sight}
use Rattle.fts_top.specs.declared.ends.RunEnd.TheVariants.{DiskFault}
use Rattle.fts_top.specs.Run.{Outcome, sides}
use Rattle.fts_engine.specs.Devices.{devices_of, disks_of, disk_faults, device_sight}
use Rattle.fts_top.proofs.Filing.{outcome_on}
use Rattle.fts_top.proofs.Opening.{is_why, database_read}
use Rattle.fts_top.proofs.once.run_script.Goals as goal

pub returns-in-Ok-clause-executed : goal.returns-in-Ok-clause-executed
returns-in-Ok-clause-executed g c =
    let both = disks_of g.D.Disk g.E.Disk in
    let first = devices_of c.args.rows c.args.index in
    let left = g.I.Source.left c.args.input.now in
    let left' = g.I.Source.left c.run-end.new.input in
    let held = g.O.Sink.holds c.args.out.now in
    let held' = g.O.Sink.holds c.run-end.new.out in
    let last = devices_of c.close-rows.result.0 c.close-rows.result.1 in
    record {
      found = λ tells.
          let holds = (c.in-Ok.ensures.opened tells.0 tells.1).1 in (
            (c.in-Ok.ensures.opened tells.0 tells.1).0,
            database_read _ (c.in-Ok.ensures.looks_rows tells.0).seen (c.in-Ok.ensures.looks_index tells.1).seen
                ((holds.on_rows tells.0).reads refl) ((holds.on_index tells.1).reads refl),
          );
      outcome = λ tells_input tells_out tells start database.
          let state = (c.in-Ok.ensures.opened tells.0 tells.1).0 in
          let holds = (c.in-Ok.ensures.opened tells.0 tells.1).1 in
          let same = one_database start state (g.D.Disk.seen c.args.rows 0) (g.E.Disk.seen c.args.index) database
          (database_read state (c.in-Ok.ensures.looks_rows tells.0).seen (c.in-Ok.ensures.looks_index tells.1).seen
          ((holds.on_rows tells.0).reads refl) ((holds.on_index tells.1).reads refl)) in
          let outcome = outcome_on direct_sight refl state.settings c.args.limits
          (λ running s stood. (stood.on_rows tells.0, stood.on_index tells.1))
          (opened state) (lines_of left) (sides left held (record { engine = c.in-Ok.engine })) (sides left' held' c.run-end.new.steps) first
          (record { rows = (c.in-Ok.ensures.looks_rows tells.0).crash; index = (c.in-Ok.ensures.looks_index tells.1).crash })
          (sym holds.has.keeps.settings) c.in-Ok.ensures.limits (c.in-Ok.ensures.faults.calm (λ no. no)) (λ s. refl) c.run-end.result
          (c.run-end.ensures.runs tells_input tells_out (opened state) holds) in
          let closed = subst (λ (d : _). Outcome (device_sight both state.settings c.args.limits) c.run-end.result (opened state) (lines_of left)
          (sides left held first) (sides left' held' (devices_of d (index_device c.run-end.new.steps.engine)))) (sym c.close-rows.ensures.rows) outcome in
          let closed' = subst (λ (e : _). Outcome (device_sight both state.settings c.args.limits) c.run-end.result (opened state) (lines_of left)
          (sides left held first) (sides left' held' (devices_of c.close-rows.result.0 e))) (sym c.close-rows.ensures.index) closed in
          subst (λ (s : State). Outcome (device_sight both s.settings c.args.limits) c.run-end.result (opened s) (lines_of left)
          (sides left held first) (sides left' held' last)) (sym same) closed';
      whole = λ read tells. c.run-end.ensures.whole tells read;
      crowded = c.run-end.ensures.crowded;
      too_long = c.run-end.ensures.too_long;
      fault = λ read.
          let same : disk_faults both last ≡ engine_faults c.run-end.new.steps.engine =
          ap (λ (d : _). disk_faults both (devices_of d c.close-rows.result.1)) c.close-rows.ensures.rows
          ∙ ap (λ (e : _). disk_faults both (devices_of (rows_device c.run-end.new.steps.engine) e)) c.close-rows.ensures.index in
          subst (λ (before : FaultCounts). CountsFaultOf (c.run-end.result ≡ DiskFault) before (disk_faults both last)) (c.in-Ok.ensures.faults.calm (λ no. no))
          (subst (λ (after : FaultCounts). CountsFaultOf (c.run-end.result ≡ DiskFault) (engine_faults c.in-Ok.engine) after) (sym same) (c.run-end.ensures.disk read));
    }

pub returns-in-Err-clause-unopened : goal.returns-in-Err-clause-unopened
returns-in-Err-clause-unopened g c = record {
  untouched = (refl, refl);
  looked = record { rows = c.in-Err.ensures.looks_rows; index = c.in-Err.ensures.looks_index };
  why = is_why (disks_of g.D.Disk g.E.Disk) (devices_of c.args.rows c.args.index) c.in-Err.error
      c.in-Err.ensures.not_created c.in-Err.ensures.damaged_rows c.in-Err.ensures.damaged_index;
  fault = c.in-Err.ensures.faults;
}
