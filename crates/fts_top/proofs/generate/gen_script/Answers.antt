use Rattle.std.proofs.Common.{◌≡◌, [], refl, ap, subst, sym, ◌∙◌}
use Rattle.std.specs.Prelude.{Ok}
use Rattle.fts_types.specs.Limits.{standard_limits}
use Rattle.fts_steps.specs.FaultCounts.{FaultCounts, CountsFaultOf}
use Rattle.fts_steps.specs.State.{State}
use Rattle.fts_steps.specs.Running.{opened}
use Rattle.fts_engine.specs.Stands.{engine_faults, rows_device, index_device}
use Rattle.fts_engine.proofs.Single.{one_database}
use Rattle.fts_sessions.specs.Direct.{direct_sight}
use Rattle.fts_workers.specs.declared.health.Health.TheVariants.{Failed}
use Rattle.fts_top.specs.Generate.{script_of, Generates}
use Rattle.fts_top.specs.Run.{sides}
use Rattle.fts_engine.specs.Devices.{devices_of, disks_of, disk_faults, device_sight}
use Rattle.fts_top.proofs.Filing.{generates_on}
use Rattle.fts_top.proofs.Opening.{is_why, database_read}
use Rattle.fts_top.proofs.Playing.{counted_end}
use Rattle.fts_top.proofs.generate.gen_script.Goals as goal

pub returns-in-Ok-clause-generated : goal.returns-in-Ok-clause-generated
returns-in-Ok-clause-generated g c =
    let both = disks_of g.D.Disk g.E.Disk in
    let first = devices_of c.args.rows c.args.index in
    let held = g.O.Sink.holds c.args.out.now in
    let held' = g.O.Sink.holds c.generate-end.new.out in
    let last = devices_of c.close-rows.result.0 c.close-rows.result.1 in
    record {
      found = λ tells.
          let holds = (c.in-Ok.ensures.opened tells.0 tells.1).1 in (
            (c.in-Ok.ensures.opened tells.0 tells.1).0,
            database_read _ (c.in-Ok.ensures.looks_rows tells.0).seen (c.in-Ok.ensures.looks_index tells.1).seen
                ((holds.on_rows tells.0).reads refl) ((holds.on_index tells.1).reads refl),
          );
      outcome = λ tells_out tells start database.
          let state = (c.in-Ok.ensures.opened tells.0 tells.1).0 in
          let holds = (c.in-Ok.ensures.opened tells.0 tells.1).1 in
          let same = one_database start state (g.D.Disk.seen c.args.rows 0) (g.E.Disk.seen c.args.index) database
          (database_read state (c.in-Ok.ensures.looks_rows tells.0).seen (c.in-Ok.ensures.looks_index tells.1).seen
          ((holds.on_rows tells.0).reads refl) ((holds.on_index tells.1).reads refl)) in
          let script = script_of state.settings c.args.seed c.args.count in
          let generates = subst (λ (s : _). Generates direct_sight c.generate-end.result c.args.count (opened state) (script_of s c.args.seed c.args.count)
          (sides [] held (record { engine = c.in-Ok.engine })) (sides [] held' c.generate-end.new.steps)) (sym holds.has.keeps.settings)
          (c.generate-end.ensures.generates tells_out (opened state) holds) in
          let outcome = generates_on direct_sight refl state.settings standard_limits
          (λ running s stood. (stood.on_rows tells.0, stood.on_index tells.1))
          (opened state) script (sides [] held (record { engine = c.in-Ok.engine })) (sides [] held' c.generate-end.new.steps) first
          (record { rows = (c.in-Ok.ensures.looks_rows tells.0).crash; index = (c.in-Ok.ensures.looks_index tells.1).crash })
          (sym holds.has.keeps.settings) (c.in-Ok.ensures.limits ∙ c.standard.ensures) (c.in-Ok.ensures.faults.calm (λ no. no)) (λ s. refl) c.generate-end.result c.args.count generates in
          let closed = subst (λ (d : _). Generates (device_sight both state.settings standard_limits) c.generate-end.result c.args.count (opened state) script
          (sides [] held first) (sides [] held' (devices_of d (index_device c.generate-end.new.steps.engine)))) (sym c.close-rows.ensures.rows) outcome in
          let closed' = subst (λ (e : _). Generates (device_sight both state.settings standard_limits) c.generate-end.result c.args.count (opened state) script
          (sides [] held first) (sides [] held' (devices_of c.close-rows.result.0 e))) (sym c.close-rows.ensures.index) closed in
          subst (λ (s : State). Generates (device_sight both s.settings standard_limits) c.generate-end.result c.args.count (opened s) (script_of s.settings c.args.seed c.args.count)
          (sides [] held first) (sides [] held' last)) (sym same) closed';
      fault = λ is.
          let same : disk_faults both last ≡ engine_faults c.generate-end.new.steps.engine =
          ap (λ (d : _). disk_faults both (devices_of d c.close-rows.result.1)) c.close-rows.ensures.rows
          ∙ ap (λ (e : _). disk_faults both (devices_of (rows_device c.generate-end.new.steps.engine) e)) c.close-rows.ensures.index in
          subst (λ (before : FaultCounts). CountsFaultOf (c.generate-end.result ≡ Ok Failed) before (disk_faults both last)) (c.in-Ok.ensures.faults.calm (λ no. no))
          (subst (λ (after : FaultCounts). CountsFaultOf (c.generate-end.result ≡ Ok Failed) (engine_faults c.in-Ok.engine) after) (sym same)
          (counted_end c.generate-end.result _ _ c.generate-end.ensures.disk is));
    }

pub returns-in-Err-clause-unopened : goal.returns-in-Err-clause-unopened
returns-in-Err-clause-unopened g c = record {
  untouched = refl;
  looked = record { rows = c.in-Err.ensures.looks_rows; index = c.in-Err.ensures.looks_index };
  why = is_why (disks_of g.D.Disk g.E.Disk) (devices_of c.args.rows c.args.index) c.in-Err.error
      c.in-Err.ensures.not_created c.in-Err.ensures.damaged_rows c.in-Err.ensures.damaged_index;
  fault = c.in-Err.ensures.faults;
}
