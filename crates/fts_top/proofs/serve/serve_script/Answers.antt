use Rattle.std.proofs.Common.{◌≡◌, refl, ap, subst, sym, ◌∙◌, inl, inr, ⊎_elim}
use Rattle.fts_steps.specs.FaultCounts.{FaultCounts, CountsFaultOf}
use Rattle.fts_steps.specs.Running.{opened}
use Rattle.fts_steps.specs.State.{State}
use Rattle.fts_engine.specs.Devices.{devices_of, disks_of, disk_faults}
use Rattle.fts_engine.specs.Stands.{Holds}
use Rattle.fts_engine.proofs.Single.{one_database}
use Rattle.fts_top.specs.declared.ends.RunEnd.TheVariants.{DiskFault}
use Rattle.fts_top.proofs.Opening.{is_why, database_read}
use Rattle.fts_top.proofs.serve.serve_script.Goals as goal

pub serve_on-end-requires-after_bounds : goal.serve_on-end-requires-after_bounds
serve_on-end-requires-after_bounds g c κs within = c.faults_of-before.ensures ∙ sym (c.in-Ok.ensures.faults.calm (λ no. no))

pub returns-in-Ok-clause-serves : goal.returns-in-Ok-clause-serves
returns-in-Ok-clause-serves g c =
    let both = disks_of g.D.Disk g.E.Disk in
    let last = devices_of c.serve_on-end.result.1 c.serve_on-end.result.2 in
    record {
      first = c.in-Ok.engine;
      opened = record {
        found = λ tells.
            let holds = (c.in-Ok.ensures.opened tells.0 tells.1).1 in (
              (c.in-Ok.ensures.opened tells.0 tells.1).0,
              database_read _ (c.in-Ok.ensures.looks_rows tells.0).seen (c.in-Ok.ensures.looks_index tells.1).seen
                  ((holds.on_rows tells.0).reads refl) ((holds.on_index tells.1).reads refl),
            );
        holds = λ tells start database.
            let state = (c.in-Ok.ensures.opened tells.0 tells.1).0 in
            let holds = (c.in-Ok.ensures.opened tells.0 tells.1).1 in
            let same = one_database start state (g.D.Disk.seen c.args.rows 0) (g.E.Disk.seen c.args.index) database
            (database_read state (c.in-Ok.ensures.looks_rows tells.0).seen (c.in-Ok.ensures.looks_index tells.1).seen
            ((holds.on_rows tells.0).reads refl) ((holds.on_index tells.1).reads refl)) in
            subst (λ (s : State). Holds (opened s) c.in-Ok.engine) (sym same) holds;
        limits_are = c.in-Ok.ensures.limits;
        looked = record { rows = c.in-Ok.ensures.looks_rows; index = c.in-Ok.ensures.looks_index };
        calm = c.in-Ok.ensures.faults.calm (λ no. no);
      };
      ends = ⊎_elim (λ not. inl (record { why = not.why; unwritten = not.unwritten; closed = not.closed }))
          (λ was. inr (record { lines = was.lines; works = was.works; work = was.work; served = was.served; are = was.are; closed = was.closed; answers = was.answers }))
          c.serve_on-end.ensures.ends;
      fault = λ read.
          subst (λ (before : FaultCounts). CountsFaultOf (c.serve_on-end.result.0 ≡ DiskFault) before (disk_faults both last)) (c.in-Ok.ensures.faults.calm (λ no. no))
          (c.serve_on-end.ensures.fault read);
    }

pub returns-in-Err-clause-unopened : goal.returns-in-Err-clause-unopened
returns-in-Err-clause-unopened g c = record {
  untouched = (refl, refl);
  looked = record { rows = c.in-Err.ensures.looks_rows; index = c.in-Err.ensures.looks_index };
  why = is_why (disks_of g.D.Disk g.E.Disk) (devices_of c.args.rows c.args.index) c.in-Err.error
      c.in-Err.ensures.not_created c.in-Err.ensures.damaged_rows c.in-Err.ensures.damaged_index;
  fault = c.in-Err.ensures.faults;
}
