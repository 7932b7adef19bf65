use Rattle.std.proofs.Common.{◌≡◌, ◌∙◌, List, refl, ap, subst, sym, inr, Ok, Err}
use Rattle.fts_script.specs.Group.{Share, IsGrouping}
use Rattle.fts_script.specs.Script.{lines_in}
use Rattle.fts_steps.specs.FaultCounts.{FaultCounts, NoneFell}
use Rattle.fts_engine.specs.Devices.{devices_of}
use Rattle.fts_engine.specs.Stands.{engine_faults, engine_settings, rows_device}
use Rattle.fts_top.specs.Serve.{counts_in}
use Rattle.fts_top.proofs.Served.{unread_not, counted_end, served_fell, same_shares}
use Rattle.fts_top.proofs.serve.serve_on.Goals as goal

pub returns-in-Err-clause-read : goal.returns-in-Err-clause-read
returns-in-Err-clause-read g c = record {
  rose = λ is. c.read_work.ensures.read.rose (c.in-Err.is ∙ ap Err is);
  calm = λ no. c.read_work.ensures.read.calm (λ is. no (let same = sym c.in-Err.is ∙ is in cc));
  never_falls = c.read_work.ensures.read.never_falls;
}

pub answer-end-requires : goal.answer-end-requires
answer-end-requires g c =
    let served = c.in-Ok-serve_sessions.ensures.served in
    subst (λ (shares : List Share). IsGrouping (lines_in c.in-Ok.ready.script) shares)
    (sym (same_shares (lines_in c.in-Ok.ready.script) (engine_settings c.args.engine) c.in-Ok.ready.works.items c.in-Ok-serve_sessions.field-0.works.items served.calls.sessions served.sessions))
    c.in-Ok.ensures.work.grouped

pub returns-in-Ok-serve_sessions-clause-ends : goal.returns-in-Ok-serve_sessions-clause-ends
returns-in-Ok-serve_sessions-clause-ends g c =
    let rows = c.close-rows-in-Ok-serve_sessions.result.0 in
    let index = c.close-rows-in-Ok-serve_sessions.result.1 in
    inr (record {
      lines = lines_in c.in-Ok.ready.script;
      works = c.in-Ok.ready.works.items;
      work = c.in-Ok.ensures.work;
      served = c.in-Ok-serve_sessions.field-0;
      are = c.in-Ok-serve_sessions.ensures.served;
      closed = ap (λ (d : _). devices_of d index) c.close-rows-in-Ok-serve_sessions.ensures.rows
          ∙ ap (λ (e : _). devices_of (rows_device c.in-Ok-serve_sessions.field-0.engine) e) c.close-rows-in-Ok-serve_sessions.ensures.index;
      answers = c.answer-end.ensures.answers;
    })

pub returns-in-Ok-serve_sessions-clause-fault : goal.returns-in-Ok-serve_sessions-clause-fault
returns-in-Ok-serve_sessions-clause-fault g c read =
    let rows = c.close-rows-in-Ok-serve_sessions.result.0 in
    let index = c.close-rows-in-Ok-serve_sessions.result.1 in
    let engine = c.in-Ok-serve_sessions.field-0.engine in
    let now : FaultCounts = (g.D.Disk.faults rows, g.E.Disk.faults index) in
    let same : now ≡ engine_faults engine =
    ap (λ (d : _). (g.D.Disk.faults d, g.E.Disk.faults index)) c.close-rows-in-Ok-serve_sessions.ensures.rows
    ∙ ap (λ (e : _). (g.D.Disk.faults (rows_device engine), g.E.Disk.faults e)) c.close-rows-in-Ok-serve_sessions.ensures.index in
    let fault = c.answer-end.ensures.fault read in
    counted_end c.have_risen-has_failed.result c.answer-end.result (engine_faults c.args.engine) now (counts_in c.args.before) (counts_in c.faults_of.result) c.requires c.faults_of.ensures
    (subst (λ (n : FaultCounts). NoneFell (engine_faults c.args.engine) n) (sym same)
    (served_fell (lines_in c.in-Ok.ready.script) c.args.engine c.in-Ok.ready.works.items c.in-Ok-serve_sessions.field-0 c.in-Ok-serve_sessions.ensures.served))
    c.have_risen-has_failed.ensures.rose c.have_risen-has_failed.ensures.calm fault.0 fault.1

pub returns-in-Ok-serve_sessions-clause-read : goal.returns-in-Ok-serve_sessions-clause-read
returns-in-Ok-serve_sessions-clause-read g c = record {
  rose = λ is. absurd (c.answer-end.ensures.unread is);
  calm = λ no. c.read_work.ensures.read.calm (λ is. let same = sym c.in-Ok.is ∙ is in cc);
  never_falls = c.read_work.ensures.read.never_falls;
}

pub returns-clause-read : goal.returns-clause-read
returns-clause-read g c = record {
  rose = λ is. absurd cc;
  calm = λ no. c.read_work.ensures.read.calm (λ is. let same = sym c.in-Ok.is ∙ is in cc);
  never_falls = c.read_work.ensures.read.never_falls;
}
