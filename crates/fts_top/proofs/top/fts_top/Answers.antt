use Rattle.std.proofs.Common.{◌≡◌, ◌∙◌, map, refl, ap, subst, sym, ⊎_elim, Ok}
use Rattle.std.specs.String.{string_bytes}
use Rattle.fts_steps.proofs.FaultCounts.{counts_calm}
use Rattle.fts_args.specs.Asked.{Asks}
use Rattle.fts_args.specs.declared.command.Command.{Command}
use Rattle.fts_args.specs.declared.command.Command.TheVariants.{Serve}
use Rattle.fts_engine.specs.Devices.{devices_of, disks_of}
use Rattle.fts_top.specs.declared.ends.CreateEnd.TheVariants.{NoMemory}
use Rattle.fts_top.specs.declared.status.Status.{Status}
use Rattle.fts_top.specs.Health.{IsRead}
use Rattle.fts_top.specs.Once.{outside, Finishes}
use Rattle.fts_top.proofs.Opening.{can_open}
use Rattle.fts_top.proofs.Served.{serve_finishes, serve_alone}
use Rattle.fts_top.proofs.top.fts_top.Goals as goal

pub returns-in-Ok-clause-unasked : goal.returns-in-Ok-clause-unasked
returns-in-Ok-clause-unasked g c none = absurd (none Serve (c.asks_to_serve.ensures.yes (c.in-Ok-true.is ∙ ap Ok c.in-Ok-true.field-0-test)))

pub returns-in-Err-end-clause-unasked : goal.returns-in-Err-end-clause-unasked
returns-in-Err-end-clause-unasked g c none = absurd (none Serve (c.asks_to_serve.ensures.yes (c.in-Ok-true.is ∙ ap Ok c.in-Ok-true.field-0-test)))

pub returns-in-Ok-clause-complete : goal.returns-in-Ok-clause-complete
returns-in-Ok-clause-complete g c can calm =
    let asked = c.asks_to_serve.ensures.yes (c.in-Ok-true.is ∙ ap Ok c.in-Ok-true.field-0-test) in
    let serves = rw c.in-Ok.is at c.serve_script-end.ensures.serves in
    ⊎_elim (λ once. absurd (serve_alone (disks_of g.D.Disk g.E.Disk) (map string_bytes c.args.words.now) (outside g.I.Source g.O.Sink c.args.input.now c.args.out.now c.args.rows c.args.index) asked once))
    (λ serve. subst (λ (status : Status). Finishes status) (sym c.from.ensures)
    (serve_finishes g.D.Disk g.E.Disk _ c.in-Ok.end _ _ serves serve.tells serve.short serve.few serve.sessions
    (λ is. calm.read (c.serve_script-end.ensures.read.rose (c.in-Ok.is ∙ ap Ok is)))
    (λ is. calm.write (c.serve_script-end.ensures.write.rose (c.in-Ok.is ∙ ap Ok is)))
    (λ is. calm.disk ((serves.fault (subst IsRead (sym is) tt)).rose is)))) can

pub returns-in-Err-end-clause-complete : goal.returns-in-Err-end-clause-complete
returns-in-Err-end-clause-complete g c can calm =
    let asked = c.asks_to_serve.ensures.yes (c.in-Ok-true.is ∙ ap Ok c.in-Ok-true.field-0-test) in
    let unopened = rw c.in-Err-end.is at c.serve_script-end.ensures.unopened in
    ⊎_elim (λ once. absurd (serve_alone (disks_of g.D.Disk g.E.Disk) (map string_bytes c.args.words.now) (outside g.I.Source g.O.Sink c.args.input.now c.args.out.now c.args.rows c.args.index) asked once))
    (λ serve. subst (λ (status : Status). Finishes status) (sym c.from-in-Err-end.ensures)
    (can_open (disks_of g.D.Disk g.E.Disk) (devices_of c.args.rows c.args.index) c.in-Err-end.error serve.tell serve.state serve.holds unopened.why
    (λ fault. calm.disk (unopened.fault.rose fault)))) can

pub returns-in-Ok-false-clause-usage : goal.returns-in-Ok-false-clause-usage
returns-in-Ok-false-clause-usage g c is command asks =
    c.asks_to_serve.ensures.no (c.in-Ok-false.is ∙ ap Ok c.in-Ok-false.field-0-test)
    (subst (λ (k : Command). Asks (map string_bytes c.args.words.now) k) (c.fts_once.ensures.usage is command asks) asks)

pub returns-in-Ok-false-clause-unasked : goal.returns-in-Ok-false-clause-unasked
returns-in-Ok-false-clause-unasked g c none = c.fts_once.ensures.unasked (λ command asks. absurd (none command asks))

pub returns-in-Ok-false-clause-complete : goal.returns-in-Ok-false-clause-complete
returns-in-Ok-false-clause-complete g c can calm =
    ⊎_elim (λ once. c.fts_once.ensures.complete once calm)
    (λ serve. absurd (c.asks_to_serve.ensures.no (c.in-Ok-false.is ∙ ap Ok c.in-Ok-false.field-0-test) serve.asked)) can

pub returns-in-Err-clause-creates : goal.returns-in-Err-clause-creates
returns-in-Err-clause-creates g c settings asks = (
  refl,
  record {
    end = NoMemory;
    told = refl;
    creates = (refl, refl);
    fault = counts_calm _ _ _ (λ is. cc) refl;
  },
)
