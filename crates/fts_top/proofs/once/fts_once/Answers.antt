use Rattle.std.proofs.Common.{◌≡◌, ◌∙◌, map, refl, ap, subst, sym, ⊎_elim, arith, Ok}
use Rattle.std.specs.String.{string_bytes}
use Rattle.fts_types.specs.declared.settings.Settings.{Settings}
use Rattle.fts_args.specs.Asked.{Asks}
use Rattle.fts_args.proofs.One.{asks_one}
use Rattle.fts_args.specs.declared.command.Command.{Command}
use Rattle.fts_args.specs.declared.command.Command.TheVariants.{Create, Run, Serve, Gen}
use Rattle.fts_top.specs.declared.ends.CreateEnd.TheVariants.{NoMemory}
use Rattle.fts_top.specs.declared.status.Status.{Status}
use Rattle.fts_engine.specs.Devices.{devices_of, disks_of}
use Rattle.fts_top.specs.Once.{Creates, Finishes, sink_seen}
use Rattle.fts_top.specs.Health.{IsRead}
use Rattle.fts_io.specs.Text.{lines_of}
use Rattle.fts_steps.proofs.FaultCounts.{counts_calm}
use Rattle.fts_script.proofs.Counting.{few_not_crowded}
use Rattle.fts_top.proofs.Opening.{can_open, run_finishes}
use Rattle.fts_top.proofs.Asking.{not_asked, is_asked, one_settings}
use Rattle.fts_top.proofs.once.fts_once.Goals as goal

pub returns-in-Ok-None-clause-usage : goal.returns-in-Ok-None-clause-usage
returns-in-Ok-None-clause-usage g c is command asks =
    absurd (not_asked c.in-Ok-None.field-0 c.in-Ok-None.field-0-is c.in-Ok-None.ensures.none command asks)

pub returns-in-Ok-None-clause-creates : goal.returns-in-Ok-None-clause-creates
returns-in-Ok-None-clause-creates g c settings asks =
    absurd (not_asked c.in-Ok-None.field-0 c.in-Ok-None.field-0-is c.in-Ok-None.ensures.none (Create settings) asks)

pub returns-in-Ok-None-clause-runs : goal.returns-in-Ok-None-clause-runs
returns-in-Ok-None-clause-runs g c asks = absurd (not_asked c.in-Ok-None.field-0 c.in-Ok-None.field-0-is c.in-Ok-None.ensures.none Run asks)

pub returns-in-Ok-None-clause-complete : goal.returns-in-Ok-None-clause-complete
returns-in-Ok-None-clause-complete g c can none = ⊎_elim
    (λ create. absurd (not_asked c.in-Ok-None.field-0 c.in-Ok-None.field-0-is c.in-Ok-None.ensures.none (Create create.0) create.1))
    (⊎_elim
    (λ run. absurd (not_asked c.in-Ok-None.field-0 c.in-Ok-None.field-0-is c.in-Ok-None.ensures.none Run run.0))
    (λ made. absurd (not_asked c.in-Ok-None.field-0 c.in-Ok-None.field-0-is c.in-Ok-None.ensures.none (Gen made.0.0 made.0.1) made.0.2)))
    can

pub returns-in-Ok-None-clause-generates : goal.returns-in-Ok-None-clause-generates
returns-in-Ok-None-clause-generates g c seed count asks =
    absurd (not_asked c.in-Ok-None.field-0 c.in-Ok-None.field-0-is c.in-Ok-None.ensures.none (Gen seed count) asks)

pub returns-in-Ok-Some-Create-clause-unasked : goal.returns-in-Ok-Some-Create-clause-unasked
returns-in-Ok-Some-Create-clause-unasked g c none = absurd (let same : Create c.in-Ok-Some-Create.settings ≡ Serve = none (Create c.in-Ok-Some-Create.settings) (is_asked (Asks (map string_bytes c.args.words.now)) c.in-Ok-Some-Create.field-0 c.in-Ok-Some-Create.field-0-0 (Create c.in-Ok-Some-Create.settings) c.in-Ok-Some-Create.field-0-is c.in-Ok-Some-Create.field-0-0-is c.in-Ok-Some-Create.ensures.found) in cc)

pub returns-in-Ok-Some-Create-clause-creates : goal.returns-in-Ok-Some-Create-clause-creates
returns-in-Ok-Some-Create-clause-creates g c settings asks = (
  refl,
  record {
    end = c.create-end.result.0;
    told = c.from.ensures;
    creates = subst (λ (s : Settings). Creates (disks_of g.D.Disk g.E.Disk) c.create-end.result.0 s (c.create-end.new.out ≡ c.args.out.now)
        (sink_seen g.O.Sink c.args.out.now) (sink_seen g.O.Sink c.create-end.new.out)
        (devices_of c.args.rows c.args.index) (devices_of c.create-end.result.1 c.create-end.result.2))
        (one_settings (map string_bytes c.args.words.now) c.in-Ok-Some-Create.settings settings (is_asked (Asks (map string_bytes c.args.words.now)) c.in-Ok-Some-Create.field-0 c.in-Ok-Some-Create.field-0-0 (Create c.in-Ok-Some-Create.settings) c.in-Ok-Some-Create.field-0-is c.in-Ok-Some-Create.field-0-0-is c.in-Ok-Some-Create.ensures.found) asks)
        c.create-end.ensures.creates;
    fault = c.create-end.ensures.disk;
  },
)

pub returns-in-Ok-clause-unasked : goal.returns-in-Ok-clause-unasked
returns-in-Ok-clause-unasked g c none = absurd (let same : Run ≡ Serve = none Run (is_asked (Asks (map string_bytes c.args.words.now)) c.in-Ok-Some-Run.field-0 c.in-Ok-Some-Run.field-0-0 Run c.in-Ok-Some-Run.field-0-is c.in-Ok-Some-Run.field-0-0-is c.in-Ok-Some-Run.ensures.found) in cc)

pub returns-in-Err-end-clause-unasked : goal.returns-in-Err-end-clause-unasked
returns-in-Err-end-clause-unasked g c none = absurd (let same : Run ≡ Serve = none Run (is_asked (Asks (map string_bytes c.args.words.now)) c.in-Ok-Some-Run.field-0 c.in-Ok-Some-Run.field-0-0 Run c.in-Ok-Some-Run.field-0-is c.in-Ok-Some-Run.field-0-0-is c.in-Ok-Some-Run.ensures.found) in cc)

pub returns-in-Err-clause-creates : goal.returns-in-Err-clause-creates
returns-in-Err-clause-creates g c settings asks = (
  refl,
  record {
    end = NoMemory;
    told = refl;
    creates = (refl, refl);
    fault = counts_calm _ _ _ (λ is. cc) refl;
  },
)

pub returns-in-Err-end-clause-complete : goal.returns-in-Err-end-clause-complete
returns-in-Err-end-clause-complete g c can calm =
    let words = map string_bytes c.args.words.now in
    let asked : Asks words Run = is_asked (Asks words) c.in-Ok-Some-Run.field-0 c.in-Ok-Some-Run.field-0-0 Run c.in-Ok-Some-Run.field-0-is c.in-Ok-Some-Run.field-0-0-is c.in-Ok-Some-Run.ensures.found in
    let unopened = rw c.in-Err-end.is at c.run_script-end.ensures.unopened in
    ⊎_elim
    (λ create. absurd (let same : Create create.0 ≡ Run = asks_one words (Create create.0) Run create.1 asked in cc))
    (⊎_elim
    (λ run.
    subst (λ (status : Status). Finishes status) (sym c.from-in-Err-end.ensures)
    (can_open (disks_of g.D.Disk g.E.Disk) (devices_of c.args.rows c.args.index) c.in-Err-end.error run.2 run.3.0 run.3.1 unopened.why
    (λ fault. calm.disk (unopened.fault.rose fault))))
    (λ made. absurd (let same : Gen made.0.0 made.0.1 ≡ Run = asks_one words (Gen made.0.0 made.0.1) Run made.0.2 asked in cc)))
    can

pub returns-in-Ok-clause-complete : goal.returns-in-Ok-clause-complete
returns-in-Ok-clause-complete g c can calm =
    let words = map string_bytes c.args.words.now in
    let asked : Asks words Run = is_asked (Asks words) c.in-Ok-Some-Run.field-0 c.in-Ok-Some-Run.field-0-0 Run c.in-Ok-Some-Run.field-0-is c.in-Ok-Some-Run.field-0-0-is c.in-Ok-Some-Run.ensures.found in
    let executed = rw c.in-Ok.is at c.run_script-end.ensures.executed in
    ⊎_elim
    (λ create. absurd (let same : Create create.0 ≡ Run = asks_one words (Create create.0) Run create.1 asked in cc))
    (⊎_elim
    (λ run. subst (λ (status : Status). Finishes status) (sym c.from-in-Ok.ensures)
    (run_finishes c.in-Ok.end
    (λ is. calm.read (c.run_script-end.ensures.read.rose (c.in-Ok.is ∙ ap Ok is)))
    (λ is. calm.write (c.run_script-end.ensures.write.rose (c.in-Ok.is ∙ ap Ok is)))
    (λ is. calm.disk ((executed.fault (subst IsRead (sym is) tt)).rose is))
    (λ lines bytes is. let passes = executed.too_long lines bytes is run.1 in let past = passes.0 in let all = passes.1 in let few = run.4 in omega (arith, past, all, few))
    (λ number is. few_not_crowded (lines_of (g.I.Source.left c.args.input.now)) number (executed.crowded number is run.1) run.5)))
    (λ made. absurd (let same : Gen made.0.0 made.0.1 ≡ Run = asks_one words (Gen made.0.0 made.0.1) Run made.0.2 asked in cc)))
    can

pub returns-in-Ok-end-clause-unasked : goal.returns-in-Ok-end-clause-unasked
returns-in-Ok-end-clause-unasked g c none =
    let made = Gen c.in-Ok-Some-Gen.seed c.in-Ok-Some-Gen.count in
    absurd (let same : made ≡ Serve = none made (is_asked (Asks (map string_bytes c.args.words.now)) c.in-Ok-Some-Gen.field-0 c.in-Ok-Some-Gen.field-0-0 made c.in-Ok-Some-Gen.field-0-is c.in-Ok-Some-Gen.field-0-0-is c.in-Ok-Some-Gen.ensures.found) in cc)

pub returns-in-Err-end-2-clause-unasked : goal.returns-in-Err-end-2-clause-unasked
returns-in-Err-end-2-clause-unasked g c none =
    let made = Gen c.in-Ok-Some-Gen.seed c.in-Ok-Some-Gen.count in
    absurd (let same : made ≡ Serve = none made (is_asked (Asks (map string_bytes c.args.words.now)) c.in-Ok-Some-Gen.field-0 c.in-Ok-Some-Gen.field-0-0 made c.in-Ok-Some-Gen.field-0-is c.in-Ok-Some-Gen.field-0-0-is c.in-Ok-Some-Gen.ensures.found) in cc)

pub returns-in-Err-end-2-clause-complete : goal.returns-in-Err-end-2-clause-complete
returns-in-Err-end-2-clause-complete g c can calm =
    let words = map string_bytes c.args.words.now in
    let made = Gen c.in-Ok-Some-Gen.seed c.in-Ok-Some-Gen.count in
    let asked : Asks words made = is_asked (Asks words) c.in-Ok-Some-Gen.field-0 c.in-Ok-Some-Gen.field-0-0 made c.in-Ok-Some-Gen.field-0-is c.in-Ok-Some-Gen.field-0-0-is c.in-Ok-Some-Gen.ensures.found in
    let unopened = rw c.in-Err-end-2.is at c.gen_script-end.ensures.unopened in
    ⊎_elim
    (λ create. absurd (let same : Create create.0 ≡ made = asks_one words (Create create.0) made create.1 asked in cc))
    (⊎_elim
    (λ run. absurd (let same : Run ≡ made = asks_one words Run made run.0 asked in cc))
    (λ can_open_it.
    subst (λ (status : Status). Finishes status) (sym c.from-in-Err-end-2.ensures)
    (can_open (disks_of g.D.Disk g.E.Disk) (devices_of c.args.rows c.args.index) c.in-Err-end-2.error can_open_it.1 can_open_it.2.0 can_open_it.2.1 unopened.why
    (λ fault. calm.disk (unopened.fault.rose fault)))))
    can

pub returns-in-Ok-Some-Serve-clause-usage : goal.returns-in-Ok-Some-Serve-clause-usage
returns-in-Ok-Some-Serve-clause-usage g c is command asks =
    asks_one (map string_bytes c.args.words.now) command Serve asks (is_asked (Asks (map string_bytes c.args.words.now)) c.in-Ok-Some-Serve.field-0 c.in-Ok-Some-Serve.field-0-0 Serve c.in-Ok-Some-Serve.field-0-is c.in-Ok-Some-Serve.field-0-0-is c.in-Ok-Some-Serve.ensures.found)

pub returns-in-Ok-Some-Serve-clause-creates : goal.returns-in-Ok-Some-Serve-clause-creates
returns-in-Ok-Some-Serve-clause-creates g c settings asks =
    absurd (let same : Create settings ≡ Serve = asks_one (map string_bytes c.args.words.now) (Create settings) Serve asks (is_asked (Asks (map string_bytes c.args.words.now)) c.in-Ok-Some-Serve.field-0 c.in-Ok-Some-Serve.field-0-0 Serve c.in-Ok-Some-Serve.field-0-is c.in-Ok-Some-Serve.field-0-0-is c.in-Ok-Some-Serve.ensures.found) in cc)

pub returns-in-Ok-Some-Serve-clause-runs : goal.returns-in-Ok-Some-Serve-clause-runs
returns-in-Ok-Some-Serve-clause-runs g c asks =
    absurd (let same : Run ≡ Serve = asks_one (map string_bytes c.args.words.now) (Run) Serve asks (is_asked (Asks (map string_bytes c.args.words.now)) c.in-Ok-Some-Serve.field-0 c.in-Ok-Some-Serve.field-0-0 Serve c.in-Ok-Some-Serve.field-0-is c.in-Ok-Some-Serve.field-0-0-is c.in-Ok-Some-Serve.ensures.found) in cc)

pub returns-in-Ok-Some-Serve-clause-generates : goal.returns-in-Ok-Some-Serve-clause-generates
returns-in-Ok-Some-Serve-clause-generates g c seed count asks =
    absurd (let same : Gen seed count ≡ Serve = asks_one (map string_bytes c.args.words.now) (Gen seed count) Serve asks (is_asked (Asks (map string_bytes c.args.words.now)) c.in-Ok-Some-Serve.field-0 c.in-Ok-Some-Serve.field-0-0 Serve c.in-Ok-Some-Serve.field-0-is c.in-Ok-Some-Serve.field-0-0-is c.in-Ok-Some-Serve.ensures.found) in cc)

pub returns-in-Ok-Some-Serve-clause-complete : goal.returns-in-Ok-Some-Serve-clause-complete
returns-in-Ok-Some-Serve-clause-complete g c can none =
    let asked : Asks (map string_bytes c.args.words.now) Serve = is_asked (Asks (map string_bytes c.args.words.now)) c.in-Ok-Some-Serve.field-0 c.in-Ok-Some-Serve.field-0-0 Serve c.in-Ok-Some-Serve.field-0-is c.in-Ok-Some-Serve.field-0-0-is c.in-Ok-Some-Serve.ensures.found in
    ⊎_elim
    (λ create. absurd (let same : Create create.0 ≡ Serve = asks_one (map string_bytes c.args.words.now) (Create create.0) Serve create.1 asked in cc))
    (⊎_elim
    (λ run. absurd (let same : Run ≡ Serve = asks_one (map string_bytes c.args.words.now) Run Serve run.0 asked in cc))
    (λ made. absurd (let same : Gen made.0.0 made.0.1 ≡ Serve = asks_one (map string_bytes c.args.words.now) (Gen made.0.0 made.0.1) Serve made.0.2 asked in cc)))
    can
