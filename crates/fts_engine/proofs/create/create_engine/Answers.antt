use Rattle.std.proofs.Common.{[], sym, ◌∙◌, ap, length, ⊎_elim, arith}
use Rattle.std.specs.Prelude.{IsTrue}
use Rattle.std.proofs.lemmas.Bool.{false≢true}
use Rattle.std.proofs.lemmas.Result.{IfOk-weaker, IfErr-weaker}
use Rattle.fts_disk.specs.Moments.{Looks}
use Rattle.fts_rowcodec.proofs.Sizes.{settings_size}
use Rattle.fts_steps.specs.State.{IsCreated}
use Rattle.fts_steps.proofs.Growing.{none_stand}
use Rattle.fts_engine.proofs.Gates.{always, always_err}
use Rattle.fts_engine.proofs.create.create_engine.Goals as goal

pub make-requires : goal.make-requires
make-requires g c =
    let short = settings_size c.args.settings.now c.requires in
    let same = ap length c.in-Ok.ensures in
    omega (arith, short, same)

pub returns-in-Ok-false-clause-fresh : goal.returns-in-Ok-false-clause-fresh
returns-in-Ok-false-clause-fresh g c =
    always (IsTrue g.D.Disk.tells → IsCreated (g.D.Disk.seen c.args.rows 0) → ⊥) c.make.result
    (λ told created. false≢true (sym c.in-Ok-false.field-0-test ∙ (c.in-Ok-false.ensures.begun told).1 created))

pub returns-in-Ok-false-clause-index : goal.returns-in-Ok-false-clause-index
returns-in-Ok-false-clause-index g c =
    IfOk-weaker c.make.result _ _
    (λ made leads_to told. let is = leads_to told in (record { sound = none_stand c.args.settings.now []; log = is.0 }, is.1))
    c.make.ensures.index

pub returns-in-Ok-false-clause-stays_rows : goal.returns-in-Ok-false-clause-stays_rows
returns-in-Ok-false-clause-stays_rows g c =
    always_err (λ e. IsTrue g.D.Disk.tells → IsCreated (g.D.Disk.seen c.args.rows 0) → Looks g.D.Disk c.args.rows e.1) c.make.result
    (λ e told created. absurd (false≢true (sym c.in-Ok-false.field-0-test ∙ (c.in-Ok-false.ensures.begun told).1 created)))

pub returns-in-Ok-false-clause-stays_index : goal.returns-in-Ok-false-clause-stays_index
returns-in-Ok-false-clause-stays_index g c =
    IfErr-weaker c.make.result _ _
    (λ e failed told_index stood. ⊎_elim
    (λ already. absurd (let no = failed in cc))
    (λ created. absurd (false≢true (sym c.in-Ok-false.field-0-test ∙ (c.in-Ok-false.ensures.begun created.0).1 created.1)))
    stood)
    c.make.ensures.failed
