use Rattle.std.proofs.Common.{List, ℕ, ap, ◌∙◌, sym, subst, arith}
use Rattle.fts_io.specs.Text.{Line, whole}
use Rattle.fts_schema.specs.declared.reply.Reply.TheVariants.{LineTooLong}
use Rattle.fts_script.specs.Script.{line_of, lines_in}
use Rattle.fts_sessions.specs.Execute.{Executes}
use Rattle.fts_shared.proofs.Lines.{skips, line_at, no_line_at}
use Rattle.fts_shared.proofs.talking.told.Goals as goal

pub returns-then-place-lines-clause-executes : goal.returns-then-place-lines-clause-executes
returns-then-place-lines-clause-executes g c =
    let sight = g.S.EngineSteps.sight in
    let more = c.if-place-lines.true in
    subst (λ (line : Line). Executes sight line c.args.session.now.transaction c.args.steps.now LineTooLong c.args.session.now.transaction c.args.steps.now)
    (sym (no_line_at c.lines-lines.result.now (lines_in c.args.script.now) c.args.place c.lines-lines.ensures (omega (arith, more))))
    (skips sight c.args.session.now.transaction c.args.steps.now)

pub returns-in-Whole-clause-executes : goal.returns-in-Whole-clause-executes
returns-in-Whole-clause-executes g c =
    let sight = g.S.EngineSteps.sight in
    let less = c.if-place-lines.false in
    subst (λ (line : Line). Executes sight line c.args.session.now.transaction c.args.steps.now c.execute.result c.execute.new.self.transaction c.execute.new.steps)
    (sym (line_at c.lines-lines.result.now (lines_in c.args.script.now) c.args.place c.index-lines-place.result c.lines-lines.ensures (omega (arith, less)) c.index-lines-place.is
    ∙ ap line_of c.in-Whole.is))
    (subst (λ (bytes : List ℕ). Executes sight (whole bytes) c.args.session.now.transaction c.args.steps.now c.execute.result c.execute.new.self.transaction c.execute.new.steps)
    c.deref.ensures.value c.execute.ensures.executes)

pub returns-in-TooLong-clause-executes : goal.returns-in-TooLong-clause-executes
returns-in-TooLong-clause-executes g c =
    let sight = g.S.EngineSteps.sight in
    let less = c.if-place-lines.false in
    subst (λ (line : Line). Executes sight line c.args.session.now.transaction c.args.steps.now LineTooLong c.args.session.now.transaction c.args.steps.now)
    (sym (line_at c.lines-lines.result.now (lines_in c.args.script.now) c.args.place c.index-lines-place.result c.lines-lines.ensures (omega (arith, less)) c.index-lines-place.is
    ∙ ap line_of c.in-TooLong.is))
    (skips sight c.args.session.now.transaction c.args.steps.now)
