use Rattle.std.proofs.Common.{ap}
use Rattle.std.specs.Prelude.{Ok, Err}
use Rattle.fts_sessions.proofs.Executing.{unparsed_line, blank_line}
use Rattle.fts_sessions.proofs.session.Session.reply.Goals as goal

pub carry_out-requires-clause-said : goal.carry_out-requires-clause-said
carry_out-requires-clause-said g c = (c.args.line.now, c.in-Ok-Some.ensures.statement c.in-Ok-Some.statement (ap Ok c.in-Ok-Some.field-0-is))

pub returns-in-Ok-Some-clause-executes : goal.returns-in-Ok-Some-clause-executes
returns-in-Ok-Some-clause-executes g c =
    c.carry_out.ensures.executes c.args.line.now (c.in-Ok-Some.ensures.statement c.in-Ok-Some.statement (ap Ok c.in-Ok-Some.field-0-is))

pub returns-in-Ok-None-clause-executes : goal.returns-in-Ok-None-clause-executes
returns-in-Ok-None-clause-executes g c =
    blank_line g.S.EngineSteps.sight c.args.line.now c.args.self.now.transaction c.args.steps.now (c.in-Ok-None.ensures.blank.0 (ap Ok c.in-Ok-None.field-0-is))

pub returns-in-Err-clause-executes : goal.returns-in-Err-clause-executes
returns-in-Err-clause-executes g c =
    unparsed_line g.S.EngineSteps.sight c.args.line.now c.args.self.now.transaction c.args.steps.now c.in-Err.error c.unparsed.result
    (λ at is. c.in-Err.ensures.fault at (ap Err is)) c.unparsed.ensures.syntax c.unparsed.ensures.memory
