use Rattle.std.proofs.Common.{inl, ap, subst, Ok, Err, Some}
use Rattle.fts_sql.specs.declared.statement.ParseError.TheVariants.{Syntax}
use Rattle.fts_sql.specs.Reader.{SaysLine}
use Rattle.fts_sql.proofs.Laws.{one_statement}
use Rattle.fts_sql.proofs.Single.{one_fault, statement_or_fault, blank_or_statement}
use Rattle.fts_sql.proofs.parse.parse_statement.Goals as goal

pub returns-then-is_blank-clause-exact : goal.returns-then-is_blank-clause-exact
returns-then-is_blank-clause-exact c = λ statement is.
    absurd (blank_or_statement c.args.line.now statement (c.is_blank.ensures.0 c.if-is_blank.true) is)

pub returns-in-Ok-Statement-clause-exact : goal.returns-in-Ok-Statement-clause-exact
returns-in-Ok-Statement-clause-exact c = λ statement is.
    let said = subst (SaysLine c.args.line.now) c.in-Ok-Statement.field-0-is c.in-Ok-Statement.ensures in
    inl (ap (λ s. Ok (Some s)) (one_statement c.args.line.now c.in-Ok-Statement.statement statement said is))

pub returns-in-Ok-Statement-clause-exact_fault : goal.returns-in-Ok-Statement-clause-exact_fault
returns-in-Ok-Statement-clause-exact_fault c = λ at fault.
    let said = subst (SaysLine c.args.line.now) c.in-Ok-Statement.field-0-is c.in-Ok-Statement.ensures in
    absurd (statement_or_fault c.args.line.now c.in-Ok-Statement.statement at said fault)

pub returns-in-Ok-Fault-clause-exact : goal.returns-in-Ok-Fault-clause-exact
returns-in-Ok-Fault-clause-exact c = λ statement is.
    let said = subst (SaysLine c.args.line.now) c.in-Ok-Fault.field-0-is c.in-Ok-Fault.ensures in
    absurd (statement_or_fault c.args.line.now statement c.in-Ok-Fault.at is said)

pub returns-in-Ok-Fault-clause-exact_fault : goal.returns-in-Ok-Fault-clause-exact_fault
returns-in-Ok-Fault-clause-exact_fault c = λ at fault.
    let said = subst (SaysLine c.args.line.now) c.in-Ok-Fault.field-0-is c.in-Ok-Fault.ensures in
    inl (ap (λ n. Err (Syntax n)) (one_fault c.args.line.now c.in-Ok-Fault.at at said fault))
