use Rattle.std.proofs.Common.{length, ap, sym, ◌∙◌, arith}
use Rattle.fts_sql.proofs.Sessions.{not_marked, not_numbered}
use Rattle.fts_sql.proofs.session.number_before.Goals as goal

pub returns-in_default-clause-none : goal.returns-in_default-clause-none
returns-in_default-clause-none c =
    not_marked c.args.line.now c.skip_blanks.ensures.0 c.skip_blanks.result.now c.split_run.result.0.now c.split_run.result.1.now
    c.skip_blanks-2.ensures.0 c.skip_blanks-2.result.now c.skip_blanks.ensures.1 c.split_run.ensures c.skip_blanks-2.ensures.1
    (λ after e. (let size = ap length e in omega (arith, size, c.in_default.ensures.cases)))

pub returns-then-first-ne58-clause-none : goal.returns-then-first-ne58-clause-none
returns-then-first-ne58-clause-none c =
    not_marked c.args.line.now c.skip_blanks.ensures.0 c.skip_blanks.result.now c.split_run.result.0.now c.split_run.result.1.now
    c.skip_blanks-2.ensures.0 c.skip_blanks-2.result.now c.skip_blanks.ensures.1 c.split_run.ensures c.skip_blanks-2.ensures.1
    (λ after e. c.if-first-ne58.true (let same = sym c.in-Some.ensures.cases.0 ∙ e in cc))

pub returns-clause-none : goal.returns-clause-none
returns-clause-none c =
    not_numbered c.args.line.now c.skip_blanks.ensures.0 c.skip_blanks.result.now c.split_run.result.0.now c.split_run.result.1.now
    c.skip_blanks-2.ensures.0 c.skip_blanks-2.result.now c.session_number.result c.skip_blanks.ensures.1 c.split_run.ensures c.skip_blanks-2.ensures.1
    c.session_number.ensures.none
