use Rattle.fts_sql.proofs.Sessions.{numbered_tokens, bare_tokens}
use Rattle.fts_sql.proofs.session.session_of.Goals as goal

pub returns-in-Some-clause-tokens : goal.returns-in-Some-clause-tokens
returns-in-Some-clause-tokens c = λ tokens ending reads.
    numbered_tokens c.args.line.now c.in-Some.number tokens ending c.in-Some.ensures.some reads

pub returns-in-None-clause-tokens : goal.returns-in-None-clause-tokens
returns-in-None-clause-tokens c = λ tokens ending reads.
    bare_tokens c.args.line.now tokens ending c.in-None.ensures.none reads
