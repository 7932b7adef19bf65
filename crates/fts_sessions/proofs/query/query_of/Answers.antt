use Rattle.std.proofs.Common.{refl, subst}
use Rattle.fts_query.specs.View.{tree_of}
use Rattle.fts_query.specs.Refused.{RefusedAs}
use Rattle.fts_sessions.specs.Query.{looks_for, too_long, syntax_at, too_deep_at}
use Rattle.fts_sessions.proofs.query.query_of.Goals as goal

pub returns-in-Ok : goal.returns-in-Ok
returns-in-Ok c =
    let fits = c.in-Ok.ensures.fits in
    (looks_for (tree_of c.in-Ok.query), (fits.0, c.in-Ok.ensures.tree, fits.1), refl)

pub returns-in-Err-TooLong : goal.returns-in-Err-TooLong
returns-in-Err-TooLong c = (too_long c.in-Err-TooLong.length, subst (RefusedAs c.args.text.now) c.in-Err-TooLong.field-0-is c.in-Err-TooLong.ensures.refused, refl)

pub returns-in-Err-Syntax : goal.returns-in-Err-Syntax
returns-in-Err-Syntax c = (syntax_at c.in-Err-Syntax.at, subst (RefusedAs c.args.text.now) c.in-Err-Syntax.field-0-is c.in-Err-Syntax.ensures.refused, refl)

pub returns-in-Err-TooDeep : goal.returns-in-Err-TooDeep
returns-in-Err-TooDeep c = (too_deep_at c.in-Err-TooDeep.at, subst (RefusedAs c.args.text.now) c.in-Err-TooDeep.field-0-is c.in-Err-TooDeep.ensures.refused, refl)
