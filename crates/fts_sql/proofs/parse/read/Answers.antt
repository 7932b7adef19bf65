use Rattle.std.proofs.Common.{map, subst, sym}
use Rattle.std.proofs.lemmas.Result.{IfOk-weaker}
use Rattle.fts_sql.specs.Line.{Reads}
use Rattle.fts_sql.specs.Reading.{placed_of, ending_of}
use Rattle.fts_sql.specs.Reader.{SaysIn, SaysLine}
use Rattle.fts_sql.proofs.Single.{says_by}
use Rattle.fts_sql.proofs.parse.read.Goals as goal

pub returns : goal.returns
returns c =
    let reads = subst (λ tokens. Reads 1 c.args.line.now (map placed_of tokens) (ending_of c.in_ok-line.line.ending)) (sym c.deref.ensures.value) c.in_ok-line.ensures in
    IfOk-weaker c.read_tokens.result (SaysIn (map placed_of c.deref.result.now) (ending_of c.in_ok-line.line.ending)) (SaysLine c.args.line.now)
    (λ said says. says_by c.args.line.now (map placed_of c.deref.result.now) (ending_of c.in_ok-line.line.ending) reads c.requires said says) c.read_tokens.ensures
