use Rattle.std.proofs.Common.{arith}
use Rattle.fts_cache.specs.Document.{WordPositions}
use Rattle.fts_cache.proofs.Documents.{behind_last}
use Rattle.fts_cache.proofs.document.is_behind.Goals as goal

pub returns : goal.returns
returns c =
    let x : WordPositions = record { word = c.word_at.result.0.now; positions = c.word_at.result.1.now } in
    behind_last c.args.word.now c.args.document.now.words c.in-Some.last x c.cmp.result c.is_lt.result (omega (arith, c.in-Some.ensures, c.len.ensures)) c.word_at.ensures.value c.cmp.ensures c.is_lt.ensures
