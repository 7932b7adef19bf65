use Rattle.std.proofs.Common.{sym}
use Rattle.fts_cache.specs.Words.{number_in, queue_in}
use Rattle.fts_cache.proofs.Leaving.{left_behind}
use Rattle.fts_cache.proofs.adding.drop_left.Goals as goal

pub returns-then-done-clause-postings : goal.returns-then-done-clause-postings
returns-then-done-clause-postings c =
    let words = c.args.words.now in
    λ w. sym (left_behind c.args.doc c.args.numbers.now (number_in words w) (queue_in words w).postings (queue_in words w).postings (sym (c.requires c.if-done.true w)))
