use Rattle.std.proofs.Common.{drop}
use Rattle.fts_cache.proofs.Leaving.{IsDropping}
use Rattle.fts_cache.proofs.adding.drop_words.Given as goal

abbrev pub invariant-loop-number : goal.invariant-loop-number
invariant-loop-number l = IsDropping l.doc (drop l.number-index l.numbers) l.numbers l.fn.words l.words
