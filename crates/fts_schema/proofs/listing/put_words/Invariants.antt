use Rattle.std.proofs.Common.{drop}
use Rattle.fts_schema.specs.Listing.{words_rows}
use Rattle.fts_schema.proofs.Putting.{IsPutting}
use Rattle.fts_schema.proofs.listing.put_words.Given as goal

abbrev pub invariant-loop-word : goal.invariant-loop-word
invariant-loop-word l = IsPutting l.initial.rows l.rows (words_rows (drop l.word-index l.words)) (words_rows l.words)
