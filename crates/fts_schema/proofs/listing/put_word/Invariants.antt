use Rattle.std.proofs.Common.{drop}
use Rattle.std.specs.List.{flat_map}
use Rattle.fts_schema.specs.Listing.{word_rows, group_rows}
use Rattle.fts_schema.proofs.Putting.{IsPutting}
use Rattle.fts_schema.proofs.listing.put_word.Given as goal

abbrev pub invariant-loop-group : goal.invariant-loop-group
invariant-loop-group l =
    IsPutting l.initial.rows l.rows (flat_map (group_rows l.word.0) (drop l.group-index l.word.1)) (word_rows l.word)
