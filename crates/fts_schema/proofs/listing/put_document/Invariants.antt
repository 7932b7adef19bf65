use Rattle.std.proofs.Common.{map}
use Rattle.fts_schema.specs.Listing.{position_row, document_rows}
use Rattle.fts_schema.proofs.Putting.{IsPutting}
use Rattle.fts_schema.proofs.listing.put_document.Given as goal

abbrev pub invariant-loop-position : goal.invariant-loop-position
invariant-loop-position l =
    IsPutting l.initial.rows l.rows (map (position_row l.front l.document.id) l.position-iterator) (document_rows l.front l.document)
