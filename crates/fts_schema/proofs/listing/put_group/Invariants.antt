use Rattle.std.specs.List.{flat_map}
use Rattle.fts_schema.specs.Listing.{group_front, group_rows, document_rows}
use Rattle.fts_schema.proofs.Putting.{IsPutting}
use Rattle.fts_schema.proofs.listing.put_group.Given as goal

abbrev pub invariant-loop-document : goal.invariant-loop-document
invariant-loop-document l =
    IsPutting l.initial.rows l.rows (flat_map (document_rows (group_front l.word l.group)) l.document-iterator) (group_rows l.word l.group)
