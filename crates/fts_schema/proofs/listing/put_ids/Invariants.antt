use Rattle.std.proofs.Common.{drop, map}
use Rattle.std.specs.Prelude.{decimal}
use Rattle.fts_schema.proofs.Putting.{IsPutting}
use Rattle.fts_schema.proofs.listing.put_ids.Given as goal

abbrev pub invariant-loop-id : goal.invariant-loop-id
invariant-loop-id l = IsPutting l.initial.rows l.rows (map decimal (drop l.id-index l.ids)) (map decimal l.ids)
