use Rattle.std.proofs.Common.{◌≡◌, take, map}
use Rattle.fts_rows.specs.Rows.{rows_of}
use Rattle.fts_query.specs.Seen.{candidate_seen}
use Rattle.fts_engine.specs.Looking.{rows_at}
use Rattle.fts_engine.proofs.looking.candidates.Given as goal

abbrev pub invariant-loop-doc : goal.invariant-loop-doc
invariant-loop-doc l = map candidate_seen l.all.items ≡ rows_at (rows_of l.rows).list (take l.doc-index l.docs)
