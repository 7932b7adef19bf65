use Rattle.fts_entries.proofs.BatchRows.{alive_contained}
use Rattle.fts_entries.proofs.laws.alive_are_rows.Goals as goal

pub returns : goal.returns
returns c = alive_contained
