use Rattle.fts_ixcodec.proofs.Batches.{batch_is_entry, next_is_entry}
use Rattle.fts_ixcodec.proofs.laws.batches_are_entries.Goals as goal

pub returns-clause-rows : goal.returns-clause-rows
returns-clause-rows c = λ rules rows low high through synced batch ids can. batch_is_entry rules rows low high ids can through synced batch

pub returns-clause-next : goal.returns-clause-next
returns-clause-next c = next_is_entry
