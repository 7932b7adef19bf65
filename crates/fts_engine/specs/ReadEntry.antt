-- An entry as it was read.
use Rattle.fts_entries.specs.Entry.{IndexEntry, sealed}
use Rattle.fts_index.specs.Passing.{step_entry}
use Rattle.fts_engine.specs.declared.load.ReadBatch.{ReadBatch}
use Rattle.fts_engine.specs.declared.load.ReadEntry.{ReadEntry}
use Rattle.fts_engine.specs.declared.load.ReadEntry.TheVariants.{Batch, Step}

abbrev pub batch_read : ReadBatch → IndexEntry
batch_read batch = sealed batch.through batch.synced batch.nodes.items

abbrev pub entry_read : ReadEntry → IndexEntry
entry_read (Batch batch) = batch_read batch
entry_read (Step step) = step_entry step
