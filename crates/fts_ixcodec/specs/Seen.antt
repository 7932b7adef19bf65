-- What contracts see of an entry in memory.
use Rattle.fts_entries.specs.Entry.{IndexEntry}
use Rattle.fts_entries.specs.Entry.IndexEntry.{sealed, begun, worked, finished}
use Rattle.fts_ixcodec.specs.declared.entry.Entry.{Entry}
use Rattle.fts_ixcodec.specs.declared.entry.Entry.TheVariants.{Sealed, Begun, Worked, Finished}

abbrev pub seen : Entry → IndexEntry
seen (Sealed through synced nodes) = sealed through synced nodes.items
seen Begun = begun
seen (Worked word nodes) = worked word nodes.nodes
seen Finished = finished
