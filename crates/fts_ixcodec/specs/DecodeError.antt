-- What decoding answers.
use Rattle.std.specs.Prelude.{◌≡◌, ℕ, ◌≤◌, List, length, Result, Ok, Err}
use Rattle.fts_words.specs.Indexed.{Rules}
use Rattle.fts_entries.specs.Entry.{IndexEntry}
use Rattle.fts_ixcodec.specs.Grammar.{IsEntryFault}
use Rattle.fts_ixcodec.specs.Seen.{seen}
use Rattle.fts_ixcodec.specs.declared.entry.Entry.{Entry}
use Rattle.fts_ixcodec.specs.declared.error.DecodeError.{DecodeError}
use Rattle.fts_ixcodec.specs.declared.error.DecodeError.TheVariants.{NoMemory, Bad}

-- the entry is given, unless memory ran out
abbrev pub GivesEntry : IndexEntry → Result Entry DecodeError → Type 0
GivesEntry entry (Ok given) = seen given ≡ entry
GivesEntry entry (Err NoMemory) = Unit {0}
GivesEntry entry (Err (Bad at)) = ⊥

-- why bytes are refused: memory ran out, or the first field that can't stand there begins at this place
abbrev pub IsCause : Rules → List ℕ → DecodeError → Type 0
IsCause rules bytes NoMemory = Unit {0}
IsCause rules bytes (Bad at) = (at ≤ length bytes) × IsEntryFault rules bytes at
