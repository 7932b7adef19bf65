-- What decoding answers where it gives no value.
use Rattle.std.specs.Prelude.{ℕ, ◌≤◌, List, ◌++◌, length, codes, decimal}
use Rattle.fts_rowcodec.specs.Grammar.{IsCommitFault, IsSettingsFault}
use Rattle.fts_rowcodec.specs.declared.error.DecodeError.{DecodeError}
use Rattle.fts_rowcodec.specs.declared.error.DecodeError.TheVariants.{NoMemory, Bad}

-- what is printed of an error
abbrev pub message : DecodeError → List ℕ
message NoMemory = codes "no memory"
message (Bad at) = codes "bad payload at byte " ++ decimal at

-- why bytes are no commit of rows of so many columns: memory ran out, or the first field that can't stand there begins
-- at this place
abbrev pub IsCause : ℕ → List ℕ → DecodeError → Type 0
IsCause columns bytes NoMemory = Unit {0}
IsCause columns bytes (Bad at) = (at ≤ length bytes) × IsCommitFault columns bytes at

-- why bytes are no settings, in the same way
abbrev pub IsSettingsCause : List ℕ → DecodeError → Type 0
IsSettingsCause bytes NoMemory = Unit {0}
IsSettingsCause bytes (Bad at) = (at ≤ length bytes) × IsSettingsFault bytes at
