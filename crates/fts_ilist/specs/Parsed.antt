-- What the reading of a whole list answers.
use Rattle.std.specs.Prelude.{◌≡◌, ℕ, List, Result, Ok, Err}
use Rattle.fts_ilist.specs.declared.list.ParseError.{ParseError}
use Rattle.fts_ilist.specs.declared.list.ParseError.TheVariants as errors
use Rattle.fts_ilist.specs.Spelling.{Posting}
use Rattle.fts_ilist.specs.Fault.{IsFirstFault}

-- the list is given, unless memory ran out
abbrev pub GivesList : List Posting → Result (List Posting) ParseError → Type 0
GivesList ps (Ok list) = list ≡ ps
GivesList ps (Err errors.NoMemory) = Unit {0}
GivesList ps (Err (errors.Bad bad)) = ⊥

-- the bytes are refused at this place, unless memory ran out
abbrev pub IsRefusedAt : ℕ → Result (List Posting) ParseError → Type 0
IsRefusedAt at (Ok list) = ⊥
IsRefusedAt at (Err errors.NoMemory) = Unit {0}
IsRefusedAt at (Err (errors.Bad bad)) = bad.at ≡ at

-- why bytes were refused
abbrev pub IsCause : List ℕ → ParseError → Type 0
IsCause bytes errors.NoMemory = Unit {0}
IsCause bytes (errors.Bad bad) = IsFirstFault bytes bad.at
