-- A scan, row by row.
use Rattle.std.proofs.Common.{◌≡◌, true, false, [], ◌∷◌, refl}
use Rattle.fts_words.specs.Indexed.{Rules}
use Rattle.fts_meaning.specs.Tree.{Terms}
use Rattle.fts_meaning.specs.Holds.{list_holds}
use Rattle.fts_meaning.specs.Scan.{scan}
use Rattle.fts_types.specs.Row.{Row}

pub found_one : (rules : Rules) (row : Row) (terms : Terms) → list_holds rules row.texts terms ≡ true → scan rules (row ∷ []) terms ≡ row.doc ∷ []
found_one rules row terms holds = rw holds refl

pub found_none : (rules : Rules) (row : Row) (terms : Terms) → list_holds rules row.texts terms ≡ false → scan rules (row ∷ []) terms ≡ []
found_none rules row terms fails = rw fails refl
