use Rattle.std.specs.Prelude.{◌≡◌, ℕ, ◌+◌, ◌-◌, ◌<◌, ◌≤◌, ◌⊎◌, ◌==◌, min, List, length, Option, None, Some, IsTrue}
use Rattle.std.specs.Prelude.{if◌then◌else◌}
use Rattle.fts_meaning.specs.Token.{stray_at}
use Rattle.fts_meaning.specs.Fault.{opened, closed, IsLoneOpen, IsLoneClose}

-- a byte whose fault is known from what stands before it: it is a stray one, or a `)` without its `(`
abbrev pub IsEarly : List ℕ → List ℕ → ℕ → Type 0
IsEarly query text place = IsTrue (stray_at query text place) ⊎ IsLoneClose text place

-- the answer is the first place of the kind from one place up to another, or that there is none
abbrev pub IsFirstBetween : (ℕ → Type 0) → ℕ → ℕ → Option ℕ → Type 0
IsFirstBetween Kind from to None = (i : ℕ) → from ≤ i → i < to → Kind i → ⊥
IsFirstBetween Kind from to (Some place) = (from ≤ place) × (place < to) × Kind place
    × ((i : ℕ) → from ≤ i → i < place → Kind i → ⊥)

-- how many brackets are open behind a byte
abbrev pub height_behind : ℕ → ℕ → ℕ
height_behind byte height = if byte == 40 then height + 1 else (if byte == 41 then height - 1 else height)

-- the earlier of two places
abbrev pub earlier : Option ℕ → Option ℕ → Option ℕ
earlier None other = other
earlier (Some place) None = Some place
earlier (Some place) (Some other) = Some (min place other)

-- what a scan from the end has found: how many `)` from this place on have no `(` behind it yet, and the first `(`
-- without its `)`
pub record IsSeenFrom (text : List ℕ) (place pending : ℕ) (found : Option ℕ) : Type 0 where
  pub most : (end : ℕ) → place ≤ end → end ≤ length text
      → closed text end + opened text place ≤ opened text end + closed text place + pending
  pub reached : (end : ℕ) × (place ≤ end) × (end ≤ length text)
      × (closed text end + opened text place ≡ opened text end + closed text place + pending)
  pub found_is : IsFirstBetween (IsLoneOpen text) place (length text) found
