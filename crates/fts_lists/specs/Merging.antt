-- How far a merge has come that begins at the back.
use Rattle.std.specs.Prelude.{◌≡◌, ℕ, ◌+◌, ◌≤◌, ◌||◌, true, List, length, take, drop}
use Rattle.fts_lists.specs.declared.merge.Merging.{Merging}
use Rattle.fts_ids.specs.Ids.{has, AscendFrom}

-- of the old ids so many are still in their place, so many of the new ones are still to be put, and all others
-- stand in their order from end on
pub record IsMerging (old ids held : List ℕ) (kept left end : ℕ) : Type 0 where
  pub of_old : kept ≤ length old
  pub of_ids : left ≤ length ids
  pub room : kept + left ≤ end
  pub within : end ≤ length held
  pub front : take kept held ≡ take kept old
  pub ascend : AscendFrom 0 (drop end held)
  pub old_below : (id : ℕ) → has (take kept old) id ≡ true → AscendFrom (id + 1) (drop end held)
  pub ids_below : (id : ℕ) → has (take left ids) id ≡ true → AscendFrom (id + 1) (drop end held)
  pub same : (id : ℕ) →
      (has (take kept old) id || (has (take left ids) id || has (drop end held) id)) ≡ (has old id || has ids id)

-- where a merge stood so, it stands so afterwards
abbrev pub GoesOn : List ℕ → List ℕ → Merging → List ℕ → Merging → Type 0
GoesOn ids held at held' at' =
    (old : List ℕ) → AscendFrom 0 old → AscendFrom 0 ids
    → IsMerging old ids held at.kept at.left at.end → IsMerging old ids held' at'.kept at'.left at'.end
