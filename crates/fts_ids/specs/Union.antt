-- How far a union has come.
use Rattle.std.specs.Prelude.{◌≡◌, ℕ, ◌+◌, true, ◌||◌, List}
use Rattle.fts_ids.specs.Ids.{has, AscendFrom}

-- what is written ascends up to below what is left of two lists, and all three have the ids of both
pub record IsUniting (a b written left right : List ℕ) : Type 0 where
  pub ascend : AscendFrom 0 written
  pub left_ascends : AscendFrom 0 left
  pub right_ascends : AscendFrom 0 right
  pub left_above : (id : ℕ) → has written id ≡ true → AscendFrom (id + 1) left
  pub right_above : (id : ℕ) → has written id ≡ true → AscendFrom (id + 1) right
  pub same : (id : ℕ) → (has written id || (has left id || has right id)) ≡ (has a id || has b id)
