-- Changes, one after another.
use Rattle.std.proofs.Common.{◌≡◌, ℕ, ◌+◌, List, ◌∷◌, Result, Ok, ap, ◌∙◌}
use Rattle.fts_commits.specs.declared.change.Change.{Change}
use Rattle.fts_commits.specs.declared.refusal.Refusal.{Refusal}
use Rattle.fts_commits.specs.Commit.{Rows, after_change, after_changes, on_rows}

-- a change that is taken leads to the rest
pub taken : (limit number : ℕ) (change : Change) (rest : List Change) (before after : Rows) (all : Result Rows Refusal) → all ≡ after_changes limit (number + 1) (change ∷ rest) before → after_change limit (number + 1) change before ≡ Ok after → all ≡ after_changes limit (number + 1 + 1) rest after
taken limit number change rest before after all e f =
    e ∙ ap (λ (r : Result Rows Refusal). on_rows r (after_changes limit (number + 1 + 1) rest)) f
