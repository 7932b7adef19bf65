use Rattle.std.proofs.Common.{◌≡◌, ◌++◌, ℕ, List, true, length}
use Rattle.std.specs.List.{list_all}
use Rattle.fts_commits.specs.Text.{is_text_byte}
use Rattle.fts_sql.specs.Token.{quoted}
use Rattle.fts_sql.proofs.token.split_text.Given as goal

-- what is passed writes a text, and the rest follows
abbrev pub invariant-loop-after : goal.invariant-loop-after
invariant-loop-after l = (text : List ℕ) × (l.fn.inner ≡ quoted text ++ l.rest) × (list_all is_text_byte text ≡ true)

abbrev pub decreases-loop-after : goal.decreases-loop-after
decreases-loop-after l = length l.rest
