use Rattle.std.proofs.Common.{◌≡◌, ℕ, map, take}
use Rattle.fts_query.specs.Seen.{candidate_seen}
use Rattle.fts_eval.specs.Found.{some_has}
use Rattle.fts_eval.specs.Says.{some_says}
use Rattle.fts_eval.proofs.eval.+finding.Given as goal

abbrev pub invariant-any_found-loop-part : goal.invariant-any_found-loop-part
invariant-any_found-loop-part l = (id : ℕ) → some_has l.lists.items id ≡ some_says (map candidate_seen l.texts) (take l.part-index l.parts) id
