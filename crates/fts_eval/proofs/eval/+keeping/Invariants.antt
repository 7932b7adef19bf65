use Rattle.std.proofs.Common.{◌≡◌, ◌&&◌, not, ℕ, map, take}
use Rattle.fts_ids.specs.Ids.{has}
use Rattle.fts_query.specs.Seen.{candidate_seen}
use Rattle.fts_eval.specs.Found.{ids_of, some_has}
use Rattle.fts_eval.specs.Says.{each_says, some_says}
use Rattle.fts_eval.proofs.eval.+keeping.Given as goal

abbrev pub invariant-any_kept-loop-part : goal.invariant-any_kept-loop-part
invariant-any_kept-loop-part l = (id : ℕ) → some_has l.lists.items id ≡ (has l.ids id && some_says (map candidate_seen l.texts) (take l.part-index l.parts) id)

abbrev pub invariant-each_kept-loop-part : goal.invariant-each_kept-loop-part
invariant-each_kept-loop-part l = (id : ℕ) → has (ids_of l.left) id ≡ (has (ids_of l.initial.left) id && each_says (map candidate_seen l.texts) (take l.part-index l.parts) id)

abbrev pub invariant-left-loop-part : goal.invariant-left-loop-part
invariant-left-loop-part l = (id : ℕ) → has (ids_of l.left) id ≡ (has (ids_of l.initial.left) id && not (some_says (map candidate_seen l.texts) (take l.part-index l.parts) id))
