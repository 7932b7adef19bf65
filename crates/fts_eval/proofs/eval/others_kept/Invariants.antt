use Rattle.std.proofs.Common.{◌≡◌, ◌&&◌, ℕ, map, take}
use Rattle.fts_ids.specs.Ids.{has}
use Rattle.fts_query.specs.Seen.{candidate_seen}
use Rattle.fts_eval.specs.Found.{ids_of}
use Rattle.fts_eval.specs.Says.{each_says}
use Rattle.fts_eval.proofs.eval.others_kept.Given as goal

abbrev pub invariant-loop-place : goal.invariant-loop-place
invariant-loop-place l = (id : ℕ) → has (ids_of l.left) id ≡ (has (ids_of l.initial.left) id && each_says (map candidate_seen l.texts) (take l.place l.parts) id)
