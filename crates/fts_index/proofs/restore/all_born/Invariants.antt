use Rattle.std.proofs.Common.{◌≡◌, length}
use Rattle.std.specs.List.{list_all}
use Rattle.fts_ids.specs.Ids.{has}
use Rattle.fts_index.proofs.restore.all_born.Given as goal

abbrev pub invariant-loop-id : goal.invariant-loop-id
invariant-loop-id l = list_all (λ p. has l.births p.id) l.documents ≡ list_all (λ p. has l.births p.id) l.fn.documents

abbrev pub decreases-loop-id : goal.decreases-loop-id
decreases-loop-id l = length l.documents
