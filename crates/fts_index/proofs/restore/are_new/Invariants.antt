use Rattle.std.proofs.Common.{◌≡◌, length}
use Rattle.std.specs.List.{list_all}
use Rattle.fts_ids.specs.Ids.{has}
use Rattle.fts_index.specs.Restore.{is_new}
use Rattle.fts_index.proofs.restore.are_new.Given as goal

abbrev pub invariant-loop-rest : goal.invariant-loop-rest
invariant-loop-rest l = list_all (is_new (has l.births)) l.rest ≡ list_all (is_new (has l.births)) l.fn.nodes

abbrev pub decreases-loop-rest : goal.decreases-loop-rest
decreases-loop-rest l = length l.rest
