use Rattle.std.proofs.Common.{[]}
use Rattle.fts_index_tests.proofs.index.lists_apples.Goals as goal

pub sync-requires : goal.sync-requires
sync-requires c = (2, [], c.in_ok-add_apples.ensures)

pub sync-requires-2 : goal.sync-requires-2
sync-requires-2 c = (2, [], c.in_ok-sync.ensures 2 [] c.in_ok-add_apples.ensures)
