use Rattle.std.proofs.Common.{[]}
use Rattle.fts_index.proofs.Made.{lent}
use Rattle.fts_index_tests.proofs.index.fill.Goals as goal

pub commit-requires : goal.commit-requires
commit-requires c = (0, [], c.requires, lent 0 4 c.in_ok-first.first.items c.deref.result.now c.deref.ensures.value c.in_ok-first.ensures)

pub commit-requires-2 : goal.commit-requires-2
commit-requires-2 c = (
  4,
  [],
  c.in_ok-commit.ensures 0 [] c.requires (lent 0 4 c.in_ok-first.first.items c.deref.result.now c.deref.ensures.value c.in_ok-first.ensures),
  lent 4 900 c.in_ok-later.later.items c.deref-2.result.now c.deref-2.ensures.value c.in_ok-later.ensures,
)
