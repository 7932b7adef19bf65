use Rattle.std.proofs.Common.{[]}
use Rattle.fts_index.proofs.Made.{lent}
use Rattle.fts_index_tests.proofs.index.add_apples.Goals as goal

pub commit-requires : goal.commit-requires
commit-requires c = (0, [], c.requires, lent 0 1 c.in_ok-first.first.items c.deref.result.now c.deref.ensures.value c.in_ok-first.ensures)

pub commit-requires-2 : goal.commit-requires-2
commit-requires-2 c = (
  1,
  [],
  c.in_ok-commit.ensures 0 [] c.requires (lent 0 1 c.in_ok-first.first.items c.deref.result.now c.deref.ensures.value c.in_ok-first.ensures),
  lent 1 2 c.in_ok-second.second.items c.deref-2.result.now c.deref-2.ensures.value c.in_ok-second.ensures,
)

pub returns : goal.returns
returns c =
    c.in_ok-commit-2.ensures 1 []
    (c.in_ok-commit.ensures 0 [] c.requires (lent 0 1 c.in_ok-first.first.items c.deref.result.now c.deref.ensures.value c.in_ok-first.ensures))
    (lent 1 2 c.in_ok-second.second.items c.deref-2.result.now c.deref-2.ensures.value c.in_ok-second.ensures)
