use Rattle.std.proofs.Common.{◌≡◌, ◌≢◌, ◌++◌, [], All}
use Rattle.fts_ilist.proofs.packing.nodes_of.Given as goal

abbrev pub invariant-loop-list : goal.invariant-loop-list
invariant-loop-list l = record {
  can_next : (goal.iterator-loop-list).can_next l.list-iterator;
  is_finite : (goal.iterator-loop-list).is_finite l.list-iterator;
  same : l.nodes ++ l.list-iterator.rest.items ≡ l.fn.lists.items;
  filled : All (λ docs. docs ≢ []) l.list-iterator.rest.items;
}
