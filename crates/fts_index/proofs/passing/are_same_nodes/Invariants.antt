use Rattle.std.proofs.Common.{◌≡◌, ◌↔◌, List}
use Rattle.fts_ilist.specs.Node.{Docs}
use Rattle.fts_index.proofs.passing.are_same_nodes.Given as goal

abbrev pub invariant-loop-node : goal.invariant-loop-node
invariant-loop-node l = record {
  can_next : (goal.iterator-loop-node).can_next l.nodes;
  is_finite : (goal.iterator-loop-node).is_finite l.nodes;
  same : (◌≡◌ {A = List Docs} l.nodes l.others) ↔ (◌≡◌ {A = List Docs} l.fn.nodes l.fn.others);
}
