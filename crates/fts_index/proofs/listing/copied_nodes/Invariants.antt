use Rattle.std.proofs.Common.{◌≡◌, ◌≢◌, ◌++◌, []}
use Rattle.std.specs.List.{AllByRecursion}
use Rattle.fts_index.proofs.listing.copied_nodes.Given as goal

abbrev pub invariant-loop-node : goal.invariant-loop-node
invariant-loop-node l = record {
  can_next : (goal.iterator-loop-node).can_next l.node-iterator;
  is_finite : (goal.iterator-loop-node).is_finite l.node-iterator;
  same : l.copied ++ l.node-iterator ≡ l.fn.nodes;
  filled : AllByRecursion (λ docs. docs ≢ []) l.node-iterator;
}
