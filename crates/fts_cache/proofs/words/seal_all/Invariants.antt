use Rattle.std.proofs.Common.{◌≡◌, ◌++◌}
use Rattle.fts_cache.specs.Words.{sealed_all}
use Rattle.fts_cache.proofs.words.seal_all.Given as goal

abbrev pub invariant-loop-entry : goal.invariant-loop-entry
invariant-loop-entry l = record {
  can_next : (goal.iterator-loop-entry).can_next l.entry-iterator;
  is_finite : (goal.iterator-loop-entry).is_finite l.entry-iterator;
  same : l.nodes.items ++ sealed_all l.doc l.entry-iterator.rest.items ≡ l.initial.nodes.items ++ sealed_all l.doc l.fn.lent.items;
}
