use Rattle.std.proofs.Common.{◌≡◌, ◌++◌}
use Rattle.fts_sessions.specs.Table.{texts_in}
use Rattle.fts_sessions.proofs.asked.texts_of.Given as goal

-- the texts so far, and then those among the rest
abbrev pub invariant-loop-value : goal.invariant-loop-value
invariant-loop-value l = record {
  can_next : (goal.iterator-loop-value).can_next l.value-iterator;
  is_finite : (goal.iterator-loop-value).is_finite l.value-iterator;
  texts : texts_in l.fn.values ≡ l.texts ++ texts_in l.value-iterator.rest.items;
}
