use Rattle.std.proofs.Common.{◌≡◌, ◌++◌}
use Rattle.std.specs.List.{All}
use Rattle.std.specs.Map.{keys_of}
use Rattle.fts_sync.specs.Leaving.{filled_words, leaving_nodes, IsMade}
use Rattle.fts_sync.proofs.sealing.all_alive.Given as goal

abbrev pub invariant-loop-word : goal.invariant-loop-word
invariant-loop-word l = record {
  can_next : (goal.iterator-loop-word).can_next l.word-iterator;
  is_finite : (goal.iterator-loop-word).is_finite l.word-iterator;
  same : l.nodes.items ++ filled_words (leaving_nodes l.cache l.doc l.lists) (keys_of l.word-iterator.rest.items) ≡ filled_words (leaving_nodes l.cache l.doc l.lists) (keys_of l.fn.words.items);
  made : All (λ e. IsMade l.cache l.doc e.0 e.1) l.word-iterator.rest.items;
}
