use Rattle.std.proofs.Common.{◌≡◌, ◌++◌, take}
use Rattle.std.specs.List.{All}
use Rattle.std.specs.Map.{keys_of}
use Rattle.fts_cache.specs.Words.{leaving_words, sealed_all, IsSealed}
use Rattle.fts_cache.proofs.words.all_leaving.Given as goal

abbrev pub invariant-loop-number : goal.invariant-loop-number
invariant-loop-number l = record {
  same : keys_of (l.nodes.items ++ sealed_all l.doc l.lent.items) ≡ leaving_words l.slots.slots l.doc (take l.number-index l.numbers);
  sealed : All (λ e. IsSealed l.slots.slots l.doc e.0 e.1) (l.nodes.items ++ sealed_all l.doc l.lent.items);
}
