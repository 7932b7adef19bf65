use Rattle.std.proofs.Common.{◌≡◌, take, map}
use Rattle.fts_index.specs.declared.keyed.Occurrence.{Occurrence}
use Rattle.fts_index.proofs.document.put_positions.Given as goal

abbrev pub invariant-loop-occurrence : goal.invariant-loop-occurrence
invariant-loop-occurrence l = l.places.items ≡ map (λ (o : Occurrence). o.position) (take l.occurrence-index l.occurrences)
