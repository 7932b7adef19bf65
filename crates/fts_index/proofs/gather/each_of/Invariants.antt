use Rattle.std.proofs.Common.{◌≡◌, ◌∷◌, ℕ, take, map}
use Rattle.fts_ids.specs.Ids.{has, Ascend}
use Rattle.fts_index.specs.Gathered.{doc_has, doc_has_words}
use Rattle.fts_index.proofs.gather.each_of.Given as goal

abbrev pub invariant-loop-word : goal.invariant-loop-word
invariant-loop-word l = record {
  ascend : Ascend l.ids;
  each : (id : ℕ) → has l.ids id ≡ doc_has_words (doc_has l.index) id (l.first ∷ map (λ w. w.items) (take l.word-index l.others));
}
