use Rattle.std.proofs.Common.{◌∙◌, ℕ, List, [], Bor, sym}
use Rattle.std.proofs.lemmas.List.{get_or-map}
use Rattle.fts_gen.proofs.draws.word_at.Goals as goal

pub returns : goal.returns
returns c = c.as_bytes.ensures.value ∙ sym (get_or-map (λ (b : Bor (List ℕ)). b.now) c.args.words.now c.args.number _ [] c.requires)
