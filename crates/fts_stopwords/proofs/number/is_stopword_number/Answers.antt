use Rattle.std.proofs.Common.{◌∙◌, ℕ, ap}
use Rattle.std.specs.Prelude.{◌==◌}
use Rattle.fts_stopwords.proofs.Numbers.{decided_by_place}
use Rattle.fts_stopwords.proofs.number.is_stopword_number.Goals as goal

pub returns : goal.returns
returns c = ap (λ (n : ℕ). n == c.args.number) c.number_at.ensures ∙ decided_by_place c.args.number _ c.place_of.ensures.value c.place_of.ensures.within
