use Rattle.std.proofs.Common.{◌∙◌, List, ℕ, ap, arith, get_or, length}
use Rattle.std.proofs.lemmas.List.FromFn.{get_or-map-range_with_len, length-map-range_with_len}
use Rattle.fts_stopwords.specs.Number.{number_at, numbers}
use Rattle.fts_stopwords.proofs.number.number_at.Goals as goal

pub bounds-numbers-place : goal.bounds-numbers-place
unfolding numbers
bounds-numbers-place c = omega (arith, ap length c.numbers.ensures ∙ length-map-range_with_len number_at 0 64)

pub returns : goal.returns
unfolding numbers
returns c =
    ap (λ (ns : List ℕ). get_or ns c.args.place 0) c.numbers.ensures
    ∙ get_or-map-range_with_len number_at 0 64 c.args.place c.args.place 0 c.requires (omega arith)
