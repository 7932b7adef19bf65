use Rattle.std.proofs.Common.{◌∙◌}
use Rattle.std.proofs.lemmas.Map.Text.{is_eq-slice_cmp}
use Rattle.fts_cache.proofs.Shown.{flips}
use Rattle.fts_cache.proofs.words.forget.Goals as goal

pub returns-then-len-places : goal.returns-then-len-places
returns-then-len-places c = λ w e. c.remove.ensures.updates.2 w (is_eq-slice_cmp c.args.word.now w ∙ flips c.args.word.now w ∙ e)
