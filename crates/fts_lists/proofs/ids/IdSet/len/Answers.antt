use Rattle.std.proofs.Common.{ap, sym, length, ◌∙◌}
use Rattle.fts_lists.proofs.Ascending.{length-ascending}
use Rattle.fts_lists.proofs.ids.IdSet.len.Goals as goal

pub returns : goal.returns
returns c = c.len.ensures.len ∙ sym (length-ascending c.self.inside.ids.keys c.len.ensures.unique) ∙ ap (λ h. length h.ids) c.self.view_is
