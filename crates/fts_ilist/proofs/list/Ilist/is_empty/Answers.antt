use Rattle.std.proofs.Common.{sym, ◌∙◌, eq-eqb}
use Rattle.std.proofs.lemmas.Bool.{eqb-true}
use Rattle.fts_ilist.proofs.Lists.{empty_from_last, last_from_empty}
use Rattle.fts_ilist.proofs.list.Ilist.is_empty.Goals as goal

pub returns : goal.returns
returns c = (
  λ t. sym c.self.view_is ∙ empty_from_last c.self.inside.last c.self.inside.bytes.items c.self.invariant.list (eqb-true _ _ t),
  λ e. eq-eqb _ _ (last_from_empty c.self.inside.last c.self.inside.bytes.items c.self.invariant.list (c.self.view_is ∙ e)),
)
