use Rattle.std.proofs.Common.{◌≡◌, ap, ◌∙◌, arith}
use Rattle.std.proofs.lemmas.Bool.{lt-ltb, ltb-true}
use Rattle.fts_aux.specs.Table.{loose_count}
use Rattle.fts_aux.proofs.Counts.{has_some, some_has}
use Rattle.fts_aux.proofs.table.Table.has_loose.Goals as goal

pub returns : goal.returns
returns c =
    let counted : c.self.inside.loose ≡ loose_count c.args.self.now = c.self.invariant.counted ∙ ap loose_count c.self.view_is in (
      λ yes. has_some c.args.self.now (omega (arith, ltb-true 0 c.self.inside.loose yes, counted)),
      λ has. lt-ltb 0 c.self.inside.loose (omega (arith, some_has c.args.self.now has, counted)),
    )
