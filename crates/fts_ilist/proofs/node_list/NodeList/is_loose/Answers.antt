use Rattle.std.proofs.Common.{sym, ap, ◌∙◌}
use Rattle.fts_ilist.specs.Packing.{are_loose}
use Rattle.fts_ilist.proofs.Loose.{loose_told, told_loose}
use Rattle.fts_ilist.proofs.node_list.NodeList.is_loose.Goals as goal

pub returns-clause-packs : goal.returns-clause-packs
returns-clause-packs c =
    let told = c.self.invariant.told ∙ ap (λ s. are_loose s.nodes) c.self.view_is in
    (λ yes. told_loose c.args.self.now.nodes (sym told ∙ yes), λ loose. told ∙ loose_told c.args.self.now.nodes loose)
