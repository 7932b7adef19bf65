use Rattle.std.proofs.Common.{sym, ◌∙◌, subst}
use Rattle.fts_ilist.specs.Node.{NodesAfter}
use Rattle.fts_aux.specs.Tables.{nodes}
use Rattle.fts_aux.proofs.Places.{own_nodes}
use Rattle.fts_aux.proofs.tables.Tables.nodes_of.Goals as goal

pub returns-clause-value : goal.returns-clause-value
returns-clause-value c =
    c.nodes_of.ensures ∙ sym (own_nodes c.self.inside.tables c.args.self.now c.self.view_is c.self.invariant c.place_of_bytes.result c.place_of_bytes.ensures.few c.index-self-place_of_bytes.result c.args.word.now c.place_of_bytes.ensures.table)

pub returns-clause-ascending : goal.returns-clause-ascending
returns-clause-ascending c =
    subst (NodesAfter 0) (sym (c.nodes_of.ensures ∙ sym (own_nodes c.self.inside.tables c.args.self.now c.self.view_is c.self.invariant c.place_of_bytes.result c.place_of_bytes.ensures.few c.index-self-place_of_bytes.result c.args.word.now c.place_of_bytes.ensures.table)))
    (subst (λ h. NodesAfter 0 (nodes h c.args.word.now)) c.self.view_is (c.self.invariant.ascending c.args.word.now))
