use Rattle.std.proofs.Common.{◌++◌, ◌∷◌, [], ap, sym, ◌∙◌}
use Rattle.std.proofs.lemmas.Bool.{false≢true}
use Rattle.fts_ilist.specs.Node.{Docs}
use Rattle.fts_ilist.specs.Packing.{packed}
use Rattle.fts_ilist.proofs.Packs.{packed_all, packed_none, closed_filled}
use Rattle.fts_ilist.proofs.packing.Packing.nodes.Goals as goal

pub nodes_of-requires : goal.nodes_of-requires
nodes_of-requires c = closed_filled c.self.inside.closed.items c.self.inside.begun c.self.invariant (λ none. false≢true (sym c.if-is_empty.false ∙ c.is_empty.ensures.1 none))

pub returns-then-is_empty : goal.returns-then-is_empty
returns-then-is_empty c =
    c.new.ensures ∙ sym (ap packed (sym c.self.view_is) ∙ packed_none c.self.inside.closed.items c.self.inside.begun c.self.invariant (c.is_empty.ensures.0 c.if-is_empty.true))

pub returns : goal.returns
returns c =
    c.in_ok-push.ensures.ok
    ∙ ap (λ ns. ns ++ c.new-2.result ∷ []) c.in_ok-nodes.ensures
    ∙ ap (λ (n : Docs). c.self.inside.closed.items ++ n ∷ []) c.new-2.ensures
    ∙ sym (packed_all c.self.inside.closed.items c.self.inside.begun c.self.invariant (λ none. false≢true (sym c.if-is_empty.false ∙ c.is_empty.ensures.1 none)))
    ∙ ap packed c.self.view_is
