use Rattle.std.proofs.Common.{◌≡◌, ◌∷◌, ◌++◌, [], false, true, sym, ap, ◌∙◌}
use Rattle.fts_ilist.specs.Packing.{are_loose, is_sound}
use Rattle.fts_ilist.specs.NodeList.{nodes_at}
use Rattle.fts_ilist.proofs.Runs.{nodes_count, ends_of}
use Rattle.fts_ilist.proofs.Loose.{loose_more, loose_unsound, loose_sound}
use Rattle.fts_ilist.proofs.node_list.NodeList.is_loose_with.Goals as goal

pub returns-then-self : goal.returns-then-self
returns-then-self c =
    let told = c.self.invariant.told ∙ ap (λ s. are_loose s.nodes) c.self.view_is in
    sym (loose_more c.args.self.now.nodes (c.args.node.now ∷ []) (sym told ∙ c.if-self.true))

pub returns-then-not-is_sound : goal.returns-then-not-is_sound
returns-then-not-is_sound c = sym (loose_unsound c.args.self.now.nodes c.args.node.now (sym c.is_sound.ensures ∙ c.if-not-is_sound.true))

pub returns : goal.returns
returns c =
    let i = c.self.inside in
    let held = nodes_at i.count i.run.items in
    let last = ends_of held i.last i.size (λ none. c.if-self-eq0.false (sym (nodes_count i.count i.run.items) ∙ none)) c.self.invariant.last_is c.self.invariant.size_is in
    let tight : are_loose held ≡ false = sym c.self.invariant.told ∙ c.if-self.false in
    let sound : is_sound c.args.node.now ≡ true = sym c.is_sound.ensures ∙ c.if-not-is_sound.false in
    c.takes_next.ensures last.node last.size_is last.last_is
    ∙ sym (loose_sound held last.node c.args.node.now last.is_last tight sound)
    ∙ ap (λ s. are_loose (s.nodes ++ c.args.node.now ∷ [])) c.self.view_is
