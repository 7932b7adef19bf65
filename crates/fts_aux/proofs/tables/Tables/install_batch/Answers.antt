use Rattle.std.proofs.Common.{◌≡◌, ◌++◌, ◌∷◌, refl, sym, ap, subst, ◌∙◌}
use Rattle.std.specs.List.{AllByRecursion}
use Rattle.std.proofs.lemmas.List.Elements.{recursion_from_All}
use Rattle.fts_ilist.specs.Node.{NodesAfter, last_of, nodes_for}
use Rattle.fts_aux.specs.Table.{needs, with_room, IsWithin}
use Rattle.fts_aux.specs.Tables.{nodes, room, HasRoom}
use Rattle.fts_aux.proofs.Ordered.{Ascends, ascends_from}
use Rattle.fts_aux.proofs.Rooms.{needs_first, used, used_more, here_needs}
use Rattle.fts_aux.proofs.Batches.{nodes_step, after_step, behind_of, first_parts}
use Rattle.fts_aux.proofs.tables.Tables.install_batch.Goals as goal

pub loop-rest-init : goal.loop-rest-init
loop-rest-init c = (
  λ w. refl,
  ascends_from c.args.batch.now c.requires.words,
  c.requires.room,
  recursion_from_All (λ g. NodesAfter (last_of 0 (nodes c.args.self.now g.0)) g.1) c.args.batch.now c.requires.after,
  λ w. refl,
)

pub append_word-requires-clause-room : goal.append_word-requires-clause-room
append_word-requires-clause-room c =
    let word = c.word.result.now in
    let added = c.nodes.result.now in
    let behind = behind_of c.loop-rest.rest.now in
    let whole : (word, added) ≡ c.first-item.result = ap (λ w. (w, added)) c.word.ensures ∙ ap (λ ns. (c.first-item.result.0, ns)) c.nodes.ensures in
    let parts : c.loop-rest.rest.now ≡ (word, added) ∷ behind = first_parts c.loop-rest.rest.now c.first-item.result c.in-len1-up.len_at_least c.first-item.is ∙ ap (λ g. g ∷ behind) (sym whole) in
    let has : HasRoom c.loop-rest.self ((word, added) ∷ behind) = subst (HasRoom c.loop-rest.self) parts c.loop-rest.invariant.2 in
    here_needs (room c.loop-rest.self word) word added behind (has word)

pub loop-rest-preserved : goal.loop-rest-preserved
loop-rest-preserved c =
    let word = c.word.result.now in
    let added = c.nodes.result.now in
    let behind = behind_of c.loop-rest.rest.now in
    let held = c.loop-rest.self in
    let later = c.append_word.new.self in
    let inv = c.loop-rest.invariant in
    let whole : (word, added) ≡ c.first-item.result = ap (λ w. (w, added)) c.word.ensures ∙ ap (λ ns. (c.first-item.result.0, ns)) c.nodes.ensures in
    let parts : c.loop-rest.rest.now ≡ (word, added) ∷ behind = first_parts c.loop-rest.rest.now c.first-item.result c.in-len1-up.len_at_least c.first-item.is ∙ ap (λ g. g ∷ behind) (sym whole) in
    let up : Ascends ((word, added) ∷ behind) = subst Ascends parts inv.1 in
    let has : HasRoom held ((word, added) ∷ behind) = subst (HasRoom held) parts inv.2 in
    let afters : AllByRecursion (λ g. NodesAfter (last_of 0 (nodes held g.0)) g.1) ((word, added) ∷ behind) = subst (AllByRecursion (λ g. NodesAfter (last_of 0 (nodes held g.0)) g.1)) parts inv.3 in (
      λ w. nodes_step held later word added c.append_word.ensures.nodes c.append_word.ensures.others behind w ∙ ap (λ b. nodes held w ++ nodes_for w b) (sym parts) ∙ inv.0 w,
      up.1,
      λ w. used (room held w) (room later w) _ (needs (nodes_for w behind)) (c.append_word.ensures.room w) (subst (λ r. IsWithin r (room held w)) (needs_first w word added behind) (has w)),
      after_step held later word added c.append_word.ensures.nodes c.append_word.ensures.others behind up.0 afters.1,
      λ w. used_more (room held w) (room later w) _ (needs (nodes_for w behind)) (room c.args.self.now w) (needs (nodes_for w c.args.batch.now)) (c.append_word.ensures.room w)
          (inv.4 w ∙ ap (λ b. with_room (room c.args.self.now w) (needs (nodes_for w b))) parts ∙ ap (with_room (room c.args.self.now w)) (needs_first w word added behind)),
    )
