use Rattle.std.proofs.Common.{◌≡◌, ◌∷◌, ◌++◌, ◌+◌, [], take, ap, sym, subst, ◌∙◌}
use Rattle.std.proofs.lemmas.List.{take_more, map-append}
use Rattle.std.proofs.lemmas.Slice.Zip.{all_zipped_more}
use Rattle.fts_query.specs.Seen.{leaf_seen, leaves_seen}
use Rattle.fts_index.specs.Gathered.{doc_has, AreAskedFor, AreTold}
use Rattle.fts_index.proofs.gather.told.Goals as goal

pub loop-leaf-preserved : goal.loop-leaf-preserved
loop-leaf-preserved c =
    let shown = doc_has c.args.index.now in
    let leaves = c.args.leaves.now in
    let i = c.loop-leaf.leaf-index in
    let leaf = c.leaf-item.result in
    let before = leaves_seen (take i leaves) in
    let more : leaves_seen (take (i + 1) leaves) ≡ before ++ leaf_seen leaf ∷ []
    = ap leaves_seen (take_more leaves i leaf c.loop-leaf-test.true ∙ ap (λ l. take i leaves ++ l ∷ []) (sym c.leaf-item.is)) ∙ map-append leaf_seen (take i leaves) (leaf ∷ []) in
    subst (λ asked. AreTold shown asked c.push.new.self.items) (sym more)
    (subst (AreTold shown (before ++ leaf_seen leaf ∷ [])) (sym c.in_ok-push.ensures.items)
    (all_zipped_more (AreAskedFor shown) before c.loop-leaf.lists.items (leaf_seen leaf) c.in_ok-leaf_ids.field-0 c.loop-leaf.invariant c.in_ok-leaf_ids.ensures))
