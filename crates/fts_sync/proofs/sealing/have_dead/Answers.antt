use Rattle.std.proofs.Common.{◌∷◌, ap, drop, sym, ◌+◌, ◌∙◌}
use Rattle.std.proofs.lemmas.List.{drop_more}
use Rattle.fts_lists.specs.State.{ids_of}
use Rattle.fts_lists.specs.declared.lists.DeleteList.TheVariants.{DeletedCache}
use Rattle.fts_sync.specs.Leaving.{some_dead}
use Rattle.fts_sync.proofs.Until.{node_dead, node_alive}
use Rattle.fts_sync.proofs.sealing.have_dead.Goals as goal

pub returns-then-has_dead : goal.returns-then-has_dead
returns-then-has_dead c =
    let dead = ids_of DeletedCache c.args.lists.now in
    let nodes = c.args.nodes.now in
    let i = c.loop-node.node-index in
    let node = c.node-item.result in
    node_dead dead nodes (drop i nodes) node (drop (i + 1) nodes) c.loop-node.invariant
    (drop_more nodes i node c.loop-node-test.true ∙ ap (λ n. n ∷ drop (i + 1) nodes) (sym c.node-item.is))
    (sym c.if-has_dead.true ∙ c.has_dead.ensures ∙ ap (some_dead dead) c.cursor.ensures.documents)

pub loop-node-preserved : goal.loop-node-preserved
loop-node-preserved c =
    let dead = ids_of DeletedCache c.args.lists.now in
    let nodes = c.args.nodes.now in
    let i = c.loop-node.node-index in
    let node = c.node-item.result in
    node_alive dead nodes (drop i nodes) node (drop (i + 1) nodes) c.loop-node.invariant
    (drop_more nodes i node c.loop-node-test.true ∙ ap (λ n. n ∷ drop (i + 1) nodes) (sym c.node-item.is))
    (sym c.if-has_dead.false ∙ c.has_dead.ensures ∙ ap (some_dead dead) c.cursor.ensures.documents)
