use Rattle.std.proofs.Common.{List, ℕ, [], refl, subst, ◌^◌}
use Rattle.fts_codec.specs.Writing.{Puts}
use Rattle.fts_codec.proofs.Puts.{left_of, next_room, next_put, piece_short}
use Rattle.fts_ilist.specs.Node.{Docs}
use Rattle.fts_ixcodec.specs.Payload.{node_payload}
use Rattle.fts_ixcodec.proofs.Walks.{nodes_less, nodes_item}
use Rattle.fts_ixcodec.proofs.writing.put_nodes.Goals as goal

pub put_node-at-requires-clause-short : goal.put_node-at-requires-clause-short
put_node-at-requires-clause-short c =
    let nodes = c.args.group.now.1 in
    let i = c.loop-node.node-index in
    let less = nodes_less nodes c.nodes-node-items.result.now i c.loop-node.invariant.items c.loop-node-test.true in
    let item = nodes_item nodes c.nodes-node-items.result.now i c.node-item.result _ c.loop-node.invariant.items c.node-item.is in
    rw (c.loop-node.invariant.word, item) (piece_short (node_payload c.args.group.now.0) nodes i _ (2 ^ 32) less c.requires.short)

pub put_node-at-requires-clause-room : goal.put_node-at-requires-clause-room
put_node-at-requires-clause-room c =
    let nodes = c.args.group.now.1 in
    let i = c.loop-node.node-index in
    let less = nodes_less nodes c.nodes-node-items.result.now i c.loop-node.invariant.items c.loop-node-test.true in
    let item = nodes_item nodes c.nodes-node-items.result.now i c.node-item.result _ c.loop-node.invariant.items c.node-item.is in
    rw (c.loop-node.invariant.word, item) (next_room (node_payload c.args.group.now.0) nodes [] c.args.buf.now c.loop-node.buf i c.loop-node.at _ less c.requires.room c.loop-node.invariant.put)

pub loop-node-preserved : goal.loop-node-preserved
loop-node-preserved c =
    let nodes = c.args.group.now.1 in
    let word = c.args.group.now.0 in
    let i = c.loop-node.node-index in
    let less = nodes_less nodes c.nodes-node-items.result.now i c.loop-node.invariant.items c.loop-node-test.true in
    let item = nodes_item nodes c.nodes-node-items.result.now i c.node-item.result _ c.loop-node.invariant.items c.node-item.is in
    record {
      items = c.loop-node.invariant.items;
      word = c.loop-node.invariant.word;
      put = next_put (node_payload word) nodes [] c.args.buf.now c.loop-node.buf i c.loop-node.at _ less c.requires.room c.loop-node.invariant.put
          c.put_node-at.new.buf _ c.put_node-at.result (subst (λ (n : Docs). Puts (node_payload word n) (left_of c.loop-node.buf c.loop-node.at) c.put_node-at.new.buf c.put_node-at.result) item
          (subst (λ (w : List ℕ). Puts (node_payload w c.node-item.result) (left_of c.loop-node.buf c.loop-node.at) c.put_node-at.new.buf c.put_node-at.result) c.loop-node.invariant.word c.put_node-at.ensures)) refl;
    }
