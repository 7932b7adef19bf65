use Rattle.std.proofs.Common.{List, ℕ, [], ◌^◌, refl, subst}
use Rattle.fts_codec.specs.Writing.{Puts}
use Rattle.fts_ilist.specs.Node.{Docs}
use Rattle.fts_codec.proofs.Puts.{left_of, next_room, next_put, piece_short}
use Rattle.fts_ixcodec.specs.Payload.{nodes_payload}
use Rattle.fts_ixcodec.proofs.writing.put_batch.Goals as goal

pub put_nodes-at-requires-clause-short : goal.put_nodes-at-requires-clause-short
put_nodes-at-requires-clause-short c = rw c.group-item.is (piece_short nodes_payload c.args.nodes.now c.loop-group.group-index _ (2 ^ 32) c.loop-group-test.true c.requires.short)

pub put_nodes-at-requires-clause-room : goal.put_nodes-at-requires-clause-room
put_nodes-at-requires-clause-room c =
    rw c.group-item.is (next_room nodes_payload c.args.nodes.now [] c.args.buf.now c.loop-group.buf c.loop-group.group-index c.loop-group.at _ c.loop-group-test.true c.requires.room c.loop-group.invariant)

pub loop-group-preserved : goal.loop-group-preserved
loop-group-preserved c =
    next_put nodes_payload c.args.nodes.now [] c.args.buf.now c.loop-group.buf c.loop-group.group-index c.loop-group.at _ c.loop-group-test.true c.requires.room c.loop-group.invariant
    c.put_nodes-at.new.buf _ c.put_nodes-at.result (subst (λ (g : List ℕ × List Docs). Puts (nodes_payload g) (left_of c.loop-group.buf c.loop-group.at) c.put_nodes-at.new.buf c.put_nodes-at.result) c.group-item.is c.put_nodes-at.ensures) refl
