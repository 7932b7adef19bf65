use Rattle.std.proofs.Common.{◌++◌, length, refl, ap, subst, arith}
use Rattle.std.specs.Int.{w32, to_be_bytes}
use Rattle.fts_codec.specs.Writing.{Puts}
use Rattle.fts_codec.proofs.Puts.{left_of}
use Rattle.fts_ixcodec.proofs.Walks.{nothing_written, room_left, short_list, written_on, place_within}
use Rattle.fts_ixcodec.proofs.writing.put_lists.Goals as goal

pub loop-node-init : goal.loop-node-init
loop-node-init c = record {
  can_next = tt;
  is_finite = tt;
  writing = nothing_written c.args.nodes c.into_iter-node-iterator.result c.args.buf.now c.into_iter-node-iterator.ensures.into_iter_gives;
}

pub slice_bounds-put_list-count : goal.slice_bounds-put_list-count
slice_bounds-put_list-count c = omega (arith, place_within c.args.nodes c.loop-node.node-iterator c.args.buf.now c.loop-node.buf c.loop-node.at c.loop-node.invariant.writing c.requires.room)

pub put_list-at-requires-clause-short : goal.put_list-at-requires-clause-short
put_list-at-requires-clause-short c =
    let short = short_list c.args.nodes c.loop-node.node-iterator c.next.new.self c.in-Some.node c.in-Some.ensures.steps c.args.buf.now c.loop-node.buf c.loop-node.at c.loop-node.invariant.writing c.requires.room c.requires.short in
    omega (arith, short, ap length c.bytes.ensures.spelled)

pub put_list-at-requires-clause-room : goal.put_list-at-requires-clause-room
put_list-at-requires-clause-room c =
    rw c.bytes.ensures.spelled
    (room_left c.args.nodes c.loop-node.node-iterator c.next.new.self c.in-Some.node c.in-Some.ensures.steps c.args.buf.now c.loop-node.buf c.loop-node.at c.loop-node.invariant.writing c.requires.room)

pub loop-node-preserved : goal.loop-node-preserved
loop-node-preserved c =
    let now = c.loop-node.buf in
    let at = c.loop-node.at in
    let put = subst (λ xs. Puts (to_be_bytes w32 (length xs) ++ xs) (left_of now at) c.put_list-at.new.buf c.put_list-at.result) c.bytes.ensures.spelled c.put_list-at.ensures in
    record {
      can_next = tt;
      is_finite = tt;
      writing = written_on c.args.nodes c.loop-node.node-iterator c.next.new.self c.in-Some.node c.in-Some.ensures.steps c.args.buf.now now at c.loop-node.invariant.writing c.requires.room
          c.put_list-at.new.buf _ c.put_list-at.result put refl;
    }
