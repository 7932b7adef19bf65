use Rattle.std.proofs.Common.{◌+◌, length, vec_len, if◌then◌else◌, ap, ◌∙◌, arith}
use Rattle.fts_ilist.proofs.Codec.{short_fits}
use Rattle.fts_ilist.proofs.node_list.put_node.Goals as goal

pub put_in_room-requires : goal.put_in_room-requires
put_in_room-requires c = omega (arith, short_fits (length c.args.bytes.now) c.requires.size, c.requires.room)

pub put_in_room-requires-2 : goal.put_in_room-requires-2
put_in_room-requires-2 c =
    omega (
      arith,
      short_fits (length c.args.bytes.now) c.requires.size,
      short_fits c.args.count c.requires.count,
      c.put_in_room.ensures.len,
      c.put_in_room.ensures.capacity,
      c.requires.room,
    )

pub unwrap-requires : goal.unwrap-requires
unwrap-requires c =
    c.extend_from_slice.ensures.succeeds
    (omega (
      arith,
      short_fits (length c.args.bytes.now) c.requires.size,
      short_fits c.args.count c.requires.count,
      c.put_in_room.ensures.len,
      c.put_in_room.ensures.capacity,
      c.put_in_room-2.ensures.len,
      c.put_in_room-2.ensures.capacity,
      c.requires.room,
    ))

pub returns-clause-len : goal.returns-clause-len
returns-clause-len c =
    let size = short_fits (length c.args.bytes.now) c.requires.size in
    let count = short_fits c.args.count c.requires.count in
    let ok = c.extend_from_slice.ensures.succeeds
    (omega (arith, size, count, c.put_in_room.ensures.len, c.put_in_room.ensures.capacity, c.put_in_room-2.ensures.len, c.put_in_room-2.ensures.capacity, c.requires.room)) in
    let out = vec_len c.put_in_room-2.new.out in
    let len = c.extend_from_slice.ensures.len ∙ ap (λ b. if b then out + length c.args.bytes.now else out) ok in
    omega (arith, size, count, c.put_in_room.ensures.len, c.put_in_room-2.ensures.len, len)
