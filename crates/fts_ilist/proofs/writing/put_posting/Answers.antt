use Rattle.std.proofs.Common.{arith}
use Rattle.fts_ilist.proofs.Codec.{id_fits}
use Rattle.fts_ilist.proofs.writing.put_posting.Goals as goal

pub put_in_room-requires : goal.put_in_room-requires
put_in_room-requires c = omega (arith, id_fits c.args.increase c.requires.limit, c.requires.room)

pub put_positions-requires-clause-room : goal.put_positions-requires-clause-room
put_positions-requires-clause-room c = omega (arith, id_fits c.args.increase c.requires.limit, c.requires.room, c.put_in_room.ensures.len, c.put_in_room.ensures.capacity)

pub push_reserved-requires : goal.push_reserved-requires
push_reserved-requires c =
    omega (arith, id_fits c.args.increase c.requires.limit, c.requires.room, c.put_in_room.ensures.len, c.put_in_room.ensures.capacity, c.put_positions.ensures.len, c.put_positions.ensures.capacity)

pub returns-clause-len : goal.returns-clause-len
returns-clause-len c = omega (arith, id_fits c.args.increase c.requires.limit, c.put_in_room.ensures.len, c.put_positions.ensures.len, c.push_reserved.ensures.len)
