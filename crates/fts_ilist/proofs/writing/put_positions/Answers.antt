use Rattle.std.proofs.Common.{arith}
use Rattle.fts_ilist.proofs.Queues.{positions_at, increase_fits, one_more_written}
use Rattle.fts_ilist.proofs.writing.put_positions.Goals as goal

pub put_in_room-requires : goal.put_in_room-requires
put_in_room-requires c =
    let l = c.loop-position in
    omega (arith, increase_fits c.args.positions.now l.position-index l.next c.from.result c.loop-position-test.true l.invariant.rest c.from.ensures, l.invariant.len, l.invariant.capacity, c.requires.room)

pub loop-position-preserved : goal.loop-position-preserved
loop-position-preserved c =
    let l = c.loop-position in
    let lt = c.loop-position-test.true in
    let fits = increase_fits c.args.positions.now l.position-index l.next c.from.result lt l.invariant.rest c.from.ensures in
    record {
      rest = (positions_at c.args.positions.now l.position-index l.next lt l.invariant.rest).2;
      written = one_more_written c.args.positions.now l.position-index l.next c.from.result l.out.items c.put_in_room.new.out.items _ lt c.from.ensures c.put_in_room.ensures.items l.invariant.written;
      len = omega (arith, fits, c.put_in_room.ensures.len, l.invariant.len);
      capacity = omega (arith, c.put_in_room.ensures.capacity, l.invariant.capacity);
    }
