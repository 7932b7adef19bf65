use Rattle.std.proofs.Common.{arith, ◌+◌, length, vec_len, if◌then◌else◌, ap, ◌∙◌}
use Rattle.fts_ilist.proofs.Codec.{number_fits}
use Rattle.fts_ilist.proofs.writing.put_tail.Goals as goal

pub put_in_room-requires : goal.put_in_room-requires
put_in_room-requires c = omega (arith, c.requires, number_fits c.args.increase c.ranges.increase.fits)

pub unwrap-requires : goal.unwrap-requires
unwrap-requires c = c.extend_from_slice.ensures.succeeds (omega (arith, c.requires, number_fits c.args.increase c.ranges.increase.fits, c.put_in_room.ensures.len, c.put_in_room.ensures.capacity))

pub returns-clause-len : goal.returns-clause-len
returns-clause-len c =
    let fits = number_fits c.args.increase c.ranges.increase.fits in
    let ok = c.extend_from_slice.ensures.succeeds (omega (arith, c.requires, fits, c.put_in_room.ensures.len, c.put_in_room.ensures.capacity)) in
    let len = c.extend_from_slice.ensures.len ∙ ap (λ b. if b then vec_len c.put_in_room.new.out + length c.args.tail.now else vec_len c.put_in_room.new.out) ok in
    omega (arith, fits, c.put_in_room.ensures.len, len)
