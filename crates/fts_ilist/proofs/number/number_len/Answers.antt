use Rattle.std.proofs.Common.{arith, ◌≡◌, ap, length}
use Rattle.fts_ilist.proofs.Groups.{all_groups, length_number, length_all_groups, length_no_groups}
use Rattle.fts_ilist.proofs.Codec.{number_fits}
use Rattle.fts_ilist.proofs.number.number_len.Goals as goal

pub loop-rest-init : goal.loop-rest-init
loop-rest-init c = omega (arith, length_number c.args.n)

pub overflow_add-len : goal.overflow_add-len
overflow_add-len c = omega (arith, c.loop-rest.invariant, number_fits c.args.n c.ranges.n.fits)

pub loop-rest-preserved : goal.loop-rest-preserved
loop-rest-preserved c = omega (arith, c.loop-rest.invariant, length_all_groups c.loop-rest.rest c.loop-rest-test.true)

pub returns-clause-length : goal.returns-clause-length
returns-clause-length c =
    let none : c.loop-rest.rest ≡ 0 = omega arith in
    omega (arith, c.loop-rest.invariant, ap (λ w. length (all_groups w)) none, length_no_groups)

pub returns-clause-room : goal.returns-clause-room
returns-clause-room c = omega (arith, c.loop-rest.invariant, number_fits c.args.n c.ranges.n.fits)
