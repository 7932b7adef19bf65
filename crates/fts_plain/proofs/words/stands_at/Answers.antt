use Rattle.std.proofs.Common.{◌+◌, ◌<◌, ◌≤◌, length, arith}
use Rattle.fts_plain.proofs.Joining.{stands_past}
use Rattle.fts_plain.proofs.words.stands_at.Goals as goal

pub returns-then-i-len : goal.returns-then-i-len
returns-then-i-len c =
    let all = c.args.all.now in
    let words = c.args.words.now in
    let within : c.loop-i.i < length words = omega arith in
    let past : length all ≤ c.args.place + c.loop-i.i = omega arith in
    stands_past all words c.args.place c.loop-i.i within past c.loop-i.invariant
