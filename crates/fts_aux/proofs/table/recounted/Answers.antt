use Rattle.std.proofs.Common.{◌≡◌, ◌+◌, arith}
use Rattle.fts_aux.specs.Table.{loose_count}
use Rattle.fts_aux.proofs.Counts.{count_most, one_came}
use Rattle.fts_aux.proofs.table.recounted.Goals as goal

pub overflow_add-loose : goal.overflow_add-loose
overflow_add-loose c =
    let es = c.args.words.now.entries in
    let count : loose_count es ≡ c.args.loose + 1 = one_came (loose_count es) c.args.loose c.args.was c.args.is c.in-false-true.is-0 c.in-false-true.is-1 c.requires in
    omega (arith, count, c.len.ensures.len, c.len.ensures.small, count_most es)

pub returns-in-false-true : goal.returns-in-false-true
returns-in-false-true c =
    let es = c.args.words.now.entries in
    let count : loose_count es ≡ c.args.loose + 1 = one_came (loose_count es) c.args.loose c.args.was c.args.is c.in-false-true.is-0 c.in-false-true.is-1 c.requires in
    omega (arith, count, c.len.ensures.len, c.min.ensures, count_most es)
