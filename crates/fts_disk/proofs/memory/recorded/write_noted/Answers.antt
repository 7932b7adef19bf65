use Rattle.std.proofs.Common.{refl}
use Rattle.std.proofs.lemmas.Result.{on_ok_weaker}
use Rattle.fts_disk.proofs.Changing.{wrote, not_written}
use Rattle.fts_disk.proofs.memory.recorded.write_noted.Goals as goal

pub returns-then-not-done-clause-noted : goal.returns-then-not-done-clause-noted
returns-then-not-done-clause-noted c =
    let noted = c.in_ok-noted.noted in
    (_, (noted, c.in_ok-noted.ensures.items_if_clones_equal (λ x y e. e), refl), c.in_ok-push.ensures.items, not_written c.args.file c.args.at noted c.args.done _ _ c.if-not-done.true refl)

pub returns-else-is_err-clause-noted : goal.returns-else-is_err-clause-noted
returns-else-is_err-clause-noted c =
    let noted = c.in_ok-noted.noted in
    let same = c.in_ok-noted.ensures.items_if_clones_equal (λ x y e. e) in
    on_ok_weaker c.overwrite_in-written.result
    (λ goes. (_, (noted, same, refl), c.in_ok-push.ensures.items, wrote c.args.file c.args.at noted c.args.bytes.now c.args.done _ _ same c.if-not-done.false goes))
    c.overwrite_in-written.ensures.written
