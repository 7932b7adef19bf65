use Rattle.std.proofs.Common.{◌-◌, ◌+◌, arith}
use Rattle.fts_lists.proofs.Merging.{moved, put, passed, all_less, none_less, at_places}
use Rattle.fts_lists.proofs.merge.merge_next.Goals as goal
use Rattle.fts_lists.proofs.merge.merge_next.Goals.{then-at-eq0-via-then-at-eq0, then-at-eq0-via-else-at-eq0+then-held-at}

pub returns-then-at-eq0-clause-merging : goal.returns-then-at-eq0-clause-merging
returns-then-at-eq0-clause-merging c = λ old up ids_up m.
    let ids = c.args.ids.now in
    let h = c.args.held.now in
    let at = c.args.at in
    put old ids h at.kept (at.left - 1) (at.end - 1) up ids_up
    (at_places old ids h at.kept at.left at.end at.kept (at.left - 1 + 1) (at.end - 1 + 1) m (omega arith) (omega arith) (omega arith))
    (elim c.then-at-eq0.branch [
      | then-at-eq0-via-then-at-eq0 w ↦ none_less old at.kept _ w.if-at-eq0.true
      | then-at-eq0-via-else-at-eq0+then-held-at w ↦ all_less old ids h at.kept at.left at.end up m _ (omega arith) w.if-held-at.true
    ])

pub returns-then-last-next-clause-merging : goal.returns-then-last-next-clause-merging
returns-then-last-next-clause-merging c = λ old up ids_up m.
    let ids = c.args.ids.now in
    let h = c.args.held.now in
    let at = c.args.at in
    at_places old ids h (at.kept - 1 + 1) (at.left - 1) at.end at.kept (at.left - 1) at.end
    (passed old ids h (at.kept - 1) (at.left - 1) at.end
    (at_places old ids h at.kept at.left at.end (at.kept - 1 + 1) (at.left - 1 + 1) at.end m (omega arith) (omega arith) (omega arith))
    c.if-last-next.true)
    (omega arith) (omega arith) (omega arith)

pub returns-clause-merging : goal.returns-clause-merging
returns-clause-merging c = λ old up ids_up m.
    let ids = c.args.ids.now in
    let h = c.args.held.now in
    let at = c.args.at in
    moved old ids h (at.kept - 1) at.left (at.end - 1) up ids_up
    (at_places old ids h at.kept at.left at.end (at.kept - 1 + 1) at.left (at.end - 1 + 1) m (omega arith) (omega arith) (omega arith))
    c.requires.some
    (omega (arith, c.if-held-at.false, c.if-last-next.false))
