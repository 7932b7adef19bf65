use Rattle.std.proofs.Common.{◌≡◌, ◌∙◌, Some, None, sym, subst}
use Rattle.fts_turn.specs.Promises.{HasWholeHistory}
use Rattle.fts_turn.proofs.Closing.{ends, same_at}
use Rattle.fts_turn.proofs.turn.Turns.close.Goals as goal

pub unreachable-requires : goal.unreachable-requires
unreachable-requires g c =
    let t = g.T.Historied in
    let last = c.close_with-closed.ensures.values.2 in
    let end = ends t.stands_for t.at_first t.by c.args.self c.args.seats.items c.gather-all.result c.requires.count c.args.self.some c.gather-all.ensures last.0 last.1.0 last.1.1 in
    let found : c.take-value.result ≡ Some end.0 = same_at _ _ _ c.take-value.ensures.value (last.4 0 (Some end.0) end.1) in
    let none = c.in-None.is in
    let both : None ≡ Some end.0 = sym none ∙ found in
    cc

pub returns : goal.returns
returns g c =
    let t = g.T.Historied in
    let last = c.close_with-closed.ensures.values.2 in
    let end = ends t.stands_for t.at_first t.by c.args.self c.args.seats.items c.gather-all.result c.requires.count c.args.self.some c.gather-all.ensures last.0 last.1.0 last.1.1 in
    let found : c.take-value.result ≡ Some end.0 = same_at _ _ _ c.take-value.ensures.value (last.4 0 (Some end.0) end.1) in
    let both : Some c.in-Some.value ≡ Some end.0 = sym c.in-Some.is ∙ found in
    let same : c.in-Some.value ≡ end.0 = cc in
    subst (HasWholeHistory t.stands_for t.by c.args.self c.args.seats.items) (sym same) end.2
