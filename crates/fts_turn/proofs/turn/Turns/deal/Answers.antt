use Rattle.std.proofs.Common.{◌≡◌, ◌∙◌, ◌<◌, suc, length, length-append, sym, ap, subst, rules, arith}
use Rattle.fts_turn.specs.Promises.{seats_of, IsUnused, IsSeat, IsMaker, Numbered}
use Rattle.fts_turn.proofs.Seats.{Numbered-push, may_split, seat_after, unused_after, maker_after, last_is_seat}
use Rattle.fts_turn.proofs.turn.Turns.deal.Goals as goal

pub split_seat-inside-requires : goal.split_seat-inside-requires
split_seat-inside-requires g c =
    let t = g.T.Historied in
    let i = c.loop.invariant in
    (i.maker.rest.at.table, search rules, may_split c.args.self.now _ c.loop.last i.maker t.stands_for t.at_first t.by (omega arith) c.requires.limit)

pub loop-preserved : goal.loop-preserved
loop-preserved g c =
    let i = c.loop.invariant in
    let turn = c.args.self.now in
    let split = c.split_seat-inside.ensures in
    let more : suc (length c.loop.all.items) < seats_of turn = omega arith in
    let items = c.append.ensures.items in
    let longer : length c.append.new.all.items ≡ suc (length c.loop.all.items) = ap length items ∙ length-append c.loop.all.items _ ∙ omega arith in
    record {
      count = omega arith;
      within = omega arith;
      maker = subst (λ n. IsMaker turn n record { inside = c.split_seat-inside.result }) (sym longer) (maker_after turn _ c.loop.last i.maker record { inside = c.split_seat-inside.result } more c.requires.limit split.3 split.4);
      seats = subst (Numbered (IsSeat turn) 0) (sym items) (Numbered-push (IsSeat turn) _ _ i.seats (seat_after turn _ c.loop.last i.maker record { inside = c.split_seat-inside.new.seat } more split.0 split.2));
      unused = subst (Numbered (λ number seat. IsUnused seat) 0) (sym items) (Numbered-push (λ number seat. IsUnused seat) _ _ i.unused (unused_after turn _ c.loop.last i.maker record { inside = c.split_seat-inside.new.seat } split.2));
      room = omega (arith, c.append.ensures.room);
    }

pub returns-clause-seats : goal.returns-clause-seats
returns-clause-seats g c =
    let i = c.loop.invariant in
    let turn = c.args.self.now in
    subst (Numbered (IsSeat turn) 0) (sym c.append-2.ensures.items) (Numbered-push (IsSeat turn) _ _ i.seats (last_is_seat turn _ c.loop.last i.maker (omega arith)))

pub returns-clause-unused : goal.returns-clause-unused
returns-clause-unused g c =
    let i = c.loop.invariant in
    subst (Numbered (λ number seat. IsUnused seat) 0) (sym c.append-2.ensures.items) (Numbered-push (λ number seat. IsUnused seat) _ _ i.unused i.maker.unused)
