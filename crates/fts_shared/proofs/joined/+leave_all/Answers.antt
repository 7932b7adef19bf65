use Rattle.std.proofs.Common.{◌≡◌, [], ◌∷◌, ◌++◌, length, Some, sym, ap, ◌∙◌, arith}
use Rattle.fts_shared.specs.Places.{at_places, at_place}
use Rattle.fts_shared.proofs.Laying.{places_more, is_place}
use Rattle.fts_shared.proofs.joined.+leave_all.Goals as goal

pub returns-clause-places : goal.returns-clause-places
returns-clause-places g t c =
    let left = c.leave_all.ensures in
    let many = left.count in
    let same : length c.leave_all.new.seats.items ≡ length c.leave_all.new.works.items = omega (arith, many.0, many.1) in
    let work = c.in-Some.field-0.work in
    let has : c.in-Some.field-0.seat ≡ Some c.in-Some-seat.seat = (let a = c.in-Some-seat.is in let b = c.in-Some.seat-is in cc) in
    c.in-Some.ensures.items
    ∙ ap (λ place. c.pop.new.self.items ++ place ∷ []) (is_place c.in-Some.field-0 c.in-Some-seat.seat has)
    ∙ ap (λ places. places ++ at_place {rows = g.D.Disk} {index = g.E.Disk} c.in-Some-seat.seat work ∷ []) left.places
    ∙ sym (places_more c.leave_all.new.seats.items c.leave_all.new.works.items c.in-Some-seat.seat work same)
    ∙ ap (λ seats. at_places seats (c.leave_all.new.works.items ++ work ∷ [])) (sym c.push_reserved.ensures.items)
    ∙ ap (at_places c.push_reserved.new.self.items) (sym c.push_reserved-2.ensures.items)
