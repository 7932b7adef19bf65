use Rattle.std.proofs.Common.{◌≡◌, [], ◌∷◌, ◌++◌, length, sym, ap, ◌∙◌, arith, length-append}
use Rattle.fts_shared.specs.Places.{at_places, at_place}
use Rattle.fts_shared.proofs.Laying.{places_more, as_many}
use Rattle.fts_shared.proofs.joined.+place_all.Goals as goal

pub push_reserved-requires : goal.push_reserved-requires
push_reserved-requires g t c =
    let seats = c.in-Some.ensures.items in
    let works = c.in-Some-pop.ensures.items in
    let all_seats = ap length seats ∙ length-append c.pop.new.self.items (c.in-Some.seat ∷ []) in
    let all_works = ap length works ∙ length-append c.pop-2.new.self.items (c.in-Some-pop.work ∷ []) in
    let count = c.requires.count in
    let same : length c.pop.new.self.items ≡ length c.pop-2.new.self.items = omega (arith, all_seats, all_works, count) in
    let many = ap length c.place_all.ensures.places ∙ as_many c.pop.new.self.items c.pop-2.new.self.items same in
    let row = c.requires.row.1 in
    let kept = c.place_all.ensures.room.2 in
    omega (arith, many, row, kept, all_seats)

pub returns-clause-places : goal.returns-clause-places
returns-clause-places g t c =
    let seats = c.in-Some.ensures.items in
    let works = c.in-Some-pop.ensures.items in
    let all_seats = ap length seats ∙ length-append c.pop.new.self.items (c.in-Some.seat ∷ []) in
    let all_works = ap length works ∙ length-append c.pop-2.new.self.items (c.in-Some-pop.work ∷ []) in
    let count = c.requires.count in
    let same : length c.pop.new.self.items ≡ length c.pop-2.new.self.items = omega (arith, all_seats, all_works, count) in
    c.push_reserved.ensures.items
    ∙ ap (λ places. places ++ at_place {rows = g.D.Disk} {index = g.E.Disk} c.in-Some.seat c.in-Some-pop.work ∷ []) c.place_all.ensures.places
    ∙ sym (places_more c.pop.new.self.items c.pop-2.new.self.items c.in-Some.seat c.in-Some-pop.work same)
    ∙ ap (λ seats. at_places seats (c.pop-2.new.self.items ++ c.in-Some-pop.work ∷ [])) (sym seats)
    ∙ ap (at_places c.args.seats.now.items) (sym works)
