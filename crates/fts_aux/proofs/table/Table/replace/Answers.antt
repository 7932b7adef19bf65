use Rattle.std.proofs.Common.{◌≡◌, ap, ◌∙◌, List, ℕ}
use Rattle.fts_aux.specs.Table.{list_in, room_of, no_room}
use Rattle.fts_aux.proofs.Ordered.{everywhere}
use Rattle.fts_aux.proofs.table.Table.replace.Goals as goal

pub returns-clause-room : goal.returns-clause-room
returns-clause-room c = λ w.
    everywhere c.args.word.now w (λ (z : List ℕ). room_of (list_in c.replace_list.new.self z) ≡ no_room) (ap room_of c.replace_list.ensures.list)
    (λ apart. ap room_of (c.replace_list.ensures.others w apart) ∙ c.give_up_room.ensures.room w)
