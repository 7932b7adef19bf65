use Rattle.std.proofs.Common.{sym, ◌∙◌, false, []}
use Rattle.fts_aux.specs.Table.{nodes_in, is_key, no_room}
use Rattle.fts_aux.specs.Tables.{room_in}
use Rattle.fts_aux.proofs.Places.{here, other, elsewhere, changed_same}
use Rattle.fts_aux.proofs.tables.Tables.give_up_table.Goals as goal

pub invariant_of-self : goal.invariant_of-self
invariant_of-self c = changed_same c.self.inside.tables c.args.place c.index-self-place.result c.give_up_room.new.self c.self.invariant c.requires c.give_up_room.ensures.nodes

pub returns-clause-own : goal.returns-clause-own
returns-clause-own c = λ w place.
    let t = c.give_up_room.new.self in
    record {
      nodes_stay = other c.self.inside.tables c.args.self.now c.self.view_is c.self.invariant c.args.place c.requires c.index-self-place.result nodes_in [] t w (c.give_up_room.ensures.nodes w);
      room_out = here c.self.inside.tables c.args.self.now c.self.view_is c.self.invariant c.args.place c.requires c.index-self-place.result room_in no_room t w (sym place) ∙ c.give_up_room.ensures.room w;
      filled = λ k none. c.give_up_room.ensures.filled w
          (sym (here c.self.inside.tables c.args.self.now c.self.view_is c.self.invariant c.args.place c.requires c.index-self-place.result is_key false t w (sym place)) ∙ k)
          (sym (here c.self.inside.tables c.args.self.now c.self.view_is c.self.invariant c.args.place c.requires c.index-self-place.result nodes_in [] t w (sym place)) ∙ none);
    }

pub returns-clause-others : goal.returns-clause-others
returns-clause-others c = λ w apart.
    let t = c.give_up_room.new.self in
    record {
      nodes_stay = elsewhere c.self.inside.tables c.args.self.now c.self.view_is c.self.invariant c.args.place c.requires c.index-self-place.result nodes_in [] t w apart;
      room_stays = elsewhere c.self.inside.tables c.args.self.now c.self.view_is c.self.invariant c.args.place c.requires c.index-self-place.result room_in no_room t w apart;
      holds_still = elsewhere c.self.inside.tables c.args.self.now c.self.view_is c.self.invariant c.args.place c.requires c.index-self-place.result is_key false t w apart;
    }
