use Rattle.fts_aux.proofs.Kept.{table_appended, none_before, room_before}
use Rattle.fts_aux.proofs.table.Table.append.Goals as goal

pub drop_filled-requires : goal.drop_filled-requires
drop_filled-requires c =
    let es = c.self.inside.words.entries in
    let new = c.append_to.new.words.entries in
    (table_appended es new c.self.inside.order c.self.inside.kept c.self.inside.notes.items c.args.word.now c.self.inside.loose c.self.invariant c.append_to.ensures.keys c.append_to.ensures.are c.append_to.ensures.others
    (none_before _ _ c.args.nodes.now c.append_to.ensures.takes) c.append_to.new.loose c.append_to.ensures.loose (room_before _ _ c.args.nodes.now c.append_to.ensures.takes)).noted

pub invariant_of-self : goal.invariant_of-self
invariant_of-self c =
    let es = c.self.inside.words.entries in
    let new = c.append_to.new.words.entries in
    let is = table_appended es new c.self.inside.order c.self.inside.kept c.self.inside.notes.items c.args.word.now c.self.inside.loose c.self.invariant c.append_to.ensures.keys c.append_to.ensures.are c.append_to.ensures.others
    (none_before _ _ c.args.nodes.now c.append_to.ensures.takes) c.append_to.new.loose c.append_to.ensures.loose (room_before _ _ c.args.nodes.now c.append_to.ensures.takes) in
    record {
      counted = is.counted;
      listed = is.listed;
      filled = is.filled;
      within = is.within;
      noted = c.drop_filled.ensures;
    }
