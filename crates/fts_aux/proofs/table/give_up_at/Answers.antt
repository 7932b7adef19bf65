use Rattle.fts_aux.proofs.Finds.{give_up_keys, give_up_are, give_up_lists, give_up_none}
use Rattle.fts_aux.proofs.table.give_up_at.Goals as goal

pub returns-in-Some-clause-keys : goal.returns-in-Some-clause-keys
returns-in-Some-clause-keys c = give_up_keys c.args.number c.args.words.now.entries c.give_up_room.new.self

pub returns-in-Some-clause-lists : goal.returns-in-Some-clause-lists
returns-in-Some-clause-lists c =
    give_up_lists c.args.number c.args.words.now.entries c.in-Some.list.now c.give_up_room.new.self c.in-Some.ensures.unique c.in-Some.ensures.value c.give_up_room.ensures

pub returns-in-Some-clause-are : goal.returns-in-Some-clause-are
returns-in-Some-clause-are c = give_up_are c.args.number c.args.words.now.entries c.give_up_room.new.self

pub returns-in_default-clause-lists : goal.returns-in_default-clause-lists
returns-in_default-clause-lists c = give_up_none c.args.number c.args.words.now.entries c.in_default.ensures.value
