use Rattle.std.proofs.Common.{◌++◌, sym, ap, subst, ◌∙◌, [], set, List}
use Rattle.fts_ilist.specs.Node.{Docs, NodesAfter, last_of}
use Rattle.fts_ilist.specs.NodeList.{NodeState}
use Rattle.fts_aux.specs.Table.{nodes_in, no_room, with_room, needs, IsWithin, room_of}
use Rattle.fts_aux.specs.Tables.{room_in, room}
use Rattle.fts_aux.proofs.Rooms.{uses_by, room_used}
use Rattle.fts_aux.proofs.Places.{own, here, other, own_nodes, own_after, changed, NodesAfter-append}
use Rattle.fts_aux.proofs.tables.Tables.append_word.Goals as goal

pub append-requires : goal.append-requires
append-requires c = subst (IsWithin (needs c.args.added.now)) (own c.self.inside.tables c.args.self.now c.self.view_is c.self.invariant c.place_of_bytes.result c.place_of_bytes.ensures.few c.index-self-place_of_bytes.result room_in no_room c.args.word.now c.place_of_bytes.ensures.table) c.requires.room

pub invariant_of-self : goal.invariant_of-self
invariant_of-self c =
    let mine = own_nodes c.self.inside.tables c.args.self.now c.self.view_is c.self.invariant c.place_of_bytes.result c.place_of_bytes.ensures.few c.index-self-place_of_bytes.result c.args.word.now c.place_of_bytes.ensures.table in
    let before = own_after c.self.inside.tables c.args.self.now c.self.view_is c.self.invariant c.place_of_bytes.result c.place_of_bytes.ensures.few c.index-self-place_of_bytes.result c.args.word.now c.place_of_bytes.ensures.table in
    changed c.self.inside.tables c.place_of_bytes.result c.index-self-place_of_bytes.result c.append.new.self c.args.word.now _ c.self.invariant c.place_of_bytes.ensures.few c.place_of_bytes.ensures.table c.append.ensures.takes.nodes
    (λ q apart. ap (λ (l : NodeState). l.nodes) (c.append.ensures.others q apart))
    (NodesAfter-append 0 _ c.args.added.now before (subst (λ (ns : List Docs). NodesAfter (last_of 0 ns) c.args.added.now) mine c.requires.after))

pub returns-clause-nodes : goal.returns-clause-nodes
returns-clause-nodes c =
    here c.self.inside.tables c.args.self.now c.self.view_is c.self.invariant c.place_of_bytes.result c.place_of_bytes.ensures.few c.index-self-place_of_bytes.result nodes_in [] c.append.new.self c.args.word.now c.place_of_bytes.ensures.table
    ∙ c.append.ensures.takes.nodes
    ∙ ap (λ (ns : List Docs). ns ++ c.args.added.now) (sym (own_nodes c.self.inside.tables c.args.self.now c.self.view_is c.self.invariant c.place_of_bytes.result c.place_of_bytes.ensures.few c.index-self-place_of_bytes.result c.args.word.now c.place_of_bytes.ensures.table))

pub returns-clause-others : goal.returns-clause-others
returns-clause-others c = λ q apart. other c.self.inside.tables c.args.self.now c.self.view_is c.self.invariant c.place_of_bytes.result c.place_of_bytes.ensures.few c.index-self-place_of_bytes.result nodes_in [] c.append.new.self q (ap (λ (l : NodeState). l.nodes) (c.append.ensures.others q apart))

pub returns-clause-room : goal.returns-clause-room
returns-clause-room c =
    let t = c.append.new.self in
    let word = c.args.word.now in
    let more = needs c.args.added.now in
    uses_by (room (set c.self.inside.tables c.place_of_bytes.result t)) (room c.args.self.now) word more
    (ap (λ r. with_room r more) (here c.self.inside.tables c.args.self.now c.self.view_is c.self.invariant c.place_of_bytes.result c.place_of_bytes.ensures.few c.index-self-place_of_bytes.result room_in no_room t word c.place_of_bytes.ensures.table)
    ∙ room_used _ _ c.args.added.now c.append.ensures.takes
    ∙ sym (own c.self.inside.tables c.args.self.now c.self.view_is c.self.invariant c.place_of_bytes.result c.place_of_bytes.ensures.few c.index-self-place_of_bytes.result room_in no_room word c.place_of_bytes.ensures.table))
    (λ q apart. other c.self.inside.tables c.args.self.now c.self.view_is c.self.invariant c.place_of_bytes.result c.place_of_bytes.ensures.few c.index-self-place_of_bytes.result room_in no_room t q (ap room_of (c.append.ensures.others q apart)))
