use Rattle.std.proofs.Common.{◌≤◌, length, sym, ap, subst, ◌∙◌}
use Rattle.indexmap.specs.IndexMap.{set_value_at}
use Rattle.fts_ilist.specs.NodeList.{NodeState, nodes_size, Takes}
use Rattle.fts_ilist.specs.Packing.{are_loose}
use Rattle.fts_aux.specs.Table.{list_in}
use Rattle.fts_aux.proofs.Finds.{writes_at, writes_like, listed_at, list_written, within}
use Rattle.fts_aux.proofs.Counts.{count_written}
use Rattle.fts_aux.proofs.table.append_at.Goals as goal

pub append-requires-clause-nodes : goal.append-requires-clause-nodes
append-requires-clause-nodes c =
    let old = listed_at c.args.number c.args.words.now.entries c.args.word.now c.in-Some.list.now c.in-Some.ensures.unique c.requires.number c.in-Some.ensures.value in
    subst (λ (l : NodeState). length c.args.nodes.now ≤ l.node_room) old c.requires.nodes

pub append-requires-clause-bytes : goal.append-requires-clause-bytes
append-requires-clause-bytes c =
    let old = listed_at c.args.number c.args.words.now.entries c.args.word.now c.in-Some.list.now c.in-Some.ensures.unique c.requires.number c.in-Some.ensures.value in
    subst (λ (l : NodeState). nodes_size c.args.nodes.now ≤ l.byte_room) old c.requires.bytes

pub unreachable-requires : goal.unreachable-requires
unreachable-requires c = within c.args.words.now.entries c.args.number c.args.word.now c.requires.number c.in-None.ensures.value

pub returns-clause-writes : goal.returns-clause-writes
returns-clause-writes c =
    let es = c.args.words.now.entries in
    let at = writes_at c.args.number es c.args.word.now c.append.new.self c.in-Some.ensures.unique c.requires.number in
    writes_like c.args.number es c.args.word.now c.append.new.self _ c.in-Some.ensures.unique c.requires.number (sym (list_written es _ c.args.word.now c.append.new.self at.becomes))

pub returns-clause-takes : goal.returns-clause-takes
returns-clause-takes c =
    let es = c.args.words.now.entries in
    let old = listed_at c.args.number es c.args.word.now c.in-Some.list.now c.in-Some.ensures.unique c.requires.number c.in-Some.ensures.value in
    let at = writes_at c.args.number es c.args.word.now c.append.new.self c.in-Some.ensures.unique c.requires.number in
    subst (λ (l : NodeState). Takes l (list_in (set_value_at es c.args.number c.append.new.self) c.args.word.now) c.args.nodes.now) (sym old)
    (subst (λ (l : NodeState). Takes c.in-Some.list.now l c.args.nodes.now) (sym (list_written es _ c.args.word.now c.append.new.self at.becomes)) c.append.ensures)

pub returns-clause-loose : goal.returns-clause-loose
returns-clause-loose c =
    let es = c.args.words.now.entries in
    count_written es _ c.args.word.now c.append.new.self c.args.number c.in-Some.ensures.unique c.requires.number (writes_at c.args.number es c.args.word.now c.append.new.self c.in-Some.ensures.unique c.requires.number)

pub returns-clause-was : goal.returns-clause-was
returns-clause-was c =
    let old = listed_at c.args.number c.args.words.now.entries c.args.word.now c.in-Some.list.now c.in-Some.ensures.unique c.requires.number c.in-Some.ensures.value in
    c.is_loose-was.ensures.told ∙ ap (λ (l : NodeState). are_loose l.nodes) (sym old)

pub returns-clause-is : goal.returns-clause-is
returns-clause-is c =
    let es = c.args.words.now.entries in
    let at = writes_at c.args.number es c.args.word.now c.append.new.self c.in-Some.ensures.unique c.requires.number in
    c.is_loose.ensures.told ∙ ap (λ (l : NodeState). are_loose l.nodes) (sym (list_written es _ c.args.word.now c.append.new.self at.becomes))
