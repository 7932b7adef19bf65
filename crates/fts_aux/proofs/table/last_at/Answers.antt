use Rattle.std.proofs.Common.{◌≡◌, Option, Some, sym, ap, ◌∙◌, true≢false}
use Rattle.std.specs.Option.{unwrap_or}
use Rattle.fts_ilist.specs.NodeList.{NodeState}
use Rattle.fts_ilist.specs.Node.{last_of}
use Rattle.fts_aux.specs.Table.{find, nodes_in, no_list}
use Rattle.fts_aux.proofs.Finds.{key_at, same_text, no_key_at}
use Rattle.fts_aux.proofs.table.last_at.Goals as goal

pub returns : goal.returns
returns c =
    let es = c.args.words.now.entries in
    let word = c.args.word.now in
    let key = c.in-Some.field-0-0.now in
    let here = same_text word key (sym (key_at es c.args.number key c.in-Some.list.now word c.in-Some.ensures.entry) ∙ c.requires) in
    let found : find key es ≡ Some c.in-Some.list.now = c.in-Some.ensures.value in
    c.last_id.ensures
    ∙ sym (ap (λ w. last_of 0 (nodes_in es w)) here ∙ ap (λ (o : Option NodeState). last_of 0 (unwrap_or o no_list).nodes) found)

pub unreachable-requires : goal.unreachable-requires
unreachable-requires c = true≢false (sym c.requires ∙ no_key_at c.args.words.now.entries c.args.number c.args.word.now c.in-None.ensures.entry)
