use Rattle.std.proofs.Common.{◌≡◌, Option, Some, sym, ap, ◌∙◌, true≢false}
use Rattle.std.specs.Option.{unwrap_or}
use Rattle.fts_ilist.specs.NodeList.{NodeState}
use Rattle.fts_aux.specs.Table.{find, nodes_in, no_list}
use Rattle.fts_aux.proofs.Finds.{key_at, same_text, no_key_at}
use Rattle.fts_aux.proofs.table.is_empty_at.Goals as goal

pub returns-in-Some-clause-yes : goal.returns-in-Some-clause-yes
returns-in-Some-clause-yes c = λ w yes at.
    let es = c.args.words.now.entries in
    let key = c.in-Some.field-0-0.now in
    let here = same_text w key (sym (key_at es c.args.number key c.in-Some.list.now w c.in-Some.ensures.entry) ∙ at) in
    let found : find key es ≡ Some c.in-Some.list.now = c.in-Some.ensures.value in
    ap (nodes_in es) here
    ∙ ap (λ (o : Option NodeState). (unwrap_or o no_list).nodes) found
    ∙ c.is_empty.ensures.0 yes

pub returns-in-Some-clause-no : goal.returns-in-Some-clause-no
returns-in-Some-clause-no c = λ w no at none.
    let es = c.args.words.now.entries in
    let key = c.in-Some.field-0-0.now in
    let here = same_text w key (sym (key_at es c.args.number key c.in-Some.list.now w c.in-Some.ensures.entry) ∙ at) in
    let found : find key es ≡ Some c.in-Some.list.now = c.in-Some.ensures.value in
    true≢false (sym (c.is_empty.ensures.1 (sym (ap (nodes_in es) here ∙ ap (λ (o : Option NodeState). (unwrap_or o no_list).nodes) found) ∙ none)) ∙ no)

pub returns-in-None-clause-no : goal.returns-in-None-clause-no
returns-in-None-clause-no c = λ w no at none.
    true≢false (sym at ∙ no_key_at c.args.words.now.entries c.args.number w c.in-None.ensures.entry)
