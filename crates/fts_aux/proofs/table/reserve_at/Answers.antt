use Rattle.std.proofs.Common.{◌+◌, sym, ap, ◌∙◌}
use Rattle.fts_ilist.specs.NodeList.{NodeState}
use Rattle.fts_aux.proofs.Finds.{writes_like, listed_at}
use Rattle.fts_aux.proofs.Ends.{on_ok, on_err}
use Rattle.fts_aux.proofs.table.reserve_at.Goals as goal

pub returns-clause-ok : goal.returns-clause-ok
returns-clause-ok c =
    let es = c.args.words.now.entries in
    let old = listed_at c.args.number es c.args.word.now c.in-Some.list.now c.in-Some.ensures.unique c.requires c.in-Some.ensures.value in
    on_ok c.reserve.result _ _ (λ e. writes_like c.args.number es c.args.word.now c.reserve.new.self _ c.in-Some.ensures.unique c.requires
    (e ∙ ap (λ (l : NodeState). let r : NodeState = record l { node_room = l.node_room + c.args.nodes; byte_room = l.byte_room + c.args.bytes } in r) (sym old))) c.reserve.ensures.ok

pub returns-clause-err : goal.returns-clause-err
returns-clause-err c =
    let es = c.args.words.now.entries in
    let old = listed_at c.args.number es c.args.word.now c.in-Some.list.now c.in-Some.ensures.unique c.requires c.in-Some.ensures.value in
    on_err c.reserve.result _ _ (λ e. writes_like c.args.number es c.args.word.now c.reserve.new.self _ c.in-Some.ensures.unique c.requires (e ∙ sym old)) c.reserve.ensures.err
