use Rattle.std.proofs.Common.{sym, ap, ◌∙◌}
use Rattle.fts_ilist.specs.NodeList.{NodeState}
use Rattle.fts_ilist.specs.Packing.{are_loose}
use Rattle.fts_aux.proofs.Finds.{writes_at, listed_at, list_written}
use Rattle.fts_aux.proofs.Counts.{count_written}
use Rattle.fts_aux.proofs.table.replace_at.Goals as goal

pub returns-clause-becomes : goal.returns-clause-becomes
returns-clause-becomes c = (writes_at c.args.number c.args.words.now.entries c.args.word.now c.args.list c.in-Some.ensures.unique c.requires).becomes

pub returns-clause-was : goal.returns-clause-was
returns-clause-was c =
    let old = listed_at c.args.number c.args.words.now.entries c.args.word.now c.in-Some.held.now c.in-Some.ensures.unique c.requires c.in-Some.ensures.value in
    c.is_loose-was.ensures.told ∙ ap (λ (l : NodeState). are_loose l.nodes) (sym old)

pub returns-clause-is : goal.returns-clause-is
returns-clause-is c =
    let es = c.args.words.now.entries in
    let at = writes_at c.args.number es c.args.word.now c.args.list c.in-Some.ensures.unique c.requires in
    c.is_loose-is.ensures.told ∙ ap (λ (l : NodeState). are_loose l.nodes) (sym (list_written es _ c.args.word.now c.args.list at.becomes))

pub returns-clause-loose : goal.returns-clause-loose
returns-clause-loose c =
    let es = c.args.words.now.entries in
    count_written es _ c.args.word.now c.args.list c.args.number c.in-Some.ensures.unique c.requires (writes_at c.args.number es c.args.word.now c.args.list c.in-Some.ensures.unique c.requires)
