use Rattle.std.proofs.Common.{◌≡◌, List, map, ap, sym, subst, ◌∙◌, arith}
use Rattle.fts_meaning.specs.Tree as tree
use Rattle.fts_meaning.specs.Leaf.{leaf_of, operands_of}
use Rattle.fts_query.specs.declared.query.Term.{Term}
use Rattle.fts_query.specs.View.{operand_view, term_view, terms_view}
use Rattle.fts_query.specs.Seen.{postings_seen}
use Rattle.fts_query.proofs.Views.{term_view-Group}
use Rattle.fts_eval.specs.Means.{Means, PostingsBegin}
use Rattle.fts_eval.proofs.Building.{building_at, building_all, leaf_step, group_means}
use Rattle.fts_eval.proofs.resolve.+resolving.Goals as goal

pub part_of-returns-in-len1-up : goal.part_of-returns-in-len1-up
part_of-returns-in-len1-up t c =
    λ rules rows before after texts s.
    leaf_step rules rows before after texts c.in-Leaf.field-0 (operand_view c.in-Leaf.operand) (term_view c.args.term.now) (ap term_view c.in-Leaf.is)
    c.args.postings.now c.first-item.result c.operand_part.result c.in-len1-up.len_at_least c.first-item.is c.operand_part.ensures s

pub part_of-returns-in_ok-parts-in-Group : goal.part_of-returns-in_ok-parts-in-Group
part_of-returns-in_ok-parts-in-Group t c =
    λ rules rows before after texts s.
    let sign = c.in-Group.field-0 in
    let terms = c.as_slice.result.now in
    let parts = c.in_ok-parts-in-Group.parts in
    let is : term_view c.args.term.now ≡ tree.group sign (terms_view terms) = ap term_view c.in-Group.is ∙ term_view-Group sign c.in-Group.terms ∙ ap (λ (ts : List Term). tree.group sign (terms_view ts)) (sym c.as_slice.ensures.value) in
    let r = c.in_ok-parts-in-Group.ensures rules rows before after texts (subst (λ (u : tree.Term). PostingsBegin rules rows before (map (leaf_of rules) (operands_of u)) after texts (map postings_seen c.args.postings.now)) is s) in
    (subst (λ (u : tree.Term). Means rules rows texts u c.into_group.result) (sym is) (group_means rules rows texts sign (terms_view terms) parts c.into_group.result r.0 c.into_group.ensures), r.1)

pub parts_of-loop-term-preserved : goal.parts_of-loop-term-preserved
parts_of-loop-term-preserved t c =
    λ rules rows before after texts s.
    building_at rules rows after texts c.args.terms.now c.loop-term.term-index c.term-item.result c.loop-term.parts c.add.new.self c.sign_of.result c.in_ok-part.part
    (map postings_seen c.loop-term.rest.now) (map postings_seen c.in_ok-part.behind.now) c.loop-term-test.true c.term-item.is
    (c.loop-term.invariant rules rows before after texts s)
    (λ b a here. c.in_ok-part.ensures rules rows b a texts here)
    c.sign_of.ensures c.in_ok-add.ensures

pub parts_of-returns : goal.parts_of-returns
parts_of-returns t c =
    λ rules rows before after texts s.
    building_all rules rows after texts c.args.terms.now c.loop-term.term-index c.loop-term.parts (map postings_seen c.loop-term.rest.now) (omega arith) (c.loop-term.invariant rules rows before after texts s)
