use Rattle.std.proofs.Common.{◌≡◌, ◌++◌, List, map, ap, sym, ◌∙◌, subst}
use Rattle.std.specs.Prelude.{OnOk}
use Rattle.fts_types.specs.Rules.{rules_of}
use Rattle.fts_meaning.specs.Leaf as leaf
use Rattle.fts_meaning.specs.Leaf.{leaf_of, operands, operands_of}
use Rattle.fts_meaning.specs.Tree as tree
use Rattle.fts_query.specs.declared.query.Term.{Term}
use Rattle.fts_query.specs.View.{term_view, terms_view}
use Rattle.fts_query.specs.Seen.{leaves_seen}
use Rattle.fts_query.proofs.Views.{term_view-Group}
use Rattle.fts_eval.proofs.leaf.+listing.Goals as goal

pub add_term-returns-in-Group : goal.add_term-returns-in-Group
add_term-returns-in-Group t c =
    let rules = rules_of c.args.settings.now in
    let P : List leaf.Leaf → Type 0 = λ ls. OnOk c.add_terms.result (leaves_seen c.add_terms.new.leaves.items ≡ leaves_seen c.args.leaves.now.items ++ ls) in
    let same = ap (λ (ts : List Term). map (leaf_of rules) (operands (terms_view ts))) c.as_slice.ensures.value
    ∙ sym (ap (λ (t : tree.Term). map (leaf_of rules) (operands_of t)) (ap term_view c.in-Group.is ∙ term_view-Group c.in-Group.field-0 c.in-Group.terms)) in
    subst P same c.add_terms.ensures
