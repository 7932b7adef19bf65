-- The view of a list of terms, as terms are added.
use Rattle.std.proofs.Common.{◌≡◌, List, [], ◌∷◌, ◌++◌, Vec, Global, refl, sym, ap, ◌∙◌, append_assoc, append-nil}
use mathlib.Core.Former.{Count}
use Rattle.fts_query.specs.declared.query.Term.{Term, Group, Group', Row_of-Term, end_of-Term, more_of-Term, items-the_row-Term, items_hidden-the_row-Term-0}
use Rattle.fts_query.specs.View.{term_view, row_view, terms_view}
use Rattle.fts_meaning.specs.declared.sign.Sign.{Sign}
use Rattle.fts_meaning.specs.Tree.{Token, group, more, written, written_term}

-- a row of terms is seen as the list of its items
row_is_list : (n : _) (k : Row_of-Term n) → row_view k ≡ terms_view (items-the_row-Term n k)
row_is_list n end_of-Term = refl
row_is_list n (more_of-Term term rest) = ap (more (term_view term)) (row_is_list _ rest)

row_of : Term → (n : Count) × Row_of-Term n
row_of (Group' _ _ row) = (_, row)
row_of _ = (_, end_of-Term)

-- a group is seen with the list of its terms
pub term_view-Group : (sign : Sign) (terms : Vec Term Global) → term_view (Group sign terms) ≡ group sign (terms_view terms.items)
unfolding row_of
term_view-Group sign terms =
    let row = row_of (Group sign terms) in
    ap (group sign) (row_is_list row.0 row.1 ∙ ap terms_view (items_hidden-the_row-Term-0 terms))

-- a term more at the end of a list
pub written_push : (terms : List Term) (term : Term) → written (terms_view (terms ++ term ∷ [])) ≡ written (terms_view terms) ++ written_term (term_view term)
written_push [] term = append-nil (written_term (term_view term))
written_push (t ∷ terms) term =
    ap (λ (x : List Token). written_term (term_view t) ++ x) (written_push terms term)
    ∙ sym (append_assoc (written_term (term_view t)) (written (terms_view terms)) (written_term (term_view term)))
