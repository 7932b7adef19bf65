-- A tree as it is built, token by token.
use Rattle.std.proofs.Common.{◌≡◌, List, [], ◌∷◌, ◌++◌, Vec, Global, refl, sym, ap, ap₂, ◌∙◌, append_assoc, append-nil}
use Rattle.fts_query.specs.declared.build.Bracket.{Bracket}
use Rattle.fts_query.specs.declared.query.Operand.{Operand}
use Rattle.fts_query.specs.declared.query.Term.{Term, Leaf, Group}
use Rattle.fts_query.specs.View.{operand_view, terms_view}
use Rattle.fts_query.specs.Built.{written_open}
use Rattle.fts_query.proofs.Views.{term_view-Group, written_push}
use Rattle.fts_meaning.specs.declared.sign.Sign.{Sign}
use Rattle.fts_meaning.specs.Tree.{Token, single, opening, closing, written, written_term}

written_open_push : (brackets : List Bracket) (bracket : Bracket) → written_open (brackets ++ bracket ∷ []) ≡ written_open brackets ++ (written (terms_view bracket.before.items) ++ opening bracket.sign ∷ [])
written_open_push [] bracket = refl
written_open_push (b ∷ brackets) bracket =
    let ih = written_open_push brackets bracket in
    rw ih (simp append_assoc)

-- an operand is added
pub added : (brackets : List Bracket) (terms more : List Term) (sign : Sign) (operand : Operand) → more ≡ terms ++ Leaf sign operand ∷ [] → written_open brackets ++ written (terms_view more) ≡ (written_open brackets ++ written (terms_view terms)) ++ single sign (operand_view operand) ∷ []
added brackets terms more sign operand is =
    ap (λ (ts : List Term). written_open brackets ++ written (terms_view ts)) is
    ∙ ap (λ (x : List Token). written_open brackets ++ x) (written_push terms (Leaf sign operand))
    ∙ sym (append_assoc (written_open brackets) (written (terms_view terms)) (single sign (operand_view operand) ∷ []))

-- a bracket is opened
pub opened_more : (brackets more : List Bracket) (bracket : Bracket) (terms : List Term) → more ≡ brackets ++ bracket ∷ [] → terms ≡ [] → written_open more ++ written (terms_view terms) ≡ (written_open brackets ++ written (terms_view bracket.before.items)) ++ opening bracket.sign ∷ []
opened_more brackets more bracket terms is none =
    ap₂ (λ (bs : List Bracket) (ts : List Term). written_open bs ++ written (terms_view ts)) is none
    ∙ append-nil (written_open (brackets ++ bracket ∷ []))
    ∙ written_open_push brackets bracket
    ∙ sym (append_assoc (written_open brackets) (written (terms_view bracket.before.items)) (opening bracket.sign ∷ []))

-- a bracket is closed
pub closed_more : (old brackets : List Bracket) (bracket : Bracket) (group : Vec Term Global) (terms : List Term) → old ≡ brackets ++ bracket ∷ [] → terms ≡ bracket.before.items ++ Group bracket.sign group ∷ [] → written_open brackets ++ written (terms_view terms) ≡ (written_open old ++ written (terms_view group.items)) ++ closing ∷ []
closed_more old brackets bracket group terms is added =
    ap (λ (ts : List Term). written_open brackets ++ written (terms_view ts)) added
    ∙ ap (λ (x : List Token). written_open brackets ++ x) (written_push bracket.before.items (Group bracket.sign group) ∙ ap (λ t. written (terms_view bracket.before.items) ++ written_term t) (term_view-Group bracket.sign group))
    ∙ sym shape
  where
    shape : (written_open old ++ written (terms_view group.items)) ++ closing ∷ [] ≡ written_open brackets ++ (written (terms_view bracket.before.items) ++ (opening bracket.sign ∷ (written (terms_view group.items) ++ closing ∷ [])))
    shape =
        ap (λ (bs : List Bracket). (written_open bs ++ written (terms_view group.items)) ++ closing ∷ []) is
        ∙ ap (λ (x : List Token). (x ++ written (terms_view group.items)) ++ closing ∷ []) (written_open_push brackets bracket)
        ∙ simp append_assoc
