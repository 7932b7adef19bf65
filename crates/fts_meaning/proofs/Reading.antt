-- A list of tokens has one tree at most, and one where its brackets are paired: it is read from its end.
use Rattle.std.proofs.Common.{◌≡◌, ℕ, ◌+◌, ◌-◌, List, [], ◌∷◌, ◌++◌, length, refl, sym, ap, ap₂, ◌∙◌, subst, append_assoc, append-nil, arith}
use Rattle.fts_meaning.specs.declared.sign.Sign.{Sign}
use Rattle.fts_meaning.specs.Tree.{Terms, leaf, group, none, more, Token, single, opening, closing, stray, written}
use Rattle.fts_meaning.specs.Nesting.{Nests}

-- the terms that the tokens begin with, and those behind each closing bracket that has no partner
record Read : Type 0 where
  terms : Terms
  behind : List Terms

abbrev grouped : Sign → Terms → List Terms → Read
grouped sign inner [] = record { terms = none; behind = [] }
grouped sign inner (terms ∷ rest) = record { terms = more (group sign inner) terms; behind = rest }

abbrev read : List Token → Read
read [] = record { terms = none; behind = [] }
read (single sign operand ∷ rest) = record { terms = more (leaf sign operand) (read rest).terms; behind = (read rest).behind }
read (opening sign ∷ rest) = grouped sign (read rest).terms (read rest).behind
read (closing ∷ rest) = record { terms = none; behind = (read rest).terms ∷ (read rest).behind }
read (stray ∷ rest) = record { terms = none; behind = [] }

-- what stands behind the terms, written out
abbrev written_behind : List Terms → List Token
written_behind [] = []
written_behind (terms ∷ rest) = closing ∷ (written terms ++ written_behind rest)

record IsRead (height : ℕ) (r : Read) (tokens : List Token) : Type 0 where
  deep : length r.behind ≡ height
  same : written r.terms ++ written_behind r.behind ≡ tokens

grouped_is_read : (height : ℕ) (sign : Sign) (rest : List Token) (inner : Terms) (behind : List Terms) → length behind ≡ height + 1 → written inner ++ written_behind behind ≡ rest → IsRead height (grouped sign inner behind) (opening sign ∷ rest)
grouped_is_read height sign rest inner [] deep same = absurd (omega arith)
grouped_is_read height sign rest inner (terms ∷ others) deep same = record {
  deep = omega arith;
  same = ap (λ (x : List Token). opening sign ∷ x) (simp append_assoc same);
}

read_back : (height : ℕ) (tokens : List Token) → Nests height tokens → IsRead height (read tokens) tokens
unfolding Nests
read_back height [] nests = record { deep = sym nests; same = refl }
read_back height (single sign operand ∷ rest) nests =
    let ih = read_back height rest nests in
    record { deep = ih.deep; same = ap (λ (x : List Token). single sign operand ∷ x) ih.same }
read_back height (opening sign ∷ rest) nests =
    let ih = read_back (height + 1) rest nests in
    grouped_is_read height sign rest (read rest).terms (read rest).behind ih.deep ih.same
read_back height (closing ∷ rest) nests =
    let ih = read_back (height - 1) rest nests.1 in
    record { deep = (let above = nests.0 in let d = ih.deep in omega arith); same = ap (λ (x : List Token). closing ∷ x) ih.same }
read_back height (stray ∷ rest) nests = absurd nests

-- where the brackets are paired there is a tree
pub tree_of_nested : (tokens : List Token) → Nests 0 tokens → (terms : Terms) × (written terms ≡ tokens)
tree_of_nested tokens nests =
    let back = read_back 0 tokens nests in
    ((read tokens).terms, whole (read tokens).terms (read tokens).behind tokens back.deep back.same)
  where
    whole : (terms : Terms) (behind : List Terms) (ts : List Token) → length behind ≡ 0 → written terms ++ written_behind behind ≡ ts → written terms ≡ ts
    whole terms [] ts deep same = sym (append-nil (written terms)) ∙ same
    whole terms (b ∷ bs) ts deep same = absurd (omega arith)

-- the terms of a list and then those of another
abbrev joined : Terms → Terms → Terms
joined none others = others
joined (more term rest) others = more term (joined rest others)

joined_none : (terms : Terms) → joined terms none ≡ terms
joined_none none = refl
joined_none (more term rest) = ap (λ (x : Terms). more term x) (joined_none rest)

-- terms that stand in front are read as they were written
read_written : (terms : Terms) (rest : List Token) → read (written terms ++ rest) ≡ record { terms = joined terms (read rest).terms; behind = (read rest).behind }
read_written none rest = refl
read_written (more (leaf sign operand) terms) rest =
    let ih = read_written terms rest in
    ap (λ (r : Read). record { terms = more (leaf sign operand) r.terms; behind = r.behind }) ih
read_written (more (group sign inner) terms) rest =
    let shape : written (more (group sign inner) terms) ++ rest ≡ opening sign ∷ (written inner ++ (closing ∷ (written terms ++ rest))) = ap (λ (x : List Token). opening sign ∷ x) (simp append_assoc) in
    let first = read_written inner (closing ∷ (written terms ++ rest)) in
    let second = read_written terms rest in
    let inner_is : (read (written inner ++ (closing ∷ (written terms ++ rest)))).terms ≡ inner = ap (λ (r : Read). r.terms) first ∙ joined_none inner in
    let behind_is : (read (written inner ++ (closing ∷ (written terms ++ rest)))).behind ≡ (read (written terms ++ rest)).terms ∷ (read (written terms ++ rest)).behind = ap (λ (r : Read). r.behind) first in
    ap read shape
    ∙ ap₂ (grouped sign) inner_is behind_is
    ∙ ap (λ (r : Read). record { terms = more (group sign inner) r.terms; behind = r.behind }) second

-- a tree is known by what it is written as
pub written_one : (v w : Terms) → written v ≡ written w → v ≡ w
written_one v w same =
    let left = whole v in
    let right = whole w in
    sym left ∙ ap (λ (ts : List Token). (read ts).terms) same ∙ right
  where
    whole : (terms : Terms) → (read (written terms)).terms ≡ terms
    whole terms =
        ap (λ (ts : List Token). (read ts).terms) (sym (append-nil (written terms)))
        ∙ ap (λ (r : Read). r.terms) (read_written terms [])
        ∙ joined_none terms

-- a tree's brackets are paired
pub written_nests : (terms : Terms) (height : ℕ) (rest : List Token) → Nests height rest → Nests height (written terms ++ rest)
unfolding Nests
written_nests none height rest nests = nests
written_nests (more (leaf sign operand) terms) height rest nests = written_nests terms height rest nests
written_nests (more (group sign inner) terms) height rest nests =
    let shape : (((written inner ++ (closing ∷ [])) ++ written terms) ++ rest) ≡ written inner ++ (closing ∷ (written terms ++ rest)) = simp append_assoc in
    let same : height + 1 - 1 ≡ height = omega arith in
    let ih = written_nests terms height rest nests in
    let lower : Nests (height + 1 - 1) (written terms ++ rest) = subst (λ (h : ℕ). Nests h (written terms ++ rest)) (sym same) ih in
    subst (Nests (height + 1)) (sym shape) (written_nests inner (height + 1) (closing ∷ (written terms ++ rest)) (omega arith, lower))
