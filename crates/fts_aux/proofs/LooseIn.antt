-- A loose word of the six tables is one of a table.
use Rattle.std.proofs.Common.{◌≡◌, ◌≢◌, inl, inr, ℕ, ◌≤◌, ◌==◌, suc, true, false, cond, List, [], ◌∷◌, refl, sym, ap, subst, ◌∙◌, ⊎_elim, true≢false, arith}
use Rattle.std.proofs.lemmas.Bool.{cases_Bool, ne_eqb, eq-eqb, eqb-true}
use Rattle.fts_types.specs.Table.{table_of}
use Rattle.fts_ilist.specs.Node.{Docs}
use Rattle.fts_ilist.specs.Packing.{AreLoose, are_loose}
use Rattle.fts_ilist.proofs.Loose.{loose_told}
use Rattle.fts_aux.specs.Words.{HasLoose}
use Rattle.fts_aux.specs.Table.{Entries, nodes_in}
use Rattle.fts_aux.specs.Tables.{Held, nodes, nodes_from, PlacedFrom, AreTables, HasLooseIn}

-- where there are no nodes, packing leaves them
loose_some : (ns : List Docs) → AreLoose ns → ns ≢ []
loose_some ns loose none = true≢false (sym (loose_told ns loose) ∙ ap are_loose none)

elsewhere : (k : ℕ) (t : Entries) (ts : List Entries) (w : List ℕ) → (table_of w == k) ≡ false → nodes_from k (t ∷ ts) w ≡ nodes_from (suc k) ts w
elsewhere k t ts w off = ap (λ b. cond b (nodes_in t w) (nodes_from (suc k) ts w)) off

here : (k : ℕ) (t : Entries) (ts : List Entries) (w : List ℕ) → (table_of w == k) ≡ true → nodes_from k (t ∷ ts) w ≡ nodes_in t w
here k t ts w on = ap (λ b. cond b (nodes_in t w) (nodes_from (suc k) ts w)) on

-- a word that has nodes in tables from k on has a table from k on
at_least : (k : ℕ) (ts : List Entries) (w : List ℕ) → nodes_from k ts w ≢ [] → k ≤ table_of w
at_least k [] w some = absurd (some refl)
at_least k (t ∷ ts) w some =
    ⊎_elim
    (λ (on : (table_of w == k) ≡ true). omega (arith, eqb-true (table_of w) k on))
    (λ (off : (table_of w == k) ≡ false). omega (arith, at_least (suc k) ts w (λ none. some (elsewhere k t ts w off ∙ none))))
    (cases_Bool (table_of w == k))

in_all : (k : ℕ) (ts : List Entries) → PlacedFrom k ts → HasLooseIn ts → HasLoose (nodes_from k ts)
in_all k [] p h = absurd h
in_all k (t ∷ ts) p (inl (w, loose)) =
    let on = eq-eqb (table_of w) k (p.0 w (loose_some (nodes_in t w) loose)) in
    (w, subst AreLoose (sym (here k t ts w on)) loose)
in_all k (t ∷ ts) p (inr h) =
    let rest = in_all (suc k) ts p.1 h in
    let above = at_least (suc k) ts rest.0 (loose_some (nodes_from (suc k) ts rest.0) rest.1) in
    (rest.0, subst AreLoose (sym (elsewhere k t ts rest.0 (ne_eqb (table_of rest.0) k (λ e. omega (arith, above, e))))) rest.1)

in_one : (k : ℕ) (ts : List Entries) (w : List ℕ) → AreLoose (nodes_from k ts w) → HasLooseIn ts
in_one k [] w loose = loose refl
in_one k (t ∷ ts) w loose =
    ⊎_elim
    (λ (on : (table_of w == k) ≡ true). inl (w, subst AreLoose (here k t ts w on) loose))
    (λ (off : (table_of w == k) ≡ false). inr (in_one (suc k) ts w (subst AreLoose (elsewhere k t ts w off) loose)))
    (cases_Bool (table_of w == k))

pub has_loose : (ts : List Entries) (held : Held) → ts ≡ held → AreTables ts → HasLooseIn ts → HasLoose (nodes held)
has_loose ts held seen are h = subst (λ (s : Held). HasLoose (nodes s)) seen (in_all 1 ts are.placed h)

pub loose_has : (ts : List Entries) (held : Held) → ts ≡ held → HasLoose (nodes held) → HasLooseIn ts
loose_has ts held seen h = subst HasLooseIn (sym seen) (in_one 1 held h.0 h.1)
