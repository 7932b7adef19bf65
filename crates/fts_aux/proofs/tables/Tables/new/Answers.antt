use Rattle.std.proofs.Common.{◌≡◌, ℕ, suc, ◌==◌, Bool, true, false, cond, List, [], ◌∷◌, refl, sym, ap, subst, ◌∙◌}
use Rattle.std.specs.List.{AllByRecursion}
use Rattle.fts_ilist.specs.Node.{Docs, NodesAfter}
use Rattle.fts_types.specs.Table.{table_of}
use Rattle.fts_aux.specs.Table.{Entries, nodes_in}
use Rattle.fts_aux.specs.Tables.{nodes_from, PlacedFrom}
use Rattle.fts_aux.proofs.tables.Tables.new.Goals as goal

-- tables without words have no nodes
none_from : (k : ℕ) (tables : List Entries) → AllByRecursion (λ (t : Entries). t ≡ []) tables → (word : List ℕ) → nodes_from k tables word ≡ []
none_from k [] empty word = refl
none_from k (t ∷ ts) empty word =
    ap (λ (ns : List Docs). cond (table_of word == k) ns (nodes_from (suc k) ts word)) (ap (λ (e : Entries). nodes_in e word) empty.0)
    ∙ ap (cond (table_of word == k) []) (none_from (suc k) ts empty.1 word)
    ∙ both (table_of word == k) []
  where
    both : (b : Bool) (ns : List Docs) → cond b ns ns ≡ ns
    both true ns = refl
    both false ns = refl

placed_from : (k : ℕ) (tables : List Entries) → AllByRecursion (λ (t : Entries). t ≡ []) tables → PlacedFrom k tables
placed_from k [] empty = tt
placed_from k (t ∷ ts) empty =
    ((λ word some. absurd (some (ap (λ (e : Entries). nodes_in e word) empty.0))), placed_from (suc k) ts empty.1)

pub invariant_of-result : goal.invariant_of-result
invariant_of-result c =
    let tables : List Entries = c.new.result ∷ c.new-2.result ∷ c.new-3.result ∷ c.new-4.result ∷ c.new-5.result ∷ c.new-6.result ∷ [] in
    let empty : AllByRecursion (λ (t : Entries). t ≡ []) tables = (c.new.ensures, (c.new-2.ensures, (c.new-3.ensures, (c.new-4.ensures, (c.new-5.ensures, (c.new-6.ensures, tt)))))) in
    record {
      six = refl;
      placed = placed_from 1 tables empty;
      ascending = λ word. subst (NodesAfter 0) (sym (none_from 1 tables empty word)) tt;
    }
