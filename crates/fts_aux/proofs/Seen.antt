-- The words of a table in byte order, with what the table has of them.
use Rattle.std.proofs.Common.{◌≡◌, ℕ, Bool, true, false, cond, ◌||◌, List, [], ◌∷◌, Option, Some, None, is_some, filter, refl, sym, ap, ◌∙◌, ⊎_elim}
use Rattle.std.specs.List.{slice_get, list_any, AllByRecursion}
use Rattle.std.specs.List.Sorted.{IsStrictlySortedBy}
use Rattle.std.specs.Map.{lookup}
use Rattle.std.specs.Option.{unwrap_or}
use Rattle.std.specs.Ordering.{is_eq}
use Rattle.std.specs.BTreeMap.{is_at}
use Rattle.std.specs.BTreeSet.{BTreeSet}
use Rattle.std.specs.declared.cmp.Ordering.TheVariants.{Less}
use Rattle.std.proofs.lemmas.Bool.{cases_Bool, true≢false}
use Rattle.fts_words.specs.Order.{byte_order}
use Rattle.fts_ilist.specs.Node.{Docs}
use Rattle.fts_ilist.specs.NodeList.{NodeState}
use Rattle.fts_aux.specs.Words.{nodes_at, filled, IsNext, IsLast, IsListing}
use Rattle.fts_aux.specs.Table.{Entries, nodes_in, find, is_key, no_list, seen, IsListed}
use Rattle.fts_ilist.specs.Front.{front}
use Rattle.fts_aux.proofs.Finds.{not_true}
use Rattle.fts_aux.proofs.Ordered.{Ascends, AllBehind, same_word, is_behind, next_of, last_of_all}
use Rattle.fts_aux.proofs.Prefixed.{listing_of}
use Rattle.fts_ilist.proofs.Fronts.{is_from}

behind_seen : (t : Entries) (w : List ℕ) (ws : List (List ℕ)) → AllByRecursion (λ y. byte_order w y ≡ Less) ws → AllBehind w (seen t ws)
behind_seen t w [] h = tt
behind_seen t w (v ∷ ws) h = (h.0, behind_seen t w ws h.1)

pub ascends_seen : (t : Entries) (ws : List (List ℕ)) → IsStrictlySortedBy byte_order ws → Ascends (seen t ws)
unfolding IsStrictlySortedBy
ascends_seen t [] h = tt
ascends_seen t (w ∷ ws) h = (behind_seen t w ws h.0, ascends_seen t ws h.1)

pub seen-filter : (t : Entries) (p : List ℕ → Bool) (ws : List (List ℕ)) → seen t (filter p ws) ≡ filter (λ e. p e.0) (seen t ws)
seen-filter t p [] = refl
seen-filter t p (w ∷ ws) = at (p w) (seen-filter t p ws)
  where
    at : (b : Bool) → seen t (filter p ws) ≡ filter (λ e. p e.0) (seen t ws) → seen t (cond b (w ∷ filter p ws) (filter p ws)) ≡ cond b ((w, nodes_in t w) ∷ filter (λ e. p e.0) (seen t ws)) (filter (λ e. p e.0) (seen t ws))
    at true h = ap (λ l. (w, nodes_in t w) ∷ l) h
    at false h = h

nodes_at_seen : (t : Entries) (ws : List (List ℕ)) (q : List ℕ) → list_any (is_at (byte_order q)) ws ≡ true → nodes_at q (seen t ws) ≡ nodes_in t q
nodes_at_seen t [] q has = absurd (true≢false (sym has))
nodes_at_seen t (w ∷ ws) q has =
    ⊎_elim
    (λ (same : is_eq (byte_order q w) ≡ true). ap (λ (b : Bool). unwrap_or (cond b (Some (nodes_in t w)) (lookup (is_at (byte_order q)) (seen t ws))) []) same ∙ ap (nodes_in t) (sym (same_word q w same)))
    (λ (other : is_eq (byte_order q w) ≡ false).
    ap (λ (b : Bool). unwrap_or (cond b (Some (nodes_in t w)) (lookup (is_at (byte_order q)) (seen t ws))) []) other
    ∙ nodes_at_seen t ws q (ap (λ (b : Bool). b || list_any (is_at (byte_order q)) ws) (sym other) ∙ has))
    (cases_Bool (is_eq (byte_order q w)))

not_seen : (t : Entries) (ws : List (List ℕ)) (q : List ℕ) → list_any (is_at (byte_order q)) ws ≡ false → nodes_at q (seen t ws) ≡ []
not_seen t [] q has = refl
not_seen t (w ∷ ws) q has =
    ⊎_elim
    (λ (same : is_eq (byte_order q w) ≡ true). absurd (true≢false (sym (sym has ∙ ap (λ (b : Bool). b || list_any (is_at (byte_order q)) ws) same))))
    (λ (other : is_eq (byte_order q w) ≡ false).
    ap (λ (b : Bool). unwrap_or (cond b (Some (nodes_in t w)) (lookup (is_at (byte_order q)) (seen t ws))) []) other
    ∙ not_seen t ws q (ap (λ (b : Bool). b || list_any (is_at (byte_order q)) ws) (sym other) ∙ has))
    (cases_Bool (is_eq (byte_order q w)))

no_nodes : (t : Entries) (q : List ℕ) → is_key t q ≡ false → nodes_in t q ≡ []
no_nodes t q none = at (find q t) none
  where
    at : (o : Option NodeState) → is_some o ≡ false → (unwrap_or o no_list).nodes ≡ []
    at None e = refl
    at (Some l) e = absurd (true≢false e)

-- the words in byte order show all nodes
pub seen_all : (t : Entries) (order : BTreeSet (List ℕ)) → IsListed t order → (q : List ℕ) → nodes_at q (seen t order.keys) ≡ nodes_in t q
seen_all t order listed q =
    ⊎_elim
    (λ (has : list_any (is_at (byte_order q)) order.keys ≡ true). nodes_at_seen t order.keys q has)
    (λ (has : list_any (is_at (byte_order q)) order.keys ≡ false).
    not_seen t order.keys q has
    ∙ sym (no_nodes t q (not_true (is_key t q) (λ (k : is_key t q ≡ true). true≢false (sym (listed q ∙ k) ∙ has)))))
    (cases_Bool (list_any (is_at (byte_order q)) order.keys))

next_over : (f g : List ℕ → List Docs) (w x : List ℕ) → ((q : List ℕ) → f q ≡ g q) → IsNext f w x → IsNext g w x
next_over f g w x same is = record {
  inside = λ none. is.inside (same x ∙ none);
  after = is.after;
  least = λ q less some. is.least q less (λ none. some (sym (same q) ∙ none));
}

module _ (t : Entries) (order : BTreeSet (List ℕ)) (listed : IsListed t order) (ordered : IsStrictlySortedBy byte_order order.keys) (w : List ℕ) (r : List (List ℕ)) (part : r ≡ filter (is_behind w) order.keys) where
  part_seen : filled (seen t r) ≡ filled (filter (λ e. is_behind w e.0) (seen t order.keys))
  part_seen = ap (λ ws. filled (seen t ws)) part ∙ ap filled (seen-filter t (is_behind w) order.keys)

  pub next_seen : (x : List ℕ) → Some (x, nodes_in t x) ≡ slice_get (filled (seen t r)) 0 → IsNext (nodes_in t) w x
  next_seen x is =
      next_over (λ q. nodes_at q (seen t order.keys)) (nodes_in t) w x (seen_all t order listed)
      (next_of w (seen t order.keys) (ascends_seen t order.keys ordered) (filled (seen t r)) part_seen x (nodes_in t x) is)

  pub last_seen : None ≡ slice_get (filled (seen t r)) 0 → IsLast (nodes_in t) w
  last_seen is q less = sym (seen_all t order listed q) ∙ last_of_all w (seen t order.keys) (ascends_seen t order.keys ordered) (filled (seen t r)) part_seen is q less

pub listing_seen : (t : Entries) (order : BTreeSet (List ℕ)) (p : List ℕ) (r : List (List ℕ)) (l : List (List ℕ × List Docs)) → IsListed t order → IsStrictlySortedBy byte_order order.keys
    → r ≡ filter (is_from p) order.keys → l ≡ filled (front (λ e. e.0) p (seen t r)) → IsListing (nodes_in t) p l
listing_seen t order p r l listed ordered part is =
    listing_of p (seen t r) (seen t order.keys) (nodes_in t) l (ascends_seen t order.keys ordered) (seen_all t order listed)
    (ap (seen t) part ∙ seen-filter t (is_from p) order.keys) is
