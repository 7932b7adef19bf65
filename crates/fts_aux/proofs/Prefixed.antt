-- The words that begin with a prefix stand one after another.
use Rattle.std.proofs.Common.{◌≡◌, ◌≢◌, ℕ, Bool, true, false, cond, List, [], refl, sym, ap, subst, ◌∙◌}
use Rattle.std.specs.List.{filter, All}
use Rattle.std.specs.List.Sorted.{IsStrictlySortedBy}
use Rattle.std.specs.Map.{keys_of}
use Rattle.std.proofs.lemmas.List.Elements.{All-from_recursion}
use Rattle.fts_words.specs.Order.{byte_order, begins_with}
use Rattle.fts_ilist.specs.Node.{Docs}
use Rattle.fts_ilist.proofs.Fronts.{is_from, begun_is_from, front_of_rest}
use Rattle.fts_aux.specs.Words.{filled, nodes_at, IsListing}
use Rattle.fts_ilist.specs.Front.{front}
use Rattle.fts_aux.proofs.Ordered.{Ascends, sorted_to, ascends-filter, ascends-filled, all_filled, nodes_at-filled, items-filter}

cond_both_so : (b c : Bool) (ns : List Docs) → (b ≡ true → c ≡ true) → cond b (cond c ns []) [] ≡ cond b ns []
cond_both_so true c ns h = ap (λ d. cond d ns []) (h refl)
cond_both_so false c ns h = refl

pub listing_is : (p : List ℕ) (es r : List (List ℕ × List Docs)) (l : List (List ℕ × List Docs)) → Ascends es → r ≡ filter (λ e. is_from p e.0) es → l ≡ filled (front (λ e. e.0) p r)
    → IsListing (λ q. nodes_at q es) p l
listing_is p es r l up part is =
    let q_es : List (List ℕ × List Docs) = filter (λ e. is_from p e.0) es in
    let rest : Ascends q_es = ascends-filter (is_from p) es up in
    let whole : l ≡ filled (filter (λ e. begins_with p e.0) q_es) = is ∙ ap (λ z. filled (front (λ e. e.0) p z)) part ∙ ap filled (front_of_rest (λ (e : List ℕ × List Docs). e.0) p es rest) in
    let mine : Ascends (filter (λ e. begins_with p e.0) q_es) = ascends-filter (begins_with p) q_es rest in
    record {
      ascending = subst (λ z. IsStrictlySortedBy byte_order (keys_of z)) (sym whole) (sorted_to (filled (filter (λ e. begins_with p e.0) q_es)) (ascends-filled (filter (λ e. begins_with p e.0) q_es) mine));
      filled = subst (All (λ e. e.1 ≢ [])) (sym whole) (All-from_recursion (λ e. e.1 ≢ []) (filled (filter (λ e. begins_with p e.0) q_es)) (all_filled (filter (λ e. begins_with p e.0) q_es)));
      exact = λ q. ap (nodes_at q) whole ∙ nodes_at-filled q (filter (λ e. begins_with p e.0) q_es) mine ∙ items-filter (begins_with p) q q_es ∙ ap (λ ns. cond (begins_with p q) ns []) (items-filter (is_from p) q es)
          ∙ cond_both_so (begins_with p q) (is_from p q) (nodes_at q es) (begun_is_from p q);
    }

-- the same of words of a table
pub listing_of : (p : List ℕ) (r : List (List ℕ × List Docs)) (es : List (List ℕ × List Docs)) (f : List ℕ → List Docs) (l : List (List ℕ × List Docs)) → Ascends es → ((q : List ℕ) → nodes_at q es ≡ f q)
    → r ≡ filter (λ e. is_from p e.0) es → l ≡ filled (front (λ e. e.0) p r) → IsListing f p l
listing_of p r es f l up same part is =
    let mine = listing_is p es r l up part is in
    record {
      ascending = mine.ascending;
      filled = mine.filled;
      exact = λ q. mine.exact q ∙ ap (λ ns. cond (begins_with p q) ns []) (same q);
    }
