-- The words of a batch: each has its own nodes there.
use Rattle.std.proofs.Common.{◌≡◌, ℕ, Bool, true, false, cond, List, [], ◌∷◌, ◌++◌, append-nil, bytes_eq, is_eq, Less, refl, sym, ap, ap₂, subst, ◌∙◌}
use Rattle.std.specs.List.{AllByRecursion}
use Rattle.std.specs.List.Sorted.{IsStrictlySortedBy}
use Rattle.std.specs.Map.{keys_of}
use Rattle.std.proofs.lemmas.Bool.{false≢true}
use Rattle.std.proofs.lemmas.Map.Keys.{sorted_head, sorted_tail}
use Rattle.std.proofs.lemmas.Map.Text.{is_eq-slice_cmp}
use Rattle.std.proofs.lemmas.Slice.Eq.{bytes_eq-Decides}
use Rattle.fts_words.specs.Order.{byte_order}
use Rattle.fts_ilist.specs.Node.{Docs, nodes_for}
use Rattle.fts_entries.specs.Entry.{Batch}
use Rattle.fts_entries.proofs.Batches.{fails}

itself : (word : List ℕ) → bytes_eq word word ≡ true
itself word = (bytes_eq-Decides word word).1 refl

pub word_apart : (v w : List ℕ) → byte_order v w ≡ Less → bytes_eq v w ≡ false
word_apart v w less = sym (is_eq-slice_cmp v w) ∙ ap is_eq less

word_apart_back : (v w : List ℕ) → byte_order v w ≡ Less → bytes_eq w v ≡ false
word_apart_back v w less = fails (bytes_eq w v) (λ e. (let same : w ≡ v = (bytes_eq-Decides w v).0 e in
    false≢true (sym (word_apart v w less) ∙ ap (bytes_eq v) same ∙ itself v)))

pub no_nodes_for : (word : List ℕ) (batch : Batch) → AllByRecursion (λ w. bytes_eq word w ≡ false) (keys_of batch) → nodes_for word batch ≡ []
no_nodes_for word [] h = refl
no_nodes_for word (g ∷ batch) h = ap₂ (λ (b : Bool) (ns : List Docs). cond b g.1 [] ++ ns) h.0 (no_nodes_for word batch h.1)

-- each word of a batch has its own nodes there
pub own_nodes : (P : List ℕ → List Docs → Type 0) (batch : Batch) → IsStrictlySortedBy byte_order (keys_of batch) → ((word : List ℕ) → P word (nodes_for word batch))
    → AllByRecursion (λ g. P g.0 g.1) batch
own_nodes P [] up h = tt
own_nodes P (g ∷ batch) up h =
    let behind = sorted_head byte_order g.0 (keys_of batch) up in (
      subst (P g.0) (ap₂ (λ (b : Bool) (ns : List Docs). cond b g.1 [] ++ ns) (itself g.0) (no_nodes_for g.0 batch (others g.0 (keys_of batch) behind)) ∙ append-nil g.1) (h g.0),
      rest batch (sorted_tail byte_order g.0 (keys_of batch) up) behind (own_nodes Q batch (sorted_tail byte_order g.0 (keys_of batch) up) (λ word. λ ne. subst (P word) (ap (λ (b : Bool). cond b g.1 [] ++ nodes_for word batch) ne) (h word))),
    )
  where
    Q : List ℕ → List Docs → Type 0
    Q word ns = bytes_eq word g.0 ≡ false → P word ns

    others : (w : List ℕ) (ws : List (List ℕ)) → AllByRecursion (λ y. byte_order w y ≡ Less) ws → AllByRecursion (λ v. bytes_eq w v ≡ false) ws
    others w [] all = tt
    others w (v ∷ ws) all = (word_apart w v all.0, others w ws all.1)

    rest : (es : Batch) → IsStrictlySortedBy byte_order (keys_of es) → AllByRecursion (λ y. byte_order g.0 y ≡ Less) (keys_of es) → AllByRecursion (λ e. Q e.0 e.1) es → AllByRecursion (λ e. P e.0 e.1) es
    rest [] sorted all own = tt
    rest (e ∷ es) sorted all own = (own.0 (word_apart_back g.0 e.0 all.0), rest es (sorted_tail byte_order e.0 (keys_of es) sorted) all.1 own.1)
