-- Words with their nodes, those that have some.
use Rattle.std.proofs.Common.{◌≡◌, ◌≢◌, ℕ, ⊎_elim, Bool, true, false, cond, List, [], ◌∷◌, ◌++◌, append-nil, bytes_eq, is_eq, Less, refl, sym, ap, ap₂, subst, ◌∙◌, arith, length, ◌||◌, ◌↔◌, not, filter}
use Rattle.std.specs.List.{AllByRecursion, list_any}
use Rattle.std.specs.List.Sorted.{IsStrictlySortedBy}
use Rattle.std.specs.Map.{keys_of}
use Rattle.std.proofs.lemmas.Bool.{false≢true, true≢false, cases_Bool}
use Rattle.std.proofs.lemmas.Grind.{flat_map-append}
use Rattle.std.proofs.lemmas.Map.Text.{is_eq-slice_cmp}
use Rattle.std.proofs.lemmas.Map.Keys.{sorted_head, sorted_tail}
use Rattle.fts_words.specs.Order.{byte_order}
use Rattle.fts_cache.proofs.Queues.{which_word, is_same}
use Rattle.fts_cache.specs.Cache.{CacheState, postings_of}
use Rattle.fts_ilist.specs.Cursor.{postings_until}
use Rattle.fts_ids.specs.Ids.{has}
use Rattle.fts_lists.specs.State.{State, ids_of}
use Rattle.fts_lists.specs.declared.lists.DeleteList.TheVariants.{DeletedCache}
use Rattle.fts_ilist.specs.Spelling.{Posting}
use Rattle.fts_ilist.specs.Node.{Docs, nodes_for}
use Rattle.fts_ilist.specs.Packing.{packed, joined}
use Rattle.fts_ilist.proofs.Packs.{joined_packed}
use Rattle.fts_sync.specs.Leaving.{filled_word, filled_words, leaving_nodes, IsMade}
use Rattle.fts_sync.proofs.Until.{none_dead}

apart : (v w : List ℕ) → byte_order v w ≡ Less → bytes_eq v w ≡ false
apart v w less = sym (is_eq-slice_cmp v w) ∙ ap is_eq less

cons_not_nil : (n : Docs) (ns : List Docs) → n ∷ ns ≡ [] → ⊥
cons_not_nil n ns e = absurd (omega (arith, ap length e))

abbrev no_docs : List Docs
no_docs = []

nothing : (b : Bool) → no_docs ≡ cond b no_docs no_docs
nothing true = refl
nothing false = refl

module _ (nodes : List ℕ → List Docs) where
  keys_one : (P : List ℕ → Type 0) (w : List ℕ) (docs : List Docs) → P w → AllByRecursion P (keys_of (filled_word w docs))
  keys_one P w [] h = tt
  keys_one P w (n ∷ ns) h = (h, tt)

  keys_join : (P : List ℕ → Type 0) (front rest : List (List ℕ × List Docs)) → AllByRecursion P (keys_of front) → AllByRecursion P (keys_of rest) → AllByRecursion P (keys_of (front ++ rest))
  keys_join P [] rest h k = k
  keys_join P (e ∷ front) rest h k = (h.0, keys_join P front rest h.1 k)

  keys_all : (P : List ℕ → Type 0) (ws : List (List ℕ)) → AllByRecursion P ws → AllByRecursion P (keys_of (filled_words nodes ws))
  keys_all P [] h = tt
  keys_all P (w ∷ ws) h = keys_join P (filled_word w (nodes w)) (filled_words nodes ws) (keys_one P w (nodes w) h.0) (keys_all P ws h.1)

  -- they ascend where all do
  pub ascend : (ws : List (List ℕ)) → IsStrictlySortedBy byte_order ws → IsStrictlySortedBy byte_order (keys_of (filled_words nodes ws))
  unfolding IsStrictlySortedBy
  ascend [] h = tt
  ascend (w ∷ ws) h = by (nodes w) (keys_all (λ y. byte_order w y ≡ Less) ws h.0) (ascend ws h.1)
    where
      by : (docs : List Docs) → AllByRecursion (λ y. byte_order w y ≡ Less) (keys_of (filled_words nodes ws)) → IsStrictlySortedBy byte_order (keys_of (filled_words nodes ws))
          → IsStrictlySortedBy byte_order (keys_of (filled_word w docs ++ filled_words nodes ws))
      by [] behind rest = rest
      by (n ∷ ns) behind rest = (behind, rest)

  pub are_filled : (ws : List (List ℕ)) → AllByRecursion (λ e. e.1 ≢ []) (filled_words nodes ws)
  are_filled [] = tt
  are_filled (w ∷ ws) = by (nodes w) (are_filled ws)
    where
      by : (docs : List Docs) → AllByRecursion (λ e. e.1 ≢ []) (filled_words nodes ws) → AllByRecursion (λ e. e.1 ≢ []) (filled_word w docs ++ filled_words nodes ws)
      by [] rest = rest
      by (n ∷ ns) rest = ((λ (e : n ∷ ns ≡ []). cons_not_nil n ns e), rest)

  one_for : (word w : List ℕ) (docs : List Docs) → nodes_for word (filled_word w docs) ≡ cond (bytes_eq word w) docs []
  one_for word w [] = nothing (bytes_eq word w)
  one_for word w (n ∷ ns) = append-nil (cond (bytes_eq word w) (n ∷ ns) [])

  -- a word that is not among them has no nodes there
  none_for : (word : List ℕ) (ws : List (List ℕ)) → AllByRecursion (λ w. bytes_eq word w ≡ false) ws → nodes_for word (filled_words nodes ws) ≡ []
  none_for word [] h = refl
  none_for word (w ∷ ws) h =
      flat_map-append _ (filled_word w (nodes w)) (filled_words nodes ws)
      ∙ ap₂ (λ (x y : List Docs). x ++ y) (one_for word w (nodes w) ∙ ap (λ (b : Bool). cond b (nodes w) []) h.0) (none_for word ws h.1)

  -- one that is has its own
  pub found_for : (word : List ℕ) (ws : List (List ℕ)) → IsStrictlySortedBy byte_order ws → list_any (bytes_eq word) ws ≡ true → nodes_for word (filled_words nodes ws) ≡ nodes word
  found_for word [] up there = absurd (false≢true there)
  found_for word (w ∷ ws) up there =
      let behind = sorted_head byte_order w ws up in
      flat_map-append _ (filled_word w (nodes w)) (filled_words nodes ws)
      ∙ ap (λ (x : List Docs). x ++ nodes_for word (filled_words nodes ws)) (one_for word w (nodes w))
      ∙ ⊎_elim
      (λ (h : (bytes_eq word w ≡ true) × (word ≡ w)).
      ap₂ (λ (b : Bool) (x : List Docs). cond b (nodes w) [] ++ x) h.0 (none_for word ws (others w word (sym h.1) ws behind))
      ∙ append-nil (nodes w) ∙ ap nodes (sym h.1))
      (λ (h : (bytes_eq word w ≡ false) × (word ≢ w)).
      ap₂ (λ (b : Bool) (x : List Docs). cond b (nodes w) [] ++ x) h.0 (found_for word ws (sorted_tail byte_order w ws up) (later (bytes_eq word w) (list_any (bytes_eq word) ws) h.0 there)))
      (which_word word w)
    where
      later : (a b : Bool) → a ≡ false → (a || b) ≡ true → b ≡ true
      later true b h e = absurd (true≢false h)
      later false b h e = e

      others : (w word : List ℕ) → w ≡ word → (vs : List (List ℕ)) → AllByRecursion (λ y. byte_order w y ≡ Less) vs → AllByRecursion (λ v. bytes_eq word v ≡ false) vs
      others w word same [] h = tt
      others w word same (v ∷ vs) h = (subst (λ (x : List ℕ). bytes_eq x v ≡ false) same (apart w v h.0), others w word same vs h.1)

  pub absent_for : (word : List ℕ) (ws : List (List ℕ)) → list_any (bytes_eq word) ws ≡ false → nodes_for word (filled_words nodes ws) ≡ []
  absent_for word ws none = none_for word ws (each ws none)
    where
      each : (vs : List (List ℕ)) → list_any (bytes_eq word) vs ≡ false → AllByRecursion (λ v. bytes_eq word v ≡ false) vs
      each [] h = tt
      each (v ∷ vs) h = (left (bytes_eq word v) (list_any (bytes_eq word) vs) h, each vs (right (bytes_eq word v) (list_any (bytes_eq word) vs) h))
        where
          left : (a b : Bool) → (a || b) ≡ false → a ≡ false
          left true b e = e
          left false b e = refl

          right : (a b : Bool) → (a || b) ≡ false → b ≡ false
          right true b e = absurd (true≢false e)
          right false b e = e

-- a word that has nodes
pub one_filled : (word : List ℕ) (docs : List Docs) → docs ≢ [] → (word, docs) ∷ [] ≡ filled_word word docs
one_filled word [] some = absurd (some refl)
one_filled word (n ∷ ns) some = refl

-- words that have their nodes, each some
pub filled_are : (nodes : List ℕ → List Docs) (es : List (List ℕ × List Docs)) → AllByRecursion (λ (e : List ℕ × List Docs). (e.1 ≡ nodes e.0) × (e.1 ≢ [])) es → es ≡ filled_words nodes (keys_of es)
filled_are nodes [] h = refl
filled_are nodes (e ∷ es) h = ap₂ (λ (x y : List (List ℕ × List Docs)). x ++ y) (one_filled e.0 e.1 h.0.1 ∙ ap (filled_word e.0) h.0.0) (filled_are nodes es h.1)

-- ---- the words that leave a cache

-- they have nodes, since each has a document
pub made_are : (cache : CacheState) (doc : ℕ) (es : List (List ℕ × List Docs))
    → AllByRecursion (λ (e : List ℕ × List Docs). e.1 ≡ packed (postings_until doc (postings_of cache e.0))) es
    → ((w : List ℕ) → list_any (bytes_eq w) (keys_of es) ≡ true → postings_until doc (postings_of cache w) ≢ [])
    → AllByRecursion (λ (e : List ℕ × List Docs). IsMade cache doc e.0 e.1) es
made_are cache doc [] h among = tt
made_are cache doc (e ∷ es) h among = (
  record {
    same = h.0;
    some = λ none. among e.0 (here (bytes_eq e.0 e.0) (list_any (bytes_eq e.0) (keys_of es)) (is_same e.0)) (sym (joined_packed (postings_until doc (postings_of cache e.0))) ∙ ap joined (sym h.0 ∙ none));
  },
  made_are cache doc es h.1 (λ w there. among w (behind (bytes_eq w e.0) (list_any (bytes_eq w) (keys_of es)) there)),
)
  where
    here : (a b : Bool) → a ≡ true → (a || b) ≡ true
    here true b same = refl
    here false b same = absurd (false≢true same)

    behind : (a b : Bool) → b ≡ true → (a || b) ≡ true
    behind true b there = refl
    behind false b there = there

-- where nobody died
pub undead : (cache : CacheState) (doc : ℕ) (lists : State) → ids_of DeletedCache lists ≡ [] → (es : List (List ℕ × List Docs)) → AllByRecursion (λ (e : List ℕ × List Docs). IsMade cache doc e.0 e.1) es
    → AllByRecursion (λ (e : List ℕ × List Docs). (e.1 ≡ leaving_nodes cache doc lists e.0) × (e.1 ≢ [])) es
undead cache doc lists none [] h = tt
undead cache doc lists none (e ∷ es) h =
    ((h.0.same ∙ ap packed (none_dead doc (ids_of DeletedCache lists) (postings_of cache e.0) none), h.0.some), undead cache doc lists none es h.1)

pub exact_for : (cache : CacheState) (doc : ℕ) (lists : State) (ws : List (List ℕ)) → IsStrictlySortedBy byte_order ws
    → ((w : List ℕ) → (list_any (bytes_eq w) ws ≡ true) ↔ (postings_until doc (postings_of cache w) ≢ [])) → (word : List ℕ)
    → nodes_for word (filled_words (leaving_nodes cache doc lists) ws) ≡ leaving_nodes cache doc lists word
exact_for cache doc lists ws up among word =
    let nodes = leaving_nodes cache doc lists in
    ⊎_elim
    (λ (there : list_any (bytes_eq word) ws ≡ true). found_for nodes word ws up there)
    (λ (absent : list_any (bytes_eq word) ws ≡ false). absent_for nodes word ws absent
    ∙ none (postings_until doc (postings_of cache word)) (λ some. false≢true (sym absent ∙ (among word).1 some)))
    (cases_Bool (list_any (bytes_eq word) ws))
  where
    dead : List ℕ
    dead = ids_of DeletedCache lists

    none : (ps : List Posting) → (ps ≢ [] → ⊥) → [] ≡ packed (filter (λ p. not (has dead p.id)) ps)
    none [] h = refl
    none (p ∷ ps) h = absurd (h (λ e. absurd (omega (arith, ap length e))))
