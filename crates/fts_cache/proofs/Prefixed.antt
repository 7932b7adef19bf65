-- The words that begin with a prefix stand one after another.
use Rattle.std.proofs.Common.{◌≡◌, ◌≢◌, ◌↔◌, ⊎_elim, ℕ, Bool, true, false, cond, ◌&&◌, ◌||◌, IsTrue, List, [], ◌∷◌, ◌++◌, map, filter, append_assoc, refl, sym, ap, subst, ◌∙◌}
use Rattle.std.specs.Borrow.{Bor}
use Rattle.std.specs.List.{list_any}
use Rattle.std.specs.List.Sorted.{IsStrictlySortedBy}
use Rattle.std.specs.BTreeMap.{is_at}
use Rattle.std.specs.Str.{bytes_eq}
use Rattle.std.proofs.lemmas.List.Kept.{IsStrictlySortedBy-filter}
use Rattle.std.proofs.lemmas.Map.Text.{is_eq-slice_cmp}
use Rattle.fts_words.specs.Order.{byte_order, begins_with}
use Rattle.fts_ilist.specs.Front.{front}
use Rattle.fts_cache.specs.Sorted.{IsAmong, AscendByBytes}
use Rattle.fts_cache.specs.Words.{Entries, queue_in, has_documents, with_documents}
use Rattle.fts_ilist.proofs.Fronts.{Ascends, is_from, begun_is_from, front_of_rest}
use Rattle.fts_cache.proofs.Queues.{which_word}
use Rattle.fts_cache.proofs.Shown.{some_posting, some_from, both}

-- words that ascend, as elements that are their words
ascends_from : (ws : List (List ℕ)) → IsStrictlySortedBy byte_order ws → Ascends (λ (w : List ℕ). w) ws
unfolding IsStrictlySortedBy
ascends_from [] up = tt
ascends_from (w ∷ ws) up = (up.0, ascends_from ws up.1)

-- a step of the loop that takes words with a prefix
pub taken : (es : Entries) (p : List ℕ) (before after : List (List ℕ)) (w : List ℕ) (done all : List (List ℕ)) → before ≡ w ∷ after → begins_with p w ≡ true
    → done ++ with_documents es (front (λ w. w) p before) ≡ all
    → (done ++ cond (has_documents es w) (w ∷ []) []) ++ with_documents es (front (λ w. w) p after) ≡ all
taken es p before after w done all parts passes so =
    let rest = with_documents es (front (λ w. w) p after) in
    append_assoc done (cond (has_documents es w) (w ∷ []) []) rest
    ∙ ap (λ r. done ++ r) (one (has_documents es w) rest)
    ∙ ap (λ b. done ++ with_documents es (cond b (w ∷ front (λ w. w) p after) [])) (sym passes)
    ∙ ap (λ ws. done ++ with_documents es (front (λ w. w) p ws)) (sym parts)
    ∙ so
  where
    one : (b : Bool) (rest : List (List ℕ)) → cond b (w ∷ []) [] ++ rest ≡ cond b (w ∷ rest) rest
    one true rest = refl
    one false rest = refl

-- ---- which words these are

among_filter : (q : List ℕ → Bool) (w : List ℕ) (ws : List (List ℕ)) → list_any (bytes_eq w) (filter q ws) ≡ (q w && list_any (bytes_eq w) ws)
among_filter q w [] = none (q w)
  where
    none : (b : Bool) → false ≡ (b && false)
    none true = refl
    none false = refl
among_filter q w (v ∷ ws) =
    ⊎_elim
    (λ (m : (bytes_eq w v ≡ true) × (w ≡ v)). ap (λ (x : List ℕ). list_any (bytes_eq w) (cond (q x) (v ∷ filter q ws) (filter q ws))) (sym m.1)
    ∙ here (q w) m.0 (among_filter q w ws))
    (λ (m : (bytes_eq w v ≡ false) × (w ≢ v)). there (q v) m.0 (among_filter q w ws))
    (which_word w v)
  where
    here : (b : Bool) → bytes_eq w v ≡ true → list_any (bytes_eq w) (filter q ws) ≡ (b && list_any (bytes_eq w) ws)
        → list_any (bytes_eq w) (cond b (v ∷ filter q ws) (filter q ws)) ≡ (b && (bytes_eq w v || list_any (bytes_eq w) ws))
    here true m rest = ap (λ (x : Bool). x || list_any (bytes_eq w) (filter q ws)) m ∙ sym (ap (λ (x : Bool). x || list_any (bytes_eq w) ws) m)
    here false m rest = rest

    there : (b : Bool) → bytes_eq w v ≡ false → list_any (bytes_eq w) (filter q ws) ≡ (q w && list_any (bytes_eq w) ws)
        → list_any (bytes_eq w) (cond b (v ∷ filter q ws) (filter q ws)) ≡ (q w && (bytes_eq w v || list_any (bytes_eq w) ws))
    there true m rest = ap (λ (x : Bool). x || list_any (bytes_eq w) (filter q ws)) m ∙ rest ∙ sym (ap (λ (x : Bool). q w && (x || list_any (bytes_eq w) ws)) m)
    there false m rest = rest ∙ sym (ap (λ (x : Bool). q w && (x || list_any (bytes_eq w) ws)) m)

in_order : (w : List ℕ) (ws : List (List ℕ)) → list_any (bytes_eq w) ws ≡ list_any (is_at (byte_order w)) ws
in_order w [] = refl
in_order w (v ∷ ws) = ap (λ (b : Bool). b || list_any (bytes_eq w) ws) (sym (is_eq-slice_cmp w v)) ∙ ap (λ (b : Bool). is_at (byte_order w) v || b) (in_order w ws)

module _ (es : Entries) (keys : List (List ℕ)) (p : List ℕ) (r : List (List ℕ)) (found : List (Bor (List ℕ)))
    (listed : (w : List ℕ) → (queue_in es w).postings ≢ [] → list_any (is_at (byte_order w)) keys ≡ true) (ordered : IsStrictlySortedBy byte_order keys)
    (part : r ≡ filter (is_from p) keys) (is : map (λ (w : Bor (List ℕ)). w.now) found ≡ with_documents es (front (λ w. w) p r)) where
  abbrev from_p : List (List ℕ)
  from_p = filter (is_from p) keys

  whole : map (λ (w : Bor (List ℕ)). w.now) found ≡ with_documents es (filter (begins_with p) from_p)
  whole = is ∙ ap (λ ws. with_documents es (front (λ w. w) p ws)) part ∙ ap (with_documents es) (front_of_rest (λ (w : List ℕ). w) p keys (ascends_from from_p (IsStrictlySortedBy-filter byte_order (is_from p) keys ordered)))

  pub prefix_ascends : AscendByBytes found
  prefix_ascends =
      subst (IsStrictlySortedBy byte_order) (sym whole)
      (IsStrictlySortedBy-filter byte_order (has_documents es) (filter (begins_with p) from_p) (IsStrictlySortedBy-filter byte_order (begins_with p) from_p (IsStrictlySortedBy-filter byte_order (is_from p) keys ordered)))

  among_is : (w : List ℕ) → list_any (bytes_eq w) (map (λ (x : Bor (List ℕ)). x.now) found) ≡ (has_documents es w && (begins_with p w && (is_from p w && list_any (is_at (byte_order w)) keys)))
  among_is w =
      ap (list_any (bytes_eq w)) whole ∙ among_filter (has_documents es) w (filter (begins_with p) from_p)
      ∙ ap (λ (b : Bool). has_documents es w && b) (among_filter (begins_with p) w from_p ∙ ap (λ (b : Bool). begins_with p w && b) (among_filter (is_from p) w keys ∙ ap (λ (b : Bool). is_from p w && b) (in_order w keys)))

  all_true : (a b c d : Bool) → a ≡ true → b ≡ true → c ≡ true → d ≡ true → (a && (b && (c && d))) ≡ true
  all_true a b c d e f g h = ap (λ (x : Bool). x && (b && (c && d))) e ∙ ap (λ (x : Bool). x && (c && d)) f ∙ ap (λ (x : Bool). x && d) g ∙ h

  pub prefix_words : (w : List ℕ) → IsAmong w found ↔ (IsTrue (begins_with p w) × ((queue_in es w).postings ≢ []))
  prefix_words w = (
    λ e. let h = both (has_documents es w) _ (sym (among_is w) ∙ e) in
        ((both (begins_with p w) _ h.1).0, some_from (queue_in es w).postings h.0),
    λ h. among_is w ∙ all_true (has_documents es w) (begins_with p w) (is_from p w) (list_any (is_at (byte_order w)) keys) (some_posting (queue_in es w).postings h.1) h.0 (begun_is_from p w h.0) (listed w h.1),
  )
