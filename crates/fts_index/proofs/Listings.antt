-- Words with what is listed of each.
use Rattle.std.proofs.Common.{◌≡◌, ◌≢◌, ◌↔◌, ℕ, Bool, true, false, cond, ◌||◌, List, [], ◌∷◌, map, length, bytes_eq, Some, refl, sym, ap, subst, ◌∙◌, ⊎_elim, arith, IsTrue}
use Rattle.std.specs.Borrow.{Bor}
use Rattle.std.specs.List.{AllByRecursion, list_any}
use Rattle.std.specs.List.Sorted.{IsStrictlySortedBy}
use Rattle.std.specs.Map.{keys_of, lookup}
use Rattle.std.specs.Option.{unwrap_or}
use Rattle.std.specs.BTreeMap.{is_at}
use Rattle.std.proofs.lemmas.Bool.{cases_Bool, false≢true, or_right}
use Rattle.std.proofs.lemmas.List.Elements.{All-from_recursion}
use Rattle.std.proofs.lemmas.Map.Text.{is_eq-slice_cmp}
use Rattle.std.proofs.lemmas.Slice.Eq.{bytes_eq-Decides}
use Rattle.fts_words.specs.Order.{byte_order, begins_with}
use Rattle.fts_ilist.specs.Spelling.{Posting}
use Rattle.fts_ilist.specs.Node.{Docs, NodesAfter}
use Rattle.fts_cache.specs.Cache.{CacheState, postings_of}
use Rattle.fts_cache.specs.Sorted.{IsAmong, AscendByBytes}
use Rattle.fts_cache.proofs.Queues.{is_same}
use Rattle.fts_aux.specs.Words.{IsListing, nodes_at}
use Rattle.fts_listing.specs.Listing.{one_group}
use Rattle.fts_index.proofs.Gathering.{listed_all, listed_some}

pub begins_empty : (w : List ℕ) → begins_with [] w ≡ true
begins_empty [] = refl
begins_empty (x ∷ w) = refl

no_docs : (ns : List Docs) → (ns ≢ [] → ⊥) → ns ≡ []
no_docs [] h = refl
no_docs (n ∷ ns) h = absurd (h (λ e. absurd (omega (arith, ap length e))))

pub mapped_twice : {X Y Z : Type 0} (g : Y → Z) (f : X → Y) (xs : List X) → map g (map f xs) ≡ map (λ x. g (f x)) xs
mapped_twice g f [] = refl
mapped_twice g f (x ∷ xs) = ap (λ (ys : List _). g (f x) ∷ ys) (mapped_twice g f xs)

module _ (f : List ℕ → List Docs) where
  abbrev pub listed_of : List (List ℕ) → List (List ℕ × List Docs)
  listed_of ws = map (λ w. (w, f w)) ws

  keys_are : (ws : List (List ℕ)) → keys_of (listed_of ws) ≡ ws
  keys_are [] = refl
  keys_are (w ∷ ws) = ap (λ (vs : List (List ℕ)). w ∷ vs) (keys_are ws)

  all_filled : (ws : List (List ℕ)) → ((w : List ℕ) → list_any (bytes_eq w) ws ≡ true → f w ≢ []) → AllByRecursion (λ e. e.1 ≢ []) (listed_of ws)
  all_filled [] h = tt
  all_filled (w ∷ ws) h = (h w (ap (λ (b : Bool). b || list_any (bytes_eq w) ws) (is_same w)), all_filled ws (λ v there. h v (or_right (bytes_eq v w) (list_any (bytes_eq v) ws) there)))

  found_at : (word : List ℕ) (ws : List (List ℕ)) → list_any (bytes_eq word) ws ≡ true → nodes_at word (listed_of ws) ≡ f word
  found_at word [] there = absurd (false≢true there)
  found_at word (w ∷ ws) there =
      ⊎_elim
      (λ (yes : bytes_eq word w ≡ true).
      ap (λ (b : Bool). unwrap_or (cond b (Some (f w)) (lookup (is_at (byte_order word)) (listed_of ws))) []) (is_eq-slice_cmp word w ∙ yes)
      ∙ ap f (sym ((bytes_eq-Decides word w).0 yes)))
      (λ (no : bytes_eq word w ≡ false).
      ap (λ (b : Bool). unwrap_or (cond b (Some (f w)) (lookup (is_at (byte_order word)) (listed_of ws))) []) (is_eq-slice_cmp word w ∙ no)
      ∙ found_at word ws (sym (ap (λ (b : Bool). b || list_any (bytes_eq word) ws) no) ∙ there))
      (cases_Bool (bytes_eq word w))

  absent_at : (word : List ℕ) (ws : List (List ℕ)) → list_any (bytes_eq word) ws ≡ false → nodes_at word (listed_of ws) ≡ []
  absent_at word [] none = refl
  absent_at word (w ∷ ws) none =
      ap (λ (b : Bool). unwrap_or (cond b (Some (f w)) (lookup (is_at (byte_order word)) (listed_of ws))) []) (is_eq-slice_cmp word w ∙ first (bytes_eq word w) (list_any (bytes_eq word) ws) none)
      ∙ absent_at word ws (second (bytes_eq word w) (list_any (bytes_eq word) ws) none)
    where
      first : (a b : Bool) → (a || b) ≡ false → a ≡ false
      first true b x = x
      first false b x = refl

      second : (a b : Bool) → (a || b) ≡ false → b ≡ false
      second true b x = absurd (false≢true (sym x))
      second false b x = x

  -- all words that have something, in byte order, each with what it has
  pub lists_all : (ws : List (List ℕ)) → IsStrictlySortedBy byte_order ws → ((w : List ℕ) → list_any (bytes_eq w) ws ≡ true → f w ≢ []) → ((w : List ℕ) → f w ≢ [] → list_any (bytes_eq w) ws ≡ true)
      → IsListing f [] (listed_of ws)
  lists_all ws up some all = record {
    ascending = subst (IsStrictlySortedBy byte_order) (sym (keys_are ws)) up;
    filled = All-from_recursion (λ (e : List ℕ × List Docs). e.1 ≢ []) (listed_of ws) (all_filled ws some);
    exact = λ word. ⊎_elim
        (λ (yes : list_any (bytes_eq word) ws ≡ true). found_at word ws yes)
        (λ (no : list_any (bytes_eq word) ws ≡ false). absent_at word ws no ∙ sym (no_docs (f word) (λ has_some. false≢true (sym no ∙ all word has_some))))
        (cases_Bool (list_any (bytes_eq word) ws))
        ∙ sym (ap (λ (b : Bool). cond b (f word) []) (begins_empty word));
  }

  -- the words of a listing with what each has are a listing
  pub lists_again : (listing : List (List ℕ × List Docs)) → IsListing f [] listing → IsListing f [] (listed_of (keys_of listing))
  lists_again listing is =
      lists_all (keys_of listing) is.ascending
      (λ w there none. listed_some f [] listing is w there (none))
      (λ w some. listed_all f [] listing is w (begins_empty w) some)

some_group : (ps : List Posting) → ps ≢ [] → one_group ps ≢ []
some_group [] some none = some refl
some_group (p ∷ ps) some none = absurd (omega (arith, ap length none))

group_some : (ps : List Posting) → one_group ps ≢ [] → ps ≢ []
group_some [] some none = some refl
group_some (p ∷ ps) some none = absurd (omega (arith, ap length none))

pub lists_cached : (cache : CacheState) (words : List (Bor (List ℕ))) → AscendByBytes words → ((w : List ℕ) → IsAmong w words ↔ (IsTrue (begins_with [] w) × (postings_of cache w ≢ [])))
    → IsListing (λ w. one_group (postings_of cache w)) [] (listed_of (λ w. one_group (postings_of cache w)) (map (λ w. w.now) words))
lists_cached cache words up among =
    lists_all (λ w. one_group (postings_of cache w)) (map (λ (w : Bor (List ℕ)). w.now) words) up
    (λ w there. some_group (postings_of cache w) ((among w).0 there).1)
    (λ w some. (among w).1 (begins_empty w, group_some (postings_of cache w) some))

-- nodes that ascend have documents
pub nodes_filled : (last : ℕ) (ns : List Docs) → NodesAfter last ns → AllByRecursion (λ docs. docs ≢ []) ns
nodes_filled last [] after = tt
nodes_filled last ([] ∷ ns) after = absurd after.0
nodes_filled last ((p ∷ ps) ∷ ns) after = ((λ (e : p ∷ ps ≡ []). absurd (omega (arith, ap length e))), nodes_filled _ ns after.1)
