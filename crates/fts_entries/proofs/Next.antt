-- The next batch: the words of the rows, each with its documents, and no other batch.
use Rattle.std.proofs.Common.{◌≡◌, ◌≢◌, ℕ, ◌<◌, Bool, true, false, cond, ◌||◌, bytes_eq, map, filter, List, [], ◌∷◌, ◌++◌, append-nil, length, take, refl, sym, ap, ap₂, subst, ◌∙◌, ⊎_elim, arith}
use Rattle.std.specs.Prelude.{fold}
use Rattle.std.specs.BTreeSet.{insert_key}
use Rattle.std.specs.List.{All, AllByRecursion, flat_map}
use Rattle.std.specs.List.Sorted.{IsStrictlySortedBy}
use Rattle.std.specs.Map.{keys_of}
use Rattle.std.specs.declared.cmp.Ordering.{Ordering}
use Rattle.std.specs.declared.cmp.Ordering.TheVariants.{Less, Equal, Greater}
use Rattle.std.specs.Ordering.{match_ordering, ordering_reverse}
use Rattle.std.specs.Cmp.Lexicographic.{nat_list_cmp_total, nat_list_eq_equiv}
use Rattle.std.proofs.Math.Bool.{or-false, or_self_left}
use Rattle.std.proofs.lemmas.Bool.{false≢true, or_cases, or_left, or_right, or_parts}
use Rattle.std.proofs.lemmas.List.Elements.{All-from_recursion}
use Rattle.std.proofs.lemmas.List.Folds.{list_any-append}
use Rattle.std.proofs.lemmas.Map.Keys.{sorted_head, sorted_tail}
use Rattle.std.proofs.lemmas.Map.Lookups.{exact_bytes}
use Rattle.std.proofs.lemmas.Slice.Eq.{bytes_eq-Decides}
use Rattle.fts_words.specs.declared.placed.PlacedWord.{PlacedWord}
use Rattle.fts_words.specs.Indexed.{Rules, indexed_words, word_of}
use Rattle.fts_words.specs.Order.{byte_order, is_among}
use Rattle.fts_types.specs.Row.{Row}
use Rattle.fts_commits.specs.Turn.{Turn}
use Rattle.fts_ilist.specs.Spelling.{Posting}
use Rattle.fts_ilist.specs.Node.{Docs, nodes_for}
use Rattle.fts_ilist.specs.Packing.{packed, joined}
use Rattle.fts_ilist.proofs.Packs.{joined_packed}
use Rattle.fts_entries.specs.Entry.{Batch, IndexState, sealed, unflushed_through}
use Rattle.fts_entries.specs.Batch.{IsBatch, alive_of, largest_after, next_through, next_entry, row_words, words_of, packed_words}
use Rattle.fts_entries.specs.Words.{positions_of, posting_at, row_postings, rows_postings}
use Rattle.fts_entries.proofs.One.{AllBehind, nothing_for, batches_one}

some_are : {X : Type 0} (x : X) (xs : List X) → x ∷ xs ≢ []
some_are x xs none = absurd (omega (arith, ap length none))

-- ---- words put into others in byte order

behind_put : (w k : List ℕ) (ks : List (List ℕ)) → byte_order w k ≡ Less → AllByRecursion (λ y. byte_order w y ≡ Less) ks → AllByRecursion (λ y. byte_order w y ≡ Less) (insert_key byte_order ks k)
behind_put w k [] less all = (less, tt)
behind_put w k (x ∷ ks) less all = by (byte_order k x) (behind_put w k ks less all.1)
  where
    by : (o : Ordering) → AllByRecursion (λ y. byte_order w y ≡ Less) (insert_key byte_order ks k)
        → AllByRecursion (λ y. byte_order w y ≡ Less) (match_ordering o (k ∷ x ∷ ks) (x ∷ ks) (x ∷ insert_key byte_order ks k))
    by Less rest = (less, all)
    by Equal rest = all
    by Greater rest = (all.0, rest)

behind_all : (k x : List ℕ) (ks : List (List ℕ)) → byte_order k x ≡ Less → AllByRecursion (λ y. byte_order x y ≡ Less) ks → AllByRecursion (λ y. byte_order k y ≡ Less) ks
behind_all k x [] less all = tt
behind_all k x (y ∷ ks) less all = (nat_list_cmp_total.trans k x y less all.0, behind_all k x ks less all.1)

pub sorted_put : (k : List ℕ) (ks : List (List ℕ)) → IsStrictlySortedBy byte_order ks → IsStrictlySortedBy byte_order (insert_key byte_order ks k)
unfolding IsStrictlySortedBy
sorted_put k [] up = (tt, tt)
sorted_put k (x ∷ ks) up = by (byte_order k x) refl (sorted_put k ks (sorted_tail byte_order x ks up))
  where
    by : (o : Ordering) → byte_order k x ≡ o → IsStrictlySortedBy byte_order (insert_key byte_order ks k)
        → IsStrictlySortedBy byte_order (match_ordering o (k ∷ x ∷ ks) (x ∷ ks) (x ∷ insert_key byte_order ks k))
    by Less e rest = ((e, behind_all k x ks e (sorted_head byte_order x ks up)), up)
    by Equal e rest = up
    by Greater e rest = (behind_put x k ks (nat_list_cmp_total.antisymm x k ∙ ap ordering_reverse e) (sorted_head byte_order x ks up), rest)

pub sorted_all : (ws ks : List (List ℕ)) → IsStrictlySortedBy byte_order ks → IsStrictlySortedBy byte_order (fold (insert_key byte_order) ks ws)
sorted_all [] ks up = up
sorted_all (w ∷ ws) ks up = sorted_all ws (insert_key byte_order ks w) (sorted_put w ks up)

or_swap : (a b c : Bool) → (a || (b || c)) ≡ (b || (a || c))
or_swap true true c = refl
or_swap true false c = refl
or_swap false b c = refl

or_move : (a b c : Bool) → ((a || b) || c) ≡ (b || (a || c))
or_move true true c = refl
or_move true false c = refl
or_move false b c = refl

pub among_put : (w k : List ℕ) (ks : List (List ℕ)) → is_among (insert_key byte_order ks k) w ≡ (bytes_eq k w || is_among ks w)
among_put w k [] = refl
among_put w k (x ∷ ks) = by (byte_order k x) refl (among_put w k ks)
  where
    by : (o : Ordering) → byte_order k x ≡ o → is_among (insert_key byte_order ks k) w ≡ (bytes_eq k w || is_among ks w)
        → is_among (match_ordering o (k ∷ x ∷ ks) (x ∷ ks) (x ∷ insert_key byte_order ks k)) w ≡ (bytes_eq k w || (bytes_eq x w || is_among ks w))
    by Less e rest = refl
    by Equal e rest =
        sym (or_self_left (bytes_eq x w) (is_among ks w)) ∙ ap (λ (v : List ℕ). bytes_eq v w || (bytes_eq x w || is_among ks w)) (sym (exact_bytes k x e))
    by Greater e rest = ap (λ (b : Bool). bytes_eq x w || b) rest ∙ or_swap (bytes_eq x w) (bytes_eq k w) (is_among ks w)

pub among_all : (w : List ℕ) (ws ks : List (List ℕ)) → is_among (fold (insert_key byte_order) ks ws) w ≡ (is_among ks w || is_among ws w)
among_all w [] ks = sym (or-false (is_among ks w))
among_all w (v ∷ ws) ks =
    among_all w ws (insert_key byte_order ks v) ∙ ap (λ (b : Bool). b || is_among ws w) (among_put w v ks) ∙ or_move (bytes_eq v w) (is_among ks w) (is_among ws w)

-- ---- a word that rows have, and one that none has

module _ (texts : List (List ℕ)) (word : List ℕ) where
  abbrev places : List PlacedWord → List ℕ
  places found = map (λ f. f.position) (filter (λ f. bytes_eq word (word_of texts f)) found)

  none_at : (found : List PlacedWord) → is_among (map (word_of texts) found) word ≡ false → places found ≡ []
  none_at [] none = refl
  none_at (f ∷ found) none =
      let parts = or_parts (bytes_eq (word_of texts f) word) (is_among (map (word_of texts) found) word) none in
      let passing : List PlacedWord = filter (λ g. bytes_eq word (word_of texts g)) found in
      ap (λ (b : Bool). map (λ (g : PlacedWord). g.position) (cond b (f ∷ passing) passing)) (nat_list_eq_equiv.symm word (word_of texts f) ∙ parts.0) ∙ none_at found parts.1

  some_at : (found : List PlacedWord) → is_among (map (word_of texts) found) word ≡ true → places found ≢ []
  some_at [] some = λ none. false≢true some
  some_at (f ∷ found) some = by (bytes_eq word (word_of texts f)) (bytes_eq (word_of texts f) word) (nat_list_eq_equiv.symm word (word_of texts f)) some (some_at found)
    where
      passing : List PlacedWord
      passing = filter (λ g. bytes_eq word (word_of texts g)) found

      by : (b c : Bool) → b ≡ c → (c || is_among (map (word_of texts) found) word) ≡ true → (is_among (map (word_of texts) found) word ≡ true → places found ≢ [])
          → map (λ (g : PlacedWord). g.position) (cond b (f ∷ passing) passing) ≢ []
      by true c e there later = some_are f.position (map (λ (g : PlacedWord). g.position) passing)
      by false true e there later = absurd (false≢true e)
      by false false e there later = later there

posting_some : (doc : ℕ) (positions : List ℕ) → positions ≢ [] → posting_at doc positions ≢ []
posting_some doc [] some = λ none. some refl
posting_some doc (position ∷ positions) some = some_are (record { id = doc; positions = position ∷ positions }) []

front_none : {X : Type 0} (xs ys : List X) → xs ++ ys ≡ [] → xs ≡ []
front_none [] ys none = refl
front_none (x ∷ xs) ys none = absurd (some_are x (xs ++ ys) none)

rest_none : {X : Type 0} (xs ys : List X) → xs ++ ys ≡ [] → ys ≡ []
rest_none [] ys none = none
rest_none (x ∷ xs) ys none = absurd (some_are x (xs ++ ys) none)

module _ (rules : Rules) (word : List ℕ) where
  pub none_of : (rows : List Row) → is_among (flat_map (row_words rules) rows) word ≡ false → rows_postings rules word rows ≡ []
  none_of [] none = refl
  none_of (row ∷ rows) none =
      let parts = or_parts (is_among (row_words rules row) word) (is_among (flat_map (row_words rules) rows) word)
      (sym (list_any-append (λ other. bytes_eq other word) (row_words rules row) (flat_map (row_words rules) rows)) ∙ none) in
      ap₂ (λ (positions : List ℕ) (ps : List Posting). posting_at row.doc positions ++ ps) (none_at row.texts word (indexed_words rules row.texts) parts.0) (none_of rows parts.1)

  pub some_of : (rows : List Row) → is_among (flat_map (row_words rules) rows) word ≡ true → rows_postings rules word rows ≢ []
  some_of [] some none = false≢true some
  some_of (row ∷ rows) some none =
      ⊎_elim
      (λ (here : is_among (row_words rules row) word ≡ true). posting_some row.doc (positions_of rules row.texts word) (some_at row.texts word (indexed_words rules row.texts) here)
      (front_none (row_postings rules word row) (rows_postings rules word rows) none))
      (λ (later : is_among (flat_map (row_words rules) rows) word ≡ true). some_of rows later (rest_none (row_postings rules word row) (rows_postings rules word rows) none))
      (or_cases (is_among (row_words rules row) word) (is_among (flat_map (row_words rules) rows) word)
      (sym (list_any-append (λ other. bytes_eq other word) (row_words rules row) (flat_map (row_words rules) rows)) ∙ some))

pub packed_some : (ps : List Posting) → ps ≢ [] → packed ps ≢ []
packed_some ps some none = some (sym (joined_packed ps) ∙ ap joined none)

-- ---- words, each with what is made of it

module _ (nodes : List ℕ → List Docs) where
  abbrev with_nodes : List (List ℕ) → Batch
  with_nodes words = map (λ word. (word, nodes word)) words

  keys_are : (words : List (List ℕ)) → keys_of (with_nodes words) ≡ words
  keys_are [] = refl
  keys_are (word ∷ words) = ap (λ (ws : List (List ℕ)). word ∷ ws) (keys_are words)

  pub for_word : (words : List (List ℕ)) → IsStrictlySortedBy byte_order words → (q : List ℕ) → nodes_for q (with_nodes words) ≡ cond (is_among words q) (nodes q) []
  for_word [] up q = refl
  for_word (word ∷ words) up q = by (bytes_eq q word) refl (for_word words (sorted_tail byte_order word words up) q)
    where
      behind : AllBehind word (with_nodes words)
      behind = subst (AllByRecursion (λ w. byte_order word w ≡ Less)) (sym (keys_are words)) (sorted_head byte_order word words up)

      by : (b : Bool) → bytes_eq q word ≡ b → nodes_for q (with_nodes words) ≡ cond (is_among words q) (nodes q) []
          → cond (bytes_eq q word) (nodes word) [] ++ nodes_for q (with_nodes words) ≡ cond (bytes_eq word q || is_among words q) (nodes q) []
      by true e rest =
          let same : q ≡ word = (bytes_eq-Decides q word).0 e in
          ap₂ (λ (b : Bool) (ns : List Docs). cond b (nodes word) [] ++ ns) e (nothing_for q (with_nodes words) (subst (λ (w : List ℕ). AllBehind w (with_nodes words)) (sym same) behind))
          ∙ append-nil (nodes word)
          ∙ ap nodes (sym same)
          ∙ ap (λ (b : Bool). cond (b || is_among words q) (nodes q) []) (sym (nat_list_eq_equiv.symm word q ∙ e))
      by false e rest =
          ap (λ (b : Bool). cond b (nodes word) [] ++ nodes_for q (with_nodes words)) e ∙ rest
          ∙ ap (λ (b : Bool). cond (b || is_among words q) (nodes q) []) (sym (nat_list_eq_equiv.symm word q ∙ e))

  all_filled : (words : List (List ℕ)) → ((q : List ℕ) → is_among words q ≡ true → nodes q ≢ []) → AllByRecursion (λ g. g.1 ≢ []) (with_nodes words)
  all_filled [] some = tt
  all_filled (word ∷ words) some = (
    some word (or_left (bytes_eq word word) (is_among words word) (nat_list_eq_equiv.refl word)),
    all_filled words (λ q there. some q (or_right (bytes_eq word q) (is_among words q) there)),
  )

-- ---- the words of rows

module _ (rules : Rules) (rows : List Row) where
  words_ascend : IsStrictlySortedBy byte_order (words_of rules rows)
  unfolding IsStrictlySortedBy
  words_ascend = sorted_all (flat_map (row_words rules) rows) [] tt

  words_are : (word : List ℕ) → is_among (words_of rules rows) word ≡ is_among (flat_map (row_words rules) rows) word
  words_are word = among_all word (flat_map (row_words rules) rows) []

  abbrev nodes_of : List ℕ → List Docs
  nodes_of word = packed (rows_postings rules word rows)

  pub packed_ascending : IsStrictlySortedBy byte_order (keys_of (packed_words rules rows))
  packed_ascending = subst (IsStrictlySortedBy byte_order) (sym (keys_are nodes_of (words_of rules rows))) words_ascend

  pub packed_filled : All (λ g. g.1 ≢ []) (packed_words rules rows)
  packed_filled = All-from_recursion (λ (g : List ℕ × List Docs). g.1 ≢ []) (packed_words rules rows) (all_filled nodes_of (words_of rules rows)
      (λ word there. packed_some (rows_postings rules word rows) (some_of rules word rows (sym (words_are word) ∙ there))))

  pub packed_nodes : (word : List ℕ) → nodes_for word (packed_words rules rows) ≡ nodes_of word
  packed_nodes word = for_word nodes_of (words_of rules rows) words_ascend word ∙ by (is_among (words_of rules rows) word) refl
    where
      by : (b : Bool) → is_among (words_of rules rows) word ≡ b → cond b (nodes_of word) [] ≡ nodes_of word
      by true e = refl
      by false e = sym (ap packed (none_of rules word rows (sym (words_are word) ∙ e)))

-- ---- the next batch

pub is_next : (rules : Rules) (limit : ℕ) (turns : List Turn) (s : IndexState) → s.flushed < length turns
    → IsBatch rules limit turns s (next_through limit turns s) (largest_after 0 (take (next_through limit turns s) turns))
    (packed_words rules (alive_of turns (unflushed_through (next_through limit turns s) turns s)))
is_next rules limit turns s some =
    let rows : List Row = alive_of turns (unflushed_through (next_through limit turns s) turns s) in
    record {
      some = some;
      through_is = refl;
      synced_is = refl;
      words = packed_ascending rules rows;
      filled = packed_filled rules rows;
      nodes = packed_nodes rules rows;
    }

pub one_next : (rules : Rules) (limit : ℕ) (turns : List Turn) (s : IndexState) (through synced : ℕ) (batch : Batch) → IsBatch rules limit turns s through synced batch
    → sealed through synced batch ≡ next_entry rules limit turns s
one_next rules limit turns s through synced batch is =
    let next = is_next rules limit turns s is.some in
    let through_eq : through ≡ next_through limit turns s = is.through_is in
    let synced_eq : synced ≡ largest_after 0 (take (next_through limit turns s) turns) = is.synced_is ∙ ap (λ (n : ℕ). largest_after 0 (take n turns)) through_eq in
    let batch_eq : batch ≡ packed_words rules (alive_of turns (unflushed_through (next_through limit turns s) turns s)) =
    batches_one batch (packed_words rules (alive_of turns (unflushed_through (next_through limit turns s) turns s)))
    (record { ascend = is.words; filled = is.filled }) (record { ascend = next.words; filled = next.filled })
    (λ word. is.nodes word ∙ ap (λ (n : ℕ). packed (rows_postings rules word (alive_of turns (unflushed_through n turns s)))) through_eq ∙ sym (next.nodes word)) in
    λ i. sealed (through_eq i) (synced_eq i) (batch_eq i)
