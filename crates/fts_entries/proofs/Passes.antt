-- The steps of a pass keep an index right.
use Rattle.std.proofs.Common.{◌≡◌, ◌≢◌, ℕ, ◌≤◌, ◌⊎◌, inl, inr, ⊎_elim, Bool, true, false, cond, not, ◌&&◌, ◌||◌, if◌then◌else◌, filter, bytes_eq, List, [], ◌∷◌, ◌++◌, take, refl, sym, ap, ap₂, subst, ◌∙◌, arith, length, Option, Some, None}
use Rattle.std.specs.List.{All, AllByRecursion, Contains}
use Rattle.std.specs.Option.{unwrap_or}
use Rattle.std.specs.Ordering.{is_eq, is_gt, ordering_reverse}
use Rattle.std.specs.declared.cmp.Ordering.{Ordering}
use Rattle.std.specs.declared.cmp.Ordering.TheVariants.{Less, Equal, Greater}
use Rattle.std.proofs.lemmas.Bool.{false≢true, true≢false, or_left}
use Rattle.std.proofs.lemmas.Cmp.{nat_list_cmp_total}
use Rattle.std.proofs.lemmas.List.{take-append-drop}
use Rattle.std.proofs.lemmas.Map.Text.{is_eq-slice_cmp}
use Rattle.std.proofs.lemmas.List.Elements.{filter-append, filter_agree, All-filter, recursion_from_All, All-from_recursion}
use Rattle.std.proofs.lemmas.Slice.Eq.{bytes_eq-Decides}
use Rattle.fts_words.specs.Indexed.{Rules}
use Rattle.fts_words.specs.Order.{byte_order}
use Rattle.fts_types.specs.Row.{Row}
use Rattle.fts_commits.specs.Turn.{Turn, AreTurns, births_of, deaths_of}
use Rattle.fts_ids.specs.Ids.{has}
use Rattle.fts_lists.proofs.Ascending.{has-without}
use Rattle.fts_ilist.specs.Changes.{is_among, postings_without}
use Rattle.fts_ilist.specs.Spelling.{Posting}
use Rattle.fts_ilist.specs.Node.{Docs}
use Rattle.fts_ilist.specs.Packing.{joined}
use Rattle.fts_ilist.proofs.Packs.{joined_packed}
use Rattle.fts_aux.specs.Words.{IsNext}
use Rattle.fts_entries.specs.Entry.{IndexState, begun, worked, finished, after_entry, unflushed}
use Rattle.fts_entries.specs.Batch.{largest_after}
use Rattle.fts_entries.specs.Exact.{is_deleted, FitsTurns, IsExact, LiveAreOf, IsPassed, IdsAfter}
use Rattle.fts_entries.specs.Pass.{place_of, IsWord, CanFinish}
use Rattle.fts_entries.specs.Words.{rows_postings}
use Rattle.fts_entries.proofs.Filters.{same_left, left_twice, leads}
use Rattle.fts_entries.proofs.Packing.{after_left}
use Rattle.fts_entries.proofs.Postings.{IsBetween, rows_between}
use Rattle.fts_entries.proofs.Turns.{two_parts, births_ascend, asked_so}
use Rattle.fts_entries.proofs.Batches.{fails}

-- ---- the begin

pub begin_fits : (turns : List Turn) (s : IndexState) → FitsTurns turns s → FitsTurns turns (after_entry turns s begun)
begin_fits turns s fits = record {
  flushed = fits.flushed;
  synced = fits.synced;
  tables = fits.tables;
  ascend = fits.ascend;
  no_empty = fits.no_empty;
  deleted = fits.deleted;
  being = λ id there. there;
  passed = λ word past. absurd past;
}

pub begin_exact : (rules : Rules) (rows : List Row) (turns : List Turn) (s : IndexState) → IsExact rules rows turns s → IsExact rules rows turns (after_entry turns s begun)
begin_exact rules rows turns s exact = record { live = exact.live; tables = exact.tables }

-- ---- where words stand to one another

not_behind : (o : Ordering) → (o ≡ Less → ⊥) → is_gt (ordering_reverse o) ≡ false
not_behind Less h = absurd (h refl)
not_behind Equal h = refl
not_behind Greater h = refl

-- a word is behind a place, or it is not
behind_or_not : (place word : List ℕ) → (byte_order place word ≡ Less) ⊎ (is_gt (byte_order word place) ≡ false)
behind_or_not place word = by (byte_order place word) refl
  where
    by : (o : Ordering) → byte_order place word ≡ o → (byte_order place word ≡ Less) ⊎ (is_gt (byte_order word place) ≡ false)
    by Less e = inl e
    by Equal e = inr (ap is_gt (nat_list_cmp_total.antisymm word place ∙ ap ordering_reverse e))
    by Greater e = inr (ap is_gt (nat_list_cmp_total.antisymm word place ∙ ap ordering_reverse e))

less_is_gt : (v w : List ℕ) → byte_order v w ≡ Less → is_gt (byte_order w v) ≡ true
less_is_gt v w less = ap is_gt (nat_list_cmp_total.antisymm w v ∙ ap ordering_reverse less)

-- a word that is not before the empty one, and not behind it either, is empty
empty_first : (word : List ℕ) → is_gt (byte_order word []) ≡ false → word ≡ []
empty_first [] h = refl
empty_first (b ∷ bs) h = absurd (true≢false h)

-- what is known of the documents of a word that is not behind the place
module _ (turns : List Turn) (s : IndexState) (fits : FitsTurns turns s) where
  abbrev IsClean : List ℕ → Type 0
  IsClean word = All (λ p. has s.being_deleted p.id ≡ false) (joined (s.nodes word))

  no_documents : (word : List ℕ) → s.nodes word ≡ [] → IsClean word
  no_documents word none = subst (λ (ns : List Docs). All (λ p. has s.being_deleted p.id ≡ false) (joined ns)) (sym none) (λ k d less. absurd (omega (arith, less)))

  up_to_place : (word : List ℕ) → is_gt (byte_order word (place_of s)) ≡ false → IsClean word
  up_to_place word upto = by s.checkpoint refl
    where
      by : (place : Option (List ℕ)) → s.checkpoint ≡ place → IsClean word
      by None e =
          let empty : word ≡ [] = empty_first word (subst (λ (o : Option (List ℕ)). is_gt (byte_order word (unwrap_or o [])) ≡ false) e upto) in
          no_documents word (ap s.nodes empty ∙ fits.no_empty)
      by (Some place) e =
          fits.passed word (subst (λ (o : Option (List ℕ)). IsPassed o word) (sym e) (subst (λ (o : Option (List ℕ)). is_gt (byte_order word (unwrap_or o [])) ≡ false) e upto))

  -- no word behind the place has nodes: all are clean
  pub all_clean : CanFinish s → (word : List ℕ) → IsClean word
  all_clean can word =
      ⊎_elim (λ (behind : byte_order (place_of s) word ≡ Less). no_documents word (can.last word behind))
      (λ (upto : is_gt (byte_order word (place_of s)) ≡ false). up_to_place word upto)
      (behind_or_not (place_of s) word)

  -- a word before the next one has none of the pass
  before_next : (word next : List ℕ) → IsNext s.nodes (place_of s) next → byte_order word next ≡ Less → IsClean word
  before_next word next is less =
      ⊎_elim (λ (behind : byte_order (place_of s) word ≡ Less). no_documents word (none (s.nodes word) (is.least word behind)))
      (λ (upto : is_gt (byte_order word (place_of s)) ≡ false). up_to_place word upto)
      (behind_or_not (place_of s) word)
    where
      none : (nodes : List Docs) → (nodes ≢ [] → is_gt (byte_order next word) ≡ false) → nodes ≡ []
      none [] h = refl
      none (n ∷ ns) h = absurd (true≢false (sym (less_is_gt word next less) ∙ h (λ e. absurd (omega (arith, ap length e)))))

-- ---- a word

both_tests : (being deleted : Bool) → (being ≡ true → deleted ≡ true) → (not being && not deleted) ≡ not deleted
both_tests true deleted leads_to = ap not (sym (leads_to refl))
both_tests false deleted leads_to = refl

module _ (turns : List Turn) (s : IndexState) (word : List ℕ) (new : List Docs) (fits : FitsTurns turns s) (is : IsWord s word new) where
  abbrev worked_on : IndexState
  worked_on = after_entry turns s (worked word new)

  abbrev kept : List Posting
  kept = postings_without s.being_deleted (joined (s.nodes word))

  new_joined : joined new ≡ kept
  new_joined = ap joined is.new_is ∙ joined_packed kept

  -- of each word the postings are as they were, or those that the pass keeps
  by_word : (P : List ℕ → List Posting → Type 0) → P word kept → ((w : List ℕ) → bytes_eq w word ≡ false → P w (joined (s.nodes w))) → (w : List ℕ) → P w (joined (worked_on.nodes w))
  by_word P here others w = by (bytes_eq w word) refl
    where
      by : (b : Bool) → bytes_eq w word ≡ b → P w (joined (if b then new else s.nodes w))
      by true e = subst (λ (v : List ℕ). P v (joined new)) (sym ((bytes_eq-Decides w word).0 e)) (subst (P word) (sym new_joined) here)
      by false e = others w e

  still_gone : (id : ℕ) → has s.being_deleted id ≡ true → is_deleted turns s id ≡ true
  still_gone id there = or_left (has s.deleted id) (has (deaths_of (unflushed turns s)) id) (fits.being id there)

  -- a filter by what is not deleted does not see what the pass takes out
  unseen : (ps : List Posting) → filter (λ p. not (is_deleted turns s p.id)) (postings_without s.being_deleted ps) ≡ filter (λ p. not (is_deleted turns s p.id)) ps
  unseen ps =
      left_twice (λ p. not (is_deleted turns s p.id)) (λ p. not (is_among s.being_deleted p.id)) ps
      ∙ filter_agree (λ p. not (is_among s.being_deleted p.id) && not (is_deleted turns s p.id)) (λ p. not (is_deleted turns s p.id))
      (λ p. ap (λ (b : Bool). not b && not (is_deleted turns s p.id)) (asked_so p.id s.being_deleted)
      ∙ both_tests (has s.being_deleted p.id) (is_deleted turns s p.id) (still_gone p.id)) ps

  pub word_exact : (rules : Rules) (rows : List Row) → IsExact rules rows turns s → IsExact rules rows turns worked_on
  word_exact rules rows exact =
      let left = λ (p : Posting). not (is_deleted turns s p.id) in
      let cache = λ (v : List ℕ). rows_postings rules v (births_of (unflushed turns s)) in
      let Born = λ (v : List ℕ). Contains (rows_postings rules v (births_of (take s.flushed turns))) in
      record {
        live = by_word (λ v ps. filter left (ps ++ cache v) ≡ rows_postings rules v rows)
            (filter_append_left left kept (joined (s.nodes word)) (cache word) (unseen (joined (s.nodes word))) ∙ exact.live word)
            (λ v e. exact.live v);
        tables = by_word (λ v ps. All (Born v) ps)
            (All-filter (λ (p : Posting). not (is_among s.being_deleted p.id)) (Born word) (joined (s.nodes word)) (exact.tables word))
            (λ v e. exact.tables v);
      }
    where
      filter_append_left : (test : Posting → Bool) (xs ys rest : List Posting) → filter test xs ≡ filter test ys → filter test (xs ++ rest) ≡ filter test (ys ++ rest)
      filter_append_left test xs ys rest same = filter-append test xs rest ∙ ap (λ (l : List Posting). l ++ filter test rest) same ∙ sym (filter-append test ys rest)

  left_out : (ps : List Posting) → AllByRecursion (λ p. has s.being_deleted p.id ≡ false) (postings_without s.being_deleted ps)
  left_out [] = tt
  left_out (p ∷ ps) = by (is_among s.being_deleted p.id) refl (left_out ps)
    where
      by : (b : Bool) → is_among s.being_deleted p.id ≡ b → AllByRecursion (λ q. has s.being_deleted q.id ≡ false) (postings_without s.being_deleted ps)
          → AllByRecursion (λ q. has s.being_deleted q.id ≡ false) (cond (not b) (p ∷ postings_without s.being_deleted ps) (postings_without s.being_deleted ps))
      by true e rest = rest
      by false e rest = (sym (asked_so p.id s.being_deleted) ∙ e, rest)

  pub word_fits : FitsTurns turns worked_on
  word_fits = record {
    flushed = fits.flushed;
    synced = fits.synced;
    tables = by_word (λ v ps. All (λ p. p.id ≤ s.synced) ps)
        (All-filter (λ (p : Posting). not (is_among s.being_deleted p.id)) (λ (p : Posting). p.id ≤ s.synced) (joined (s.nodes word)) (fits.tables word))
        (λ v e. fits.tables v);
    ascend = by_word (λ v ps. IdsAfter 0 ps) (after_left (λ p. not (is_among s.being_deleted p.id)) 0 (joined (s.nodes word)) (fits.ascend word)) (λ v e. fits.ascend v);
    no_empty = empty (bytes_eq [] word) refl;
    deleted = fits.deleted;
    being = fits.being;
    passed = λ w past. by_word (λ v ps. is_gt (byte_order v word) ≡ false → All (λ p. has s.being_deleted p.id ≡ false) ps)
        (λ upto. All-from_recursion (λ (p : Posting). has s.being_deleted p.id ≡ false) kept (left_out (joined (s.nodes word))))
        (λ v e upto. before_next turns s fits v word is.next (strictly v e upto)) w past;
  }
    where
      empty : (b : Bool) → bytes_eq [] word ≡ b → (if b then new else s.nodes []) ≡ []
      empty true e = absurd (is.next.inside (ap s.nodes (sym ((bytes_eq-Decides [] word).0 e)) ∙ fits.no_empty))
      empty false e = fits.no_empty

      strictly : (v : List ℕ) → bytes_eq v word ≡ false → is_gt (byte_order v word) ≡ false → byte_order v word ≡ Less
      strictly v apart upto = by (byte_order v word) refl
        where
          by : (o : Ordering) → byte_order v word ≡ o → byte_order v word ≡ Less
          by Less e = e
          by Equal e = absurd (true≢false (sym (ap is_eq e) ∙ is_eq-slice_cmp v word ∙ apart))
          by Greater e = absurd (true≢false (sym (ap is_gt e) ∙ upto))

-- ---- the finish

module _ (turns : List Turn) (s : IndexState) (fits : FitsTurns turns s) (can : CanFinish s) where
  abbrev end : IndexState
  end = after_entry turns s finished

  deleted_still : (id : ℕ) → has s.being_deleted id ≡ false → is_deleted turns end id ≡ is_deleted turns s id
  deleted_still id not_in =
      ap (λ (b : Bool). b || has (deaths_of (unflushed turns s)) id) (has-without s.being_deleted s.deleted id ∙ ap (λ (b : Bool). not b && has s.deleted id) not_in)

  finish_live : (rules : Rules) (rows : List Row) → AreTurns 0 turns → LiveAreOf rules rows turns s → LiveAreOf rules rows turns end
  finish_live rules rows are live word =
      let behind : List Turn = unflushed turns s in
      let parts = two_parts 0 (take s.flushed turns) behind (subst (AreTurns 0) (sym (take-append-drop s.flushed turns)) are) in
      let later : AreTurns s.synced behind = subst (λ n. AreTurns n behind) (sym fits.synced) parts.of_rest in
      let high = largest_after s.synced behind in
      let now = λ (p : Posting). not (is_deleted turns end p.id) in
      let before = λ (p : Posting). not (is_deleted turns s p.id) in
      let tables = joined (s.nodes word) in
      let cache = rows_postings rules word (births_of behind) in
      filter-append now tables cache
      ∙ ap₂ (λ (x y : List Posting). x ++ y)
      (same_left now before tables
      (leads (λ p. has s.being_deleted p.id ≡ false) (λ p. now p ≡ before p) tables (λ p h. ap not (deleted_still p.id h))
      (recursion_from_All (λ (p : Posting). has s.being_deleted p.id ≡ false) tables (all_clean turns s fits can word))))
      (same_left now before cache
      (leads (λ p. IsBetween s.synced high p.id) (λ p. now p ≡ before p) cache
      (λ p h. ap not (deleted_still p.id (fails (has s.being_deleted p.id) (λ there. let low = fits.deleted p.id (fits.being p.id there) in omega (arith, low, h.above)))))
      (rows_between rules word s.synced high (births_of behind) (births_ascend s.synced behind later))))
      ∙ sym (filter-append before tables cache)
      ∙ live word

  pub finish_exact : (rules : Rules) (rows : List Row) → AreTurns 0 turns → IsExact rules rows turns s → IsExact rules rows turns end
  finish_exact rules rows are exact = record { live = finish_live rules rows are exact.live; tables = exact.tables }

  pub finish_fits : FitsTurns turns end
  finish_fits = record {
    flushed = fits.flushed;
    synced = fits.synced;
    tables = fits.tables;
    ascend = fits.ascend;
    no_empty = fits.no_empty;
    deleted = λ id there. fits.deleted id (second (not (has s.being_deleted id)) (has s.deleted id) (sym (has-without s.being_deleted s.deleted id) ∙ there));
    being = λ id there. absurd (false≢true there);
    passed = λ word past. absurd past;
  }
    where
      second : (a b : Bool) → (a && b) ≡ true → b ≡ true
      second true b h = h
      second false b h = absurd (false≢true h)
