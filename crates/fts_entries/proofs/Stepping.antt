-- The next step of OPTIMIZE is one entry: the one that is made of the entries before it.
use Rattle.std.proofs.Common.{◌≡◌, ◌≢◌, ℕ, ◌⊎◌, inl, inr, ⊎_elim, Bool, true, false, cond, not, ◌&&◌, ◌||◌, filter, bytes_eq, List, [], ◌∷◌, ◌++◌, length, refl, sym, ap, ap₂, subst, ◌∙◌, arith}
use Rattle.std.specs.Prelude.{fold}
use Rattle.std.specs.List.{AllByRecursion, list_any, flat_map}
use Rattle.std.specs.List.Sorted.{IsStrictlySortedBy}
use Rattle.std.specs.Map.{keys_of}
use Rattle.std.specs.Ordering.{is_gt, is_lt, ordering_reverse}
use Rattle.std.specs.declared.cmp.Ordering.{Ordering}
use Rattle.std.specs.declared.cmp.Ordering.TheVariants.{Less, Equal, Greater}
use Rattle.std.specs.Cmp.Lexicographic.{nat_list_cmp_total, nat_list_eq_equiv}
use Rattle.std.proofs.lemmas.Bool.{cases_Bool, false≢true, true≢false, or_cases, or_left, or_right}
use Rattle.std.proofs.lemmas.List.Folds.{list_any-append}
use Rattle.std.proofs.lemmas.Map.Keys.{sorted_head, sorted_tail}
use Rattle.std.proofs.lemmas.Slice.Eq.{bytes_eq-Decides}
use Rattle.fts_words.specs.Order.{byte_order, is_among}
use Rattle.fts_commits.specs.Turn.{Turn}
use Rattle.fts_ilist.specs.Node.{Docs, nodes_for}
use Rattle.fts_ilist.specs.Changes.{postings_without}
use Rattle.fts_ilist.specs.Packing.{packed, joined, are_loose}
use Rattle.fts_ilist.proofs.Loose.{loose_told, told_loose}
use Rattle.fts_aux.specs.Words.{HasLoose}
use Rattle.fts_entries.specs.Entry.{Batch, IndexEntry, IndexState, sealed, begun, worked, finished, no_entries, after_entry, index_of}
use Rattle.fts_entries.specs.Pass.{CanBegin, IsWord, CanFinish, IsStep, IsIdle, place_of, entry_words, words_named, is_none, words_left, pass_step, has_work, next_steps}
use Rattle.fts_words.specs.Indexed.{Rules}
use Rattle.fts_types.specs.Row.{Row}
use Rattle.fts_commits.specs.Turn.{AreTurns}
use Rattle.std.proofs.lemmas.Map.Lookups.{exact_bytes}
use Rattle.fts_entries.specs.Coming.{CanCome}
use Rattle.fts_entries.specs.Exact.{FitsTurns, IsExact}
use Rattle.fts_entries.proofs.Next.{sorted_all, among_all}
use Rattle.fts_entries.proofs.Passes.{begin_fits, begin_exact, word_fits, word_exact, finish_fits, finish_exact}

-- ---- what has nodes is named

some_not_none : {A : Type 0} (xs : List A) → xs ≢ [] → is_none xs ≡ false
some_not_none [] some = absurd (some refl)
some_not_none (x ∷ xs) some = refl

not_none_some : {A : Type 0} (xs : List A) → not (is_none xs) ≡ true → xs ≢ []
not_none_some [] told = absurd (false≢true told)
not_none_some (x ∷ xs) told = λ none. omega (arith, ap length none)

neither : (a b : Bool) → (a || b) ≡ false → (a ≡ false) × (b ≡ false)
neither true b h = absurd (true≢false h)
neither false b h = (refl, h)

-- a word that a batch does not name has no nodes in it
unnamed : (word : List ℕ) (batch : Batch) → is_among (keys_of batch) word ≡ false → nodes_for word batch ≡ []
unnamed word [] none = refl
unnamed word (g ∷ batch) none =
    let both = neither (bytes_eq g.0 word) (is_among (keys_of batch) word) none in
    ap (λ (b : Bool). cond b g.1 [] ++ nodes_for word batch) (nat_list_eq_equiv.symm word g.0 ∙ both.0) ∙ unnamed word batch both.1

-- the nodes of a word that an entry does not name stay
stay_unnamed : (turns : List Turn) (s : IndexState) (entry : IndexEntry) (word : List ℕ) → is_among (entry_words entry) word ≡ false
    → (after_entry turns s entry).nodes word ≡ s.nodes word
stay_unnamed turns s (sealed through synced batch) word none =
    ap (λ (ns : List Docs). s.nodes word ++ ns) (unnamed word batch none) ∙ append_nothing (s.nodes word)
  where
    append_nothing : (ns : List Docs) → ns ++ [] ≡ ns
    append_nothing [] = refl
    append_nothing (n ∷ ns) = ap (λ (rest : List Docs). n ∷ rest) (append_nothing ns)
stay_unnamed turns s begun word none = refl
stay_unnamed turns s (worked other new) word none = by (bytes_eq word other) refl
  where
    by : (b : Bool) → bytes_eq word other ≡ b → cond b new (s.nodes word) ≡ s.nodes word
    by true e = absurd (true≢false (sym (or_left (bytes_eq other word) false (nat_list_eq_equiv.symm other word ∙ e)) ∙ none))
    by false e = refl
stay_unnamed turns s finished word none = refl

named_from : (turns : List Turn) (s : IndexState) (entries : List IndexEntry) (word : List ℕ) → is_among (flat_map entry_words entries) word ≡ false
    → (fold (after_entry turns) s entries).nodes word ≡ s.nodes word
named_from turns s [] word none = refl
named_from turns s (entry ∷ entries) word none =
    let both = neither (is_among (entry_words entry) word) (is_among (flat_map entry_words entries) word)
    (sym (list_any-append (λ other. bytes_eq other word) (entry_words entry) (flat_map entry_words entries)) ∙ none) in
    named_from turns (after_entry turns s entry) entries word both.1 ∙ stay_unnamed turns s entry word both.0

pub named_is : (entries : List IndexEntry) (word : List ℕ) → is_among (words_named entries) word ≡ is_among (flat_map entry_words entries) word
named_is entries word = among_all word (flat_map entry_words entries) []

-- a word that has nodes is named by an entry
pub is_named : (turns : List Turn) (entries : List IndexEntry) (word : List ℕ) → (index_of turns entries).nodes word ≢ [] → is_among (words_named entries) word ≡ true
is_named turns entries word some =
    ⊎_elim (λ (here : is_among (words_named entries) word ≡ true). here)
    (λ (none : is_among (words_named entries) word ≡ false). absurd (some (named_from turns no_entries entries word (sym (named_is entries word) ∙ none))))
    (cases_Bool (is_among (words_named entries) word))

-- ---- the words that are left

module _ (s : IndexState) where
  abbrev is_left : List ℕ → Bool
  is_left word = is_lt (byte_order (place_of s) word)

  -- the first word that is left is one behind the place that has nodes, and no other such word among these stands before it
  behind_place : (word : List ℕ) → is_lt (byte_order (place_of s) word) ≡ true → byte_order (place_of s) word ≡ Less
  behind_place word told = by (byte_order (place_of s) word) told
    where
      by : (o : Ordering) → is_lt o ≡ true → o ≡ Less
      by Less e = refl
      by Equal e = absurd (false≢true e)
      by Greater e = absurd (false≢true e)

  step_left : (word : List ℕ) (words : List (List ℕ)) → (b c : Bool) → is_left word ≡ b → not (is_none (s.nodes word)) ≡ c
      → words_left s (word ∷ words) ≡ cond (b && c) (word ∷ words_left s words) (words_left s words)
  step_left word words true true e f =
      ap (λ (b : Bool). filter (λ w. not (is_none (s.nodes w))) (cond b (word ∷ filter is_left words) (filter is_left words))) e
      ∙ ap (λ (c : Bool). cond c (word ∷ words_left s words) (words_left s words)) f
  step_left word words true false e f =
      ap (λ (b : Bool). filter (λ w. not (is_none (s.nodes w))) (cond b (word ∷ filter is_left words) (filter is_left words))) e
      ∙ ap (λ (c : Bool). cond c (word ∷ words_left s words) (words_left s words)) f
  step_left word words false c e f =
      ap (λ (b : Bool). filter (λ w. not (is_none (s.nodes w))) (cond b (word ∷ filter is_left words) (filter is_left words))) e

  -- nothing is left where no word behind the place has nodes
  none_left : (words : List (List ℕ)) → ((word : List ℕ) → byte_order (place_of s) word ≡ Less → s.nodes word ≡ []) → words_left s words ≡ []
  none_left [] last = refl
  none_left (word ∷ words) last = by (is_left word) refl (none_left words last)
    where
      by : (b : Bool) → is_left word ≡ b → words_left s words ≡ [] → words_left s (word ∷ words) ≡ []
      by true e rest = step_left word words true false e (ap (λ (ns : List Docs). not (is_none ns)) (last word (behind_place word e))) ∙ rest
      by false e rest = step_left word words false (not (is_none (s.nodes word))) e refl ∙ rest

  -- the next word is the first of those that are left
  module _ (next : List ℕ) (inside : s.nodes next ≢ []) (after : byte_order (place_of s) next ≡ Less)
      (least : (other : List ℕ) → byte_order (place_of s) other ≡ Less → s.nodes other ≢ [] → is_gt (byte_order next other) ≡ false) where
    record IsFirst (words : List (List ℕ)) : Type 0 where
      rest : List (List ℕ)
      is : words_left s words ≡ next ∷ rest

    stands_before : (word : List ℕ) (ws : List (List ℕ)) (w : List ℕ) → AllByRecursion (λ y. byte_order word y ≡ Less) ws → is_among ws w ≡ true → byte_order word w ≡ Less
    stands_before word [] w all among = absurd (false≢true among)
    stands_before word (x ∷ ws) w all among =
        ⊎_elim (λ (here : bytes_eq x w ≡ true). subst (λ (v : List ℕ). byte_order word v ≡ Less) ((bytes_eq-Decides x w).0 here) all.0)
        (λ (later : is_among ws w ≡ true). stands_before word ws w all.1 later)
        (or_cases (bytes_eq x w) (is_among ws w) among)

    passes : (word : List ℕ) (words : List (List ℕ)) → byte_order word next ≡ Less → (rest : List (List ℕ)) → words_left s words ≡ next ∷ rest → (b c : Bool)
        → is_left word ≡ b → not (is_none (s.nodes word)) ≡ c → cond (b && c) (word ∷ words_left s words) (words_left s words) ≡ next ∷ rest
    passes word words before rest is true true e f =
        absurd (true≢false (sym (ap is_gt (nat_list_cmp_total.antisymm next word ∙ ap ordering_reverse before)) ∙ least word (behind_place word e) (not_none_some (s.nodes word) f)))
    passes word words before rest is true false e f = is
    passes word words before rest is false c e f = is

    is_first : (words : List (List ℕ)) → IsStrictlySortedBy byte_order words → is_among words next ≡ true → IsFirst words
    is_first [] up among = absurd (false≢true among)
    is_first (word ∷ words) up among = by (bytes_eq word next) refl (λ later. is_first words (sorted_tail byte_order word words up) later)
      where
        by : (b : Bool) → bytes_eq word next ≡ b → (is_among words next ≡ true → IsFirst words) → IsFirst (word ∷ words)
        by true e on =
            let same : word ≡ next = (bytes_eq-Decides word next).0 e in
            let left : is_left word ≡ true = ap is_left same ∙ ap is_lt after in
            let some : not (is_none (s.nodes word)) ≡ true = ap (λ (w : List ℕ). not (is_none (s.nodes w))) same ∙ ap not (some_not_none (s.nodes next) inside) in
            record { rest = words_left s words; is = step_left word words true true left some ∙ ap (λ (w : List ℕ). w ∷ words_left s words) same }
        by false e on =
            let later : is_among words next ≡ true = sym (ap (λ (b : Bool). b || is_among words next) e) ∙ among in
            let first = on later in
            let before : byte_order word next ≡ Less = stands_before word words next (sorted_head byte_order word words up) later in
            record {
              rest = first.rest;
              is = step_left word words (is_left word) (not (is_none (s.nodes word))) refl refl
                  ∙ passes word words before first.rest first.is (is_left word) (not (is_none (s.nodes word))) refl refl;
            }

-- ---- the step

words_ascend : (entries : List IndexEntry) → IsStrictlySortedBy byte_order (words_named entries)
unfolding IsStrictlySortedBy
words_ascend entries = sorted_all (flat_map entry_words entries) [] tt

-- a word of some that passes a test
found_of : (test : List ℕ → Bool) (word : List ℕ) (words : List (List ℕ)) → is_among words word ≡ true → test word ≡ true → list_any test words ≡ true
found_of test word [] among told = absurd (false≢true among)
found_of test word (w ∷ words) among told =
    ⊎_elim (λ (here : bytes_eq w word ≡ true). or_left (test w) (list_any test words) (ap test ((bytes_eq-Decides w word).0 here) ∙ told))
    (λ (later : is_among words word ≡ true). or_right (test w) (list_any test words) (found_of test word words later told))
    (or_cases (bytes_eq w word) (is_among words word) among)

loose_some : (ns : List Docs) → are_loose ns ≡ true → ns ≢ []
loose_some [] told = absurd (false≢true told)
loose_some (n ∷ ns) told = λ none. omega (arith, ap length none)

module _ (turns : List Turn) (entries : List IndexEntry) where
  abbrev s : IndexState
  s = index_of turns entries

  begins : CanBegin s → next_steps entries s ≡ begun ∷ []
  begins can = ap₂ (λ (open_ work : Bool). cond open_ (pass_step s (words_left s (words_named entries)) ∷ []) (cond work (begun ∷ []) [])) can.closed (work can.some)
    where
      work : (s.deleted ≢ []) ⊎ HasLoose s.nodes → has_work s (words_named entries) ≡ true
      work (inl some) = or_left (not (is_none s.deleted)) (list_any (λ word. are_loose (s.nodes word)) (words_named entries)) (ap not (some_not_none s.deleted some))
      work (inr (word, loose)) =
          let told : are_loose (s.nodes word) ≡ true = loose_told (s.nodes word) loose in
          or_right (not (is_none s.deleted)) (list_any (λ w. are_loose (s.nodes w)) (words_named entries))
          (found_of (λ w. are_loose (s.nodes w)) word (words_named entries) (is_named turns entries word (loose_some (s.nodes word) told)) told)

  works : (word : List ℕ) (new : List Docs) → IsWord s word new → next_steps entries s ≡ worked word new ∷ []
  works word new is =
      let first = is_first s word is.next.inside is.next.after is.next.least (words_named entries) (words_ascend entries) (is_named turns entries word is.next.inside) in
      ap (λ (b : Bool). cond b (pass_step s (words_left s (words_named entries)) ∷ []) (cond (has_work s (words_named entries)) (begun ∷ []) [])) is.is_open
      ∙ ap (λ (words : List (List ℕ)). pass_step s words ∷ []) first.is
      ∙ ap (λ (nodes : List Docs). worked word nodes ∷ []) (sym is.new_is)

  finishes : CanFinish s → next_steps entries s ≡ finished ∷ []
  finishes can =
      ap (λ (b : Bool). cond b (pass_step s (words_left s (words_named entries)) ∷ []) (cond (has_work s (words_named entries)) (begun ∷ []) [])) can.is_open
      ∙ ap (λ (words : List (List ℕ)). pass_step s words ∷ []) (none_left s (words_named entries) can.last)

  pub one_step : (entry : IndexEntry) → IsStep s entry → next_steps entries s ≡ entry ∷ []
  one_step (sealed through synced batch) is = absurd is
  one_step begun is = begins is
  one_step (worked word new) is = works word new is
  one_step finished is = finishes is

  tight : (HasLoose s.nodes → ⊥) → (words : List (List ℕ)) → list_any (λ word. are_loose (s.nodes word)) words ≡ false
  tight packed_are [] = refl
  tight packed_are (word ∷ words) = by (are_loose (s.nodes word)) refl (tight packed_are words)
    where
      by : (b : Bool) → are_loose (s.nodes word) ≡ b → list_any (λ w. are_loose (s.nodes w)) words ≡ false
          → (are_loose (s.nodes word) || list_any (λ w. are_loose (s.nodes w)) words) ≡ false
      by true e rest = absurd (packed_are (word, told_loose (s.nodes word) e))
      by false e rest = ap (λ (b : Bool). b || list_any (λ w. are_loose (s.nodes w)) words) e ∙ rest

  pub no_step : IsIdle s → next_steps entries s ≡ []
  no_step idle =
      ap₂ (λ (open_ work : Bool). cond open_ (pass_step s (words_left s (words_named entries)) ∷ []) (cond work (begun ∷ []) [])) idle.closed
      (ap₂ (λ (none loose : Bool). not none || loose) (ap is_none idle.none) (tight idle.packed_are (words_named entries)))

-- ---- what a step keeps

pub step_comes : (turns : List Turn) (s : IndexState) (entry : IndexEntry) → IsStep s entry → CanCome turns s entry
step_comes turns s (sealed through synced batch) is = absurd is
step_comes turns s begun is = is
step_comes turns s (worked word new) is = is
step_comes turns s finished is = is

pub step_fits : (turns : List Turn) (s : IndexState) (entry : IndexEntry) → FitsTurns turns s → IsStep s entry → FitsTurns turns (after_entry turns s entry)
step_fits turns s (sealed through synced batch) fits is = absurd is
step_fits turns s begun fits is = begin_fits turns s fits
step_fits turns s (worked word new) fits is = word_fits turns s word new fits is
step_fits turns s finished fits is = finish_fits turns s fits is

pub step_exact : (turns : List Turn) (s : IndexState) (entry : IndexEntry) → FitsTurns turns s → IsStep s entry → (rules : Rules) (rows : List Row) → AreTurns 0 turns
    → IsExact rules rows turns s → IsExact rules rows turns (after_entry turns s entry)
step_exact turns s (sealed through synced batch) fits is rules rows are exact = absurd is
step_exact turns s begun fits is rules rows are exact = begin_exact rules rows turns s exact
step_exact turns s (worked word new) fits is rules rows are exact = word_exact turns s word new fits is rules rows exact
step_exact turns s finished fits is rules rows are exact = finish_exact turns s fits is rules rows are exact

-- ---- that there is one

module _ (s : IndexState) where
  both_open : s.is_open ≡ true → s.is_open ≡ false → ⊥
  both_open is not_ = true≢false (sym is ∙ not_)

  -- the next word is one
  one_next_word : (word other : List ℕ) (new new' : List Docs) → IsWord s word new → IsWord s other new' → word ≡ other
  one_next_word word other new new' is is' = by (byte_order word other) refl
    where
      by : (o : Ordering) → byte_order word other ≡ o → word ≡ other
      by Less e = absurd (true≢false (sym (ap is_gt (nat_list_cmp_total.antisymm other word ∙ ap ordering_reverse e)) ∙ is'.next.least word is.next.after is.next.inside))
      by Equal e = exact_bytes word other e
      by Greater e = absurd (true≢false (sym (ap is_gt e) ∙ is.next.least other is'.next.after is'.next.inside))

  one_word : (word other : List ℕ) (new new' : List Docs) → IsWord s word new → IsWord s other new' → worked word new ≡ worked other new'
  one_word word other new new' is is' =
      let same = one_next_word word other new new' is is' in
      ap₂ worked same (is.new_is ∙ ap (λ (w : List ℕ). packed (postings_without s.being_deleted (joined (s.nodes w)))) same ∙ sym is'.new_is)

  none_behind : (word : List ℕ) (new : List Docs) → IsWord s word new → CanFinish s → ⊥
  none_behind word new is can = is.next.inside (can.last word is.next.after)

  pub same_step : (entry other : IndexEntry) → IsStep s entry → IsStep s other → entry ≡ other
  same_step (sealed through synced batch) other is is' = absurd is
  same_step begun (sealed through synced batch) is is' = absurd is'
  same_step begun begun is is' = refl
  same_step begun (worked word new) is is' = absurd (both_open is'.is_open is.closed)
  same_step begun finished is is' = absurd (both_open is'.is_open is.closed)
  same_step (worked word new) (sealed through synced batch) is is' = absurd is'
  same_step (worked word new) begun is is' = absurd (both_open is.is_open is'.closed)
  same_step (worked word new) (worked other new') is is' = one_word word other new new' is is'
  same_step (worked word new) finished is is' = absurd (none_behind word new is is')
  same_step finished (sealed through synced batch) is is' = absurd is'
  same_step finished begun is is' = absurd (both_open is.is_open is'.closed)
  same_step finished (worked word new) is is' = absurd (none_behind word new is' is)
  same_step finished finished is is' = refl

  -- where there is nothing to do, no step is the next
  pub idle_none : (entry : IndexEntry) → IsIdle s → IsStep s entry → ⊥
  idle_none (sealed through synced batch) idle is = is
  idle_none begun idle is = ⊎_elim (λ (some : s.deleted ≢ []). some idle.none) idle.packed_are is.some
  idle_none (worked word new) idle is = both_open is.is_open idle.closed
  idle_none finished idle is = both_open is.is_open idle.closed
