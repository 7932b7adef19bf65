-- What can come behind a state of an index, and that the state behind it fits the commits.
use Rattle.std.proofs.Common.{◌≡◌, ℕ, ◌+◌, ◌-◌, ◌<◌, ◌≤◌, true, false, map, nat_eq, nat_le, List, [], ◌∷◌, ◌++◌, take, drop, length, sym, ap, ap₂, subst, ◌∙◌, ⊎_elim, arith}
use Rattle.std.specs.Prelude.{fold}
use Rattle.std.specs.List.{All, AllByRecursion}
use Rattle.std.proofs.lemmas.Bool.{eqb-true, false≢true, leb-true, or_cases, or_left, and_parts}
use Rattle.std.proofs.lemmas.Grind.{flat_map-append}
use Rattle.std.proofs.lemmas.List.{take-append-drop, take-append-le, take-take, drop-take, length-append}
use Rattle.std.proofs.lemmas.List.Elements.{All-append, recursion_from_All}
use Rattle.std.proofs.lemmas.List.Sums.{fold-append}
use Rattle.fts_types.specs.Row.{Row}
use Rattle.fts_commits.specs.Turn.{Turn, RowsAscend, AreTurns, births_of, deaths_of}
use Rattle.fts_ids.specs.Ids.{has}
use Rattle.fts_ids.proofs.Ascending.{has-filter}
use Rattle.fts_lists.proofs.Merging.{has-with_ids}
use Rattle.fts_ilist.specs.Spelling.{Posting}
use Rattle.fts_ilist.specs.Node.{Docs, nodes_for}
use Rattle.fts_ilist.specs.Packing.{joined}
use Rattle.fts_entries.specs.Entry.{Batch, IndexEntry, IndexState, sealed, begun, worked, finished, no_entries, after_entry, index_of, unflushed, unflushed_through, flushed_deaths, AreThrough}
use Rattle.fts_entries.specs.Batch.{largest_after}
use Rattle.fts_entries.proofs.Passes.{begin_fits, word_fits, finish_fits}
use Rattle.fts_entries.specs.Coming.{born_ids, CanSeal, CanCome, CanComeAll, AreEntries}
use Rattle.fts_entries.specs.Exact.{FitsTurns, IdsAfter}
use Rattle.fts_entries.proofs.Batches.{fails}
use Rattle.fts_entries.proofs.Commits.{none_fits, sealed_with, taken_before}
use Rattle.fts_entries.proofs.Packing.{after_join}
use Rattle.fts_entries.proofs.Postings.{IsBetween, ends_within}
use Rattle.fts_entries.proofs.Turns.{two_parts, largest_behind, ids_rise, births_ascend}

pub joined_both : (front rest : List Docs) → joined (front ++ rest) ≡ joined front ++ joined rest
joined_both front rest = flat_map-append (λ (docs : List Posting). docs) front rest

-- ---- who was born in the commits up to one

-- an id among those of rows lies where theirs do
among_rows : (low high id : ℕ) (rows : List Row) → RowsAscend low high rows → has (map (λ row. row.doc) rows) id ≡ true → IsBetween low high id
among_rows low high id [] ids there = absurd (false≢true there)
among_rows low high id (row ∷ rows) ids there =
    ⊎_elim
    (λ (here : nat_eq id row.doc ≡ true). (let same : id ≡ row.doc = eqb-true id row.doc here in
    record { above = omega (arith, same, ids.0); within = omega (arith, same, ends_within row.doc high rows ids.1) }))
    (λ (later : has (map (λ row. row.doc) rows) id ≡ true). (let between = among_rows row.doc high id rows ids.1 later in
    record { above = omega (arith, ids.0, between.above); within = between.within }))
    (or_cases (nat_eq id row.doc) (has (map (λ row. row.doc) rows) id) there)

module _ (turns : List Turn) (s : IndexState) (through : ℕ) where
  abbrev covered : ℕ
  covered = through - s.flushed

  abbrev behind : List Turn
  behind = unflushed turns s

  abbrev front : List Turn
  front = unflushed_through through turns s

  pub front_is : s.flushed ≤ through → take through turns ≡ take s.flushed turns ++ front
  front_is up =
      let sum : through ≡ s.flushed + covered = omega (arith, up) in
      sym (take-append-drop s.flushed (take through turns))
      ∙ ap₂ (λ (x y : List Turn). x ++ y) (take-take s.flushed through turns up)
      (ap (λ (n : ℕ). drop s.flushed (take n turns)) sum ∙ drop-take s.flushed covered turns)

  module _ (are : AreTurns 0 turns) (fits : FitsTurns turns s) where
    pub front_are : AreTurns s.synced front
    front_are =
        let parts = two_parts 0 (take s.flushed turns) behind (subst (AreTurns 0) (sym (take-append-drop s.flushed turns)) are) in
        let later : AreTurns s.synced behind = subst (λ n. AreTurns n behind) (sym fits.synced) parts.of_rest in
        (two_parts s.synced front (drop covered behind) (subst (AreTurns s.synced) (sym (take-append-drop covered behind)) later)).of_front

    module _ (up : s.flushed ≤ through) where
      high_is : largest_after s.synced front ≡ largest_after 0 (take through turns)
      high_is =
          ap (λ (n : ℕ). largest_after n front) fits.synced ∙ sym (largest_behind 0 (take s.flushed turns) front) ∙ ap (largest_after 0) (sym (front_is up))

      rises : s.synced ≤ largest_after 0 (take through turns)
      rises = omega (arith, ids_rise s.synced front front_are, high_is)

      born_between : (id : ℕ) → has (born_ids front) id ≡ true → IsBetween s.synced (largest_after 0 (take through turns)) id
      born_between id there =
          let between = among_rows s.synced (largest_after s.synced front) id (births_of front) (births_ascend s.synced front front_are) there in
          record { above = between.above; within = omega (arith, between.within, high_is) }

-- ---- the state behind a batch that can come fits the commits

after_above : (last bound : ℕ) (ps : List Posting) → IdsAfter last ps → AllByRecursion (λ p. bound < p.id) ps → IdsAfter bound ps
after_above last bound [] ids above = tt
after_above last bound (p ∷ ps) ids above = (above.0, ids.1)

pub seal_fits : (turns : List Turn) (s : IndexState) (through synced : ℕ) (batch : Batch) → AreTurns 0 turns → FitsTurns turns s → CanSeal turns s through synced batch
    → FitsTurns turns (after_entry turns s (sealed through synced batch))
seal_fits turns s through synced batch are fits can =
    let front : List Turn = unflushed_through through turns s in
    let up : s.flushed ≤ through = omega (arith, can.later) in
    let rise : s.synced ≤ synced = omega (arith, rises turns s through are fits up, can.synced_is) in
    let between : (id : ℕ) → has (born_ids front) id ≡ true → IsBetween s.synced synced id =
    λ id there. (let b = born_between turns s through are fits up id there in record { above = b.above; within = omega (arith, b.within, can.synced_is) }) in
    let new : (P : ℕ → Type 0) → ((id : ℕ) → IsBetween s.synced synced id → P id) → (word : List ℕ) → All (λ p. P p.id) (joined (nodes_for word batch)) =
    λ P leads_to word. λ k d less. leads_to _ (between _ (can.born word k d less)) in
    let holds : (P : ℕ → Type 0) → ((id : ℕ) → IsBetween s.synced synced id → P id) → (word : List ℕ) → All (λ p. P p.id) (joined (s.nodes word))
    → All (λ p. P p.id) (joined (s.nodes word ++ nodes_for word batch)) =
    λ P leads_to word old. subst (All (λ (p : Posting). P p.id)) (sym (joined_both (s.nodes word) (nodes_for word batch)))
    (All-append (λ (p : Posting). P p.id) (joined (s.nodes word)) (joined (nodes_for word batch)) old (new P leads_to word)) in
    record {
      flushed = can.made;
      synced = can.synced_is;
      tables = λ word. holds (λ id. id ≤ synced) (λ id h. h.within) word (λ k d less. let low = fits.tables word k d less in omega (arith, low, rise));
      ascend = λ word. subst (IdsAfter 0) (sym (joined_both (s.nodes word) (nodes_for word batch)))
          (after_join 0 s.synced (joined (s.nodes word)) (joined (nodes_for word batch)) (omega arith) (fits.ascend word)
          (recursion_from_All (λ (p : Posting). p.id ≤ s.synced) (joined (s.nodes word)) (fits.tables word))
          (after_above 0 s.synced (joined (nodes_for word batch)) (can.ascend word)
          (recursion_from_All (λ (p : Posting). s.synced < p.id) (joined (nodes_for word batch)) (new (λ id. s.synced < id) (λ id h. h.above) word))));
      no_empty = ap₂ (λ (x y : List Docs). x ++ y) fits.no_empty can.no_empty;
      deleted = λ id there. ⊎_elim
          (λ (old : has s.deleted id ≡ true). (let low = fits.deleted id old in omega (arith, low, rise)))
          (λ (more : has (flushed_deaths s.synced front) id ≡ true).
          (let low = leb-true id s.synced ((and_parts (nat_le id s.synced) (has (deaths_of front) id) (sym (has-filter (λ other. nat_le other s.synced) (deaths_of front) id) ∙ more)).0) in omega (arith, low, rise)))
          (or_cases (has s.deleted id) (has (flushed_deaths s.synced front) id) (sym (has-with_ids s.deleted (flushed_deaths s.synced front) id) ∙ there));
      being = λ id there. has-with_ids s.deleted (flushed_deaths s.synced front) id ∙ or_left (has s.deleted id) (has (flushed_deaths s.synced front) id) (fits.being id there);
      passed = λ word past. holds (λ id. has s.being_deleted id ≡ false)
          (λ id h. fails (has s.being_deleted id) (λ there. let low = fits.deleted id (fits.being id there) in omega (arith, low, h.above))) word (fits.passed word past);
    }

fits_from : (turns : List Turn) (s : IndexState) (entries : List IndexEntry) → AreTurns 0 turns → FitsTurns turns s → CanComeAll turns s entries → FitsTurns turns (fold (after_entry turns) s entries)
fits_from turns s [] are fits come = fits
fits_from turns s (sealed through synced batch ∷ entries) are fits come =
    fits_from turns (after_entry turns s (sealed through synced batch)) entries are (seal_fits turns s through synced batch are fits come.0) come.1
fits_from turns s (begun ∷ entries) are fits come =
    fits_from turns (after_entry turns s begun) entries are (begin_fits turns s fits) come.1
fits_from turns s (worked word new ∷ entries) are fits come =
    fits_from turns (after_entry turns s (worked word new)) entries are (word_fits turns s word new fits come.0) come.1
fits_from turns s (finished ∷ entries) are fits come =
    fits_from turns (after_entry turns s finished) entries are (finish_fits turns s fits come.0) come.1

-- the state of an index fits its commits
pub entries_fit : (turns : List Turn) (entries : List IndexEntry) → AreTurns 0 turns → AreEntries turns entries → FitsTurns turns (index_of turns entries)
entries_fit turns entries are come = fits_from turns no_entries entries are (none_fits turns) come

-- ---- entries over more commits

pub seal_more : (turns more : List Turn) (s : IndexState) (through synced : ℕ) (batch : Batch) → CanSeal turns s through synced batch → CanSeal (turns ++ more) s through synced batch
seal_more turns more s through synced batch can = record {
  later = can.later;
  made = omega (arith, can.made, length-append turns more);
  synced_is = can.synced_is ∙ ap (largest_after 0) (sym (take-append-le through turns more can.made));
  ascend = can.ascend;
  no_empty = can.no_empty;
  packed_are = can.packed_are;
  born = λ word. subst (λ (ts : List Turn). All (λ p. has (born_ids ts) p.id ≡ true) (joined (nodes_for word batch))) (sym (taken_before turns more s.flushed through can.made)) (can.born word);
}

-- a batch that covers some commits alone can come without those behind them
pub seal_less : (turns more : List Turn) (s : IndexState) (through synced : ℕ) (batch : Batch) → through ≤ length turns → CanSeal (turns ++ more) s through synced batch
    → CanSeal turns s through synced batch
seal_less turns more s through synced batch within can = record {
  later = can.later;
  made = within;
  synced_is = can.synced_is ∙ ap (largest_after 0) (take-append-le through turns more within);
  ascend = can.ascend;
  no_empty = can.no_empty;
  packed_are = can.packed_are;
  born = λ word. subst (λ (ts : List Turn). All (λ p. has (born_ids ts) p.id ≡ true) (joined (nodes_for word batch))) (taken_before turns more s.flushed through within) (can.born word);
}

more_from : (turns more : List Turn) (s : IndexState) (entries : List IndexEntry) → CanComeAll turns s entries → CanComeAll (turns ++ more) s entries
more_from turns more s [] come = tt
more_from turns more s (sealed through synced batch ∷ entries) come = (
  seal_more turns more s through synced batch come.0,
  subst (λ (covered : List Turn). CanComeAll (turns ++ more) (sealed_with s through synced batch covered) entries) (sym (taken_before turns more s.flushed through come.0.made))
      (more_from turns more (after_entry turns s (sealed through synced batch)) entries come.1),
)
more_from turns more s (begun ∷ entries) come = (come.0, more_from turns more (after_entry turns s begun) entries come.1)
more_from turns more s (worked word new ∷ entries) come = (come.0, more_from turns more (after_entry turns s (worked word new)) entries come.1)
more_from turns more s (finished ∷ entries) come = (come.0, more_from turns more (after_entry turns s finished) entries come.1)

pub entries_more : (turns more : List Turn) (entries : List IndexEntry) → AreEntries turns entries → AreEntries (turns ++ more) entries
entries_more turns more entries come = more_from turns more no_entries entries come

through_from : (turns : List Turn) (s : IndexState) (entries : List IndexEntry) → CanComeAll turns s entries → AreThrough (length turns) entries
through_from turns s [] come = tt
through_from turns s (sealed through synced batch ∷ entries) come = (come.0.made, through_from turns (after_entry turns s (sealed through synced batch)) entries come.1)
through_from turns s (begun ∷ entries) come = through_from turns (after_entry turns s begun) entries come.1
through_from turns s (worked word new ∷ entries) come = through_from turns (after_entry turns s (worked word new)) entries come.1
through_from turns s (finished ∷ entries) come = through_from turns (after_entry turns s finished) entries come.1

pub entries_through : (turns : List Turn) (entries : List IndexEntry) → AreEntries turns entries → AreThrough (length turns) entries
entries_through turns entries come = through_from turns no_entries entries come

-- ---- one entry more

behind_from : (turns : List Turn) (s : IndexState) (entries : List IndexEntry) (entry : IndexEntry) → CanComeAll turns s entries → CanCome turns (fold (after_entry turns) s entries) entry
    → CanComeAll turns s (entries ++ entry ∷ [])
behind_from turns s [] entry come can = (can, tt)
behind_from turns s (first ∷ entries) entry come can = (come.0, behind_from turns (after_entry turns s first) entries entry come.1 can)

pub come_behind : (turns : List Turn) (entries : List IndexEntry) (entry : IndexEntry) → AreEntries turns entries → CanCome turns (index_of turns entries) entry → AreEntries turns (entries ++ entry ∷ [])
come_behind turns entries entry come can = behind_from turns no_entries entries entry come can

last_from : (turns : List Turn) (s : IndexState) (entries : List IndexEntry) (entry : IndexEntry) → CanComeAll turns s (entries ++ entry ∷ [])
    → CanComeAll turns s entries × CanCome turns (fold (after_entry turns) s entries) entry
last_from turns s [] entry come = (tt, come.0)
last_from turns s (first ∷ entries) entry come =
    let rest = last_from turns (after_entry turns s first) entries entry come.1 in ((come.0, rest.0), rest.1)

pub come_last : (turns : List Turn) (entries : List IndexEntry) (entry : IndexEntry) → AreEntries turns (entries ++ entry ∷ []) → AreEntries turns entries × CanCome turns (index_of turns entries) entry
come_last turns entries entry come = last_from turns no_entries entries entry come

pub index_behind : (turns : List Turn) (entries : List IndexEntry) (entry : IndexEntry) → index_of turns (entries ++ entry ∷ []) ≡ after_entry turns (index_of turns entries) entry
index_behind turns entries entry = fold-append (after_entry turns) no_entries entries (entry ∷ [])
