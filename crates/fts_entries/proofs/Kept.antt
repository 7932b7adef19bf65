-- A batch keeps an index right.
use Rattle.std.proofs.Common.{◌≡◌, ℕ, suc, ◌+◌, ◌-◌, ◌<◌, ◌≤◌, Bool, true, false, not, ◌||◌, map, filter, nat_lt, if◌then◌else◌, List, [], ◌∷◌, ◌++◌, take, drop, length, nat_eq, refl, sym, ap, ap₂, subst, ◌∙◌, arith}
use Rattle.std.specs.List.{All, AllByRecursion, Contains, list_any}
use Rattle.std.proofs.Math.Nat.{max-le, le-max_left}
use Rattle.std.proofs.lemmas.Bool.{eq-eqb, or_left, or_right}
use Rattle.std.proofs.lemmas.Grind.{flat_map-append}
use Rattle.std.proofs.lemmas.List.{drop-drop, length-drop}
use Rattle.std.proofs.lemmas.List.Elements.{All-append, All-filter, All-contains_itself, Contains-append_left, Contains-append_right, recursion_from_All, All-from_recursion}
use Rattle.fts_words.specs.Indexed.{Rules}
use Rattle.fts_types.specs.Row.{Row}
use Rattle.fts_commits.specs.Turn.{Turn, AreTurns, births_of, deaths_of}
use Rattle.fts_ids.specs.Ids.{has}
use Rattle.fts_ilist.specs.Spelling.{Posting}
use Rattle.fts_ilist.specs.Node.{nodes_for, NodesAfter, last_of}
use Rattle.fts_ilist.specs.Packing.{packed, joined}
use Rattle.fts_ilist.proofs.Packs.{joined_packed}
use Rattle.fts_lists.specs.Ids.{with_ids}
use Rattle.fts_entries.specs.Entry.{Batch, IndexState, sealed, after_entry, unflushed, unflushed_through, flushed_deaths}
use Rattle.fts_entries.specs.Batch.{IsBatch, covers, covered_within, alive_of, largest_after, next_through, after_batch}
use Rattle.fts_entries.specs.Coming.{born_ids, CanSeal}
use Rattle.fts_entries.specs.Exact.{FitsTurns, IsExact, LiveAreOf, TablesAreOf, IdsAfter}
use Rattle.fts_entries.specs.Words.{positions_of, row_postings, rows_postings}
use Rattle.fts_entries.proofs.Filters.{leads, all_joined}
use Rattle.fts_entries.proofs.Packing.{after_lower, after_left, packed_ascend, nodes_lower, last_within}
use Rattle.fts_entries.proofs.Postings.{of_row, rows_left, rows_after, nothing_of_empty}
use Rattle.fts_entries.proofs.Turns.{births_ascend}
use Rattle.fts_entries.proofs.Batches.{word_same}
use Rattle.fts_entries.proofs.Coming.{joined_both, front_is, front_are, seal_fits}

-- a batch covers no more than there is
within_all : (limit born : ℕ) (turns : List Turn) → covered_within limit born turns ≤ length turns
within_all limit born [] = omega arith
within_all limit born (turn ∷ turns) = by (nat_lt limit (born + length turn.births)) (within_all limit (born + length turn.births) turns)
  where
    by : (b : Bool) → covered_within limit (born + length turn.births) turns ≤ length turns
        → (if b then 0 else 1 + covered_within limit (born + length turn.births) turns) ≤ suc (length turns)
    by true h = omega arith
    by false h = omega (arith, h)

covers_some : (limit : ℕ) (turns : List Turn) → 0 < length turns → covers limit turns ≤ length turns
covers_some limit turns some = max-le (omega (arith, some)) (within_all limit 0 turns)

pub through_within : (rules : Rules) (limit : ℕ) (turns : List Turn) (s : IndexState) (through synced : ℕ) (batch : Batch)
    → IsBatch rules limit turns s through synced batch → through ≤ length turns
through_within rules limit turns s through synced batch is =
    let long = length-drop s.flushed turns in
    let few = covers_some limit (unflushed turns s) (let e : length (unflushed turns s) ≡ length turns - s.flushed = long in omega (arith, e, is.some)) in
    omega (arith, is.some, is.through_is, few, long)

-- the postings of rows have the ids of these
of_rows : (rules : Rules) (word : List ℕ) (rows : List Row) → AllByRecursion (λ p. has (map (λ row. row.doc) rows) p.id ≡ true) (rows_postings rules word rows)
of_rows rules word [] = tt
of_rows rules word (row ∷ rows) =
    let docs = map (λ (r : Row). r.doc) rows in
    let among = λ (p : Posting). has (row.doc ∷ docs) p.id ≡ true in
    all_joined among (row_postings rules word row) (rows_postings rules word rows)
    (of_row (λ id. has (row.doc ∷ docs) id ≡ true) row.doc (positions_of rules row.texts word) (or_left (nat_eq row.doc row.doc) (has docs row.doc) (eq-eqb row.doc row.doc refl)))
    (leads (λ p. has docs p.id ≡ true) among (rows_postings rules word rows) (λ p there. or_right (nat_eq p.id row.doc) (has docs p.id) there) (of_rows rules word rows))

module _ (rules : Rules) (limit : ℕ) (turns : List Turn) (s : IndexState) (through synced : ℕ) (batch : Batch) (is : IsBatch rules limit turns s through synced batch) where
  abbrev covered : ℕ
  covered = through - s.flushed

  abbrev later : IndexState
  later = after_entry turns s (sealed through synced batch)

  rest_is : drop through turns ≡ drop covered (unflushed turns s)
  rest_is = sym (drop-drop covered s.flushed turns ∙ ap (λ (n : ℕ). drop n turns) (omega (arith, is.through_is)))

  tables_are : (word : List ℕ) → joined (later.nodes word) ≡ joined (s.nodes word) ++ rows_postings rules word (alive_of turns (take covered (unflushed turns s)))
  tables_are word =
      joined_both (s.nodes word) (nodes_for word batch)
      ∙ ap (λ (ps : List Posting). joined (s.nodes word) ++ ps) (ap joined (is.nodes word) ∙ joined_packed _)

  -- what is not deleted stays
  still_live : (rows : List Row) → AreTurns 0 turns → FitsTurns turns s → LiveAreOf rules rows turns s → LiveAreOf rules rows turns later
  still_live rows are fits live word =
      ap₂ (λ (tables : List Posting) (rest : List Turn). filter (λ p. not (has later.deleted p.id || has (deaths_of rest) p.id)) (tables ++ rows_postings rules word (births_of rest)))
      (tables_are word) rest_is
      ∙ word_same rules turns s.synced s.flushed covered s.deleted are fits.synced fits.deleted word (joined (s.nodes word))
      (recursion_from_All (λ (p : Posting). p.id ≤ s.synced) (joined (s.nodes word)) (fits.tables word))
      ∙ live word

  abbrev front : List Turn
  front = unflushed_through through turns s

  -- and what it puts into the tables was born in the commits that it covers
  still_born : TablesAreOf rules (births_of (take s.flushed turns)) s → TablesAreOf rules (births_of (take through turns)) later
  still_born tables word =
      let test : ℕ → Bool = λ id. not (list_any (λ other. nat_eq other id) (deaths_of turns)) in
      let postings : List Row → List Posting = rows_postings rules word in
      let old = postings (births_of (take s.flushed turns)) in
      let new = postings (births_of front) in
      let parts : postings (births_of (take through turns)) ≡ old ++ new =
      ap (λ (ts : List Turn). postings (births_of ts)) (front_is turns s through (omega (arith, is.through_is)))
      ∙ ap postings (flat_map-append (λ (turn : Turn). turn.births) (take s.flushed turns) front)
      ∙ flat_map-append (row_postings rules word) (births_of (take s.flushed turns)) (births_of front) in
      let alive : All (Contains new) (postings (alive_of turns front)) =
      subst (All (Contains new)) (sym (rows_left rules word test (births_of front)))
      (All-filter (λ (p : Posting). test p.id) (Contains new) new (All-contains_itself new)) in
      subst (λ (ps : List Posting). All (Contains ps) (joined (later.nodes word))) (sym parts)
      (subst (All (Contains (old ++ new))) (sym (tables_are word))
      (All-append (Contains (old ++ new)) (joined (s.nodes word)) (postings (alive_of turns front))
      (λ k d less. Contains-append_left old new _ (tables word k d less))
      (λ k d less. Contains-append_right old new _ (alive k d less))))

  -- it keeps the index exact
  pub still_exact : (rows : List Row) → AreTurns 0 turns → FitsTurns turns s → IsExact rules rows turns s → IsExact rules rows turns later
  still_exact rows are fits exact = record { live = still_live rows are fits exact.live; tables = still_born exact.tables }

  module _ (are : AreTurns 0 turns) (fits : FitsTurns turns s) where
    ids_after : (word : List ℕ) → IdsAfter s.synced (rows_postings rules word (alive_of turns front))
    ids_after word =
        let test : ℕ → Bool = λ id. not (list_any (λ other. nat_eq other id) (deaths_of turns)) in
        subst (IdsAfter s.synced) (sym (rows_left rules word test (births_of front)))
        (after_left (λ p. test p.id) s.synced (rows_postings rules word (births_of front))
        (rows_after rules word s.synced (largest_after s.synced front) (births_of front) (births_ascend s.synced front (front_are turns s through are fits))))

    joined_is : (word : List ℕ) → joined (nodes_for word batch) ≡ rows_postings rules word (alive_of turns front)
    joined_is word = ap joined (is.nodes word) ∙ joined_packed _

  -- it can come behind the state
  pub can_seal : 0 < rules.min → AreTurns 0 turns → FitsTurns turns s → CanSeal turns s through synced batch
  can_seal least are fits =
      let test : ℕ → Bool = λ id. not (list_any (λ other. nat_eq other id) (deaths_of turns)) in
      let born = λ (p : Posting). has (born_ids front) p.id ≡ true in
      record {
        later = (let some = le-max_left 1 (covered_within limit 0 (unflushed turns s)) in omega (arith, is.through_is, some));
        made = through_within rules limit turns s through synced batch is;
        synced_is = is.synced_is;
        ascend = λ word. subst (IdsAfter 0) (sym (joined_is are fits word)) (after_lower 0 s.synced (rows_postings rules word (alive_of turns front)) (omega arith) (ids_after are fits word));
        no_empty = is.nodes [] ∙ ap packed (nothing_of_empty rules (alive_of turns front) least);
        packed_are = λ word. ap packed (joined_is are fits word) ∙ sym (is.nodes word);
        born = λ word. subst (All born) (sym (joined_is are fits word ∙ rows_left rules word test (births_of front)))
            (All-filter (λ (p : Posting). test p.id) born (rows_postings rules word (births_of front))
            (All-from_recursion born (rows_postings rules word (births_of front)) (of_rows rules word (births_of front))));
      }

  -- and the state behind it fits the commits still
  pub still_fits : 0 < rules.min → AreTurns 0 turns → FitsTurns turns s → FitsTurns turns later
  still_fits least are fits = seal_fits turns s through synced batch are fits (can_seal least are fits)

  -- its nodes come behind those that stand
  pub comes_after : AreTurns 0 turns → FitsTurns turns s → (word : List ℕ) → NodesAfter (last_of 0 (s.nodes word)) (nodes_for word batch)
  comes_after are fits word =
      subst (NodesAfter (last_of 0 (s.nodes word))) (sym (is.nodes word))
      (nodes_lower (last_of 0 (s.nodes word)) s.synced (packed (rows_postings rules word (alive_of turns front)))
      (last_within 0 s.synced (s.nodes word) (omega arith) (recursion_from_All (λ (p : Posting). p.id ≤ s.synced) (joined (s.nodes word)) (fits.tables word)))
      (packed_ascend s.synced (rows_postings rules word (alive_of turns front)) (ids_after are fits word)))

-- a batch leaves the state behind the next one
pub same_state : (rules : Rules) (limit : ℕ) (turns : List Turn) (s : IndexState) (through synced : ℕ) (batch : Batch) → IsBatch rules limit turns s through synced batch
    → after_entry turns s (sealed through synced batch) ≡ after_batch rules limit turns s
same_state rules limit turns s through synced batch is =
    let through_eq : through ≡ next_through limit turns s = is.through_is in
    let synced_eq : synced ≡ largest_after 0 (take (next_through limit turns s) turns) = is.synced_is ∙ ap (λ (n : ℕ). largest_after 0 (take n turns)) through_eq in
    let deleted_eq = ap (λ (n : ℕ). with_ids s.deleted (flushed_deaths s.synced (unflushed_through n turns s))) through_eq in
    let nodes_eq : (word : List ℕ) → nodes_for word batch ≡ packed (rows_postings rules word (alive_of turns (unflushed_through (next_through limit turns s) turns s)))
    = λ word. is.nodes word ∙ ap (λ (n : ℕ). packed (rows_postings rules word (alive_of turns (unflushed_through n turns s)))) through_eq in
    λ i. record s { flushed = through_eq i; synced = synced_eq i; deleted = deleted_eq i; nodes = λ word. s.nodes word ++ nodes_eq word i }
