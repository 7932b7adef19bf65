-- What is not deleted of tables and cache stays the same at a batch.
use Rattle.std.proofs.Common.{◌≡◌, ℕ, ◌<◌, ◌≤◌, Bool, true, false, not, ◌&&◌, ◌||◌, filter, nat_le, List, ◌++◌, append_assoc, take, drop, nat_eq, refl, sym, ap, ap₂, subst, ◌∙◌, arith}
use Rattle.std.specs.List.{AllByRecursion, list_any}
use Rattle.std.proofs.lemmas.Bool.{le-leb, lt-leb, false≢true}
use Rattle.std.proofs.lemmas.Grind.{flat_map-append}
use Rattle.std.proofs.lemmas.List.{take-append-drop}
use Rattle.std.proofs.lemmas.List.Elements.{filter-append}
use Rattle.std.proofs.lemmas.List.Folds.{list_any-append}
use Rattle.fts_words.specs.Indexed.{Rules}
use Rattle.fts_commits.specs.Turn.{Turn, AreTurns, births_of, deaths_of}
use Rattle.fts_ids.specs.Ids.{has}
use Rattle.fts_ids.proofs.Ascending.{has-filter}
use Rattle.fts_lists.specs.Ids.{with_ids}
use Rattle.fts_lists.proofs.Merging.{has-with_ids}
use Rattle.fts_ilist.specs.Spelling.{Posting}
use Rattle.fts_entries.specs.Entry.{flushed_deaths}
use Rattle.fts_entries.specs.Batch.{alive_of, largest_after}
use Rattle.fts_entries.specs.Words.{rows_postings, row_postings}
use Rattle.fts_entries.proofs.Filters.{same_left, left_twice, leads}
use Rattle.fts_entries.proofs.Postings.{IsBetween, rows_left, rows_between}
use Rattle.fts_entries.proofs.Turns.{AreTwo, two_parts, births_ascend, deaths_within, asked_so, ids_rise}

-- ---- of one id: d, it is in DELETED; s, it is flushed; a, c, r, it died in the commits that are flushed, that the batch
-- covers, that come later

of_tables : (d c r s : Bool) → s ≡ true → not ((d || (s && c)) || r) ≡ not (d || (c || r))
of_tables d c r false h = absurd (false≢true h)
of_tables true c r true h = refl
of_tables false c r true h = refl

of_front : (a d c r s : Bool) → a ≡ false → d ≡ false → s ≡ false → (not (a || (c || r)) && not ((d || (s && c)) || r)) ≡ not (d || (c || r))
of_front true d c r s h i j = absurd (false≢true (sym h))
of_front false true c r s h i j = absurd (false≢true (sym i))
of_front false false c r true h i j = absurd (false≢true (sym j))
of_front false false true r false h i j = refl
of_front false false false true false h i j = refl
of_front false false false false false h i j = refl

of_rest : (d c r s : Bool) → s ≡ false → c ≡ false → not ((d || (s && c)) || r) ≡ not (d || (c || r))
of_rest d c r true h i = absurd (false≢true (sym h))
of_rest d true r false h i = absurd (false≢true (sym i))
of_rest true false r false h i = refl
of_rest false false r false h i = refl

-- a test that would lead to what is not so, fails
pub fails : (b : Bool) → (b ≡ true → ⊥) → b ≡ false
fails true h = absurd (h refl)
fails false h = refl

module _ (rules : Rules) (turns : List Turn) (synced : ℕ) (flushed covered : ℕ) (deleted : List ℕ) where
  abbrev behind : List Turn
  behind = drop flushed turns

  abbrev front : List Turn
  front = take covered behind

  abbrev rest : List Turn
  rest = drop covered behind

  abbrev deleted_then : ℕ → Bool
  deleted_then id = has deleted id || has (deaths_of behind) id

  abbrev deleted_now : ℕ → Bool
  deleted_now id = has (with_ids deleted (flushed_deaths synced front)) id || has (deaths_of rest) id

  deaths_split : (front rest : List Turn) (id : ℕ) → has (deaths_of (front ++ rest)) id ≡ (has (deaths_of front) id || has (deaths_of rest) id)
  deaths_split front rest id =
      ap (λ (ids : List ℕ). has ids id) (flat_map-append (λ (turn : Turn). turn.deaths) front rest)
      ∙ list_any-append (nat_eq id) (deaths_of front) (deaths_of rest)

  then_is : (id : ℕ) → deleted_then id ≡ (has deleted id || (has (deaths_of front) id || has (deaths_of rest) id))
  then_is id =
      ap (λ (b : Bool). has deleted id || b) (ap (λ (ts : List Turn). has (deaths_of ts) id) (sym (take-append-drop covered behind)) ∙ deaths_split front rest id)

  now_is : (id : ℕ) → deleted_now id ≡ ((has deleted id || (nat_le id synced && has (deaths_of front) id)) || has (deaths_of rest) id)
  now_is id =
      ap (λ (b : Bool). b || has (deaths_of rest) id)
      (has-with_ids deleted (flushed_deaths synced front) id ∙ ap (λ (b : Bool). has deleted id || b) (has-filter (λ other. nat_le other synced) (deaths_of front) id))

  dead_is : (id : ℕ) → list_any (λ other. nat_eq other id) (deaths_of turns)
      ≡ (has (deaths_of (take flushed turns)) id || (has (deaths_of front) id || has (deaths_of rest) id))
  dead_is id =
      asked_so id (deaths_of turns)
      ∙ ap (λ (ts : List Turn). has (deaths_of ts) id) (sym (take-append-drop flushed turns))
      ∙ deaths_split (take flushed turns) behind id
      ∙ ap (λ (b : Bool). has (deaths_of (take flushed turns)) id || b)
      (ap (λ (ts : List Turn). has (deaths_of ts) id) (sym (take-append-drop covered behind)) ∙ deaths_split front rest id)

  module _ (are : AreTurns 0 turns) (order : synced ≡ largest_after 0 (take flushed turns)) (below : (id : ℕ) → has deleted id ≡ true → id ≤ synced) where
    parts : AreTwo 0 (take flushed turns) behind
    parts = two_parts 0 (take flushed turns) behind (subst (AreTurns 0) (sym (take-append-drop flushed turns)) are)

    later : AreTurns synced behind
    later = subst (λ n. AreTurns n behind) (sym order) parts.of_rest

    halves : AreTwo synced front rest
    halves = two_parts synced front rest (subst (AreTurns synced) (sym (take-append-drop covered behind)) later)

    not_synced : (id : ℕ) → synced < id → nat_le id synced ≡ false
    not_synced id above = lt-leb id synced above

    -- the tables' postings
    tables_same : (ps : List Posting) → AllByRecursion (λ p. p.id ≤ synced) ps → filter (λ p. not (deleted_now p.id)) ps ≡ filter (λ p. not (deleted_then p.id)) ps
    tables_same ps low =
        same_left (λ p. not (deleted_now p.id)) (λ p. not (deleted_then p.id)) ps
        (leads (λ p. p.id ≤ synced) (λ p. not (deleted_now p.id) ≡ not (deleted_then p.id)) ps
        (λ p h. ap not (now_is p.id) ∙ of_tables (has deleted p.id) (has (deaths_of front) p.id) (has (deaths_of rest) p.id) (nat_le p.id synced) (le-leb p.id synced h) ∙ ap not (sym (then_is p.id)))
        low)

    -- those of the commits that are covered
    front_same : (word : List ℕ) → filter (λ p. not (deleted_now p.id)) (rows_postings rules word (alive_of turns front))
        ≡ filter (λ p. not (deleted_then p.id)) (rows_postings rules word (births_of front))
    front_same word =
        let dead : ℕ → Bool = λ id. list_any (λ other. nat_eq other id) (deaths_of turns) in
        let ps : List Posting = rows_postings rules word (births_of front) in
        ap (filter (λ p. not (deleted_now p.id))) (rows_left rules word (λ id. not (dead id)) (births_of front))
        ∙ left_twice (λ p. not (deleted_now p.id)) (λ p. not (dead p.id)) ps
        ∙ same_left (λ p. not (dead p.id) && not (deleted_now p.id)) (λ p. not (deleted_then p.id)) ps
        (leads (λ p. IsBetween synced (largest_after synced front) p.id) (λ p. (not (dead p.id) && not (deleted_now p.id)) ≡ not (deleted_then p.id)) ps
        (λ p h. ap₂ (λ (x y : Bool). not x && not y) (dead_is p.id) (now_is p.id)
        ∙ of_front (has (deaths_of (take flushed turns)) p.id) (has deleted p.id) (has (deaths_of front) p.id) (has (deaths_of rest) p.id) (nat_le p.id synced)
        (fails (has (deaths_of (take flushed turns)) p.id) (λ is. let low = deaths_within 0 p.id (take flushed turns) parts.of_front is in omega (arith, low, order, h.above)))
        (fails (has deleted p.id) (λ is. let low = below p.id is in omega (arith, low, h.above)))
        (not_synced p.id h.above)
        ∙ ap not (sym (then_is p.id)))
        (rows_between rules word synced (largest_after synced front) (births_of front) (births_ascend synced front halves.of_front)))

    -- and those of the commits behind them
    rest_same : (word : List ℕ) → filter (λ p. not (deleted_now p.id)) (rows_postings rules word (births_of rest))
        ≡ filter (λ p. not (deleted_then p.id)) (rows_postings rules word (births_of rest))
    rest_same word =
        let ps : List Posting = rows_postings rules word (births_of rest) in
        let high = largest_after synced front in
        same_left (λ p. not (deleted_now p.id)) (λ p. not (deleted_then p.id)) ps
        (leads (λ p. IsBetween high (largest_after high rest) p.id) (λ p. not (deleted_now p.id) ≡ not (deleted_then p.id)) ps
        (λ p h. ap not (now_is p.id)
        ∙ of_rest (has deleted p.id) (has (deaths_of front) p.id) (has (deaths_of rest) p.id) (nat_le p.id synced)
        (not_synced p.id (let up = ids_rise synced front halves.of_front in omega (arith, up, h.above)))
        (fails (has (deaths_of front) p.id) (λ is. let low = deaths_within synced p.id front halves.of_front is in omega (arith, low, h.above)))
        ∙ ap not (sym (then_is p.id)))
        (rows_between rules word high (largest_after high rest) (births_of rest) (births_ascend high rest halves.of_rest)))

    -- all of a word
    pub word_same : (word : List ℕ) (tables : List Posting) → AllByRecursion (λ p. p.id ≤ synced) tables
        → filter (λ p. not (deleted_now p.id)) ((tables ++ rows_postings rules word (alive_of turns front)) ++ rows_postings rules word (births_of rest))
        ≡ filter (λ p. not (deleted_then p.id)) (tables ++ rows_postings rules word (births_of behind))
    word_same word tables low =
        let left = λ (p : Posting). not (deleted_now p.id) in
        let then = λ (p : Posting). not (deleted_then p.id) in
        let alive = rows_postings rules word (alive_of turns front) in
        let new = rows_postings rules word (births_of front) in
        let more = rows_postings rules word (births_of rest) in
        filter-append left (tables ++ alive) more
        ∙ ap₂ (λ (x y : List Posting). x ++ y)
        (filter-append left tables alive ∙ ap₂ (λ (x y : List Posting). x ++ y) (tables_same tables low) (front_same word))
        (rest_same word)
        ∙ ap (λ (x : List Posting). x ++ filter then more) (sym (filter-append then tables new))
        ∙ sym (filter-append then (tables ++ new) more)
        ∙ ap (filter then)
        (append_assoc tables new more
        ∙ ap (λ (x : List Posting). tables ++ x)
        (sym (flat_map-append (row_postings rules word) (births_of front) (births_of rest))
        ∙ ap (rows_postings rules word)
        (sym (flat_map-append (λ (turn : Turn). turn.births) front rest)
        ∙ ap births_of (take-append-drop covered behind))))
