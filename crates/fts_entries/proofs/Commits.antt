-- A commit keeps an index right, and so does an index without entries begin.
use Rattle.std.proofs.Common.{◌≡◌, ℕ, ◌-◌, ◌<◌, ◌≤◌, Bool, true, false, cond, not, ◌&&◌, ◌||◌, filter, List, [], ◌∷◌, ◌++◌, append-nil, append_assoc, take, drop, length, zero, suc, nat_eq, refl, sym, ap, ap₂, subst, ◌∙◌, ⊎_elim, arith}
use Rattle.std.specs.Prelude.{fold}
use Rattle.std.specs.List.{AllByRecursion, list_any}
use Rattle.std.proofs.lemmas.Bool.{false≢true, cases_lt}
use Rattle.std.proofs.lemmas.Grind.{flat_map-append}
use Rattle.std.proofs.lemmas.List.{take-append-le, take-append-drop, drop-append-le, length-drop}
use Rattle.std.proofs.lemmas.List.Elements.{filter-append, filter_agree, recursion_from_All}
use Rattle.std.proofs.lemmas.List.Folds.{list_any-append}
use Rattle.fts_words.specs.Indexed.{Rules}
use Rattle.fts_types.specs.Row.{Row}
use Rattle.fts_commits.specs.Commit.{Rows, no_rows}
use Rattle.fts_commits.specs.Turn.{Turn, AreTurns, births_of, deaths_of, rows_but, rows_by}
use Rattle.fts_ids.specs.Ids.{has}
use Rattle.fts_ilist.specs.Spelling.{Posting}
use Rattle.fts_ilist.specs.Node.{nodes_for}
use Rattle.fts_ilist.specs.Packing.{joined}
use Rattle.fts_lists.specs.Ids.{with_ids}
use Rattle.fts_entries.specs.Entry.{Batch, IndexEntry, sealed, begun, worked, finished, IndexState, no_entries, after_entry, index_of, unflushed, flushed_deaths, AreThrough}
use Rattle.fts_entries.specs.Batch.{largest_after}
use Rattle.fts_entries.specs.Exact.{is_deleted, all_postings, FitsTurns, IsExact, LiveAreOf, TablesAreOf}
use Rattle.fts_entries.specs.Words.{rows_postings, row_postings}
use Rattle.fts_entries.proofs.Filters.{left_twice, leads}
use Rattle.fts_entries.proofs.Postings.{IsBetween, rows_left, rows_between}
use Rattle.fts_entries.proofs.Turns.{AreTwo, two_parts, largest_behind, ids_rise, deaths_within, among_all, asked_so}
use Rattle.fts_entries.proofs.Batches.{fails}

-- a test that all pass leaves all
all_left : {X : Type 0} (test : X → Bool) (xs : List X) → AllByRecursion (λ x. test x ≡ true) xs → filter test xs ≡ xs
all_left test [] h = refl
all_left test (x ∷ xs) h = ap₂ (λ (b : Bool) (ys : List _). cond b (x ∷ ys) ys) h.0 (all_left test xs h.1)

-- ---- one commit more

of_old : (a b c : Bool) → not (a || (b || c)) ≡ (not (a || b) && not c)
of_old true b c = refl
of_old false true c = refl
of_old false false c = refl

of_new : (a b c : Bool) → a ≡ false → b ≡ false → c ≡ false → not (a || (b || c)) ≡ true
of_new true b c h i j = absurd (false≢true (sym h))
of_new false true c h i j = absurd (false≢true (sym i))
of_new false false true h i j = absurd (false≢true (sym j))
of_new false false false h i j = refl

module _ (turns : List Turn) (turn : Turn) (s : IndexState) (fits : FitsTurns turns s) where
  pub one_fits : FitsTurns (turns ++ turn ∷ []) s
  one_fits = record {
    flushed = omega (arith, fits.flushed, more);
    synced = fits.synced ∙ ap (largest_after 0) (sym (take-append-le s.flushed turns (turn ∷ []) fits.flushed));
    tables = fits.tables;
    ascend = fits.ascend;
    no_empty = fits.no_empty;
    deleted = fits.deleted;
    being = fits.being;
    passed = fits.passed;
  }
    where
      more : length turns ≤ length (turns ++ turn ∷ [])
      more = longer turns
        where
          longer : (ts : List Turn) → length ts ≤ length (ts ++ turn ∷ [])
          longer [] = omega arith
          longer (t ∷ ts) = omega (arith, longer ts)

  behind_is : unflushed (turns ++ turn ∷ []) s ≡ unflushed turns s ++ turn ∷ []
  behind_is = drop-append-le s.flushed turns (turn ∷ []) fits.flushed

  births_are : births_of (unflushed (turns ++ turn ∷ []) s) ≡ births_of (unflushed turns s) ++ turn.births
  births_are =
      ap births_of behind_is ∙ flat_map-append (λ (t : Turn). t.births) (unflushed turns s) (turn ∷ [])
      ∙ ap (λ (rows : List Row). births_of (unflushed turns s) ++ rows) (append-nil turn.births)

  deleted_is : (id : ℕ) → is_deleted (turns ++ turn ∷ []) s id ≡ (has s.deleted id || (has (deaths_of (unflushed turns s)) id || has turn.deaths id))
  deleted_is id =
      ap (λ (b : Bool). has s.deleted id || b)
      (ap (λ (ts : List Turn). has (deaths_of ts) id) behind_is
      ∙ ap (λ (ids : List ℕ). has ids id) (flat_map-append (λ (t : Turn). t.deaths) (unflushed turns s) (turn ∷ [])
      ∙ ap (λ (ids : List ℕ). deaths_of (unflushed turns s) ++ ids) (append-nil turn.deaths))
      ∙ list_any-append (nat_eq id) (deaths_of (unflushed turns s)) turn.deaths)

  all_are : (rules : Rules) (word : List ℕ) → all_postings rules (turns ++ turn ∷ []) s word ≡ all_postings rules turns s word ++ rows_postings rules word turn.births
  all_are rules word =
      ap (λ (rows : List Row). joined (s.nodes word) ++ rows_postings rules word rows) births_are
      ∙ ap (λ (ps : List Posting). joined (s.nodes word) ++ ps) (flat_map-append (row_postings rules word) (births_of (unflushed turns s)) turn.births)
      ∙ sym (append_assoc (joined (s.nodes word)) (rows_postings rules word (births_of (unflushed turns s))) (rows_postings rules word turn.births))

  module _ (are : AreTurns 0 (turns ++ turn ∷ [])) where
    parts : AreTwo 0 turns (turn ∷ [])
    parts = two_parts 0 turns (turn ∷ []) are

    none_behind : (id : ℕ) → has (deaths_of (unflushed turns s)) id ≡ true → has (deaths_of turns) id ≡ true
    none_behind id there = in_drop s.flushed turns there
      where
        or_true : (a b : Bool) → b ≡ true → (a || b) ≡ true
        or_true true b h = refl
        or_true false b h = h

        in_drop : (n : ℕ) (ts : List Turn) → has (deaths_of (drop n ts)) id ≡ true → has (deaths_of ts) id ≡ true
        in_drop zero ts h = h
        in_drop (suc n) [] h = h
        in_drop (suc n) (t ∷ ts) h = list_any-append (nat_eq id) t.deaths (deaths_of ts) ∙ or_true (has t.deaths id) (has (deaths_of ts) id) (in_drop n ts h)

    low_synced : s.synced ≤ largest_after 0 turns
    low_synced =
        let halves = two_parts 0 (take s.flushed turns) (drop s.flushed turns) (subst (AreTurns 0) (sym (take-append-drop s.flushed turns)) parts.of_front) in
        let e : largest_after 0 turns ≡ largest_after (largest_after 0 (take s.flushed turns)) (drop s.flushed turns) =
        ap (largest_after 0) (sym (take-append-drop s.flushed turns)) ∙ largest_behind 0 (take s.flushed turns) (drop s.flushed turns) in
        omega (arith, fits.synced, e, ids_rise (largest_after 0 (take s.flushed turns)) (drop s.flushed turns) halves.of_rest)

    news_stay : (rules : Rules) (word : List ℕ)
        → filter (λ p. not (is_deleted (turns ++ turn ∷ []) s p.id)) (rows_postings rules word turn.births) ≡ rows_postings rules word turn.births
    news_stay rules word =
        let low = largest_after 0 turns in
        all_left (λ p. not (is_deleted (turns ++ turn ∷ []) s p.id)) (rows_postings rules word turn.births)
        (leads (λ p. IsBetween low turn.largest p.id) (λ p. not (is_deleted (turns ++ turn ∷ []) s p.id) ≡ true) (rows_postings rules word turn.births)
        (λ p h. ap not (deleted_is p.id)
        ∙ of_new (has s.deleted p.id) (has (deaths_of (unflushed turns s)) p.id) (has turn.deaths p.id)
        (fails (has s.deleted p.id) (λ is. let down = fits.deleted p.id is in omega (arith, down, low_synced, h.above)))
        (fails (has (deaths_of (unflushed turns s)) p.id) (λ is. let down = deaths_within 0 p.id turns parts.of_front (none_behind p.id is) in omega (arith, down, h.above)))
        (fails (has turn.deaths p.id) (λ is. let down = among_all low p.id turn.deaths (recursion_from_All (λ (other : ℕ). other ≤ low) turn.deaths parts.of_rest.1) is in omega (arith, down, h.above))))
        (rows_between rules word low turn.largest turn.births parts.of_rest.0))

    one_live : (rules : Rules) (rows : Rows) → LiveAreOf rules rows.list turns s → LiveAreOf rules (rows_by rows turn).list (turns ++ turn ∷ []) s
    one_live rules rows live word =
        let left = λ (p : Posting). not (is_deleted (turns ++ turn ∷ []) s p.id) in
        let stays = λ (p : Posting). not (has turn.deaths p.id) in
        let then = λ (p : Posting). not (is_deleted turns s p.id) in
        let old = all_postings rules turns s word in
        let new = rows_postings rules word turn.births in
        ap (filter left) (all_are rules word)
        ∙ filter-append left old new
        ∙ ap₂ (λ (x y : List Posting). x ++ y)
        (filter_agree left (λ p. then p && stays p) (λ p. ap not (deleted_is p.id) ∙ of_old (has s.deleted p.id) (has (deaths_of (unflushed turns s)) p.id) (has turn.deaths p.id)) old
        ∙ sym (left_twice stays then old)
        ∙ ap (filter stays) (live word)
        ∙ sym (rows_left rules word (λ id. not (has turn.deaths id)) rows.list)
        ∙ ap (rows_postings rules word) (filter_agree (λ row. not (has turn.deaths row.doc)) (λ row. not (list_any (λ id. nat_eq id row.doc) turn.deaths)) (λ row. ap not (sym (asked_so row.doc turn.deaths))) rows.list))
        (news_stay rules word)
        ∙ sym (flat_map-append (row_postings rules word) (rows_but turn.deaths rows.list) turn.births)

    -- a commit keeps the index exact
    pub one_exact : (rules : Rules) (rows : Rows) → IsExact rules rows.list turns s → IsExact rules (rows_by rows turn).list (turns ++ turn ∷ []) s
    one_exact rules rows exact = record {
      live = one_live rules rows exact.live;
      tables = subst (λ (ts : List Turn). TablesAreOf rules (births_of ts) s) (sym (take-append-le s.flushed turns (turn ∷ []) fits.flushed)) exact.tables;
    }

-- ---- an index without entries

pub none_fits : (turns : List Turn) → FitsTurns turns no_entries
none_fits turns = record {
  flushed = omega arith;
  synced = refl;
  tables = λ word k d less. absurd (omega (arith, less));
  ascend = λ word. tt;
  no_empty = refl;
  deleted = λ id there. absurd (false≢true there);
  being = λ id there. absurd (false≢true there);
  passed = λ word past. absurd past;
}

none_exact : (rules : Rules) → IsExact rules [] [] no_entries
none_exact rules = record { live = λ word. refl; tables = λ word k d less. absurd (omega (arith, less)) }

-- ---- the state of entries does not change with a commit behind those that they cover

pub taken_before : (turns more : List Turn) (flushed through : ℕ) → through ≤ length turns → take (through - flushed) (drop flushed (turns ++ more)) ≡ take (through - flushed) (drop flushed turns)
taken_before turns more flushed through less =
    ⊎_elim
    (λ (past : length turns < flushed). (let none : through - flushed ≡ 0 = omega (arith, less, past) in
    ap (λ (n : ℕ). take n (drop flushed (turns ++ more))) none ∙ ap (λ (n : ℕ). take n (drop flushed turns)) (sym none)))
    (λ (within : flushed ≤ length turns). ap (take (through - flushed)) (drop-append-le flushed turns more within)
    ∙ take-append-le (through - flushed) (drop flushed turns) more (let long = length-drop flushed turns in omega (arith, less, within, long)))
    (cases_lt (length turns) flushed)

abbrev pub sealed_with : IndexState → ℕ → ℕ → Batch → List Turn → IndexState
sealed_with s through synced batch covered = record s {
  flushed = through;
  synced = synced;
  deleted = with_ids s.deleted (flushed_deaths s.synced covered);
  nodes = λ word. s.nodes word ++ nodes_for word batch;
}

same_after : (turns more : List Turn) (s : IndexState) (entries : List IndexEntry) → AreThrough (length turns) entries
    → fold (after_entry (turns ++ more)) s entries ≡ fold (after_entry turns) s entries
same_after turns more s [] through = refl
same_after turns more s (sealed n synced batch ∷ entries) through =
    ap (λ (covered : List Turn). fold (after_entry (turns ++ more)) (sealed_with s n synced batch covered) entries) (taken_before turns more s.flushed n through.0)
    ∙ same_after turns more (after_entry turns s (sealed n synced batch)) entries through.1
same_after turns more s (begun ∷ entries) through = same_after turns more (after_entry turns s begun) entries through
same_after turns more s (worked word nodes ∷ entries) through = same_after turns more (after_entry turns s (worked word nodes)) entries through
same_after turns more s (finished ∷ entries) through = same_after turns more (after_entry turns s finished) entries through

pub same_index : (turns more : List Turn) (entries : List IndexEntry) → AreThrough (length turns) entries → index_of (turns ++ more) entries ≡ index_of turns entries
same_index turns more entries through = same_after turns more no_entries entries through

-- ---- commits alone

exact_on : (rules : Rules) (s : IndexState) (more turns : List Turn) (rows : Rows) → AreTurns 0 (turns ++ more) → FitsTurns turns s → IsExact rules rows.list turns s
    → IsExact rules (fold rows_by rows more).list (turns ++ more) s
exact_on rules s [] turns rows are fits exact = subst (λ (ts : List Turn). IsExact rules rows.list ts s) (sym (append-nil turns)) exact
exact_on rules s (turn ∷ more) turns rows are fits exact =
    let joined_up : (turns ++ turn ∷ []) ++ more ≡ turns ++ turn ∷ more = append_assoc turns (turn ∷ []) more in
    let all : AreTurns 0 ((turns ++ turn ∷ []) ++ more) = subst (AreTurns 0) (sym joined_up) are in
    let front = (two_parts 0 (turns ++ turn ∷ []) more all).of_front in
    subst (λ (ts : List Turn). IsExact rules (fold rows_by (rows_by rows turn) more).list ts s) joined_up
    (exact_on rules s more (turns ++ turn ∷ []) (rows_by rows turn) all (one_fits turns turn s fits) (one_exact turns turn s fits front rules rows exact))

-- without entries an index has in its cache all that was born, and each death counts
pub commits_exact : (rules : Rules) (turns : List Turn) → AreTurns 0 turns → IsExact rules (fold rows_by no_rows turns).list turns no_entries
commits_exact rules turns are = exact_on rules no_entries turns [] no_rows are (none_fits []) (none_exact rules)
