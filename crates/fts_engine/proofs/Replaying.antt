-- What is kept while the entries of an index log are read, one commit or one batch further.
use Rattle.std.proofs.Common.{◌≡◌, ℕ, ◌+◌, ◌≤◌, List, [], ◌∷◌, ◌++◌, refl, ap, subst, sym, ◌∙◌, length, arith, take, drop, length-append}
use Rattle.std.proofs.lemmas.List.{take_all, take-append-le, take-append-drop, drop-append-le, drop_all, length-take, length-drop}
use Rattle.std.specs.Prelude.{Result, Ok, Err, IsErr, OnOk, OnErr}
use Rattle.fts_types.specs.declared.settings.Settings.{Settings}
use Rattle.fts_types.specs.Rules.{rules_of}
use Rattle.fts_words.specs.Indexed.{Rules}
use Rattle.fts_types.specs.Limits.{standard_limits}
use Rattle.fts_commits.specs.Commit.{Commit, Rows, no_rows, after_commit, replay}
use Rattle.fts_commits.specs.Turn.{Turn, AreTurns, turn_between, turns_from}
use Rattle.fts_entries.specs.Entry.{Batch, IndexState, no_entries, sealed, begun, worked, finished, after_entry}
use Rattle.fts_entries.specs.Pass.{IsStep}
use Rattle.fts_entries.proofs.Stepping.{step_fits}
use Rattle.fts_index.specs.declared.passing.PassPlan.{PassPlan}
use Rattle.fts_index.specs.declared.passing.PassPlan.TheVariants.{Begin, Word, Finish}
use Rattle.fts_index.specs.Passing.{step_entry}
use Rattle.fts_entries.specs.Batch.{largest_after}
use Rattle.fts_entries.specs.Coming.{CanSeal}
use Rattle.fts_entries.specs.Exact.{FitsTurns}
use Rattle.fts_entries.proofs.Commits.{none_fits}
use Rattle.fts_entries.proofs.Coming.{seal_fits}
use Rattle.fts_index.specs.declared.index.Index.{Index}
use Rattle.fts_index.specs.declared.restore.Covered.{Covered}
use Rattle.fts_types.specs.Row.{Row}
use Rattle.fts_index.specs.Births.{turn_of}
use Rattle.fts_index.specs.Stands.{StandsFor}
use Rattle.fts_index.specs.Restore as restore
use Rattle.fts_index.specs.Restore.{Covers, Restores}
use Rattle.fts_steps.proofs.Growing.{turns_more, turns_count}
use Rattle.fts_engine.specs.Indexed.{IsIndexOf}
use Rattle.fts_engine.specs.Covered.{Covering, HasCovered}
use Rattle.fts_engine.proofs.Accepting.{replay_accepted}
use Rattle.fts_engine.proofs.Indexing.{AreLaws, rows_ascend_more}

-- nothing was read
pub none_covered : (settings : Settings) (rows : Rows) (index : Index) (covered : Covered) → rows ≡ no_rows → StandsFor (rules_of settings) [] no_entries index → Covers [] covered → AreLaws
    → Covering settings rows index covered 0 [] no_entries
none_covered settings rows index covered none stands covers laws = record {
  same = none;
  counted = refl;
  restores = record { stands = stands; flushed = refl; fits = none_fits []; ascend = tt; covers = covers };
  are = record { ascend = tt; once = laws.once [] };
  lead = laws.rows [];
  ascend = omega arith;
}

-- what stands for the same covers the same
pub still_covered : (settings : Settings) (rows rows' : Rows) (index index' : Index) (covered covered' : Covered) (count : ℕ) (commits : List Commit) (s : IndexState) → rows' ≡ rows
    → ((rules : Rules) (turns : List Turn) (s : IndexState) → StandsFor rules turns s index → StandsFor rules turns s index') → ((turns : List Turn) → Covers turns covered → Covers turns covered')
    → Covering settings rows index covered count commits s → Covering settings rows' index' covered' count commits s
still_covered settings rows rows' index index' covered covered' count commits s same stands covers is = record {
  same = same ∙ is.same;
  counted = is.counted;
  restores = record {
    stands = stands (rules_of settings) (take s.flushed (turns_from no_rows commits)) s is.restores.stands;
    flushed = is.restores.flushed;
    fits = is.restores.fits;
    ascend = is.restores.ascend;
    covers = covers (drop s.flushed (turns_from no_rows commits)) is.restores.covers;
  };
  are = is.are;
  lead = is.lead;
  ascend = is.ascend;
}

-- a state that fits commits fits more
more_fits : (front rest : List Turn) (s : IndexState) → FitsTurns front s → FitsTurns (front ++ rest) s
more_fits front rest s fits = record {
  flushed = (let f = fits.flushed in omega (arith, f, length-append front rest));
  synced = fits.synced ∙ ap (largest_after 0) (sym (take-append-le s.flushed front rest fits.flushed));
  tables = fits.tables;
  ascend = fits.ascend;
  no_empty = fits.no_empty;
  deleted = fits.deleted;
  being = fits.being;
  passed = fits.passed;
}

module _ (settings : Settings) (rows : Rows) (index : Index) (covered : Covered) (count : ℕ) (commits : List Commit) (s : IndexState)
    (is : Covering settings rows index covered count commits s) where
  abbrev turns : List Turn
  turns = turns_from no_rows commits

  abbrev front : List Turn
  front = take s.flushed turns

  abbrev rest : List Turn
  rest = drop s.flushed turns

  whole : front ++ rest ≡ turns
  whole = take-append-drop s.flushed turns

  within : s.flushed ≤ length turns
  within = let flushed = is.restores.flushed in omega (arith, flushed, length-take s.flushed turns)

  fits_all : FitsTurns turns s
  fits_all = subst (λ (ts : List Turn). FitsTurns ts s) whole (more_fits front rest s is.restores.fits)

  -- one commit more was noted
  module _ (commit : Commit) (after : Rows) (accepted : after_commit standard_limits commit rows ≡ Ok after) (covered' : Covered)
      (noted : (more : List Turn) → Covers more covered → Covers (more ++ turn_between rows after ∷ []) covered') (laws : AreLaws) where
    accepted' : after_commit standard_limits commit (replay commits) ≡ Ok after
    accepted' = ap (λ (rows : Rows). after_commit standard_limits commit rows) (sym is.same) ∙ accepted

    abbrev turn : Turn
    turn = turn_between (replay commits) after

    grown : turns_from no_rows (commits ++ commit ∷ []) ≡ turns ++ turn ∷ []
    grown = turns_more no_rows commits (commit ∷ []) ∙ ap (λ (rows : Rows). turns ++ turn_between (replay commits) rows ∷ []) (rw accepted' refl)

    fronts : take s.flushed (turns_from no_rows (commits ++ commit ∷ [])) ≡ front
    fronts = ap (take s.flushed) grown ∙ take-append-le s.flushed turns (turn ∷ []) within

    rests : drop s.flushed (turns_from no_rows (commits ++ commit ∷ [])) ≡ rest ++ turn ∷ []
    rests = ap (drop s.flushed) grown ∙ drop-append-le s.flushed turns (turn ∷ []) within

    covers : Covers (rest ++ turn ∷ []) covered'
    covers = subst (λ (before : Rows). Covers (rest ++ turn_between before after ∷ []) covered') is.same (noted rest is.restores.covers)

    pub one_noted : Covering settings after index covered' (count + 1) (commits ++ commit ∷ []) s
    one_noted = record {
      same = sym (replay_accepted commits commit after accepted');
      counted = (let counted = is.counted in omega (arith, counted, length-append commits (commit ∷ [])));
      restores = record {
        stands = subst (λ (ts : List Turn). StandsFor (rules_of settings) ts s index) (sym fronts) is.restores.stands;
        flushed = is.restores.flushed ∙ ap length (sym fronts);
        fits = subst (λ (ts : List Turn). FitsTurns ts s) (sym fronts) is.restores.fits;
        ascend = subst (AreTurns 0) (sym (take-append-drop s.flushed (turns_from no_rows (commits ++ commit ∷ [])))) (laws.ascend (commits ++ commit ∷ []));
        covers = subst (λ (ts : List Turn). Covers ts covered') (sym rests) covers;
      };
      are = record { ascend = laws.ascend (commits ++ commit ∷ []); once = laws.once (commits ++ commit ∷ []) };
      lead = laws.rows (commits ++ commit ∷ []);
      ascend = rows_ascend_more commits commit laws is.ascend;
    }

  -- a state that flushes as much
  stepped : (later : IndexState) (new : Index) → later.flushed ≡ s.flushed → StandsFor (rules_of settings) front later new → FitsTurns front later
      → Covering settings rows new covered count commits later
  stepped later new still stands fits = record {
    same = is.same;
    counted = is.counted;
    restores = record {
      stands = subst (λ (n : ℕ). StandsFor (rules_of settings) (take n turns) later new) (sym still) stands;
      flushed = still ∙ is.restores.flushed ∙ ap (λ (n : ℕ). length (take n turns)) (sym still);
      fits = subst (λ (n : ℕ). FitsTurns (take n turns) later) (sym still) fits;
      ascend = subst (λ (n : ℕ). AreTurns 0 (take n turns ++ drop n turns)) (sym still) is.restores.ascend;
      covers = subst (λ (n : ℕ). Covers (drop n turns) covered) (sym still) is.restores.covers;
    };
    are = is.are;
    lead = is.lead;
    ascend = is.ascend;
  }

  -- a batch was installed that flushes all
  pub one_installed : (through synced : ℕ) (batch : Batch) (new : Index) (covered' : Covered)
      → restore.IsRestored (rules_of settings) (front ++ rest) s through synced batch new → Covers [] covered'
      → Covering settings rows new covered' count commits (after_entry turns s (sealed through synced batch))
  one_installed through synced batch new covered' restored covers =
      let at : through ≡ length turns = restored.whole ∙ ap length whole in
      let all : take through turns ≡ turns = ap (λ (n : ℕ). take n turns) at ∙ take_all (length turns) turns (omega arith) in
      let none : drop through turns ≡ [] = drop_all through turns (omega (arith, at)) in
      let stands = subst (λ (ts : List Turn). StandsFor (rules_of settings) ts (after_entry ts s (sealed through synced batch)) new) whole restored.stands in
      let can = subst (λ (ts : List Turn). CanSeal ts s through synced batch) whole restored.can in
      record {
        same = is.same;
        counted = is.counted;
        restores = record {
          stands = subst (λ (ts : List Turn). StandsFor (rules_of settings) ts (after_entry turns s (sealed through synced batch)) new) (sym all) stands;
          flushed = at ∙ ap length (sym all);
          fits = subst (λ (ts : List Turn). FitsTurns ts (after_entry turns s (sealed through synced batch))) (sym all) (seal_fits turns s through synced batch is.are.ascend fits_all can);
          ascend = subst (AreTurns 0) (sym (take-append-drop through turns)) is.are.ascend;
          covers = subst (λ (ts : List Turn). Covers ts covered') (sym none) covers;
        };
        are = is.are;
        lead = is.lead;
        ascend = is.ascend;
      }

  -- a step of OPTIMIZE was made, which flushes nothing
  pub one_stepped : (plan : PassPlan) (new : Index) → IsStep s (step_entry plan)
      → StandsFor (rules_of settings) front (after_entry front s (step_entry plan)) new
      → Covering settings rows new covered count commits (after_entry turns s (step_entry plan))
  one_stepped plan new next stands = by plan refl
    where
      by : (step : PassPlan) → step ≡ plan → Covering settings rows new covered count commits (after_entry turns s (step_entry step))
      by Begin e = stepped (after_entry front s begun) new refl
          (subst (λ (p : PassPlan). StandsFor (rules_of settings) front (after_entry front s (step_entry p)) new) (sym e) stands)
          (step_fits front s begun is.restores.fits (subst (λ (p : PassPlan). IsStep s (step_entry p)) (sym e) next))
      by (Word word nodes) e = stepped (after_entry front s (worked word nodes.nodes)) new refl
          (subst (λ (p : PassPlan). StandsFor (rules_of settings) front (after_entry front s (step_entry p)) new) (sym e) stands)
          (step_fits front s (worked word nodes.nodes) is.restores.fits (subst (λ (p : PassPlan). IsStep s (step_entry p)) (sym e) next))
      by Finish e = stepped (after_entry front s finished) new refl
          (subst (λ (p : PassPlan). StandsFor (rules_of settings) front (after_entry front s (step_entry p)) new) (sym e) stands)
          (step_fits front s finished is.restores.fits (subst (λ (p : PassPlan). IsStep s (step_entry p)) (sym e) next))

  -- where nothing is noted, all that was read is flushed
  pub none_noted : covered.count ≡ 0 → count ≤ s.flushed
  none_noted none =
      let noted = is.restores.covers.count in
      let counted = is.counted in
      omega (arith, noted, none, counted, length-drop s.flushed turns, turns_count no_rows commits)

  -- a batch that flushes no more than what was read can't come, if it can't behind what was noted
  pub none_can : (through synced : ℕ) (batch : Batch) → length commits ≤ through
      → (length (front ++ rest) ≤ through → CanSeal (front ++ rest) s through synced batch → ⊥) → CanSeal turns s through synced batch → ⊥
  none_can through synced batch most none can =
      none (omega (arith, most, ap length whole, turns_count no_rows commits)) (subst (λ (ts : List Turn). CanSeal ts s through synced batch) (sym whole) can)

  pub can_whole : (through synced : ℕ) (batch : Batch) → CanSeal (front ++ rest) s through synced batch → CanSeal turns s through synced batch
  can_whole through synced batch can = subst (λ (ts : List Turn). CanSeal ts s through synced batch) whole can

  -- where all commits are flushed the index stands for all
  pub all_flushed : covered.count ≡ 0 → IsIndexOf settings rows index commits s
  all_flushed none =
      let counted = is.restores.covers.count in
      let all : front ≡ turns = take_all s.flushed turns (omega (arith, counted, none, length-drop s.flushed turns)) in
      record {
        same = is.same;
        stands = subst (λ (ts : List Turn). StandsFor (rules_of settings) ts s index) all is.restores.stands;
        are = is.are;
        lead = is.lead;
        fits = subst (λ (ts : List Turn). FitsTurns ts s) all is.restores.fits;
        ascend = is.ascend;
      }

-- behind a call that installs a batch or refuses it something is covered still
pub still_has : {T E : Type 0} (settings : Settings) (rows : Rows) (index new : Index) (covered covered' : Covered) (count through synced : ℕ) (batch : Batch) (result : Result T E)
    → OnOk result ((rules : Rules) (turns more : List Turn) (s : IndexState) → Restores rules turns more s index covered → restore.IsRestored rules (turns ++ more) s through synced batch new)
    → OnOk result (Covers [] covered') → (IsErr result → (rules : Rules) (turns : List Turn) (s : IndexState) → StandsFor rules turns s index → StandsFor rules turns s new)
    → OnErr result (covered' ≡ covered) → HasCovered settings rows index covered count → HasCovered settings rows new covered' count
still_has settings rows index new covered covered' count through synced batch (Ok done) restored none stays same has =
    let turns = turns_from no_rows has.commits in
    let s = has.state in
    record {
      commits = has.commits;
      state = after_entry turns s (sealed through synced batch);
      is = one_installed settings rows index covered count has.commits s has.is through synced batch new covered'
          (restored (rules_of settings) (take s.flushed turns) (drop s.flushed turns) s has.is.restores) none;
    }
still_has settings rows index new covered covered' count through synced batch (Err error) restored none stays same has = record {
  commits = has.commits;
  state = has.state;
  is = still_covered settings rows rows index new covered covered' count has.commits has.state refl (stays refl)
      (λ turns covers. subst (λ (c : Covered). Covers turns c) (sym same) covers) has.is;
}

-- behind a call that makes a step of OPTIMIZE or refuses it too
pub still_stepped : {T E : Type 0} (settings : Settings) (rows : Rows) (index new : Index) (covered : Covered) (count : ℕ) (plan : PassPlan) (result : Result T E)
    → OnOk result ((rules : Rules) (turns : List Turn) (s : IndexState) → StandsFor rules turns s index
    → IsStep s (step_entry plan) × StandsFor rules turns (after_entry turns s (step_entry plan)) new)
    → (IsErr result → (rules : Rules) (turns : List Turn) (s : IndexState) → StandsFor rules turns s index → StandsFor rules turns s new)
    → HasCovered settings rows index covered count → HasCovered settings rows new covered count
still_stepped settings rows index new covered count plan (Ok done) made stays has =
    let turns = turns_from no_rows has.commits in
    let s = has.state in
    let step = made (rules_of settings) (take s.flushed turns) s has.is.restores.stands in
    record {
      commits = has.commits;
      state = after_entry turns s (step_entry plan);
      is = one_stepped settings rows index covered count has.commits s has.is plan new step.0 step.1;
    }
still_stepped settings rows index new covered count plan (Err error) made stays has = record {
  commits = has.commits;
  state = has.state;
  is = still_covered settings rows rows index new covered covered count has.commits has.state refl (stays refl) (λ turns covers. covers) has.is;
}

-- a commit was replayed: who was born in it and who died was noted, and its rows were installed
pub replay_covers : (settings : Settings) (rows held new : Rows) (index : Index) (covered covered' : Covered) (count count' : ℕ) (commit : Commit) (after : Rows)
    (births : List Row) (deaths : List ℕ) (largest : ℕ) → AreLaws → after_commit standard_limits commit rows ≡ Ok after → held ≡ rows
    → births ≡ (turn_between held after).births → deaths ≡ (turn_between held after).deaths → largest ≡ (turn_between held after).largest
    → ((more : List Turn) → Covers more covered → Covers (more ++ turn_of births deaths largest ∷ []) covered') → new ≡ after → count' ≡ count + 1
    → (commits : List Commit) (s : IndexState) → Covering settings rows index covered count commits s → Covering settings new index covered' count' (commits ++ commit ∷ []) s
replay_covers settings rows held new index covered covered' count count' commit after births deaths largest laws accepted same born died used noted installed counted commits s is =
    let turn : turn_of births deaths largest ≡ turn_between rows after =
    ap (λ (bs : List Row). turn_of bs deaths largest) born
    ∙ ap (λ (ds : List ℕ). turn_of (turn_between held after).births ds largest) died
    ∙ ap (λ (n : ℕ). turn_of (turn_between held after).births (turn_between held after).deaths n) used
    ∙ ap (λ (rows : Rows). turn_between rows after) same in
    subst (λ (n : ℕ). Covering settings new index covered' n (commits ++ commit ∷ []) s) (sym counted)
    (subst (λ (rows : Rows). Covering settings rows index covered' (count + 1) (commits ++ commit ∷ []) s) (sym installed)
    (one_noted settings rows index covered count commits s is commit after accepted covered'
    (λ more covers. subst (λ (turn : Turn). Covers (more ++ turn ∷ []) covered') turn (noted more covers)) laws))
