-- That an index in memory still stands for commits.
use Rattle.std.proofs.Common.{◌≡◌, ℕ, ◌<◌, ◌≤◌, List, [], ◌∷◌, ◌++◌, refl, ap, subst, sym, ◌∙◌, length, arith, cond}
use Rattle.std.proofs.lemmas.List.Sums.{fold-append}
use Rattle.std.proofs.lemmas.Bool.{and_parts, leb-true}
use Rattle.std.proofs.Math.Logic.{∥∥₁_elim}
use Rattle.std.specs.Prelude.{Ok, fold, nat_eq, Bool, true, false, nat_le, if◌then◌else◌, Option, Some, None, filter, not, ◌==◌}
use Rattle.std.specs.List.{IsDistinct, list_any}
use Rattle.fts_types.specs.declared.settings.Settings.{Settings}
use Rattle.fts_types.specs.declared.check.Field.{Field}
use Rattle.fts_types.specs.declared.check.Field.TheVariants.{Columns, Min, Max, OptimizeWords, CacheBytes, BatchDocs}
use Rattle.fts_types.specs.Settings.{AreSettings, first_wrong_of, is_right}
use Rattle.fts_types.specs.Limits.{standard_limits}
use Rattle.fts_types.specs.Row.{Row}
use Rattle.fts_types.specs.Rules.{rules_of}
use Rattle.fts_words.specs.Indexed.{Rules}
use Rattle.fts_commits.specs.Commit.{Commit, Rows, no_rows, after_commit, rows_after, replay}
use Rattle.fts_commits.specs.Turn.{Turn, RowsAscend, AreTurns, rows_but, rows_by, turn_between, turns_from, deaths_of}
use Rattle.fts_rows.specs.Rows.{Held, rows_of}
use Rattle.fts_entries.specs.Entry.{Batch, IndexEntry, IndexState, sealed, after_entry}
use Rattle.fts_entries.specs.Pass.{IsStep}
use Rattle.fts_entries.proofs.Stepping.{step_fits}
use Rattle.fts_entries.specs.Batch.{IsBatch, largest_after, after_batch}
use Rattle.fts_entries.specs.Exact.{FitsTurns}
use Rattle.fts_entries.proofs.Commits.{one_fits}
use Rattle.fts_entries.proofs.Turns.{two_parts}
use Rattle.fts_entries.proofs.Kept.{still_fits, same_state}
use Rattle.fts_index.specs.declared.index.Index.{Index}
use Rattle.fts_index.specs.Births.{AreBirths}
use Rattle.fts_index.proofs.Births.{ids_lower}
use Rattle.fts_index.proofs.Newest.{newest_used}
use Rattle.fts_index.specs.declared.sync.SyncPlan.{SyncPlan}
use Rattle.fts_index.specs.Stands.{StandsFor, AreCommits}
use Rattle.fts_index.specs.Index.{CanTurn, WillTurn, FitsSync, PlansBatch, newest}
use Rattle.fts_engine.specs.declared.kept.NextKept.{NextKept}
use Rattle.fts_engine.specs.Indexed.{IsIndexOf, HasIndex}
use Rattle.fts_engine.specs.Next.{WillHold}
use Rattle.fts_engine.specs.Planned.{IsPlannedOf}
use Rattle.fts_engine.proofs.Props.{fits_prop}
use Rattle.fts_steps.proofs.Growing.{AreKnown, turns_more, turns_count}
use Rattle.fts_engine.proofs.Accepting.{replay_accepted}

ids_order : (low high : ℕ) (rows : List Row) → RowsAscend low high rows → low ≤ high
ids_order low high [] up = up
ids_order low high (row ∷ rows) up = (let rest = ids_order row.doc high rows up.1 in omega (arith, up.0, rest))

rows_join : (low middle high : ℕ) (rows more : List Row) → RowsAscend low middle rows → RowsAscend middle high more → RowsAscend low high (rows ++ more)
rows_join low middle high [] more up rise = ids_lower low middle high more up rise
rows_join low middle high (row ∷ rows) more up rise = (up.0, rows_join row.doc middle high rows more up.1 rise)

-- rows of which some are taken out ascend still
rows_lower : (low low' high : ℕ) (rows : List Row) → low ≤ low' → RowsAscend low' high rows → RowsAscend low high rows
rows_lower low low' high [] less up = omega (arith, less, up)
rows_lower low low' high (row ∷ rows) less up = (omega (arith, less, up.0), up.1)

rows_left : (left : Row → Bool) (low high : ℕ) (rows : List Row) → RowsAscend low high rows → RowsAscend low high (filter left rows)
rows_left left low high [] up = up
rows_left left low high (row ∷ rows) up = by (left row) refl (rows_left left row.doc high rows up.1)
  where
    by : (b : Bool) → left row ≡ b → RowsAscend row.doc high (filter left rows) → RowsAscend low high (cond b (row ∷ filter left rows) (filter left rows))
    by true is rest = (up.0, rest)
    by false is rest = rows_lower low row.doc high (filter left rows) (omega (arith, up.0)) rest

-- the largest id that the turns used is that of the rows
largest_is : (rows : Rows) (commits : List Commit) → largest_after rows.largest (turns_from rows commits) ≡ (fold rows_after rows commits).largest
largest_is rows [] = refl
largest_is rows (commit ∷ commits) = largest_is (rows_after rows commit) commits

-- the laws of a database's turns
pub record AreLaws : Type 0 where
  pub ascend : (commits : List Commit) → AreTurns 0 (turns_from no_rows commits)
  pub rows : (commits : List Commit) → fold rows_by no_rows (turns_from no_rows commits) ≡ replay commits
  pub once : (commits : List Commit) → IsDistinct nat_eq (deaths_of (turns_from no_rows commits))

-- the rows behind one commit more ascend
pub rows_ascend_more : (commits : List Commit) (commit : Commit) → AreLaws → RowsAscend 0 (replay commits).largest (replay commits).list
    → RowsAscend 0 (replay (commits ++ commit ∷ [])).largest (replay (commits ++ commit ∷ [])).list
rows_ascend_more commits commit laws up =
    subst (λ (rows : Rows). RowsAscend 0 rows.largest rows.list) led
    (rows_join 0 (replay commits).largest turn.largest (rows_but turn.deaths (replay commits).list) turn.births
    (rows_left (λ row. not (list_any (λ id. id == row.doc) turn.deaths)) 0 (replay commits).largest (replay commits).list up) births)
  where
    turns : List Turn
    turns = turns_from no_rows commits

    turn : Turn
    turn = turn_between (replay commits) (rows_after (replay commits) commit)

    grown : turns_from no_rows (commits ++ commit ∷ []) ≡ turns ++ turn ∷ []
    grown = turns_more no_rows commits (commit ∷ [])

    births : RowsAscend (replay commits).largest turn.largest turn.births
    births = subst (λ (largest : ℕ). RowsAscend largest turn.largest turn.births) (largest_is no_rows commits)
        (two_parts 0 turns (turn ∷ []) (subst (AreTurns 0) grown (laws.ascend (commits ++ commit ∷ [])))).of_rest.0

    led : rows_by (replay commits) turn ≡ replay (commits ++ commit ∷ [])
    led = ap (λ (rows : Rows). rows_by rows turn) (sym (laws.rows commits)) ∙ sym (fold-append rows_by no_rows turns (turn ∷ []))
        ∙ ap (fold rows_by no_rows) (sym grown) ∙ laws.rows (commits ++ commit ∷ [])

module _ (settings : Settings) (held : Held) (old new : Index) (next : NextKept) (commit : Commit) (after : Rows) (will : WillHold settings held old next commit after)
    (commits : List Commit) (s : IndexState) (is : IsIndexOf settings (rows_of held) old commits s) (laws : AreLaws)
    (installed : (rules : Rules) (turns : List Turn) (s : IndexState) (turn : Turn) → StandsFor rules turns s old → WillTurn rules turn old next.words → CanTurn turns turn
    → StandsFor rules (turns ++ turn ∷ []) s new) where
  abbrev turn : Turn
  turn = turn_between (replay commits) after

  abbrev turns : List Turn
  turns = turns_from no_rows commits

  accepted : after_commit standard_limits commit (replay commits) ≡ Ok after
  accepted = subst (λ (rows : Rows). after_commit standard_limits commit rows ≡ Ok after) is.same will.accepted

  grown : turns_from no_rows (commits ++ commit ∷ []) ≡ turns ++ turn ∷ []
  grown = turns_more no_rows commits (commit ∷ []) ∙ ap (λ (rows : Rows). turns ++ turn_between (replay commits) rows ∷ []) (rw accepted refl)

  replayed : replay (commits ++ commit ∷ []) ≡ after
  replayed = replay_accepted commits commit after accepted

  births : AreBirths (replay commits).largest turn.largest turn.births
  births =
      let between : AreBirths (rows_of held).largest (turn_between (rows_of held) after).largest (turn_between (rows_of held) after).births =
      subst (λ (turn : Turn). AreBirths (rows_of held).largest turn.largest turn.births) will.plan.turn will.births in
      subst (λ (rows : Rows). AreBirths rows.largest (turn_between rows after).largest (turn_between rows after).births) is.same between

  can : CanTurn turns turn
  can = subst (λ (largest : ℕ). AreBirths largest turn.largest turn.births) (sym (largest_is no_rows commits)) births

  stands : StandsFor (rules_of settings) (turns ++ turn ∷ []) s new
  stands = installed (rules_of settings) turns s turn is.stands
      (subst (λ (rows : Rows). WillTurn (rules_of settings) (turn_between rows after) old next.words) is.same will.turn) can

  -- an index that got the turn of one commit more stands for it
  pub one_right : IsIndexOf settings after new (commits ++ commit ∷ []) s
  one_right = record {
    same = sym replayed;
    stands = subst (λ (turns : List Turn). StandsFor (rules_of settings) turns s new) (sym grown) stands;
    are = record { ascend = laws.ascend (commits ++ commit ∷ []); once = laws.once (commits ++ commit ∷ []) };
    lead = laws.rows (commits ++ commit ∷ []);
    fits = subst (λ (turns : List Turn). FitsTurns turns s) (sym grown) (one_fits turns turn s is.fits);
    ascend = rows_ascend_more commits commit laws is.ascend;
  }

-- the largest id that came into the cache is one that the rows used
pub last_used : (settings : Settings) (rows : Rows) (index : Index) → HasIndex settings rows index → newest index ≤ rows.largest
last_used settings rows index has =
    let used = newest_used (rules_of settings) (turns_from no_rows has.commits) has.state index has.is.stands in
    let largest : largest_after 0 (turns_from no_rows has.commits) ≡ (replay has.commits).largest = largest_is no_rows has.commits in
    let same : rows.largest ≡ (replay has.commits).largest = ap (λ (rows : Rows). rows.largest) has.is.same in
    omega (arith, used, largest, same)

-- an index that stands for the same is right for the same
pub same_right : (settings : Settings) (rows rows' : Rows) (old new : Index) → rows' ≡ rows
    → ((rules : Rules) (turns : List Turn) (s : IndexState) → StandsFor rules turns s old → StandsFor rules turns s new)
    → (commits : List Commit) (s : IndexState) → IsIndexOf settings rows old commits s → IsIndexOf settings rows' new commits s
same_right settings rows rows' old new same stays commits s is = record {
  same = same ∙ is.same;
  stands = stays (rules_of settings) (turns_from no_rows commits) s is.stands;
  are = is.are;
  lead = is.lead;
  fits = is.fits;
  ascend = is.ascend;
}

-- settings have a least length of a word that is above 0
chosen : (is : Bool) (field : Field) (later : Option Field) → (if is then later else Some field) ≡ None → (is ≡ true) × (later ≡ None)
chosen true field later e = (refl, e)
chosen false field later e = absurd cc

pub min_some : (settings : Settings) → AreSettings settings → 0 < settings.min
min_some settings right =
    let columns = chosen (is_right Columns settings) Columns (first_wrong_of (Min ∷ Max ∷ OptimizeWords ∷ CacheBytes ∷ BatchDocs ∷ []) settings) right in
    let min = chosen (is_right Min settings) Min (first_wrong_of (Max ∷ OptimizeWords ∷ CacheBytes ∷ BatchDocs ∷ []) settings) columns.1 in
    let least = leb-true 1 settings.min (and_parts (nat_le 1 settings.min) (nat_le settings.min 16) min.0).0 in
    omega (arith, least)

-- an index that made the next batch is right for the state behind it
pub batch_right : (settings : Settings) (right : AreSettings settings) (rows : Rows) (old new : Index) (commits : List Commit) (s : IndexState) (limit through synced : ℕ) (batch : Batch)
    → IsIndexOf settings rows old commits s → IsBatch (rules_of settings) limit (turns_from no_rows commits) s through synced batch
    → StandsFor (rules_of settings) (turns_from no_rows commits) (after_batch (rules_of settings) limit (turns_from no_rows commits) s) new
    → IsIndexOf settings rows new commits (after_batch (rules_of settings) limit (turns_from no_rows commits) s)
batch_right settings right rows old new commits s limit through synced batch is made stands =
    let rules = rules_of settings in
    let turns = turns_from no_rows commits in
    let same : after_entry turns s (sealed through synced batch) ≡ after_batch rules limit turns s = same_state rules limit turns s through synced batch made in
    let fits = still_fits rules limit turns s through synced batch made (min_some settings right) is.are.ascend is.fits in
    record {
      same = is.same;
      stands = stands;
      are = is.are;
      lead = is.lead;
      fits = subst (λ (after : IndexState). FitsTurns turns after) same fits;
      ascend = is.ascend;
    }

-- an index that made the next step of OPTIMIZE is right for the state behind it
pub stepped_right : (settings : Settings) (rows : Rows) (old new : Index) (commits : List Commit) (s : IndexState) (entry : IndexEntry)
    → IsIndexOf settings rows old commits s → IsStep s entry → StandsFor (rules_of settings) (turns_from no_rows commits) (after_entry (turns_from no_rows commits) s entry) new
    → IsIndexOf settings rows new commits (after_entry (turns_from no_rows commits) s entry)
stepped_right settings rows old new commits s entry is next stands = record {
  same = is.same;
  stands = stands;
  are = is.are;
  lead = is.lead;
  fits = step_fits (turns_from no_rows commits) s entry is.fits next;
  ascend = is.ascend;
}

-- the turns of the commits for which an index stands are known
pub turns_known : (settings : Settings) (rows : Rows) (index : Index) (commits : List Commit) (s : IndexState) → IsIndexOf settings rows index commits s → AreKnown commits
turns_known settings rows index commits s is = record { ascend = is.are.ascend; lead = is.lead }

-- what a plan of a batch says of an index, for each that stands for commits
abbrev pub Plans : Settings → Index → Index → Option SyncPlan → Type 0
Plans settings old new plan = (rules : Rules) (turns : List Turn) (s : IndexState) → StandsFor rules turns s old → AreCommits turns → FitsTurns turns s
    → PlansBatch rules settings.batch_docs turns s new plan

-- the plan is the next batch of what is kept
pub as_planned : (settings : Settings) (rows : Rows) (old new : Index) (plan : Option SyncPlan) → Plans settings old new plan → (commits : List Commit) (s : IndexState)
    → IsIndexOf settings rows old commits s → IsPlannedOf settings commits s plan
as_planned settings rows old new None planned commits s is =
    let most = planned (rules_of settings) (turns_from no_rows commits) s is.stands is.are is.fits in
    omega (arith, most, turns_count no_rows commits)
as_planned settings rows old new (Some plan) planned commits s is = (planned (rules_of settings) (turns_from no_rows commits) s is.stands is.are is.fits).0

-- there is room for it
pub plan_fits : (settings : Settings) (rows : Rows) (old new : Index) (plan : SyncPlan) → Plans settings old new (Some plan) → ∥ HasIndex settings rows old ∥₁ → FitsSync new plan
plan_fits settings rows old new plan planned indexed =
    ∥∥₁_elim indexed (fits_prop new plan)
    (λ has. (planned (rules_of settings) (turns_from no_rows has.commits) has.state has.is.stands has.is.are has.is.fits).1)

-- an index that stands for the same has what it had
pub still_has : (settings : Settings) (rows rows' : Rows) (old new : Index) → rows' ≡ rows
    → ((rules : Rules) (turns : List Turn) (s : IndexState) → StandsFor rules turns s old → StandsFor rules turns s new)
    → HasIndex settings rows old → HasIndex settings rows' new
still_has settings rows rows' old new same stays has =
    record { commits = has.commits; state = has.state; is = same_right settings rows rows' old new same stays has.commits has.state has.is }
