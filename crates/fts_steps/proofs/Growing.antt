-- What a commit, a batch and a step of OPTIMIZE more leave of a database's index.
use Rattle.std.proofs.Common.{◌≡◌, ℕ, ◌<◌, List, [], ◌∷◌, ◌++◌, length, refl, ap, subst, sym, ◌∙◌, arith}
use Rattle.std.proofs.lemmas.List.Sums.{fold-append}
use Rattle.std.proofs.lemmas.List.Elements.{All-push}
use Rattle.std.specs.Prelude.{fold}
use Rattle.fts_types.specs.declared.settings.Settings.{Settings}
use Rattle.fts_types.specs.Rules.{rules_of}
use Rattle.fts_commits.specs.Commit.{Commit, Rows, no_rows, rows_after, replay}
use Rattle.fts_commits.specs.Turn.{Turn, AreTurns, rows_by, turn_between, turns_from}
use Rattle.fts_entries.specs.Entry.{Batch, IndexEntry, IndexState, sealed, after_entry, index_of}
use Rattle.fts_entries.specs.Batch.{IsBatch, after_batch}
use Rattle.fts_entries.specs.Coming.{AreEntries}
use Rattle.fts_entries.specs.Exact.{FitsTurns, IsExact}
use Rattle.fts_entries.proofs.Commits.{one_exact, same_index, commits_exact}
use Rattle.fts_entries.proofs.Kept.{still_exact, same_state, can_seal}
use Rattle.fts_entries.proofs.Coming.{entries_more, entries_through, entries_fit, come_behind, index_behind}
use Rattle.fts_entries.specs.Pass.{IsStep}
use Rattle.fts_entries.proofs.Stepping.{step_comes, step_exact}
use Rattle.fts_ixcodec.specs.Payload.{IsEntry}
use Rattle.fts_steps.specs.State.{State, HasEntries, IsRight, turns_of, index_state, with_commits, with_entries}

-- the turns of more commits stand behind those of the commits
pub turns_more : (rows : Rows) (commits more : List Commit)
    → turns_from rows (commits ++ more) ≡ turns_from rows commits ++ turns_from (fold rows_after rows commits) more
turns_more rows [] more = refl
turns_more rows (commit ∷ commits) more =
    ap (λ (turns : List Turn). turn_between rows (rows_after rows commit) ∷ turns) (turns_more (rows_after rows commit) commits more)

-- there are as many turns as commits
pub turns_count : (rows : Rows) (commits : List Commit) → length (turns_from rows commits) ≡ length commits
turns_count rows [] = refl
turns_count rows (commit ∷ commits) = (let rest = turns_count (rows_after rows commit) commits in omega (arith, rest))

-- ---- commits more

-- the entries can stand over more commits too, and leave what they left
pub entries_stay : (state : State) (more : List Commit) → HasEntries state → HasEntries (with_commits state more)
entries_stay state more has = record {
  written = has.written;
  come = subst (λ (turns : List Turn). AreEntries turns state.entries) (sym (turns_more no_rows state.commits more))
      (entries_more (turns_of state) (turns_from (replay state.commits) more) state.entries has.come);
}

pub index_stays : (state : State) (more : List Commit) → HasEntries state → index_state (with_commits state more) ≡ index_state state
index_stays state more has =
    ap (λ (turns : List Turn). index_of turns state.entries) (turns_more no_rows state.commits more)
    ∙ same_index (turns_of state) (turns_from (replay state.commits) more) state.entries (entries_through (turns_of state) state.entries has.come)

-- what is known of the turns of commits
pub record AreKnown (commits : List Commit) : Type 0 where
  pub ascend : AreTurns 0 (turns_from no_rows commits)
  pub lead : fold rows_by no_rows (turns_from no_rows commits) ≡ replay commits

-- the state that the entries leave fits the commits
pub state_fits : (state : State) → AreTurns 0 (turns_of state) → HasEntries state → FitsTurns (turns_of state) (index_state state)
state_fits state are has = entries_fit (turns_of state) state.entries are has.come

-- an index that is right is right behind one commit more
pub right_stays : (state : State) (commit : Commit) → AreKnown state.commits → AreKnown (state.commits ++ commit ∷ []) → HasEntries state → IsRight state
    → IsRight (with_commits state (commit ∷ []))
right_stays state commit known knows has right =
    subst (λ (s : IndexState). IsExact (rules_of state.settings) (replay commits).list (turns_from no_rows commits) s) (sym (index_stays state (commit ∷ []) has))
    (subst (λ (turns : List Turn). IsExact (rules_of state.settings) (replay commits).list turns s) (sym grown)
    (subst (λ (rows : Rows). IsExact (rules_of state.settings) rows.list (turns ++ turn ∷ []) s) led
    (one_exact turns turn s (state_fits state known.ascend has) are (rules_of state.settings) (replay state.commits) right)))
  where
    s : IndexState
    s = index_state state

    turns : List Turn
    turns = turns_of state

    commits : List Commit
    commits = state.commits ++ commit ∷ []

    turn : Turn
    turn = turn_between (replay state.commits) (rows_after (replay state.commits) commit)

    grown : turns_from no_rows commits ≡ turns ++ turn ∷ []
    grown = turns_more no_rows state.commits (commit ∷ [])

    are : AreTurns 0 (turns ++ turn ∷ [])
    are = subst (AreTurns 0) grown knows.ascend

    led : rows_by (replay state.commits) turn ≡ replay commits
    led = ap (λ (rows : Rows). rows_by rows turn) (sym known.lead) ∙ sym (fold-append rows_by no_rows turns (turn ∷ []))
        ∙ ap (fold rows_by no_rows) (sym grown) ∙ knows.lead

-- ---- a batch more

module _ (state : State) (limit through synced : ℕ) (batch : Batch) (has : HasEntries state) (are : AreTurns 0 (turns_of state))
    (made : IsBatch (rules_of state.settings) limit (turns_of state) (index_state state) through synced batch) where
  -- its entry can stand behind those of the state
  pub batch_stands : 0 < (rules_of state.settings).min → IsEntry (rules_of state.settings) (sealed through synced batch) → HasEntries (with_entries state (sealed through synced batch ∷ []))
  batch_stands min written = record {
    written = All-push (IsEntry (rules_of state.settings)) state.entries (sealed through synced batch) has.written written;
    come = come_behind (turns_of state) state.entries (sealed through synced batch) has.come
        (can_seal (rules_of state.settings) limit (turns_of state) (index_state state) through synced batch made min are (state_fits state are has));
  }

  pub batch_leaves : index_state (with_entries state (sealed through synced batch ∷ [])) ≡ after_batch (rules_of state.settings) limit (turns_of state) (index_state state)
  batch_leaves = index_behind (turns_of state) state.entries (sealed through synced batch)
      ∙ same_state (rules_of state.settings) limit (turns_of state) (index_state state) through synced batch made

  pub batch_right : IsRight state → IsRight (with_entries state (sealed through synced batch ∷ []))
  batch_right right =
      subst (λ (s : IndexState). IsExact (rules_of state.settings) (replay state.commits).list (turns_of state) s)
      (sym (index_behind (turns_of state) state.entries (sealed through synced batch)))
      (still_exact (rules_of state.settings) limit (turns_of state) (index_state state) through synced batch made (replay state.commits).list are (state_fits state are has) right)

-- ---- a step of OPTIMIZE more

module _ (state : State) (entry : IndexEntry) (has : HasEntries state) (are : AreTurns 0 (turns_of state)) (is : IsStep (index_state state) entry) where
  -- its entry can stand behind those of the state
  pub step_stands : IsEntry (rules_of state.settings) entry → HasEntries (with_entries state (entry ∷ []))
  step_stands written = record {
    written = All-push (IsEntry (rules_of state.settings)) state.entries entry has.written written;
    come = come_behind (turns_of state) state.entries entry has.come (step_comes (turns_of state) (index_state state) entry is);
  }

  pub step_leaves : index_state (with_entries state (entry ∷ [])) ≡ after_entry (turns_of state) (index_state state) entry
  step_leaves = index_behind (turns_of state) state.entries entry

  pub step_right : IsRight state → IsRight (with_entries state (entry ∷ []))
  step_right right =
      subst (λ (s : IndexState). IsExact (rules_of state.settings) (replay state.commits).list (turns_of state) s) (sym step_leaves)
      (step_exact (turns_of state) (index_state state) entry (state_fits state are has) is (rules_of state.settings) (replay state.commits).list are right)

-- ---- no entries

pub none_stand : (settings : Settings) (commits : List Commit) → HasEntries (record { settings = settings; commits = commits; entries = [] })
none_stand settings commits = record { written = λ k d less. absurd (omega arith); come = tt }

-- an index without entries is right
pub none_right : (settings : Settings) (commits : List Commit) → AreKnown commits → IsRight (record { settings = settings; commits = commits; entries = [] })
none_right settings commits known =
    subst (λ (rows : Rows). IsExact (rules_of settings) rows.list (turns_from no_rows commits) (index_of (turns_from no_rows commits) [])) known.lead
    (commits_exact (rules_of settings) (turns_from no_rows commits) known.ascend)
