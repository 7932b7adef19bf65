-- What a batch answers, and what it leaves.
use Rattle.std.proofs.Common.{◌≡◌, ℕ, ◌-◌, ◌<◌, ◌≤◌, List, [], ◌∷◌, ◌++◌, refl, ap, subst, sym, ◌∙◌, length, arith, inl, inr}
use Rattle.std.proofs.lemmas.Bool.{ltb-true, false_from_ne_true}
use Rattle.std.proofs.lemmas.List.{map-append}
use Rattle.std.specs.Prelude.{Bool, true, false, nat_lt, Some, None, All}
use Rattle.std.proofs.lemmas.List.Elements.{All-weaker}
use Rattle.fts_disk.specs.Device.{Files}
use Rattle.fts_disk.specs.Crash.{Images}
use Rattle.fts_disk.specs.declared.disk.Disk.{Ghosts}
use Rattle.fts_types.specs.declared.limits.Limits.{Limits}
use Rattle.fts_types.specs.declared.settings.Settings.{Settings}
use Rattle.fts_types.specs.Rules.{rules_of}
use Rattle.fts_types.specs.Settings.{AreSettings}
use Rattle.fts_commits.specs.Commit.{Rows, no_rows, replay}
use Rattle.fts_commits.specs.Turn.{turns_from}
use Rattle.fts_log.specs.Record.{IsLog, log_end}
use Rattle.fts_log.specs.Crash.{IsBeforeOrAfter}
use Rattle.fts_log.specs.Log.{magic_of}
use Rattle.fts_entries.specs.Entry.{Batch, IndexEntry, IndexState, sealed, unflushed_through}
use Rattle.fts_entries.specs.Batch.{IsBatch, alive_of, after_batch}
use Rattle.fts_entries.specs.Rows.{CanIndex}
use Rattle.fts_entries.proofs.Next.{one_next}
use Rattle.fts_entries.proofs.Alive.{alive_ascend}
use Rattle.fts_entries.proofs.BatchRows.{alive_rows}
use Rattle.fts_ixcodec.specs.Payload.{entry_payload, IsEntry, HasSize, HasNoSize}
use Rattle.fts_index.specs.declared.sync.SyncPlan.{SyncPlan}
use Rattle.fts_steps.specs.State.{State, turns_of, index_state, index_magic, index_payloads, index_end_after, with_entries, HasEntries}
use Rattle.fts_steps.specs.Running.{Running, batched, with_what, next_index, next_flushed, next_batch}
use Rattle.fts_steps.specs.Crash.{MayHoldIndex}
use Rattle.fts_steps.specs.Step.{Answer, to_sync, full, flushed, all_flushed, plain_answer}
use Rattle.fts_steps.proofs.Growing.{batch_stands, batch_leaves}
use Rattle.fts_engine.specs.declared.engine.Engine.{Engine}
use Rattle.fts_engine.specs.declared.kept.Kept.{Kept}
use Rattle.fts_rowcodec.proofs.Bounds.{few_columns, some_columns}
use Rattle.fts_ixcodec.proofs.Batches.{batch_is_entry}
use Rattle.fts_engine.specs.Batch.{batch_of, IsFramed}
use Rattle.fts_engine.specs.Fitting.{IsTableRow, AreTableRows}
use Rattle.fts_engine.specs.Kept.{kept_settings, kept_rows, IsIndexed}
use Rattle.fts_engine.specs.Planned.{IsNextBatch}
use Rattle.fts_engine.specs.Stands.{Has, engine_limits}
use Rattle.fts_engine.proofs.Committing.{left_either}
use Rattle.fts_engine.proofs.Fitting.{can_index}
use Rattle.fts_engine.proofs.Indexing.{min_some}
use Rattle.fts_steps.proofs.Growing.{turns_count}

module _ (limits : Limits) (running : Running) (going : running.stopped ≡ None) where
  abbrev outcome : Bool → Bool → Answer
  outcome past left = elim left [
    | true ↦ elim past [ true ↦ full (index_end_after running.state (next_batch running)) | false ↦ flushed (next_flushed running) (length running.state.commits) ]
    | false ↦ all_flushed (length running.state.commits)
  ]

  answered : (past left : Bool) → nat_lt limits.log_bytes (index_end_after running.state (next_batch running)) ≡ past
      → nat_lt running.index.flushed (length running.state.commits) ≡ left → plain_answer limits running to_sync ≡ Some (outcome past left)
  answered true true is is' = rw (going, is', is) refl
  answered false true is is' = rw (going, is', is) refl
  answered past false is is' = rw (going, is') refl

  -- where all commits are flushed, it tells how many there are
  pub is_nothing : (commits : ℕ) → commits ≡ length running.state.commits → length running.state.commits ≤ running.index.flushed
      → plain_answer limits running to_sync ≡ Some (all_flushed commits)
  is_nothing commits count most =
      answered _ false refl (false_from_ne_true _ (λ left. let less = ltb-true running.index.flushed _ left in omega (arith, less, most))) ∙ ap (λ (n : ℕ). Some (all_flushed n)) (sym count)

  module _ (less : running.index.flushed < length running.state.commits) where
    -- else where the log would end, if that is past its limit
    pub is_too_long : limits.log_bytes < index_end_after running.state (next_batch running)
        → plain_answer limits running to_sync ≡ Some (full (index_end_after running.state (next_batch running)))
    is_too_long past = answered true true (grind (arith, past)) (grind (arith, less))

    -- else through which the next batch flushes
    pub is_flushed : (limits.log_bytes < index_end_after running.state (next_batch running) → ⊥)
        → plain_answer limits running to_sync ≡ Some (flushed (next_flushed running) (length running.state.commits))
    is_flushed within =
        answered false true (false_from_ne_true _ (λ past. within (ltb-true limits.log_bytes _ past))) (grind (arith, less))

-- ---- its entry

-- the entry that a plan tells is its own
pub same_entry : (plan : SyncPlan) (through synced : ℕ) (nodes : Batch) → through ≡ plan.through → synced ≡ plan.synced → nodes ≡ plan.nodes.items
    → sealed through synced nodes ≡ batch_of plan
same_entry plan through synced nodes is is' is'' =
    ap (λ (n : ℕ). sealed n synced nodes) is ∙ ap (λ (n : ℕ). sealed plan.through n nodes) is' ∙ ap (λ (b : Batch). sealed plan.through plan.synced b) is''

pub own_size : (plan : SyncPlan) (nodes : Batch) (size : ℕ) → nodes ≡ plan.nodes.items → HasSize (sealed plan.through plan.synced nodes) size → HasSize (batch_of plan) size
own_size plan nodes size same has = subst (λ (b : Batch). HasSize (sealed plan.through plan.synced b) size) same has

pub own_no_size : (plan : SyncPlan) (nodes : Batch) → nodes ≡ plan.nodes.items → HasNoSize (sealed plan.through plan.synced nodes) → HasNoSize (batch_of plan)
own_no_size plan nodes same none = subst (λ (b : Batch). HasNoSize (sealed plan.through plan.synced b)) same none

-- ---- what it leaves

module _ {D E : Type 0} {disk : Ghosts D} {disk' : Ghosts E} (running : Running) (old : Engine D E disk disk') (has : Has running old) (kept : Kept)
    (settings : kept_settings kept ≡ kept_settings old.kept) (rows : kept_rows kept ≡ kept_rows old.kept) (plan : SyncPlan)
    (batch : IsNextBatch kept plan running.state.commits running.index) where
  abbrev pub state : State
  state = running.state

  -- the batch of what is kept is that of the state
  made : IsBatch (rules_of state.settings) state.settings.batch_docs (turns_of state) running.index plan.through plan.synced plan.nodes.items
  made = subst (λ (s : Settings). IsBatch (rules_of s) s.batch_docs (turns_of state) running.index plan.through plan.synced plan.nodes.items)
      (settings ∙ sym has.keeps.settings) batch

  made_left : IsBatch (rules_of state.settings) state.settings.batch_docs (turns_of state) (index_state state) plan.through plan.synced plan.nodes.items
  made_left = subst (λ (s : IndexState). IsBatch (rules_of state.settings) state.settings.batch_docs (turns_of state) s plan.through plan.synced plan.nodes.items) has.left made

  is_next : batch_of plan ≡ next_batch running
  is_next = one_next (rules_of state.settings) state.settings.batch_docs (turns_of state) running.index plan.through plan.synced plan.nodes.items made

  pub some_left : running.index.flushed < length state.commits
  some_left = omega (arith, made.some, turns_count no_rows state.commits)

  pub through_is : plan.through ≡ next_flushed running
  through_is = made.through_is

  -- its payload stands behind those of the state
  pub payloads_after : index_payloads (with_what running batched).state ≡ index_payloads state ++ entry_payload (batch_of plan) ∷ []
  payloads_after = map-append entry_payload state.entries (next_batch running ∷ [])
      ∙ ap (λ (e : IndexEntry). index_payloads state ++ entry_payload e ∷ []) (sym is_next)

  pub end_is : index_end_after state (next_batch running) ≡ log_end index_magic (index_payloads state ++ entry_payload (batch_of plan) ∷ [])
  end_is = ap (λ (e : IndexEntry). index_end_after state e) (sym is_next)

  pub leaves_after : (with_what running batched).index ≡ index_state (with_what running batched).state
  leaves_after = ap (λ (s : IndexState). after_batch (rules_of state.settings) state.settings.batch_docs (turns_of state) s) has.left
      ∙ sym (batch_leaves state state.settings.batch_docs plan.through plan.synced plan.nodes.items has.keeps.entries has.indexed.are.ascend made_left)
      ∙ ap (λ (e : IndexEntry). index_state (with_entries state (e ∷ []))) is_next

  -- the index of what is kept stands for the state behind it
  pub indexed_after : (new : Kept) → IsIndexed new state.commits (after_batch (rules_of (kept_settings kept)) (kept_settings kept).batch_docs (turns_from no_rows state.commits) running.index)
      → IsIndexed new state.commits (next_index state running.index)
  indexed_after new indexed = subst (λ (s : Settings). IsIndexed new state.commits (after_batch (rules_of s) s.batch_docs (turns_of state) running.index))
      (settings ∙ sym has.keeps.settings) indexed

  module _ (payload : List ℕ) (framed : IsFramed plan payload) (right : AreSettings (kept_settings kept)) (fit : AreTableRows (kept_settings kept) (kept_rows kept)) where
    own_right : AreSettings state.settings
    own_right = has.keeps.sound.settings

    can : All CanIndex (alive_of (turns_of state) (unflushed_through plan.through (turns_of state) (index_state state)))
    can =
        let own : AreTableRows (kept_settings kept) (replay state.commits) = subst (AreTableRows (kept_settings kept)) (rows ∙ has.keeps.rows) fit in
        alive_rows CanIndex (turns_of state)
        (subst (λ (rows : Rows). All CanIndex rows.list) (sym has.indexed.lead)
        (All-weaker (IsTableRow (length (kept_settings kept).columns)) CanIndex
        (can_index (length (kept_settings kept).columns) (some_columns (kept_settings kept) right) (few_columns (kept_settings kept) right)) (replay state.commits).list own))
        (index_state state) plan.through

    written : IsEntry (rules_of state.settings) (batch_of plan)
    written =
        let turns = turns_of state in
        let s = index_state state in
        batch_is_entry (rules_of state.settings) (alive_of turns (unflushed_through plan.through turns s)) _ _
        (alive_ascend turns s.flushed (plan.through - s.flushed) has.indexed.are.ascend) can
        plan.through plan.synced plan.nodes.items made_left.words made_left.filled made_left.nodes framed.through framed.synced framed.fits

    pub entries_after : HasEntries (with_what running batched).state
    entries_after = subst (λ (e : IndexEntry). HasEntries (with_entries state (e ∷ []))) is_next
        (batch_stands state state.settings.batch_docs plan.through plan.synced plan.nodes.items has.keeps.entries has.indexed.are.ascend made_left (min_some state.settings own_right) written)

    -- a crash in its append leaves the index log without it or with it
    pub leaves_either : (images : Images) (files c : Files) → IsBeforeOrAfter (magic_of old.index) (index_payloads state) payload images files c
        → MayHoldIndex state (next_batch running ∷ []) c
    leaves_either images files c left =
        elim (left_either index_magic (index_payloads state) (engine_limits old).log_bytes old.index has.keeps.index payload images files c left) [
          | inl before ↦ inl (record { sound = has.keeps.entries; log = before })
          | inr behind ↦ inr (record {
            sound = entries_after;
            log = subst (λ (entries : List (List ℕ)). IsLog index_magic entries (c 0))
                (ap (λ (p : List ℕ). index_payloads state ++ p ∷ []) framed.same ∙ sym payloads_after) behind;
          })
        ]
