-- What a step of OPTIMIZE answers, and what it leaves.
use Rattle.std.proofs.Common.{◌≡◌, ℕ, ◌<◌, ◌≤◌, ◌^◌, List, [], ◌∷◌, ◌++◌, length, length-append, refl, ap, subst, sym, ◌∙◌, arith, inl, inr, ⊎_elim}
use Rattle.std.proofs.lemmas.Bool.{ltb-true, false_from_ne_true, false≢true, or_cases}
use Rattle.std.proofs.lemmas.List.{map-append}
use Rattle.std.proofs.lemmas.List.Elements.{All-head, All-tail, All-from_recursion}
use Rattle.std.proofs.lemmas.List.Folds.{list_any-append}
use Rattle.std.proofs.lemmas.Slice.Eq.{bytes_eq-Decides}
use Rattle.std.specs.Prelude.{true, false, nat_lt, fold, Some, None, All}
use Rattle.std.specs.List.{AllByRecursion, flat_map}
use Rattle.std.specs.Map.{keys_of}
use Rattle.std.specs.Str.{bytes_eq}
use Rattle.std.specs.Int.{w32, to_be_bytes}
use Rattle.fts_codec.proofs.Puts.{piece_short}
use Rattle.fts_words.specs.Order.{is_among}
use Rattle.fts_disk.specs.Device.{Files}
use Rattle.fts_disk.specs.Crash.{Images}
use Rattle.fts_disk.specs.declared.disk.Disk.{Ghosts}
use Rattle.fts_types.specs.declared.limits.Limits.{Limits}
use Rattle.fts_log.specs.Record.{IsLog}
use Rattle.fts_log.specs.Crash.{IsBeforeOrAfter}
use Rattle.fts_log.specs.Log.{magic_of}
use Rattle.fts_ilist.specs.Node.{Docs, NodesAfter}
use Rattle.fts_words.specs.Indexed.{Rules}
use Rattle.fts_types.specs.Rules.{rules_of}
use Rattle.fts_entries.specs.Entry.{Batch, IndexEntry, IndexState, sealed, begun, worked, finished, after_entry}
use Rattle.fts_entries.specs.Pass.{IsStep, IsIdle, IsPackedNode, entry_words, next_steps}
use Rattle.fts_entries.proofs.Stepping.{one_step, no_step, is_named, named_is}
use Rattle.fts_ixcodec.specs.Payload as payload
use Rattle.fts_ixcodec.specs.Payload.{entry_payload, list_payload, word_payload, IsEntry, IsGroup, IsNode, FitsRecord}
use Rattle.fts_index.specs.declared.passing.PassPlan.{PassPlan}
use Rattle.fts_index.specs.declared.passing.PassPlan.TheVariants.{Begin, Word, Finish}
use Rattle.fts_index.specs.Passing.{step_entry, FitsStep, HasPackedNodes}
use Rattle.fts_index.specs.declared.index.Index.{Index}
use Rattle.fts_steps.specs.State.{State, turns_of, index_state, index_magic, index_payloads, index_end_after, with_entries, HasEntries}
use Rattle.fts_steps.specs.Running.{Running, next_optimized}
use Rattle.fts_steps.specs.Crash.{MayHoldIndex}
use Rattle.fts_steps.specs.Step.{to_optimize, full, passed, step_of, optimize_answer, plain_answer}
use Rattle.fts_steps.specs.declared.optimize.OptimizeStep.TheVariants.{Nothing}
use Rattle.fts_steps.proofs.Growing.{step_stands, step_leaves}
use Rattle.fts_engine.specs.declared.engine.Engine.{Engine}
use Rattle.fts_engine.specs.declared.kept.Kept.{Kept}
use Rattle.fts_engine.specs.Batch.{IsFramedStep}
use Rattle.fts_engine.specs.Kept.{IsIndexed}
use Rattle.fts_engine.specs.Stands.{Has, engine_limits}
use Rattle.fts_engine.proofs.Committing.{left_either}

-- ---- what it answers

module _ (limits : Limits) (running : Running) (going : running.stopped ≡ None) where
  answered : (steps : List IndexEntry) → next_optimized running ≡ steps → plain_answer limits running to_optimize ≡ Some (optimize_answer limits running.state steps)
  answered steps is = rw (going, is) refl

  -- where there is nothing to do, it says so
  pub is_idle : next_optimized running ≡ [] → plain_answer limits running to_optimize ≡ Some (passed Nothing)
  is_idle is = answered [] is

  module _ (entry : IndexEntry) (is : next_optimized running ≡ entry ∷ []) where
    -- else where the log would end, if that is past its limit
    pub is_full : limits.log_bytes < index_end_after running.state entry → plain_answer limits running to_optimize ≡ Some (full (index_end_after running.state entry))
    is_full past = answered (entry ∷ []) is ∙ (let over : nat_lt limits.log_bytes (index_end_after running.state entry) ≡ true = grind (arith, past) in rw over refl)

    -- else what it did
    pub is_passed : (limits.log_bytes < index_end_after running.state entry → ⊥) → plain_answer limits running to_optimize ≡ Some (passed (step_of entry))
    is_passed within =
        answered (entry ∷ []) is
        ∙ (let under : nat_lt limits.log_bytes (index_end_after running.state entry) ≡ false = false_from_ne_true _ (λ past. within (ltb-true limits.log_bytes _ past)) in rw under refl)

-- ---- its entry can be written

-- a word of a batch is one that the log can hold
word_in : (rules : Rules) (word : List ℕ) (batch : Batch) → All (IsGroup rules) batch → is_among (keys_of batch) word ≡ true → payload.IsWord rules word
word_in rules word [] each among = absurd (false≢true among)
word_in rules word (g ∷ batch) each among =
    ⊎_elim (λ (here : bytes_eq g.0 word ≡ true). subst (payload.IsWord rules) ((bytes_eq-Decides g.0 word).0 here) (All-head (IsGroup rules) g batch each).word)
    (λ (later : is_among (keys_of batch) word ≡ true). word_in rules word batch (All-tail (IsGroup rules) g batch each) later)
    (or_cases (bytes_eq g.0 word) (is_among (keys_of batch) word) among)

word_of_entry : (rules : Rules) (word : List ℕ) (entry : IndexEntry) → IsEntry rules entry → is_among (entry_words entry) word ≡ true → payload.IsWord rules word
word_of_entry rules word (sealed through synced batch) written among = word_in rules word batch written.3.each among
word_of_entry rules word begun written among = absurd (false≢true among)
word_of_entry rules word (worked other nodes) written among =
    ⊎_elim (λ (here : bytes_eq other word ≡ true). subst (payload.IsWord rules) ((bytes_eq-Decides other word).0 here) written.0)
    (λ (later : false ≡ true). absurd (false≢true later))
    (or_cases (bytes_eq other word) false among)
word_of_entry rules word finished written among = absurd (false≢true among)

-- and so is one that entries name which the log holds
word_of_entries : (rules : Rules) (word : List ℕ) (entries : List IndexEntry) → All (IsEntry rules) entries → is_among (flat_map entry_words entries) word ≡ true → payload.IsWord rules word
word_of_entries rules word [] written among = absurd (false≢true among)
word_of_entries rules word (entry ∷ entries) written among =
    ⊎_elim (λ (here : is_among (entry_words entry) word ≡ true). word_of_entry rules word entry (All-head (IsEntry rules) entry entries written) here)
    (λ (later : is_among (flat_map entry_words entries) word ≡ true). word_of_entries rules word entries (All-tail (IsEntry rules) entry entries written) later)
    (or_cases (is_among (entry_words entry) word) (is_among (flat_map entry_words entries) word)
    (sym (list_any-append (λ other. bytes_eq other word) (entry_words entry) (flat_map entry_words entries)) ∙ among))

-- there are no more lists than bytes
lists_within : (nodes : List Docs) → length nodes ≤ length (flat_map list_payload nodes)
lists_within [] = omega arith
lists_within (docs ∷ nodes) =
    (let rest = lists_within nodes in omega (arith, rest, length-append (list_payload docs) (flat_map list_payload nodes)))

module _ (word : List ℕ) (nodes : List Docs) (fits : FitsRecord (worked word nodes)) where
  lists_short : length (flat_map list_payload nodes) < 2 ^ 32
  lists_short =
      let lists = flat_map list_payload nodes in
      let counted = to_be_bytes w32 (length nodes) ++ lists in
      omega (arith, fits.short, length-append (word_payload word) counted, length-append (to_be_bytes w32 (length nodes)) lists)

  node_is : (docs : Docs) → IsPackedNode docs → length (list_payload docs) < 2 ^ 32 → IsNode docs
  node_is docs is short = record { are = is.are; sound = is.sound; fits = omega (arith, short) }

  worked_written : (rules : Rules) → payload.IsWord rules word → NodesAfter 0 nodes → AllByRecursion IsPackedNode nodes → IsEntry rules (worked word nodes)
  worked_written rules is after packed =
      let each = All-from_recursion IsPackedNode nodes packed in (
        is,
        omega (arith, lists_short, lists_within nodes),
        record { ascend = after; each = λ k d less. node_is _ (each k d less) (piece_short list_payload nodes k d (2 ^ 32) less lists_short) },
      )

step_written : (state : State) (index : Index) (plan : PassPlan) → HasEntries state → IsStep (index_state state) (step_entry plan) → FitsStep index plan → HasPackedNodes plan
    → FitsRecord (step_entry plan) → IsEntry (rules_of state.settings) (step_entry plan)
step_written state index Begin has next room packed fits = tt
step_written state index (Word word nodes) has next room packed fits =
    worked_written word nodes.nodes fits (rules_of state.settings)
    (word_of_entries (rules_of state.settings) word state.entries has.written (sym (named_is state.entries word) ∙ is_named (turns_of state) state.entries word next.next.inside)) room.2 packed
step_written state index Finish has next room packed fits = tt

-- ---- what it leaves

-- where the state of the index is idle, so is what runs
pub none_next : {D E : Type 0} {disk : Ghosts D} {disk' : Ghosts E} (running : Running) (old : Engine D E disk disk') (has : Has running old) → IsIdle running.index → next_optimized running ≡ []
none_next running old has idle =
    ap (next_steps running.state.entries) has.left ∙ no_step (turns_of running.state) running.state.entries (subst IsIdle has.left idle)

module _ {D E : Type 0} {disk : Ghosts D} {disk' : Ghosts E} (running : Running) (old : Engine D E disk disk') (has : Has running old) (plan : PassPlan)
    (next : IsStep running.index (step_entry plan)) where
  abbrev pub state : State
  state = running.state

  abbrev entry : IndexEntry
  entry = step_entry plan

  next_left : IsStep (index_state state) entry
  next_left = subst (λ (s : IndexState). IsStep s entry) has.left next

  pub one_next : next_optimized running ≡ entry ∷ []
  one_next = ap (next_steps state.entries) has.left ∙ one_step (turns_of state) state.entries entry next_left

  abbrev behind : State
  behind = with_entries state (next_optimized running)

  behind_is : with_entries state (entry ∷ []) ≡ behind
  behind_is = ap (with_entries state) (sym one_next)

  -- its payload stands behind those of the state
  pub payloads_after : index_payloads behind ≡ index_payloads state ++ entry_payload entry ∷ []
  payloads_after = ap index_payloads (sym behind_is) ∙ map-append entry_payload state.entries (entry ∷ [])

  pub leaves_after : fold (after_entry (turns_of state)) running.index (next_optimized running) ≡ index_state behind
  leaves_after =
      ap (fold (after_entry (turns_of state)) running.index) one_next
      ∙ ap (λ (s : IndexState). after_entry (turns_of state) s entry) has.left
      ∙ sym (step_leaves state entry has.keeps.entries has.indexed.are.ascend next_left)
      ∙ ap index_state behind_is

  -- the index of what is kept stands for the state behind it
  pub indexed_after : (new : Kept) → IsIndexed new state.commits (after_entry (turns_of state) running.index entry)
      → IsIndexed new state.commits (fold (after_entry (turns_of state)) running.index (next_optimized running))
  indexed_after new indexed =
      subst (λ (steps : List IndexEntry). IsIndexed new state.commits (fold (after_entry (turns_of state)) running.index steps)) (sym one_next) indexed

  module _ (kept : Kept) (payload : List ℕ) (framed : IsFramedStep plan payload) (room : FitsStep kept.index plan) (packed : HasPackedNodes plan) where
    pub entries_after : HasEntries behind
    entries_after = subst HasEntries behind_is (step_stands state entry has.keeps.entries has.indexed.are.ascend next_left
        (step_written state kept.index plan has.keeps.entries next_left room packed framed.fits))

    -- a crash in its append leaves the index log without it or with it
    pub leaves_either : (images : Images) (files c : Files) → IsBeforeOrAfter (magic_of old.index) (index_payloads state) payload images files c
        → MayHoldIndex state (next_optimized running) c
    leaves_either images files c left =
        elim (left_either index_magic (index_payloads state) (engine_limits old).log_bytes old.index has.keeps.index payload images files c left) [
          | inl before ↦ inl (record { sound = has.keeps.entries; log = before })
          | inr behind ↦ inr (record {
            sound = entries_after;
            log = subst (λ (entries : List (List ℕ)). IsLog index_magic entries (c 0))
                (ap (λ (p : List ℕ). index_payloads state ++ p ∷ []) framed.same ∙ sym payloads_after) behind;
          })
        ]
