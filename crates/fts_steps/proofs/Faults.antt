-- A rows log is a created one, and an index log has no place at fault.
use Rattle.std.proofs.Common.{◌≡◌, ℕ, ◌+◌, List, [], ◌∷◌, ◌++◌, map, take, refl, ap, subst, sym, ◌∙◌, append_assoc, inl, inr, zero, suc, arith}
use Rattle.std.proofs.lemmas.List.{take-map, take-append-le}
use Rattle.std.proofs.lemmas.List.Elements.{All-take}
use Rattle.std.specs.Prelude.{All}
use Rattle.fts_disk.specs.Device.{Files}
use Rattle.fts_types.specs.declared.settings.Settings.{Settings}
use Rattle.fts_types.specs.Rules.{rules_of}
use Rattle.fts_commits.specs.Commit.{Commit, no_rows}
use Rattle.fts_commits.specs.Turn.{Turn, turns_from}
use Rattle.fts_entries.specs.Entry.{IndexEntry, IndexState, no_entries, after_entry}
use Rattle.fts_entries.specs.Coming.{CanComeAll, AreEntries}
use Rattle.fts_rowcodec.specs.Payload.{settings_payload, commit_payload}
use Rattle.fts_ixcodec.specs.Payload.{entry_payload, IsEntry}
use Rattle.fts_log.specs.Record.{records, front}
use Rattle.fts_log.proofs.Unique.{not_damaged, first_ones}
use Rattle.fts_steps.specs.State.{State, HasEntries, IsRows, IsIndex, IsCreated, rows_magic, index_magic, index_payloads}
use Rattle.fts_steps.specs.Fault.{IsWrongAt, AreOfIndex, IsIndexFaultAt}

-- the first of some entries can come alone
first_come : (turns : List Turn) (s : IndexState) (n : ℕ) (entries : List IndexEntry) → CanComeAll turns s entries → CanComeAll turns s (take n entries)
first_come turns s zero entries come = tt
first_come turns s (suc n) [] come = tt
first_come turns s (suc n) (entry ∷ entries) come = (come.0, first_come turns (after_entry turns s entry) n entries come.1)

-- so the first payloads of an index log are those of entries over the commits
first_of : (state other : State) (n : ℕ) → other.settings ≡ state.settings → other.commits ≡ state.commits → HasEntries other → AreOfIndex state (take n (index_payloads other))
first_of state other n settings same has = record {
  index = take n other.entries;
  sound = record {
    written = All-take (IsEntry (rules_of state.settings)) n other.entries (subst (λ (s : Settings). All (IsEntry (rules_of s)) other.entries) settings has.written);
    come = first_come _ no_entries n other.entries (subst (λ (commits : List Commit). AreEntries (turns_from no_rows commits) other.entries) same has.come);
  };
  same = sym (take-map entry_payload n other.entries);
}

not_wrong : (state other : State) (at : ℕ) (files : Files) → other.settings ≡ state.settings → other.commits ≡ state.commits → IsIndex other files → IsWrongAt index_magic (AreOfIndex state) at (files 0) → ⊥
not_wrong state other at files settings same index wrong =
    let first = first_ones index_magic (index_payloads other) wrong.entries (files 0) wrong.rest index.log wrong.fit wrong.bytes in
    let taken : take (wrong.k + 1) (index_payloads other) ≡ take (wrong.k + 1) wrong.entries =
    ap (take (wrong.k + 1)) first.1 ∙ take-append-le (wrong.k + 1) wrong.entries first.0 (omega (arith, wrong.within)) in
    wrong.wrong (subst (AreOfIndex state) taken (first_of state other (wrong.k + 1) settings same index.sound))

-- the index log of a database with these settings, over these commits, has no place at fault
pub not_at_fault : (state other : State) (at : ℕ) (files : Files) → other.settings ≡ state.settings → other.commits ≡ state.commits → IsIndex other files → IsIndexFaultAt state at (files 0) → ⊥
not_at_fault state other at files settings same index (inl (place, no_magic)) =
    no_magic (records (index_payloads other) ++ index.log.gate ∷ index.log.rest)
    (index.log.bytes ∙ append_assoc index_magic (records (index_payloads other)) (index.log.gate ∷ index.log.rest))
not_at_fault state other at files settings same index (inr (inl wrong)) = not_wrong state other at files settings same index wrong
not_at_fault state other at files settings same index (inr (inr torn)) = not_damaged index_magic (index_payloads other) (files 0) at index.log (inr (torn.entries, torn.broken))

-- behind the magic of a rows log the gate is open, since its settings follow
gate_open : (payload : List ℕ) (entries : List (List ℕ)) (tail : List ℕ) → IsCreated (front rows_magic (payload ∷ entries) ++ tail)
gate_open payload entries tail = (omega arith, refl)

pub is_created : (state : State) (file : List ℕ) → IsRows state file → IsCreated file
is_created state file rows =
    subst (λ (f : List ℕ). IsCreated f) (sym rows.log.bytes)
    (gate_open (settings_payload state.settings) (map commit_payload state.commits) (rows.log.gate ∷ rows.log.rest))
