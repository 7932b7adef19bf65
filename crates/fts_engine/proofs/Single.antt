-- Files are the two logs of one state alone.
use Rattle.std.proofs.Common.{◌≡◌, ℕ, List, [], ◌∷◌, refl, ap, subst, ◌∙◌, map, drop, get_or, length}
use Rattle.std.proofs.lemmas.List.Elements.{All-head, All-tail}
use Rattle.std.specs.Prelude.{All}
use Rattle.fts_disk.specs.Device.{Files}
use Rattle.fts_types.specs.declared.settings.Settings.{Settings}
use Rattle.fts_words.specs.Indexed.{Rules}
use Rattle.fts_types.specs.Rules.{rules_of}
use Rattle.fts_commits.specs.Commit.{Commit}
use Rattle.fts_log.proofs.Unique.{one_list}
use Rattle.fts_rowcodec.specs.Payload.{commit_payload, IsWritten}
use Rattle.fts_rowcodec.proofs.Unique.{payload_has_one_commit, payload_has_one_settings}
use Rattle.fts_entries.specs.Entry.{IndexEntry}
use Rattle.fts_ixcodec.specs.Payload.{entry_payload, IsEntry}
use Rattle.fts_ixcodec.proofs.Entries.{payload_has_one_entry}
use Rattle.fts_steps.specs.State.{State, payloads, index_payloads, rows_magic, index_magic, IsRows, IsIndex, IsDatabase}

-- commits with the same payloads are the same
same_commits : (columns : ℕ) (a b : List Commit) → All (IsWritten columns) a → All (IsWritten columns) b → map commit_payload a ≡ map commit_payload b → a ≡ b
same_commits columns [] [] written written' same = refl
same_commits columns [] (commit ∷ b) written written' same = absurd (let e = same in cc)
same_commits columns (commit ∷ a) [] written written' same = absurd (let e = same in cc)
same_commits columns (commit ∷ a) (other ∷ b) written written' same =
    let head : commit ≡ other = payload_has_one_commit columns commit other (All-head (IsWritten columns) commit a written) (All-head (IsWritten columns) other b written')
    (ap (λ (l : List (List ℕ)). get_or l 0 []) same) in
    let tail : a ≡ b = same_commits columns a b (All-tail (IsWritten columns) commit a written) (All-tail (IsWritten columns) other b written') (ap (drop 1) same) in
    ap (λ (c : Commit). c ∷ a) head ∙ ap (λ (l : List Commit). other ∷ l) tail

-- entries with the same payloads are the same
one_entries : (rules : Rules) (a b : List IndexEntry) → All (IsEntry rules) a → All (IsEntry rules) b → map entry_payload a ≡ map entry_payload b → a ≡ b
one_entries rules [] [] is is' same = refl
one_entries rules [] (entry ∷ b) is is' same = absurd (let e = same in cc)
one_entries rules (entry ∷ a) [] is is' same = absurd (let e = same in cc)
one_entries rules (entry ∷ a) (other ∷ b) is is' same =
    let head : entry ≡ other = payload_has_one_entry rules entry other (All-head (IsEntry rules) entry a is) (All-head (IsEntry rules) other b is') (ap (λ (l : List (List ℕ)). get_or l 0 []) same) in
    let tail : a ≡ b = one_entries rules a b (All-tail (IsEntry rules) entry a is) (All-tail (IsEntry rules) other b is') (ap (drop 1) same) in
    ap (λ (e : IndexEntry). e ∷ a) head ∙ ap (λ (l : List IndexEntry). other ∷ l) tail

-- a file is the rows log of one list of commits alone, and of one settings
pub one_rows : (a b : State) (rows : List ℕ) → IsRows a rows → IsRows b rows → (a.settings ≡ b.settings) × (a.commits ≡ b.commits)
one_rows a b rows log log' =
    let same : payloads a ≡ payloads b = one_list rows_magic (payloads a) (payloads b) rows log.log log'.log in
    let settings : a.settings ≡ b.settings =
    payload_has_one_settings a.settings b.settings log.sound.settings log'.sound.settings (ap (λ (l : List (List ℕ)). get_or l 0 []) same) in
    let written : All (IsWritten (length b.settings.columns)) a.commits = subst (λ (s : Settings). All (IsWritten (length s.columns)) a.commits) settings log.sound.written in
    (settings, same_commits (length b.settings.columns) a.commits b.commits written log'.sound.written (ap (drop 1) same))

-- and an index log that of one list of entries alone, of databases with the same settings
pub one_index : (a b : State) (index : Files) → a.settings ≡ b.settings → IsIndex a index → IsIndex b index → a.entries ≡ b.entries
one_index a b index settings log log' =
    one_entries (rules_of b.settings) a.entries b.entries (subst (λ (s : Settings). All (IsEntry (rules_of s)) a.entries) settings log.sound.written) log'.sound.written
    (one_list index_magic (index_payloads a) (index_payloads b) (index 0) log.log log'.log)

-- files are the two logs of one state alone
pub one_database : (a b : State) (rows : List ℕ) (index : Files) → IsDatabase a rows index → IsDatabase b rows index → a ≡ b
one_database a b rows index database database' =
    let same = one_rows a b rows database.of_rows database'.of_rows in
    let entries : a.entries ≡ b.entries = one_index a b index same.0 database.of_index database'.of_index in
    ap (λ (s : Settings). record { settings = s; commits = a.commits; entries = a.entries }) same.0
    ∙ ap (λ (c : List Commit). record { settings = b.settings; commits = c; entries = a.entries }) same.1
    ∙ ap (λ (e : List IndexEntry). record { settings = b.settings; commits = b.commits; entries = e }) entries
