-- The rows of a database stand in the order of their ids.
use Rattle.std.proofs.Common.{◌≡◌, ℕ, ◌+◌, ◌<◌, ◌≤◌, List, [], ◌∷◌, refl, arith, map, filter, length, subst, Option, Some, None}
use Rattle.std.proofs.lemmas.List.{get_or-map, length-map}
use Rattle.std.proofs.lemmas.List.Elements.{All-filter, All-push}
use Rattle.std.proofs.lemmas.List.Kept.{AllPairs-filter}
use Rattle.std.proofs.lemmas.List.Quantifiers.{all_pairs_push}
use Rattle.std.proofs.lemmas.Bool.{ltb-true}
use Rattle.std.specs.List.{All, AllPairs}
use Rattle.std.specs.Prelude.{Bool, true, false, nat_lt, if◌then◌else◌, Result, Ok, Err, fold, sum_by}
use Rattle.std.specs.Result.{result_unwrap_or}
use Rattle.fts_types.specs.Limits.{standard_limits}
use Rattle.fts_commits.specs.declared.refusal.Refusal.{Refusal}
use Rattle.fts_commits.specs.declared.refusal.Refusal.TheVariants.{DuplicateKey, DocIdOrder, DocIdGap, IdsFull, TextTooLong, RowsFull}
use Rattle.fts_commits.specs.declared.change.Change.{Change}
use Rattle.fts_commits.specs.declared.change.Change.TheVariants.{Insert, Update, Delete}
use Rattle.fts_types.specs.Row.{Row}
use Rattle.fts_commits.specs.Commit.{Commit, Rows, no_rows, has_key, with_key, without_key, with_row, doc_within, doc_for, with_document, updated, set_bytes, after_update, after_change, on_rows, after_changes, within_rows, after_commit, rows_after, replay}

-- the one row is before the other
abbrev pub Before : Row → Row → Type 0
Before a b = a.doc < b.doc

-- the rows ascend, and none is above the largest id that was used
pub record IsOrdered (rows : Rows) : Type 0 where
  pub ascend : AllPairs Before rows.list
  pub below : All (λ (row : Row). row.doc ≤ rows.largest) rows.list

abbrev IsAbove : ℕ → Result ℕ Refusal → Type 0
IsAbove largest (Ok doc) = largest < doc
IsAbove largest (Err why) = Unit {0}

pub none_ordered : IsOrdered no_rows
none_ordered = record { ascend = λ i j d order less. absurd (omega (arith, less)); below = λ k d less. absurd (omega (arith, less)) }

one_more : (key doc : ℕ) (texts : List (List ℕ)) (rows : Rows) → IsOrdered rows → rows.largest < doc → IsOrdered (with_row key doc texts rows)
one_more key doc texts rows ordered above = record {
  ascend = all_pairs_push Before rows.list (record { key = key; doc = doc; texts = texts }) ordered.ascend
      (λ k d less. let below = ordered.below k d less in omega (arith, below, above));
  below = All-push (λ (row : Row). row.doc ≤ doc) rows.list (record { key = key; doc = doc; texts = texts })
      (λ k d less. let below = ordered.below k d less in omega (arith, below, above)) (omega arith);
}

one_less : (key : ℕ) (rows : Rows) → IsOrdered rows → IsOrdered (record { list = without_key key rows.list; largest = rows.largest })
one_less key rows ordered = record {
  ascend = AllPairs-filter Before _ rows.list ordered.ascend;
  below = All-filter _ (λ (row : Row). row.doc ≤ rows.largest) rows.list ordered.below;
}

within_above : (limit largest doc : ℕ) (past : Bool) → largest < doc → IsAbove largest (if past then Err (IdsFull largest) else Ok doc)
within_above limit largest doc true above = tt
within_above limit largest doc false above = above

given_above : (limit largest given : ℕ) (above far : Bool) → nat_lt largest given ≡ above
    → IsAbove largest (if above then (if far then Err (DocIdGap given largest) else doc_within limit largest given) else Err (DocIdOrder given largest))
given_above limit largest given false far is = tt
given_above limit largest given true true is = tt
given_above limit largest given true false is = within_above limit largest given (nat_lt limit given) (ltb-true largest given is)

doc_above : (limit largest : ℕ) (given : Option ℕ) → IsAbove largest (doc_for limit largest given)
doc_above limit largest None = within_above limit largest (largest + 1) (nat_lt limit (largest + 1)) (omega arith)
doc_above limit largest (Some given) = given_above limit largest given (nat_lt largest given) (nat_lt (largest + 65535) given) refl

-- ---- what holds of some rows holds after a commit, where it goes on with one more row and with one less

module _ (P : Rows → Type 0) (more : (key doc : ℕ) (texts : List (List ℕ)) (rows : Rows) → P rows → rows.largest < doc → P (with_row key doc texts rows))
    (less : (key : ℕ) (rows : Rows) → P rows → P (record { list = without_key key rows.list; largest = rows.largest })) where
  abbrev IfTaken : Result Rows Refusal → Type 0
  IfTaken (Ok rows) = P rows
  IfTaken (Err why) = Unit {0}

  or_kept : (refused : Bool) (why : Refusal) (rows : Rows) → P rows → IfTaken (if refused then Err why else Ok rows)
  or_kept true why rows holds = tt
  or_kept false why rows holds = holds

  after_document : (number key : ℕ) (doc : Result ℕ Refusal) (texts : List (List ℕ)) (rows : Rows) → P rows → IsAbove rows.largest doc
      → IfTaken (with_document number key doc texts rows)
  after_document number key (Ok doc) texts rows holds above =
      or_kept (nat_lt 65535 (sum_by length texts)) (TextTooLong number (sum_by length texts)) (with_row key doc texts rows) (more key doc texts rows holds above)
  after_document number key (Err why) texts rows holds above = tt

  after_insert : (limit number key : ℕ) (doc : Option ℕ) (texts : List (List ℕ)) (rows : Rows) (taken : Bool) → P rows
      → IfTaken (if taken then Err (DuplicateKey number key) else with_document number key (doc_for limit rows.largest doc) texts rows)
  after_insert limit number key doc texts rows true holds = tt
  after_insert limit number key doc texts rows false holds = after_document number key (doc_for limit rows.largest doc) texts rows holds (doc_above limit rows.largest doc)

  updated_holds : (limit number key : ℕ) (news : List (Option (List ℕ))) (found : List Row) (rows : Rows) → P rows → IfTaken (after_update limit number key news found rows)
  updated_holds limit number key news [] rows holds = or_kept (nat_lt 65535 (set_bytes news)) (TextTooLong number (set_bytes news)) rows holds
  updated_holds limit number key news (row ∷ others) rows holds =
      after_document number key (doc_for limit rows.largest None) (updated news row.texts) (record { list = without_key key rows.list; largest = rows.largest })
      (less key rows holds) (doc_above limit rows.largest None)

  change_holds : (limit number : ℕ) (change : Change) (rows : Rows) → P rows → IfTaken (after_change limit number change rows)
  change_holds limit number (Insert key doc texts) rows holds = after_insert limit number key doc texts rows (has_key key rows.list) holds
  change_holds limit number (Update key news) rows holds = updated_holds limit number key news (with_key key rows.list) rows holds
  change_holds limit number (Delete key) rows holds = less key rows holds

  follows_holds : (result : Result Rows Refusal) (next : Rows → Result Rows Refusal) → IfTaken result → ((rows : Rows) → P rows → IfTaken (next rows)) → IfTaken (on_rows result next)
  follows_holds (Ok rows) next holds follows = follows rows holds
  follows_holds (Err why) next holds follows = tt

  changes_hold : (limit number : ℕ) (changes : List Change) (rows : Rows) → P rows → IfTaken (after_changes limit number changes rows)
  changes_hold limit number [] rows holds = holds
  changes_hold limit number (change ∷ changes) rows holds =
      follows_holds (after_change limit number change rows) (after_changes limit (number + 1) changes) (change_holds limit number change rows holds)
      (λ later is. changes_hold limit (number + 1) changes later is)

  within_holds : (limit : ℕ) (result : Result Rows Refusal) → IfTaken result → IfTaken (within_rows limit result)
  within_holds limit (Ok rows) holds = or_kept (nat_lt limit (length rows.list)) (RowsFull (length rows.list)) rows holds
  within_holds limit (Err why) holds = tt

  unwrapped_holds : (result : Result Rows Refusal) (rows : Rows) → IfTaken result → P rows → P (result_unwrap_or result rows)
  unwrapped_holds (Ok after) rows holds old = holds
  unwrapped_holds (Err why) rows holds old = old

  pub commit_holds : (commit : Commit) (rows : Rows) → P rows → P (rows_after rows commit)
  commit_holds commit rows holds =
      unwrapped_holds (after_commit standard_limits commit rows) rows
      (within_holds standard_limits.rows (after_changes standard_limits.ids 1 commit rows) (changes_hold standard_limits.ids 1 commit rows holds)) holds

-- ---- the rows are ordered

pub commit_ordered : (commit : Commit) (rows : Rows) → IsOrdered rows → IsOrdered (rows_after rows commit)
commit_ordered commit rows ordered = commit_holds IsOrdered one_more one_less commit rows ordered

commits_ordered : (commits : List Commit) (rows : Rows) → IsOrdered rows → IsOrdered (fold rows_after rows commits)
commits_ordered [] rows ordered = ordered
commits_ordered (commit ∷ commits) rows ordered = commits_ordered commits (rows_after rows commit) (commit_ordered commit rows ordered)

pub ids_ascend : (rows : List Row) → AllPairs Before rows → AllPairs (λ (a b : ℕ). a < b) (map (λ (row : Row). row.doc) rows)
ids_ascend rows ascend i j d order less =
    let short : j < length rows = subst (λ (n : ℕ). j < n) (length-map rows (λ (row : Row). row.doc)) less in
    let none : Row = record { key = 0; doc = 0; texts = [] } in
    rw (get_or-map (λ (row : Row). row.doc) rows i none d (omega (arith, order, short)), get_or-map (λ (row : Row). row.doc) rows j none d short) (ascend i j none order short)

-- whichever of a database's rows a test takes, their ids ascend
pub picked_ids_ascend : (commits : List Commit) (test : Row → Bool)
    → AllPairs (λ (a b : ℕ). a < b) (map (λ (row : Row). row.doc) (filter test (replay commits).list))
picked_ids_ascend commits test =
    ids_ascend (filter test (replay commits).list) (AllPairs-filter Before test (replay commits).list (commits_ordered commits no_rows none_ordered).ascend)
