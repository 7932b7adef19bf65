use Rattle.std.specs.Prelude.{ℕ, ◌+◌, ◌==◌, Bool, not, nat_lt, if◌then◌else◌, List, [], ◌∷◌, ◌++◌, length, filter, fold}
use Rattle.std.specs.Prelude.{sum_by, Option, Some, None, Result, Ok, Err, IsOk}
use Rattle.std.specs.List.{list_any}
use Rattle.std.specs.Result.{result_unwrap_or}
use Rattle.fts_types.specs.declared.limits.Limits.{Limits}
use Rattle.fts_types.specs.Limits.{standard_limits}
use Rattle.fts_types.specs.Row.{Row}
use Rattle.fts_commits.specs.declared.change.Change.{Change}
use Rattle.fts_commits.specs.declared.change.Change.TheVariants.{Insert, Update, Delete}
use Rattle.fts_commits.specs.declared.refusal.Refusal.{Refusal}
use Rattle.fts_commits.specs.declared.refusal.Refusal.TheVariants.{DuplicateKey, DocIdOrder, DocIdGap, IdsFull}
use Rattle.fts_commits.specs.declared.refusal.Refusal.TheVariants.{TextTooLong, RowsFull}

-- a commit: the changes of one transaction, in their order
abbrev pub Commit : Type 0
Commit = List Change

-- the rows in the order of their document ids, and the largest id that was used
pub record Rows : Type 0 where
  pub list : List Row
  pub largest : ℕ

-- a database without rows
abbrev pub no_rows : Rows
no_rows = record { list = []; largest = 0 }

-- whether some row has the key
abbrev pub has_key : ℕ → List Row → Bool
has_key key rows = list_any (λ row. row.key == key) rows

-- the rows without that of the key
abbrev pub without_key : ℕ → List Row → List Row
without_key key rows = filter (λ row. not (row.key == key)) rows

-- the rows that have the key: one or none
abbrev pub with_key : ℕ → List Row → List Row
with_key key rows = filter (λ row. row.key == key) rows

-- the rows with one more, behind all others
abbrev pub with_row : ℕ → ℕ → List (List ℕ) → Rows → Rows
with_row key doc texts rows =
    record { list = rows.list ++ record { key = key; doc = doc; texts = texts } ∷ []; largest = doc }

-- the id of a new document. One that is given must be above the largest that was used, and at most 65,535 above it;
-- else it is the next after the largest. No id is above the limit
abbrev pub doc_within : ℕ → ℕ → ℕ → Result ℕ Refusal
doc_within limit largest doc = if nat_lt limit doc then Err (IdsFull largest) else Ok doc

abbrev pub doc_for : ℕ → ℕ → Option ℕ → Result ℕ Refusal
doc_for limit largest None = doc_within limit largest (largest + 1)
doc_for limit largest (Some given) =
    if nat_lt largest given
    then (if nat_lt (largest + 65535) given then Err (DocIdGap given largest) else doc_within limit largest given)
    else Err (DocIdOrder given largest)

-- the rows with one more, unless its texts are longer than 65,535 bytes together
abbrev pub with_texts : ℕ → ℕ → ℕ → List (List ℕ) → Rows → Result Rows Refusal
with_texts number key doc texts rows =
    if nat_lt 65535 (sum_by length texts)
    then Err (TextTooLong number (sum_by length texts))
    else Ok (with_row key doc texts rows)

-- the rows with one more, or without an id for it
abbrev pub with_document : ℕ → ℕ → Result ℕ Refusal → List (List ℕ) → Rows → Result Rows Refusal
with_document number key (Ok doc) texts rows = with_texts number key doc texts rows
with_document number key (Err why) texts rows = Err why

-- the texts of a row whose columns are set, where they are; the others are kept
abbrev pub updated : List (Option (List ℕ)) → List (List ℕ) → List (List ℕ)
updated [] texts = []
updated (new ∷ news) [] = []
updated (Some text ∷ news) (old ∷ texts) = text ∷ updated news texts
updated (None ∷ news) (old ∷ texts) = old ∷ updated news texts

-- how many bytes the texts have that are set
abbrev pub set_bytes : List (Option (List ℕ)) → ℕ
set_bytes [] = 0
set_bytes (Some text ∷ news) = length text + set_bytes news
set_bytes (None ∷ news) = set_bytes news

-- an UPDATE gives its row a new id, and puts it behind all others; without a row it changes nothing
abbrev pub after_update : ℕ → ℕ → ℕ → List (Option (List ℕ)) → List Row → Rows → Result Rows Refusal
after_update limit number key news [] rows =
    if nat_lt 65535 (set_bytes news) then Err (TextTooLong number (set_bytes news)) else Ok rows
after_update limit number key news (row ∷ others) rows =
    with_document number key (doc_for limit rows.largest None) (updated news row.texts)
    (record { list = without_key key rows.list; largest = rows.largest })

-- one change of a commit, the change of this number
abbrev pub after_change : ℕ → ℕ → Change → Rows → Result Rows Refusal
after_change limit number (Insert key doc texts) rows =
    if has_key key rows.list
    then Err (DuplicateKey number key)
    else with_document number key (doc_for limit rows.largest doc) texts rows
after_change limit number (Update key news) rows = after_update limit number key news (with_key key rows.list) rows
after_change limit number (Delete key) rows = Ok (record { list = without_key key rows.list; largest = rows.largest })

-- what follows on the rows that were left, unless these were refused
abbrev pub on_rows : Result Rows Refusal → (Rows → Result Rows Refusal) → Result Rows Refusal
on_rows (Ok rows) follows = follows rows
on_rows (Err why) follows = Err why

-- the changes from one number on, each on the rows that the earlier ones left: the first that is refused refuses all
abbrev pub after_changes : ℕ → ℕ → List Change → Rows → Result Rows Refusal
after_changes limit number [] rows = Ok rows
after_changes limit number (change ∷ changes) rows =
    on_rows (after_change limit number change rows) (after_changes limit (number + 1) changes)

-- not more rows than the limit
abbrev pub within_rows : ℕ → Result Rows Refusal → Result Rows Refusal
within_rows limit (Ok rows) =
    if nat_lt limit (length rows.list) then Err (RowsFull (length rows.list)) else Ok rows
within_rows limit (Err why) = Err why

-- a commit gives new rows, or is refused
abbrev pub after_commit : Limits → Commit → Rows → Result Rows Refusal
after_commit limits commit rows = within_rows limits.rows (after_changes limits.ids 1 commit rows)

-- the rows after a commit; a refused one changes nothing
abbrev pub rows_after : Rows → Commit → Rows
rows_after rows commit = result_unwrap_or (after_commit standard_limits commit rows) rows

-- replay: the rows that a list of commits leaves, from none
abbrev pub replay : List Commit → Rows
replay commits = fold rows_after no_rows commits

-- each commit is accepted by the rows that those before it left
abbrev pub AreAccepted : Rows → List Commit → Type 0
AreAccepted rows [] = Unit {0}
AreAccepted rows (commit ∷ commits) =
    IsOk (after_commit standard_limits commit rows) × AreAccepted (rows_after rows commit) commits
