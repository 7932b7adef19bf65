-- What a statement means for the table `docs` with its columns.
use Rattle.std.specs.Prelude.{ℕ, Bool, true, false, not, ◌&&◌, ◌||◌, ◌==◌, if◌then◌else◌, List, [], ◌∷◌, length}
use Rattle.std.specs.Prelude.{map, codes, Option, Some, None}
use Rattle.std.specs.List.{list_all, list_any}
use Rattle.std.specs.Str.{str_eq_ignore_ascii_case}
use Rattle.fts_commits.specs.declared.change.Change.{Change}
use Rattle.fts_commits.specs.declared.change.Change.TheVariants as change
use Rattle.fts_sql.specs.declared.statement.Statement.{Statement}
use Rattle.fts_sql.specs.declared.statement.Statement.TheVariants.{Insert, Update, Delete, Match, Sync, Optimize}
use Rattle.fts_sql.specs.declared.statement.Statement.TheVariants.{List as ListView, Begin, Commit, Rollback}
use Rattle.fts_sql.specs.declared.value.Value.{Value}
use Rattle.fts_sql.specs.declared.value.Value.TheVariants.{Number, Text}

-- whether the table has a column of this name: the key, the document id, or a text column; names are compared case
-- apart
abbrev pub is_known : List (List ℕ) → List ℕ → Bool
is_known columns name =
    str_eq_ignore_ascii_case name (codes "id") || str_eq_ignore_ascii_case name (codes "fts_doc_id")
    || list_any (λ column. str_eq_ignore_ascii_case name column) columns

-- the first name that no column has
abbrev pub first_unknown : List (List ℕ) → List (List ℕ) → Option (List ℕ)
first_unknown columns [] = None
first_unknown columns (name ∷ names) = if is_known columns name then first_unknown columns names else Some name

-- whether the names are these, in this order
abbrev pub are_names : List (List ℕ) → List (List ℕ) → Bool
are_names [] [] = true
are_names [] (name ∷ names) = false
are_names (wanted ∷ more) [] = false
are_names (wanted ∷ more) (name ∷ names) = str_eq_ignore_ascii_case name wanted && are_names more names

-- whether the value is a text
abbrev pub is_text : Value → Bool
is_text (Number n) = false
is_text (Text text) = true

-- the texts among the values
abbrev pub texts_in : List Value → List (List ℕ)
texts_in [] = []
texts_in (Number n ∷ values) = texts_in values
texts_in (Text text ∷ values) = text ∷ texts_in values

-- the INSERT of a key, and perhaps a document id, with a text for each of so many columns
abbrev pub insert_of : ℕ → ℕ → Option ℕ → List Value → Option Change
insert_of columns key doc texts =
    if (length texts == columns) && list_all is_text texts then Some (change.Insert key doc (texts_in texts)) else None

-- the INSERT of these values: a number for the key, and texts
abbrev pub plain_insert : ℕ → List Value → Option Change
plain_insert columns [] = None
plain_insert columns (Text text ∷ values) = None
plain_insert columns (Number key ∷ values) = insert_of columns key None values

-- and where the document id is given: one number more, behind the key
abbrev pub numbered_insert : ℕ → List Value → Option Change
numbered_insert columns [] = None
numbered_insert columns (Text text ∷ values) = None
numbered_insert columns (Number key ∷ []) = None
numbered_insert columns (Number key ∷ Text text ∷ values) = None
numbered_insert columns (Number key ∷ Number doc ∷ values) = insert_of columns key (Some doc) values

-- the INSERT of values into columns of these names: `id`, perhaps `FTS_DOC_ID`, and then all text columns in the order
-- in which they were created
abbrev pub named_insert : List (List ℕ) → List (List ℕ) → List Value → Option Change
named_insert columns names values =
    if are_names (codes "id" ∷ columns) names
    then plain_insert (length columns) values
    else (if are_names (codes "id" ∷ codes "fts_doc_id" ∷ columns) names
    then numbered_insert (length columns) values
    else None)

-- whether each name is that of a text column, and none comes twice
abbrev pub are_set_once : List (List ℕ) → List (List ℕ) → Bool
are_set_once columns [] = true
are_set_once columns (name ∷ names) =
    list_any (λ column. str_eq_ignore_ascii_case name column) columns
    && (not (list_any (λ other. str_eq_ignore_ascii_case name other) names) && are_set_once columns names)

-- the text that is set for a column, if one is
abbrev pub text_for : List ℕ → List (List ℕ) → List (List ℕ) → Option (List ℕ)
text_for column [] texts = None
text_for column (name ∷ names) [] = None
text_for column (name ∷ names) (text ∷ texts) =
    if str_eq_ignore_ascii_case name column then Some text else text_for column names texts

-- the UPDATE that sets these texts for columns of these names: text columns, none of them twice
abbrev pub update_of : List (List ℕ) → List (List ℕ) → List (List ℕ) → ℕ → Option Change
update_of columns names texts key =
    if are_set_once columns names
    then Some (change.Update key (map (λ column. text_for column names texts) columns))
    else None

-- a statement that changes rows
abbrev pub IsChange : Statement → Type 0
IsChange (Insert table names values) = Unit {0}
IsChange (Update table names texts key) = Unit {0}
IsChange (Delete table key) = Unit {0}
IsChange Begin = ⊥
IsChange Commit = ⊥
IsChange Rollback = ⊥
IsChange (Match table names query) = ⊥
IsChange Sync = ⊥
IsChange (Optimize table) = ⊥
IsChange (ListView schema view) = ⊥

-- the table and the columns that it names, and the change of rows that it asks for, if it fits the table
abbrev pub table_named : Statement → List ℕ
table_named (Insert table names values) = table
table_named (Update table names texts key) = table
table_named (Delete table key) = table
table_named other = []

abbrev pub columns_named : Statement → List (List ℕ)
columns_named (Insert table names values) = names
columns_named (Update table names texts key) = names
columns_named other = []

abbrev pub change_of : List (List ℕ) → Statement → Option Change
change_of columns (Insert table names values) = named_insert columns names values
change_of columns (Update table names texts key) = update_of columns names texts key
change_of columns (Delete table key) = Some (change.Delete key)
change_of columns other = None
