-- The grammar of statements (docs/LANGUAGE.md): of each form its pieces, in their order.
use Rattle.std.specs.Prelude.{ℕ, List, [], ◌∷◌}
use Rattle.fts_sql.specs.declared.word.Word.{Word}
use Rattle.fts_sql.specs.declared.word.Word.TheVariants as word
use Rattle.fts_sql.specs.declared.piece.Piece.TheVariants.{Keyword, Mark, Name, Number, String, Value, Session}
use Rattle.fts_sql.specs.declared.form.Form.{Form}
use Rattle.fts_sql.specs.declared.form.Form.TheVariants as form
use Rattle.fts_sql.specs.Table.{Part, Once, Optional, Repeated}

-- the marks, by their codes
abbrev pub open_bracket : ℕ
open_bracket = 40

abbrev pub close_bracket : ℕ
close_bracket = 41

abbrev pub star : ℕ
star = 42

abbrev pub comma : ℕ
comma = 44

abbrev pub point : ℕ
point = 46

abbrev pub colon : ℕ
colon = 58

abbrev pub semicolon : ℕ
semicolon = 59

abbrev pub equals : ℕ
equals = 61

abbrev pub keyword : Word → Part
keyword w = Once (Keyword w)

abbrev pub mark : ℕ → Part
mark b = Once (Mark b)

-- [ number : ], with which each statement may begin
abbrev pub session : Part
session = Optional (Session ∷ Mark colon ∷ [])

-- name, name, ..
abbrev pub more_names : Part
more_names = Repeated (Mark comma ∷ Name ∷ [])

-- and a semicolon may end it
abbrev pub ending : List Part
ending = Optional (Mark semicolon ∷ []) ∷ []

-- id = number
abbrev pub by_key : List Part
by_key = keyword word.Where ∷ keyword word.Id ∷ mark equals ∷ Once Number ∷ ending

-- INSERT INTO table (column, ..) VALUES (value, ..)
abbrev pub insert_form : List Part
insert_form = session ∷ keyword word.Insert ∷ keyword word.Into ∷ Once Name
    ∷ mark open_bracket ∷ Once Name ∷ more_names ∷ mark close_bracket
    ∷ keyword word.Values ∷ mark open_bracket ∷ Once Value ∷ Repeated (Mark comma ∷ Value ∷ []) ∷ mark close_bracket
    ∷ ending

-- UPDATE table SET column = 'text', .. WHERE id = key
abbrev pub update_form : List Part
update_form = session ∷ keyword word.Update ∷ Once Name
    ∷ keyword word.Set ∷ Once Name ∷ mark equals ∷ Once String
    ∷ Repeated (Mark comma ∷ Name ∷ Mark equals ∷ String ∷ []) ∷ by_key

-- DELETE FROM table WHERE id = key
abbrev pub delete_form : List Part
delete_form = session ∷ keyword word.Delete ∷ keyword word.From ∷ Once Name ∷ by_key

-- SELECT FTS_DOC_ID FROM table WHERE MATCH (column, ..) AGAINST ('query' IN BOOLEAN MODE)
abbrev pub match_form : List Part
match_form = session ∷ keyword word.Select ∷ keyword word.FtsDocId ∷ keyword word.From ∷ Once Name
    ∷ keyword word.Where ∷ keyword word.Match ∷ mark open_bracket ∷ Once Name ∷ more_names ∷ mark close_bracket
    ∷ keyword word.Against ∷ mark open_bracket ∷ Once String
    ∷ keyword word.In ∷ keyword word.Boolean ∷ keyword word.Mode ∷ mark close_bracket ∷ ending

-- SYNC
abbrev pub sync_form : List Part
sync_form = session ∷ keyword word.Sync ∷ ending

-- OPTIMIZE TABLE table
abbrev pub optimize_form : List Part
optimize_form = session ∷ keyword word.Optimize ∷ keyword word.Table ∷ Once Name ∷ ending

-- SELECT * FROM schema.view
abbrev pub list_form : List Part
list_form = session ∷ keyword word.Select ∷ mark star ∷ keyword word.From ∷ Once Name ∷ mark point ∷ Once Name ∷ ending

-- BEGIN, or START TRANSACTION
abbrev pub begin_form : List Part
begin_form = session ∷ keyword word.Begin ∷ ending

abbrev pub start_form : List Part
start_form = session ∷ keyword word.Start ∷ keyword word.Transaction ∷ ending

-- COMMIT
abbrev pub commit_form : List Part
commit_form = session ∷ keyword word.Commit ∷ ending

-- ROLLBACK
abbrev pub rollback_form : List Part
rollback_form = session ∷ keyword word.Rollback ∷ ending

-- the grammar of each form
abbrev pub table_of : Form → List Part
table_of form.Insert = insert_form
table_of form.Update = update_form
table_of form.Delete = delete_form
table_of form.Match = match_form
table_of form.Sync = sync_form
table_of form.Optimize = optimize_form
table_of form.List = list_form
table_of form.Begin = begin_form
table_of form.Start = start_form
table_of form.Commit = commit_form
table_of form.Rollback = rollback_form
