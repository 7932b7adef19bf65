use Rattle.std.specs.Prelude.{◌≡◌, ℕ, List, [], ◌∷◌, drop}
use Rattle.fts_sql.specs.declared.value.Value.{Value}
use Rattle.fts_sql.specs.declared.value.Value.TheVariants.{Number, Text}
use Rattle.fts_sql.specs.declared.statement.Statement.{Statement}
use Rattle.fts_sql.specs.declared.statement.Statement.TheVariants.{Insert, Update, Delete, Match, Sync, Optimize}
use Rattle.fts_sql.specs.declared.statement.Statement.TheVariants.{List as ListView, Begin, Commit, Rollback}
use Rattle.fts_sql.specs.declared.form.Form.{Form}
use Rattle.fts_sql.specs.declared.form.Form.TheVariants as form
use Rattle.fts_sql.specs.Token.{Token, name, number, string, mark}
use Rattle.fts_sql.specs.Line.{Placed, placed, whole, Reads}
use Rattle.fts_sql.specs.Table.{Says}
use Rattle.fts_sql.specs.Grammar.{table_of}

-- the names among some tokens, in their order
abbrev pub names_in : List Token → List (List ℕ)
names_in [] = []
names_in (name written ∷ tokens) = written ∷ names_in tokens
names_in (number n ∷ tokens) = names_in tokens
names_in (string text ∷ tokens) = names_in tokens
names_in (mark b ∷ tokens) = names_in tokens

-- the numbers and strings among them
abbrev pub values_in : List Token → List Value
values_in [] = []
values_in (name written ∷ tokens) = values_in tokens
values_in (number n ∷ tokens) = Number n ∷ values_in tokens
values_in (string text ∷ tokens) = Text text ∷ values_in tokens
values_in (mark b ∷ tokens) = values_in tokens

-- the first token, where it is a name
abbrev pub first_name : List Token → List ℕ
first_name (name written ∷ tokens) = written
first_name tokens = []

-- the text of the first string among them
abbrev pub first_string : List Token → List ℕ
first_string [] = []
first_string (name written ∷ tokens) = first_string tokens
first_string (number n ∷ tokens) = first_string tokens
first_string (string text ∷ tokens) = text
first_string (mark b ∷ tokens) = first_string tokens

-- the texts of the strings among them
abbrev pub strings_in : List Token → List (List ℕ)
strings_in [] = []
strings_in (name written ∷ tokens) = strings_in tokens
strings_in (number n ∷ tokens) = strings_in tokens
strings_in (string text ∷ tokens) = text ∷ strings_in tokens
strings_in (mark b ∷ tokens) = strings_in tokens

-- the first number among them
abbrev pub first_number : List Token → ℕ
first_number [] = 0
first_number (name written ∷ tokens) = first_number tokens
first_number (number n ∷ tokens) = n
first_number (string text ∷ tokens) = first_number tokens
first_number (mark b ∷ tokens) = first_number tokens

-- the statement of a form that takes these tokens
abbrev pub statement_of : Form → List Token → Statement
statement_of form.Insert taken = Insert (first_name taken) (names_in (drop 1 taken)) (values_in taken)
statement_of form.Update taken =
    Update (first_name taken) (names_in (drop 1 taken)) (strings_in taken) (first_number taken)
statement_of form.Delete taken = Delete (first_name taken) (first_number taken)
statement_of form.Match taken = Match (first_name taken) (names_in (drop 1 taken)) (first_string taken)
statement_of form.Sync taken = Sync
statement_of form.Optimize taken = Optimize (first_name taken)
statement_of form.List taken = ListView (first_name taken) (first_name (drop 1 taken))
statement_of form.Begin taken = Begin
statement_of form.Start taken = Begin
statement_of form.Commit taken = Commit
statement_of form.Rollback taken = Rollback

-- the tokens write the statement
abbrev pub Writes : Statement → List Token → Type 0
Writes statement tokens =
    (form : Form) × (taken : List Token) × Says (table_of form) taken tokens [] × (statement ≡ statement_of form taken)

-- tokens without their places
abbrev pub tokens_in : List Placed → List Token
tokens_in [] = []
tokens_in (placed at one ∷ more) = one ∷ tokens_in more

-- the line says the statement: its tokens write it, and they are all that the line has
abbrev pub IsStatement : List ℕ → Statement → Type 0
IsStatement line statement =
    (tokens : List Placed) × (end : ℕ) × Reads 1 line tokens (whole end) × Writes statement (tokens_in tokens)
