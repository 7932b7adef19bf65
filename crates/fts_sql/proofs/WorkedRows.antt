-- Small statements, worked out by hand: what the tables and the definitions say of them.
use Rattle.std.proofs.Common.{◌≡◌, ◌==◌, ◌↔◌, ◌++◌, Bool, true, false, not, List, [], ◌∷◌, Option, Some, None, refl, sym, ap, subst, inl, inr, arith, codes}
use Rattle.std.specs.List.{list_all}
use Rattle.std.proofs.lemmas.Bool.{both_ways, not-true}
use Rattle.std.proofs.lemmas.List.{append-nil}
use Rattle.fts_sql.specs.Token.{Token, name, number, string, mark, begins_with}
use Rattle.fts_sql.specs.declared.piece.Piece.{Piece}
use Rattle.fts_sql.specs.declared.value.Value.TheVariants.{Number, Text}
use Rattle.fts_sql.specs.declared.statement.Statement.{Statement}
use Rattle.fts_sql.specs.declared.statement.Statement.TheVariants.{Insert, Update, Delete, Match, Sync, Optimize, List as ListView, Begin, Commit, Rollback}
use Rattle.fts_sql.specs.declared.form.Form.{Form}
use Rattle.fts_sql.specs.declared.form.Form.TheVariants as form
use Rattle.fts_sql.specs.declared.form.TheConstants.{FORMS}
use Rattle.fts_sql.specs.Table.{taken_by, Says}
use Rattle.fts_sql.specs.Statement.{Writes}
use Rattle.fts_sql.specs.Grammar.{table_of}
use Rattle.fts_sql.specs.Session.{IsNumbered, IsSession}
use Rattle.fts_sql.specs.Fault.{Viable}
use Rattle.fts_sql.specs.Reader.{is_table, Spot, SaysFrom, behind, ends}
use Rattle.fts_sql.proofs.Tables.{IsStep, behind_is, spot_end, spot_completes}
use Rattle.fts_sql.proofs.Sessions.{numbered_no_blank, not_marked, not_numbered}
use Rattle.fts_sql.proofs.Blanks.{not_blank}
use Rattle.fts_sql.proofs.Written.{each_form, tables_are, form_of, viable_of}

-- the spot behind some tokens, and what is taken of them, if a table's tokens can begin with them

record Reading : Type 0 where
  spot : Spot
  taken : List Token

abbrev then_read : Option (Piece × Spot) → Token → (Spot → List Token → Option Reading) → List Token → Option Reading
then_read None t read taken = None
then_read (Some step) t read taken = read step.1 (taken_by step.0 t taken)

abbrev after : Spot → List Token → List Token → Option Reading
after spot [] taken = Some (record { spot = spot; taken = taken })
after spot (t ∷ tokens) taken = then_read (behind spot.begun spot.ahead t) t (λ s kept. after s tokens kept) taken

abbrev IsAfter : Spot → List Token → List Token → Option Reading → Type 0
IsAfter spot tokens taken None = (all more : List Token) → SaysFrom spot all (tokens ++ more) taken → ⊥
IsAfter spot tokens taken (Some read) =
    ((all more : List Token) → SaysFrom spot all (tokens ++ more) taken ↔ SaysFrom read.spot all more read.taken)
    × (is_table read.spot.ahead ≡ true)

later : (spot : Spot) (t : Token) (tokens taken : List Token) (step : Piece × Spot) → IsStep (SaysFrom spot) t (Some step)
    → (read : Option Reading) → IsAfter step.1 tokens (taken_by step.0 t taken) read → IsAfter spot (t ∷ tokens) taken read
later spot t tokens taken step is None none = λ all more h. none all more ((is.0 all (tokens ++ more) taken).0 h)
later spot t tokens taken step is (Some read) same = (
  λ all more. (
    λ h. (same.0 all more).0 ((is.0 all (tokens ++ more) taken).0 h),
    λ k. (is.0 all (tokens ++ more) taken).1 ((same.0 all more).1 k),
  ),
  same.1,
)

read_on : (spot : Spot) (t : Token) (tokens taken : List Token) (step : Option (Piece × Spot)) → IsStep (SaysFrom spot) t step
    → ((s : Spot) (kept : List Token) → is_table s.ahead ≡ true → IsAfter s tokens kept (after s tokens kept))
    → IsAfter spot (t ∷ tokens) taken (then_read step t (λ s kept. after s tokens kept) taken)
read_on spot t tokens taken None is next = λ all more h. is all (tokens ++ more) taken h
read_on spot t tokens taken (Some step) is next =
    later spot t tokens taken step is (after step.1 tokens (taken_by step.0 t taken)) (next step.1 (taken_by step.0 t taken) is.1)

after_is : (tokens : List Token) (spot : Spot) (taken : List Token) → is_table spot.ahead ≡ true → IsAfter spot tokens taken (after spot tokens taken)
after_is [] spot taken table = (λ all more. (λ h. h, λ k. k), table)
after_is (t ∷ tokens) spot taken table =
    read_on spot t tokens taken (behind spot.begun spot.ahead t) (behind_is spot.begun spot.ahead t table) (after_is tokens)

abbrev if_whole : Bool → List Token → Option (List Token)
if_whole true taken = Some taken
if_whole false taken = None

abbrev takes : Option Reading → Option (List Token)
takes None = None
takes (Some read) = if_whole (ends read.spot.begun read.spot.ahead) read.taken

abbrev start : Form → Spot
start one = record { begun = []; ahead = table_of one }

abbrev said_of : Option (List Token) → List Token
said_of None = []
said_of (Some taken) = taken

abbrev is_said : Option (List Token) → Bool
is_said None = false
is_said (Some taken) = true

by_end : (b : Bool) (taken all : List Token) → if_whole b taken ≡ Some all → (b ≡ true) × (taken ≡ all)
by_end true taken all e = (refl, ap said_of e)
by_end false taken all e = absurd (both_ways false refl (ap is_said e))

no_end : (b : Bool) (taken : List Token) → if_whole b taken ≡ None → b ≡ true → ⊥
no_end true taken e is = both_ways true (ap is_said e) refl
no_end false taken e is = both_ways false refl is

whole_by : (one : Form) (tokens all : List Token) (read : Option Reading) → IsAfter (start one) tokens [] read → takes read ≡ Some all
    → Says (table_of one) all tokens []
whole_by one tokens all None is e = absurd (both_ways false refl (ap is_said e))
whole_by one tokens all (Some read) is e =
    let end = by_end (ends read.spot.begun read.spot.ahead) read.taken all e in
    subst (λ ts. Says (table_of one) all ts []) (append-nil tokens)
    ((is.0 all []).1 ((spot_end read.spot.begun read.spot.ahead is.1 all read.taken).1 end))

none_by : (one : Form) (tokens : List Token) (read : Option Reading) → IsAfter (start one) tokens [] read → takes read ≡ None
    → (all : List Token) → Says (table_of one) all tokens [] → ⊥
none_by one tokens None is e all says = is all [] (subst (λ ts. Says (table_of one) all ts []) (sym (append-nil tokens)) says)
none_by one tokens (Some read) is e all says =
    let end = (spot_end read.spot.begun read.spot.ahead is.1 all read.taken).0
    ((is.0 all []).0 (subst (λ ts. Says (table_of one) all ts []) (sym (append-nil tokens)) says)) in
    no_end (ends read.spot.begun read.spot.ahead) read.taken e end.0

abbrev is_front : Option Reading → Bool
is_front None = false
is_front (Some read) = true

front_by : (one : Form) (tokens : List Token) (read : Option Reading) → IsAfter (start one) tokens [] read → is_front read ≡ true → Viable tokens
front_by one tokens None is e = absurd (both_ways false refl e)
front_by one tokens (Some read) is e =
    let r = spot_completes read.spot.begun read.spot.ahead read.taken in
    viable_of one tokens (r.1, r.0, (is.0 r.1 r.0).1 r.2)

-- the tokens are a whole statement of the form
says : (one : Form) (tokens all : List Token) → takes (after (start one) tokens []) ≡ Some all → Says (table_of one) all tokens []
says one tokens all e = whole_by one tokens all (after (start one) tokens []) (after_is tokens (start one) [] (tables_are one)) e

none_said : (said : Option (List Token)) → not (is_said said) ≡ true → said ≡ None
none_said None is = refl
none_said (Some taken) is = absurd (both_ways false refl is)

-- they are none of any form
writes_none : (tokens : List Token) → list_all (λ one. not (is_said (takes (after (start one) tokens [])))) FORMS ≡ true
    → (statement : Statement) → Writes statement tokens → ⊥
writes_none tokens none statement (one, all, is, same) =
    none_by one tokens (after (start one) tokens []) (after_is tokens (start one) [] (tables_are one))
    (none_said (takes (after (start one) tokens [])) (each_form (λ f. not (is_said (takes (after (start f) tokens [])))) none one)) all is

-- some statement begins with them
begins : (one : Form) (tokens : List Token) → is_front (after (start one) tokens []) ≡ true → Viable tokens
begins one tokens e = front_by one tokens (after (start one) tokens []) (after_is tokens (start one) [] (tables_are one)) e

not_front : (one : Form) (tokens : List Token) (read : Option Reading) → IsAfter (start one) tokens [] read → is_front read ≡ false
    → (all more : List Token) → Says (table_of one) all (tokens ++ more) [] → ⊥
not_front one tokens None is e all more h = is all more h
not_front one tokens (Some read) is e all more h = both_ways true e refl

-- none does
begins_none : (tokens : List Token) → list_all (λ one. not (is_front (after (start one) tokens []))) FORMS ≡ true → Viable tokens → ⊥
begins_none tokens none viable =
    let of = form_of tokens viable in
    not_front of.0 tokens (after (start of.0) tokens []) (after_is tokens (start of.0) [] (tables_are of.0))
    (not-true (is_front (after (start of.0) tokens [])) (each_form (λ f. not (is_front (after (start f) tokens []))) none of.0)) of.1.0 of.1.1 of.1.2

-- INSERT INTO t (a, b) VALUES (1, 'x')

abbrev insert_front : List Token
insert_front =
    name (codes "INSERT") ∷ name (codes "into") ∷ name (codes "t") ∷ mark 40 ∷ name (codes "a") ∷ mark 44 ∷ name (codes "b") ∷ mark 41
    ∷ name (codes "Values") ∷ mark 40 ∷ number 1 ∷ mark 44 ∷ string (codes "x") ∷ []

insert_row : Writes (Insert (codes "t") (codes "a" ∷ codes "b" ∷ []) (Number 1 ∷ Text (codes "x") ∷ [])) (insert_front ++ mark 41 ∷ [])
insert_row = (form.Insert, _, says form.Insert (insert_front ++ mark 41 ∷ []) _ refl, refl)

closed_row : Writes (Insert (codes "t") (codes "a" ∷ codes "b" ∷ []) (Number 1 ∷ Text (codes "x") ∷ [])) (insert_front ++ mark 41 ∷ mark 59 ∷ [])
closed_row = (form.Insert, _, says form.Insert (insert_front ++ mark 41 ∷ mark 59 ∷ []) _ refl, refl)

open_row : (statement : Statement) → Writes statement insert_front → ⊥
open_row = writes_none insert_front refl

open_front : Viable insert_front
open_front = begins form.Insert insert_front refl

-- INSERT INTO t () ..
no_column : Viable (name (codes "insert") ∷ name (codes "into") ∷ name (codes "t") ∷ mark 40 ∷ mark 41 ∷ []) → ⊥
no_column = begins_none (name (codes "insert") ∷ name (codes "into") ∷ name (codes "t") ∷ mark 40 ∷ mark 41 ∷ []) refl

-- SELECT FTS_DOC_ID FROM t WHERE MATCH (a) AGAINST ('q' IN BOOLEAN MODE)

abbrev match_front : List Token
match_front =
    name (codes "SELECT") ∷ name (codes "FTS_DOC_ID") ∷ name (codes "FROM") ∷ name (codes "t") ∷ name (codes "WHERE") ∷ name (codes "MATCH")
    ∷ mark 40 ∷ name (codes "a") ∷ mark 41 ∷ name (codes "AGAINST") ∷ mark 40 ∷ string (codes "q")
    ∷ name (codes "IN") ∷ name (codes "BOOLEAN") ∷ name (codes "MODE") ∷ []

match_row : Writes (Match (codes "t") (codes "a" ∷ []) (codes "q")) (match_front ++ mark 41 ∷ [])
match_row = (form.Match, _, says form.Match (match_front ++ mark 41 ∷ []) _ refl, refl)

match_closed : Writes (Match (codes "t") (codes "a" ∷ []) (codes "q")) (match_front ++ mark 41 ∷ mark 59 ∷ [])
match_closed = (form.Match, _, says form.Match (match_front ++ mark 41 ∷ mark 59 ∷ []) _ refl, refl)

match_open : (statement : Statement) → Writes statement match_front → ⊥
match_open = writes_none match_front refl

-- SYNC

sync_row : Writes Sync (name (codes "sync") ∷ [])
sync_row = (form.Sync, _, says form.Sync (name (codes "sync") ∷ []) _ refl, refl)

sync_closed : Writes Sync (name (codes "SYNC") ∷ mark 59 ∷ [])
sync_closed = (form.Sync, _, says form.Sync (name (codes "SYNC") ∷ mark 59 ∷ []) _ refl, refl)

-- OPTIMIZE TABLE t

abbrev optimize_front : List Token
optimize_front = name (codes "OPTIMIZE") ∷ name (codes "table") ∷ []

optimize_row : Writes (Optimize (codes "t")) (optimize_front ++ name (codes "t") ∷ [])
optimize_row = (form.Optimize, _, says form.Optimize (optimize_front ++ name (codes "t") ∷ []) _ refl, refl)

optimize_closed : Writes (Optimize (codes "t")) (optimize_front ++ name (codes "t") ∷ mark 59 ∷ [])
optimize_closed = (form.Optimize, _, says form.Optimize (optimize_front ++ name (codes "t") ∷ mark 59 ∷ []) _ refl, refl)

-- without a table it is no statement yet, and it may become one
optimize_open : (statement : Statement) → Writes statement optimize_front → ⊥
optimize_open = writes_none optimize_front refl

optimize_viable : Viable optimize_front
optimize_viable = begins form.Optimize optimize_front refl

-- OPTIMIZE t ..
no_table_without_its_word : Viable (name (codes "optimize") ∷ name (codes "t") ∷ []) → ⊥
no_table_without_its_word = begins_none (name (codes "optimize") ∷ name (codes "t") ∷ []) refl

-- SELECT * FROM s.v

abbrev list_front : List Token
list_front = name (codes "SELECT") ∷ mark 42 ∷ name (codes "from") ∷ name (codes "s") ∷ mark 46 ∷ []

list_row : Writes (ListView (codes "s") (codes "V")) (list_front ++ name (codes "V") ∷ [])
list_row = (form.List, _, says form.List (list_front ++ name (codes "V") ∷ []) _ refl, refl)

list_closed : Writes (ListView (codes "s") (codes "V")) (list_front ++ name (codes "V") ∷ mark 59 ∷ [])
list_closed = (form.List, _, says form.List (list_front ++ name (codes "V") ∷ mark 59 ∷ []) _ refl, refl)

list_open : (statement : Statement) → Writes statement list_front → ⊥
list_open = writes_none list_front refl

-- SELECT * FTS_DOC_ID ..
no_column_behind : Viable (name (codes "select") ∷ mark 42 ∷ name (codes "fts_doc_id") ∷ []) → ⊥
no_column_behind = begins_none (name (codes "select") ∷ mark 42 ∷ name (codes "fts_doc_id") ∷ []) refl

-- UPDATE t SET a = 'x', b = 'y' WHERE id = 7

abbrev update_front : List Token
update_front =
    name (codes "UPDATE") ∷ name (codes "t") ∷ name (codes "set") ∷ name (codes "a") ∷ mark 61 ∷ string (codes "x") ∷ mark 44 ∷ name (codes "b") ∷ mark 61
    ∷ string (codes "y") ∷ name (codes "WHERE") ∷ name (codes "Id") ∷ mark 61 ∷ []

update_row : Writes (Update (codes "t") (codes "a" ∷ codes "b" ∷ []) (codes "x" ∷ codes "y" ∷ []) 7) (update_front ++ number 7 ∷ [])
update_row = (form.Update, _, says form.Update (update_front ++ number 7 ∷ []) _ refl, refl)

update_closed : Writes (Update (codes "t") (codes "a" ∷ codes "b" ∷ []) (codes "x" ∷ codes "y" ∷ []) 7) (update_front ++ number 7 ∷ mark 59 ∷ [])
update_closed = (form.Update, _, says form.Update (update_front ++ number 7 ∷ mark 59 ∷ []) _ refl, refl)

update_open : Viable update_front
update_open = begins form.Update update_front refl

-- UPDATE t SET a = 7 ..
no_number_is_set : Viable (name (codes "update") ∷ name (codes "t") ∷ name (codes "set") ∷ name (codes "a") ∷ mark 61 ∷ number 7 ∷ []) → ⊥
no_number_is_set = begins_none (name (codes "update") ∷ name (codes "t") ∷ name (codes "set") ∷ name (codes "a") ∷ mark 61 ∷ number 7 ∷ []) refl

-- DELETE FROM t WHERE id = 7

delete_row : Writes (Delete (codes "t") 7)
    (name (codes "delete") ∷ name (codes "FROM") ∷ name (codes "t") ∷ name (codes "where") ∷ name (codes "ID") ∷ mark 61 ∷ number 7 ∷ [])
delete_row =
    (form.Delete, _, says form.Delete (name (codes "delete") ∷ name (codes "FROM") ∷ name (codes "t") ∷ name (codes "where") ∷ name (codes "ID") ∷ mark 61 ∷ number 7 ∷ []) _ refl, refl)

delete_closed : Writes (Delete (codes "t") 7)
    (name (codes "delete") ∷ name (codes "FROM") ∷ name (codes "t") ∷ name (codes "where") ∷ name (codes "ID") ∷ mark 61 ∷ number 7 ∷ mark 59 ∷ [])
delete_closed = (
  form.Delete,
  _,
  says form.Delete (name (codes "delete") ∷ name (codes "FROM") ∷ name (codes "t") ∷ name (codes "where") ∷ name (codes "ID") ∷ mark 61 ∷ number 7 ∷ mark 59 ∷ []) _ refl,
  refl,
)

-- BEGIN, START TRANSACTION, COMMIT, ROLLBACK

begin_row : Writes Begin (name (codes "Begin") ∷ [])
begin_row = (form.Begin, _, says form.Begin (name (codes "Begin") ∷ []) _ refl, refl)

start_row : Writes Begin (name (codes "start") ∷ name (codes "TRANSACTION") ∷ mark 59 ∷ [])
start_row = (form.Start, _, says form.Start (name (codes "start") ∷ name (codes "TRANSACTION") ∷ mark 59 ∷ []) _ refl, refl)

start_open : (statement : Statement) → Writes statement (name (codes "START") ∷ []) → ⊥
start_open = writes_none (name (codes "START") ∷ []) refl

commit_row : Writes Commit (name (codes "COMMIT") ∷ mark 59 ∷ [])
commit_row = (form.Commit, _, says form.Commit (name (codes "COMMIT") ∷ mark 59 ∷ []) _ refl, refl)

rollback_row : Writes Rollback (name (codes "rollback") ∷ [])
rollback_row = (form.Rollback, _, says form.Rollback (name (codes "rollback") ∷ []) _ refl, refl)

-- BEGIN TRANSACTION
no_begin_of_a_transaction : Viable (name (codes "begin") ∷ name (codes "transaction") ∷ []) → ⊥
no_begin_of_a_transaction = begins_none (name (codes "begin") ∷ name (codes "transaction") ∷ []) refl

-- 7: ..

numbered_row : Writes Begin (number 7 ∷ mark 58 ∷ name (codes "BEGIN") ∷ [])
numbered_row = (form.Begin, _, says form.Begin (number 7 ∷ mark 58 ∷ name (codes "BEGIN") ∷ []) _ refl, refl)

-- the key is the statement's number, not the session's
numbered_delete : Writes (Delete (codes "t") 9)
    (number 7 ∷ mark 58 ∷ name (codes "delete") ∷ name (codes "from") ∷ name (codes "t") ∷ name (codes "where") ∷ name (codes "id") ∷ mark 61 ∷ number 9 ∷ [])
numbered_delete = (
  form.Delete,
  _,
  says form.Delete (number 7 ∷ mark 58 ∷ name (codes "delete") ∷ name (codes "from") ∷ name (codes "t") ∷ name (codes "where") ∷ name (codes "id") ∷ mark 61 ∷ number 9 ∷ []) _ refl,
  refl,
)

least_number : Viable (number 1 ∷ mark 58 ∷ [])
least_number = begins form.Sync (number 1 ∷ mark 58 ∷ []) refl

largest_number : Viable (number 65535 ∷ mark 58 ∷ [])
largest_number = begins form.Sync (number 65535 ∷ mark 58 ∷ []) refl

no_number_above : Viable (number 65536 ∷ []) → ⊥
no_number_above = begins_none (number 65536 ∷ []) refl

no_number_zero : Viable (number 0 ∷ []) → ⊥
no_number_zero = begins_none (number 0 ∷ []) refl

-- 7 BEGIN, 7: alone, 7: 8: ..
no_number_without_its_mark : Viable (number 7 ∷ name (codes "BEGIN") ∷ []) → ⊥
no_number_without_its_mark = begins_none (number 7 ∷ name (codes "BEGIN") ∷ []) refl

number_alone : (statement : Statement) → Writes statement (number 7 ∷ mark 58 ∷ []) → ⊥
number_alone = writes_none (number 7 ∷ mark 58 ∷ []) refl

no_two_numbers : Viable (number 7 ∷ mark 58 ∷ number 8 ∷ []) → ⊥
no_two_numbers = begins_none (number 7 ∷ mark 58 ∷ number 8 ∷ []) refl

-- the sessions of some lines

session_of_a_number : IsSession (codes "\t7 : x") (Some 7)
session_of_a_number = (numbered_no_blank (codes "\t7 : x") 7 is, inl is)
  where
    is : IsNumbered (codes "\t7 : x") 7
    is = record {
      before = codes "\t";
      digits = codes "7";
      between = codes " ";
      rest = codes " x";
      cut = refl;
      blank_before = refl;
      blank_between = refl;
      spelled = (omega arith, refl, refl, omega arith);
      is = refl;
    }

session_of_a_comment : IsSession (codes " -- 7:") None
session_of_a_comment = inr (codes " ", codes " 7:", refl, refl)

session_without_a_mark : IsSession (codes "7 B") (Some 1)
session_without_a_mark = (
  not_blank (codes "7 B") [] (codes "7 B") (record { cut = refl; passes = refl; ends = refl }) (λ e. omega (arith, e)) refl,
  inr (
    refl,
    not_marked (codes "7 B") [] (codes "7 B") (codes "7") (codes " B") (codes " ") (codes "B") (record { cut = refl; passes = refl; ends = refl })
        (record { cut = refl; passes = refl; ends = refl }) (record { cut = refl; passes = refl; ends = refl })
        (λ after e. both_ways false refl (ap (begins_with (λ b. b == 58)) e)),
  ),
)

session_of_a_large_number : IsSession (codes "65536:B") (Some 1)
session_of_a_large_number = (
  not_blank (codes "65536:B") [] (codes "65536:B") (record { cut = refl; passes = refl; ends = refl }) (λ e. omega (arith, e)) refl,
  inr (
    refl,
    not_numbered (codes "65536:B") [] (codes "65536:B") (codes "65536") (codes ":B") [] (codes ":B") None (record { cut = refl; passes = refl; ends = refl })
        (record { cut = refl; passes = refl; ends = refl }) (record { cut = refl; passes = refl; ends = refl }) refl,
  ),
)
