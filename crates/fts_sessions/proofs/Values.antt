-- What a line asks to change can be committed.
use Rattle.std.proofs.Common.{◌≡◌, ℕ, zero, suc, ◌+◌, ◌<◌, ◌≤◌, ◌^◌, Bool, true, false, List, [], ◌∷◌, ◌++◌, refl, sym, ap, subst, ◌∙◌, length, arith, Some, None, inl, inr, cond}
use Rattle.std.proofs.lemmas.List.Elements.{All-nil, All-cons, All-head, All-tail}
use Rattle.std.proofs.lemmas.Bool.{and_parts, eqb-true}
use Rattle.std.specs.Prelude.{All, ◌&&◌, ◌==◌, codes, map, Option}
use Rattle.std.specs.Str.{str_eq_ignore_ascii_case}
use Rattle.std.proofs.lemmas.List.{length-map}
use Rattle.std.specs.List.{list_all}
use Rattle.fts_commits.specs.Fits.{IsText, IsNewText, FitsColumns, CanCommit, FitsId, FitsNumbers}
use Rattle.fts_commits.specs.declared.change.Change.{Change}
use Rattle.fts_commits.specs.declared.change.Change.TheVariants as change
use Rattle.fts_sql.specs.Token.{Token, name, number, string, mark, IsSpelling}
use Rattle.fts_sql.specs.Line.{Placed, placed, Ending, whole, Reads}
use Rattle.fts_sql.specs.Table.{taken_by, Are, Often, Part, Once, Optional, Repeated, Says}
use Rattle.fts_sql.specs.Statement.{values_in, strings_in, first_number, statement_of, tokens_in, IsStatement}
use Rattle.fts_sql.specs.Grammar.{table_of}
use Rattle.fts_sql.specs.declared.form.Form.{Form}
use Rattle.fts_sql.specs.declared.form.Form.TheVariants as form
use Rattle.fts_sql.specs.declared.piece.Piece.{Piece}
use Rattle.fts_sql.specs.declared.piece.Piece.TheVariants.{Keyword, Mark, Name, Number as NumberPiece, String, Value as ValuePiece, Session}
use Rattle.fts_sql.specs.declared.statement.Statement.{Statement}
use Rattle.fts_sql.specs.declared.value.Value.{Value}
use Rattle.fts_sql.specs.declared.value.Value.TheVariants.{Number, Text}
use Rattle.fts_sql.specs.declared.statement.Statement.TheVariants.{Begin, Commit, Rollback, Insert, Update, Delete, Match, Sync, Optimize, List as ListView}
use Rattle.fts_sessions.specs.Table.{is_text, texts_in, insert_of, plain_insert, numbered_insert, named_insert, are_set_once, text_for, update_of, change_of, are_names}
use Rattle.fts_sessions.specs.Texts.{IsFit, AreFit, IsFitStatement}

-- a token that was read: a number has eight bytes, and a text the bytes of texts
abbrev IsPrintable : Token → Type 0
IsPrintable (string text) = IsText text
IsPrintable (name written) = Unit {0}
IsPrintable (number n) = n < 2 ^ 64
IsPrintable (mark b) = Unit {0}

spelled_printable : (one : Token) (bytes : List ℕ) → IsSpelling one bytes → IsPrintable one
spelled_printable (string text) bytes is = is.1
spelled_printable (name written) bytes is = tt
spelled_printable (number n) bytes is = is.3
spelled_printable (mark b) bytes is = tt

abbrev ArePrintable : List Token → Type 0
ArePrintable [] = Unit {0}
ArePrintable (one ∷ more) = IsPrintable one × ArePrintable more

-- the tokens of a line are
read_printable : (place : ℕ) (bytes : List ℕ) (tokens : List Placed) (ending : Ending) → Reads place bytes tokens ending → ArePrintable (tokens_in tokens)
read_printable place bytes [] ending reads = tt
read_printable place bytes (placed at one ∷ more) ending (blanks, piece, spelling, rest, cut, blank, is, here, reads) =
    (spelled_printable one spelling is.spelled, read_printable (place + length blanks + length spelling) rest more ending reads)

printable_more : (tokens : List Token) (one : Token) → ArePrintable tokens → IsPrintable one → ArePrintable (tokens ++ one ∷ [])
printable_more [] one are is = (is, tt)
printable_more (first ∷ tokens) one are is = (are.0, printable_more tokens one are.1 is)

-- what is taken of tokens that were read was read too

taken_printable : (piece : Piece) (one : Token) (taken : List Token) → IsPrintable one → ArePrintable taken → ArePrintable (taken_by piece one taken)
taken_printable (Keyword word) one taken is are = are
taken_printable (Mark b) one taken is are = are
taken_printable Name one taken is are = printable_more taken one are is
taken_printable Session one taken is are = are
taken_printable NumberPiece one taken is are = printable_more taken one are is
taken_printable String one taken is are = printable_more taken one are is
taken_printable ValuePiece one taken is are = printable_more taken one are is

-- tokens of which all is printable lead to a list of which all is
abbrev Keeps : (List Token → List Token → Type 0) → List Token → Type 0
Keeps R all = (tokens taken : List Token) → ArePrintable tokens → ArePrintable taken → R tokens taken → ArePrintable all

are_keep : (pieces : List Piece) (R : List Token → List Token → Type 0) (all : List Token) → Keeps R all → Keeps (Are pieces R) all
are_keep [] R all keeps = keeps
are_keep (piece ∷ pieces) R all keeps = λ tokens taken printable before (first, more, cut, is, rest).
    let parts = subst ArePrintable cut printable in
    are_keep pieces R all keeps more (taken_by piece first taken) parts.1 (taken_printable piece first taken parts.0 before) rest

often_keep : (n : ℕ) (pieces : List Piece) (R : List Token → List Token → Type 0) (all : List Token) → Keeps R all → Keeps (Often n pieces R) all
often_keep zero pieces R all keeps = keeps
often_keep (suc n) pieces R all keeps = are_keep pieces (Often n pieces R) all (often_keep n pieces R all keeps)

says_keep : (parts : List Part) (all : List Token) → Keeps (Says parts all) all
says_keep [] all = λ tokens taken printable before (none, same). subst ArePrintable same before
says_keep (Once piece ∷ parts) all = are_keep (piece ∷ []) (Says parts all) all (says_keep parts all)
says_keep (Optional pieces ∷ parts) all = λ tokens taken printable before says.
    elim says [
      | inl one ↦ are_keep pieces (Says parts all) all (says_keep parts all) tokens taken printable before one
      | inr other ↦ says_keep parts all tokens taken printable before other
    ]
says_keep (Repeated pieces ∷ parts) all = λ tokens taken printable before (n, says).
    often_keep n pieces (Says parts all) all (says_keep parts all) tokens taken printable before says

taken_fit : (taken : List Token) → ArePrintable taken → AreFit (values_in taken)
taken_fit [] are = λ k d less. absurd (omega arith)
taken_fit (name written ∷ taken) are = taken_fit taken are.1
taken_fit (number n ∷ taken) are = All-cons IsFit (Number n) (values_in taken) are.0 (taken_fit taken are.1)
taken_fit (string text ∷ taken) are = All-cons IsFit (Text text) (values_in taken) are.0 (taken_fit taken are.1)
taken_fit (mark b ∷ taken) are = taken_fit taken are.1

strings_fit : (taken : List Token) → ArePrintable taken → All IsText (strings_in taken)
strings_fit [] are = All-nil IsText
strings_fit (name written ∷ taken) are = strings_fit taken are.1
strings_fit (number n ∷ taken) are = strings_fit taken are.1
strings_fit (string text ∷ taken) are = All-cons IsText text (strings_in taken) are.0 (strings_fit taken are.1)
strings_fit (mark b ∷ taken) are = strings_fit taken are.1

number_fits : (taken : List Token) → ArePrintable taken → first_number taken < 2 ^ 64
number_fits [] are = omega arith
number_fits (name written ∷ taken) are = number_fits taken are.1
number_fits (number n ∷ taken) are = are.0
number_fits (string text ∷ taken) are = number_fits taken are.1
number_fits (mark b ∷ taken) are = number_fits taken are.1

written_fit : (one : Form) (taken : List Token) → ArePrintable taken → IsFitStatement (statement_of one taken)
written_fit form.Begin taken are = tt
written_fit form.Start taken are = tt
written_fit form.Commit taken are = tt
written_fit form.Rollback taken are = tt
written_fit form.Insert taken are = taken_fit taken are
written_fit form.Update taken are = (strings_fit taken are, number_fits taken are)
written_fit form.Delete taken are = number_fits taken are
written_fit form.Match taken are = tt
written_fit form.Sync taken are = tt
written_fit form.Optimize taken are = tt
written_fit form.List taken are = tt

-- the numbers of a line's statement have eight bytes, and its texts the bytes of texts
pub line_fit : (line : List ℕ) (statement : Statement) → IsStatement line statement → IsFitStatement statement
line_fit line statement (tokens, end, reads, (one, taken, says, same)) =
    let printable = read_printable 1 line tokens (whole end) reads in
    subst IsFitStatement (sym same) (written_fit one taken (says_keep (table_of one) taken (tokens_in tokens) [] printable tt says))

-- ---- a change that fits a table can be committed

module _ (columns : ℕ) (some : 1 ≤ columns) (few : columns ≤ 8) where
  one_can : (made : Change) → FitsColumns columns made → FitsNumbers made → CanCommit columns (made ∷ [])
  one_can made fits numbers = record {
    some = some;
    few = few;
    made = record {
      some = omega arith;
      few = omega arith;
      fit = All-cons (FitsColumns columns) made [] fits (All-nil (FitsColumns columns));
    };
    numbers = All-cons FitsNumbers made [] numbers (All-nil FitsNumbers);
  }

  texts_fit : (values : List Value) → AreFit values → list_all is_text values ≡ true → All IsText (texts_in values)
  texts_fit [] fit texts = All-nil IsText
  texts_fit (Number n ∷ values) fit texts = absurd cc
  texts_fit (Text text ∷ values) fit texts =
      All-cons IsText text (texts_in values) (All-head IsFit (Text text) values fit) (texts_fit values (All-tail IsFit (Text text) values fit) texts)

  texts_count : (values : List Value) → list_all is_text values ≡ true → length (texts_in values) ≡ length values
  texts_count [] texts = refl
  texts_count (Number n ∷ values) texts = absurd cc
  texts_count (Text text ∷ values) texts = ap suc (texts_count values texts)

  row_can : (key : ℕ) (doc : Option ℕ) (values : List Value) (made : Change) (row : Bool) → ((length values == columns) && list_all is_text values) ≡ row
      → key < 2 ^ 64 → FitsId doc → AreFit values → Some made ≡ insert_of columns key doc values → CanCommit columns (made ∷ [])
  row_can key doc values made false is low id fit found = absurd (let no = (rw is at found) in cc)
  row_can key doc values made true is low id fit found =
      let same : made ≡ change.Insert key doc (texts_in values) = (let e = (rw is at found) in cc) in
      let count : length values ≡ columns = eqb-true (length values) columns (and_parts _ _ is).0 in
      subst (λ (c : Change). CanCommit columns (c ∷ [])) (sym same)
      (one_can (change.Insert key doc (texts_in values)) (texts_count values (and_parts _ _ is).1 ∙ count, texts_fit values fit (and_parts _ _ is).1) (low, id))

  insert_can : (key : ℕ) (doc : Option ℕ) (values : List Value) (made : Change) → key < 2 ^ 64 → FitsId doc → AreFit values → Some made ≡ insert_of columns key doc values
      → CanCommit columns (made ∷ [])
  insert_can key doc values made low id fit found = row_can key doc values made ((length values == columns) && list_all is_text values) refl low id fit found

  plain_can : (values : List Value) (made : Change) → AreFit values → Some made ≡ plain_insert columns values → CanCommit columns (made ∷ [])
  plain_can [] made fit found = absurd cc
  plain_can (Text text ∷ values) made fit found = absurd cc
  plain_can (Number key ∷ values) made fit found = insert_can key None values made (All-head IsFit (Number key) values fit) tt (All-tail IsFit (Number key) values fit) found

  numbered_can : (values : List Value) (made : Change) → AreFit values → Some made ≡ numbered_insert columns values → CanCommit columns (made ∷ [])
  numbered_can [] made fit found = absurd cc
  numbered_can (Text text ∷ values) made fit found = absurd cc
  numbered_can (Number key ∷ []) made fit found = absurd cc
  numbered_can (Number key ∷ Text text ∷ values) made fit found = absurd cc
  numbered_can (Number key ∷ Number doc ∷ values) made fit found =
      let rest = All-tail IsFit (Number key) (Number doc ∷ values) fit in
      insert_can key (Some doc) values made (All-head IsFit (Number key) (Number doc ∷ values) fit) (All-head IsFit (Number doc) values rest) (All-tail IsFit (Number doc) values rest) found

chosen_fits : (same : Bool) (text : List ℕ) (later : Option (List ℕ)) → IsText text → IsNewText later → IsNewText (cond same (Some text) later)
chosen_fits true text later fit fits = fit
chosen_fits false text later fit fits = fits

text_fits : (column : List ℕ) (names texts : List (List ℕ)) → All IsText texts → IsNewText (text_for column names texts)
text_fits column [] texts fit = tt
text_fits column (first ∷ names) [] fit = tt
text_fits column (first ∷ names) (text ∷ texts) fit =
    chosen_fits (str_eq_ignore_ascii_case first column) text (text_for column names texts) (All-head IsText text texts fit)
    (text_fits column names texts (All-tail IsText text texts fit))

news_fit : (columns names texts : List (List ℕ)) → All IsText texts → All IsNewText (map (λ column. text_for column names texts) columns)
news_fit [] names texts fit = All-nil IsNewText
news_fit (column ∷ columns) names texts fit =
    All-cons IsNewText (text_for column names texts) (map (λ c. text_for c names texts) columns) (text_fits column names texts fit) (news_fit columns names texts fit)

module _ (columns : List (List ℕ)) (some : 1 ≤ length columns) (few : length columns ≤ 8) where
  named_can : (names : List (List ℕ)) (values : List Value) (made : Change) (plain numbered : Bool) → are_names (codes "id" ∷ columns) names ≡ plain
      → are_names (codes "id" ∷ codes "fts_doc_id" ∷ columns) names ≡ numbered → AreFit values → Some made ≡ named_insert columns names values → CanCommit (length columns) (made ∷ [])
  named_can names values made true numbered is is' fit found = plain_can (length columns) some few values made fit (rw is at found)
  named_can names values made false true is is' fit found = numbered_can (length columns) some few values made fit (rw (is, is') at found)
  named_can names values made false false is is' fit found = absurd (let no = (rw (is, is') at found) in cc)

  update_can : (names texts : List (List ℕ)) (key : ℕ) (made : Change) (once : Bool) → are_set_once columns names ≡ once → All IsText texts → key < 2 ^ 64
      → Some made ≡ update_of columns names texts key → CanCommit (length columns) (made ∷ [])
  update_can names texts key made false is fit low found = absurd (let no = (rw is at found) in cc)
  update_can names texts key made true is fit low found =
      let news = map (λ column. text_for column names texts) columns in
      let same : made ≡ change.Update key news = (let e = (rw is at found) in cc) in
      subst (λ (c : Change). CanCommit (length columns) (c ∷ [])) (sym same)
      (one_can (length columns) some few (change.Update key news) (length-map columns (λ column. text_for column names texts), news_fit columns names texts fit) low)

  -- the change of a statement that fits the table can be committed
  pub change_can : (statement : Statement) (made : Change) → IsFitStatement statement → Some made ≡ change_of columns statement → CanCommit (length columns) (made ∷ [])
  change_can (Insert table names values) made fit found =
      named_can names values made (are_names (codes "id" ∷ columns) names) (are_names (codes "id" ∷ codes "fts_doc_id" ∷ columns) names) refl refl fit found
  change_can (Update table names texts key) made fit found = update_can names texts key made (are_set_once columns names) refl fit.0 fit.1 found
  change_can (Delete table key) made fit found =
      let same : made ≡ change.Delete key = (let e = found in cc) in
      subst (λ (c : Change). CanCommit (length columns) (c ∷ [])) (sym same) (one_can (length columns) some few (change.Delete key) tt fit)
  change_can Begin made fit found = absurd cc
  change_can Commit made fit found = absurd cc
  change_can Rollback made fit found = absurd cc
  change_can (Match table names query) made fit found = absurd cc
  change_can Sync made fit found = absurd cc
  change_can (Optimize table) made fit found = absurd cc
  change_can (ListView schema view) made fit found = absurd cc
