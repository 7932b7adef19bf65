use Rattle.std.specs.Prelude.{ℕ, List}
use Rattle.fts_io.specs.Text.{Line, whole, too_long}
use Rattle.fts_sql.specs.Line.{IsBlank}
use Rattle.fts_sql.specs.Statement.{IsStatement}
use Rattle.fts_sql.specs.Fault.{IsFaultAt}
use Rattle.fts_sql.specs.declared.statement.Statement.{Statement}
use Rattle.fts_sql.specs.declared.statement.Statement.TheVariants.{Begin, Commit, Rollback}
use Rattle.fts_sql.specs.declared.statement.Statement.TheVariants.{Match, Sync, Optimize, List as ListView}
use Rattle.fts_sessions.specs.Query.{Search, IsSearch}
use Rattle.fts_sessions.specs.Table.{IsChange}

-- what a line asks for: that a transaction begins; that the open one is committed; that it is rolled back; a change of
-- rows, as its statement says; a search of columns of a table, by what the text of its query asks for; that the index
-- is flushed; that a table is optimized; a listing of a view of a schema; nothing since it is blank; nothing that is a
-- statement, which shows at a place; or nothing that is read since the line is too long
pub data Request : Type 0 where
  opens : Request
  closes : Request
  rolls_back : Request
  changes : Statement → Request
  searches : List ℕ → List (List ℕ) → Search → Request
  syncs : Request
  optimizes : List ℕ → Request
  lists : List ℕ → List ℕ → Request
  blank : Request
  unknown : ℕ → Request
  unread : Request

-- which request a line is
abbrev pub IsRequest : Line → Request → Type 0
IsRequest (whole bytes) opens = IsStatement bytes Begin
IsRequest (whole bytes) closes = IsStatement bytes Commit
IsRequest (whole bytes) rolls_back = IsStatement bytes Rollback
IsRequest (whole bytes) (changes statement) = IsStatement bytes statement × IsChange statement
IsRequest (whole bytes) (searches table names search) =
    (query : List ℕ) × IsStatement bytes (Match table names query) × IsSearch query search
IsRequest (whole bytes) syncs = IsStatement bytes Sync
IsRequest (whole bytes) (optimizes table) = IsStatement bytes (Optimize table)
IsRequest (whole bytes) (lists schema view) = IsStatement bytes (ListView schema view)
IsRequest (whole bytes) blank = IsBlank bytes
IsRequest (whole bytes) (unknown at) = IsFaultAt bytes at
IsRequest (whole bytes) unread = ⊥
IsRequest too_long opens = ⊥
IsRequest too_long closes = ⊥
IsRequest too_long rolls_back = ⊥
IsRequest too_long (changes statement) = ⊥
IsRequest too_long (searches table names search) = ⊥
IsRequest too_long syncs = ⊥
IsRequest too_long (optimizes table) = ⊥
IsRequest too_long (lists schema view) = ⊥
IsRequest too_long blank = ⊥
IsRequest too_long (unknown at) = ⊥
IsRequest too_long unread = Unit {0}
