use Rattle.std.specs.Prelude.{◌≡◌, ℕ, ◌+◌, Bool, true, false, ◌&&◌, if◌then◌else◌, nat_lt, codes, List, [], ◌∷◌, ◌++◌}
use Rattle.std.specs.Prelude.{length, filter, Option, Some, None, Result, Ok, Err}
use Rattle.std.specs.Str.{str_eq_ignore_ascii_case}
use Rattle.fts_types.specs.declared.settings.Settings.{Settings}
use Rattle.fts_commits.specs.declared.change.Change.{Change}
use Rattle.fts_sql.specs.declared.statement.Statement.{Statement}
use Rattle.fts_schema.specs.declared.reply.Reply.{Reply}
use Rattle.fts_schema.specs.declared.reply.Reply.TheVariants.{Committed, Found, Refused, NoSuchTable, NoSuchColumn}
use Rattle.fts_schema.specs.declared.reply.Reply.TheVariants.{Begun, CommittedAndBegun, Buffered, NothingToCommit}
use Rattle.fts_schema.specs.declared.reply.Reply.TheVariants.{RolledBack, TooManyChanges}
use Rattle.fts_schema.specs.declared.reply.Reply.TheVariants.{WrongColumns, LogFull, Nothing, Syntax, QuerySyntax}
use Rattle.fts_schema.specs.declared.reply.Reply.TheVariants.{QueryTooLong, QueryTooDeep, LineTooLong, DiskFault}
use Rattle.fts_schema.specs.declared.reply.Reply.TheVariants.{NoMemory, Stopped, Synced, Listed}
use Rattle.fts_schema.specs.declared.reply.Reply.TheVariants.{NothingToOptimize, Optimized}
use Rattle.fts_listing.specs.declared.kind.ListingKind.{ListingKind}
use Rattle.fts_steps.specs.declared.optimize.OptimizeStep.{OptimizeStep}
use Rattle.fts_steps.specs.declared.optimize.OptimizeStep.TheVariants as did
use Rattle.fts_steps.specs.Step.{Ask, to_commit, to_find, to_sync, to_optimize, to_list, Answer, committed, refused}
use Rattle.fts_steps.specs.Step.{full, flushed, all_flushed, passed, viewed, found, listed, measured, disk_fault}
use Rattle.fts_steps.specs.Step.{stopped, no_memory, Call}
use Rattle.fts_sessions.specs.Query.{Search, looks_for, too_long, syntax_at, too_deep_at}
use Rattle.fts_sessions.specs.Request.{Request, opens, closes, rolls_back, changes, searches, syncs, optimizes}
use Rattle.fts_sessions.specs.Request.{lists, blank, unknown, unread}
use Rattle.fts_sessions.specs.Transaction.{Transaction, changes_in, behind_begin, behind_commit, behind_change}
use Rattle.fts_sessions.specs.View.{view_of_schema}
use Rattle.fts_sessions.specs.Table.{first_unknown, are_names, table_named, columns_named, change_of}

-- what comes next in a request: one more step, or its end with a reply
pub data Next : Type 0 where
  asks : Ask → Next
  ends : Reply → Next

-- the reply that tells an answer; a view and a size are told to nobody, since no request asks for one, and a step of
-- OPTIMIZE only with all its others
abbrev pub reply_to : Answer → Reply
reply_to (committed number) = Committed number
reply_to (refused why) = Refused why
reply_to (full end) = LogFull end
reply_to (flushed through commits) = Synced through
reply_to (all_flushed commits) = Synced commits
reply_to (passed step) = Nothing
reply_to (viewed view) = Nothing
reply_to (found number docs) = Found number docs
reply_to (listed number listing) = Listed number listing
reply_to (measured size) = Nothing
reply_to (disk_fault faults) = DiskFault
reply_to (stopped faults) = Stopped faults
reply_to no_memory = NoMemory

-- a search asks for the rows in which its terms hold, unless its query is refused
abbrev pub search_begins : Search → Next
search_begins (looks_for terms) = asks (to_find terms)
search_begins (too_long n) = ends (QueryTooLong n)
search_begins (syntax_at at) = ends (QuerySyntax at)
search_begins (too_deep_at at) = ends (QueryTooDeep at)

-- a table that isn't `docs` is refused first, and then the first name that no column has
abbrev pub unknown_column : Option (List ℕ) → Option Reply
unknown_column None = None
unknown_column (Some name) = Some (NoSuchColumn name)

abbrev pub unknown_name : List (List ℕ) → List ℕ → List (List ℕ) → Option Reply
unknown_name columns table names =
    if str_eq_ignore_ascii_case table (codes "docs") then unknown_column (first_unknown columns names)
    else Some (NoSuchTable table)

-- what follows where all names are known
abbrev pub unless_unknown : Option Reply → Next → Next
unless_unknown None follows = follows
unless_unknown (Some reply) follows = ends reply

-- the change that a statement asks for, or its refusal: that of a name first, and then that its values do not fit
abbrev pub fitting : Option Change → Result Change Reply
fitting None = Err WrongColumns
fitting (Some change) = Ok change

abbrev pub known_change : Option Reply → Option Change → Result Change Reply
known_change None change = fitting change
known_change (Some reply) change = Err reply

abbrev pub asked_change : List (List ℕ) → Statement → Result Change Reply
asked_change columns statement = known_change
    (unknown_name columns (table_named statement) (columns_named statement)) (change_of columns statement)

-- what tells a change that comes behind so many of a transaction: how many there are now, unless these are too many
abbrev pub buffered_behind : ℕ → Reply
buffered_behind count = if nat_lt count 1000 then Buffered (count + 1) else TooManyChanges (count + 1)

-- a change of rows asks for its commit, or waits for that of the transaction that is open
abbrev pub change_begins : Transaction → Result Change Reply → Next
change_begins transaction (Err reply) = ends reply
change_begins None (Ok change) = asks (to_commit (change ∷ []))
change_begins (Some all) (Ok change) = ends (buffered_behind (length all))

-- the changes of a transaction ask for their commit, all of them together; where there are none, this is told
abbrev pub commit_begins : Reply → List Change → Next
commit_begins told [] = ends told
commit_begins told (change ∷ more) = asks (to_commit (change ∷ more))

-- what follows where a search names all text columns
abbrev pub if_all_named : Bool → Next → Next
if_all_named false follows = ends WrongColumns
if_all_named true follows = follows

-- what a search of these columns begins with, by what follows where the names fit
abbrev pub match_begins : Settings → List ℕ → List (List ℕ) → Next → Next
match_begins settings table names follows =
    unless_unknown (unknown_name settings.columns table names)
    (if_all_named (are_names settings.columns names) follows)

-- a listing asks for what the view has, unless there is no such view
abbrev pub list_begins : List ℕ → List ℕ → Option ListingKind → Next
list_begins schema view None = ends (NoSuchTable (schema ++ codes "." ++ view))
list_begins schema view (Some kind) = asks (to_list kind)

-- what a request begins with: its first step, or its end
abbrev pub begins : Settings → Transaction → Request → Next
begins settings transaction opens = commit_begins Begun (changes_in transaction)
begins settings transaction closes = commit_begins NothingToCommit (changes_in transaction)
begins settings transaction rolls_back = ends (RolledBack (length (changes_in transaction)))
begins settings transaction (changes statement) =
    change_begins transaction (asked_change settings.columns statement)
begins settings transaction (searches table names search) = match_begins settings table names (search_begins search)
begins settings transaction syncs = asks to_sync
begins settings transaction (optimizes table) =
    unless_unknown (unknown_name settings.columns table []) (asks to_optimize)
begins settings transaction (lists schema view) = list_begins schema view (view_of_schema schema view)
begins settings transaction blank = ends Nothing
begins settings transaction (unknown at) = ends (Syntax at)
begins settings transaction unread = ends LineTooLong

-- what tells a BEGIN the answer to the commit that it made
abbrev pub begun_by : Answer → Reply
begun_by (committed number) = CommittedAndBegun number
begun_by answer = reply_to answer

-- up to which commit a SYNC flushes, by the answer to its first batch: through as many as there were
abbrev pub target_of : Answer → ℕ
target_of (flushed through commits) = commits
target_of other = 0

-- the last of some answers, and this one where there are none
abbrev pub last_answer : Answer → List Answer → Answer
last_answer answer [] = answer
last_answer answer (later ∷ answers) = last_answer later answers

-- what comes next in a SYNC up to this target, where the last of so many answers is this: one more batch until the
-- target is flushed, but not more batches than it has commits, since each flushes at least one
abbrev pub sync_next : ℕ → ℕ → Answer → Next
sync_next target count (flushed through commits) =
    if nat_lt through target && nat_lt count target then asks to_sync else ends (Synced through)
sync_next target count answer = ends (reply_to answer)

-- whether a pass is open behind a step of OPTIMIZE
abbrev pub leaves_open : OptimizeStep → Bool
leaves_open did.Began = true
leaves_open did.Word = true
leaves_open did.Finished = false
leaves_open did.Nothing = false

-- whether a step worked on a word, and how many did
abbrev pub is_word : Answer → Bool
is_word (passed did.Word) = true
is_word other = false

abbrev pub words_in : List Answer → ℕ
words_in answers = length (filter is_word answers)

-- what tells an OPTIMIZE of so many steps, so many of them words, the last of which did this
abbrev pub optimized : ℕ → ℕ → OptimizeStep → Reply
optimized count words did.Began = Optimized words false
optimized count words did.Word = Optimized words false
optimized count words did.Finished = Optimized words true
optimized count words did.Nothing = if nat_lt 1 count then Optimized words true else NothingToOptimize

-- what comes next in an OPTIMIZE of at most so many words, where so many steps were made, so many of them words, and
-- the last answered this: one more, while a pass is open and fewer words were made, up to two steps more than those
abbrev pub optimize_next : ℕ → ℕ → ℕ → Answer → Next
optimize_next most count words (passed step) =
    if (leaves_open step && nat_lt words most) && nat_lt count (most + 2)
    then asks to_optimize
    else ends (optimized count words step)
optimize_next most count words answer = ends (reply_to answer)

-- what comes next, after the answers so far: but for a SYNC and an OPTIMIZE the first answer is told
abbrev pub next : Settings → Transaction → Request → List Answer → Next
next settings transaction request [] = begins settings transaction request
next settings transaction opens (answer ∷ answers) = ends (begun_by answer)
next settings transaction syncs (answer ∷ answers) =
    sync_next (target_of answer) (length (answer ∷ answers)) (last_answer answer answers)
next settings transaction (optimizes table) (answer ∷ answers) =
    optimize_next settings.optimize_words (length (answer ∷ answers)) (words_in (answer ∷ answers))
    (last_answer answer answers)
next settings transaction request (answer ∷ answers) = ends (reply_to answer)

-- behind these answers the request makes these steps, and then ends with this reply
abbrev pub Converses : Settings → Transaction → Request → List Answer → List Call → Reply → Type 0
Converses settings transaction request answers [] reply = next settings transaction request answers ≡ ends reply
Converses settings transaction request answers (call ∷ calls) reply =
    (next settings transaction request answers ≡ asks call.ask)
    × Converses settings transaction request (answers ++ call.answer ∷ []) calls reply

-- what is open behind a request, by its reply: only BEGIN, COMMIT, ROLLBACK and a change that is buffered leave
-- something else than what was open
abbrev pub behind : Settings → Transaction → Request → Reply → Transaction
behind settings transaction opens reply = behind_begin transaction reply
behind settings transaction closes reply = behind_commit transaction reply
behind settings transaction rolls_back reply = None
behind settings transaction (changes statement) reply =
    behind_change transaction (asked_change settings.columns statement) reply
behind settings transaction (searches table names search) reply = transaction
behind settings transaction syncs reply = transaction
behind settings transaction (optimizes table) reply = transaction
behind settings transaction (lists schema view) reply = transaction
behind settings transaction blank reply = transaction
behind settings transaction (unknown at) reply = transaction
behind settings transaction unread reply = transaction
