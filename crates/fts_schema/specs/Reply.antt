use Rattle.std.specs.Prelude.{Bool, true, false, ℕ, List, [], ◌∷◌, ◌++◌, codes, decimal}
use Rattle.fts_commits.specs.Refusal.{refusal_text}
use Rattle.fts_schema.specs.declared.reply.Reply.{Reply}
use Rattle.fts_schema.specs.declared.reply.Reply.TheVariants.{Committed, Found, Refused, NoSuchTable, NoSuchColumn}
use Rattle.fts_schema.specs.declared.reply.Reply.TheVariants.{WrongColumns, LogFull, Nothing, Syntax, QuerySyntax}
use Rattle.fts_schema.specs.declared.reply.Reply.TheVariants.{QueryTooLong, QueryTooDeep, LineTooLong, NoMemory}
use Rattle.fts_schema.specs.declared.reply.Reply.TheVariants.{DiskFault, Stopped, Synced, Listed}
use Rattle.fts_schema.specs.declared.reply.Reply.TheVariants.{NothingToOptimize, Optimized}
use Rattle.fts_schema.specs.declared.reply.Reply.TheVariants.{Begun, CommittedAndBegun, Buffered, NothingToCommit}
use Rattle.fts_schema.specs.declared.reply.Reply.TheVariants.{RolledBack, TooManyChanges}
use Rattle.fts_schema.specs.Listing.{listing_text}

-- each document id in decimal, a space before it
abbrev pub ids_text : List ℕ → List ℕ
ids_text [] = []
ids_text (id ∷ ids) = 32 ∷ (decimal id ++ ids_text ids)

-- the documents that a search found, or that there are none
abbrev pub docs_text : List ℕ → List ℕ
docs_text [] = codes " none"
docs_text (id ∷ ids) = ids_text (id ∷ ids)

-- what is said of a pass
abbrev pub pass_text : Bool → List ℕ
pass_text true = codes "finished"
pass_text false = codes "open"

-- the text of a reply, with its LF; that of a listing has a line for each row and two more, and a blank line or a
-- comment has none
abbrev pub text_of : Reply → List ℕ
text_of (Committed number) = codes "OK commit " ++ (decimal number ++ 10 ∷ [])
text_of Begun = codes "OK begin" ++ 10 ∷ []
text_of (CommittedAndBegun number) = codes "OK commit " ++ (decimal number ++ (codes " begin" ++ 10 ∷ []))
text_of (Buffered changes) = codes "OK buffered " ++ (decimal changes ++ 10 ∷ [])
text_of NothingToCommit = codes "OK nothing to commit" ++ 10 ∷ []
text_of (RolledBack changes) = codes "OK rollback " ++ (decimal changes ++ 10 ∷ [])
text_of (Found number docs) = codes "OK as of " ++ (decimal number ++ 58 ∷ (docs_text docs ++ 10 ∷ []))
text_of (Synced through) = codes "OK sync as of " ++ (decimal through ++ 10 ∷ [])
text_of NothingToOptimize = codes "OK optimize nothing" ++ 10 ∷ []
text_of (Optimized words finished) =
    codes "OK optimize " ++ (decimal words ++ (codes " words, pass " ++ (pass_text finished ++ 10 ∷ [])))
text_of (Listed number listing) = listing_text number listing
text_of (Refused refusal) = codes "ERROR " ++ (refusal_text refusal ++ 10 ∷ [])
text_of (TooManyChanges changes) = codes "ERROR too many changes " ++ (decimal changes ++ 10 ∷ [])
text_of (NoSuchTable name) = codes "ERROR no such table " ++ (name ++ 10 ∷ [])
text_of (NoSuchColumn name) = codes "ERROR no such column " ++ (name ++ 10 ∷ [])
text_of WrongColumns = codes "ERROR columns and values do not fit" ++ 10 ∷ []
text_of (LogFull end) = codes "ERROR log full at " ++ (decimal end ++ 10 ∷ [])
text_of Nothing = []
text_of (Syntax at) = codes "ERROR syntax at " ++ (decimal at ++ 10 ∷ [])
text_of (QuerySyntax at) = codes "ERROR query syntax at " ++ (decimal at ++ 10 ∷ [])
text_of (QueryTooLong size) = codes "ERROR query too long " ++ (decimal size ++ 10 ∷ [])
text_of (QueryTooDeep at) = codes "ERROR query too deep at " ++ (decimal at ++ 10 ∷ [])
text_of LineTooLong = codes "ERROR line too long" ++ 10 ∷ []
text_of NoMemory = codes "ERROR no memory" ++ 10 ∷ []
text_of DiskFault = codes "ERROR disk fault" ++ 10 ∷ []
text_of (Stopped faults) = codes "ERROR stopped after " ++ (decimal faults ++ (codes " disk faults" ++ 10 ∷ []))

-- whether the text is the same for each reply of this kind: it has no number and no name
abbrev pub is_fixed : Reply → Bool
is_fixed Nothing = true
is_fixed Begun = true
is_fixed NothingToCommit = true
is_fixed NothingToOptimize = true
is_fixed WrongColumns = true
is_fixed LineTooLong = true
is_fixed NoMemory = true
is_fixed DiskFault = true
is_fixed reply = false
