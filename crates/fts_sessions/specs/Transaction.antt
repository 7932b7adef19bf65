-- The transaction that is open in a session, and what is left of it behind a reply.
use Rattle.std.specs.Prelude.{◌≡◌, ◌⊎◌, ℕ, List, [], ◌∷◌, ◌++◌, Option, Some, None, Result, Ok, Err}
use Rattle.fts_commits.specs.declared.change.Change.{Change}
use Rattle.fts_commits.specs.Fits.{CanCommit}
use Rattle.fts_schema.specs.declared.reply.Reply.{Reply}
use Rattle.fts_schema.specs.declared.reply.Reply.TheVariants.{Begun, CommittedAndBegun, Buffered, NoMemory}

-- the changes so far of the transaction that is open, first to last; or none is open
abbrev pub Transaction : Type 0
Transaction = Option (List Change)

-- its changes: none where none is open
abbrev pub changes_in : Transaction → List Change
changes_in None = []
changes_in (Some changes) = changes

-- what is open behind a BEGIN: a transaction without changes; or none where it was refused, but where memory ran out
-- for it, which leaves what was open
abbrev pub behind_begin : Transaction → Reply → Transaction
behind_begin transaction Begun = Some []
behind_begin transaction (CommittedAndBegun number) = Some []
behind_begin transaction NoMemory = transaction
behind_begin transaction reply = None

-- behind a COMMIT: none, but where memory ran out for it, which leaves what was open
abbrev pub behind_commit : Transaction → Reply → Transaction
behind_commit transaction NoMemory = transaction
behind_commit transaction reply = None

-- behind a change of rows: what was open, with the change where it is buffered
abbrev pub with_change : Transaction → Change → Reply → Transaction
with_change transaction change (Buffered count) = Some (changes_in transaction ++ change ∷ [])
with_change transaction change reply = transaction

abbrev pub behind_change : Transaction → Result Change Reply → Reply → Transaction
behind_change transaction (Err why) reply = transaction
behind_change transaction (Ok change) reply = with_change transaction change reply

-- what is open has no changes yet, or they can be committed to a table of so many columns
abbrev pub FitsTable : ℕ → Transaction → Type 0
FitsTable columns None = Unit {0}
FitsTable columns (Some changes) = (changes ≡ []) ⊎ CanCommit columns changes
