-- How the text of a query was read.
use Rattle.std.specs.Prelude.{◌≡◌, ℕ, List, Result, Ok, Err}
use Rattle.fts_query.specs.declared.query.Query.{Query}
use Rattle.fts_query.specs.View.{tree_of}
use Rattle.fts_schema.specs.declared.reply.Reply.{Reply}
use Rattle.fts_steps.specs.Step.{to_find}
use Rattle.fts_sessions.specs.Query.{Search, IsSearch}
use Rattle.fts_sessions.specs.Conversation.{Next, asks, ends, search_begins}

-- what follows: the query's search, or the reply that refuses it
abbrev pub next_of : Result Query Reply → Next
next_of (Ok query) = asks (to_find (tree_of query))
next_of (Err reply) = ends reply

-- the text was read as its search says
abbrev pub ReadsAs : List ℕ → Result Query Reply → Type 0
ReadsAs text read = (search : Search) × IsSearch text search × (search_begins search ≡ next_of read)
