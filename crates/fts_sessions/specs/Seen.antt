-- What a session has seen of the commits, by its replies.
use Rattle.std.specs.Prelude.{ℕ, ◌<◌, ◌≤◌, max, List, [], ◌∷◌}
use Rattle.fts_schema.specs.declared.reply.Reply.{Reply}
use Rattle.fts_schema.specs.declared.reply.Reply.TheVariants.{Committed, CommittedAndBegun, Found, Listed, Synced}

-- how many commits a reply tells that there were, 0 where it tells none
abbrev pub number_told : Reply → ℕ
number_told (Committed number) = number
number_told (CommittedAndBegun number) = number
number_told (Found number docs) = number
number_told (Listed number listing) = number
number_told (Synced through) = through
number_told reply = 0

-- a reply behind others that told of so many commits at most: it tells of no fewer, and a commit of more
abbrev pub IsBehind : ℕ → Reply → Type 0
IsBehind seen (Committed number) = seen < number
IsBehind seen (CommittedAndBegun number) = seen < number
IsBehind seen (Found number docs) = seen ≤ number
IsBehind seen (Listed number listing) = seen ≤ number
IsBehind seen (Synced through) = seen ≤ through
IsBehind seen reply = Unit {0}

-- behind replies that told of so many commits at most, none of these tells of fewer than those before it, and a commit
-- of more
abbrev pub Rise : ℕ → List Reply → Type 0
Rise seen [] = Unit {0}
Rise seen (told ∷ replies) = IsBehind seen told × Rise (max seen (number_told told)) replies
