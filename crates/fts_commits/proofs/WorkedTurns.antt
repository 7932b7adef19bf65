-- Small commits with who is born and who dies, worked out by hand: what the definitions compute.
use Rattle.std.proofs.Common.{◌≡◌, ℕ, List, [], ◌∷◌, Some, None, refl}
use Rattle.std.specs.Prelude.{codes}
use Rattle.fts_commits.specs.declared.change.Change.{Change}
use Rattle.fts_commits.specs.declared.change.Change.TheVariants.{Insert, Update, Delete}
use Rattle.fts_types.specs.Row.{Row}
use Rattle.fts_commits.specs.Commit.{Rows, no_rows, rows_after}
use Rattle.fts_commits.specs.Turn.{Turn, turn_between, turns_from, rows_by, deaths_of}

abbrev row : ℕ → ℕ → List ℕ → Row
row key doc text = record { key = key; doc = doc; texts = text ∷ [] }

abbrev turn : List Row → List ℕ → ℕ → Turn
turn births deaths largest = record { births = births; deaths = deaths; largest = largest }

-- two rows of one column
abbrev two : Rows
two = record { list = row 7 1 (codes "ant") ∷ row 8 2 (codes "bee") ∷ []; largest = 2 }

abbrev turn_of : List Change → Turn
turn_of commit = turn_between two (rows_after two commit)

abbrev insert : ℕ → List ℕ → Change
insert key text = Insert key None (text ∷ [])

abbrev update : ℕ → List ℕ → Change
update key text = Update key (Some text ∷ [])

-- INSERTs bear their rows, and nobody dies
inserts_bear : turn_of (insert 5 (codes "cat") ∷ insert 6 (codes "dog") ∷ []) ≡ turn (row 5 3 (codes "cat") ∷ row 6 4 (codes "dog") ∷ []) [] 4
inserts_bear = refl

-- INSERT and DELETE of one key in one commit: neither born nor dead, but the id is used
given_and_taken : turn_of (insert 5 (codes "cat") ∷ Delete 5 ∷ []) ≡ turn [] [] 3
given_and_taken = refl

-- the other way round a row dies, and one with its key is born
taken_and_given : turn_of (Delete 7 ∷ insert 7 (codes "cat") ∷ []) ≡ turn (row 7 3 (codes "cat") ∷ []) (1 ∷ []) 3
taken_and_given = refl

-- UPDATE twice: the row that is in between is neither born nor dead
updated_twice : turn_of (update 7 (codes "cat") ∷ update 7 (codes "dog") ∷ []) ≡ turn (row 7 4 (codes "dog") ∷ []) (1 ∷ []) 4
updated_twice = refl

-- an UPDATE with the text that was there: a document dies and one is born
updated_alike : turn_of (update 8 (codes "bee") ∷ []) ≡ turn (row 8 3 (codes "bee") ∷ []) (2 ∷ []) 3
updated_alike = refl

-- an UPDATE of an absent key, and a DELETE of one: nothing
absent_keys : turn_of (update 5 (codes "cat") ∷ Delete 6 ∷ []) ≡ turn [] [] 2
absent_keys = refl

-- the dead stand in the order of their ids, whatever the order of the changes
deaths_ascend : turn_of (Delete 8 ∷ Delete 7 ∷ []) ≡ turn [] (1 ∷ 2 ∷ []) 2
deaths_ascend = refl

-- a commit that is refused
a_refused_commit : turn_of (Delete 7 ∷ insert 8 (codes "cat") ∷ []) ≡ turn [] [] 2
a_refused_commit = refl

-- from no rows on: a document that is born in one commit dies in a later one
a_life : turns_from no_rows ((insert 5 (codes "cat") ∷ []) ∷ (insert 6 (codes "dog") ∷ Delete 5 ∷ []) ∷ [])
    ≡ turn (row 5 1 (codes "cat") ∷ []) [] 1 ∷ turn (row 6 2 (codes "dog") ∷ []) (1 ∷ []) 2 ∷ []
a_life = refl

-- the rows after a turn: a row that died has left its place, and the one with its key stands behind all others
after_a_turn : rows_by two (turn (row 7 4 (codes "dog") ∷ []) (1 ∷ []) 4) ≡ record { list = row 8 2 (codes "bee") ∷ row 7 4 (codes "dog") ∷ []; largest = 4 }
after_a_turn = refl

-- a key that comes again has another id, so each id dies once
a_key_dies_twice : deaths_of (turns_from no_rows ((insert 5 (codes "cat") ∷ []) ∷ (insert 6 (codes "dog") ∷ Delete 5 ∷ []) ∷ (insert 5 (codes "cat") ∷ []) ∷ (Delete 5 ∷ Delete 6 ∷ []) ∷ []))
    ≡ 1 ∷ 2 ∷ 3 ∷ []
a_key_dies_twice = refl
