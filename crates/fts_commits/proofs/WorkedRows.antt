-- Small commits with what they leave, worked out by hand: what the definitions compute.
use Rattle.std.proofs.Common.{◌≡◌, ℕ, List, [], ◌∷◌, Some, None, Ok, Err, refl}
use Rattle.std.specs.Prelude.{codes}
use Rattle.fts_types.specs.declared.limits.Limits.{Limits}
use Rattle.fts_types.specs.Limits.{standard_limits}
use Rattle.fts_commits.specs.declared.change.Change.TheVariants.{Insert, Update, Delete}
use Rattle.fts_commits.specs.declared.refusal.Refusal.TheVariants.{DuplicateKey, DocIdOrder, DocIdGap, IdsFull, RowsFull}
use Rattle.fts_types.specs.Row.{Row}
use Rattle.fts_commits.specs.Commit.{Rows, no_rows, after_commit, replay}

abbrev row : ℕ → ℕ → List (List ℕ) → Row
row key doc texts = record { key = key; doc = doc; texts = texts }

abbrev rows : List Row → ℕ → Rows
rows list largest = record { list = list; largest = largest }

abbrev few : Limits
few = record { rows = 2; ids = 4; log_bytes = 0 }

-- two rows of two columns
abbrev two : Rows
two = rows (row 7 1 (codes "ant" ∷ codes "bee" ∷ []) ∷ row 8 2 (codes "cat" ∷ codes "dog" ∷ []) ∷ []) 2

-- ids count from 1, in the order of the changes
inserts_count_up :
    after_commit standard_limits (Insert 9 None (codes "a" ∷ []) ∷ Insert 3 None (codes "b" ∷ []) ∷ []) no_rows
    ≡ Ok (rows (row 9 1 (codes "a" ∷ []) ∷ row 3 2 (codes "b" ∷ []) ∷ []) 2)
inserts_count_up = refl

-- an UPDATE gives a new id, goes behind all others, and keeps the columns that it does not set
an_update_moves_its_row : after_commit standard_limits (Update 7 (None ∷ Some (codes "elk") ∷ []) ∷ []) two
    ≡ Ok (rows (row 8 2 (codes "cat" ∷ codes "dog" ∷ []) ∷ row 7 3 (codes "ant" ∷ codes "elk" ∷ []) ∷ []) 3)
an_update_moves_its_row = refl

-- also where the text is what it was
an_equal_text_gets_a_new_id : after_commit standard_limits (Update 8 (Some (codes "cat") ∷ None ∷ []) ∷ []) two
    ≡ Ok (rows (row 7 1 (codes "ant" ∷ codes "bee" ∷ []) ∷ row 8 3 (codes "cat" ∷ codes "dog" ∷ []) ∷ []) 3)
an_equal_text_gets_a_new_id = refl

-- twice in one commit: the second sees the first
two_updates_of_a_row :
    after_commit standard_limits (Update 7 (Some (codes "elk") ∷ None ∷ []) ∷ Update 7 (None ∷ Some (codes "fox") ∷ []) ∷ []) two
    ≡ Ok (rows (row 8 2 (codes "cat" ∷ codes "dog" ∷ []) ∷ row 7 4 (codes "elk" ∷ codes "fox" ∷ []) ∷ []) 4)
two_updates_of_a_row = refl

-- a key that no row has: nothing changes, and no id is used
an_absent_key_changes_nothing :
    after_commit standard_limits (Update 5 (Some (codes "x") ∷ None ∷ []) ∷ Delete 5 ∷ []) two ≡ Ok two
an_absent_key_changes_nothing = refl

a_delete_takes_its_row : after_commit standard_limits (Delete 7 ∷ []) two ≡ Ok (rows (row 8 2 (codes "cat" ∷ codes "dog" ∷ []) ∷ []) 2)
a_delete_takes_its_row = refl

-- an id that was given and taken in one commit is used
an_id_is_never_used_again :
    after_commit standard_limits (Insert 5 None (codes "x" ∷ []) ∷ Delete 5 ∷ Insert 6 None (codes "y" ∷ []) ∷ []) no_rows
    ≡ Ok (rows (row 6 2 (codes "y" ∷ []) ∷ []) 2)
an_id_is_never_used_again = refl

-- a key is taken by an earlier change of the commit, and free behind a DELETE
a_key_is_taken : after_commit standard_limits (Insert 5 None [] ∷ Insert 5 None [] ∷ []) no_rows ≡ Err (DuplicateKey 2 5)
a_key_is_taken = refl

a_key_is_free_again :
    after_commit standard_limits (Delete 7 ∷ Insert 7 None (codes "x" ∷ codes "y" ∷ []) ∷ []) two
    ≡ Ok (rows (row 8 2 (codes "cat" ∷ codes "dog" ∷ []) ∷ row 7 3 (codes "x" ∷ codes "y" ∷ []) ∷ []) 3)
a_key_is_free_again = refl

-- a given id is above the largest, and at most 65,535 above it
a_given_id_is_taken : after_commit standard_limits (Insert 5 (Some 65535) [] ∷ []) no_rows ≡ Ok (rows (row 5 65535 [] ∷ []) 65535)
a_given_id_is_taken = refl

a_given_id_is_too_far : after_commit standard_limits (Insert 5 (Some 65536) [] ∷ []) no_rows ≡ Err (DocIdGap 65536 0)
a_given_id_is_too_far = refl

a_given_id_is_not_above : after_commit standard_limits (Insert 5 (Some 2) [] ∷ []) two ≡ Err (DocIdOrder 2 2)
a_given_id_is_not_above = refl

-- no id is above its limit
the_next_id_is_above_the_limit : after_commit few (Insert 5 (Some 4) [] ∷ Insert 6 None [] ∷ []) no_rows ≡ Err (IdsFull 4)
the_next_id_is_above_the_limit = refl

a_given_id_is_above_the_limit : after_commit few (Insert 5 (Some 5) [] ∷ []) no_rows ≡ Err (IdsFull 0)
a_given_id_is_above_the_limit = refl

-- the rows are counted at the commit's end
rows_are_full : after_commit few (Insert 5 None [] ∷ []) two ≡ Err (RowsFull 3)
rows_are_full = refl

rows_are_counted_at_the_end : after_commit few (Insert 5 None [] ∷ Delete 7 ∷ []) two
    ≡ Ok (rows (row 8 2 (codes "cat" ∷ codes "dog" ∷ []) ∷ row 5 3 [] ∷ []) 3)
rows_are_counted_at_the_end = refl

-- a commit that is refused changes nothing
a_refused_commit_changes_nothing : replay ((Insert 1 None [] ∷ []) ∷ (Insert 2 None [] ∷ Insert 1 None [] ∷ []) ∷ (Insert 3 None [] ∷ []) ∷ [])
    ≡ rows (row 1 1 [] ∷ row 3 2 [] ∷ []) 2
a_refused_commit_changes_nothing = refl
