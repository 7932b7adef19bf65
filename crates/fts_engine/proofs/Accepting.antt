-- What follows of a commit that the rows accept.
use Rattle.std.proofs.Common.{◌≡◌, ℕ, ◌+◌, ◌≤◌, List, [], ◌∷◌, ◌++◌, refl, sym, ◌∙◌, length, arith, Option, Some, None}
use Rattle.std.proofs.lemmas.List.Sums.{fold-append}
use Rattle.std.proofs.lemmas.Bool.{ltb-true, false≢true}
use Rattle.std.specs.Prelude.{Bool, true, false, nat_lt, Result, Ok, Err, IsOk, fold}
use Rattle.fts_types.specs.declared.limits.Limits.{Limits}
use Rattle.fts_types.specs.Limits.{standard_limits}
use Rattle.fts_commits.specs.declared.refusal.Refusal.{Refusal}
use Rattle.fts_types.specs.Row.{Row}
use Rattle.fts_commits.specs.Commit.{Commit, Rows, no_rows, has_key, with_key, without_key, doc_within, doc_for, with_document, updated, after_update, after_change, on_rows, after_changes, within_rows, after_commit, rows_after, replay, AreAccepted}
use Rattle.fts_commits.specs.declared.change.Change.{Change}
use Rattle.fts_commits.specs.declared.change.Change.TheVariants.{Insert, Update, Delete}
use Rattle.fts_engine.specs.Bounds.{AreWithin}

-- what was accepted within a limit is accepted within a larger one
within_more : (limit limit' largest doc new : ℕ) (past past' : Bool) → nat_lt limit doc ≡ past → nat_lt limit' doc ≡ past' → limit ≤ limit'
    → doc_within limit largest doc ≡ Ok new → doc_within limit' largest doc ≡ Ok new
within_more limit limit' largest doc new true past' is is' less ok = absurd (let no = (rw is at ok) in cc)
within_more limit limit' largest doc new false true is is' less ok =
    absurd (let more = ltb-true limit' doc is' in let b : nat_lt limit doc ≡ true = grind (arith, more, less) in false≢true (sym is ∙ b))
within_more limit limit' largest doc new false false is is' less ok = rw is' (rw is at ok)

doc_more : (limit limit' largest new : ℕ) (given : Option ℕ) → limit ≤ limit' → doc_for limit largest given ≡ Ok new → doc_for limit' largest given ≡ Ok new
doc_more limit limit' largest new None less ok =
    within_more limit limit' largest (largest + 1) new (nat_lt limit (largest + 1)) (nat_lt limit' (largest + 1)) refl refl less ok
doc_more limit limit' largest new (Some given) less ok = given_more (nat_lt largest given) (nat_lt (largest + 65535) given) refl refl
  where
    given_more : (above far : Bool) → nat_lt largest given ≡ above → nat_lt (largest + 65535) given ≡ far → doc_for limit' largest (Some given) ≡ Ok new
    given_more false far is is' = absurd (let no = (rw is at ok) in cc)
    given_more true true is is' = absurd (let no = (rw (is, is') at ok) in cc)
    given_more true false is is' =
        rw (is, is') (within_more limit limit' largest given new (nat_lt limit given) (nat_lt limit' given) refl refl less (rw (is, is') at ok))

document_more : (number key : ℕ) (texts : List (List ℕ)) (rows after : Rows) (doc doc' : Result ℕ Refusal)
    → ((new : ℕ) → doc ≡ Ok new → doc' ≡ Ok new) → with_document number key doc texts rows ≡ Ok after → with_document number key doc' texts rows ≡ Ok after
document_more number key texts rows after (Err why) doc' more ok = absurd cc
document_more number key texts rows after (Ok new) doc' more ok = rw (more new refl) ok

insert_more : (limit limit' number key : ℕ) (doc : Option ℕ) (texts : List (List ℕ)) (rows after : Rows) (taken : Bool) → has_key key rows.list ≡ taken → limit ≤ limit'
    → after_change limit number (Insert key doc texts) rows ≡ Ok after → after_change limit' number (Insert key doc texts) rows ≡ Ok after
insert_more limit limit' number key doc texts rows after true is less ok = absurd (let no = (rw is at ok) in cc)
insert_more limit limit' number key doc texts rows after false is less ok =
    rw is (document_more number key texts rows after (doc_for limit rows.largest doc) (doc_for limit' rows.largest doc)
    (λ new e. doc_more limit limit' rows.largest new doc less e) (rw is at ok))

update_more : (limit limit' number key : ℕ) (news : List (Option (List ℕ))) (found : List Row) (rows after : Rows) → limit ≤ limit'
    → after_update limit number key news found rows ≡ Ok after → after_update limit' number key news found rows ≡ Ok after
update_more limit limit' number key news [] rows after less ok = ok
update_more limit limit' number key news (row ∷ others) rows after less ok =
    document_more number key (updated news row.texts) (record { list = without_key key rows.list; largest = rows.largest }) after
    (doc_for limit rows.largest None) (doc_for limit' rows.largest None) (λ new e. doc_more limit limit' rows.largest new None less e) ok

change_more : (limit limit' number : ℕ) (change : Change) (rows after : Rows) → limit ≤ limit'
    → after_change limit number change rows ≡ Ok after → after_change limit' number change rows ≡ Ok after
change_more limit limit' number (Insert key doc texts) rows after less ok = insert_more limit limit' number key doc texts rows after (has_key key rows.list) refl less ok
change_more limit limit' number (Update key news) rows after less ok = update_more limit limit' number key news (with_key key rows.list) rows after less ok
change_more limit limit' number (Delete key) rows after less ok = ok

-- rows came of what follows: there were rows before it
pub record Went (next : Result Rows Refusal) (follows : Rows → Result Rows Refusal) (after : Rows) : Type 0 where
  pub middle : Rows
  pub first : next ≡ Ok middle
  pub last : follows middle ≡ Ok after

pub went : (next : Result Rows Refusal) (follows : Rows → Result Rows Refusal) (after : Rows) → on_rows next follows ≡ Ok after → Went next follows after
went (Err why) follows after ok = absurd cc
went (Ok middle) follows after ok = record { middle = middle; first = refl; last = ok }

changes_more : (limit limit' number : ℕ) (changes : List Change) (rows after : Rows) → limit ≤ limit'
    → after_changes limit number changes rows ≡ Ok after → after_changes limit' number changes rows ≡ Ok after
changes_more limit limit' number [] rows after less ok = ok
changes_more limit limit' number (change ∷ changes) rows after less ok =
    let w = went (after_change limit number change rows) (after_changes limit (number + 1) changes) after ok in
    rw (change_more limit limit' number change rows w.middle less w.first) (changes_more limit limit' (number + 1) changes w.middle after less w.last)

rows_more : (limit limit' : ℕ) (rows after : Rows) (past past' : Bool) → nat_lt limit (length rows.list) ≡ past → nat_lt limit' (length rows.list) ≡ past' → limit ≤ limit'
    → within_rows limit (Ok rows) ≡ Ok after → within_rows limit' (Ok rows) ≡ Ok after
rows_more limit limit' rows after true past' is is' less ok = absurd (let no = (rw is at ok) in cc)
rows_more limit limit' rows after false true is is' less ok =
    absurd (let more = ltb-true limit' (length rows.list) is' in let b : nat_lt limit (length rows.list) ≡ true = grind (arith, more, less) in false≢true (sym is ∙ b))
rows_more limit limit' rows after false false is is' less ok = rw is' (rw is at ok)

commit_more : (inner outer : Limits) (changes : List Change) (rows after : Rows) (next : Result Rows Refusal) → after_changes inner.ids 1 changes rows ≡ next → AreWithin outer inner
    → within_rows inner.rows next ≡ Ok after → after_commit outer changes rows ≡ Ok after
commit_more inner outer changes rows after (Err why) is less ok = absurd cc
commit_more inner outer changes rows after (Ok next) is less ok =
    rw (changes_more inner.ids outer.ids 1 changes rows next less.ids is)
    (rows_more inner.rows outer.rows next after (nat_lt inner.rows (length next.list)) (nat_lt outer.rows (length next.list)) refl refl less.rows ok)

-- a commit that is accepted within limits is accepted within larger ones
pub accepted_more : (inner outer : Limits) (changes : List Change) (rows after : Rows) → AreWithin outer inner
    → after_commit inner changes rows ≡ Ok after → after_commit outer changes rows ≡ Ok after
accepted_more inner outer changes rows after less ok = commit_more inner outer changes rows after (after_changes inner.ids 1 changes rows) refl less ok

-- replay, one commit further
replay-push : (commits : List Commit) (commit : Commit) → replay (commits ++ commit ∷ []) ≡ rows_after (replay commits) commit
replay-push commits commit = fold-append rows_after no_rows commits (commit ∷ [])

pub replay_accepted : (commits : List Commit) (commit : Commit) (after : Rows) → after_commit standard_limits commit (replay commits) ≡ Ok after
    → replay (commits ++ commit ∷ []) ≡ after
replay_accepted commits commit after ok = replay-push commits commit ∙ (rw ok refl)

-- one accepted commit more
pub AreAccepted-push : (rows : Rows) (commits : List Commit) (commit : Commit) → AreAccepted rows commits
    → IsOk (after_commit standard_limits commit (fold rows_after rows commits)) → AreAccepted rows (commits ++ commit ∷ [])
AreAccepted-push rows [] commit accepted ok = (ok, tt)
AreAccepted-push rows (first ∷ commits) commit accepted ok = (accepted.0, AreAccepted-push (rows_after rows first) commits commit accepted.1 ok)
