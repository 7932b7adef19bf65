-- The rows that an accepted commit leaves are those of a table, those that it bears can be indexed, and its payload can
-- be written.
use Rattle.std.proofs.Common.{◌≡◌, ℕ, suc, ◌+◌, ◌<◌, ◌≤◌, ◌^◌, List, [], ◌∷◌, refl, ap, subst, sym, ◌∙◌, length, arith, Option, Some, None}
use Rattle.std.proofs.lemmas.List.Sums.{sum_by-cons}
use Rattle.std.proofs.lemmas.List.Elements.{All-nil, All-cons, All-append, All-head, All-tail, All-filter, All-weaker}
use Rattle.std.specs.Prelude.{Bool, true, false, nat_lt, not, ◌==◌, Result, Ok, Err, sum_by, All, IsOk, fold}
use Rattle.fts_types.specs.declared.limits.Limits.{Limits}
use Rattle.fts_types.specs.Limits.{standard_limits}
use Rattle.fts_commits.specs.declared.refusal.Refusal.{Refusal}
use Rattle.fts_types.specs.Row.{Row}
use Rattle.fts_commits.specs.Commit.{Commit, Rows, no_rows, has_key, with_key, without_key, doc_within, doc_for, with_row, with_texts, with_document, updated, set_bytes, after_update, after_change, after_changes, within_rows, after_commit, rows_after, replay, AreAccepted}
use Rattle.fts_commits.specs.Turn.{Turn, turn_between, has_doc}
use Rattle.fts_commits.specs.Fits.{FitsColumns, FitsNumbers, IsCommit, CanCommit}
use Rattle.fts_commits.specs.declared.change.Change.{Change}
use Rattle.fts_commits.specs.declared.change.Change.TheVariants.{Insert, Update, Delete}
use Rattle.fts_rowcodec.specs.Payload.{FitsText, FitsNewText, FitsBytes, IsWritten, commit_payload}
use Rattle.fts_rowcodec.proofs.Sizes.{IsShort, short_commit_size}
use Rattle.fts_rows.specs.Rows.{Held}
use Rattle.fts_rows.specs.Plan.{PlanFor}
use Rattle.fts_entries.specs.Rows.{CanIndex}
use Rattle.fts_index.specs.Births.{AreBirths}
use Rattle.fts_engine.specs.Bounds.{AreWithin}
use Rattle.fts_engine.specs.Fitting.{IsTableRow}
use Rattle.fts_engine.proofs.Accepting.{went}

-- an id that is given is within the limit
new_within : (limit largest doc new : ℕ) (past : Bool) → nat_lt limit doc ≡ past → doc_within limit largest doc ≡ Ok new → new ≤ limit
new_within limit largest doc new true is ok = absurd (let no = (rw is at ok) in cc)
new_within limit largest doc new false is ok =
    let same : doc ≡ new = (let e = (rw is at ok) in cc) in
    let less : doc ≤ limit = grind (arith, is) in
    subst (λ (d : ℕ). d ≤ limit) same less

doc_fits : (limit largest new : ℕ) (given : Option ℕ) → doc_for limit largest given ≡ Ok new → new ≤ limit
doc_fits limit largest new None ok = new_within limit largest (largest + 1) new (nat_lt limit (largest + 1)) refl ok
doc_fits limit largest new (Some given) ok = given_fits (nat_lt largest given) (nat_lt (largest + 65535) given) refl refl
  where
    given_fits : (above far : Bool) → nat_lt largest given ≡ above → nat_lt (largest + 65535) given ≡ far → new ≤ limit
    given_fits false far is is' = absurd (let no = (rw is at ok) in cc)
    given_fits true true is is' = absurd (let no = (rw (is, is') at ok) in cc)
    given_fits true false is is' = new_within limit largest given new (nat_lt limit given) refl (rw (is, is') at ok)

-- setting columns of a row keeps their number
pub updated_count : (news : List (Option (List ℕ))) (texts : List (List ℕ)) → length news ≡ length texts → length (updated news texts) ≡ length texts
updated_count [] texts same = same
updated_count (new ∷ news) [] same = absurd (omega (arith, same))
updated_count (Some text ∷ news) (old ∷ texts) same = ap suc (updated_count news texts (omega (arith, same)))
updated_count (None ∷ news) (old ∷ texts) same = ap suc (updated_count news texts (omega (arith, same)))

module _ (columns : ℕ) where
  abbrev Are : Rows → Type 0
  Are rows = All (IsTableRow columns) rows.list

  module _ (limit : ℕ) (limited : limit < 2 ^ 63) where
    texts_fit : (number key new : ℕ) (texts : List (List ℕ)) (rows after : Rows) (long : Bool) → new ≤ limit → length texts ≡ columns → nat_lt 65535 (sum_by length texts) ≡ long
        → Are rows → with_texts number key new texts rows ≡ Ok after → Are after
    texts_fit number key new texts rows after true within count is are ok = absurd (let no = (rw is at ok) in cc)
    texts_fit number key new texts rows after false within count is are ok =
        let same : with_row key new texts rows ≡ after = (let e = (rw is at ok) in cc) in
        let short : sum_by length texts ≤ 65535 = grind (arith, is) in
        let row : Row = record { key = key; doc = new; texts = texts } in
        let one : IsTableRow columns row = record { doc = omega (arith, within, limited); count = count; short = short } in
        subst Are same (All-append (IsTableRow columns) rows.list (row ∷ []) are (All-cons (IsTableRow columns) row [] one (All-nil (IsTableRow columns))))

    document_fits : (number key : ℕ) (texts : List (List ℕ)) (rows after : Rows) (doc : Result ℕ Refusal) → ((new : ℕ) → doc ≡ Ok new → new ≤ limit) → length texts ≡ columns
        → Are rows → with_document number key doc texts rows ≡ Ok after → Are after
    document_fits number key texts rows after (Err why) within count are ok = absurd cc
    document_fits number key texts rows after (Ok new) within count are ok =
        texts_fit number key new texts rows after (nat_lt 65535 (sum_by length texts)) (within new refl) count refl are ok

    insert_fits : (number key : ℕ) (doc : Option ℕ) (texts : List (List ℕ)) (rows after : Rows) (taken : Bool) → has_key key rows.list ≡ taken → length texts ≡ columns
        → Are rows → after_change limit number (Insert key doc texts) rows ≡ Ok after → Are after
    insert_fits number key doc texts rows after true is count are ok = absurd (let no = (rw is at ok) in cc)
    insert_fits number key doc texts rows after false is count are ok =
        document_fits number key texts rows after (doc_for limit rows.largest doc) (λ new e. doc_fits limit rows.largest new doc e) count are (rw is at ok)

    update_fits : (number key : ℕ) (news : List (Option (List ℕ))) (found : List Row) (rows after : Rows) → length news ≡ columns → All (IsTableRow columns) found → Are rows
        → after_update limit number key news found rows ≡ Ok after → Are after
    update_fits number key news [] rows after count those are ok = none_found (nat_lt 65535 (set_bytes news)) refl
      where
        none_found : (long : Bool) → nat_lt 65535 (set_bytes news) ≡ long → Are after
        none_found true is = absurd (let no = (rw is at ok) in cc)
        none_found false is = (let same : rows ≡ after = (let e = (rw is at ok) in cc) in subst Are same are)
    update_fits number key news (row ∷ others) rows after count those are ok =
        let one = All-head (IsTableRow columns) row others those in
        let wide = updated_count news row.texts (count ∙ sym one.count) in
        document_fits number key (updated news row.texts) (record { list = without_key key rows.list; largest = rows.largest }) after (doc_for limit rows.largest None)
        (λ new e. doc_fits limit rows.largest new None e) (wide ∙ one.count) (All-filter (λ (r : Row). not (r.key == key)) (IsTableRow columns) rows.list are) ok

    change_fits : (number : ℕ) (change : Change) (rows after : Rows) → FitsColumns columns change → Are rows → after_change limit number change rows ≡ Ok after → Are after
    change_fits number (Insert key doc texts) rows after fits are ok = insert_fits number key doc texts rows after (has_key key rows.list) refl fits.0 are ok
    change_fits number (Update key news) rows after fits are ok =
        update_fits number key news (with_key key rows.list) rows after fits.0 (All-filter (λ (r : Row). r.key == key) (IsTableRow columns) rows.list are) are ok
    change_fits number (Delete key) rows after fits are ok =
        let same : ◌≡◌ {A = Rows} (record { list = without_key key rows.list; largest = rows.largest }) after = (let e = ok in cc) in
        subst Are same (All-filter (λ (r : Row). not (r.key == key)) (IsTableRow columns) rows.list are)

    changes_fit : (number : ℕ) (changes : List Change) (rows after : Rows) → All (FitsColumns columns) changes → Are rows
        → after_changes limit number changes rows ≡ Ok after → Are after
    changes_fit number [] rows after fit are ok = (let same : rows ≡ after = cc in subst Are same are)
    changes_fit number (change ∷ changes) rows after fit are ok =
        let w = went (after_change limit number change rows) (after_changes limit (number + 1) changes) after ok in
        changes_fit (number + 1) changes w.middle after (All-tail (FitsColumns columns) change changes fit)
        (change_fits number change rows w.middle (All-head (FitsColumns columns) change changes fit) are w.first) w.last

    rows_fit : (most : ℕ) (next after : Rows) (past : Bool) → nat_lt most (length next.list) ≡ past → Are next → within_rows most (Ok next) ≡ Ok after → Are after
    rows_fit most next after true is are ok = absurd (let no = (rw is at ok) in cc)
    rows_fit most next after false is are ok = (let same : next ≡ after = (let e = (rw is at ok) in cc) in subst Are same are)

    all_fit : (most : ℕ) (changes : List Change) (rows after : Rows) (next : Result Rows Refusal) → after_changes limit 1 changes rows ≡ next → All (FitsColumns columns) changes → Are rows
        → within_rows most next ≡ Ok after → Are after
    all_fit most changes rows after (Err why) is fit are ok = absurd cc
    all_fit most changes rows after (Ok next) is fit are ok =
        rows_fit most next after (nat_lt most (length next.list)) refl (changes_fit 1 changes rows next fit are is) ok

  -- the rows behind an accepted commit are those of a table where those before it are
  pub commit_fits : (limits : Limits) (changes : List Change) (rows after : Rows) → AreWithin standard_limits limits → All (FitsColumns columns) changes → Are rows
      → after_commit limits changes rows ≡ Ok after → Are after
  commit_fits limits changes rows after within fit are ok =
      let limited : limits.ids < 2 ^ 63 = (let ids = within.ids in omega arith) in
      all_fit limits.ids limited limits.rows changes rows after (after_changes limits.ids 1 changes rows) refl fit are ok

  next_fits : (rows : Rows) (commit : Commit) (answer : Result Rows Refusal) → after_commit standard_limits commit rows ≡ answer → All (FitsColumns columns) commit → Are rows → IsOk answer
      → Are (rows_after rows commit)
  next_fits rows commit (Err why) is fit are ok = absurd (let no = ok in cc)
  next_fits rows commit (Ok after) is fit are ok =
      let within : AreWithin standard_limits standard_limits = record { rows = omega arith; ids = omega arith; log_bytes = omega arith } in
      rw is (commit_fits standard_limits commit rows after within fit are is)

  replayed : (rows : Rows) (commits : List Commit) → Are rows → All (IsWritten columns) commits → AreAccepted rows commits → Are (fold rows_after rows commits)
  replayed rows [] are written accepted = are
  replayed rows (commit ∷ commits) are written accepted =
      replayed (rows_after rows commit) commits
      (next_fits rows commit (after_commit standard_limits commit rows) refl (All-head (IsWritten columns) commit commits written).made.fit are accepted.0)
      (All-tail (IsWritten columns) commit commits written) accepted.1

  -- the rows that accepted commits leave
  pub replay_fits : (commits : List Commit) → All (IsWritten columns) commits → AreAccepted no_rows commits → Are (replay commits)
  replay_fits commits written accepted = replayed no_rows commits (All-nil (IsTableRow columns)) written accepted

  -- what is born can be indexed
  pub can_index : 1 ≤ columns → columns ≤ 8 → (row : Row) → IsTableRow columns row → CanIndex row
  can_index some few row is = (let count = is.count in record {
    limit = is.doc;
    texts = record { some = omega (arith, count, some); few = omega (arith, count, few); short = is.short };
  })

  -- the rows that the plan of an accepted commit bears can be indexed behind the others
  pub births_fit : (limits : Limits) (changes : List Change) (rows after : Rows) (held : Held) (planned : Turn) → 1 ≤ columns → columns ≤ 8 → IsCommit columns changes
      → AreWithin standard_limits limits → Are rows → after_commit limits changes rows ≡ Ok after → held.rows ≡ rows → PlanFor held planned after
      → AreBirths held.rows.largest planned.largest planned.births
  births_fit limits changes rows after held planned some few made within are ok same plan =
      let left = commit_fits limits changes rows after within made.fit are ok in
      let born = All-filter (λ (row : Row). not (has_doc row.doc held.rows.list)) (IsTableRow columns) after.list left in
      let births : (turn_between held.rows after).births ≡ planned.births = ap (λ (turn : Turn). turn.births) (sym plan.turn) in
      record {
        ids = plan.fits.ids;
        rows = All-weaker (IsTableRow columns) CanIndex (can_index some few) planned.births (subst (All (IsTableRow columns)) births born);
      }

-- ---- what an accepted commit is in the log

-- what is set of a row's columns is no longer than its texts then are
set_within : (news : List (Option (List ℕ))) (texts : List (List ℕ)) → length news ≡ length texts → set_bytes news ≤ sum_by length (updated news texts)
set_within [] texts same = omega arith
set_within (new ∷ news) [] same = absurd (omega (arith, same))
set_within (Some text ∷ news) (old ∷ texts) same = omega (arith, set_within news texts (omega (arith, same)), sum_by-cons length text (updated news texts))
set_within (None ∷ news) (old ∷ texts) same = omega (arith, set_within news texts (omega (arith, same)), sum_by-cons length old (updated news texts))

module _ (columns : ℕ) where
  -- the texts of a change that is taken are short together
  taken_texts : (number key new : ℕ) (texts : List (List ℕ)) (rows after : Rows) (long : Bool) → nat_lt 65535 (sum_by length texts) ≡ long
      → with_texts number key new texts rows ≡ Ok after → sum_by length texts ≤ 65535
  taken_texts number key new texts rows after true is ok = absurd (let no = (rw is at ok) in cc)
  taken_texts number key new texts rows after false is ok = grind (arith, is)

  taken_document : (number key : ℕ) (texts : List (List ℕ)) (rows after : Rows) (doc : Result ℕ Refusal) → with_document number key doc texts rows ≡ Ok after
      → sum_by length texts ≤ 65535
  taken_document number key texts rows after (Err why) ok = absurd cc
  taken_document number key texts rows after (Ok new) ok = taken_texts number key new texts rows after (nat_lt 65535 (sum_by length texts)) refl ok

  taken_insert : (limit number key : ℕ) (doc : Option ℕ) (texts : List (List ℕ)) (rows after : Rows) (taken : Bool) → has_key key rows.list ≡ taken
      → after_change limit number (Insert key doc texts) rows ≡ Ok after → sum_by length texts ≤ 65535
  taken_insert limit number key doc texts rows after true is ok = absurd (let no = (rw is at ok) in cc)
  taken_insert limit number key doc texts rows after false is ok = taken_document number key texts rows after (doc_for limit rows.largest doc) (rw is at ok)

  taken_update : (limit number key : ℕ) (news : List (Option (List ℕ))) (found : List Row) (rows after : Rows) → length news ≡ columns → All (IsTableRow columns) found
      → after_update limit number key news found rows ≡ Ok after → set_bytes news ≤ 65535
  taken_update limit number key news [] rows after count those ok = none_found (nat_lt 65535 (set_bytes news)) refl
    where
      none_found : (long : Bool) → nat_lt 65535 (set_bytes news) ≡ long → set_bytes news ≤ 65535
      none_found true is = absurd (let no = (rw is at ok) in cc)
      none_found false is = grind (arith, is)
  taken_update limit number key news (row ∷ others) rows after count those ok =
      let one = All-head (IsTableRow columns) row others those in
      let all = taken_document number key (updated news row.texts) (record { list = without_key key rows.list; largest = rows.largest }) after (doc_for limit rows.largest None) ok in
      let less = set_within news row.texts (count ∙ sym one.count) in
      omega (arith, all, less)

  taken_change : (limit number : ℕ) (change : Change) (rows after : Rows) → FitsColumns columns change → Are columns rows → after_change limit number change rows ≡ Ok after → IsShort change
  taken_change limit number (Insert key doc texts) rows after fits are ok = taken_insert limit number key doc texts rows after (has_key key rows.list) refl ok
  taken_change limit number (Update key news) rows after fits are ok =
      taken_update limit number key news (with_key key rows.list) rows after fits.0 (All-filter (λ (r : Row). r.key == key) (IsTableRow columns) rows.list are) ok
  taken_change limit number (Delete key) rows after fits are ok = tt

  module _ (limit : ℕ) (limited : limit < 2 ^ 63) where
    taken_changes : (number : ℕ) (changes : List Change) (rows after : Rows) → All (FitsColumns columns) changes → Are columns rows → after_changes limit number changes rows ≡ Ok after
        → All IsShort changes
    taken_changes number [] rows after fit are ok = All-nil IsShort
    taken_changes number (change ∷ changes) rows after fit are ok =
        let w = went (after_change limit number change rows) (after_changes limit (number + 1) changes) after ok in
        let here = All-head (FitsColumns columns) change changes fit in
        All-cons IsShort change changes (taken_change limit number change rows w.middle here are w.first)
        (taken_changes (number + 1) changes w.middle after (All-tail (FitsColumns columns) change changes fit)
        (change_fits columns limit limited number change rows w.middle here are w.first) w.last)

    taken_commit : (most : ℕ) (changes : List Change) (rows after : Rows) (next : Result Rows Refusal) → after_changes limit 1 changes rows ≡ next → All (FitsColumns columns) changes
        → Are columns rows → within_rows most next ≡ Ok after → All IsShort changes
    taken_commit most changes rows after (Err why) is fit are ok = absurd cc
    taken_commit most changes rows after (Ok next) is fit are ok = taken_changes 1 changes rows next fit are is

  -- a commit that is accepted has short texts
  accepted_short : (limits : Limits) (changes : List Change) (rows after : Rows) → AreWithin standard_limits limits → All (FitsColumns columns) changes → Are columns rows
      → after_commit limits changes rows ≡ Ok after → All IsShort changes
  accepted_short limits changes rows after within fit are ok =
      let limited : limits.ids < 2 ^ 63 = (let ids = within.ids in omega arith) in
      taken_commit limits.ids limited limits.rows changes rows after (after_changes limits.ids 1 changes rows) refl fit are ok

  -- each text is as short as all together
  short_texts : (texts : List (List ℕ)) → sum_by length texts ≤ 65535 → All FitsText texts
  short_texts [] short = All-nil FitsText
  short_texts (text ∷ texts) short =
      let sum = sum_by-cons length text texts in
      All-cons FitsText text texts (omega (arith, short, sum)) (short_texts texts (omega (arith, short, sum)))

  short_news : (news : List (Option (List ℕ))) → set_bytes news ≤ 65535 → All FitsNewText news
  short_news [] short = All-nil FitsNewText
  short_news (Some text ∷ news) short = All-cons FitsNewText (Some text) news (omega (arith, short)) (short_news news (omega (arith, short)))
  short_news (None ∷ news) short = All-cons FitsNewText None news tt (short_news news short)

  fits_change : (change : Change) → FitsNumbers change → IsShort change → FitsBytes change
  fits_change (Insert key doc texts) fits short = (fits.0, short_texts texts short, fits.1)
  fits_change (Update key news) fits short = (fits, short_news news short)
  fits_change (Delete key) fits short = fits

  -- a commit that is accepted fits the log
  pub accepted_fits : (limits : Limits) (changes : List Change) (rows after : Rows) → AreWithin standard_limits limits → Are columns rows → CanCommit columns changes
      → after_commit limits changes rows ≡ Ok after → IsWritten columns changes
  accepted_fits limits changes rows after within are can ok =
      let short = accepted_short limits changes rows after within can.made.fit are ok in
      record { made = can.made; fits = λ k d less. fits_change _ (can.numbers k d less) (short k d less) }

  -- and its payload is not longer than one may be
  pub accepted_size : (limits : Limits) (changes : List Change) (rows : Rows) (answer : Result Rows Refusal) → columns ≤ 8 → AreWithin standard_limits limits → Are columns rows
      → IsWritten columns changes → after_commit limits changes rows ≡ answer → IsOk answer → length (commit_payload changes) ≤ 65569003
  accepted_size limits changes rows (Err why) few within are written is ok = absurd (let no = ok in cc)
  accepted_size limits changes rows (Ok after) few within are written is ok =
      let most = short_commit_size columns changes few written (accepted_short limits changes rows after within written.made.fit are is) in omega (arith, most)
