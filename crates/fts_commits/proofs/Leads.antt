-- What turns make of the rows, and that no id dies in two of them.
use Rattle.std.proofs.Common.{◌≡◌, ℕ, suc, ◌<◌, ◌≤◌, ◌⊎◌, inl, inr, ⊎_elim, Bool, true, false, cond, not, ◌||◌, filter, map, List, [], ◌∷◌, ◌++◌, nat_eq, refl, sym, ap, ap₂, ◌∙◌, arith}
use Rattle.std.specs.Prelude.{fold}
use Rattle.std.specs.List.{All, AllPairs, AllByRecursion, IsDistinct, list_any}
use Rattle.std.proofs.lemmas.Bool.{ne_eqb, eq-eqb, eqb-true, false≢true, not-true, or_cases}
use Rattle.std.proofs.lemmas.Bool.Decides.{Decides-eqb}
use Rattle.std.proofs.lemmas.Map.Made.{IsDistinct-from_AllPairs}
use Rattle.std.proofs.lemmas.List.Elements.{All-head, All-tail, recursion_from_All}
use Rattle.std.proofs.lemmas.List.Kept.{AllPairs-filter}
use Rattle.std.proofs.lemmas.List.Folds.{list_any-append}
use Rattle.fts_types.specs.Row.{Row}
use Rattle.fts_commits.specs.Commit.{Commit, Rows, no_rows, rows_after, replay}
use Rattle.fts_commits.specs.Turn.{RowsAscend, has_doc, rows_not_in, rows_but, rows_by, turn_between, turns_from, deaths_of}
use Rattle.fts_commits.proofs.Ascending.{Before, IsOrdered, none_ordered, commit_ordered, ids_ascend}
use Rattle.fts_commits.proofs.Turns.{Grown, ids-order, all_pass, births_are, grows}

pairs-head : (R : Row → Row → Type 0) (x : Row) (xs : List Row) → AllPairs R (x ∷ xs) → All (R x) xs
pairs-head R x xs h k d less = h 0 (suc k) d (omega arith) (omega (arith, less))

pairs-tail : (R : Row → Row → Type 0) (x : Row) (xs : List Row) → AllPairs R (x ∷ xs) → AllPairs R xs
pairs-tail R x xs h i j d order less = h (suc i) (suc j) d (omega (arith, order)) (omega (arith, less))

-- of two facts of each element, a third
join : {X : Type 0} (P Q R : X → Type 0) → ((row : X) → P row → Q row → R row) → (rows : List X) → AllByRecursion P rows → AllByRecursion Q rows → AllByRecursion R rows
join P Q R step [] p q = tt
join P Q R step (row ∷ rows) p q = (step row p.0 q.0, join P Q R step rows p.1 q.1)

agree_on : (p q : Row → Bool) (rows : List Row) → AllByRecursion (λ row. p row ≡ q row) rows → filter p rows ≡ filter q rows
agree_on p q [] h = refl
agree_on p q (row ∷ rows) h = ap₂ (λ (b : Bool) (l : List Row). cond b (row ∷ l) l) h.0 (agree_on p q rows h.1)

-- no row has an id below all of theirs
none_below : (doc : ℕ) (p : Row → Bool) (rows : List Row) → All (λ (row : Row). doc < row.doc) rows → has_doc doc (filter p rows) ≡ false
none_below doc p [] h = refl
none_below doc p (row ∷ rows) h =
    let first = All-head (λ (r : Row). doc < r.doc) row rows h in
    by (p row) (ne_eqb row.doc doc (λ same. omega (arith, same, first))) (none_below doc p rows (All-tail (λ (r : Row). doc < r.doc) row rows h))
  where
    by : (b : Bool) → nat_eq row.doc doc ≡ false → has_doc doc (filter p rows) ≡ false → has_doc doc (cond b (row ∷ filter p rows) (filter p rows)) ≡ false
    by true other rest = ap (λ (c : Bool). c || has_doc doc (filter p rows)) other ∙ rest
    by false other rest = rest

-- of ordered rows a test takes the ids of those that pass
picked : (p : Row → Bool) (rows : List Row) → AllPairs Before rows → AllByRecursion (λ row. has_doc row.doc (filter p rows) ≡ p row) rows
picked p [] h = tt
picked p (row ∷ rows) h =
    let behind = pairs-head Before row rows h in (
      here (p row) (none_below row.doc p rows behind),
      join (λ other. row.doc < other.doc) (λ other. has_doc other.doc (filter p rows) ≡ p other) (λ other. has_doc other.doc (filter p (row ∷ rows)) ≡ p other)
          (λ other less same. later (p row) other (ne_eqb row.doc other.doc (λ e. omega (arith, e, less))) same)
          rows (recursion_from_All (λ (other : Row). row.doc < other.doc) rows behind) (picked p rows (pairs-tail Before row rows h)),
    )
  where
    here : (b : Bool) → has_doc row.doc (filter p rows) ≡ false → has_doc row.doc (cond b (row ∷ filter p rows) (filter p rows)) ≡ b
    here true none = ap (λ (c : Bool). c || has_doc row.doc (filter p rows)) (eq-eqb row.doc row.doc refl)
    here false none = none

    later : (b : Bool) (other : Row) → nat_eq row.doc other.doc ≡ false → has_doc other.doc (filter p rows) ≡ p other → has_doc other.doc (cond b (row ∷ filter p rows) (filter p rows)) ≡ p other
    later true other differ same = ap (λ (c : Bool). c || has_doc other.doc (filter p rows)) differ ∙ same
    later false other differ same = same

-- no row of rows with ids above one has an id that is at most that
none_under : (doc low high : ℕ) (rows : List Row) → RowsAscend low high rows → doc ≤ low → has_doc doc rows ≡ false
none_under doc low high [] ids below = refl
none_under doc low high (row ∷ rows) ids below =
    ap (λ (b : Bool). b || has_doc doc rows) (ne_eqb row.doc doc (λ same. omega (arith, same, ids.0, below)))
    ∙ none_under doc row.doc high rows ids.1 (omega (arith, ids.0, below))

or_false : (b : Bool) → (b || false) ≡ b
or_false true = refl
or_false false = refl

or_true : (a b : Bool) → b ≡ true → (a || b) ≡ true
or_true true b h = refl
or_true false b h = h

not_not : (b : Bool) → not (not b) ≡ b
not_not true = refl
not_not false = refl

-- whether an id is among those of some rows
among : (doc : ℕ) (rows : List Row) → list_any (λ id. nat_eq id doc) (map (λ (row : Row). row.doc) rows) ≡ has_doc doc rows
among doc [] = refl
among doc (row ∷ rows) = ap (λ (b : Bool). nat_eq row.doc doc || b) (among doc rows)

module _ (before after : Rows) (ordered : IsOrdered before) (grown : Grown before after) where
  has_after : (doc : ℕ) → has_doc doc after.list ≡ (has_doc doc (filter grown.test before.list) || has_doc doc grown.news)
  has_after doc = ap (has_doc doc) grown.list ∙ list_any-append (λ (row : Row). nat_eq row.doc doc) (filter grown.test before.list) grown.news

  -- the rows that stay
  stay : AllByRecursion (λ row. has_doc row.doc after.list ≡ grown.test row) before.list
  stay =
      join (λ row. has_doc row.doc (filter grown.test before.list) ≡ grown.test row) (λ row. row.doc ≤ before.largest) (λ row. has_doc row.doc after.list ≡ grown.test row)
      (λ row same below. has_after row.doc
      ∙ ap (λ (b : Bool). has_doc row.doc (filter grown.test before.list) || b) (none_under row.doc before.largest after.largest grown.news grown.ids below)
      ∙ or_false (has_doc row.doc (filter grown.test before.list)) ∙ same)
      before.list (picked grown.test before.list ordered.ascend) (recursion_from_All (λ (row : Row). row.doc ≤ before.largest) before.list ordered.below)

  dead_are : rows_not_in after.list before.list ≡ filter (λ row. not (grown.test row)) before.list
  dead_are =
      agree_on (λ row. not (has_doc row.doc after.list)) (λ row. not (grown.test row)) before.list
      (join (λ row. has_doc row.doc after.list ≡ grown.test row) (λ row. has_doc row.doc after.list ≡ grown.test row) (λ row. not (has_doc row.doc after.list) ≡ not (grown.test row))
      (λ row same again. ap not same) before.list stay stay)

  left_are : rows_but (turn_between before after).deaths before.list ≡ filter grown.test before.list
  left_are =
      let P : Row → Bool = λ row. not (grown.test row) in
      agree_on (λ row. not (list_any (λ id. nat_eq id row.doc) (turn_between before after).deaths)) grown.test before.list
      (join (λ row. has_doc row.doc (filter P before.list) ≡ P row) (λ row. has_doc row.doc (filter P before.list) ≡ P row)
      (λ row. not (list_any (λ id. nat_eq id row.doc) (turn_between before after).deaths) ≡ grown.test row)
      (λ row same again. ap not (among row.doc (rows_not_in after.list before.list) ∙ ap (has_doc row.doc) dead_are ∙ same) ∙ not_not (grown.test row))
      before.list (picked P before.list ordered.ascend) (picked P before.list ordered.ascend))

  pub turn_leads : rows_by before (turn_between before after) ≡ after
  turn_leads =
      let list : rows_but (turn_between before after).deaths before.list ++ rows_not_in before.list after.list ≡ after.list =
      ap₂ (λ (l m : List Row). l ++ m) left_are (births_are before after ordered grown) ∙ sym grown.list in
      ap (λ (l : List Row). record { list = l; largest = after.largest }) list

turns_lead_on : (commits : List Commit) (rows : Rows) → IsOrdered rows → fold rows_by rows (turns_from rows commits) ≡ fold rows_after rows commits
turns_lead_on [] rows ordered = refl
turns_lead_on (commit ∷ commits) rows ordered =
    let after = rows_after rows commit in
    ap (λ (r : Rows). fold rows_by r (turns_from after commits)) (turn_leads rows after ordered (grows rows commit))
    ∙ turns_lead_on commits after (commit_ordered commit rows ordered)

pub turns_lead : (commits : List Commit) → fold rows_by no_rows (turns_from no_rows commits) ≡ replay commits
turns_lead commits = turns_lead_on commits no_rows none_ordered

-- ---- no id dies twice

-- an id that some row has, or one that is yet to be given
abbrev Fate : Rows → ℕ → Type 0
Fate rows id = (has_doc id rows.list ≡ true) ⊎ (rows.largest < id)

has_filtered : (t : Row → Bool) (id : ℕ) (rows : List Row) → has_doc id (filter t rows) ≡ true → has_doc id rows ≡ true
has_filtered t id [] h = h
has_filtered t id (row ∷ rows) h = by (t row) (nat_eq row.doc id) (has_filtered t id rows) h
  where
    by : (b c : Bool) → (has_doc id (filter t rows) ≡ true → has_doc id rows ≡ true) → list_any (λ (r : Row). nat_eq r.doc id) (cond b (row ∷ filter t rows) (filter t rows)) ≡ true → (nat_eq row.doc id || has_doc id rows) ≡ true
    by true c rest h = ⊎_elim (λ (first : nat_eq row.doc id ≡ true). ap (λ (x : Bool). x || has_doc id rows) first) (λ (later : has_doc id (filter t rows) ≡ true). or_true (nat_eq row.doc id) (has_doc id rows) (rest later)) (or_cases (nat_eq row.doc id) (has_doc id (filter t rows)) h)
    by false c rest h = or_true (nat_eq row.doc id) (has_doc id rows) (rest h)

has_new : (low high id : ℕ) (rows : List Row) → RowsAscend low high rows → has_doc id rows ≡ true → low < id
has_new low high id [] ids h = absurd (false≢true h)
has_new low high id (row ∷ rows) ids h =
    ⊎_elim (λ (first : nat_eq row.doc id ≡ true). (let same : row.doc ≡ id = eqb-true row.doc id first in omega (arith, same, ids.0)))
    (λ (later : has_doc id rows ≡ true). (let above = has_new row.doc high id rows ids.1 later in omega (arith, above, ids.0)))
    (or_cases (nat_eq row.doc id) (has_doc id rows) h)

-- what holds of the ids of the rows that pass
mapped : (P : ℕ → Type 0) (p : Row → Bool) (rows : List Row) → AllByRecursion (λ row. p row ≡ true → P row.doc) rows → AllByRecursion P (map (λ (row : Row). row.doc) (filter p rows))
mapped P p [] h = tt
mapped P p (row ∷ rows) h = by (p row) h.0 (mapped P p rows h.1)
  where
    by : (b : Bool) → (b ≡ true → P row.doc) → AllByRecursion P (map (λ (r : Row). r.doc) (filter p rows)) → AllByRecursion P (map (λ (r : Row). r.doc) (cond b (row ∷ filter p rows) (filter p rows)))
    by true here rest = (here refl, rest)
    by false here rest = rest

all_append : (P : ℕ → Type 0) (xs ys : List ℕ) → AllByRecursion P xs → AllByRecursion P ys → AllByRecursion P (xs ++ ys)
all_append P [] ys h k = k
all_append P (x ∷ xs) ys h k = (h.0, all_append P xs ys h.1 k)

distinct_append : (xs ys : List ℕ) → IsDistinct nat_eq xs → IsDistinct nat_eq ys → AllByRecursion (λ x. AllByRecursion (λ y. nat_eq x y ≡ false) ys) xs → IsDistinct nat_eq (xs ++ ys)
unfolding IsDistinct
distinct_append [] ys h k apart = k
distinct_append (x ∷ xs) ys h k apart = (all_append (λ y. nat_eq x y ≡ false) xs ys h.0 apart.0, distinct_append xs ys h.1 k apart.1)

each : {X : Type 0} (P Q : X → Type 0) → ((x : X) → P x → Q x) → (xs : List X) → AllByRecursion P xs → AllByRecursion Q xs
each P Q step [] h = tt
each P Q step (x ∷ xs) h = (step x h.0, each P Q step xs h.1)

-- an id that dies between some rows and others
record IsDead (before after : Rows) (id : ℕ) : Type 0 where
  pub alive : has_doc id before.list ≡ true
  pub gone : has_doc id after.list ≡ false
  pub used : id ≤ before.largest

module _ (before after : Rows) (ordered : IsOrdered before) (grown : Grown before after) where
  own : AllByRecursion (λ (row : Row). has_doc row.doc before.list ≡ true) before.list
  own =
      each (λ (row : Row). has_doc row.doc (filter (λ (r : Row). true) before.list) ≡ true) (λ (row : Row). has_doc row.doc before.list ≡ true)
      (λ row same. ap (has_doc row.doc) (sym (all_pass before.list)) ∙ same) before.list (picked (λ (row : Row). true) before.list ordered.ascend)

  dead : AllByRecursion (IsDead before after) (turn_between before after).deaths
  dead =
      mapped (IsDead before after) (λ row. not (has_doc row.doc after.list)) before.list
      (join (λ (row : Row). has_doc row.doc before.list ≡ true) (λ (row : Row). row.doc ≤ before.largest) (λ (row : Row). not (has_doc row.doc after.list) ≡ true → IsDead before after row.doc)
      (λ row has below gone. record { alive = has; gone = not-true (has_doc row.doc after.list) gone; used = below })
      before.list own (recursion_from_All (λ (row : Row). row.doc ≤ before.largest) before.list ordered.below))

  fate_before : (id : ℕ) → Fate after id → Fate before id
  fate_before id (inl has) =
      ⊎_elim (λ (kept : has_doc id (filter grown.test before.list) ≡ true). inl (has_filtered grown.test id before.list kept))
      (λ (new : has_doc id grown.news ≡ true). inr (has_new before.largest after.largest id grown.news grown.ids new))
      (or_cases (has_doc id (filter grown.test before.list)) (has_doc id grown.news) (sym (has_after before after ordered grown id) ∙ has))
  fate_before id (inr above) = inr (omega (arith, above, ids-order before.largest after.largest grown.news grown.ids))

  apart : (x y : ℕ) → IsDead before after x → Fate after y → nat_eq x y ≡ false
  apart x y is_dead (inl has) = ne_eqb x y (λ same. false≢true (sym is_dead.gone ∙ ap (λ (id : ℕ). has_doc id after.list) same ∙ has))
  apart x y is_dead (inr above) = ne_eqb x y (λ same. absurd (omega (arith, same, above, is_dead.used, ids-order before.largest after.largest grown.news grown.ids)))

  once : IsDistinct nat_eq (turn_between before after).deaths
  once =
      let gone = rows_not_in after.list before.list in
      let pairs = ids_ascend gone (AllPairs-filter Before _ before.list ordered.ascend) in
      IsDistinct-from_AllPairs Decides-eqb (turn_between before after).deaths (λ i j d order less same. omega (arith, same, pairs i j d order less))

record Once (rows : Rows) (ids : List ℕ) : Type 0 where
  pub fates : AllByRecursion (Fate rows) ids
  pub distinct : IsDistinct nat_eq ids

none_once : (rows : Rows) → Once rows []
unfolding IsDistinct
none_once rows = record { fates = tt; distinct = tt }

one_death : (commits : List Commit) (rows : Rows) → IsOrdered rows → Once rows (deaths_of (turns_from rows commits))
one_death [] rows ordered = none_once rows
one_death (commit ∷ commits) rows ordered =
    let after = rows_after rows commit in
    let grown = grows rows commit in
    let deaths = (turn_between rows after).deaths in
    let rest = deaths_of (turns_from after commits) in
    let later = one_death commits after (commit_ordered commit rows ordered) in
    let now = dead rows after ordered grown in
    record {
      fates = all_append (Fate rows) deaths rest
          (each (IsDead rows after) (Fate rows) (λ id is_dead. inl is_dead.alive) deaths now)
          (each (Fate after) (Fate rows) (fate_before rows after ordered grown) rest later.fates);
      distinct = distinct_append deaths rest (once rows after ordered grown) later.distinct
          (each (IsDead rows after) (λ x. AllByRecursion (λ y. nat_eq x y ≡ false) rest)
          (λ x is_dead. each (Fate after) (λ y. nat_eq x y ≡ false) (λ y fate. apart rows after ordered grown x y is_dead fate) rest later.fates) deaths now);
    }

pub no_second_death : (commits : List Commit) → IsDistinct nat_eq (deaths_of (turns_from no_rows commits))
no_second_death commits = (one_death commits no_rows none_ordered).distinct
