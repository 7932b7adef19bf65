-- The rows of a batch are rows of the table.
use Rattle.std.proofs.Common.{◌≡◌, ℕ, ◌-◌, Bool, true, false, cond, not, filter, nat_eq, List, [], ◌∷◌, ◌++◌, take, drop, refl, sym, ap, subst, ◌∙◌}
use Rattle.std.specs.Prelude.{fold}
use Rattle.std.specs.List.{All, AllByRecursion, Contains, list_any}
use Rattle.std.proofs.lemmas.Bool.{or_parts, false≢true}
use Rattle.std.proofs.lemmas.Grind.{flat_map-append}
use Rattle.std.proofs.lemmas.List.{take-append-drop}
use Rattle.std.proofs.lemmas.List.Elements.{recursion_from_All, All-from_recursion, All-contains_itself}
use Rattle.std.proofs.lemmas.List.Folds.{list_any-append}
use Rattle.fts_types.specs.Row.{Row}
use Rattle.fts_commits.specs.Commit.{Rows, no_rows}
use Rattle.fts_commits.specs.Turn.{Turn, births_of, deaths_of, rows_but, rows_by}
use Rattle.fts_entries.specs.Entry.{IndexState, unflushed, unflushed_through}
use Rattle.fts_entries.specs.Batch.{alive_of}
use Rattle.fts_entries.proofs.Filters.{leads, all_joined}

-- what holds of what is left holds of each that passes, and the other way round
passed_of : {X : Type 0} (test : X → Bool) (P : X → Type 0) (xs : List X) → AllByRecursion P (filter test xs) → AllByRecursion (λ x. test x ≡ true → P x) xs
passed_of test P [] all = tt
passed_of test P (x ∷ xs) all = by (test x) refl all (passed_of test P xs)
  where
    by : (b : Bool) → test x ≡ b → AllByRecursion P (cond b (x ∷ filter test xs) (filter test xs))
        → (AllByRecursion P (filter test xs) → AllByRecursion (λ x. test x ≡ true → P x) xs) → AllByRecursion (λ x. test x ≡ true → P x) (x ∷ xs)
    by true e all rest = ((λ (passes : test x ≡ true). all.0), rest all.1)
    by false e all rest = ((λ (passes : test x ≡ true). absurd (false≢true (sym e ∙ passes))), rest all)

left_of : {X : Type 0} (test : X → Bool) (P : X → Type 0) (xs : List X) → AllByRecursion (λ x. test x ≡ true → P x) xs → AllByRecursion P (filter test xs)
left_of test P [] all = tt
left_of test P (x ∷ xs) all = by (test x) refl (left_of test P xs all.1)
  where
    by : (b : Bool) → test x ≡ b → AllByRecursion P (filter test xs) → AllByRecursion P (cond b (x ∷ filter test xs) (filter test xs))
    by true e rest = (all.0 e, rest)
    by false e rest = rest

front_of : {X : Type 0} (P : X → Type 0) (xs ys : List X) → AllByRecursion P (xs ++ ys) → AllByRecursion P xs
front_of P [] ys all = tt
front_of P (x ∷ xs) ys all = (all.0, front_of P xs ys all.1)

rest_of : {X : Type 0} (P : X → Type 0) (xs ys : List X) → AllByRecursion P (xs ++ ys) → AllByRecursion P ys
rest_of P [] ys all = all
rest_of P (x ∷ xs) ys all = rest_of P xs ys all.1

module _ (P : Row → Type 0) where
  -- some ids have the row's
  abbrev is_dead : List ℕ → Row → Bool
  is_dead ids row = list_any (λ id. nat_eq id row.doc) ids

  -- a row that none of these ids has
  abbrev HoldsAlive : List ℕ → Row → Type 0
  HoldsAlive ids row = not (is_dead ids row) ≡ true → P row

  alive : (b : Bool) → not b ≡ true → b ≡ false
  alive true e = absurd (false≢true e)
  alive false e = refl

  -- who is in none of two lists of ids is in neither
  both_alive : (dead more : List ℕ) (row : Row) → not (is_dead (dead ++ more) row) ≡ true → (is_dead dead row ≡ false) × (is_dead more row ≡ false)
  both_alive dead more row e = or_parts (is_dead dead row) (is_dead more row) (sym (list_any-append (λ id. nat_eq id row.doc) dead more) ∙ alive (is_dead (dead ++ more) row) e)

  record Stay (ids : List ℕ) (old new : List Row) : Type 0 where
    of_old : AllByRecursion (HoldsAlive ids) old
    of_new : AllByRecursion (HoldsAlive ids) new

  -- what holds of all rows behind some turns holds of each row before them, and of each that was born in them, if it did
  -- not die in them
  stay : (turns : List Turn) (rows : Rows) → AllByRecursion P (fold rows_by rows turns).list → Stay (deaths_of turns) rows.list (births_of turns)
  stay [] rows all = record { of_old = leads P (HoldsAlive []) rows.list (λ row holds. λ e. holds) all; of_new = tt }
  stay (turn ∷ turns) rows all =
      let more : List ℕ = deaths_of turns in
      let rest = stay turns (rows_by rows turn) all in
      let old = front_of (HoldsAlive more) (rows_but turn.deaths rows.list) turn.births rest.of_old in
      let born = rest_of (HoldsAlive more) (rows_but turn.deaths rows.list) turn.births rest.of_old in
      let weaker : (row : Row) → HoldsAlive more row → HoldsAlive (turn.deaths ++ more) row = λ row holds. λ e. holds (ap not ((both_alive turn.deaths more row e).1)) in
      record {
        of_old = leads (λ row. not (is_dead turn.deaths row) ≡ true → HoldsAlive more row) (HoldsAlive (turn.deaths ++ more)) rows.list
            (λ row holds. λ e. holds (ap not ((both_alive turn.deaths more row e).0)) (ap not ((both_alive turn.deaths more row e).1)))
            (passed_of (λ row. not (is_dead turn.deaths row)) (HoldsAlive more) rows.list old);
        of_new = leads (HoldsAlive more) (HoldsAlive (turn.deaths ++ more)) (turn.births ++ births_of turns) weaker
            (all_joined (HoldsAlive more) turn.births (births_of turns) born rest.of_new);
      }

  -- what holds of each row holds of each row of a batch
  pub alive_rows : (turns : List Turn) → All P (fold rows_by no_rows turns).list → (s : IndexState) (through : ℕ) → All P (alive_of turns (unflushed_through through turns s))
  alive_rows turns all s through =
      let covered : ℕ = through - s.flushed in
      let behind : List Turn = unflushed turns s in
      let holds = HoldsAlive (deaths_of turns) in
      let births = λ (ts : List Turn). births_of ts in
      let parted : (n : ℕ) (ts : List Turn) → births_of ts ≡ births_of (take n ts) ++ births_of (drop n ts) =
      λ n ts. ap births (sym (take-append-drop n ts)) ∙ flat_map-append (λ (turn : Turn). turn.births) (take n ts) (drop n ts) in
      let every = (stay turns no_rows (recursion_from_All P (fold rows_by no_rows turns).list all)).of_new in
      let later = rest_of holds (births_of (take s.flushed turns)) (births_of behind) (subst (AllByRecursion holds) (parted s.flushed turns) every) in
      let these = front_of holds (births_of (take covered behind)) (births_of (drop covered behind)) (subst (AllByRecursion holds) (parted covered behind) later) in
      All-from_recursion P (alive_of turns (take covered behind)) (left_of (λ row. not (is_dead (deaths_of turns) row)) P (births_of (take covered behind)) these)

pub alive_contained : (turns : List Turn) (s : IndexState) (through : ℕ) → All (Contains (fold rows_by no_rows turns).list) (alive_of turns (unflushed_through through turns s))
alive_contained turns s through = let rows = (fold rows_by no_rows turns).list in alive_rows (Contains rows) turns (All-contains_itself rows) s through
