-- Lists of turns: their births and deaths, and where the ids of these lie.
use Rattle.std.proofs.Common.{◌≡◌, ℕ, ◌≤◌, ⊎_elim, Bool, true, ◌||◌, List, [], ◌∷◌, ◌++◌, nat_eq, refl, sym, ap₂, ◌∙◌, arith}
use Rattle.std.specs.List.{AllByRecursion, list_any}
use Rattle.std.proofs.lemmas.Bool.{false≢true, or_cases}
use Rattle.std.proofs.lemmas.List.Elements.{recursion_from_All}
use Rattle.std.proofs.lemmas.List.Folds.{list_any-append}
use Rattle.std.specs.Cmp.{nat_eq_equiv}
use Rattle.std.proofs.lemmas.Bool.{eqb-true}
use Rattle.fts_types.specs.Row.{Row}
use Rattle.fts_commits.specs.Turn.{Turn, RowsAscend, AreTurns, births_of, deaths_of}
use Rattle.fts_ids.specs.Ids.{has}
use Rattle.fts_entries.specs.Batch.{largest_after}
use Rattle.fts_entries.proofs.Postings.{ends_within}

-- turns in two parts
pub record AreTwo (largest : ℕ) (front rest : List Turn) : Type 0 where
  pub of_front : AreTurns largest front
  pub of_rest : AreTurns (largest_after largest front) rest

pub two_parts : (largest : ℕ) (front rest : List Turn) → AreTurns largest (front ++ rest) → AreTwo largest front rest
two_parts largest [] rest are = record { of_front = tt; of_rest = are }
two_parts largest (turn ∷ front) rest are =
    let later = two_parts turn.largest front rest are.2 in
    record { of_front = (are.0, are.1, later.of_front); of_rest = later.of_rest }

pub largest_behind : (largest : ℕ) (front rest : List Turn) → largest_after largest (front ++ rest) ≡ largest_after (largest_after largest front) rest
largest_behind largest [] rest = refl
largest_behind largest (turn ∷ front) rest = largest_behind turn.largest front rest

pub ids_rise : (largest : ℕ) (turns : List Turn) → AreTurns largest turns → largest ≤ largest_after largest turns
ids_rise largest [] are = omega arith
ids_rise largest (turn ∷ turns) are = omega (arith, ends_within largest turn.largest turn.births are.0, ids_rise turn.largest turns are.2)

rows_joined : (low middle high : ℕ) (front rest : List Row) → RowsAscend low middle front → RowsAscend middle high rest → RowsAscend low high (front ++ rest)
rows_joined low middle high [] rest ids more = lower rest more
  where
    lower : (rows : List Row) → RowsAscend middle high rows → RowsAscend low high rows
    lower [] h = omega (arith, ids, h)
    lower (row ∷ rows) h = (omega (arith, ids, h.0), h.1)
rows_joined low middle high (row ∷ front) rest ids more = (ids.0, rows_joined row.doc middle high front rest ids.1 more)

-- the births of turns ascend
pub births_ascend : (largest : ℕ) (turns : List Turn) → AreTurns largest turns → RowsAscend largest (largest_after largest turns) (births_of turns)
births_ascend largest [] are = omega arith
births_ascend largest (turn ∷ turns) are =
    rows_joined largest turn.largest (largest_after turn.largest turns) turn.births (births_of turns) are.0 (births_ascend turn.largest turns are.2)

pub among_all : (bound id : ℕ) (ids : List ℕ) → AllByRecursion (λ other. other ≤ bound) ids → has ids id ≡ true → id ≤ bound
among_all bound id [] h is = absurd (false≢true is)
among_all bound id (other ∷ ids) h is =
    ⊎_elim (λ (here : nat_eq id other ≡ true). (let same : id ≡ other = eqb-true id other here in omega (arith, same, h.0)))
    (λ (later : has ids id ≡ true). among_all bound id ids h.1 later)
    (or_cases (nat_eq id other) (has ids id) is)

-- who dies in turns had an id that was used
pub deaths_within : (largest id : ℕ) (turns : List Turn) → AreTurns largest turns → has (deaths_of turns) id ≡ true → id ≤ largest_after largest turns
deaths_within largest id [] are is = absurd (false≢true is)
deaths_within largest id (turn ∷ turns) are is =
    ⊎_elim
    (λ (here : has turn.deaths id ≡ true). (let low = among_all largest id turn.deaths (recursion_from_All (λ (other : ℕ). other ≤ largest) turn.deaths are.1) here in
    omega (arith, low, ends_within largest turn.largest turn.births are.0, ids_rise turn.largest turns are.2)))
    (λ (later : has (deaths_of turns) id ≡ true). deaths_within turn.largest id turns are.2 later)
    (or_cases (has turn.deaths id) (has (deaths_of turns) id) (sym (list_any-append (nat_eq id) turn.deaths (deaths_of turns)) ∙ is))

-- the one way to ask whether an id is among some, and the other
pub asked_so : (id : ℕ) (ids : List ℕ) → list_any (λ other. nat_eq other id) ids ≡ has ids id
asked_so id [] = refl
asked_so id (other ∷ ids) = ap₂ (λ (b c : Bool). b || c) (nat_eq_equiv.symm other id) (asked_so id ids)
