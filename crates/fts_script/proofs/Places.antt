-- Where the lines of sessions stand, and what is put there.
use Rattle.std.proofs.Common.{◌≡◌, ℕ, zero, suc, ◌+◌, ◌<◌, List, [], ◌∷◌, ◌++◌, length, inl, inr, refl, ap, sym, subst, ◌∙◌, arith, Some, None}
use Rattle.std.proofs.lemmas.Option.{slice_get-map, slice_get_within, get_or_from_slice_get}
use Rattle.std.proofs.lemmas.List.{length-map}
use Rattle.std.specs.Prelude.{◌≢◌, replicate, slice_get, slice_index_or, slice_set}
use Rattle.std.specs.Option.{option_map}
use Rattle.fts_io.specs.Text.{Line}
use Rattle.fts_script.specs.Sessions.{IsOf}
use Rattle.fts_script.specs.Group.{Share, numbers_in, StandAt, IsGrouping}
use Rattle.fts_script.specs.Merge.{AreApart}
use Rattle.fts_script.proofs.Counting.{whose}

some_same : {X : Type 0} (a b : X) → Some a ≡ Some b → a ≡ b
some_same a b e = cc

none_some : {X : Type 0} (a : X) → None ≡ Some a → ⊥
none_some a e = cc

-- a place of a session is that of a line of it
record IsOwn (number place : ℕ) (lines : List Line) (at : ℕ) : Type 0 where
  behind : ℕ
  is : at ≡ place + behind
  line : Line
  here : slice_get lines behind ≡ Some line
  of : IsOf line (Some number)

own_line : (number place : ℕ) (lines : List Line) (places : List ℕ) → StandAt number place lines places → (j at : ℕ) → slice_get places j ≡ Some at → IsOwn number place lines at
own_line number place [] places none j at is = absurd (none_some at (ap (λ (p : List ℕ). slice_get p j) (sym none) ∙ is))
own_line number place (line ∷ lines) places (inl (more, of, same, rest)) j at is =
    by_place j (λ k there. own_line number (place + 1) lines more rest k at there) (ap (λ (p : List ℕ). slice_get p j) (sym same) ∙ is)
  where
    by_place : (j : ℕ) → ((k : ℕ) → slice_get more k ≡ Some at → IsOwn number (place + 1) lines at) → slice_get (place ∷ more) j ≡ Some at → IsOwn number place (line ∷ lines) at
    by_place zero behind is = record { behind = 0; is = (let first = some_same place at is in omega (arith, first)); line = line; here = refl; of = of }
    by_place (suc j) behind is = let own = behind j is in
        record { behind = suc own.behind; is = (let there = own.is in omega (arith, there)); line = own.line; here = own.here; of = own.of }
own_line number place (line ∷ lines) places (inr (other, rest)) j at is =
    let own = own_line number (place + 1) lines places rest j at is in
    record { behind = suc own.behind; is = (let there = own.is in omega (arith, there)); line = own.line; here = own.here; of = own.of }

-- each stands once
stand_apart : (number place : ℕ) (lines : List Line) (places : List ℕ) → StandAt number place lines places → AreApart places
stand_apart number place [] places none i j at one other = absurd (none_some at (ap (λ (p : List ℕ). slice_get p i) (sym none) ∙ one))
stand_apart number place (line ∷ lines) places (inl (more, of, same, rest)) i j at one other =
    by_places i j (λ k there. own_line number (place + 1) lines more rest k at there) (λ k k' here there. stand_apart number (place + 1) lines more rest k k' at here there)
    (ap (λ (p : List ℕ). slice_get p i) (sym same) ∙ one) (ap (λ (p : List ℕ). slice_get p j) (sym same) ∙ other)
  where
    by_places : (i j : ℕ) → ((k : ℕ) → slice_get more k ≡ Some at → IsOwn number (place + 1) lines at)
        → ((k k' : ℕ) → slice_get more k ≡ Some at → slice_get more k' ≡ Some at → k ≡ k') → slice_get (place ∷ more) i ≡ Some at → slice_get (place ∷ more) j ≡ Some at → i ≡ j
    by_places zero zero behind apart one other = refl
    by_places zero (suc j) behind apart one other = let own = behind j other in let there = own.is in let first = some_same place at one in absurd (omega (arith, there, first))
    by_places (suc i) zero behind apart one other = let own = behind i one in let there = own.is in let first = some_same place at other in absurd (omega (arith, there, first))
    by_places (suc i) (suc j) behind apart one other = ap suc (apart i j one other)
stand_apart number place (line ∷ lines) places (inr (not_its, rest)) i j at one other = stand_apart number (place + 1) lines places rest i j at one other

-- in a script that was grouped
module _ (lines : List Line) (shares : List Share) (is : IsGrouping lines shares) where
  stands : (k : ℕ) (one : Share) → slice_get shares k ≡ Some one → StandAt one.number 0 lines one.places
  stands k one here =
      subst (λ (s : Share). StandAt s.number 0 lines s.places) (get_or_from_slice_get shares k one one here) (is.places k one (slice_get_within shares k one here))

  number_at : (k d : ℕ) (one : Share) → slice_get shares k ≡ Some one → slice_index_or (numbers_in shares) k d ≡ one.number
  number_at k d one here =
      get_or_from_slice_get (numbers_in shares) k one.number d (slice_get-map (λ (s : Share). s.number) shares k ∙ ap (option_map (λ (s : Share). s.number)) here)

  pub apart_at : (k : ℕ) (one : Share) → slice_get shares k ≡ Some one → AreApart one.places
  apart_at k one here = stand_apart one.number 0 lines one.places (stands k one here)

  pub line_at : (k j place : ℕ) (one : Share) → slice_get shares k ≡ Some one → slice_get one.places j ≡ Some place
      → (line : Line) × (slice_get lines place ≡ Some line) × IsOf line (Some one.number)
  line_at k j place one here at =
      let own = own_line one.number 0 lines one.places (stands k one here) j place at in
      (own.line, ap (slice_get lines) (let e = own.is in let same : place ≡ own.behind = omega (arith, e) in same) ∙ own.here, own.of)

  below_differs : (k k' : ℕ) (one other : Share) → k < k' → slice_get shares k ≡ Some one → slice_get shares k' ≡ Some other → one.number ≢ other.number
  below_differs k k' one other less here there same =
      let within : k' < length (numbers_in shares) =
      (let short = slice_get_within shares k' other there in let count = length-map shares (λ (s : Share). s.number) in omega (arith, short, count)) in
      is.differ k k' 0 less within (number_at k 0 one here ∙ same ∙ sym (number_at k' 0 other there))

  -- a place is that of one session
  pub one_share : (k k' j j' place : ℕ) (one other : Share) → k < k' → slice_get shares k ≡ Some one → slice_get shares k' ≡ Some other
      → slice_get one.places j ≡ Some place → slice_get other.places j' ≡ Some place → ⊥
  one_share k k' j j' place one other less here there at at' =
      let first = line_at k j place one here at in
      let second = line_at k' j' place other there at' in
      let same = some_same first.0 second.0 (sym first.1 ∙ second.1) in
      below_differs k k' one other less here there
      (some_same one.number other.number (whose second.0 (Some one.number) (Some other.number) (subst (λ (l : Line). IsOf l (Some one.number)) same first.2) second.2))

-- what stands where something was put
pub set_same : {X : Type 0} (xs : List X) (i : ℕ) (x : X) → i < length xs → slice_get (slice_set xs i x) i ≡ Some x
set_same [] i x less = absurd (omega (arith, less))
set_same (y ∷ xs) zero x less = refl
set_same (y ∷ xs) (suc i) x less = set_same xs i x (omega (arith, less))

pub set_other : {X : Type 0} (xs : List X) (i j : ℕ) (x : X) → (i ≡ j → ⊥) → slice_get (slice_set xs i x) j ≡ slice_get xs j
set_other [] i j x other = refl
set_other (y ∷ xs) zero zero x other = absurd (other refl)
set_other (y ∷ xs) zero (suc j) x other = refl
set_other (y ∷ xs) (suc i) zero x other = refl
set_other (y ∷ xs) (suc i) (suc j) x other = set_other xs i j x (λ e. other (ap suc e))

pub get_replicate : {X : Type 0} (n i : ℕ) (x : X) → i < n → slice_get (replicate n x) i ≡ Some x
get_replicate zero i x less = absurd (omega (arith, less))
get_replicate (suc n) zero x less = refl
get_replicate (suc n) (suc i) x less = get_replicate n i x (omega (arith, less))

pub get_last : {X : Type 0} (xs ys : List X) (x : X) → slice_get (xs ++ x ∷ ys) (length xs) ≡ Some x
get_last [] ys x = refl
get_last (y ∷ xs) ys x = get_last xs ys x

pub length_replicate : {X : Type 0} (n : ℕ) (x : X) → length (replicate n x) ≡ n
length_replicate zero x = refl
length_replicate (suc n) x = ap suc (length_replicate n x)
