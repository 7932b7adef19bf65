-- Seats with their work, and each by itself.
use Rattle.std.proofs.Common.{◌≡◌, ◌<◌, ℕ, zero, suc, List, [], ◌∷◌, ◌++◌, length, ap, ◌∙◌, subst, sym, refl, arith, All, slice_index_or, append-nil, take, drop, Option, Some, None}
use Rattle.std.proofs.lemmas.List.{drop_all, take_all}
use Rattle.fts_disk.specs.declared.disk.Disk.{Ghosts}
use Rattle.fts_steps.specs.Running.{Entry}
use Rattle.fts_turn.specs.declared.turn.Turns.{Turns}
use Rattle.fts_turn.specs.declared.seat.Seat.{Seat}
use Rattle.fts_turn.specs.Promises.{IsSeat, Numbered}
use Rattle.fts_io.specs.Text.{Line}
use Rattle.fts_shared.specs.declared.at_turn.AtTurn.{AtTurn}
use Rattle.fts_shared.specs.declared.joined.Place.{Place}
use Rattle.fts_shared.specs.declared.work.Work.{Work}
use Rattle.fts_shared.specs.Places.{Pairwise, at_place, at_places, IsReady, HasSeat, HasTalked, IsDone, AreDone}

no_length : {A : Type 0} (x : A) (xs : List A) → 0 ≡ length (x ∷ xs) → ⊥
no_length x xs is = omega (arith, is)

some_length : {A : Type 0} (x : A) (xs : List A) → length (x ∷ xs) ≡ 0 → ⊥
some_length x xs is = omega (arith, is)

less_length : {A B : Type 0} (x : A) (y : B) (xs : List A) (ys : List B) → length (x ∷ xs) ≡ length (y ∷ ys) → length xs ≡ length ys
less_length x y xs ys is = omega (arith, is)

-- two lists of one length, of which each pair is so
pub pairwise : {A : Type 0} (P : A → A → Type 0) (xs ys : List A) → length ys ≡ length xs
    → ((i : ℕ) (d : A) → i < length xs → P (slice_index_or xs i d) (slice_index_or ys i d)) → Pairwise P xs ys
pairwise P [] [] same each = tt
pairwise P [] (y ∷ ys) same each = some_length y ys same
pairwise P (x ∷ xs) [] same each = no_length x xs same
pairwise P (x ∷ xs) (y ∷ ys) same each =
    (each 0 x (omega arith), pairwise P xs ys (less_length y x ys xs same) (λ i d less. each (suc i) d (omega (arith, less))))

pub as_long : {A : Type 0} (P : A → A → Type 0) (xs ys : List A) → Pairwise P xs ys → length ys ≡ length xs
as_long P [] [] pairs = refl
as_long P [] (y ∷ ys) pairs = absurd pairs
as_long P (x ∷ xs) [] pairs = absurd pairs
as_long P (x ∷ xs) (y ∷ ys) pairs = ap suc (as_long P xs ys pairs.1)

-- a list that was written over another of its length
pub all_written : {A : Type 0} (n : ℕ) (xs ys : List A) → length ys ≡ length xs → n ≡ length xs → take n (ys ++ drop (length ys) xs) ≡ ys
all_written {A} n xs ys same is =
    ap (λ (rest : List A). take n (ys ++ rest)) (drop_all (length ys) xs (omega (arith, same)))
    ∙ ap (take n) (append-nil ys) ∙ take_all n ys (omega (arith, same, is))

module _ {D E : Type 0} {rows : Ghosts D} {index : Ghosts E} where
  abbrev or_else : Seat (AtTurn D E rows index) Entry → Option (Seat (AtTurn D E rows index) Entry) → Seat (AtTurn D E rows index) Entry
  or_else d (Some x) = x
  or_else d None = d

  abbrev placed : Option (Seat (AtTurn D E rows index) Entry) → Work → Place D E rows index
  placed seat work = record { seat = seat; work = work }

  -- a place at which this seat stands
  pub is_place : (place : Place D E rows index) (seat : Seat (AtTurn D E rows index) Entry) → place.seat ≡ Some seat → place ≡ at_place seat place.work
  is_place place seat has = ap (λ (s : Option (Seat (AtTurn D E rows index) Entry)). placed s place.work) has

  -- the last of both
  pub places_more : (seats : List (Seat (AtTurn D E rows index) Entry)) (works : List Work) (seat : Seat (AtTurn D E rows index) Entry) (work : Work) → length seats ≡ length works
      → at_places (seats ++ seat ∷ []) (works ++ work ∷ []) ≡ at_places seats works ++ at_place seat work ∷ []
  places_more [] [] seat work same = refl
  places_more [] (w ∷ works) seat work same = absurd (no_length w works same)
  places_more (s ∷ seats) [] seat work same = absurd (some_length s seats same)
  places_more (s ∷ seats) (w ∷ works) seat work same = ap (λ (places : List (Place D E rows index)). at_place s w ∷ places) (places_more seats works seat work (less_length s w seats works same))

  pub as_many : (seats : List (Seat (AtTurn D E rows index) Entry)) (works : List Work) → length seats ≡ length works → length (at_places {rows = rows} {index = index} seats works) ≡ length seats
  as_many [] works same = refl
  as_many (s ∷ seats) [] same = absurd (some_length s seats same)
  as_many (s ∷ seats) (w ∷ works) same = ap suc (as_many seats works (less_length s w seats works same))

  module _ (lines : List Line) (turn : Turns (AtTurn D E rows index) Entry) where
    pub all_ready : (k : ℕ) (seats : List (Seat (AtTurn D E rows index) Entry)) (works : List Work) → Numbered (IsSeat turn) k seats → All (IsReady turn) (at_places seats works)
    all_ready k [] works are i d less = absurd (omega (arith, less))
    all_ready k (s ∷ seats) [] are i d less = absurd (omega (arith, less))
    all_ready k (s ∷ seats) (w ∷ works) are zero d less = record { seat = s; has = refl; rest = are.0.rest }
    all_ready k (s ∷ seats) (w ∷ works) are (suc i) d less = all_ready (suc k) seats works are.1 i d (omega (arith, less))

    pub all_seated : (olds news : List (Place D E rows index)) → Pairwise (HasTalked lines turn) olds news → All HasSeat news
    all_seated [] [] talked i d less = absurd (omega (arith, less))
    all_seated [] (n ∷ news) talked i d less = absurd talked
    all_seated (o ∷ olds) [] talked i d less = absurd talked
    all_seated (o ∷ olds) (n ∷ news) talked zero d less = record { seat = talked.0.seat'; has = talked.0.has' }
    all_seated (o ∷ olds) (n ∷ news) talked (suc i) d less = all_seated olds news talked.1 i d (omega (arith, less))

    -- a seat that stands in a place
    one_seat : (a b : Seat (AtTurn D E rows index) Entry) → Some a ≡ Some b → a ≡ b
    one_seat a b is = ap (or_else a) is

    done : (seat seat' : Seat (AtTurn D E rows index) Entry) (work work' : Work) → HasTalked lines turn (at_place seat work) (at_place seat' work') → IsDone lines turn seat seat' work work'
    done seat seat' work work' talked =
        subst (λ (s : Seat (AtTurn D E rows index) Entry). IsDone lines turn s seat' work work') (sym (one_seat seat talked.seat talked.has))
        (subst (λ (s : Seat (AtTurn D E rows index) Entry). IsDone lines turn talked.seat s work work') (sym (one_seat seat' talked.seat' talked.has')) talked.done)

    -- each at its place is each of them
    pub all_done : (seats seats' : List (Seat (AtTurn D E rows index) Entry)) (works works' : List Work) → length seats ≡ length works → length seats' ≡ length works'
        → Pairwise (HasTalked lines turn) (at_places seats works) (at_places seats' works') → AreDone lines turn seats works seats' works'
    all_done [] [] [] [] same same' talked = tt
    all_done [] [] [] (w' ∷ works') same same' talked = no_length w' works' same'
    all_done [] seats' (w ∷ works) works' same same' talked = absurd (no_length w works same)
    all_done [] (s' ∷ seats') [] [] same same' talked = some_length s' seats' same'
    all_done [] (s' ∷ seats') [] (w' ∷ works') same same' talked = talked
    all_done (s ∷ seats) seats' [] works' same same' talked = absurd (some_length s seats same)
    all_done (s ∷ seats) [] (w ∷ works) works' same same' talked = absurd talked
    all_done (s ∷ seats) (s' ∷ seats') (w ∷ works) [] same same' talked = some_length s' seats' same'
    all_done (s ∷ seats) (s' ∷ seats') (w ∷ works) (w' ∷ works') same same' talked =
        (done s s' w w' talked.0, all_done seats seats' works works' (less_length s w seats works same) (less_length s' w' seats' works' same') talked.1)
