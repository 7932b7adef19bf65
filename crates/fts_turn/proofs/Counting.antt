-- The history is as long as all that the seats gave.
use Rattle.std.proofs.Common.{◌≡◌, ◌≢◌, ℕ, zero, suc, ◌+◌, ◌<◌, ◌≤◌, cond, List, [], ◌∷◌, length, sum_by, refl, sym, ap, ◌∙◌, eq-eqb, ne_eqb, arith}
use Rattle.std.proofs.lemmas.List.Sums.{sum_by-cons}
use mathlib.Core.Logic.{dite}
use native.Mathlib.Decide.{ℕ_discrete, dec_lt}
use Rattle.fts_turn.specs.declared.seat.Seat.{Seat}
use Rattle.fts_turn.specs.declared.turn.Turns.{Turns}
use Rattle.fts_turn.specs.Histories.{entries_by, NoneFrom}
use Rattle.fts_turn.specs.Promises.{seat_gave, seats_of, IsToldBy, Numbered, HasWholeHistory}

module _ {E : Type 0} (by : E → ℕ) where
  by_this : (k : ℕ) (e : E) (history : List E) → by e ≡ k → entries_by by k (e ∷ history) ≡ e ∷ entries_by by k history
  by_this k e history same = ap (λ b. cond b (e ∷ entries_by by k history) (entries_by by k history)) (eq-eqb (by e) k same)

  by_other : (k : ℕ) (e : E) (history : List E) → by e ≢ k → entries_by by k (e ∷ history) ≡ entries_by by k history
  by_other k e history apart = ap (λ b. cond b (e ∷ entries_by by k history) (entries_by by k history)) (ne_eqb (by e) k apart)

  -- how many entries the n seats from k on made
  abbrev count_from : ℕ → ℕ → List E → ℕ
  count_from k zero history = 0
  count_from k (suc n) history = length (entries_by by k history) + count_from (suc k) n history

  none_counted : (k n : ℕ) → count_from k n [] ≡ 0
  none_counted k zero = refl
  none_counted k (suc n) = let e = none_counted (suc k) n in omega arith

  counted_below : (k n : ℕ) (e : E) (history : List E) → by e < k → count_from k n (e ∷ history) ≡ count_from k n history
  counted_below k zero e history below = refl
  counted_below k (suc n) e history below =
      let here = ap length (by_other k e history (λ same. omega arith)) in
      let rest = counted_below (suc k) n e history (omega arith) in
      omega arith

  counted_within : (k n : ℕ) (e : E) (history : List E) → k ≤ by e → by e < k + n → count_from k n (e ∷ history) ≡ suc (count_from k n history)
  counted_within k zero e history low high = absurd (omega arith)
  counted_within k (suc n) e history low high =
      dite (ℕ_discrete (by e) k)
      (λ (same : by e ≡ k).
      let here = ap length (by_this k e history same) in
      let rest = counted_below (suc k) n e history (omega arith) in
      omega arith)
      (λ (apart : ¬ (by e ≡ k)).
      let here = ap length (by_other k e history apart) in
      let rest = counted_within (suc k) n e history (omega arith) (omega arith) in
      omega arith)

  -- a longer history that has none has none in its rest
  none_after : (n : ℕ) (e : E) (history : List E) → NoneFrom by n (e ∷ history) → by e < n
  none_after n e history none =
      dite (dec_lt (by e) n)
      (λ (below : by e < n). below)
      (λ (above : ¬ (by e < n)). let all = sym (by_this (by e) e history refl) ∙ none (by e) (omega arith) in absurd (cc))

  counted_all : (n : ℕ) (history : List E) → NoneFrom by n history → length history ≡ count_from 0 n history
  counted_all n [] none = sym (none_counted 0 n)
  counted_all n (e ∷ history) none =
      let below = none_after n e history none in
      let rest = counted_all n history (λ k above. sym (by_other k e history (λ same. omega arith)) ∙ none k above) in
      let more = counted_within 0 n e history (omega arith) (omega arith) in
      omega arith

  counted_by_seats : {T : Type 0} (history : List E) (k : ℕ) (seats : List (Seat T E)) → Numbered (IsToldBy by history) k seats → sum_by (λ (seat : Seat T E). length (seat_gave seat)) seats ≡ count_from k (length seats) history
  counted_by_seats history k [] told = refl
  counted_by_seats {T} history k (seat ∷ seats) told =
      let here = ap length told.0.gave in
      let rest = counted_by_seats history (suc k) seats told.1 in
      omega (arith, sum_by-cons (λ (s : Seat T E). length (seat_gave s)) seat seats)

pub length-of_whole : {T E : Type 0} (stands_for : T → T → List E → Type 0) (by : E → ℕ) (turn : Turns T E) (seats : List (Seat T E)) (value : T) → length seats ≡ seats_of turn → (whole : HasWholeHistory stands_for by turn seats value) → length whole.history ≡ sum_by (λ (seat : Seat T E). length (seat_gave seat)) seats
length-of_whole stands_for by turn seats value count whole =
    counted_all by (seats_of turn) whole.history whole.no_others
    ∙ ap (λ n. count_from by 0 n whole.history) (sym count)
    ∙ sym (counted_by_seats by whole.history 0 seats whole.seats_are)
