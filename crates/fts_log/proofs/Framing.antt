-- A payload in the bytes of a frame.
use Rattle.std.proofs.Common.{◌≡◌, ℕ, ◌-◌, ◌≤◌, List, [], ◌∷◌, ◌++◌, length, drop, refl, sym, ◌∙◌, ap, length-append, arith}
use Rattle.std.specs.Prelude.{slice_set}
use Rattle.std.proofs.lemmas.List.{take-append-drop, length-drop, length-take-le, set-append_right}
use Rattle.std.specs.Int.{w32, to_be_bytes}
use Rattle.fts_log.specs.Framing.{staged, inner}

set_one : (xs : List ℕ) → length xs ≡ 1 → slice_set xs 0 0 ≡ 0 ∷ []
set_one [] one = absurd (omega arith)
set_one (x ∷ []) one = refl
set_one (x ∷ y ∷ xs) one = absurd (omega arith)

-- the length written over the first four bytes, and a closed gate over the last
pub staged_around : (old mid new : List ℕ) (last count : ℕ) → 5 ≤ length old → last ≡ length old - 1 → count ≡ last - 4
    → mid ≡ to_be_bytes w32 count ++ drop 4 old → new ≡ slice_set mid last 0 → new ≡ staged (inner old)
staged_around old mid new last count room last_is count_is mid_is new_is =
    let rest = drop 4 old in
    let n = length old - 5 in
    let p = inner old in
    let rest_size : length rest ≡ length old - 4 = length-drop 4 old in
    let p_size : length p ≡ n = length-take-le n rest (omega arith) in
    let front = to_be_bytes w32 count ++ p in
    let front_size : length front ≡ last = omega (arith, length-append (to_be_bytes w32 count) p) in
    let split : mid ≡ front ++ drop n rest = mid_is ∙ ap (λ (xs : List ℕ). to_be_bytes w32 count ++ xs) (sym (take-append-drop n rest)) in
    let one : length (drop n rest) ≡ 1 = omega (arith, length-drop n rest) in
    let set_is : slice_set (front ++ drop n rest) last 0 ≡ front ++ slice_set (drop n rest) (last - last) 0 = set-append_right front (drop n rest) last last 0 front_size (omega arith) in
    let zero_is : last - last ≡ 0 = omega arith in
    let count_of : count ≡ length p = omega arith in
    new_is ∙ ap (λ (xs : List ℕ). slice_set xs last 0) split ∙ set_is
    ∙ ap (λ (k : ℕ). front ++ slice_set (drop n rest) k 0) zero_is
    ∙ ap (λ (xs : List ℕ). front ++ xs) (set_one (drop n rest) one)
    ∙ ap (λ (k : ℕ). to_be_bytes w32 k ++ p ++ 0 ∷ []) count_of
