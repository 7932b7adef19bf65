-- Reading values one after the other, as a loop does.
use Rattle.std.proofs.Common.{◌≡◌, ℕ, suc, ◌-◌, ◌+◌, ◌≤◌, ◌<◌, List, [], ◌∷◌, ◌++◌, Result, Ok, Err, refl, sym, ap, ◌∙◌, append_assoc, arith}
use Rattle.std.proofs.lemmas.List.{append-nil}
use Rattle.fts_codec.specs.declared.fault.Fault.{Fault}
use Rattle.fts_codec.specs.declared.fault.Fault.TheVariants.{NoMemory, Bad}
use Rattle.fts_codec.specs.Fault.{Lacks}
use Rattle.fts_codec.specs.Fields.{◌>>=◌, many_at}

-- what was read before, and what is still read
abbrev pub with_front : {X : Type 0} → List X → Result (List X × List ℕ) ℕ → Result (List X × List ℕ) ℕ
with_front front read = read >>= λ x. Ok (front ++ x.0, x.1)

regroup : {X : Type 0} (front : List X) (n : X) (read : Result (List X × List ℕ) ℕ) → with_front front (read >>= λ x. Ok (n ∷ x.0, x.1)) ≡ with_front (front ++ n ∷ []) read
regroup {X = X} front n (Ok x) = ap (λ (xs : List X). Ok (xs, x.1)) (simp append_assoc)
regroup front n (Err left) = refl

nothing : {X : Type 0} (read : Result (List X × List ℕ) ℕ) → with_front [] read ≡ read
nothing (Ok x) = refl
nothing (Err left) = refl

-- none is read
pub begins : {X : Type 0} (one : List ℕ → Result (X × List ℕ) ℕ) (count : ℕ) (bytes : List ℕ) → with_front [] (many_at one (count - 0) bytes) ≡ many_at one count bytes
begins one count bytes =
    let all : count - 0 ≡ count = omega arith in
    nothing (many_at one (count - 0) bytes) ∙ ap (λ (n : ℕ). many_at one n bytes) all

module _ {X : Type 0} (one : List ℕ → Result (X × List ℕ) ℕ) (front : List X) (count i : ℕ) (bytes : List ℕ) (total : Result (List X × List ℕ) ℕ) where
  -- one more is read
  pub goes_on : (x : X) (after : List ℕ) → i < count → one bytes ≡ Ok (x, after)
      → with_front front (many_at one (count - i) bytes) ≡ total → with_front (front ++ x ∷ []) (many_at one (count - (i + 1)) after) ≡ total
  unfolding many_at
  goes_on x after lt h so_far =
      let k : count - i ≡ suc (count - (i + 1)) = omega arith in
      let step : with_front front (many_at one (count - i) bytes) ≡ with_front (front ++ x ∷ []) (many_at one (count - (i + 1)) after) = rw (k, h) (regroup front x (many_at one (count - (i + 1)) after)) in
      sym step ∙ so_far

  -- none stands there, or memory ran out
  pub ends : (e : Fault) → i < count → Lacks e (one bytes) → with_front front (many_at one (count - i) bytes) ≡ total → Lacks e total
  unfolding many_at
  ends NoMemory lt h so_far = tt
  ends (Bad left) lt h so_far =
      let k : count - i ≡ suc (count - (i + 1)) = omega arith in
      let step : with_front front (many_at one (count - i) bytes) ≡ Err left = rw (k, h) refl in
      sym so_far ∙ step

  -- all are read
  pub is_done : count ≤ i → with_front front (many_at one (count - i) bytes) ≡ total → total ≡ Ok (front, bytes)
  unfolding many_at
  is_done le so_far =
      let k : count - i ≡ 0 = omega arith in
      let step : with_front front (many_at one (count - i) bytes) ≡ Ok (front, bytes) = rw k (ap (λ (xs : List X). Ok (xs, bytes)) (append-nil front)) in
      sym so_far ∙ step
