-- Reading names one after the other, as a loop does.
use Rattle.std.proofs.Common.{◌≡◌, ℕ, suc, ◌-◌, ◌+◌, ◌≤◌, ◌<◌, List, [], ◌∷◌, ◌++◌, Result, Ok, Err, refl, sym, ap, ◌∙◌, arith}
use Rattle.fts_codec.specs.declared.fault.Fault.{Fault}
use Rattle.fts_codec.specs.declared.fault.Fault.TheVariants.{NoMemory, Bad}
use Rattle.fts_codec.specs.Fault.{Lacks}
use Rattle.fts_rowcodec.specs.Reading.{name_at, names_from}

-- none is read
pub begins : (count : ℕ) (bytes : List ℕ) → names_from [] (count - 0) bytes ≡ names_from [] count bytes
begins count bytes =
    let all : count - 0 ≡ count = omega arith in
    ap (λ (n : ℕ). names_from [] n bytes) all

module _ (names : List (List ℕ)) (count i : ℕ) (bytes : List ℕ) (total : Result (List (List ℕ) × List ℕ) ℕ) where
  -- one more is read
  pub goes_on : (name after : List ℕ) → i < count → name_at names bytes ≡ Ok (name, after)
      → names_from names (count - i) bytes ≡ total → names_from (names ++ name ∷ []) (count - (i + 1)) after ≡ total
  unfolding names_from
  goes_on name after lt h so_far =
      let k : count - i ≡ suc (count - (i + 1)) = omega arith in
      let step : names_from names (count - i) bytes ≡ names_from (names ++ name ∷ []) (count - (i + 1)) after = rw (k, h) refl in
      sym step ∙ so_far

  -- none stands there, or memory ran out
  pub ends : (e : Fault) → i < count → Lacks e (name_at names bytes) → names_from names (count - i) bytes ≡ total → Lacks e total
  unfolding names_from
  ends NoMemory lt h so_far = tt
  ends (Bad left) lt h so_far =
      let k : count - i ≡ suc (count - (i + 1)) = omega arith in
      let step : names_from names (count - i) bytes ≡ Err left = rw (k, h) refl in
      sym so_far ∙ step

  -- all are read
  pub is_done : count ≤ i → names_from names (count - i) bytes ≡ total → total ≡ Ok (names, bytes)
  unfolding names_from
  is_done le so_far =
      let k : count - i ≡ 0 = omega arith in
      let step : names_from names (count - i) bytes ≡ Ok (names, bytes) = rw k refl in
      sym so_far ∙ step
