-- Reading nodes one behind another, as a loop does.
use Rattle.std.proofs.Common.{◌≡◌, ℕ, suc, ◌-◌, ◌+◌, ◌≤◌, ◌<◌, List, Result, Ok, Err, refl, sym, ap, ◌∙◌, arith}
use Rattle.fts_codec.specs.declared.fault.Fault.{Fault}
use Rattle.fts_codec.specs.declared.fault.Fault.TheVariants.{NoMemory, Bad}
use Rattle.fts_codec.specs.Fault.{Lacks}
use Rattle.fts_ixcodec.specs.Building.{Building}
use Rattle.fts_ixcodec.specs.Reading.{many_at}

-- none is read
pub begins : (one : Building → List ℕ → Result (Building × List ℕ) ℕ) (count : ℕ) (b : Building) (bytes : List ℕ) → many_at one (count - 0) b bytes ≡ many_at one count b bytes
begins one count b bytes =
    let all : count - 0 ≡ count = omega arith in
    ap (λ (n : ℕ). many_at one n b bytes) all

module _ (one : Building → List ℕ → Result (Building × List ℕ) ℕ) (count i : ℕ) (b : Building) (bytes : List ℕ) (total : Result (Building × List ℕ) ℕ) where
  -- one more is read
  pub goes_on : (b' : Building) (after : List ℕ) → i < count → one b bytes ≡ Ok (b', after)
      → many_at one (count - i) b bytes ≡ total → many_at one (count - (i + 1)) b' after ≡ total
  unfolding many_at
  goes_on b' after lt h so_far =
      let k : count - i ≡ suc (count - (i + 1)) = omega arith in
      let step : many_at one (count - i) b bytes ≡ many_at one (count - (i + 1)) b' after = rw (k, h) refl in
      sym step ∙ so_far

  -- none stands there, or memory ran out
  pub ends : (e : Fault) → i < count → Lacks e (one b bytes) → many_at one (count - i) b bytes ≡ total → Lacks e total
  unfolding many_at
  ends NoMemory lt h so_far = tt
  ends (Bad left) lt h so_far =
      let k : count - i ≡ suc (count - (i + 1)) = omega arith in
      let step : many_at one (count - i) b bytes ≡ Err left = rw (k, h) refl in
      sym so_far ∙ step

  -- all are read
  pub is_done : count ≤ i → many_at one (count - i) b bytes ≡ total → total ≡ Ok (b, bytes)
  unfolding many_at
  is_done le so_far =
      let k : count - i ≡ 0 = omega arith in
      let step : many_at one (count - i) b bytes ≡ Ok (b, bytes) = rw k refl in
      sym so_far ∙ step
