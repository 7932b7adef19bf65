-- From the mask of sixteen places to the first at which a document ends.
use Rattle.std.proofs.Common.{◌≡◌, ℕ, ◌+◌, ◌%◌, ◌^◌, ◌<◌, ◌≤◌, eqb, leb, cond, Bool, true, false, not, List, map, length, get_or, replicate, bit_and, refl, sym, ap, ap₂, ◌∙◌, subst, arith, inl, inr}
use Rattle.std.proofs.lemmas.Bool.{not-true, not-false, cases_lt, lt-ltb, le-ltb}
use Rattle.std.proofs.lemmas.Simd.{zip2_splat, zip2_splat_left, length-zip2, get_or-zip2, mask_l-mod, length-chunk, get_or-chunk, first_set_mask_l}
use Rattle.std.proofs.lemmas.List.{length-map, get_or-map}
use Rattle.std.proofs.lemmas.List.Sums.{prefix_len-le-length, prefix_len_passes, prefix_len_stops}
use Rattle.std.specs.List.{prefix_len}
use lib.Lanes.{chunk, zip2, mask_l, top}
use Rattle.fts_ilist.specs.Progress.{is_end, first_set}

abbrev at_least : ℕ → ℕ → ℕ
at_least a b = cond (leb a b) 255 0

abbrev equal : ℕ → ℕ → ℕ
equal a b = cond (eqb a b) 255 0

low : (x : Bool) → top 7 (bit_and 0 (cond x 255 0)) ≡ false
low true = refl
low false = refl

high : (x : Bool) → top 7 (bit_and 255 (cond x 255 0)) ≡ x
high true = refl
high false = refl

below : (b : ℕ) → b < 128 → leb 128 b ≡ false
below b h = grind arith

above : (b : ℕ) → 128 ≤ b → leb 128 b ≡ true
above b h = grind arith

-- what a lane tells of a byte and the one behind it
test_is : (b z : ℕ) → top 7 (bit_and (at_least 128 b) (equal z 0)) ≡ is_end b z
test_is b z =
    elim (cases_lt b 128) [
      | inl lt ↦ ap (λ (t : Bool). top 7 (bit_and (cond t 255 0) (equal z 0))) (below b lt) ∙ low (eqb z 0) ∙ sym (ap (λ (t : Bool). cond t false (eqb z 0)) (lt-ltb b 128 lt))
      | inr le ↦ ap (λ (t : Bool). top 7 (bit_and (cond t 255 0) (equal z 0))) (above b le) ∙ high (eqb z 0) ∙ sym (ap (λ (t : Bool). cond t false (eqb z 0)) (le-ltb b 128 le))
    ]

module _ (s : List ℕ) (r : ℕ) (room : 17 ≤ length s)
    (found : r ≡ first_set (mask_l (map (top 7) (zip2 bit_and (zip2 at_least (replicate 16 128) (chunk 0 16 s)) (zip2 equal (chunk 1 16 s) (replicate 16 0)))) % 2 ^ 64)) where
  abbrev here : List ℕ
  here = chunk 0 16 s

  abbrev next : List ℕ
  next = chunk 1 16 s

  abbrev ends : List ℕ
  ends = map (λ x. at_least 128 x) here

  abbrev zeros : List ℕ
  zeros = map (λ x. equal x 0) next

  abbrev lanes : List ℕ
  lanes = zip2 bit_and ends zeros

  long_here : length here ≡ 16
  long_here = length-chunk 0 16 s (omega (arith, room))

  long_next : length next ≡ 16
  long_next = length-chunk 1 16 s (omega (arith, room))

  long_ends : length ends ≡ 16
  long_ends = length-map here (λ x. at_least 128 x) ∙ long_here

  long_zeros : length zeros ≡ 16
  long_zeros = length-map next (λ x. equal x 0) ∙ long_next

  long : length lanes ≡ 16
  long = length-zip2 bit_and ends zeros (long_ends ∙ sym long_zeros) ∙ long_ends

  counted : r ≡ prefix_len (λ x. not (top 7 x)) lanes
  counted =
      found
      ∙ ap (λ (l : List ℕ). first_set (mask_l (map (top 7) l) % 2 ^ 64)) (ap₂ (zip2 bit_and) (zip2_splat_left at_least 128 16 here long_here) (zip2_splat equal next 16 0 long_next))
      ∙ ap first_set (mask_l-mod (map (top 7) lanes) 64 (omega (arith, length-map lanes (top 7), long)))
      ∙ first_set_mask_l (top 7) lanes 16 long (omega arith)

  lane : (k : ℕ) → k < 16 → top 7 (get_or lanes k 0) ≡ is_end (get_or s k 0) (get_or s (k + 1) 0)
  lane k less =
      let first : 0 + k ≡ k = omega arith in
      let second : 1 + k ≡ k + 1 = omega arith in
      let left = get_or-map (λ x. at_least 128 x) here k 0 0 (omega (arith, long_here, less)) ∙ ap (λ x. at_least 128 x) (get_or-chunk 0 16 s k 0 less ∙ ap (λ i. get_or s i 0) first) in
      let right = get_or-map (λ x. equal x 0) next k 0 0 (omega (arith, long_next, less)) ∙ ap (λ x. equal x 0) (get_or-chunk 1 16 s k 0 less ∙ ap (λ i. get_or s i 0) second) in
      ap (top 7) (get_or-zip2 bit_and ends zeros k 0 0 0 (omega (arith, long_ends, less)) (omega (arith, long_zeros, less)) ∙ ap₂ bit_and left right)
      ∙ test_is (get_or s k 0) (get_or s (k + 1) 0)

  pub run_within : r ≤ 16
  run_within = omega (arith, counted, long, prefix_len-le-length (λ x. not (top 7 x)) lanes)

  pub run_none : (k : ℕ) → k < r → is_end (get_or s k 0) (get_or s (k + 1) 0) ≡ false
  run_none k less =
      sym (lane k (omega (arith, less, run_within))) ∙ not-true _ (prefix_len_passes (λ x. not (top 7 x)) lanes k 0 (omega (arith, less, counted)))

  pub run_some : r < 16 → is_end (get_or s r 0) (get_or s (r + 1) 0) ≡ true
  run_some less =
      sym (lane r less)
      ∙ subst (λ (k : ℕ). top 7 (get_or lanes k 0) ≡ true) (sym counted) (not-false _ (prefix_len_stops (λ x. not (top 7 x)) lanes 0 (omega (arith, counted, long, less))))
