-- Words are ordered as their first eight bytes are, read as one number, where these differ.
use Rattle.std.proofs.Common.{◌≡◌, Bool, true, false, ◌&&◌, nat_lt, ℕ, zero, suc, ◌<◌, ◌≤◌, List, [], ◌∷◌, refl, ap, sym, ◌∙◌, ⊎_elim, arith, Ordering, Less, Equal, Greater}
use Rattle.std.specs.Cmp.{nat_cmp_is}
use Rattle.std.specs.Int.{w64, from_be_bytes}
use Rattle.std.specs.Ordering.{ordering_then, ordering_reverse}
use Rattle.std.proofs.lemmas.Cmp.{nat_list_cmp_total}
use Rattle.std.specs.Prelude.{slice_index}
use Rattle.std.proofs.lemmas.Bool.{cases_lt, false≢true, ltb-true, lt-ltb}
use Rattle.fts_words.specs.Order.{byte_order}
use Rattle.fts_index.specs.Key.{are_bytes}

abbrev Same : ℕ → List ℕ → List ℕ → Type 0
Same k v w = (i : ℕ) → i < k → slice_index v i ≡ slice_index w i

-- the first byte that differs decides
first_less : (k : ℕ) (v w : List ℕ) → Same k v w → slice_index v k < slice_index w k → byte_order v w ≡ Less
first_less k [] [] same less = absurd (omega (arith, less))
first_less k [] (c ∷ cs) same less = refl
first_less k (b ∷ bs) [] same less = absurd (omega (arith, less))
first_less zero (b ∷ bs) (c ∷ cs) same less = ap (λ (r : Ordering). ordering_then r (byte_order bs cs)) (sym (nat_cmp_is b c Less less))
first_less (suc k) (b ∷ bs) (c ∷ cs) same less =
    ap (λ (r : Ordering). ordering_then r (byte_order bs cs)) (sym (nat_cmp_is b c Equal (same 0 (omega arith))))
    ∙ first_less k bs cs (λ i below. same (suc i) (omega (arith, below))) less

abbrev key : List ℕ → ℕ
key word = from_be_bytes w64 word

none_yet : (v w : List ℕ) → Same 0 v w
none_yet v w i below = absurd (omega (arith, below))

one_more : (k : ℕ) (v w : List ℕ) → Same k v w → slice_index v k ≡ slice_index w k → Same (suc k) v w
one_more k v w same here i below = ⊎_elim (λ (less : i < k). same i less) (λ (most : k ≤ i). ap (slice_index v) (omega (arith, below, most)) ∙ here ∙ ap (slice_index w) (omega (arith, below, most))) (cases_lt i k)

module _ (v w : List ℕ) (fits : (i : ℕ) → slice_index v i < 256) (fits' : (i : ℕ) → slice_index w i < 256) (less : key v < key w) where
  at_7 : Same 7 v w → byte_order v w ≡ Less
  at_7 same = ⊎_elim
      (λ (here : slice_index v 7 < slice_index w 7). first_less 7 v w same here)
      (λ (not : slice_index w 7 ≤ slice_index v 7). ⊎_elim
      (λ (more : slice_index w 7 < slice_index v 7). absurd (omega (arith, less, more, same 0 (omega arith), same 1 (omega arith), same 2 (omega arith), same 3 (omega arith), same 4 (omega arith), same 5 (omega arith), same 6 (omega arith))))
      (λ (most : slice_index v 7 ≤ slice_index w 7). absurd (omega (arith, less, not, most, same 0 (omega arith), same 1 (omega arith), same 2 (omega arith), same 3 (omega arith), same 4 (omega arith), same 5 (omega arith), same 6 (omega arith))))
      (cases_lt (slice_index w 7) (slice_index v 7)))
      (cases_lt (slice_index v 7) (slice_index w 7))

  at_6 : Same 6 v w → byte_order v w ≡ Less
  at_6 same = ⊎_elim
      (λ (here : slice_index v 6 < slice_index w 6). first_less 6 v w same here)
      (λ (not : slice_index w 6 ≤ slice_index v 6). ⊎_elim
      (λ (more : slice_index w 6 < slice_index v 6). absurd (omega (arith, less, more, same 0 (omega arith), same 1 (omega arith), same 2 (omega arith), same 3 (omega arith), same 4 (omega arith), same 5 (omega arith), fits' 7, fits 7)))
      (λ (most : slice_index v 6 ≤ slice_index w 6). at_7 (one_more 6 v w same (omega (arith, not, most))))
      (cases_lt (slice_index w 6) (slice_index v 6)))
      (cases_lt (slice_index v 6) (slice_index w 6))

  at_5 : Same 5 v w → byte_order v w ≡ Less
  at_5 same = ⊎_elim
      (λ (here : slice_index v 5 < slice_index w 5). first_less 5 v w same here)
      (λ (not : slice_index w 5 ≤ slice_index v 5). ⊎_elim
      (λ (more : slice_index w 5 < slice_index v 5). absurd (omega (arith, less, more, same 0 (omega arith), same 1 (omega arith), same 2 (omega arith), same 3 (omega arith), same 4 (omega arith), fits' 6, fits 6, fits' 7, fits 7)))
      (λ (most : slice_index v 5 ≤ slice_index w 5). at_6 (one_more 5 v w same (omega (arith, not, most))))
      (cases_lt (slice_index w 5) (slice_index v 5)))
      (cases_lt (slice_index v 5) (slice_index w 5))

  at_4 : Same 4 v w → byte_order v w ≡ Less
  at_4 same = ⊎_elim
      (λ (here : slice_index v 4 < slice_index w 4). first_less 4 v w same here)
      (λ (not : slice_index w 4 ≤ slice_index v 4). ⊎_elim
      (λ (more : slice_index w 4 < slice_index v 4). absurd (omega (arith, less, more, same 0 (omega arith), same 1 (omega arith), same 2 (omega arith), same 3 (omega arith), fits' 5, fits 5, fits' 6, fits 6, fits' 7, fits 7)))
      (λ (most : slice_index v 4 ≤ slice_index w 4). at_5 (one_more 4 v w same (omega (arith, not, most))))
      (cases_lt (slice_index w 4) (slice_index v 4)))
      (cases_lt (slice_index v 4) (slice_index w 4))

  at_3 : Same 3 v w → byte_order v w ≡ Less
  at_3 same = ⊎_elim
      (λ (here : slice_index v 3 < slice_index w 3). first_less 3 v w same here)
      (λ (not : slice_index w 3 ≤ slice_index v 3). ⊎_elim
      (λ (more : slice_index w 3 < slice_index v 3). absurd (omega (arith, less, more, same 0 (omega arith), same 1 (omega arith), same 2 (omega arith), fits' 4, fits 4, fits' 5, fits 5, fits' 6, fits 6, fits' 7, fits 7)))
      (λ (most : slice_index v 3 ≤ slice_index w 3). at_4 (one_more 3 v w same (omega (arith, not, most))))
      (cases_lt (slice_index w 3) (slice_index v 3)))
      (cases_lt (slice_index v 3) (slice_index w 3))

  at_2 : Same 2 v w → byte_order v w ≡ Less
  at_2 same = ⊎_elim
      (λ (here : slice_index v 2 < slice_index w 2). first_less 2 v w same here)
      (λ (not : slice_index w 2 ≤ slice_index v 2). ⊎_elim
      (λ (more : slice_index w 2 < slice_index v 2). absurd (omega (arith, less, more, same 0 (omega arith), same 1 (omega arith), fits' 3, fits 3, fits' 4, fits 4, fits' 5, fits 5, fits' 6, fits 6, fits' 7, fits 7)))
      (λ (most : slice_index v 2 ≤ slice_index w 2). at_3 (one_more 2 v w same (omega (arith, not, most))))
      (cases_lt (slice_index w 2) (slice_index v 2)))
      (cases_lt (slice_index v 2) (slice_index w 2))

  at_1 : Same 1 v w → byte_order v w ≡ Less
  at_1 same = ⊎_elim
      (λ (here : slice_index v 1 < slice_index w 1). first_less 1 v w same here)
      (λ (not : slice_index w 1 ≤ slice_index v 1). ⊎_elim
      (λ (more : slice_index w 1 < slice_index v 1). absurd (omega (arith, less, more, same 0 (omega arith), fits' 2, fits 2, fits' 3, fits 3, fits' 4, fits 4, fits' 5, fits 5, fits' 6, fits 6, fits' 7, fits 7)))
      (λ (most : slice_index v 1 ≤ slice_index w 1). at_2 (one_more 1 v w same (omega (arith, not, most))))
      (cases_lt (slice_index w 1) (slice_index v 1)))
      (cases_lt (slice_index v 1) (slice_index w 1))

  at_0 : Same 0 v w → byte_order v w ≡ Less
  at_0 same = ⊎_elim
      (λ (here : slice_index v 0 < slice_index w 0). first_less 0 v w same here)
      (λ (not : slice_index w 0 ≤ slice_index v 0). ⊎_elim
      (λ (more : slice_index w 0 < slice_index v 0). absurd (omega (arith, less, more, fits' 1, fits 1, fits' 2, fits 2, fits' 3, fits 3, fits' 4, fits 4, fits' 5, fits 5, fits' 6, fits 6, fits' 7, fits 7)))
      (λ (most : slice_index v 0 ≤ slice_index w 0). at_1 (one_more 0 v w same (omega (arith, not, most))))
      (cases_lt (slice_index w 0) (slice_index v 0)))
      (cases_lt (slice_index v 0) (slice_index w 0))

-- the smaller number is the earlier word's
pub key_less : (v w : List ℕ) → ((i : ℕ) → slice_index v i < 256) → ((i : ℕ) → slice_index w i < 256) → key v < key w → byte_order v w ≡ Less
key_less v w fits fits' less = at_0 v w fits fits' less (none_yet v w)

pub key_greater : (v w : List ℕ) → ((i : ℕ) → slice_index v i < 256) → ((i : ℕ) → slice_index w i < 256) → key w < key v → byte_order v w ≡ Greater
key_greater v w fits fits' less = nat_list_cmp_total.antisymm v w ∙ ap ordering_reverse (key_less w v fits' fits less)

-- ---- that a word has bytes, as a test and by its places

small : (b : Bool) (rest : Bool) → (b && rest) ≡ true → (b ≡ true) × (rest ≡ true)
small true rest h = (refl, h)
small false rest h = absurd (false≢true h)

pub bytes_at : (word : List ℕ) → are_bytes word ≡ true → (i : ℕ) → slice_index word i < 256
bytes_at [] are i = omega arith
bytes_at (b ∷ bs) are zero = ltb-true b 256 (small (nat_lt b 256) (are_bytes bs) are).0
bytes_at (b ∷ bs) are (suc i) = bytes_at bs (small (nat_lt b 256) (are_bytes bs) are).1 i

pub are_all : (word : List ℕ) → ((i : ℕ) → slice_index word i < 256) → are_bytes word ≡ true
are_all [] each = refl
are_all (b ∷ bs) each = ap (λ (is : Bool). is && are_bytes bs) (lt-ltb b 256 (each 0)) ∙ are_all bs (λ i. each (suc i))
