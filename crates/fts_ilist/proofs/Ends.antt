-- Where a document ends, found by its bytes alone.
use Rattle.std.proofs.Common.{◌≡◌, drop, get_or, ℕ, zero, suc, ◌+◌, ◌-◌, ◌/◌, ◌%◌, ◌<◌, ◌≤◌, List, [], ◌∷◌, ◌++◌, length, true, false, if◌then◌else◌, refl, ap, ◌∙◌, append_assoc, arith, inl, inr, Bool, nat_lt, ap₂, sym, subst}
use Rattle.std.proofs.lemmas.Bool.{cases_lt, lt-ltb, le-ltb, ne_eqb}
use Rattle.std.proofs.lemmas.List.{length-append, length-drop, drop_more, drop_all, drop-drop, get_or-drop}
use Rattle.fts_ilist.specs.Number.{groups, number_bytes}
use Rattle.fts_ilist.specs.Spelling.{items_bytes, position_items, PositionsFrom, ArePositions}
use Rattle.fts_ilist.specs.Progress.{is_end, to_end, HasNoEndBefore, BeginsBody, EndsBody}
use Rattle.fts_ilist.proofs.Groups.{all_groups, number_is, length_number}

pub end_here : (before b : ℕ) (bs : List ℕ) → is_end before b ≡ true → to_end before (b ∷ bs) ≡ 0
unfolding to_end
end_here before b bs e = rw e refl

pub end_later : (before b : ℕ) (bs : List ℕ) → is_end before b ≡ false → to_end before (b ∷ bs) ≡ 1 + to_end b bs
unfolding to_end
end_later before b bs e = rw e refl

pub no_end : (before : ℕ) → to_end before [] ≡ 0
unfolding to_end
no_end before = refl

behind_small : (before b : ℕ) → before < 128 → is_end before b ≡ false
behind_small before b h = rw (lt-ltb before 128 h) refl

is_positive : (before b : ℕ) → 0 < b → is_end before b ≡ false
is_positive before b h =
    elim (cases_lt before 128) [
      | inl lt ↦ behind_small before b lt
      | inr le ↦ rw (le-ltb before 128 le) (ne_eqb b 0 (λ (e : b ≡ 0). omega arith))
    ]

ends_behind : (before : ℕ) → 128 ≤ before → is_end before 0 ≡ true
ends_behind before h = rw (le-ltb before 128 h) refl

no_groups : (j : ℕ) → groups j 0 ≡ []
unfolding groups
no_groups zero = refl
no_groups (suc j) = refl

-- groups of a number have none
past_groups : (k n before : ℕ) (rest : List ℕ) → n ≤ k → 0 < n → to_end before (groups k n ++ rest) ≡ length (groups k n) + to_end (n % 128) rest
unfolding groups
past_groups zero n before rest h some = absurd (omega arith)
past_groups (suc k) zero before rest h some = absurd (omega arith)
past_groups (suc k) (suc m) before rest h some =
    let q = suc m / 128 in
    let r = suc m % 128 in
    let len : length (groups k q ++ r ∷ []) ≡ length (groups k q) + 1 = length-append (groups k q) (r ∷ []) in
    ap (to_end before) (append_assoc (groups k q) (r ∷ []) rest)
    ∙ elim (cases_lt 0 q) [
      | inl more ↦
          let before_it : to_end before (groups k q ++ r ∷ rest) ≡ length (groups k q) + to_end (q % 128) (r ∷ rest) = past_groups k q before (r ∷ rest) (omega arith) more in
          let it : to_end (q % 128) (r ∷ rest) ≡ 1 + to_end r rest = end_later (q % 128) r rest (behind_small (q % 128) r (omega arith)) in
          omega arith
      | inr none ↦
          let z : q ≡ 0 = omega arith in
          let none_before : groups k q ≡ [] = ap (groups k) z ∙ no_groups k in
          let it : to_end before (r ∷ rest) ≡ 1 + to_end r rest = end_later before r rest (is_positive before r (omega arith)) in
          ap (λ (w : List ℕ). to_end before (w ++ r ∷ rest)) none_before ∙ it ∙ omega (arith, len, ap length none_before)
    ]

-- nor has a number above 0
past_number : (n before : ℕ) (rest : List ℕ) → 0 < n → to_end before (number_bytes n ++ rest) ≡ length (number_bytes n) + to_end (n % 128 + 128) rest
past_number n before rest some =
    let q = n / 128 in
    let r = n % 128 + 128 in
    let step : (b : ℕ) → to_end b (r ∷ rest) ≡ 1 + to_end r rest = λ b. end_later b r rest (is_positive b r (omega arith)) in
    ap (λ (w : List ℕ). to_end before (w ++ rest)) (number_is n)
    ∙ ap (to_end before) (append_assoc (all_groups q) (r ∷ []) rest)
    ∙ elim (cases_lt 0 q) [
      | inl more ↦
          let before_it = past_groups q q before (r ∷ rest) (omega arith) more in
          omega (arith, before_it, step (q % 128), length_number n)
      | inr none ↦
          let z : q ≡ 0 = omega arith in
          let none_before : all_groups q ≡ [] = ap all_groups z ∙ no_groups 0 in
          ap (λ (w : List ℕ). to_end before (w ++ r ∷ rest)) none_before ∙ step before ∙ omega (arith, length_number n, ap length none_before)
    ]

first_positions : (next before p : ℕ) (ps rest : List ℕ)
    → to_end ((p + 1 - next) % 128 + 128) (items_bytes (position_items (p + 1) ps) ++ 0 ∷ rest) ≡ length (items_bytes (position_items (p + 1) ps)) → next ≤ p
    → to_end before (items_bytes (position_items next (p ∷ ps)) ++ 0 ∷ rest) ≡ length (items_bytes (position_items next (p ∷ ps)))
first_positions next before p ps rest others h =
    let n = p + 1 - next in
    let body = items_bytes (position_items (p + 1) ps) in
    ap (to_end before) (append_assoc (number_bytes n) body (0 ∷ rest))
    ∙ past_number n before (body ++ 0 ∷ rest) (omega arith)
    ∙ omega (arith, others, length-append (number_bytes n) body)

past_positions : (next before : ℕ) (ps rest : List ℕ) → 128 ≤ before → PositionsFrom next ps
    → to_end before (items_bytes (position_items next ps) ++ 0 ∷ rest) ≡ length (items_bytes (position_items next ps))
past_positions next before [] rest high h = end_here before 0 rest (ends_behind before high)
past_positions next before (p ∷ ps) rest high h = first_positions next before p ps rest (past_positions (p + 1) ((p + 1 - next) % 128 + 128) ps rest (omega arith) h.2) h.0

ends_positions : (ps rest : List ℕ) → ArePositions ps → to_end 0 (items_bytes (position_items 0 ps) ++ 0 ∷ rest) ≡ length (items_bytes (position_items 0 ps))
ends_positions [] rest h = absurd (omega (arith, h.0))
ends_positions (p ∷ ps) rest h = first_positions 0 0 p ps rest (past_positions (p + 1) ((p + 1 - 0) % 128 + 128) ps rest (omega arith) h.1.2) h.1.0

pub body_ends : (bytes : List ℕ) (at : ℕ) → to_end 0 bytes ≡ at → EndsBody bytes (at + 1)
body_ends bytes at e = λ positions rest are body. omega (arith, e, ap (to_end 0) body, ends_positions positions rest are)

pub end_within : (bytes : List ℕ) → BeginsBody bytes → to_end 0 bytes < length bytes
end_within bytes b =
    omega (arith, ap (to_end 0) b.body, ends_positions b.positions b.rest b.are_positions, ap length b.body, length-append (items_bytes (position_items 0 b.positions)) (0 ∷ b.rest))

-- ---- bytes that are passed since none of them is 00

-- the byte before a place, where this one stands before all
abbrev pub last_before : ℕ → List ℕ → ℕ → ℕ
last_before before bs zero = before
last_before before [] (suc k) = before
last_before before (b ∷ bs) (suc k) = last_before b bs k

pub passed_to : (before : ℕ) (bs : List ℕ) (k : ℕ) → k ≤ length bs → ((j : ℕ) → j < k → get_or bs j 0 ≡ 0 → ⊥)
    → to_end before bs ≡ k + to_end (last_before before bs k) (drop k bs)
passed_to before bs zero within none = omega arith
passed_to before [] (suc k) within none = absurd (omega (arith, within))
passed_to before (b ∷ bs) (suc k) within none =
    let some : b ≡ 0 → ⊥ = none 0 (omega arith) in
    let rest = passed_to b bs k (omega (arith, within)) (λ j less. none (suc j) (omega (arith, less))) in
    end_later before b bs (is_positive before b (omega (arith, some))) ∙ omega (arith, rest)

pub last_is : (before : ℕ) (bs : List ℕ) (k : ℕ) → k < length bs → last_before before bs (suc k) ≡ get_or bs k 0
last_is before [] k within = absurd (omega (arith, within))
last_is before (b ∷ bs) zero within = refl
last_is before (b ∷ bs) (suc k) within = last_is b bs k (omega (arith, within))

-- the first 00 of the bytes from a place on, and the byte before it
pub far_step : (bytes hay : List ℕ) (at before k found : ℕ) → hay ≡ drop at bytes → at ≤ length bytes → HasNoEndBefore bytes at before → k < length hay
    → ((j : ℕ) → j < k → get_or hay j 0 ≡ 0 → ⊥) → get_or hay k 0 ≡ 0 → found ≡ (if nat_lt at (at + k) then get_or bytes (at + k - 1) 0 else before)
    → to_end 0 bytes ≡ (at + k) + to_end found (0 ∷ drop (at + k + 1) bytes)
far_step bytes hay at before k found same within no_end_yet inside none zero_there found_is =
    let rest : drop k hay ≡ 0 ∷ drop (at + k + 1) bytes =
    drop_more hay k 0 inside
    ∙ ap₂ (λ (b : ℕ) (bs : List ℕ). b ∷ bs) zero_there
    (ap (drop (k + 1)) same ∙ drop-drop (k + 1) at bytes ∙ ap (λ (n : ℕ). drop n bytes) (omega arith)) in
    let steps : to_end before hay ≡ k + to_end found (0 ∷ drop (at + k + 1) bytes) =
    passed_to before hay k (omega (arith, inside)) none
    ∙ ap₂ (λ (b : ℕ) (bs : List ℕ). k + to_end b bs) (before_is k (omega (arith, inside)) ∙ sym found_is) rest in
    no_end_yet ∙ ap (λ (bs : List ℕ). at + to_end before bs) (sym same) ∙ omega (arith, steps)
  where
    before_is : (k : ℕ) → k ≤ length hay → last_before before hay k ≡ (if nat_lt at (at + k) then get_or bytes (at + k - 1) 0 else before)
    before_is zero less = ap (λ (b : Bool). if b then get_or bytes (at + 0 - 1) 0 else before) (sym (le-ltb at (at + 0) (omega arith)))
    before_is (suc j) less =
        last_is before hay j (omega (arith, less))
        ∙ ap (λ (bs : List ℕ). get_or bs j 0) same
        ∙ get_or-drop at bytes j 0
        ∙ ap (λ (n : ℕ). get_or bytes n 0) (omega arith)
        ∙ ap (λ (b : Bool). if b then get_or bytes (at + suc j - 1) 0 else before) (sym (lt-ltb at (at + suc j) (omega arith)))

-- without a 00 no document ends
pub no_zero : (bytes hay : List ℕ) (at before : ℕ) → hay ≡ drop at bytes → at ≤ length bytes → HasNoEndBefore bytes at before
    → ((j : ℕ) → j < length hay → get_or hay j 0 ≡ 0 → ⊥) → BeginsBody bytes → ⊥
no_zero bytes hay at before same within no_end_yet none body =
    let long : length hay ≡ length bytes - at = ap length same ∙ length-drop at bytes in
    let passed = passed_to before hay (length hay) (omega arith) none in
    let nothing : to_end (last_before before hay (length hay)) (drop (length hay) hay) ≡ 0 = ap (to_end (last_before before hay (length hay))) (drop_all (length hay) hay (omega arith)) ∙ no_end _ in
    let all : to_end 0 bytes ≡ at + to_end before hay = no_end_yet ∙ ap (λ (bs : List ℕ). at + to_end before bs) (sym same) in
    omega (arith, long, passed, nothing, all, within, end_within bytes body)

-- ---- bytes that are passed since no document ends with them

none_to : (before : ℕ) (bs : List ℕ) (k : ℕ) → k ≤ length bs → ((j : ℕ) → j < k → is_end (last_before before bs j) (get_or bs j 0) ≡ false)
    → to_end before bs ≡ k + to_end (last_before before bs k) (drop k bs)
none_to before bs zero within none = omega arith
none_to before [] (suc k) within none = absurd (omega (arith, within))
none_to before (b ∷ bs) (suc k) within none =
    let rest = none_to b bs k (omega (arith, within)) (λ j less. none (suc j) (omega (arith, less))) in
    end_later before b bs (none 0 (omega arith)) ∙ omega (arith, rest)

-- where none of the bytes behind the first k ends a document
pub none_behind : (bs : List ℕ) (k : ℕ) → k < length bs → ((j : ℕ) → j < k → is_end (get_or bs j 0) (get_or bs (j + 1) 0) ≡ false)
    → to_end 0 bs ≡ (k + 1) + to_end (get_or bs k 0) (drop (k + 1) bs)
none_behind bs k within none =
    let place : suc k ≡ k + 1 = omega arith in
    none_to 0 bs (suc k) (omega (arith, within)) each
    ∙ ap₂ (λ (n b : ℕ). n + to_end b (drop n bs)) place (last_is 0 bs k within)
  where
    each : (j : ℕ) → j < suc k → is_end (last_before 0 bs j) (get_or bs j 0) ≡ false
    each zero less = behind_small 0 (get_or bs 0 0) (omega arith)
    each (suc j) less =
        let place : suc j ≡ j + 1 = omega arith in
        ap (λ (b : ℕ). is_end b (get_or bs (suc j) 0)) (last_is 0 bs j (omega (arith, within, less)))
        ∙ ap (λ (n : ℕ). is_end (get_or bs j 0) (get_or bs n 0)) place
        ∙ none j (omega (arith, less))

-- and the next one does
pub ends_next : (bs : List ℕ) (k : ℕ) → k + 1 < length bs → ((j : ℕ) → j < k → is_end (get_or bs j 0) (get_or bs (j + 1) 0) ≡ false)
    → is_end (get_or bs k 0) (get_or bs (k + 1) 0) ≡ true → EndsBody bs (k + 2)
ends_next bs k within none found =
    let here = ap (to_end (get_or bs k 0)) (drop_more bs (k + 1) 0 within) ∙ end_here (get_or bs k 0) (get_or bs (k + 1) 0) (drop (k + 1 + 1) bs) found in
    let passed = none_behind bs k (omega (arith, within)) none in
    let place : k + 1 + 1 ≡ k + 2 = omega arith in
    subst (λ (n : ℕ). EndsBody bs n) place (body_ends bs (k + 1) (omega (arith, here, passed)))
