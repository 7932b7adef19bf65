-- The places that an opening keeps.
use Rattle.std.proofs.Common.{◌≡◌, ℕ, ◌+◌, ◌-◌, ◌<◌, ◌≤◌, List, [], ◌∷◌, ◌++◌, length, take, drop, get_or, zero, suc, refl, sym, ◌∙◌, ap, subst, ◌⊎◌, inl, inr, ⊎_elim, append_assoc, length-append, arith}
use Rattle.std.proofs.Math.Nat.{add-zero, add-suc}
use Rattle.std.proofs.Math.ListN.{get_or-append}
use Rattle.std.proofs.Math.Seq.{get_or-append_seam}
use Rattle.std.proofs.lemmas.Bool.{cases_lt}
use Rattle.std.proofs.lemmas.List.{take_at, drop_at, drop-drop, get_or-take}
use Rattle.fts_log.specs.Place.{start_of, AreWithin, IsSpaced}
use Rattle.fts_log.specs.Record.{record_of, records, ends_from}
use Rattle.fts_log.proofs.Bytes.{length-record_of}

start_of-push : (ends : List ℕ) (next k : ℕ) → k ≤ length ends → start_of (ends ++ next ∷ []) k ≡ start_of ends k
start_of-push ends next zero within = refl
start_of-push ends next (suc k) within = get_or-append ends (next ∷ []) 0 k (omega arith)

less_or_same : (a b : ℕ) → a ≤ b → (a < b) ⊎ (a ≡ b)
less_or_same a b le = ⊎_elim inl (λ above. inr (omega arith)) (cases_lt a b)

-- one place more
pub spaced_more : (ends : List ℕ) (at next : ℕ) → IsSpaced ends → at ≡ start_of ends (length ends) → at + 5 ≤ next → IsSpaced (ends ++ next ∷ [])
spaced_more ends at next spaced last room k within =
    let short : k ≤ length ends = omega (arith, within, length-append ends (next ∷ [])) in
    ⊎_elim
    (λ before. omega (arith, spaced k before, start_of-push ends next k short, get_or-append ends (next ∷ []) 0 k before))
    (λ here. omega (arith, last, room, start_of-push ends next k short, ap (start_of ends) here, ap (λ (n : ℕ). get_or (ends ++ next ∷ []) n 0) here, get_or-append_seam ends next [] 0))
    (less_or_same k (length ends) short)

pub last_more : (ends : List ℕ) (next : ℕ) → next ≡ start_of (ends ++ next ∷ []) (length (ends ++ next ∷ []))
last_more ends next =
    let size : length (ends ++ next ∷ []) ≡ suc (length ends) = omega (arith, length-append ends (next ∷ [])) in
    sym (get_or-append_seam ends next [] 0) ∙ ap (start_of (ends ++ next ∷ [])) (sym size)

-- records begin one behind the other
starts_rise : (ends : List ℕ) (k n : ℕ) → IsSpaced ends → k + n ≤ length ends → start_of ends k ≤ start_of ends (k + n)
starts_rise ends k zero spaced within = let same : start_of ends (k + 0) ≡ start_of ends k = ap (start_of ends) (add-zero k) in omega (arith, same)
starts_rise ends k (suc n) spaced within =
    omega (arith, starts_rise ends k n spaced (omega (arith, within)), spaced (k + n) (omega (arith, within)), ap (start_of ends) (add-suc k n))

-- each record ends no further than the last one
pub all_before : (ends : List ℕ) (at : ℕ) → IsSpaced ends → at ≡ start_of ends (length ends) → AreWithin (at + 1) ends
all_before ends at spaced last k small =
    let rest : suc k + (length ends - suc k) ≡ length ends = omega (arith, small) in
    omega (arith, last, ap (start_of ends) rest, starts_rise ends (suc k) (length ends - suc k) spaced (omega (arith, rest)))

-- where record k begins, if the first begins at a place
pub start_in : ℕ → List ℕ → ℕ → ℕ
start_in base ends zero = base
start_in base ends (suc k) = get_or ends k 0

start_in-cons : (base next : ℕ) (ends : List ℕ) (k : ℕ) → start_in base (next ∷ ends) (suc k) ≡ start_in next ends k
unfolding start_in
start_in-cons base next ends zero = refl
start_in-cons base next ends (suc k) = refl

-- a record begins behind all those before it
pub start_is : (base : ℕ) (entries : List (List ℕ)) (k : ℕ) → k ≤ length entries → start_in base (ends_from base entries) k ≡ base + length (records (take k entries))
unfolding start_in
start_is base entries zero within = sym (add-zero base)
start_is base [] (suc k) within = absurd (omega (arith, within))
start_is base (payload ∷ entries) (suc k) within =
    let next = base + length (record_of payload) in
    start_in-cons base next (ends_from next entries) k ∙ start_is next entries k (omega (arith, within))
    ∙ omega (arith, length-append (record_of payload) (records (take k entries)))

-- the payload of an entry, between the places that are kept
pub record IsAt (file payload : List ℕ) (from to : ℕ) : Type 0 where
  pub here : take (to - (from + 5)) (drop (from + 5) file) ≡ payload
  pub room : from + 5 ≤ to
  pub within : to ≤ length file

first_there : (before payload tail : List ℕ) (from to : ℕ) → from ≡ length before → to ≡ from + length (record_of payload) → IsAt (before ++ (record_of payload ++ tail)) payload from to
first_there before payload tail from to start size =
    let file = before ++ (record_of payload ++ tail) in
    let behind : drop (from + 5) file ≡ payload ++ tail =
    sym (drop-drop 5 from file) ∙ ap (drop 5) (drop_at before (record_of payload ++ tail) from (sym start)) in
    record {
      here = ap (take (to - (from + 5))) behind ∙ take_at payload tail (to - (from + 5)) (omega (arith, size, length-record_of payload));
      room = omega (arith, size, length-record_of payload);
      within = omega (arith, start, size, length-append before (record_of payload ++ tail), length-append (record_of payload) tail);
    }

-- each entry stands where its record does
pub entry_there : (before : List ℕ) (entries : List (List ℕ)) (tail : List ℕ) (base k : ℕ) → base ≡ length before → k < length entries
    → IsAt (before ++ (records entries ++ tail)) (get_or entries k []) (start_in base (ends_from base entries) k) (get_or (ends_from base entries) k 0)
unfolding start_in
entry_there before [] tail base k start small = absurd (omega arith)
entry_there before (first ∷ entries) tail base zero start small =
    let file = ap (λ (rest : List ℕ). before ++ rest) (append_assoc (record_of first) (records entries) tail) in
    let P : List ℕ → Type 0 = λ file. IsAt file first base (base + length (record_of first)) in
    subst P (sym file) (first_there before first (records entries ++ tail) base (base + length (record_of first)) start refl)
entry_there before (first ∷ entries) tail base (suc k) start small =
    let next = base + length (record_of first) in
    let file : (before ++ record_of first) ++ (records entries ++ tail) ≡ before ++ (records (first ∷ entries) ++ tail) =
    append_assoc before (record_of first) (records entries ++ tail) ∙ ap (λ (rest : List ℕ). before ++ rest) (sym (append_assoc (record_of first) (records entries) tail)) in
    let rest = entry_there (before ++ record_of first) entries tail next k (omega (arith, start, length-append before (record_of first))) (omega arith) in
    let P : List ℕ → Type 0 = λ file. IsAt file (get_or entries k []) (start_in next (ends_from next entries) k) (get_or (ends_from next entries) k 0) in
    let Q : ℕ → Type 0 = λ from. IsAt (before ++ (records (first ∷ entries) ++ tail)) (get_or entries k []) from (get_or (ends_from next entries) k 0) in
    subst Q (sym (start_in-cons base next (ends_from next entries) k)) (subst P file rest)

-- the places that are kept are the first of all
pub start_of-take : (ends all : List ℕ) (k : ℕ) → ends ≡ take (length ends) all → k < length ends → start_of ends k ≡ start_in 8 all k
unfolding start_in
start_of-take ends all zero head small = refl
start_of-take ends all (suc k) head small = ap (λ (xs : List ℕ). get_or xs k 0) head ∙ get_or-take (length ends) all k 0 (omega arith)

pub end-take : (ends all : List ℕ) (k : ℕ) → ends ≡ take (length ends) all → k < length ends → get_or ends k 0 ≡ get_or all k 0
end-take ends all k head small = ap (λ (xs : List ℕ). get_or xs k 0) head ∙ get_or-take (length ends) all k 0 small
