-- What the first five bytes at a place tell.
use Rattle.std.proofs.Common.{◌≡◌, ℕ, ◌+◌, ◌-◌, ◌^◌, ◌<◌, ◌≤◌, List, [], ◌∷◌, ◌++◌, length, take, drop, get_or, min, zero, suc, sym, ◌∙◌, ap, append_assoc, length-append, length-drop, arith}
use Rattle.std.proofs.lemmas.List.{take-append-drop, take-take, drop-take, drop-drop, drop_more, drop_all, take_min, length-take-le}
use Rattle.std.proofs.lemmas.Nat.{from_be_bytes-to_be_bytes_4}
use Rattle.std.specs.Int.{w32, to_be_bytes, from_be_bytes}
use Rattle.byteorder.specs.Endian.{big_number}
use Rattle.fts_log.specs.Record.{Fits, record_of, IsBroken}

module _ (file : List ℕ) (at a b c d n : ℕ) (head : take 5 (drop at file) ≡ 1 ∷ a ∷ b ∷ c ∷ d ∷ []) where
  -- an open gate, and as many bytes behind the length as it says
  pub whole_there : to_be_bytes w32 n ≡ a ∷ b ∷ c ∷ d ∷ [] → n < 2 ^ 32 → at + 5 + n ≤ length file
      → (payload : List ℕ) × Fits payload × (drop at file ≡ record_of payload ++ drop (at + 5 + n) file) × (at + 5 + n ≡ at + length (record_of payload))
  whole_there bytes small room =
      let behind = drop (at + 5) file in
      let payload = take n behind in
      let size : length payload ≡ n = length-take-le n behind (omega (arith, length-drop (at + 5) file)) in
      let split : drop at file ≡ 1 ∷ a ∷ b ∷ c ∷ d ∷ behind =
      sym (take-append-drop 5 (drop at file)) ∙ ap (λ (front : List ℕ). front ++ drop 5 (drop at file)) head ∙ ap (λ (rest : List ℕ). 1 ∷ a ∷ b ∷ c ∷ d ∷ rest) (drop-drop 5 at file) in
      let parts : behind ≡ payload ++ drop (at + 5 + n) file = sym (take-append-drop n behind) ∙ ap (λ (rest : List ℕ). payload ++ rest) (drop-drop n (at + 5) file) in
      let coded : to_be_bytes w32 (length payload) ≡ a ∷ b ∷ c ∷ d ∷ [] = ap (to_be_bytes w32) size ∙ bytes in (
        payload,
        omega arith,
        split ∙ ap (λ (rest : List ℕ). 1 ∷ ((a ∷ b ∷ c ∷ d ∷ []) ++ rest)) parts
            ∙ ap (λ (code : List ℕ). 1 ∷ (code ++ (payload ++ drop (at + 5 + n) file))) (sym coded)
            ∙ ap (λ (rest : List ℕ). 1 ∷ rest) (sym (append_assoc (to_be_bytes w32 (length payload)) payload (drop (at + 5 + n) file))),
        omega (arith, size),
      )

  -- an open gate, and fewer bytes behind the length than it says
  pub broken_there : n ≡ from_be_bytes w32 (a ∷ b ∷ c ∷ d ∷ []) → at ≤ length file → length file < at + 5 + n → IsBroken (drop at file)
  broken_there number within short = record {
    not_closed = λ gate rest e. let front = sym (ap (take 5) e) ∙ head in cc;
    not_whole = λ payload rest fits e.
        let front : take 5 (record_of payload ++ rest) ≡ 1 ∷ a ∷ b ∷ c ∷ d ∷ [] = sym (ap (take 5) e) ∙ head in
        let coded : to_be_bytes w32 (length payload) ≡ a ∷ b ∷ c ∷ d ∷ [] = ap (drop 1) front in
        let same : n ≡ length payload = number ∙ sym (ap (from_be_bytes w32) coded) ∙ from_be_bytes-to_be_bytes_4 (length payload) fits in
        omega (arith, same, ap length e, length-drop at file, length-append payload rest);
  }

-- a list of five, by its elements
pub five : (xs : List ℕ) → length xs ≡ 5 → xs ≡ get_or xs 0 0 ∷ get_or xs 1 0 ∷ get_or xs 2 0 ∷ get_or xs 3 0 ∷ get_or xs 4 0 ∷ []
five xs size = first ∙ ap (λ (rest : List ℕ). get_or xs 0 0 ∷ rest) second ∙ ap (λ (rest : List ℕ). get_or xs 0 0 ∷ get_or xs 1 0 ∷ rest) third
    ∙ ap (λ (rest : List ℕ). get_or xs 0 0 ∷ get_or xs 1 0 ∷ get_or xs 2 0 ∷ rest) fourth
    ∙ ap (λ (rest : List ℕ). get_or xs 0 0 ∷ get_or xs 1 0 ∷ get_or xs 2 0 ∷ get_or xs 3 0 ∷ rest) fifth
  where
    first : xs ≡ get_or xs 0 0 ∷ drop 1 xs
    first = drop_more xs 0 0 (omega arith)

    second : drop 1 xs ≡ get_or xs 1 0 ∷ drop 2 xs
    second = drop_more xs 1 0 (omega arith)

    third : drop 2 xs ≡ get_or xs 2 0 ∷ drop 3 xs
    third = drop_more xs 2 0 (omega arith)

    fourth : drop 3 xs ≡ get_or xs 3 0 ∷ drop 4 xs
    fourth = drop_more xs 3 0 (omega arith)

    fifth : drop 4 xs ≡ get_or xs 4 0 ∷ []
    fifth = drop_more xs 4 0 (omega arith) ∙ ap (λ (rest : List ℕ). get_or xs 4 0 ∷ rest) (drop_all 5 xs (omega arith))

-- the number in the four bytes behind the first of five
pub four_bytes : (xs : List ℕ) (n : ℕ) → length xs ≡ 5 → n ≡ big_number 4 (take (length xs - 1) (drop 1 xs))
    → n ≡ from_be_bytes w32 (get_or xs 1 0 ∷ get_or xs 2 0 ∷ get_or xs 3 0 ∷ get_or xs 4 0 ∷ [])
four_bytes xs n size number =
    let same : big_number 4 (get_or xs 1 0 ∷ get_or xs 2 0 ∷ get_or xs 3 0 ∷ get_or xs 4 0 ∷ []) ≡ from_be_bytes w32 (get_or xs 1 0 ∷ get_or xs 2 0 ∷ get_or xs 3 0 ∷ get_or xs 4 0 ∷ []) = omega arith in
    number ∙ ap (λ (ys : List ℕ). big_number 4 (take (length ys - 1) (drop 1 ys))) (five xs size) ∙ same

-- four bytes are bytes at each place
pub small_bytes : (a b c d : ℕ) → a < 256 → b < 256 → c < 256 → d < 256 → (i : ℕ) → get_or (a ∷ b ∷ c ∷ d ∷ []) i 0 < 256
small_bytes a b c d p q r s zero = p
small_bytes a b c d p q r s (suc zero) = q
small_bytes a b c d p q r s (suc (suc zero)) = r
small_bytes a b c d p q r s (suc (suc (suc zero))) = s
small_bytes a b c d p q r s (suc (suc (suc (suc i)))) = omega arith

-- a part of a stretch of a file is a part of the file
pub window_part : (bytes file : List ℕ) (start at from wanted : ℕ) → bytes ≡ take (length bytes) (drop start file) → start + from ≡ at → from + wanted ≤ length bytes
    → take wanted (drop from bytes) ≡ take wanted (drop at file)
window_part bytes file start at from wanted shows here within =
    let m = length bytes - from in
    let whole : bytes ≡ take (from + m) (drop start file) = rw (sum) shows in
    ap (λ (xs : List ℕ). take wanted (drop from xs)) whole ∙ ap (take wanted) (drop-take from m (drop start file)) ∙ take-take wanted m (drop from (drop start file)) (omega arith)
    ∙ ap (take wanted) (drop-drop from start file ∙ ap (λ (n : ℕ). drop n file) here)
  where
    sum : from + (length bytes - from) ≡ length bytes
    sum = omega arith

-- the first five, or as many as there are
pub first_five : (file : List ℕ) (at : ℕ) → take (min (length file - at) 5) (drop at file) ≡ take 5 (drop at file)
first_five file at = ap (λ (n : ℕ). take n (drop at file)) (omega (arith, length-drop at file)) ∙ take_min 5 (drop at file)
