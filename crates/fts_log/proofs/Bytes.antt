-- What a write does to bytes with a gate in them, and how the records of a log go on.
use Rattle.std.proofs.Common.{◌≡◌, ℕ, ◌+◌, ◌<◌, ◌≤◌, List, [], ◌∷◌, ◌++◌, length, take, drop, get_or, suc, refl, sym, ◌∙◌, ap, append_assoc, append-nil, length-append, arith}
use Rattle.std.proofs.lemmas.List.{take_at, drop_at, drop_more, take-append-drop, take-append-le, length-take}
use Rattle.std.specs.Int.{w32, to_be_bytes}
use Rattle.fts_disk.specs.Device.{Written, Torn}
use Rattle.fts_log.specs.Record.{record_of, records, front, ends_from}
use Rattle.fts_log.specs.Framing.{staged}

module _ (start : List ℕ) (gate : ℕ) (rest : List ℕ) where
  -- the front with the gate
  regroup : (more : List ℕ) → start ++ gate ∷ more ≡ (start ++ gate ∷ []) ++ more
  regroup more = sym (append_assoc start (gate ∷ []) more)

  through : take (length start + 1) (start ++ gate ∷ rest) ≡ start ++ gate ∷ []
  through = rw (regroup rest) (take_at (start ++ gate ∷ []) rest (length start + 1) (length-append start (gate ∷ [])))

  behind : drop (length start + 1) (start ++ gate ∷ rest) ≡ rest
  behind = rw (regroup rest) (drop_at (start ++ gate ∷ []) rest (length start + 1) (length-append start (gate ∷ [])))

  -- a write behind the gate that was cut short leaves the front and the gate
  pub torn_behind : (n : ℕ) (new : List ℕ) → Torn (length start + 1) n (start ++ gate ∷ rest) new
      → (more : List ℕ) × (new ≡ start ++ gate ∷ more)
  torn_behind n new torn =
      let k = length start + 1 in
      let same : take k new ≡ start ++ gate ∷ [] = torn.before ∙ through in
      (drop k new, sym (take-append-drop k new) ∙ ap (λ (front : List ℕ). front ++ drop k new) same ∙ sym (regroup (drop k new)))

  -- a write behind the gate
  pub written_behind : (bytes new : List ℕ) → Written (length start + 1) bytes (start ++ gate ∷ rest) new
      → (more : List ℕ) × (new ≡ start ++ gate ∷ (bytes ++ more))
  written_behind bytes new holds =
      let more = drop (length start + 1 + length bytes) (start ++ gate ∷ rest) in
      (more, holds ∙ ap (λ (front : List ℕ). front ++ bytes ++ more) through ∙ append_assoc (start ++ gate ∷ []) bytes more ∙ sym (regroup (bytes ++ more)))

  -- a write of the gate that was cut short leaves any gate
  pub torn_gate : (new : List ℕ) → Torn (length start) 1 (start ++ gate ∷ rest) new
      → (other : ℕ) × (new ≡ start ++ other ∷ rest)
  torn_gate new torn =
      let k = length start in
      let long : k < length new = omega (arith, torn.no_shorter, length-append start (gate ∷ rest)) in
      let before : take k new ≡ start = torn.before ∙ take_at start (gate ∷ rest) k refl in
      let after : drop (k + 1) new ≡ rest = torn.after ∙ behind in (
        get_or new k 0,
        sym (take-append-drop k new) ∙ ap (λ (front : List ℕ). front ++ drop k new) before
            ∙ ap (λ (tail : List ℕ). start ++ tail) (drop_more new k 0 long ∙ ap (λ (tail : List ℕ). get_or new k 0 ∷ tail) after),
      )

  -- a write of the gate
  pub written_gate : (new : List ℕ) → Written (length start) (1 ∷ []) (start ++ gate ∷ rest) new → new ≡ start ++ 1 ∷ rest
  written_gate new holds = holds ∙ ap (λ (front : List ℕ). front ++ 1 ∷ [] ++ drop (length start + 1) (start ++ gate ∷ rest)) (take_at start (gate ∷ rest) (length start) refl)
      ∙ append_assoc start (1 ∷ []) (drop (length start + 1) (start ++ gate ∷ rest)) ∙ ap (λ (tail : List ℕ). start ++ 1 ∷ tail) behind

-- one record more
pub records-push : (entries : List (List ℕ)) (payload : List ℕ) → records (entries ++ payload ∷ []) ≡ records entries ++ record_of payload
records-push [] payload = rw append-nil refl
records-push (first ∷ entries) payload = ap (λ (tail : List ℕ). record_of first ++ tail) (records-push entries payload) ∙ sym (append_assoc (record_of first) (records entries) (record_of payload))

pub front-push : (magic : List ℕ) (entries : List (List ℕ)) (payload : List ℕ) → front magic (entries ++ payload ∷ []) ≡ front magic entries ++ record_of payload
front-push magic entries payload = ap (λ (tail : List ℕ). magic ++ tail) (records-push entries payload) ∙ sym (append_assoc magic (records entries) (record_of payload))

pub length-record_of : (payload : List ℕ) → length (record_of payload) ≡ length payload + 5
length-record_of payload = omega arith

pub length-front-push : (magic : List ℕ) (entries : List (List ℕ)) (payload : List ℕ)
    → length (front magic (entries ++ payload ∷ [])) ≡ length (front magic entries) + (length payload + 5)
length-front-push magic entries payload = ap length (front-push magic entries payload) ∙ length-append (front magic entries) (record_of payload) ∙ ap (λ (n : ℕ). length (front magic entries) + n) (length-record_of payload)

-- with its gate open, what was written first is a record and a closed gate
pub opened : (magic : List ℕ) (entries : List (List ℕ)) (payload rest : List ℕ)
    → front magic entries ++ 1 ∷ (staged payload ++ rest) ≡ front magic (entries ++ payload ∷ []) ++ 0 ∷ rest
opened magic entries payload rest =
    let inside : staged payload ++ rest ≡ (to_be_bytes w32 (length payload) ++ payload) ++ 0 ∷ rest = append_assoc (to_be_bytes w32 (length payload) ++ payload) (0 ∷ []) rest in
    ap (λ (tail : List ℕ). front magic entries ++ 1 ∷ tail) inside ∙ sym (append_assoc (front magic entries) (record_of payload) (0 ∷ rest))
    ∙ ap (λ (head : List ℕ). head ++ 0 ∷ rest) (sym (front-push magic entries payload))

-- one end more
pub ends_from-push : (start : ℕ) (entries : List (List ℕ)) (payload : List ℕ) (last : ℕ) → last ≡ start + length (records entries) + length (record_of payload)
    → ends_from start (entries ++ payload ∷ []) ≡ ends_from start entries ++ last ∷ []
ends_from-push start [] payload last here = ap (λ (n : ℕ). n ∷ []) (omega (arith, here))
ends_from-push start (first ∷ entries) payload last here =
    let next = start + length (record_of first) in
    ap (λ (tail : List ℕ). next ∷ tail) (ends_from-push next entries payload last (omega (arith, here, length-append (record_of first) (records entries))))

pub length-ends_from : (start : ℕ) (entries : List (List ℕ)) → length (ends_from start entries) ≡ length entries
length-ends_from start [] = refl
length-ends_from start (first ∷ entries) = ap suc (length-ends_from (start + length (record_of first)) entries)

-- what is the head of a list is the head of a longer one
pub head_stays : (xs ys more : List ℕ) → xs ≡ take (length xs) ys → xs ≡ take (length xs) (ys ++ more)
head_stays xs ys more head =
    let short : length xs ≤ length ys = omega (arith, ap length head, length-take (length xs) ys) in
    head ∙ sym (take-append-le (length xs) ys more short)
