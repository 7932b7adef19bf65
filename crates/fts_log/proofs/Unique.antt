-- Bytes are read as records in one way alone.
use Rattle.std.proofs.Common.{◌≡◌, ◌≢◌, ℕ, List, [], ◌∷◌, ◌++◌, length, take, drop, All, suc, inl, inr, refl, sym, ◌∙◌, ap, append_assoc, arith}
use Rattle.std.proofs.lemmas.List.{take_at, drop_at, append_cancel_left}
use Rattle.std.proofs.lemmas.Nat.{from_be_bytes-to_be_bytes_4}
use Rattle.std.specs.Int.{w32, to_be_bytes, from_be_bytes}
use Rattle.fts_log.specs.Record.{Fits, record_of, records, front, IsLog, IsDamagedAt}

-- no whole record stands at the head of the bytes
NotWhole : List ℕ → Type 0
NotWhole bytes = (payload rest : List ℕ) → Fits payload → bytes ≢ record_of payload ++ rest

same_record : (p q r s : List ℕ) → Fits p → Fits q → record_of p ++ r ≡ record_of q ++ s → (p ≡ q) × (r ≡ s)
same_record p q r s small other e =
    let codes : to_be_bytes w32 (length p) ≡ to_be_bytes w32 (length q) = ap (take 4) (ap (drop 1) e) in
    let size : length p ≡ length q = sym (from_be_bytes-to_be_bytes_4 (length p) small) ∙ ap (from_be_bytes w32) codes ∙ from_be_bytes-to_be_bytes_4 (length q) other in
    let behind : p ++ r ≡ q ++ s = ap (drop 5) e in (
      sym (take_at p r (length p) refl) ∙ ap (take (length p)) behind ∙ take_at q s (length p) (sym size),
      sym (drop_at p r (length p) refl) ∙ ap (drop (length p)) behind ∙ drop_at q s (length p) (sym size),
    )

tail_fits : (payload : List ℕ) (entries : List (List ℕ)) → All Fits (payload ∷ entries) → All Fits entries
tail_fits payload entries fit k d small = fit (suc k) d (omega arith)

head_fits : (payload : List ℕ) (entries : List (List ℕ)) → All Fits (payload ∷ entries) → Fits payload
head_fits payload entries fit = fit 0 [] (omega arith)

-- records and what stands behind them are told apart in one way
one_reading : (entries others : List (List ℕ)) (r s : List ℕ) → All Fits entries → All Fits others → NotWhole r → NotWhole s
    → records entries ++ r ≡ records others ++ s → (entries ≡ others) × (r ≡ s)
unfolding NotWhole
one_reading [] [] r s fit other not_r not_s e = (refl, e)
one_reading [] (q ∷ others) r s fit other not_r not_s e =
    absurd (not_r q (records others ++ s) (head_fits q others other) (e ∙ append_assoc (record_of q) (records others) s))
one_reading (p ∷ entries) [] r s fit other not_r not_s e =
    absurd (not_s p (records entries ++ r) (head_fits p entries fit) (sym e ∙ append_assoc (record_of p) (records entries) r))
one_reading (p ∷ entries) (q ∷ others) r s fit other not_r not_s e =
    let both = same_record p q (records entries ++ r) (records others ++ s) (head_fits p entries fit) (head_fits q others other)
    (sym (append_assoc (record_of p) (records entries) r) ∙ e ∙ append_assoc (record_of q) (records others) s) in
    let rest = one_reading entries others r s (tail_fits p entries fit) (tail_fits q others other) not_r not_s both.1 in
    (ap (λ (first : List ℕ). first ∷ entries) both.0 ∙ ap (λ (more : List (List ℕ)). q ∷ more) rest.0, rest.1)

closed_not_whole : (gate : ℕ) (rest : List ℕ) → gate ≢ 1 → NotWhole (gate ∷ rest)
unfolding NotWhole
closed_not_whole gate rest closed payload more fits e = closed (first_same gate 1 rest (to_be_bytes w32 (length payload) ++ payload ++ more) e)
  where
    first_same : (a b : ℕ) (xs ys : List ℕ) → a ∷ xs ≡ b ∷ ys → a ≡ b
    first_same a b xs ys same = cc

-- what stands behind the magic
behind_magic : (magic file : List ℕ) (entries others : List (List ℕ)) (r s : List ℕ) → file ≡ front magic entries ++ r → file ≡ front magic others ++ s
    → records entries ++ r ≡ records others ++ s
behind_magic magic file entries others r s one other =
    append_cancel_left magic (records entries ++ r) (records others ++ s)
    (sym (append_assoc magic (records entries) r) ∙ sym one ∙ other ∙ append_assoc magic (records others) s)

-- bytes are a log of one list of entries alone
pub one_list : (magic : List ℕ) (entries others : List (List ℕ)) (file : List ℕ) → IsLog magic entries file → IsLog magic others file → entries ≡ others
one_list magic entries others file one other =
    (one_reading entries others (one.gate ∷ one.rest) (other.gate ∷ other.rest) one.fit other.fit
    (closed_not_whole one.gate one.rest one.closed) (closed_not_whole other.gate other.rest other.closed)
    (behind_magic magic file entries others (one.gate ∷ one.rest) (other.gate ∷ other.rest) one.bytes other.bytes)).0

-- records that stand at the head of records are the first of these
heads : (entries others : List (List ℕ)) (r s : List ℕ) → All Fits entries → All Fits others → NotWhole r → records entries ++ r ≡ records others ++ s
    → (more : List (List ℕ)) × (entries ≡ others ++ more)
unfolding NotWhole
heads entries [] r s fit other not_r e = (entries, refl)
heads [] (q ∷ others) r s fit other not_r e =
    absurd (not_r q (records others ++ s) (head_fits q others other) (e ∙ append_assoc (record_of q) (records others) s))
heads (p ∷ entries) (q ∷ others) r s fit other not_r e =
    let both = same_record p q (records entries ++ r) (records others ++ s) (head_fits p entries fit) (head_fits q others other)
    (sym (append_assoc (record_of p) (records entries) r) ∙ e ∙ append_assoc (record_of q) (records others) s) in
    let rest = heads entries others r s (tail_fits p entries fit) (tail_fits q others other) not_r both.1 in
    (rest.0, ap (λ (first : List ℕ). first ∷ entries) both.0 ∙ ap (λ (more : List (List ℕ)). q ∷ more) rest.1)

-- and so of a log
pub first_ones : (magic : List ℕ) (entries others : List (List ℕ)) (file rest : List ℕ) → IsLog magic entries file → All Fits others → file ≡ front magic others ++ rest
    → (more : List (List ℕ)) × (entries ≡ others ++ more)
first_ones magic entries others file rest log other bytes =
    heads entries others (log.gate ∷ log.rest) rest log.fit other (closed_not_whole log.gate log.rest log.closed)
    (behind_magic magic file entries others (log.gate ∷ log.rest) rest log.bytes bytes)

-- a log is damaged at no place
pub not_damaged : (magic : List ℕ) (entries : List (List ℕ)) (file : List ℕ) (at : ℕ) → IsLog magic entries file → IsDamagedAt magic at file → ⊥
unfolding NotWhole
not_damaged magic entries file at log (inl (place, no_magic)) = no_magic (records entries ++ log.gate ∷ log.rest) (log.bytes ∙ append_assoc magic (records entries) (log.gate ∷ log.rest))
not_damaged magic entries file at log (inr (others, damaged)) =
    let both = one_reading entries others (log.gate ∷ log.rest) damaged.rest log.fit damaged.fit
    (closed_not_whole log.gate log.rest log.closed) damaged.broken.not_whole
    (behind_magic magic file entries others (log.gate ∷ log.rest) damaged.rest log.bytes damaged.bytes) in
    log.closed (damaged.broken.not_closed log.gate log.rest (sym both.1))

-- a file is damaged at one place alone
pub one_place : (magic file : List ℕ) (at other : ℕ) → IsDamagedAt magic at file → IsDamagedAt magic other file → at ≡ other
unfolding NotWhole
one_place magic file at other (inl (here, no_magic)) (inl (there, none)) = here ∙ sym there
one_place magic file at other (inl (here, no_magic)) (inr (bs, b)) = absurd (no_magic (records bs ++ b.rest) (b.bytes ∙ append_assoc magic (records bs) b.rest))
one_place magic file at other (inr (as_, a)) (inl (there, no_magic)) = absurd (no_magic (records as_ ++ a.rest) (a.bytes ∙ append_assoc magic (records as_) a.rest))
one_place magic file at other (inr (as_, a)) (inr (bs, b)) =
    let both = one_reading as_ bs a.rest b.rest a.fit b.fit a.broken.not_whole b.broken.not_whole
    (behind_magic magic file as_ bs a.rest b.rest a.bytes b.bytes) in
    a.place ∙ ap (λ (entries : List (List ℕ)). length (front magic entries)) both.0 ∙ sym b.place
