-- The steps of an append, each by what it does to file 0.
use Rattle.std.proofs.Common.{◌≡◌, ◌≢◌, ℕ, ◌+◌, ◌^◌, ◌≤◌, List, [], ◌∷◌, ◌++◌, length, take, length-append, refl, sym, ◌∙◌, ap, subst, inl, inr, ⊎_elim, All, arith}
use Rattle.std.proofs.lemmas.Bool.{cases_eq}
use Rattle.std.proofs.lemmas.List.Elements.{All-push}
use Rattle.fts_disk.specs.Device.{Files, Written, Torn}
use Rattle.fts_disk.specs.Crash.{OnlyIn}
use Rattle.fts_disk.specs.declared.disk.Disk.{Ghosts}
use Rattle.fts_log.specs.declared.log.Log.{Log}
use Rattle.fts_log.specs.Log.{StandsFor, device_of, magic_of, count_of, end_of, found_ends, found_count}
use Rattle.fts_log.specs.Record.{Fits, record_of, records, front, log_end, ends_from, IsLog, IsLogOfEither}
use Rattle.fts_log.specs.Framing.{staged}
use Rattle.fts_log.proofs.Bytes.{torn_behind, written_behind, torn_gate, written_gate, opened, length-front-push, ends_from-push, head_stays}

-- what holds of file 0 holds after a call that only looked
pub kept : (P : List ℕ → Type 0) (old new : Files) → new ≡ old → P (old 0) → P (new 0)
kept P old new same = subst (λ (files : Files). P (files 0)) (sym same)

-- behind the closed gate stand a record without its gate and a closed gate
pub record IsStaged (magic : List ℕ) (entries : List (List ℕ)) (payload file : List ℕ) : Type 0 where
  pub gate : ℕ
  pub rest : List ℕ
  pub closed : gate ≢ 1
  pub bytes : file ≡ front magic entries ++ gate ∷ (staged payload ++ rest)
  pub fit : All Fits entries

-- an append within the limit has a payload whose length fits
pub fits_within : (payload bytes : List ℕ) («end» limit : ℕ) → bytes ≡ staged payload → «end» + length bytes ≤ limit → limit ≤ 2 ^ 32 → Fits payload
fits_within payload bytes «end» limit whole within limited = omega (arith, ap length whole, length-append payload (0 ∷ []))

module _ (magic : List ℕ) (entries : List (List ℕ)) (payload : List ℕ) where
  -- a first write that was cut short leaves the old entries
  pub after_torn : (old new : List ℕ) (at n : ℕ) → at ≡ log_end magic entries → IsLog magic entries old → Torn at n old new → IsLog magic entries new
  after_torn old new at n place log torn =
      let Step : ℕ → List ℕ → Type 0 = λ at file. Torn at n file new in
      let step : Torn (length (front magic entries) + 1) n (front magic entries ++ log.gate ∷ log.rest) new = subst (λ (file : List ℕ). Step (log_end magic entries) file) log.bytes (subst (λ (at : ℕ). Step at old) place torn) in
      let more = torn_behind (front magic entries) log.gate log.rest n new step in
      record { gate = log.gate; rest = more.0; closed = log.closed; bytes = more.1; fit = log.fit }

  -- the first write
  pub after_write : (old new : List ℕ) (at : ℕ) (bytes : List ℕ) → at ≡ log_end magic entries → bytes ≡ staged payload → IsLog magic entries old → Written at bytes old new → IsStaged magic entries payload new
  after_write old new at bytes place whole log holds =
      let Step : ℕ → List ℕ → Type 0 = λ at file. Written at (staged payload) file new in
      let this : Written at (staged payload) old new = subst (λ (bytes : List ℕ). Written at bytes old new) whole holds in
      let step : Written (length (front magic entries) + 1) (staged payload) (front magic entries ++ log.gate ∷ log.rest) new = subst (λ (file : List ℕ). Step (log_end magic entries) file) log.bytes (subst (λ (at : ℕ). Step at old) place this) in
      let more = written_behind (front magic entries) log.gate log.rest (staged payload) new step in
      record { gate = log.gate; rest = more.0; closed = log.closed; bytes = more.1; fit = log.fit }

  -- it leaves the old entries too
  pub still_log : (file : List ℕ) → IsStaged magic entries payload file → IsLog magic entries file
  still_log file is = record { gate = is.gate; rest = staged payload ++ is.rest; closed = is.closed; bytes = is.bytes; fit = is.fit }

  with_new : (file rest : List ℕ) → All Fits entries → Fits payload → file ≡ front magic entries ++ 1 ∷ (staged payload ++ rest) → IsLog magic (entries ++ payload ∷ []) file
  with_new file rest fit fits bytes = record { gate = 0; rest = rest; closed = λ e. cc; bytes = bytes ∙ opened magic entries payload rest; fit = All-push Fits entries payload fit fits }

  -- with the gate open, the new entry stands too
  pub after_gate : (old new : List ℕ) (at : ℕ) → at + 1 ≡ log_end magic entries → Fits payload → IsStaged magic entries payload old → Written at (1 ∷ []) old new → IsLog magic (entries ++ payload ∷ []) new
  after_gate old new at place fits is holds =
      let here : at ≡ length (front magic entries) = omega arith in
      let Step : ℕ → List ℕ → Type 0 = λ at file. Written at (1 ∷ []) file new in
      let step : Written (length (front magic entries)) (1 ∷ []) (front magic entries ++ is.gate ∷ (staged payload ++ is.rest)) new = subst (λ (file : List ℕ). Step (length (front magic entries)) file) is.bytes (subst (λ (at : ℕ). Step at old) here holds) in
      with_new new is.rest is.fit fits (written_gate (front magic entries) is.gate (staged payload ++ is.rest) new step)

  either : (file : List ℕ) (gate : ℕ) (rest : List ℕ) → All Fits entries → Fits payload → file ≡ front magic entries ++ gate ∷ (staged payload ++ rest) → IsLogOfEither magic entries payload file
  either file gate rest fit fits bytes = ⊎_elim
      (λ open_. inr (with_new file rest fit fits (bytes ∙ ap (λ (g : ℕ). front magic entries ++ g ∷ (staged payload ++ rest)) open_)))
      (λ closed. inl (record { gate = gate; rest = staged payload ++ rest; closed = closed; bytes = bytes; fit = fit }))
      (cases_eq gate 1)

  -- a write of the gate that was cut short leaves the one or the other
  pub after_torn_gate : (old new : List ℕ) (at : ℕ) → at + 1 ≡ log_end magic entries → Fits payload → IsStaged magic entries payload old → Torn at 1 old new → IsLogOfEither magic entries payload new
  after_torn_gate old new at place fits is torn =
      let here : at ≡ length (front magic entries) = omega arith in
      let Step : ℕ → List ℕ → Type 0 = λ at file. Torn at 1 file new in
      let step : Torn (length (front magic entries)) 1 (front magic entries ++ is.gate ∷ (staged payload ++ is.rest)) new = subst (λ (file : List ℕ). Step (length (front magic entries)) file) is.bytes (subst (λ (at : ℕ). Step at old) here torn) in
      let other = torn_gate (front magic entries) is.gate (staged payload ++ is.rest) new step in
      either new other.0 is.rest is.fit fits other.1

-- the log's numbers after an append
pub stands_after : {D : Type 0} {disk : Ghosts D} (entries : List (List ℕ)) (payload : List ℕ) (old new : Log D disk) → StandsFor entries old
    → IsLog (magic_of new) (entries ++ payload ∷ []) (disk.seen (device_of new) 0)
    → magic_of new ≡ magic_of old → found_ends new ≡ found_ends old
    → OnlyIn 0 (disk.seen (device_of new)) (disk.images (device_of new))
    → end_of new ≡ end_of old + length (staged payload) → count_of new ≡ count_of old + 1 → StandsFor (entries ++ payload ∷ []) new
stands_after entries payload old new stands is_log magic found durable «end» count =
    let L = length (magic_of old) in
    let last = L + length (records entries) + length (record_of payload) in
    let stays : found_ends old ≡ take (length (found_ends old)) (ends_from L (entries ++ payload ∷ [])) =
    head_stays (found_ends old) (ends_from L entries) (last ∷ []) stands.ends ∙ ap (take (length (found_ends old))) (sym (ends_from-push L entries payload last refl)) in
    let both = entries ++ payload ∷ [] in
    let last_end : end_of new ≡ log_end (magic_of old) both = omega (arith, «end», stands.«end», length-front-push (magic_of old) entries payload, length-append payload (0 ∷ [])) in
    record {
      is_log = is_log;
      durable = durable;
      «end» = last_end ∙ ap (λ (magic : List ℕ). log_end magic both) (sym magic);
      count = omega (arith, count, stands.count, length-append entries (payload ∷ []));
      ends = found ∙ stays ∙ ap (λ (xs : List ℕ). take (length xs) (ends_from L both)) (sym found)
          ∙ ap (λ (magic : List ℕ). take (found_count new) (ends_from (length magic) both)) (sym magic);
    }
