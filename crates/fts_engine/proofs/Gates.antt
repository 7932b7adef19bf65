-- What the bytes of a log are that was opened.
use Rattle.std.proofs.Common.{◌≡◌, ℕ, ◌+◌, ◌<◌, Bool, true, false, List, [], ◌∷◌, ◌++◌, refl, subst, sym, ap, ◌∙◌, length, take, inl, inr, arith}
use Rattle.std.specs.Prelude.{Result, Ok, Err, IfOk, IfErr}
use Rattle.fts_log.specs.declared.found.Found.{Found}
use Rattle.fts_log.specs.Record.{IsLog, IsBrokenBehind, IsDamagedAt, front}
use Rattle.std.proofs.lemmas.List.{length-take-le}
use Rattle.fts_log.specs.Scan.{EndsAs, IsFoundIn}
use Rattle.fts_log.proofs.Unique.{one_list, not_damaged}
use Rattle.fts_steps.specs.State.{State, payloads, rows_magic, index_magic, IsSound, IsCreated}
use Rattle.fts_steps.specs.Fault.{AreOfRows, AreOfIndex, IsFaultAt, IsIndexFaultAt}
use Rattle.fts_engine.specs.Opening.{IsNoRows, IsDamaged}
use Rattle.fts_engine.specs.Loading.{AreNoRows, IsWrongEntry, IsWrongAmong}

-- a fact holds of each value
pub always : {T E : Type 0} (P : Type 0) (result : Result T E) → P → IfOk result (λ _. P)
always P (Ok value) p = p
always P (Err error) p = tt

-- and of each error
pub always_err : {T E : Type 0} (P : E → Type 0) (result : Result T E) → ((e : E) → P e) → IfErr result P
always_err P (Ok value) p = tt
always_err P (Err error) p = p error

-- records of which there are some have an open gate behind the magic
gate_open : (payload : List ℕ) (entries : List (List ℕ)) (tail : List ℕ) → IsCreated (front rows_magic (payload ∷ entries) ++ tail)
gate_open payload entries tail = (omega arith, refl)

pub front_created : (entries : List (List ℕ)) (rest file : List ℕ) → 0 < length entries → file ≡ front rows_magic entries ++ rest → IsCreated file
front_created [] rest file some bytes = absurd (omega arith)
front_created (payload ∷ entries) rest file some bytes = subst (λ (f : List ℕ). IsCreated f) (sym bytes) (gate_open payload entries rest)

-- a closed gate behind the magic is none of a database
pub closed_not_created : (entries : List (List ℕ)) (file : List ℕ) → length entries ≡ 0 → IsLog rows_magic entries file → IsCreated file → ⊥
closed_not_created [] file none log created = log.closed (subst (λ (f : List ℕ). IsCreated f) log.bytes created).1
closed_not_created (payload ∷ entries) file none log created = absurd (omega (arith, none))

-- a file that is damaged is no database
pub damaged_no_rows : (at : ℕ) (file : List ℕ) → IsDamagedAt rows_magic at file → IsNoRows file
damaged_no_rows at file damaged state database = not_damaged rows_magic (payloads state) file at database.log damaged

-- what is found at a place is no database
pub broken_no_rows : (entries : List (List ℕ)) (at : ℕ) (file : List ℕ) → IsBrokenBehind rows_magic entries at file → IsNoRows file
broken_no_rows entries at file broken = damaged_no_rows at file (inr (entries, broken))

-- records whose entries are no sound state's, however they end, are no database
pub found_no_rows : (entries : List (List ℕ)) (file : List ℕ) (found : Found) → IsFoundIn rows_magic entries file found → AreNoRows entries → IsNoRows file
found_no_rows entries file found is none = by_end found.is_whole is.«end»
  where
    by_end : (whole : Bool) → EndsAs whole is.rest → IsNoRows file
    by_end true ends = λ state database.
        let log : IsLog rows_magic entries file =
        record { gate = ends.0; rest = ends.1; closed = ends.2; bytes = is.bytes ∙ ap (λ (rest : List ℕ). front rows_magic entries ++ rest) ends.3; fit = is.fit } in
        none state database.sound (one_list rows_magic (payloads state) entries file database.log log)
    by_end false broken =
        broken_no_rows entries (length (front rows_magic entries)) file (record { rest = is.rest; fit = is.fit; bytes = is.bytes; place = refl; broken = broken })

-- no record, and neither a closed gate nor a whole record: that place is at fault
pub none_torn : (entries : List (List ℕ)) (at : ℕ) (file : List ℕ) → length entries ≡ 0 → IsBrokenBehind rows_magic entries at file → IsFaultAt at file
none_torn [] at file none broken = inr (inr (record { entries = []; before = inl refl; broken = broken }))
none_torn (payload ∷ entries) at file none broken = absurd (omega (arith, none))

-- payloads of which there are some, and that are no sound database's, are none of a rows log
not_of_rows : (entries : List (List ℕ)) → 0 < length entries → AreNoRows entries → AreOfRows entries → ⊥
not_of_rows entries some none (inl nothing) = omega (arith, some, ap length nothing)
not_of_rows entries some none (inr is) = none is.0 is.1 is.2

-- a wrong entry is the first place at fault
pub wrong_damaged : (entries : List (List ℕ)) (at : ℕ) (file : List ℕ) (found : Found) → IsFoundIn rows_magic entries file found → IsWrongEntry rows_magic entries at → IsDamaged at file
wrong_damaged entries at file found is wrong = record {
  created = front_created entries is.rest file (omega (arith, wrong.within)) is.bytes;
  none = found_no_rows entries file found is wrong.none;
  place = inr (inl (record {
    entries = entries;
    rest = is.rest;
    fit = is.fit;
    bytes = is.bytes;
    k = wrong.k;
    within = wrong.within;
    place = wrong.place;
    before = wrong.before;
    wrong = not_of_rows (take (wrong.k + 1) entries) (omega (arith, length-take-le (wrong.k + 1) entries (omega (arith, wrong.within)))) wrong.wrong;
  }));
}

-- and so is a torn record behind entries of a state
pub torn_damaged : (entries : List (List ℕ)) (at : ℕ) (file : List ℕ) → 0 < length entries → AreOfRows entries → IsBrokenBehind rows_magic entries at file → IsDamaged at file
torn_damaged entries at file some before broken = record {
  created = front_created entries broken.rest file some broken.bytes;
  none = broken_no_rows entries at file broken;
  place = inr (inr (record { entries = entries; before = before; broken = broken }));
}

-- a file at fault where its first record should begin, or before, is none
pub fault_damaged : (at : ℕ) (file : List ℕ) → IsFaultAt at file → IsNoRows file → IsCreated file → IsDamaged at file
fault_damaged at file place none created = record { created = created; none = none; place = place }

-- a wrong payload of the index log is its first place at fault
pub wrong_index : (state : State) → IsSound state → (all entries : List (List ℕ)) (at : ℕ) (file : List ℕ) (found : Found) → payloads state ≡ all
    → IsFoundIn index_magic entries file found → IsWrongAmong index_magic all entries at → IsIndexFaultAt state at file
wrong_index state sound all entries at file found is found_in wrong = inr (inl (record {
  entries = entries;
  rest = found_in.rest;
  fit = found_in.fit;
  bytes = found_in.bytes;
  k = wrong.j;
  within = wrong.within;
  place = wrong.place;
  before = wrong.is.before state sound is;
  wrong = wrong.is.wrong state sound is;
}))

-- and so is a torn record behind payloads of entries
pub torn_index : (state : State) (entries : List (List ℕ)) (at : ℕ) (file : List ℕ) → AreOfIndex state entries → IsBrokenBehind index_magic entries at file
    → IsIndexFaultAt state at file
torn_index state entries at file before broken = inr (inr (record { entries = entries; before = before; broken = broken }))
