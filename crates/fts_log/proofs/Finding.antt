-- What an opening finds.
use Rattle.std.proofs.Common.{◌≡◌, ℕ, ◌+◌, ◌<◌, ◌≤◌, List, [], ◌∷◌, ◌++◌, length, take, drop, min, get_or, Some, Bool, true, false, IsTrue, sym, ◌∙◌, ap, subst, append_assoc, length-append, arith}
use Rattle.std.proofs.lemmas.List.{take_at, take-take, take_all, length-take}
use Rattle.fts_disk.specs.Device.{Files}
use Rattle.fts_disk.specs.Crash.{OnlyIn}
use Rattle.fts_disk.specs.declared.disk.Disk.{Ghosts}
use Rattle.fts_log.specs.declared.log.Log.{Log}
use Rattle.fts_log.specs.declared.found.Found.{Found}
use Rattle.fts_log.specs.Log.{StandsFor, device_of, magic_of, count_of, end_of, found_ends, found_count}
use Rattle.fts_log.specs.Found.{ends_in}
use Rattle.fts_log.specs.Place.{start_of}
use Rattle.fts_log.specs.Record.{records, front, ends_from, gate_at, IsLog}
use Rattle.fts_log.specs.Scan.{IsFoundIn, EndsAs}
use Rattle.fts_log.proofs.Appending.{kept}
use Rattle.fts_log.proofs.Bytes.{length-ends_from}
use Rattle.fts_log.proofs.Ends.{IsAt, start_in, start_is, entry_there, start_of-take, end-take}

-- a first stretch that doesn't begin with the magic shows a file that doesn't
pub no_magic : (file bytes magic : List ℕ) (start : ℕ) (answer : Bool) → bytes ≡ take (length bytes) (drop start file) → start ≡ 0 → length bytes ≡ min (length file) 65536
    → length magic ≡ 8 → (take 8 bytes ≡ magic → IsTrue answer) → answer ≡ false → (rest : List ℕ) → file ≡ magic ++ rest → ⊥
no_magic file bytes magic start answer shows here size width begins refused rest e =
    let long : 8 ≤ length bytes = omega (arith, size, ap length e, length-append magic rest, width) in
    let yes : answer ≡ true = begins (ap (take 8) shows ∙ take-take 8 (length bytes) (drop start file) long ∙ ap (λ (n : ℕ). take 8 (drop n file)) here
    ∙ ap (take 8) e ∙ take_at magic rest 8 width) in
    let both : true ≡ false = sym yes ∙ refused in cc

-- records that end with a closed gate are a log
pub whole_log : (magic : List ℕ) (entries : List (List ℕ)) (file : List ℕ) (found : Found) → IsFoundIn magic entries file found → IsTrue found.is_whole → IsLog magic entries file
whole_log magic entries file found is whole =
    let ends : EndsAs true is.rest = subst (λ (w : Bool). EndsAs w is.rest) whole is.«end» in
    record { gate = ends.0; rest = ends.1; closed = ends.2; bytes = is.bytes ∙ ap (λ (rest : List ℕ). front magic entries ++ rest) ends.3; fit = is.fit }

-- the place where records end lies within the file, and a closed gate there too
pub found_reaches : (magic : List ℕ) (entries : List (List ℕ)) (file : List ℕ) (found : Found) → IsFoundIn magic entries file found → found.gate ≤ length file
found_reaches magic entries file found is = omega (arith, is.gate, ap length is.bytes, length-append (front magic entries) is.rest)

pub found_closed : (magic : List ℕ) (entries : List (List ℕ)) (file : List ℕ) (found : Found) → IsFoundIn magic entries file found → IsTrue found.is_whole → found.gate < length file
found_closed magic entries file found is whole =
    let ends : EndsAs true is.rest = subst (λ (w : Bool). EndsAs w is.rest) whole is.«end» in
    omega (arith, is.gate, ap length is.bytes, length-append (front magic entries) is.rest, ap length ends.3)

-- where the payload of an entry stands, by places that are the first of a file's entries
pub payload_there : (magic : List ℕ) (entries : List (List ℕ)) (rest file ends : List ℕ) (k : ℕ) → file ≡ front magic entries ++ rest → length magic ≡ 8
    → ends ≡ take (length ends) (ends_from (length magic) entries) → k < length ends → IsAt file (get_or entries k []) (start_of ends k) (get_or ends k 0)
payload_there magic entries rest file ends k bytes width first small =
    let all = ends_from 8 entries in
    let head : ends ≡ take (length ends) all = subst (λ (n : ℕ). ends ≡ take (length ends) (ends_from n entries)) width first in
    let among : k < length entries = omega (arith, small, ap length head, length-take (length ends) all, length-ends_from 8 entries) in
    let there = entry_there magic entries rest 8 k (sym width) among in
    let whole : file ≡ magic ++ (records entries ++ rest) = bytes ∙ append_assoc magic (records entries) rest in
    let payload = get_or entries k [] in
    subst (λ (file : List ℕ). IsAt file payload (start_of ends k) (get_or ends k 0)) (sym whole)
    (subst (λ (from : ℕ). IsAt (magic ++ (records entries ++ rest)) payload from (get_or ends k 0)) (sym (start_of-take ends all k head small))
    (subst (λ (to : ℕ). IsAt (magic ++ (records entries ++ rest)) payload (start_in 8 all k) to) (sym (end-take ends all k head small)) there))

-- where the gate of an entry stands
pub gate_there : (magic : List ℕ) (entries : List (List ℕ)) (ends : List ℕ) (k : ℕ) → length magic ≡ 8
    → ends ≡ take (length ends) (ends_from (length magic) entries) → k < length ends → start_of ends k ≡ gate_at magic entries k
gate_there magic entries ends k width first small =
    let all = ends_from 8 entries in
    let head : ends ≡ take (length ends) all = subst (λ (n : ℕ). ends ≡ take (length ends) (ends_from n entries)) width first in
    let among : k < length entries = omega (arith, small, ap length head, length-take (length ends) all, length-ends_from 8 entries) in
    start_of-take ends all k head small ∙ start_is 8 entries k (omega (arith, among))
    ∙ omega (arith, width, length-append magic (records (take k entries)))

-- the places of all entries are the first of them
pub all_first : (magic : List ℕ) (entries : List (List ℕ)) (file : List ℕ) (found : Found) → IsFoundIn magic entries file found
    → found.ends.items ≡ take (length found.ends.items) (ends_from (length magic) entries)
all_first magic entries file found is =
    is.ends ∙ sym (take_all (length found.ends.items) (ends_from (length magic) entries) (omega (arith, ap length is.ends)))

module _ {D : Type 0} {disk : Ghosts D} (log : Log D disk) (entries : List (List ℕ)) where
  -- a log that was found stands for its entries
  pub stands_found : (found : Found) (old : Files) → IsFoundIn (magic_of log) entries (old 0) found → disk.seen (device_of log) ≡ old → OnlyIn 0 (disk.seen (device_of log)) (disk.images (device_of log))
      → end_of log ≡ found.gate + 1 → count_of log ≡ length found.ends.items → log.found ≡ Some found → IsTrue found.is_whole → StandsFor entries log × (found_count log ≡ length entries)
  stands_found found old is same durable «end» count keeps whole =
      let here : found_ends log ≡ ends_from (length (magic_of log)) entries = ap ends_in keeps ∙ is.ends in
      let size : found_count log ≡ length entries = ap length here ∙ length-ends_from (length (magic_of log)) entries in (
        record {
          is_log = kept (IsLog (magic_of log) entries) old (disk.seen (device_of log)) same (whole_log (magic_of log) entries (old 0) found is whole);
          «end» = omega (arith, «end», is.gate);
          durable = durable;
          count = count ∙ sym (ap length (ap ends_in keeps)) ∙ size;
          ends = here ∙ sym (take_all (found_count log) (ends_from (length (magic_of log)) entries) (omega (arith, ap length here)));
        },
        size,
      )

  -- the places that a log keeps
  kept_first : (found : Found) → StandsFor entries log → log.found ≡ Some found → found.ends.items ≡ take (length found.ends.items) (ends_from (length (magic_of log)) entries)
  kept_first found stands keeps =
      let E : List ℕ → Type 0 = λ ends. ends ≡ take (length ends) (ends_from (length (magic_of log)) entries) in
      subst E (ap ends_in keeps) stands.ends

  -- where the payload of an entry stands that was found
  pub found_there : (found : Found) (k : ℕ) → StandsFor entries log → length (magic_of log) ≡ 8 → log.found ≡ Some found → k < length found.ends.items
      → IsAt (disk.seen (device_of log) 0) (get_or entries k []) (start_of found.ends.items k) (get_or found.ends.items k 0)
  found_there found k stands width keeps small =
      payload_there (magic_of log) entries (stands.is_log.gate ∷ stands.is_log.rest) (disk.seen (device_of log) 0) found.ends.items k
      stands.is_log.bytes width (kept_first found stands keeps) small

  -- where the gate of an entry stands that was found
  pub found_gate : (found : Found) (k : ℕ) → StandsFor entries log → length (magic_of log) ≡ 8 → log.found ≡ Some found → k < length found.ends.items
      → start_of found.ends.items k ≡ gate_at (magic_of log) entries k
  found_gate found k stands width keeps small = gate_there (magic_of log) entries found.ends.items k width (kept_first found stands keeps) small
