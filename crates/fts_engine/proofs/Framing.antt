-- A payload written into the bytes of a frame.
use Rattle.std.proofs.Common.{◌≡◌, ℕ, ◌+◌, ◌-◌, ◌<◌, ◌^◌, List, [], ◌++◌, length, take, drop, ap, subst, ◌∙◌, append-nil, length-append, length-drop, arith}
use Rattle.std.proofs.lemmas.List.{take_at, drop_at, drop_all, length-take, length-take-le}
use borrow.Rule.Slice.PartMut.{put_mid}
use Rattle.fts_log.specs.Framing.{inner}
use Rattle.fts_codec.specs.Writing.{Puts}
use Rattle.fts_disk.specs.declared.disk.Disk.{Ghosts}
use Rattle.fts_log.specs.declared.log.Log.{Log}
use Rattle.fts_log.specs.Log.{limit_of}
use Rattle.fts_entries.specs.Entry.{IndexEntry}
use Rattle.fts_ixcodec.specs.Payload.{entry_payload, FitsRecord, HasSize, HasNoSize}
use Rattle.fts_engine.specs.Unframed.{end_behind, IsUnframed, IsUnframedEntry}
use Rattle.fts_engine.specs.declared.room.FrameError.{FrameError}
use Rattle.fts_engine.specs.declared.room.FrameError.TheVariants.{NoMemory, TooLong}

module _ (payload old sub new : List ℕ) (n : ℕ) (room : length old ≡ length payload + 5)
    (put : Puts payload (take (length old - 4) (drop 4 old)) sub n) (is : new ≡ put_mid 4 (length old - 4) old sub) where
  abbrev left : List ℕ
  left = drop (length payload) (take (length old - 4) (drop 4 old))

  left_size : length left ≡ 1
  left_size = omega (arith, room, length-drop (length payload) (take (length old - 4) (drop 4 old)), length-take-le (length old - 4) (drop 4 old) (omega (arith, length-drop 4 old)), length-drop 4 old)

  placed : new ≡ take 4 old ++ (payload ++ left)
  placed =
      let nothing : drop (length old - 4) (drop 4 old) ≡ [] = drop_all (length old - 4) (drop 4 old) (omega (arith, length-drop 4 old)) in
      is ∙ ap (λ (xs : List ℕ). take 4 old ++ (sub ++ xs)) nothing ∙ ap (λ (xs : List ℕ). take 4 old ++ xs) (append-nil sub ∙ put.0)

  -- the frame has as many bytes as before
  pub framed_size : length new ≡ length old
  framed_size = omega (arith, room, ap length placed, length-append (take 4 old) (payload ++ left), length-append payload left, left_size, length-take-le 4 old (omega (arith, room)))

  -- and the payload between the first four and the last
  pub framed_payload : inner new ≡ payload
  framed_payload =
      let behind : drop 4 new ≡ payload ++ left = ap (drop 4) placed ∙ drop_at (take 4 old) (payload ++ left) 4 (length-take-le 4 old (omega (arith, room))) in
      ap (take (length new - 5)) behind ∙ take_at payload left (length new - 5) (omega (arith, framed_size, room))

-- a front is no longer than it was asked to be
pub front_within : (n limit : ℕ) (xs : List ℕ) → n < limit → length (take n xs) < limit
front_within n limit xs less = omega (arith, length-take n xs)

-- ---- why a payload was not framed

-- an entry of so many bytes fits a record of the log
pub fits_record : (entry : IndexEntry) (size : ℕ) → HasSize entry size → size < 2 ^ 32 → FitsRecord entry
fits_record entry size has less = record { words = has.words; short = omega (arith, has.is, less) }

module _ {D : Type 0} {disk : Ghosts D} (log : Log D disk) where
  -- no memory holds an entry without a size
  pub no_size : (entry : IndexEntry) → HasNoSize entry → IsUnframedEntry log entry NoMemory
  no_size entry none = λ words less. absurd (let most = none words in omega (arith, most, less))

  pub as_entry : (entry : IndexEntry) (size : ℕ) → size ≡ length (entry_payload entry) → (why : FrameError) → IsUnframed log size why → IsUnframedEntry log entry why
  as_entry entry size is NoMemory unframed = λ words. subst (λ (n : ℕ). IsUnframed log n NoMemory) is unframed
  as_entry entry size is (TooLong «end») unframed = subst (λ (n : ℕ). IsUnframed log n (TooLong «end»)) is unframed

  -- a payload that is too long for the log
  pub too_long : (size «end» : ℕ) (why : FrameError) → why ≡ TooLong «end» → IsUnframed log size why → («end» ≡ end_behind log size) × (limit_of log < «end»)
  too_long size «end» why is unframed = subst (IsUnframed log size) is unframed

  pub entry_too_long : (entry : IndexEntry) («end» : ℕ) (why : FrameError) → why ≡ TooLong «end» → IsUnframedEntry log entry why
      → («end» ≡ end_behind log (length (entry_payload entry))) × (limit_of log < «end»)
  entry_too_long entry «end» why is unframed = subst (IsUnframedEntry log entry) is unframed
