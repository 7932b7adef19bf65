-- What a log stands for.
use Rattle.std.specs.Prelude.{◌≡◌, ◌≤◌, ℕ, ◌+◌, ◌*◌, ◌^◌, List, length, take, Result, Ok, Err, IfOk, OnOk, OnErr}
use Rattle.std.proofs.Common.{arith}
use Rattle.fts_disk.specs.Crash.{OnlyIn}
use Rattle.fts_disk.specs.declared.disk.Disk.{Ghosts}
use Rattle.fts_log.specs.declared.log.Log.{Log}
use Rattle.fts_log.specs.declared.error.AppendError.{AppendError}
use Rattle.fts_log.specs.declared.frame.Framed.{Framed}
use Rattle.fts_log.specs.Found.{ends_in}
use Rattle.fts_log.specs.Frame.{payload_of}
use Rattle.fts_log.specs.Record.{IsLog, log_end, ends_from}

-- the device on which the log stands
abbrev pub device_of : {D : Type 0} {disk : Ghosts D} → Log D disk → D
device_of log = log.device

-- the device behind a call that makes a log of it: the log's, or the one that is handed back
abbrev pub device_left : {D E : Type 0} {disk : Ghosts D} → Result (Log D disk) (E × D) → D
device_left (Ok log) = device_of log
device_left (Err error) = error.1

-- the bytes with which the file begins
abbrev pub magic_of : {D : Type 0} {disk : Ghosts D} → Log D disk → List ℕ
magic_of log = log.magic

-- the largest end that the log may have
abbrev pub limit_of : {D : Type 0} {disk : Ghosts D} → Log D disk → ℕ
limit_of log = log.limit

-- how many entries the log has
abbrev pub count_of : {D : Type 0} {disk : Ghosts D} → Log D disk → ℕ
count_of log = log.count

-- the place behind the closed gate
abbrev pub end_of : {D : Type 0} {disk : Ghosts D} → Log D disk → ℕ
end_of log = log.end

-- how many bytes the frame of a payload has: its length and a closed gate are around it
abbrev pub framed_size : List ℕ → ℕ
framed_size payload = length payload + 5

-- the end after an append of the frame: an open gate, a length of four bytes and the payload come before the closed
-- gate
abbrev pub end_after : {D : Type 0} {disk : Ghosts D} → Log D disk → Framed → ℕ
end_after log framed = end_of log + length (payload_of framed) + 5

-- where the records end that the opening of this log found
abbrev pub found_ends : {D : Type 0} {disk : Ghosts D} → Log D disk → List ℕ
found_ends log = ends_in log.found

-- how many entries the opening found; a log that was just created keeps none
abbrev pub found_count : {D : Type 0} {disk : Ghosts D} → Log D disk → ℕ
found_count log = length (found_ends log)

-- the magic, the limit and what the opening found are as before
pub record KeepsMaking {D : Type 0} {disk : Ghosts D} (old new : Log D disk) : Type 0 where
  pub magic : magic_of new ≡ magic_of old
  pub limit : limit_of new ≡ limit_of old
  pub found : found_count new ≡ found_count old

-- all that is the log's own is as before
pub record KeepsNumbers {D : Type 0} {disk : Ghosts D} (old new : Log D disk) : Type 0 where
  pub making : KeepsMaking old new
  pub count : count_of new ≡ count_of old
  pub «end» : end_of new ≡ end_of old

-- the numbers of an append: the entry has the next number, and the log then has one entry more and ends behind it;
-- where there is an error, they are as before
pub record Numbers {D : Type 0} {disk : Ghosts D} (framed : Framed) (result : Result ℕ AppendError)
    (old new : Log D disk)
    : Type 0 where
  pub making : KeepsMaking old new
  pub number : IfOk result (λ number. number ≡ count_of old)
  pub counted : OnOk result (count_of new ≡ count_of old + 1)
  pub grown : OnOk result (end_of new ≡ end_after old framed)
  pub uncounted : OnErr result (count_of new ≡ count_of old)
  pub ungrown : OnErr result (end_of new ≡ end_of old)

-- file 0 is a log of these entries, and the log's numbers are theirs; a crash leaves file 0 as it reads, whatever is
-- pending in the other files
pub record StandsFor {D : Type 0} {disk : Ghosts D} (entries : List (List ℕ)) (log : Log D disk) : Type 0 where
  pub is_log : IsLog (magic_of log) entries (disk.seen (device_of log) 0)
  pub «end» : end_of log ≡ log_end (magic_of log) entries
  pub count : count_of log ≡ length entries
  pub durable : OnlyIn 0 (disk.seen (device_of log)) (disk.images (device_of log))
  pub ends : found_ends log ≡ take (found_count log) (ends_from (length (magic_of log)) entries)

-- a log has few entries, since each takes five bytes
pub few_entries : {D : Type 0} {disk : Ghosts D} (log : Log D disk) → 5 * count_of log ≤ 2 ^ 63
few_entries log = omega (arith, log.spaced, log.ends_within)
