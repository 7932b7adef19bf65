-- Why a payload was not framed.
use Rattle.std.specs.Prelude.{◌≡◌, ℕ, ◌+◌, ◌<◌, ◌≤◌, ◌^◌, length}
use Rattle.fts_disk.specs.declared.disk.Disk.{Ghosts}
use Rattle.fts_log.specs.declared.log.Log.{Log}
use Rattle.fts_log.specs.Log.{end_of, limit_of}
use Rattle.fts_entries.specs.Entry.{IndexEntry}
use Rattle.fts_ixcodec.specs.Payload.{entry_payload, HaveShortWords}
use Rattle.fts_engine.specs.declared.room.FrameError.{FrameError}
use Rattle.fts_engine.specs.declared.room.FrameError.TheVariants.{NoMemory, TooLong}

-- where the log would end behind a payload of so many bytes
abbrev pub end_behind : {D : Type 0} {disk : Ghosts D} → Log D disk → ℕ → ℕ
end_behind log size = end_of log + size + 5

-- why a payload of so many bytes was not framed: the log would end there, above its limit; or memory ran out, which is
-- asked only where the log has room. An end that eight bytes can't hold is told so too: no memory holds such a payload
abbrev pub IsUnframed : {D : Type 0} {disk : Ghosts D} → Log D disk → ℕ → FrameError → Type 0
IsUnframed log size NoMemory = end_behind log size < 2 ^ 64 → end_behind log size ≤ limit_of log
IsUnframed log size (TooLong «end») = («end» ≡ end_behind log size) × (limit_of log < «end»)

-- so it is of an entry, where the lengths of its words fit one byte: else it has no payload
abbrev pub IsUnframedEntry : {D : Type 0} {disk : Ghosts D} → Log D disk → IndexEntry → FrameError → Type 0
IsUnframedEntry log entry NoMemory =
    HaveShortWords entry → IsUnframed log (length (entry_payload entry)) NoMemory
IsUnframedEntry log entry (TooLong «end») = IsUnframed log (length (entry_payload entry)) (TooLong «end»)
