use Rattle.std.specs.Prelude.{◌≡◌, ℕ, ◌+◌, ◌-◌, ◌^◌, ◌<◌, ◌⊎◌, min, Result, IsErr, is_err, if◌then◌else◌, List}
use Rattle.std.specs.Prelude.{Contains, drop}
use Rattle.fts_faults.specs.Count.{Rose}
use Rattle.fts_io.specs.declared.calls.Calls.{Calls}
use Rattle.fts_io.specs.declared.memory.MemSink.{MemSink}
use Rattle.fts_io.specs.declared.memory.MemSource.{MemSource}

-- one more, but for the last value of a u64, at which a count stands still
abbrev pub one_more : ℕ → ℕ
one_more n = min (n + 1) (2 ^ 64 - 1)

-- the list of failing calls names the next call
abbrev pub NamesNext : Calls → Type 0
NamesNext calls = Contains calls.fails.items (one_more calls.made)

-- over a call the count of faults rose by one where the call failed; that is where the list names it, or no
-- memory was found
pub record IsCounted {T E : Type 0} (old new : Calls) (result : Result T E) : Type 0 where
  pub named : NamesNext old → IsErr result
  pub refused : old.refused < new.refused → IsErr result
  pub only : IsErr result → NamesNext old ⊎ Rose old.refused new.refused
  pub faults : new.faults ≡ (if is_err result then one_more old.faults else old.faults)
  pub made : new.made ≡ one_more old.made
  pub fails : new.fails.items ≡ old.fails.items

-- nothing was called yet, and these calls are to fail
pub record IsFresh (named : List ℕ) (calls : Calls) : Type 0 where
  pub fails : calls.fails.items ≡ named
  pub made : calls.made ≡ 0
  pub faults : calls.faults ≡ 0
  pub refused : calls.refused ≡ 0

-- the calls of a source in memory
abbrev pub source_calls : MemSource → Calls
source_calls source = source.calls

-- the calls of a sink in memory
abbrev pub sink_calls : MemSink → Calls
sink_calls sink = sink.calls

-- the bytes that a source in memory has left
abbrev pub bytes_left : MemSource → List ℕ
bytes_left source = drop source.at source.bytes.items

-- the bytes that a sink in memory holds
abbrev pub bytes_held : MemSink → List ℕ
bytes_held sink = sink.held.items

-- how many bytes a source in memory gives at most a read
abbrev pub most_given : MemSource → ℕ
most_given source = source.most

-- how many bytes a sink in memory takes at most a write
abbrev pub most_taken : MemSink → ℕ
most_taken sink = sink.most
