use Rattle.std.specs.Prelude.{ℕ, length}
use Rattle.fts_host.specs.declared.disk.HostDisk.{HostDisk}
use Rattle.fts_host.specs.declared.streams.StdSource.{StdSource}
use Rattle.fts_host.specs.declared.streams.StdSink.{StdSink}

-- how many files a device has, from number 0 on
abbrev pub host_count : {R : Type 0} → HostDisk R → ℕ
host_count disk = length disk.files.items

-- how many errors of the system a device met
abbrev pub host_faults : {R : Type 0} → HostDisk R → ℕ
host_faults disk = disk.faults.count

-- how many errors of the system a source met
abbrev pub source_faults : {I : Type 0} → StdSource I → ℕ
source_faults source = source.faults.count

-- how many errors of the system a sink met
abbrev pub sink_faults : {O : Type 0} → StdSink O → ℕ
sink_faults sink = sink.faults.count
