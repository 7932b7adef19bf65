use Rattle.std.proofs.Common.{◌≡◌, ◌-◌, []}
use Rattle.fts_rowcodec.specs.Reading.{names_from}
use Rattle.fts_rowcodec.proofs.settings.many_names.Given as goal

abbrev pub invariant-loop : goal.invariant-loop
invariant-loop l = names_from l.names (l.count - l.counter) l.rest ≡ names_from [] l.count l.bytes
