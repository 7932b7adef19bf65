use Rattle.std.proofs.Common.{◌≡◌, ◌-◌}
use Rattle.fts_ixcodec.specs.Building.{nothing}
use Rattle.fts_types.specs.Rules.{rules_of}
use Rattle.fts_ixcodec.specs.Reading.{one_at, many_at}
use Rattle.fts_ixcodec.proofs.building.many_at.Given as goal

abbrev pub invariant-loop : goal.invariant-loop
invariant-loop l = many_at (one_at (rules_of l.settings) l.worded) (l.count - l.counter) l.building l.rest ≡ many_at (one_at (rules_of l.settings) l.worded) l.count nothing l.bytes
