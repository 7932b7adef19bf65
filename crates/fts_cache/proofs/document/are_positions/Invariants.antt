use Rattle.std.proofs.Common.{◌↔◌, ◌≤◌, drop}
use Rattle.fts_ilist.specs.Spelling.{PositionsFrom}
use Rattle.fts_cache.proofs.document.are_positions.Given as goal

abbrev pub invariant-loop-position : goal.invariant-loop-position
invariant-loop-position l = record {
  rest : PositionsFrom l.next (drop l.position-index l.positions) ↔ PositionsFrom 0 l.positions;
  limit : l.next ≤ 131072;
}
