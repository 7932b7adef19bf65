use Rattle.std.proofs.Common.{◌≡◌, ◌-◌}
use Rattle.fts_codec.specs.Fields.{many_at}
use Rattle.fts_rowcodec.specs.Reading.{change_at}
use Rattle.fts_codec.proofs.Loop.{with_front}
use Rattle.fts_rowcodec.proofs.commit.changes_at.Given as goal

abbrev pub invariant-loop : goal.invariant-loop
invariant-loop l = with_front l.changes.items (many_at (change_at l.columns) (l.count - l.counter) l.rest) ≡ many_at (change_at l.columns) l.count l.bytes
