use Rattle.std.proofs.Common.{◌≡◌, ◌-◌}
use Rattle.fts_codec.specs.Fields.{many_at}
use Rattle.fts_rowcodec.specs.Reading.{text_at}
use Rattle.fts_codec.proofs.Loop.{with_front}
use Rattle.fts_rowcodec.proofs.commit.texts_at.Given as goal

abbrev pub invariant-loop : goal.invariant-loop
invariant-loop l = with_front l.texts (many_at text_at (l.count - l.counter) l.rest) ≡ many_at text_at l.count l.bytes
