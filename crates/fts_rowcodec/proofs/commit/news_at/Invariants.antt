use Rattle.std.proofs.Common.{◌≡◌, ◌-◌, map}
use Rattle.fts_commits.specs.NewText.{new_text}
use Rattle.fts_codec.specs.Fields.{many_at}
use Rattle.fts_rowcodec.specs.Reading.{new_at}
use Rattle.fts_codec.proofs.Loop.{with_front}
use Rattle.fts_rowcodec.proofs.commit.news_at.Given as goal

abbrev pub invariant-loop : goal.invariant-loop
invariant-loop l = with_front (map new_text l.news.items) (many_at new_at (l.count - l.counter) l.rest) ≡ many_at new_at l.count l.bytes
