use Rattle.std.proofs.Common.{◌≡◌, ◌+◌, drop}
use Rattle.fts_meaning.specs.Holds.{starts_with_words}
use Rattle.fts_plain.proofs.words.stands_at.Given as goal

abbrev pub invariant-loop-i : goal.invariant-loop-i
invariant-loop-i l = starts_with_words (drop (l.place + l.i) l.all) (drop l.i l.words) ≡ starts_with_words (drop l.place l.all) l.words
