use Rattle.std.proofs.Common.{map}
use Rattle.fts_aux.specs.Words.{IsWalked}
use Rattle.fts_aux.specs.Tables.{nodes}
use Rattle.fts_index.proofs.Walks.{behind}
use Rattle.fts_index.proofs.walk.all_words.Given as goal

abbrev pub invariant-loop-word : goal.invariant-loop-word
invariant-loop-word l = IsWalked (nodes l.tables) l.last (map (λ p. (p.0.now, p.1)) l.words.items)

abbrev pub decreases-loop-word : goal.decreases-loop-word
decreases-loop-word l = behind l.last l.tables
