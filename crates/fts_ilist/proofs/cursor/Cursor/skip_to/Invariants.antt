use Rattle.std.proofs.Common.{◌≡◌, length}
use Rattle.fts_ilist.specs.Cursor.{postings_from}
use Rattle.fts_ilist.proofs.cursor.Cursor.skip_to.Given as goal

abbrev pub invariant-loop-self : goal.invariant-loop-self
invariant-loop-self l = postings_from l.id l.self ≡ postings_from l.id l.fn.self

abbrev pub decreases-loop-self : goal.decreases-loop-self
decreases-loop-self l = length l.self
