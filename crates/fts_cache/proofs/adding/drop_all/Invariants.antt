use Rattle.std.proofs.Common.{◌-◌}
use Rattle.fts_cache.proofs.Leaving.{IsDropping, numbers_from}
use Rattle.fts_cache.proofs.adding.drop_all.Given as goal

abbrev pub invariant-loop-number : goal.invariant-loop-number
invariant-loop-number l = IsDropping l.doc (numbers_from l.number (l.places - l.number)) (numbers_from 0 l.places) l.fn.words l.words
