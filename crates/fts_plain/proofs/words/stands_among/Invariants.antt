use Rattle.std.proofs.Common.{◌≡◌, false, drop, take}
use Rattle.fts_words.specs.Order.{is_among}
use Rattle.fts_plain.proofs.words.stands_among.Given as goal

abbrev pub invariant-loop-i : goal.invariant-loop-i
invariant-loop-i l = is_among (take l.i (drop l.from l.all)) l.word ≡ false
