use Rattle.std.proofs.Common.{◌≡◌, ℕ, List}
use Rattle.fts_aux.specs.Table.{list_in, AreFilledBut, IsListed, loose_count}
use Rattle.fts_aux.proofs.table.drop_empty.Given as goal

abbrev pub invariant-loop-number : goal.invariant-loop-number
invariant-loop-number l =
    ((w : List ℕ) → list_in l.words.entries w ≡ list_in l.initial.words.entries w)
    × AreFilledBut l.words.entries l.kept l.number
    × IsListed l.words.entries l.order
    × (loose_count l.words.entries ≡ loose_count l.initial.words.entries)

abbrev pub decreases-loop-number : goal.decreases-loop-number
decreases-loop-number l = l.number
