use Rattle.std.proofs.Common.{◌≡◌, ℕ, List, length}
use Rattle.std.specs.Map.{keys_of}
use Rattle.fts_aux.specs.Table.{nodes_in, is_key, IsNotedBut}
use Rattle.fts_aux.proofs.table.give_up.Given as goal

abbrev pub invariant-loop-number : goal.invariant-loop-number
invariant-loop-number l =
    ((w : List ℕ) → nodes_in l.words.entries w ≡ nodes_in l.initial.words.entries w)
    × ((w : List ℕ) → is_key l.words.entries w ≡ is_key l.initial.words.entries w)
    × IsNotedBut l.words.entries l.notes.items
    × (keys_of l.words.entries ≡ keys_of l.initial.words.entries)

abbrev pub decreases-loop-number : goal.decreases-loop-number
decreases-loop-number l = length l.notes.items
