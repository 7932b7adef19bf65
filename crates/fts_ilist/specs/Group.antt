-- Nodes of a word, as they are kept in memory.
use Rattle.std.specs.Prelude.{ℕ, List, [], ◌∷◌}
use Rattle.fts_ilist.specs.Node.{Docs}
use Rattle.fts_ilist.specs.declared.node.Held.{Held}
use Rattle.fts_ilist.specs.declared.node.HeldWord.{HeldWord}
use Rattle.fts_ilist.specs.declared.node.HeldWord.TheVariants.{Own, Lent}
use Rattle.fts_ilist.specs.declared.node.Held.TheVariants.{One, Many}

abbrev pub held_nodes : Held → List Docs
held_nodes (One node) = node ∷ []
held_nodes (Many nodes) = nodes.items

-- the bytes of a word that is held or lent
abbrev pub held_word : HeldWord → List ℕ
held_word (Own word) = word
held_word (Lent bytes) = bytes.now
