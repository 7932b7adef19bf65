-- Bytes of a node, as they are kept in memory.
use Rattle.std.specs.Prelude.{ℕ, List}
use Rattle.fts_ilist.specs.declared.node.HeldBytes.{HeldBytes}
use Rattle.fts_ilist.specs.declared.node.HeldBytes.TheVariants.{Own, Lent}

-- the bytes of a node that are held or lent
abbrev pub held_bytes : HeldBytes → List ℕ
held_bytes (Own bytes) = bytes.items
held_bytes (Lent bytes) = bytes.now
