-- Nodes of a word.
use Rattle.std.specs.Prelude.{ℕ, ◌+◌, ◌<◌, List, [], ◌∷◌, cond, length}
use Rattle.std.specs.List.{flat_map}
use Rattle.std.specs.Str.{bytes_eq}
use Rattle.fts_ilist.specs.Spelling.{Posting, items_bytes, position_items, id_at_end}

-- a node is the documents of its list
abbrev pub Docs : Type 0
Docs = List Posting

-- how many bytes a document takes behind its id: its positions, and its end
abbrev pub body_size : Posting → ℕ
body_size p = length (items_bytes (position_items 0 p.positions)) + 1

-- how many bytes the first document takes behind its id, and none where there is no document
abbrev pub head_size : List Posting → ℕ
head_size [] = 0
head_size (p ∷ ps) = body_size p

-- the first id of a node's documents is above last
abbrev pub BeginsAfter : ℕ → Docs → Type 0
BeginsAfter last [] = ⊥
BeginsAfter last (p ∷ ps) = last < p.id

-- nodes whose ids are above last and ascend from node to node
abbrev pub NodesAfter : ℕ → List Docs → Type 0
NodesAfter last [] = Unit {0}
NodesAfter last (n ∷ ns) = BeginsAfter last n × NodesAfter (id_at_end 0 n) ns

-- the last id of a word's nodes, and before where there is none
abbrev pub last_of : ℕ → List Docs → ℕ
last_of before [] = before
last_of before (n ∷ ns) = last_of (id_at_end 0 n) ns

-- the nodes that a batch has for a word
abbrev pub nodes_for : List ℕ → List (List ℕ × List Docs) → List Docs
nodes_for word batch = flat_map (λ g. cond (bytes_eq word g.0) g.1 []) batch
