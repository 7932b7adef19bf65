-- Nodes that lie one behind the other in one run of bytes.
use Rattle.std.specs.Prelude.{◌≡◌, ◌≢◌, ℕ, zero, suc, ◌*◌, ◌≤◌, ◌<◌, ◌^◌, Bool, List, [], ◌∷◌, ◌++◌, ◌+◌, length}
use Rattle.std.specs.Prelude.{sum_by, take, drop}
use Rattle.fts_ilist.specs.Number.{number_bytes}
use Rattle.fts_ilist.specs.Spelling.{Item, ArePostings, list_bytes}
use Rattle.fts_ilist.specs.Spelling.Item.{increase, document_end}
use Rattle.fts_ilist.specs.Reading.{items_after, postings_in, IsKept}
use Rattle.fts_ilist.specs.Node.{Docs, head_size, last_of}
use Rattle.fts_ilist.specs.Packing.{node_size, are_loose}

-- what is kept of a node, and its bytes
pub record IsNode (first last count head : ℕ) (bytes : List ℕ) : Type 0 where
  pub kept : IsKept first last count bytes
  pub some : postings_in 0 bytes ≢ []
  pub head_is : head ≡ head_size (postings_in 0 bytes)

-- what is kept of a node that is lent, and its bytes
pub record IsLent (count : ℕ) (bytes : List ℕ) : Type 0 where
  pub are : ArePostings (postings_in 0 bytes)
  pub spelled : bytes ≡ list_bytes (postings_in 0 bytes)
  pub some : postings_in 0 bytes ≢ []
  pub count_is : count ≡ length (postings_in 0 bytes)

-- ---- a run of bytes: for each node the number of its bytes, that of its documents, and its bytes

-- a node of so many documents in a run
abbrev pub node_bytes : ℕ → List ℕ → List ℕ
node_bytes count bytes = number_bytes (length bytes) ++ (number_bytes count ++ bytes)

-- the number that items begin with
abbrev pub front_value : List Item → ℕ
front_value [] = 0
front_value (increase n ∷ items) = n
front_value (document_end ∷ items) = 0

-- the number at the front of bytes, and the bytes behind it
abbrev pub number_in : List ℕ → ℕ
number_in bytes = front_value (items_after 0 bytes)

abbrev pub behind_number : List ℕ → List ℕ
behind_number bytes = drop (length (number_bytes (number_in bytes))) bytes

-- the bytes of the first node of a run, and the run behind it
abbrev pub first_bytes : List ℕ → List ℕ
first_bytes run = take (number_in run) (behind_number (behind_number run))

abbrev pub behind_node : List ℕ → List ℕ
behind_node run = drop (number_in run) (behind_number (behind_number run))

-- the first so many nodes of a run
abbrev pub nodes_at : ℕ → List ℕ → List Docs
nodes_at zero run = []
nodes_at (suc more) run = postings_in 0 (first_bytes run) ∷ nodes_at more (behind_node run)

-- a run begins with a node
pub record BeginsWithNode (run : List ℕ) : Type 0 where
  pub size : ℕ
  pub count : ℕ
  pub rest : List ℕ
  pub small : size < 2 ^ 64
  pub few : count < 2 ^ 64
  pub parts : run ≡ number_bytes size ++ (number_bytes count ++ rest)
  pub within : size ≤ length rest
  pub node : IsLent count (take size rest)

-- a run is so many nodes, and nothing else
abbrev pub IsRun : ℕ → List ℕ → Type 0
IsRun zero run = run ≡ []
IsRun (suc more) run = BeginsWithNode run × IsRun more (behind_node run)

-- how many bytes nodes take
abbrev pub nodes_size : List Docs → ℕ
nodes_size ns = sum_by node_size ns

-- what contracts see of a list of nodes: the nodes, and the room that was asked for and is left, in nodes and in bytes
pub record NodeState : Type 0 where
  pub nodes : List Docs
  pub node_room : ℕ
  pub byte_room : ℕ

-- a list that promises no room
abbrev pub with_nodes : List Docs → NodeState
with_nodes ns = record { nodes = ns; node_room = 0; byte_room = 0 }

-- a list of nodes took some in behind its own, within its room
pub record Takes (old new : NodeState) (more : List Docs) : Type 0 where
  pub nodes : new.nodes ≡ old.nodes ++ more
  pub node_room : new.node_room + length more ≡ old.node_room
  pub byte_room : new.byte_room + nodes_size more ≡ old.byte_room

-- how many bytes the last of some nodes has, and before where there is none
abbrev pub last_size : ℕ → List Docs → ℕ
last_size before [] = before
last_size before (n ∷ ns) = last_size (node_size n) ns

-- how many bytes of a run so many nodes of so many bytes take at most: ten for the two numbers of each
abbrev pub run_room : ℕ → ℕ → ℕ
run_room nodes bytes = bytes + 10 * nodes

-- the fields of a list of nodes: a run of so many, the last id and the size of the last, room within the capacity and
-- within 32 bits, and whether packing would change the nodes
pub record IsNodeList (count : ℕ) (run : List ℕ) (spare last size node_room byte_room : ℕ) (loose : Bool) : Type 0 where
  pub are : IsRun count run
  pub last_is : last ≡ last_of 0 (nodes_at count run)
  pub size_is : size ≡ last_size 0 (nodes_at count run)
  pub told : loose ≡ are_loose (nodes_at count run)
  pub within : run_room node_room byte_room ≤ spare
  pub within_ends : length run + run_room node_room byte_room < 2 ^ 32
  pub within_count : count + node_room < 2 ^ 32
