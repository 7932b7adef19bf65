-- The nodes of a word: its documents in order, packed.
use Rattle.std.specs.Prelude.{◌≡◌, ◌≢◌, ℕ, Bool, List, [], ◌∷◌, ◌++◌, length, nat_le, true, false, ◌⊎◌, not, ◌||◌}
use Rattle.std.specs.Prelude.{if◌then◌else◌}
use Rattle.std.specs.List.{flat_map}
use Rattle.fts_ilist.specs.Spelling.{Posting, list_bytes}

-- how many bytes a node of these documents has; its first increase is over 0
abbrev pub node_size : List Posting → ℕ
node_size docs = length (list_bytes docs)

-- the document brings the node's bytes to at most `limit`
abbrev pub has_place : ℕ → List Posting → Posting → Bool
has_place limit node p = nat_le (node_size (node ++ p ∷ [])) limit

-- the documents behind a node that is begun, packed: it is closed where the next document has no place in it
abbrev pub packed_from : ℕ → List Posting → List Posting → List (List Posting)
packed_from limit node [] = node ∷ []
packed_from limit node (p ∷ ps) = if has_place limit node p then packed_from limit (node ++ p ∷ []) ps else
    node ∷ packed_from limit (p ∷ []) ps

-- documents packed into nodes of at most `limit` bytes; one that takes more is a node alone
abbrev pub packed_within : ℕ → List Posting → List (List Posting)
packed_within limit [] = []
packed_within limit (p ∷ ps) = packed_from limit (p ∷ []) ps

-- the nodes of documents, of at most 8,192 bytes each
abbrev pub packed : List Posting → List (List Posting)
packed ps = packed_within 8192 ps

-- the documents of nodes, in their order
abbrev pub joined : List (List Posting) → List Posting
joined nodes = flat_map (λ docs. docs) nodes

-- the node that is begun, and the nodes of what follows
abbrev pub packed_more : List Posting → List Posting → List (List Posting)
packed_more [] rest = packed_within 8192 rest
packed_more (p ∷ ps) rest = packed_from 8192 (p ∷ ps) rest

-- nodes that are closed, and the documents of the one that is begun: whatever follows, these are its first nodes
pub record IsPacking (closed : List (List Posting)) (begun : List Posting) : Type 0 where
  pub packs : (rest : List Posting) → packed_within 8192 ((joined closed ++ begun) ++ rest)
      ≡ closed ++ packed_more begun rest
  pub first : begun ≡ [] → closed ≡ []

-- what closed nodes and the one that is begun become where a document comes: no node is begun anew where it has a place
abbrev pub PutsInto : List (List Posting) → List Posting → Posting → List (List Posting) → List Posting → Type 0
PutsInto closed [] p closed' begun' = (closed' ≡ closed) × (begun' ≡ p ∷ [])
PutsInto closed (d ∷ ds) p closed' begun' =
    ((has_place 8192 (d ∷ ds) p ≡ true) × (closed' ≡ closed) × (begun' ≡ (d ∷ ds) ++ p ∷ []))
    ⊎ ((has_place 8192 (d ∷ ds) p ≡ false) × (closed' ≡ closed ++ (d ∷ ds) ∷ []) × (begun' ≡ p ∷ []))

-- ---- nodes that packing would change

-- packing their documents gives other nodes
abbrev pub AreLoose : List (List Posting) → Type 0
AreLoose nodes = packed (joined nodes) ≢ nodes

-- a node as packing makes it: of one document, or of at most 8,192 bytes
abbrev pub is_sound : List Posting → Bool
is_sound [] = false
is_sound (p ∷ []) = true
is_sound (p ∷ (q ∷ qs)) = nat_le (node_size (p ∷ (q ∷ qs))) 8192

-- the first document of a node has a place in the node before it
abbrev pub takes_first : List Posting → List Posting → Bool
takes_first node [] = false
takes_first node (p ∷ ps) = has_place 8192 node p

-- behind a node, one is not sound, or a node takes the first document of the next
abbrev pub loose_behind : List Posting → List (List Posting) → Bool
loose_behind node [] = false
loose_behind node (n ∷ ns) = (takes_first node n || not (is_sound n)) || loose_behind n ns

-- a node is not sound, or takes the first document of the next: what is kept of nodes tells it
abbrev pub are_loose : List (List Posting) → Bool
are_loose [] = false
are_loose (n ∷ ns) = not (is_sound n) || loose_behind n ns
