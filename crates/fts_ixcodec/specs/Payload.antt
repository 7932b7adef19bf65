-- The payloads of the index log.
use Rattle.std.specs.Prelude.{◌≡◌, ◌≢◌, ℕ, ◌<◌, ◌≤◌, ◌^◌, Bool, true, false, not, ◌&&◌, ◌==◌, if◌then◌else◌, List, []}
use Rattle.std.specs.Prelude.{◌∷◌, ◌++◌, length, All, sum_by, Option, Some, None}
use Rattle.std.specs.List.{flat_map}
use Rattle.std.specs.List.Sorted.{IsStrictlySortedBy}
use Rattle.std.specs.Map.{keys_of}
use Rattle.std.specs.Int.{w32, w64, to_be_bytes}
use Rattle.std.specs.Char.{is_ascii_uppercase}
use Rattle.fts_words.specs.Byte.{is_word_byte}
use Rattle.fts_words.specs.Indexed.{Rules}
use Rattle.fts_words.specs.Order.{byte_order}
use Rattle.fts_ilist.specs.Spelling.{ArePostings, list_bytes}
use Rattle.fts_ilist.specs.Node.{Docs, NodesAfter}
use Rattle.fts_ilist.specs.Packing.{is_sound}
use Rattle.fts_entries.specs.Entry.{Batch, IndexEntry}
use Rattle.fts_entries.specs.Entry.IndexEntry.{sealed, begun, worked, finished}

-- a word, behind its length of one byte
abbrev pub word_payload : List ℕ → List ℕ
word_payload word = length word ∷ word

-- the list of a node, behind its length of four bytes
abbrev pub list_payload : Docs → List ℕ
list_payload docs = to_be_bytes w32 (length (list_bytes docs)) ++ list_bytes docs

-- a node of a batch: its word, and its list
abbrev pub node_payload : List ℕ → Docs → List ℕ
node_payload word docs = word_payload word ++ list_payload docs

-- a word of a batch with its nodes, one behind another: a word with three nodes stands thrice
abbrev pub nodes_payload : List ℕ × List Docs → List ℕ
nodes_payload group = flat_map (node_payload group.0) group.1

-- how many nodes a batch has
abbrev pub node_count : Batch → ℕ
node_count batch = sum_by (λ group. length group.1) batch

-- an entry: its kind in one byte, and then
-- of a batch, through which commit and up to which id it flushes, in eight bytes each, the count of its nodes in four,
-- and the nodes;
-- of a word of a pass, the word, the count of its nodes in four bytes, and their lists
abbrev pub entry_payload : IndexEntry → List ℕ
entry_payload (sealed through synced batch) =
    1 ∷ (to_be_bytes w64 through ++ (to_be_bytes w64 synced
    ++ (to_be_bytes w32 (node_count batch) ++ flat_map nodes_payload batch)))
entry_payload begun = 2 ∷ []
entry_payload (worked word nodes) =
    3 ∷ (word_payload word ++ (to_be_bytes w32 (length nodes) ++ flat_map list_payload nodes))
entry_payload finished = 4 ∷ []

-- ---- which entries have a payload

-- a byte of indexed words: a lower-case letter, a digit or `_`
abbrev pub is_lower_byte : ℕ → Bool
is_lower_byte byte = is_word_byte byte && not (is_ascii_uppercase byte)

-- a byte of a word, behind another one or not: whether one of these bytes came, or an apostrophe behind one
abbrev pub form_step : Bool → ℕ → Option Bool
form_step behind_byte byte =
    if is_lower_byte byte then Some true else (if behind_byte && (byte == 39) then Some false else None)

unfoldable pub is_form_from : Option Bool → List ℕ → Bool
is_form_from None bytes = false
is_form_from (Some behind_byte) [] = behind_byte
is_form_from (Some behind_byte) (byte ∷ bytes) = is_form_from (form_step behind_byte byte) bytes

-- a word as the index has it: such bytes, with single apostrophes (39) between them
abbrev pub is_form : List ℕ → Bool
is_form word = is_form_from (Some false) word

-- a word that these rules may index, by its form and its length: a stopword too
pub record IsWord (rules : Rules) (word : List ℕ) : Type 0 where
  pub form : is_form word ≡ true
  pub long : rules.min ≤ length word
  pub short : length word ≤ rules.max

-- a node as packing makes it: documents that have a list, one alone or at most 8,192 bytes
pub record IsNode (docs : Docs) : Type 0 where
  pub are : ArePostings docs
  pub sound : is_sound docs ≡ true
  pub fits : length (list_bytes docs) < 2 ^ 32

-- the nodes of a word: the ids ascend from node to node
pub record AreNodes (nodes : List Docs) : Type 0 where
  pub ascend : NodesAfter 0 nodes
  pub each : All IsNode nodes

-- a word of a batch: it has nodes
pub record IsGroup (rules : Rules) (group : List ℕ × List Docs) : Type 0 where
  pub word : IsWord rules group.0
  pub some : group.1 ≢ []
  pub nodes : AreNodes group.1

-- the words of a batch: each once, in byte order
pub record AreGroups (rules : Rules) (batch : Batch) : Type 0 where
  pub ascend : IsStrictlySortedBy byte_order (keys_of batch)
  pub each : All (IsGroup rules) batch

-- an entry that the index log can hold
abbrev pub IsEntry : Rules → IndexEntry → Type 0
IsEntry rules (sealed through synced batch) =
    (through < 2 ^ 64) × (synced < 2 ^ 64) × (node_count batch < 2 ^ 32) × AreGroups rules batch
IsEntry rules begun = Unit {0}
IsEntry rules (worked word nodes) = IsWord rules word × (length nodes < 2 ^ 32) × AreNodes nodes
IsEntry rules finished = Unit {0}

-- ---- which entries can be written

-- words whose lengths fit one byte
abbrev pub HasShortWord : List ℕ × List Docs → Type 0
HasShortWord group = length group.0 ≤ 255

abbrev pub HaveShortWords : IndexEntry → Type 0
HaveShortWords (sealed through synced batch) = All HasShortWord batch
HaveShortWords begun = Unit {0}
HaveShortWords (worked word nodes) = length word ≤ 255
HaveShortWords finished = Unit {0}

-- an entry whose payload a record of the log can hold
pub record FitsRecord (entry : IndexEntry) : Type 0 where
  pub words : HaveShortWords entry
  pub short : length (entry_payload entry) < 2 ^ 32

-- the payload of an entry has so many bytes, and those of its words fit one byte each
pub record HasSize (entry : IndexEntry) (size : ℕ) : Type 0 where
  pub words : HaveShortWords entry
  pub is : size ≡ length (entry_payload entry)

-- an entry without a payload, or one with more bytes than eight bytes can count
abbrev pub HasNoSize : IndexEntry → Type 0
HasNoSize entry = HaveShortWords entry → 2 ^ 64 ≤ length (entry_payload entry)
