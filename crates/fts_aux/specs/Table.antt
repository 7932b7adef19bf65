-- One table of words.
use Rattle.std.specs.Prelude.{◌≡◌, ◌≢◌, ℕ, ◌+◌, ◌≤◌, ◌<◌, Bool, true, false, if◌then◌else◌, List, [], ◌∷◌}
use Rattle.std.specs.Prelude.{length, ◌⊎◌, ◌++◌}
use Rattle.std.specs.Prelude.{Option, Some, None, is_some}
use Rattle.std.specs.List.{list_any, slice_get, sum_by}
use Rattle.std.specs.Option.{unwrap_or}
use Rattle.std.specs.Str.{bytes_eq}
use Rattle.std.specs.Map.{keys_of, lookup}
use Rattle.std.specs.BTreeSet.{BTreeSet, contains}
use Rattle.fts_ilist.specs.Node.{Docs}
use Rattle.fts_words.specs.Order.{byte_order}
use Rattle.fts_ilist.specs.NodeList.{NodeState, nodes_size, with_nodes}
use Rattle.fts_ilist.specs.Packing.{are_loose}

-- what contracts see of a table: its words, each with its nodes and the room that is promised for more
abbrev pub Entries : Type 0
Entries = List (List ℕ × NodeState)

abbrev pub find : List ℕ → Entries → Option NodeState
find word entries = lookup (λ k. bytes_eq word k) entries

-- what stands for a word that is not in a table
abbrev pub no_list : NodeState
no_list = with_nodes []

-- the nodes of a word in a table and its room, none where the word isn't in it
abbrev pub list_in : Entries → List ℕ → NodeState
list_in table word = unwrap_or (find word table) no_list

abbrev pub nodes_in : Entries → List ℕ → List Docs
nodes_in table word = (list_in table word).nodes

-- a word is in a table, if only for its room
abbrev pub is_key : Entries → List ℕ → Bool
is_key table word = is_some (find word table)

-- the key with this number is the word
abbrev pub key_is : Option (List ℕ) → List ℕ → Bool
key_is None word = false
key_is (Some k) word = bytes_eq word k

abbrev pub is_key_at : List (List ℕ) → ℕ → List ℕ → Bool
is_key_at keys number word = key_is (slice_get keys number) word

-- room for so many nodes, of so many bytes in all
pub record Room : Type 0 where
  pub nodes : ℕ
  pub bytes : ℕ

abbrev pub no_room : Room
no_room = record { nodes = 0; bytes = 0 }

abbrev pub room_of : NodeState → Room
room_of list = record { nodes = list.node_room; bytes = list.byte_room }

-- the room that nodes need
abbrev pub needs : List Docs → Room
needs ns = record { nodes = length ns; bytes = nodes_size ns }

abbrev pub with_room : Room → Room → Room
with_room r s = record { nodes = r.nodes + s.nodes; bytes = r.bytes + s.bytes }

abbrev pub IsWithin : Room → Room → Type 0
IsWithin r s = (r.nodes ≤ s.nodes) × (r.bytes ≤ s.bytes)

-- words with what a table has of them
abbrev pub seen : Entries → List (List ℕ) → List (List ℕ × List Docs)
seen table [] = []
seen table (w ∷ ws) = (w, nodes_in table w) ∷ seen table ws

-- ---- what is kept beside the words

-- the words in byte order are the words of the table
abbrev pub IsListed : Entries → BTreeSet (List ℕ) → Type 0
IsListed table order = (word : List ℕ) → contains byte_order order word ≡ is_key table word

-- each word has nodes
abbrev pub AreFilled : Entries → Type 0
AreFilled table = (word : List ℕ) → is_key table word ≡ true → nodes_in table word ≢ []

-- a word without nodes stands behind the first so many words: it was entered for its room
abbrev pub IsFilledBut : Entries → ℕ → Type 0
IsFilledBut table kept = (number : ℕ) (word : List ℕ) → is_key_at (keys_of table) number word ≡ true
    → nodes_in table word ≡ [] → kept ≤ number

-- and before another number
abbrev pub AreFilledBut : Entries → ℕ → ℕ → Type 0
AreFilledBut table kept behind = (number : ℕ) (word : List ℕ) → is_key_at (keys_of table) number word ≡ true
    → nodes_in table word ≡ [] → (kept ≤ number) × (number < behind)

-- a word with room has a note of its number
abbrev pub IsNotedBut : Entries → List ℕ → Type 0
IsNotedBut table notes = (word : List ℕ) → room_of (list_in table word) ≢ no_room
    → list_any (λ number. is_key_at (keys_of table) number word) notes ≡ true

-- 1 where packing would change nodes, and 0 where it leaves them
abbrev pub loose_one : List Docs → ℕ
loose_one ns = if are_loose ns then 1 else 0

-- of how many words packing would change the nodes
abbrev pub loose_count : Entries → ℕ
loose_count table = sum_by (λ k. loose_one (nodes_in table k)) (keys_of table)

pub record IsTable (table : Entries) (order : BTreeSet (List ℕ)) (kept : ℕ) (notes : List ℕ) (loose : ℕ)
    : Type 0 where
  pub listed : IsListed table order
  pub filled : IsFilledBut table kept
  pub within : kept ≤ length (keys_of table)
  pub noted : IsNotedBut table notes
  pub counted : loose ≡ loose_count table

-- ---- what changes

-- the word has this list now, or is no word of the table, and all else stays
abbrev pub Becomes : Entries → List ℕ → Option NodeState → Entries → Type 0
Becomes old word list new = (w : List ℕ) → find w new ≡ (if bytes_eq w word then list else find w old)

-- one more word stands behind the others
pub record Enters (old new : Entries) (word : List ℕ) (list : NodeState) : Type 0 where
  pub becomes : Becomes old word (Some list) new
  pub stay : (number : ℕ) (w : List ℕ) → is_key_at (keys_of old) number w ≡ true
      → is_key_at (keys_of new) number w ≡ true
  pub last : is_key_at (keys_of new) (length old) word ≡ true
  pub keys : (key : List ℕ) × (key ≡ word) × (keys_of new ≡ keys_of old ++ key ∷ [])

-- the list of a word is another, and the words keep their numbers
pub record Writes (old new : Entries) (word : List ℕ) (list : NodeState) : Type 0 where
  pub becomes : Becomes old word (Some list) new
  pub keys : keys_of new ≡ keys_of old

-- one word's nodes change, and with it how many words packing would change
abbrev pub Recounts : Entries → Entries → List ℕ → Type 0
Recounts old new word = loose_count new + loose_one (nodes_in old word)
    ≡ loose_count old + loose_one (nodes_in new word)

-- the word is taken out, if it has no nodes
pub record Drops (old new : Entries) (word : List ℕ) : Type 0 where
  pub lists : (w : List ℕ) → list_in new w ≡ list_in old w
  pub are : (w : List ℕ) → is_key new w ≡ true → is_key old w ≡ true
  pub gone : is_key new word ≡ true → nodes_in new word ≢ []

-- the words in byte order have this one now, or have it no more, and all else stays
abbrev pub Lists : BTreeSet (List ℕ) → List ℕ → Bool → BTreeSet (List ℕ) → Type 0
Lists old word has new = (w : List ℕ) → contains byte_order new w
    ≡ (if bytes_eq w word then has else contains byte_order old w)

-- all words keep their nodes, and no other word was entered
pub record KeepsNodes (old new : Entries) (word : List ℕ) : Type 0 where
  pub nodes : (w : List ℕ) → nodes_in new w ≡ nodes_in old w
  pub keys : (w : List ℕ) → is_key new w ≡ true → (is_key old w ≡ true) ⊎ (w ≡ word)

-- the word has so much more room, and no other word has another
abbrev pub AddsRoom : Entries → Entries → List ℕ → Room → Type 0
AddsRoom old new word more = (w : List ℕ) → room_of (list_in new w)
    ≡ with_room (room_of (list_in old w)) (if bytes_eq w word then more else no_room)
