-- The six tables as one map from words to their nodes.
use Rattle.std.specs.Prelude.{◌≡◌, ◌≢◌, ℕ, ◌==◌, suc, Bool, false, true, List, [], ◌∷◌, cond, if◌then◌else◌, length}
use Rattle.std.specs.Prelude.{◌⊎◌, nat_lt}
use Rattle.std.specs.List.{All, list_all, list_any}
use Rattle.std.specs.Map.{keys_of}
use Rattle.std.specs.Str.{bytes_eq}
use Rattle.fts_types.specs.Table.{table_of}
use Rattle.fts_ilist.specs.Node.{Docs, NodesAfter, last_of, nodes_for}
use Rattle.fts_ilist.specs.Spelling.{first_id}
use Rattle.fts_aux.specs.Table.{Entries, nodes_in, list_in, is_key, Room, room_of, no_room, needs, with_room, IsWithin}
use Rattle.fts_aux.specs.Words.{IsNext, IsLast, HasLoose}

-- the six tables, each with its words. A word without nodes is there for its room alone
abbrev pub Held : Type 0
Held = List Entries

abbrev pub room_in : Entries → List ℕ → Room
room_in table word = room_of (list_in table word)

-- what the word's table has of it, where the tables are numbered from k on
abbrev pub from_table : {A : Type 0} → (Entries → List ℕ → A) → A → ℕ → List Entries → List ℕ → A
from_table has none k [] word = none
from_table has none k (t ∷ ts) word = cond (table_of word == k) (has t word) (from_table has none (suc k) ts word)

abbrev pub nodes_from : ℕ → List Entries → List ℕ → List Docs
nodes_from k tables word = from_table nodes_in [] k tables word

-- the nodes of a word, none where it isn't in the tables
abbrev pub nodes : Held → List ℕ → List Docs
nodes held word = nodes_from 1 held word

-- the room that is promised for more nodes of a word
abbrev pub room : Held → List ℕ → Room
room held word = from_table room_in no_room 1 held word

-- the tables hold a word, if only for its room
abbrev pub holds : Held → List ℕ → Bool
holds held word = from_table is_key false 1 held word

-- each table has words of its own number alone
abbrev pub PlacedFrom : ℕ → List Entries → Type 0
PlacedFrom k [] = Unit {0}
PlacedFrom k (t ∷ ts) = ((word : List ℕ) → nodes_in t word ≢ [] → table_of word ≡ k) × PlacedFrom (suc k) ts

-- each word stands in its table, and its nodes ascend by ids
pub record AreTables (tables : List Entries) : Type 0 where
  pub six : length tables ≡ 6
  pub placed : PlacedFrom 1 tables
  pub ascending : (word : List ℕ) → NodesAfter 0 (nodes_from 1 tables word)

-- there is room for the nodes of a batch
abbrev pub HasRoom : Held → List (List ℕ × List Docs) → Type 0
HasRoom held batch = (word : List ℕ) → IsWithin (needs (nodes_for word batch)) (room held word)

-- the room is what the nodes of a batch need, and no more
abbrev pub HasRoomOf : Held → List (List ℕ × List Docs) → Type 0
HasRoomOf held batch = (word : List ℕ) → room held word ≡ needs (nodes_for word batch)

-- a word without nodes is one of the batch
abbrev pub HasNoOther : Held → List (List ℕ × List Docs) → Type 0
HasNoOther held batch = (word : List ℕ) → holds held word ≡ true → nodes held word ≡ []
    → list_any (bytes_eq word) (keys_of batch) ≡ true

-- the ids of a batch are above those that the tables hold for their words, and ascend
abbrev pub ComesAfter : Held → List (List ℕ × List Docs) → Type 0
ComesAfter held batch = All (λ g. NodesAfter (last_of 0 (nodes held g.0)) g.1) batch

-- the first id of nodes is above one
abbrev pub begins_above : ℕ → List Docs → Bool
begins_above last [] = true
begins_above last (n ∷ ns) = nat_lt last (first_id n)

-- the nodes of each word of a batch begin behind those that the tables hold
abbrev pub begin_behind : Held → List (List ℕ × List Docs) → Bool
begin_behind held batch = list_all (λ g. begins_above (last_of 0 (nodes held g.0)) g.1) batch

-- the room of a word is given up, and it is out if it has no nodes
pub record IsGivenUp (old new : Held) (word : List ℕ) : Type 0 where
  pub nodes_stay : nodes new word ≡ nodes old word
  pub room_out : room new word ≡ no_room
  pub filled : holds new word ≡ true → nodes new word ≢ []

-- all of a word stays
pub record Stays (old new : Held) (word : List ℕ) : Type 0 where
  pub nodes_stay : nodes new word ≡ nodes old word
  pub room_stays : room new word ≡ room old word
  pub holds_still : holds new word ≡ holds old word

-- one word has so much more room
pub record GainsRoom (old new : Held) (word : List ℕ) (more : Room) : Type 0 where
  pub room_is : (w : List ℕ) → room new w ≡ with_room (room old w) (if bytes_eq w word then more else no_room)
  pub are : (w : List ℕ) → holds new w ≡ true → (holds old w ≡ true) ⊎ (w ≡ word)

-- nodes took so much of the room of one word
abbrev pub UsesRoom : Held → Held → List ℕ → Room → Type 0
UsesRoom old new word used = (w : List ℕ) → with_room (room new w) (if bytes_eq w word then used else no_room)
    ≡ room old w

-- the least word behind this one in the first of some tables that has one
abbrev pub IsNextIn : List Entries → List ℕ → List ℕ → Type 0
IsNextIn [] word next = ⊥
IsNextIn (t ∷ ts) word next = IsNext (nodes_in t) word next ⊎ (IsLast (nodes_in t) word × IsNextIn ts word next)

-- no word behind this one is in some tables
abbrev pub IsLastIn : List Entries → List ℕ → Type 0
IsLastIn [] word = Unit {0}
IsLastIn (t ∷ ts) word = IsLast (nodes_in t) word × IsLastIn ts word

-- packing would change the nodes of a word of some tables
abbrev pub HasLooseIn : List Entries → Type 0
HasLooseIn [] = ⊥
HasLooseIn (t ∷ ts) = HasLoose (nodes_in t) ⊎ HasLooseIn ts
