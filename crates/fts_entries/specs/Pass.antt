-- The steps of a pass, which takes deleted documents out of the tables word by word.
use Rattle.std.specs.Prelude.{◌≡◌, ◌≢◌, ◌⊎◌, ℕ, Bool, true, false, not, ◌||◌, if◌then◌else◌, List, [], ◌∷◌}
use Rattle.std.specs.Prelude.{filter, fold}
use Rattle.std.specs.BTreeSet.{insert_key}
use Rattle.std.specs.List.{flat_map, list_any}
use Rattle.std.specs.Map.{keys_of}
use Rattle.std.specs.Option.{unwrap_or}
use Rattle.std.specs.Ordering.{is_lt}
use Rattle.fts_words.specs.Order.{byte_order}
use Rattle.fts_ilist.specs.Changes.{postings_without}
use Rattle.fts_ilist.specs.Node.{Docs}
use Rattle.fts_ilist.specs.Spelling.{ArePostings}
use Rattle.fts_ilist.specs.Packing.{packed, joined, are_loose, is_sound}
use Rattle.fts_aux.specs.Words.{IsNext, IsLast, HasLoose}
use Rattle.fts_entries.specs.Entry.{IndexEntry, IndexState, sealed, begun, worked, finished}

-- a pass can begin: none is open, and there is something to take out, or a word whose nodes packing would change
pub record CanBegin (s : IndexState) : Type 0 where
  pub closed : s.is_open ≡ false
  pub some : (s.deleted ≢ []) ⊎ HasLoose s.nodes

-- the word behind which the pass goes on: its checkpoint, and before its first word the empty one, which has no nodes
abbrev pub place_of : IndexState → List ℕ
place_of s = unwrap_or s.checkpoint []

-- the next word of an open pass, and the nodes that it gets: its documents without those of the pass, packed
pub record IsWord (s : IndexState) (word : List ℕ) (new : List Docs) : Type 0 where
  pub is_open : s.is_open ≡ true
  pub next : IsNext s.nodes (place_of s) word
  pub new_is : new ≡ packed (postings_without s.being_deleted (joined (s.nodes word)))

-- an open pass has gone past each word
pub record CanFinish (s : IndexState) : Type 0 where
  pub is_open : s.is_open ≡ true
  pub last : IsLast s.nodes (place_of s)

-- a node as packing makes it, whose list has a spelling
pub record IsPackedNode (docs : Docs) : Type 0 where
  pub are : ArePostings docs
  pub sound : is_sound docs ≡ true

-- the entry is the next step of OPTIMIZE
abbrev pub IsStep : IndexState → IndexEntry → Type 0
IsStep s (sealed through synced batch) = ⊥
IsStep s begun = CanBegin s
IsStep s (worked word new) = IsWord s word new
IsStep s finished = CanFinish s

-- OPTIMIZE has nothing to do: no pass is open, DELETED is empty, and packing would change no word's nodes
pub record IsIdle (s : IndexState) : Type 0 where
  pub closed : s.is_open ≡ false
  pub none : s.deleted ≡ []
  pub packed_are : HasLoose s.nodes → ⊥

-- ---- the next step, made of the entries before it

-- the words of an entry
abbrev pub entry_words : IndexEntry → List (List ℕ)
entry_words (sealed through synced batch) = keys_of batch
entry_words begun = []
entry_words (worked word new) = word ∷ []
entry_words finished = []

-- the words of entries, each once, in byte order: no other word has nodes
abbrev pub words_named : List IndexEntry → List (List ℕ)
words_named entries = fold (insert_key byte_order) [] (flat_map entry_words entries)

abbrev pub is_none : {A : Type 0} → List A → Bool
is_none [] = true
is_none (x ∷ xs) = false

-- of words in byte order those that have nodes and stand behind the last word of the pass
abbrev pub words_left : IndexState → List (List ℕ) → List (List ℕ)
words_left s words =
    filter (λ word. not (is_none (s.nodes word))) (filter (λ word. is_lt (byte_order (place_of s) word)) words)

-- an open pass works on the first word that is left, and finishes where none is
abbrev pub pass_step : IndexState → List (List ℕ) → IndexEntry
pass_step s [] = finished
pass_step s (word ∷ words) = worked word (packed (postings_without s.being_deleted (joined (s.nodes word))))

-- there is something to take out, or a word whose nodes packing would change
abbrev pub has_work : IndexState → List (List ℕ) → Bool
has_work s words = not (is_none s.deleted) || list_any (λ word. are_loose (s.nodes word)) words

-- the next step of OPTIMIZE behind these entries, which leave this state; none where it has nothing to do
abbrev pub next_steps : List IndexEntry → IndexState → List IndexEntry
next_steps entries s =
    if s.is_open
    then pass_step s (words_left s (words_named entries)) ∷ []
    else if has_work s (words_named entries) then begun ∷ [] else []
