-- The cached words, each by its number, and their queues.
use Rattle.std.specs.Prelude.{◌≡◌, ◌≢◌, ℕ, ◌+◌, ◌-◌, ◌^◌, ◌<◌, ◌≤◌, Bool, ◌&&◌, nat_eq, nat_lt, filter}
use Rattle.std.specs.Borrow.{Bor}
use Rattle.std.specs.Prelude.{List, [], ◌∷◌, ◌++◌, length, map, if◌then◌else◌}
use Rattle.std.specs.Prelude.{Option, Some, None, slice_index_or, filter_map, true, false}
use Rattle.std.specs.List.{list_any}
use Rattle.std.specs.BTreeMap.{BTreeMap, get}
use Rattle.std.specs.Map.{lookup, keys_of}
use Rattle.std.specs.Option.{unwrap_or, option_map, option_map_or}
use Rattle.std.specs.Str.{bytes_eq}
use Rattle.fts_ilist.specs.Spelling.{Posting, ArePositions}
use Rattle.fts_words.specs.Order.{byte_order}
use Rattle.fts_ilist.specs.Queue.{Queue, bytes_for, postings_behind}
use Rattle.fts_ilist.specs.Cursor.{postings_until}
use Rattle.fts_ilist.specs.Node.{Docs}
use Rattle.fts_ilist.specs.Packing.{packed}
use Rattle.fts_cache.specs.Document.{WordPositions, Document, postings_from, document_postings, bytes_in}
use Rattle.fts_cache.specs.declared.words.CachedWord.{CachedWord}

-- the words by their numbers
abbrev pub Slots : Type 0
Slots = List (Option CachedWord)

-- the number of each word, and the words by their numbers
pub record Entries : Type 0 where
  pub numbers : List (List ℕ × ℕ)
  pub slots : Slots

abbrev pub slot_in : Slots → ℕ → Option CachedWord
slot_in slots number = slice_index_or slots number None

-- the number of a word
abbrev pub number_in : Entries → List ℕ → Option ℕ
number_in entries word = lookup (λ k. bytes_eq word k) entries.numbers

-- what stands for a word that was not entered
abbrev pub no_queue : Queue
no_queue = record { postings = []; last = 0; room = 0 }

abbrev pub queue_at : Slots → ℕ → Queue
queue_at slots number = unwrap_or (option_map (λ s. s.queue) (slot_in slots number)) no_queue

-- the queue of a word
abbrev pub queue_in : Entries → List ℕ → Queue
queue_in entries word = unwrap_or (option_map (queue_at entries.slots) (number_in entries word)) no_queue

-- each word is found by its number, and each number is that of its word
pub record IsTable (entries : Entries) : Type 0 where
  pub found : (w : List ℕ) (n : ℕ) → number_in entries w ≡ Some n
      → (s : CachedWord) × (slot_in entries.slots n ≡ Some s) × (s.word ≡ w)
  pub known : (n : ℕ) (s : CachedWord) → slot_in entries.slots n ≡ Some s → number_in entries s.word ≡ Some n

-- whether the queue has neither documents nor room
abbrev pub is_spent : Queue → Bool
is_spent q = nat_eq (length q.postings) 0 && nat_eq q.room 0

-- whether there is a queue with this number that has neither
abbrev pub is_spent_at : Slots → ℕ → Bool
is_spent_at slots number = option_map_or (λ s. is_spent s.queue) (slot_in slots number) false

-- the number is one of these
abbrev pub has_number : ℕ → List ℕ → Bool
has_number n numbers = list_any (nat_eq n) numbers

-- a word without documents and room has one of these numbers
abbrev pub IsUsedBut : Entries → List ℕ → Type 0
IsUsedBut entries idle = (w : List ℕ) (n : ℕ) → number_in entries w ≡ Some n
    → is_spent (queue_in entries w) ≡ true → has_number n idle ≡ true

-- the words in byte order have each word that has a number, with its number, and perhaps more
abbrev pub IsListed : List (List ℕ × ℕ) → BTreeMap (List ℕ) ℕ → Type 0
IsListed numbers order = (w : List ℕ) (n : ℕ) → lookup (λ k. bytes_eq w k) numbers ≡ Some n
    → get byte_order order w ≡ Some n

-- the fields of the words; the idle numbers are noted so that a word without documents and room can be let go of
pub record AreKept (entries : Entries) (order : BTreeMap (List ℕ) ℕ) (idle : List ℕ) : Type 0 where
  pub table : IsTable entries
  pub listed : IsListed entries.numbers order
  pub used : IsUsedBut entries idle

-- words without documents and room have one of these numbers, at most half as many as there are words
pub record FewIdle (entries : Entries) : Type 0 where
  pub idle : List ℕ
  pub few : length idle + length idle ≤ length entries.numbers
  pub used : IsUsedBut entries idle

-- the word with its queue changed so
abbrev pub with_queue : (Queue → Queue) → CachedWord → CachedWord
with_queue change s = record s { queue = change s.queue }

-- the queue with this number is changed so, and no other
abbrev pub Alters : ℕ → (Queue → Queue) → Slots → Slots → Type 0
Alters n change old new =
    (m : ℕ) → slot_in new m ≡ (if nat_eq m n then option_map (with_queue change) (slot_in old m) else slot_in old m)

abbrev pub with_more_room : ℕ → Queue → Queue
with_more_room positions q = record q { room = q.room + bytes_for positions }

abbrev pub without_room : Queue → Queue
without_room q = record q { room = 0 }

abbrev pub with_posting : ℕ → List ℕ → Queue → Queue
with_posting id positions q = record {
  postings = q.postings ++ record { id = id; positions = positions } ∷ [];
  last = id;
  room = q.room - bytes_for (length positions);
}

abbrev pub without : ℕ → Queue → Queue
without doc q = record q { postings = postings_behind doc q.postings }

-- the queue can take a document, within its room
pub record CanTake (q : Queue) (doc : ℕ) (positions : List ℕ) : Type 0 where
  pub above : q.last < doc
  pub limit : doc < 2 ^ 63
  pub are_positions : ArePositions positions
  pub room : bytes_for (length positions) ≤ q.room

-- the word's queue is this one now, and no other has changed
abbrev pub Changes : Entries → List ℕ → Queue → Entries → Type 0
Changes old word queue new = (w : List ℕ) → queue_in new w ≡ (if bytes_eq w word then queue else queue_in old w)

-- no queue has changed
abbrev pub Stays : Entries → Entries → Type 0
Stays old new = (w : List ℕ) → queue_in new w ≡ queue_in old w

-- the words keep their numbers
abbrev pub KeepsNumbers : Entries → Entries → Type 0
KeepsNumbers old new = (w : List ℕ) (n : ℕ) → number_in old w ≡ Some n → number_in new w ≡ Some n

-- words were entered, without documents
pub record Enters (old new : Entries) : Type 0 where
  pub numbers : KeepsNumbers old new
  pub more : length old.numbers ≤ length new.numbers
  pub queues : Stays old new

-- words were entered, and queues have more room
pub record Grows (old new : Entries) : Type 0 where
  pub numbers : KeepsNumbers old new
  pub more : length old.numbers ≤ length new.numbers
  pub postings : (w : List ℕ) → (queue_in new w).postings ≡ (queue_in old w).postings
  pub last : (w : List ℕ) → (queue_in new w).last ≡ (queue_in old w).last

-- words without documents were let go of, and room was given up
pub record IsLess (old new : Entries) : Type 0 where
  pub numbers : KeepsNumbers new old
  pub postings : (w : List ℕ) → (queue_in new w).postings ≡ (queue_in old w).postings
  pub last : (w : List ℕ) → (queue_in new w).last ≤ (queue_in old w).last

-- the word with this number was let go of, if it has neither documents nor room, and no other
pub record LetsGo (number : ℕ) (old new : Entries) : Type 0 where
  pub less : IsLess old new
  pub room : (w : List ℕ) → (queue_in new w).room ≡ (queue_in old w).room
  pub others : (w : List ℕ) → number_in old w ≢ Some number → queue_in new w ≡ queue_in old w
  pub used : (w : List ℕ) → number_in new w ≡ Some number → is_spent (queue_in new w) ≡ false

-- no queue takes an id only above this one
abbrev pub EndBy : ℕ → Entries → Type 0
EndBy last entries = (w : List ℕ) → (queue_in entries w).last ≤ last

-- the queue of w, where the documents up to doc were taken out of the queue with a number
pub record IsDropped (number doc : ℕ) (old new : Entries) (w : List ℕ) : Type 0 where
  pub numbers : (m : ℕ) → number_in new w ≡ Some m → number_in old w ≡ Some m
  pub here : number_in old w ≡ Some number
      → (queue_in new w).postings ≡ postings_behind doc (queue_in old w).postings
  pub others : number_in old w ≢ Some number → (queue_in new w).postings ≡ (queue_in old w).postings
  pub last : (queue_in new w).last ≤ (queue_in old w).last

-- what is left of a word's documents, where those up to doc were taken out of the queues with these numbers
abbrev pub left_of : ℕ → List ℕ → Option ℕ → List Posting → List Posting
left_of doc numbers None ps = ps
left_of doc numbers (Some n) ps = if has_number n numbers then postings_behind doc ps else ps

-- no queue has a document up to doc
abbrev pub AreBehind : ℕ → Entries → Type 0
AreBehind doc entries = (w : List ℕ) → postings_behind doc (queue_in entries w).postings ≡ (queue_in entries w).postings

-- the queue of w, where a document was put into the queues of its words
pub record IsAdded (d : Document) (old new : Entries) (w : List ℕ) : Type 0 where
  pub postings : (queue_in new w).postings ≡ (queue_in old w).postings ++ document_postings w d
  pub last : (queue_in new w).last ≤ d.id
  pub room : (queue_in new w).room + bytes_in w d.words ≡ (queue_in old w).room

-- the same in the middle, with these words of the document left to be put in
pub record IsPartlyAdded (d : Document) (left : List WordPositions) (old new : Entries) (w : List ℕ) : Type 0 where
  pub postings : (queue_in new w).postings ++ postings_from d.id w left
      ≡ (queue_in old w).postings ++ document_postings w d
  pub last : (queue_in new w).last ≤ d.id
  pub below : 0 < bytes_in w left → (queue_in new w).last < d.id
  pub room : (queue_in new w).room + bytes_in w d.words ≡ (queue_in old w).room + bytes_in w left

-- these are the numbers of the words, in their order
abbrev pub AreNumbersOf : Entries → List WordPositions → List ℕ → Type 0
AreNumbersOf entries [] [] = Unit {0}
AreNumbersOf entries (v ∷ vs) (n ∷ ns) = (number_in entries v.word ≡ Some n) × AreNumbersOf entries vs ns
AreNumbersOf entries [] (n ∷ ns) = ⊥
AreNumbersOf entries (v ∷ vs) [] = ⊥

-- the room of w, where that of the words with these numbers was given up
pub record GivesUp (numbers : List ℕ) (old new : Entries) (w : List ℕ) : Type 0 where
  pub given : (n : ℕ) → number_in old w ≡ Some n → has_number n numbers ≡ true → (queue_in new w).room ≡ 0
  pub kept : ((n : ℕ) → number_in old w ≡ Some n → has_number n numbers ≡ false)
      → (queue_in new w).room ≡ (queue_in old w).room

-- whether the queue has a document up to this id
abbrev pub leaves : ℕ → Queue → Bool
leaves doc queue = nat_lt 0 (length (postings_until doc queue.postings))

-- the word, where it has a document up to this id
abbrev pub leaving_word : ℕ → Option CachedWord → Option (List ℕ)
leaving_word doc None = None
leaving_word doc (Some s) = if leaves doc s.queue then Some s.word else None

-- those of these words that have a document up to this id
abbrev pub leaving_words : Slots → ℕ → List ℕ → List (List ℕ)
leaving_words slots doc numbers = filter_map (λ n. leaving_word doc (slot_in slots n)) numbers

-- whether the number of a word in byte order is still its own, and it has a document up to this id
abbrev pub is_leaving_as : Slots → ℕ → List ℕ × ℕ → Bool
is_leaving_as slots doc entry = option_map_or (bytes_eq entry.0) (leaving_word doc (slot_in slots entry.1)) false

-- those of the words in byte order that have a document up to this id
abbrev pub leaving_listed : Slots → ℕ → List (List ℕ × ℕ) → List (List ℕ)
leaving_listed slots doc entries = keys_of (filter (is_leaving_as slots doc) entries)

-- the words in byte order keep the numbers of all words but one
abbrev pub KeepsBut : List ℕ → BTreeMap (List ℕ) ℕ → BTreeMap (List ℕ) ℕ → Type 0
KeepsBut word old new = (w : List ℕ) → bytes_eq w word ≡ false → get byte_order new w ≡ get byte_order old w

-- whether a document has the word
abbrev pub has_documents : Entries → List ℕ → Bool
has_documents entries w = nat_lt 0 (length (queue_in entries w).postings)

-- those of these words that a document has
abbrev pub with_documents : Entries → List (List ℕ) → List (List ℕ)
with_documents entries words = filter (λ w. has_documents entries w) words

-- a word with the nodes of its documents up to an id
abbrev pub sealed_word : ℕ → CachedWord → List ℕ × List Docs
sealed_word doc s = (s.word, packed (postings_until doc s.queue.postings))

-- words that are lent with their documents, with the nodes of these up to an id
abbrev pub sealed_all : ℕ → List (Bor (List ℕ) × List Posting) → List (List ℕ × List Docs)
sealed_all doc lent = map (λ e. (e.0.now, packed (postings_until doc e.1))) lent

-- what is given is a word with a number, with the nodes of its documents up to an id
pub record IsSealed (slots : Slots) (doc : ℕ) (word : List ℕ) (nodes : List Docs) : Type 0 where
  pub number : ℕ
  pub slot : CachedWord
  pub at : slot_in slots number ≡ Some slot
  pub same : (word, nodes) ≡ sealed_word doc slot
