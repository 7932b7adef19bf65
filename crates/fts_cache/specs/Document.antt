-- The words of a document: where each stands, and what they count.
use Rattle.std.specs.Prelude.{◌≡◌, ℕ, ◌+◌, ◌*◌, ◌^◌, ◌<◌, List, [], ◌∷◌, length, map, filter, sum_by}
use Rattle.fts_words.specs.Order.{byte_order}
use Rattle.std.specs.declared.cmp.Ordering.TheVariants.{Less}
use Rattle.std.specs.Str.{bytes_eq}
use Rattle.fts_ilist.specs.Spelling.{Posting, ArePositions}
use Rattle.fts_ilist.specs.Queue.{bytes_for}

-- a word, and the places at which a document has it
pub record WordPositions : Type 0 where
  pub word : List ℕ
  pub positions : List ℕ

-- a document: its id and its words
pub record Document : Type 0 where
  pub id : ℕ
  pub words : List WordPositions

-- what an occurrence of each word counts, for each of its positions: its length and 8
abbrev pub words_size : List WordPositions → ℕ
words_size words = sum_by (λ w. length w.positions * (length w.word + 8)) words

-- the size of a document in the cache: 16, and what its words count
abbrev pub document_size : Document → ℕ
document_size d = 16 + words_size d.words

-- of these words those that are this one
abbrev pub found_words : List ℕ → List WordPositions → List WordPositions
found_words word words = filter (λ w. bytes_eq word w.word) words

-- what a document puts into the list of a word: its positions there, or nothing
abbrev pub postings_from : ℕ → List ℕ → List WordPositions → List Posting
postings_from id word words = map (λ w. record { id = id; positions = w.positions }) (found_words word words)

abbrev pub document_postings : List ℕ → Document → List Posting
document_postings word d = postings_from d.id word d.words

-- how many bytes these words may take in the list of one of them
abbrev pub bytes_in : List ℕ → List WordPositions → ℕ
bytes_in word words = sum_by (λ w. bytes_for (length w.positions)) (found_words word words)

-- how many bytes documents may take in the list of a word
abbrev pub bytes_of : List ℕ → List Document → ℕ
bytes_of word documents = sum_by (λ d. bytes_in word d.words) documents

-- v comes before w in the order of bytes
abbrev pub IsBefore : List ℕ → List ℕ → Type 0
IsBefore v w = byte_order v w ≡ Less

-- the word comes before each of these
abbrev pub BeginsBefore : List ℕ → List WordPositions → Type 0
BeginsBefore word [] = Unit {0}
BeginsBefore word (w ∷ ws) = IsBefore word w.word × BeginsBefore word ws

-- the last of these, if any, comes before the word
abbrev pub EndsBefore : List WordPositions → List ℕ → Type 0
EndsBefore [] word = Unit {0}
EndsBefore (w ∷ []) word = IsBefore w.word word
EndsBefore (w ∷ (v ∷ vs)) word = EndsBefore (v ∷ vs) word

-- words of one document: they ascend, each with its positions
abbrev pub AreWords : List WordPositions → Type 0
AreWords [] = Unit {0}
AreWords (w ∷ ws) = ArePositions w.positions × BeginsBefore w.word ws × AreWords ws

pub record IsDocument (d : Document) : Type 0 where
  pub positive : 0 < d.id
  pub limit : d.id < 2 ^ 63
  pub words : AreWords d.words
  pub small : document_size d < 2 ^ 32

-- a word with these positions can be added behind the words of a document
pub record CanPush (d : Document) (word positions : List ℕ) : Type 0 where
  pub above : EndsBefore d.words word
  pub are_positions : ArePositions positions
  pub small : document_size d + length positions * (length word + 8) < 2 ^ 32
