-- The text of what a view lists: a line of its columns' names, a line for each row, and how many rows there are.
use Rattle.std.specs.Prelude.{Bool, true, false, ℕ, List, [], ◌∷◌, ◌++◌, length, map, codes, decimal}
use Rattle.std.specs.Prelude.{Option, Some, None}
use Rattle.std.specs.List.{flat_map}
use Rattle.fts_words.specs.Stopwords.{default_stopwords}
use Rattle.fts_ilist.specs.Spelling.{Posting, first_id, last_id}
use Rattle.fts_ilist.specs.Node.{Docs}
use Rattle.fts_listing.specs.declared.listing.Config.{Config}
use Rattle.fts_listing.specs.declared.listing.Listing.{Listing}
use Rattle.fts_listing.specs.declared.listing.Listing.TheVariants as listing

-- fields of a row are parted by a bar
abbrev pub bar : ℕ
bar = 124

-- what the rows of a group of documents begin with: the word, the first and the last id, and their number
abbrev pub group_front : List ℕ → Docs → List ℕ
group_front word group = word ++ bar ∷ (decimal (first_id group) ++ bar ∷ (decimal (last_id group) ++ bar
    ∷ (decimal (length group) ++ bar ∷ [])))

-- a row: behind that front a document's id and a position at which the document has the word
abbrev pub position_row : List ℕ → ℕ → ℕ → List ℕ
position_row front id position = front ++ (decimal id ++ bar ∷ decimal position)

-- the rows of a document, of a group, of a word, of many words
abbrev pub document_rows : List ℕ → Posting → List (List ℕ)
document_rows front document = map (position_row front document.id) document.positions

abbrev pub group_rows : List ℕ → Docs → List (List ℕ)
group_rows word group = flat_map (document_rows (group_front word group)) group

abbrev pub word_rows : List ℕ × List Docs → List (List ℕ)
word_rows entry = flat_map (group_rows entry.0) entry.1

abbrev pub words_rows : List (List ℕ × List Docs) → List (List ℕ)
words_rows words = flat_map word_rows words

-- the row of a key with its value
abbrev pub key_row : List ℕ → List ℕ → List ℕ
key_row key value = key ++ bar ∷ value

-- a setting that is on or off
abbrev pub switch_text : Bool → List ℕ
switch_text true = codes "1"
switch_text false = codes "0"

-- the word that a pass worked on last, if there is one
abbrev pub checkpoint_text : Option (List ℕ) → List ℕ
checkpoint_text None = []
checkpoint_text (Some word) = word

abbrev pub config_rows : Config → List (List ℕ)
config_rows config =
    key_row (codes "max_token_size") (decimal config.max)
    ∷ key_row (codes "min_token_size") (decimal config.min)
    ∷ key_row (codes "optimize_word") (checkpoint_text config.checkpoint)
    ∷ key_row (codes "synced_commit") (decimal config.flushed)
    ∷ key_row (codes "synced_doc_id") (decimal config.synced)
    ∷ key_row (codes "use_stopword") (switch_text config.stopword)
    ∷ []

-- the names of a listing's columns
abbrev pub header_of : Listing → List ℕ
header_of (listing.Words words) = codes "WORD|FIRST_DOC_ID|LAST_DOC_ID|DOC_COUNT|DOC_ID|POSITION"
header_of (listing.Ids ids) = codes "DOC_ID"
header_of (listing.Config config) = codes "KEY|VALUE"
header_of listing.Stopwords = codes "value"

-- its rows, each without a line's end
abbrev pub rows_of : Listing → List (List ℕ)
rows_of (listing.Words words) = words_rows words
rows_of (listing.Ids ids) = map decimal ids
rows_of (listing.Config config) = config_rows config
rows_of listing.Stopwords = default_stopwords

-- lines, each with its LF
abbrev pub lines : List (List ℕ) → List ℕ
lines rows = flat_map (λ row. row ++ 10 ∷ []) rows

-- the last line: how many rows there are, and as of which commit
abbrev pub closing : ℕ → ℕ → List ℕ
closing count number = codes "OK " ++ (decimal count ++ (codes " rows as of " ++ (decimal number ++ 10 ∷ [])))

-- the text of a listing, as of so many commits
abbrev pub listing_text : ℕ → Listing → List ℕ
listing_text number listing = lines (header_of listing ∷ rows_of listing) ++ closing (length (rows_of listing)) number
