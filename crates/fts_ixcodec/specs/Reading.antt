-- Reading an entry from left to right: a value and the bytes behind it, or where the first field that can't stand there
-- begins, told by how many bytes there are from it on.
use Rattle.std.specs.Prelude.{ℕ, zero, suc, ◌+◌, ◌^◌, Bool, true, false, not, ◌&&◌, ◌==◌, nat_lt, nat_le, if◌then◌else◌}
use Rattle.std.specs.Prelude.{List, [], ◌∷◌, length, Option, Some, None, Result, Ok, Err}
use Rattle.std.specs.Int.{w32, w64, is_in_range}
use Rattle.std.specs.Str.{bytes_eq}
use Rattle.std.specs.Ordering.{is_lt}
use Rattle.fts_codec.specs.Reading.{number_at, piece_at}
use Rattle.fts_codec.specs.Fields.{◌>>=◌, or_left, field}
use Rattle.fts_words.specs.Indexed.{Rules}
use Rattle.fts_words.specs.Order.{byte_order}
use Rattle.fts_ilist.specs.Spelling.{Posting, list_bytes}
use Rattle.fts_ilist.specs.Reading.{postings_in}
use Rattle.fts_ilist.specs.Node.{Docs}
use Rattle.fts_ilist.specs.Packing.{is_sound}
use Rattle.fts_entries.specs.Entry.{Batch, IndexEntry}
use Rattle.fts_entries.specs.Entry.IndexEntry.{sealed, begun, worked, finished}
use Rattle.fts_ixcodec.specs.Payload.{is_form}
use Rattle.fts_ixcodec.specs.Building.{Building, nothing, batch_of, turned_to, with_node}

-- ---- words

-- the length of a word that these rules may index
abbrev pub size_at : Rules → List ℕ → Option (ℕ × List ℕ)
size_at rules [] = None
size_at rules (size ∷ rest) = if is_in_range rules.min rules.max size then Some (size, rest) else None

-- the bytes of a word that may follow another: they have the form of one, and don't stand before it
abbrev pub may_follow : List ℕ → List ℕ → Bool
may_follow before word = is_form word && not (is_lt (byte_order word before))

-- a word that may follow another
unfoldable pub word_at : Rules → List ℕ → List ℕ → Result (List ℕ × List ℕ) ℕ
word_at rules before bytes = do
  size ← field (size_at rules) bytes
  word ← field (piece_at size.0) size.1
  if may_follow before word.0 then Ok word else Err (length size.1)

-- ---- lists

-- positions from next on that ascend, up to 131071
unfoldable pub are_from : ℕ → List ℕ → Bool
are_from next [] = true
are_from next (p ∷ ps) = (nat_le next p && nat_le p 131071) && are_from (p + 1) ps

-- documents whose ids ascend from above last to 2^63 - 1, each with positions
unfoldable pub are_after : ℕ → List Posting → Bool
are_after last [] = true
are_after last (p ∷ ps) =
    ((nat_lt last p.id && nat_lt p.id (2 ^ 63)) && (nat_lt 0 (length p.positions) && are_from 0 p.positions))
    && are_after p.id ps

-- the bytes are the list of the documents that they stand for
abbrev pub is_list : List ℕ → Bool
is_list bytes = are_after 0 (postings_in 0 bytes) && bytes_eq bytes (list_bytes (postings_in 0 bytes))

-- the documents begin with an id above last
abbrev pub begin_after : ℕ → Docs → Bool
begin_after last [] = false
begin_after last (p ∷ ps) = nat_lt last p.id

-- the node of documents: they begin with an id above last, and are as packing makes nodes
abbrev pub node_with : ℕ → Docs → Option Docs
node_with last docs = if begin_after last docs && is_sound docs then Some docs else None

-- the node whose list the bytes are, all of them
abbrev pub node_in : ℕ → List ℕ → Option Docs
node_in last bytes = if is_list bytes then node_with last (postings_in 0 bytes) else None

-- a node whose ids are above last, behind the length of its list
unfoldable pub list_at : ℕ → List ℕ → Result (Docs × List ℕ) ℕ
list_at last bytes = do
  size ← field (number_at w32) bytes
  list ← field (piece_at size.0) size.1
  docs ← or_left (length size.1) (node_in last list.0)
  Ok (docs, list.1)

-- ---- nodes, one behind another

-- the list of one node more of the last word
unfoldable pub more_at : Building → List ℕ → Result (Building × List ℕ) ℕ
more_at b bytes = do
  list ← list_at b.last bytes
  Ok (with_node b list.0, list.1)

-- one node more of a batch: its word and its list
unfoldable pub node_at : Rules → Building → List ℕ → Result (Building × List ℕ) ℕ
node_at rules b bytes = do
  word ← word_at rules b.word bytes
  more_at (turned_to b word.0) word.1

-- one node more, behind its word or, of the last word, without it
abbrev pub one_at : Rules → Bool → Building → List ℕ → Result (Building × List ℕ) ℕ
one_at rules true = node_at rules
one_at rules false = more_at

-- so many nodes more
unfoldable pub many_at : (Building → List ℕ → Result (Building × List ℕ) ℕ) → ℕ → Building → List ℕ
    → Result (Building × List ℕ) ℕ
many_at one zero b bytes = Ok (b, bytes)
many_at one (suc count) b bytes = do
  next ← one b bytes
  many_at one count next.0 next.1

-- so many nodes, each behind its word, as a batch
unfoldable pub batch_at : Rules → ℕ → List ℕ → Result (Batch × List ℕ) ℕ
batch_at rules count bytes = do
  nodes ← many_at (node_at rules) count nothing bytes
  Ok (batch_of nodes.0, nodes.1)

-- so many nodes of one word
unfoldable pub lists_at : ℕ → List ℕ → Result (List Docs × List ℕ) ℕ
lists_at count bytes = do
  nodes ← many_at more_at count nothing bytes
  Ok (nodes.0.nodes, nodes.1)

-- ---- entries

-- a batch, behind its kind
unfoldable pub sealed_at : Rules → List ℕ → Result (IndexEntry × List ℕ) ℕ
sealed_at rules bytes = do
  through ← field (number_at w64) bytes
  synced ← field (number_at w64) through.1
  count ← field (number_at w32) synced.1
  batch ← batch_at rules count.0 count.1
  Ok (sealed through.0 synced.0 batch.0, batch.1)

-- a word of a pass, behind its kind
unfoldable pub worked_at : Rules → List ℕ → Result (IndexEntry × List ℕ) ℕ
worked_at rules bytes = do
  word ← word_at rules [] bytes
  count ← field (number_at w32) word.1
  nodes ← lists_at count.0 count.1
  Ok (worked word.0 nodes.0, nodes.1)

-- an entry
unfoldable pub entry_at : Rules → List ℕ → Result (IndexEntry × List ℕ) ℕ
entry_at rules [] = Err 0
entry_at rules (kind ∷ rest) =
    if kind == 1 then sealed_at rules rest
    else (if kind == 2 then Ok (begun, rest)
    else (if kind == 3 then worked_at rules rest
    else (if kind == 4 then Ok (finished, rest)
    else Err (suc (length rest)))))

-- the entry whose payload the bytes are, all of them
unfoldable pub entry_of : Rules → List ℕ → Result IndexEntry ℕ
entry_of rules bytes = do
  entry ← entry_at rules bytes
  if length entry.1 == 0 then Ok entry.0 else Err (length entry.1)
