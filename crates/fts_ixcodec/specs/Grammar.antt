-- What may stand in the payloads of the index log, field by field, and so where bytes stop being one.
use Rattle.std.specs.Prelude.{◌≡◌, ℕ, zero, suc, ◌<◌, ◌^◌, true, false, if◌then◌else◌, List, [], ◌∷◌, length}
use Rattle.std.specs.Int.{w32, w64, to_be_bytes}
use Rattle.std.specs.Str.{bytes_eq}
use Rattle.std.specs.Ordering.{is_lt}
use Rattle.fts_codec.specs.Grammar.{Faults, InField, AtEnd, IsFrom, one_byte}
use Rattle.fts_words.specs.Indexed.{Rules}
use Rattle.fts_words.specs.Order.{byte_order}
use Rattle.fts_ilist.specs.Spelling.{ArePostings, list_bytes, last_id}
use Rattle.fts_ilist.specs.Node.{Docs, BeginsAfter}
use Rattle.fts_ilist.specs.Packing.{is_sound}
use Rattle.fts_ixcodec.specs.Payload.{is_form}

-- a word of so many bytes that may follow another: it has a word's form, and does not stand before it
pub record MayFollow (before : List ℕ) (size : ℕ) (word : List ℕ) : Type 0 where
  pub long : length word ≡ size
  pub form : is_form word ≡ true
  pub follows : is_lt (byte_order word before) ≡ false

-- documents that have a list, and make a node behind an id: as packing makes nodes
pub record IsNext (last : ℕ) (docs : Docs) : Type 0 where
  pub are : ArePostings docs
  pub after : BeginsAfter last docs
  pub sound : is_sound docs ≡ true

-- the length of a word that these rules may index, and the word
abbrev pub InWord : Rules → List ℕ → (List ℕ → Faults) → Faults
InWord rules before Behind =
    InField one_byte (IsFrom rules.min rules.max) (λ size. InField (λ word. word) (MayFollow before size) Behind)

-- the length of a list, and the list of documents behind an id
abbrev pub InList : ℕ → (Docs → Faults) → Faults
InList last Behind =
    InField (to_be_bytes w32) (λ size. size < 2 ^ 32)
    (λ size. InField list_bytes (λ docs. IsNext last docs × (length (list_bytes docs) ≡ size)) Behind)

-- so many lists of one word, by ascending ids
abbrev pub InLists : ℕ → ℕ → Faults → Faults
InLists zero last Behind = Behind
InLists (suc count) last Behind = InList last (λ docs. InLists count (last_id docs) Behind)

-- the last id of a word's nodes, where the word before has come again, and else none
abbrev pub last_of : List ℕ → ℕ → List ℕ → ℕ
last_of before last word = if bytes_eq before word then last else 0

-- so many nodes of a batch, behind a word and the last id of its nodes
abbrev pub InNodes : Rules → ℕ → List ℕ → ℕ → Faults → Faults
InNodes rules zero before last Behind = Behind
InNodes rules (suc count) before last Behind =
    InWord rules before
    (λ word. InList (last_of before last word) (λ docs. InNodes rules count word (last_id docs) Behind))

-- the kinds of entries
pub data Kind : Type 0 where
  batch : Kind
  begin : Kind
  word : Kind
  finish : Kind

abbrev pub kind_payload : Kind → List ℕ
kind_payload batch = 1 ∷ []
kind_payload begin = 2 ∷ []
kind_payload word = 3 ∷ []
kind_payload finish = 4 ∷ []

-- what stands behind the kind, up to the end
abbrev pub InKind : Rules → Kind → Faults
InKind rules batch =
    InField (to_be_bytes w64) (λ through. through < 2 ^ 64)
    (λ through. InField (to_be_bytes w64) (λ synced. synced < 2 ^ 64)
    (λ synced. InField (to_be_bytes w32) (λ count. count < 2 ^ 32) (λ count. InNodes rules count [] 0 AtEnd)))
InKind rules begin = AtEnd
InKind rules word =
    InWord rules [] (λ word. InField (to_be_bytes w32) (λ count. count < 2 ^ 32) (λ count. InLists count 0 AtEnd))
InKind rules finish = AtEnd

-- The first field that can't stand there in an entry begins at this place.
abbrev pub IsEntryFault : Rules → List ℕ → ℕ → Type 0
IsEntryFault rules = InField kind_payload (λ kind. Unit {0}) (InKind rules)
