-- Bytes that are no payload of the index log are at fault at one place.
use Rattle.std.proofs.Common.{◌≡◌, ℕ, zero, suc, ◌<◌, ◌^◌, cond, eqb, List, [], ◌∷◌, ◌++◌, Option, Some, None, refl}
use Rattle.std.specs.Int.{w32, w64, to_be_bytes}
use Rattle.fts_codec.specs.Reading.{number_at, piece_at}
use Rattle.fts_codec.specs.Fields.{tested}
use Rattle.fts_codec.specs.Grammar.{Faults, InField, AtEnd, IsFrom, one_byte}
use Rattle.fts_codec.proofs.Spelled.{number32, number64}
use Rattle.fts_codec.proofs.One.{IsOne, end_one, read_one, field_one}
use Rattle.fts_words.specs.Indexed.{Rules}
use Rattle.fts_ilist.specs.Spelling.{list_bytes, last_id}
use Rattle.fts_ilist.specs.Node.{Docs}
use Rattle.fts_ixcodec.specs.Grammar.{MayFollow, InWord, InList, InLists, last_of, InNodes, Kind, kind_payload, InKind, IsEntryFault}
use Rattle.fts_ixcodec.specs.Grammar.Kind.{batch, begin, word, finish}
use Rattle.fts_ixcodec.specs.Reading.{size_at, may_follow}
use Rattle.fts_ixcodec.proofs.Places.{size_spells, words_spell, docs_at, IsListOf, docs_spell}

word_one : (rules : Rules) (before : List ℕ) (Behind : List ℕ → Faults) → ((text : List ℕ) → IsOne (Behind text)) → IsOne (InWord rules before Behind)
word_one rules before Behind each =
    field_one one_byte (IsFrom rules.min rules.max) (size_at rules) (size_spells rules) (λ size. InField (λ text. text) (MayFollow before size) Behind)
    (λ size. field_one (λ text. text) (MayFollow before size) (tested (may_follow before) (piece_at size)) (words_spell before size) Behind each)

list_one : (last : ℕ) (Behind : Docs → Faults) → ((docs : Docs) → IsOne (Behind docs)) → IsOne (InList last Behind)
list_one last Behind each =
    field_one (to_be_bytes w32) (λ size. size < 2 ^ 32) (number_at w32) number32 (λ size. InField list_bytes (IsListOf last size) Behind)
    (λ size. field_one list_bytes (IsListOf last size) (docs_at last size) (docs_spell last size) Behind each)

lists_one : (count last : ℕ) (Behind : Faults) → IsOne Behind → IsOne (InLists count last Behind)
lists_one zero last Behind behind = behind
lists_one (suc count) last Behind behind = list_one last (λ docs. InLists count (last_id docs) Behind) (λ docs. lists_one count (last_id docs) Behind behind)

nodes_one : (rules : Rules) (count : ℕ) (before : List ℕ) (last : ℕ) (Behind : Faults) → IsOne Behind → IsOne (InNodes rules count before last Behind)
nodes_one rules zero before last Behind behind = behind
nodes_one rules (suc count) before last Behind behind =
    word_one rules before (λ text. InList (last_of before last text) (λ docs. InNodes rules count text (last_id docs) Behind))
    (λ text. list_one (last_of before last text) (λ docs. InNodes rules count text (last_id docs) Behind) (λ docs. nodes_one rules count text (last_id docs) Behind behind))

-- a reader of kinds
abbrev kind_at : List ℕ → Option (Kind × List ℕ)
kind_at [] = None
kind_at (kind ∷ rest) =
    cond (eqb kind 1) (Some (batch, rest)) (cond (eqb kind 2) (Some (begin, rest)) (cond (eqb kind 3) (Some (word, rest)) (Some (finish, rest))))

kind_again : (kind : Kind) (rest : List ℕ) → Unit {0} → kind_at (kind_payload kind ++ rest) ≡ Some (kind, rest)
kind_again batch rest may = refl
kind_again begin rest may = refl
kind_again word rest may = refl
kind_again finish rest may = refl

kind_one : (rules : Rules) (kind : Kind) → IsOne (InKind rules kind)
kind_one rules batch =
    let Count : Faults = InField (to_be_bytes w32) (λ count. count < 2 ^ 32) (λ count. InNodes rules count [] 0 AtEnd) in
    let Synced : Faults = InField (to_be_bytes w64) (λ synced. synced < 2 ^ 64) (λ synced. Count) in
    field_one (to_be_bytes w64) (λ through. through < 2 ^ 64) (number_at w64) number64 (λ through. Synced)
    (λ through. field_one (to_be_bytes w64) (λ synced. synced < 2 ^ 64) (number_at w64) number64 (λ synced. Count)
    (λ synced. field_one (to_be_bytes w32) (λ count. count < 2 ^ 32) (number_at w32) number32 (λ count. InNodes rules count [] 0 AtEnd) (λ count. nodes_one rules count [] 0 AtEnd end_one)))
kind_one rules begin = end_one
kind_one rules word =
    word_one rules [] (λ text. InField (to_be_bytes w32) (λ count. count < 2 ^ 32) (λ count. InLists count 0 AtEnd))
    (λ text. field_one (to_be_bytes w32) (λ count. count < 2 ^ 32) (number_at w32) number32 (λ count. InLists count 0 AtEnd) (λ count. lists_one count 0 AtEnd end_one))
kind_one rules finish = end_one

pub one_entry_fault : (rules : Rules) → IsOne (IsEntryFault rules)
one_entry_fault rules = read_one kind_payload (λ kind. Unit {0}) kind_at kind_again (InKind rules) (kind_one rules)
