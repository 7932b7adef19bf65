-- Small payloads worked out by hand: what the definitions compute.
use Rattle.std.proofs.Common.{◌≡◌, ℕ, true, false, [], ◌∷◌, Ok, Err, refl}
use Rattle.std.specs.Prelude.{codes}
use Rattle.fts_words.specs.Indexed.{Rules}
use Rattle.fts_ilist.specs.Number.{number_bytes, groups}
use Rattle.fts_ilist.specs.Node.{Docs}
use Rattle.fts_entries.specs.Entry.IndexEntry.{sealed, begun, worked, finished}
use Rattle.fts_ixcodec.specs.Payload.{is_form_from, is_form, entry_payload}
use Rattle.fts_ixcodec.specs.Reading.{entry_at, entry_of, worked_at, word_at, sealed_at}

-- a document at the place 0
abbrev at_0 : ℕ → Docs
at_0 doc = record { id = doc; positions = 0 ∷ [] } ∷ []

batch_bytes : entry_payload (sealed 1 1 ((codes "apple", at_0 1 ∷ []) ∷ []))
    ≡ 1 ∷ 0 ∷ 0 ∷ 0 ∷ 0 ∷ 0 ∷ 0 ∷ 0 ∷ 1 ∷ 0 ∷ 0 ∷ 0 ∷ 0 ∷ 0 ∷ 0 ∷ 0 ∷ 1 ∷ 0 ∷ 0 ∷ 0 ∷ 1 ∷ 5 ∷ 0x61 ∷ 0x70 ∷ 0x70 ∷ 0x6c ∷ 0x65 ∷ 0 ∷ 0 ∷ 0 ∷ 3 ∷ 0x81 ∷ 0x81 ∷ 0 ∷ []
unfolding number_bytes groups
batch_bytes = refl

-- a word with two nodes stands twice
two_nodes : entry_payload (sealed 0 0 ((codes "a", at_0 1 ∷ at_0 2 ∷ []) ∷ []))
    ≡ 1 ∷ 0 ∷ 0 ∷ 0 ∷ 0 ∷ 0 ∷ 0 ∷ 0 ∷ 0 ∷ 0 ∷ 0 ∷ 0 ∷ 0 ∷ 0 ∷ 0 ∷ 0 ∷ 0 ∷ 0 ∷ 0 ∷ 0 ∷ 2 ∷ 1 ∷ 0x61 ∷ 0 ∷ 0 ∷ 0 ∷ 3 ∷ 0x81 ∷ 0x81 ∷ 0 ∷ 1 ∷ 0x61 ∷ 0 ∷ 0 ∷ 0 ∷ 3 ∷ 0x82 ∷ 0x81 ∷ 0 ∷ []
unfolding number_bytes groups
two_nodes = refl

word_bytes : entry_payload (worked (codes "a") (at_0 1 ∷ [])) ≡ 3 ∷ 1 ∷ 0x61 ∷ 0 ∷ 0 ∷ 0 ∷ 1 ∷ 0 ∷ 0 ∷ 0 ∷ 3 ∷ 0x81 ∷ 0x81 ∷ 0 ∷ []
unfolding number_bytes groups
word_bytes = refl

begin_byte : entry_payload begun ≡ 2 ∷ []
begin_byte = refl

finish_byte : entry_payload finished ≡ 4 ∷ []
finish_byte = refl

-- the form of words
apostrophe_within : is_form (codes "it's") ≡ true
unfolding is_form_from
apostrophe_within = refl

apostrophe_twice : is_form (codes "it''s") ≡ false
unfolding is_form_from
apostrophe_twice = refl

apostrophe_at_end : is_form (codes "its'") ≡ false
unfolding is_form_from
apostrophe_at_end = refl

upper_case : is_form (codes "Apple") ≡ false
unfolding is_form_from
upper_case = refl

no_byte : is_form [] ≡ false
unfolding is_form_from
no_byte = refl

-- words of 3 to 10 bytes are indexed
abbrev few : Rules
few = record { min = 3; max = 10; stopwords = [] }

-- where reading stops: with nothing, one byte, or all bytes left
nothing_there : entry_of few [] ≡ Err 0
unfolding entry_of entry_at
nothing_there = refl

unknown_kind : entry_of few (5 ∷ []) ≡ Err 1
unfolding entry_of entry_at
unknown_kind = refl

left_over : entry_of few (2 ∷ 0 ∷ []) ≡ Err 1
unfolding entry_of entry_at
left_over = refl

empty_word : entry_of few (3 ∷ 0 ∷ 0 ∷ 0 ∷ 0 ∷ 0 ∷ []) ≡ Err 5
unfolding entry_of entry_at worked_at word_at
empty_word = refl

-- a word with one byte less than words have, and one with one byte more
short_word : entry_of few (3 ∷ 2 ∷ 0x61 ∷ 0x61 ∷ 0 ∷ 0 ∷ 0 ∷ 0 ∷ []) ≡ Err 7
unfolding entry_of entry_at worked_at word_at
short_word = refl

long_word : entry_of few (3 ∷ 11 ∷ 0x61 ∷ 0x61 ∷ []) ≡ Err 3
unfolding entry_of entry_at worked_at word_at
long_word = refl

least_word : word_at few [] (3 ∷ 0x61 ∷ 0x61 ∷ 0x61 ∷ []) ≡ Ok (0x61 ∷ 0x61 ∷ 0x61 ∷ [], [])
unfolding word_at is_form_from
least_word = refl

cut_number : entry_of few (1 ∷ 0 ∷ 0 ∷ []) ≡ Err 2
unfolding entry_of entry_at sealed_at
cut_number = refl
