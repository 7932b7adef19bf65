-- The definitions at a few values, computed.
use Rattle.std.proofs.Common.{◌≡◌, List, [], ◌∷◌, true, false, refl}
use Rattle.fts_ilist.specs.Number.{groups, number_bytes}
use Rattle.fts_ilist.specs.Spelling.{Posting, list_bytes}
use Rattle.fts_ilist.specs.Packing.{node_size, packed_within, packed, are_loose}
use Rattle.fts_ilist.specs.Reading.{items_after, postings_of, postings_in}

zero_is : number_bytes 0 ≡ 0x80 ∷ []
unfolding number_bytes groups
zero_is = refl

one_is : number_bytes 1 ≡ 0x81 ∷ []
unfolding number_bytes groups
one_is = refl

largest_of_one_byte : number_bytes 127 ≡ 0xff ∷ []
unfolding number_bytes groups
largest_of_one_byte = refl

smallest_of_two_bytes : number_bytes 128 ≡ 0x01 ∷ 0x80 ∷ []
unfolding number_bytes groups
smallest_of_two_bytes = refl

three_hundred_is : number_bytes 300 ≡ 0x02 ∷ 0xac ∷ []
unfolding number_bytes groups
three_hundred_is = refl

abbrev example : List Posting
example = record { id = 1; positions = 4 ∷ [] } ∷ record { id = 300; positions = 0 ∷ 127 ∷ 200 ∷ [] } ∷ []

example_is : list_bytes example ≡ 0x81 ∷ 0x85 ∷ 0x00 ∷ 0x02 ∷ 0xab ∷ 0x81 ∷ 0xff ∷ 0xc9 ∷ 0x00 ∷ []
unfolding number_bytes groups
example_is = refl

example_read : postings_in 0 (0x81 ∷ 0x85 ∷ 0x00 ∷ 0x02 ∷ 0xab ∷ 0x81 ∷ 0xff ∷ 0xc9 ∷ 0x00 ∷ []) ≡ example
unfolding items_after postings_of
example_read = refl

no_documents : list_bytes [] ≡ []
no_documents = refl

-- ---- packing: documents of three bytes each, the first increase of a node over 0

abbrev one : Posting
one = record { id = 1; positions = 4 ∷ [] }

abbrev two : Posting
two = record { id = 2; positions = 0 ∷ [] }

abbrev far : Posting
far = record { id = 129; positions = 0 ∷ [] }

-- nodes of six bytes take two documents of three, and the next begins one
exactly_full : packed_within 6 (one ∷ two ∷ record { id = 3; positions = 7 ∷ [] } ∷ []) ≡ (one ∷ two ∷ []) ∷ (record { id = 3; positions = 7 ∷ [] } ∷ []) ∷ []
unfolding number_bytes groups
exactly_full = refl

-- one byte less closes each behind its first
one_byte_less : packed_within 5 (one ∷ two ∷ []) ≡ (one ∷ []) ∷ (two ∷ []) ∷ []
unfolding number_bytes groups
one_byte_less = refl

-- behind 2 the increase of 129 is of one byte, and over 0 it is of two: it has a place in the node of 2, and not in one of its own size
counted_over_the_last : packed_within 6 (two ∷ far ∷ []) ≡ (two ∷ far ∷ []) ∷ []
unfolding number_bytes groups
counted_over_the_last = refl

first_over_zero : node_size (far ∷ []) ≡ 4
unfolding number_bytes groups
first_over_zero = refl

-- a document larger than a node is a node alone
larger_alone : packed_within 3 (one ∷ two ∷ far ∷ []) ≡ (one ∷ []) ∷ (two ∷ []) ∷ (far ∷ []) ∷ []
unfolding number_bytes groups
larger_alone = refl

nothing_packed : packed [] ≡ []
nothing_packed = refl

-- ---- nodes that packing would change

-- the second node's document has a place in the first
two_for_one : are_loose ((one ∷ []) ∷ (two ∷ []) ∷ []) ≡ true
unfolding number_bytes groups
two_for_one = refl

as_packed : are_loose ((one ∷ two ∷ far ∷ []) ∷ []) ≡ false
unfolding number_bytes groups
as_packed = refl

-- a node without documents is none that packing makes
without_documents : are_loose ([] ∷ []) ≡ true
without_documents = refl
