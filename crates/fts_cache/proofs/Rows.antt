-- A worked document: apple at 4 and 20, pear at 0.
use Rattle.std.proofs.Common.{◌≡◌, codes, [], ◌∷◌, refl}
use Rattle.fts_cache.specs.Document.{Document, document_size, document_postings, bytes_in, IsBefore}

abbrev row : Document
row = record {
  id = 3;
  words = record { word = codes "apple"; positions = 4 ∷ 20 ∷ [] } ∷ record { word = codes "pear"; positions = 0 ∷ [] } ∷ [];
}

-- 16, and 13 for each apple, and 12 for the pear
row_size : document_size row ≡ 54
row_size = refl

apple_postings : document_postings (codes "apple") row ≡ record { id = 3; positions = 4 ∷ 20 ∷ [] } ∷ []
apple_postings = refl

plum_postings : document_postings (codes "plum") row ≡ []
plum_postings = refl

-- ten, and three for each position
apple_bytes : bytes_in (codes "apple") row.words ≡ 16
apple_bytes = refl

apple_first : IsBefore (codes "apple") (codes "pear")
apple_first = refl

longer_later : IsBefore (codes "apple") (codes "apples")
longer_later = refl
