-- The words of a document as it keeps them: all bytes, all positions, and where each word's end.
use Rattle.std.specs.Prelude.{◌≡◌, ℕ, ◌≤◌, zero, suc, List, [], ◌∷◌, length, get_or, slice_range}
use Rattle.fts_cache.specs.declared.document.WordEnd.{WordEnd}
use Rattle.fts_cache.specs.Document.{WordPositions, Document, IsDocument, document_size}

-- where the first word begins
abbrev pub no_end : WordEnd
no_end = record { word = 0; positions = 0 }

-- where the words before a place end, the first of which begins behind `before`
abbrev pub end_before : WordEnd → List WordEnd → ℕ → WordEnd
end_before before ends zero = before
end_before before ends (suc i) = get_or ends i no_end

-- the words that end at these places, the first of them behind `before`
abbrev pub words_in : WordEnd → List WordEnd → List ℕ → List ℕ → List WordPositions
words_in before [] bytes positions = []
words_in before (end ∷ ends) bytes positions = record {
  word = slice_range bytes before.word end.word;
  positions = slice_range positions before.positions end.positions;
} ∷ words_in end ends bytes positions

-- the ends ascend, and the last is the end of all
abbrev pub AreEnds : WordEnd → List WordEnd → List ℕ → List ℕ → Type 0
AreEnds before [] bytes positions = (before.word ≡ length bytes) × (before.positions ≡ length positions)
AreEnds before (end ∷ ends) bytes positions =
    (before.word ≤ end.word) × (before.positions ≤ end.positions) × AreEnds end ends bytes positions

-- the document that it keeps
abbrev pub document_in : ℕ → List WordEnd → List ℕ → List ℕ → Document
document_in id ends bytes positions = record { id = id; words = words_in no_end ends bytes positions }

-- the fields of a document
pub record IsArena (id size : ℕ) (ends : List WordEnd) (bytes positions : List ℕ) : Type 0 where
  pub is_document : IsDocument (document_in id ends bytes positions)
  pub size_is : size ≡ document_size (document_in id ends bytes positions)
  pub are_ends : AreEnds no_end ends bytes positions
