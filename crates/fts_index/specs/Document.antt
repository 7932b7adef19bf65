use Rattle.std.specs.Prelude.{◌≡◌, ℕ, List, [], ◌∷◌}
use Rattle.fts_words.specs.Indexed.{Rules}
use Rattle.fts_cache.specs.Document.{Document, document_postings, document_size}
use Rattle.fts_types.specs.Row.{Row}
use Rattle.fts_entries.specs.Words.{row_postings, row_size}

-- the document has exactly the row's indexed words, each with its positions, and counts what the row does
pub record HasWordsOf (rules : Rules) (row : Row) (document : Document) : Type 0 where
  pub id : document.id ≡ row.doc
  pub postings : (word : List ℕ) → document_postings word document ≡ row_postings rules word row
  pub size : document_size document ≡ row_size rules row

-- each document has the words of its row
abbrev pub HaveWordsOf : Rules → List Row → List Document → Type 0
HaveWordsOf rules [] [] = Unit {0}
HaveWordsOf rules (row ∷ rows) (document ∷ documents) = HasWordsOf rules row document × HaveWordsOf rules rows documents
HaveWordsOf rules [] (document ∷ documents) = ⊥
HaveWordsOf rules (row ∷ rows) [] = ⊥
