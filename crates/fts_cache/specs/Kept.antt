-- The documents of a cache as it keeps them, each with the numbers of its words.
use Rattle.std.specs.Prelude.{◌≡◌, ℕ, ◌≤◌, List, [], ◌∷◌, map, sum_by, nat_eq, ◌&&◌, Bool, IsTrue, Some}
use Rattle.std.specs.List.{list_any}
use Rattle.fts_ilist.specs.Spelling.{Posting}
use Rattle.fts_cache.specs.declared.cache.Cached.{Cached}
use Rattle.fts_cache.specs.Cache.{CachedDocument, Ids}
use Rattle.fts_cache.specs.Words.{Entries, number_in, queue_in, has_number, EndBy}

abbrev pub kept : List Cached → List CachedDocument
kept ds = map (λ d. record { id = d.id; size = d.size }) ds

-- whether one of the documents has this id, and notes this number
abbrev pub notes : ℕ → ℕ → List Cached → Bool
notes number id ds = list_any (λ d. nat_eq id d.id && has_number number d.numbers.items) ds

-- each posting's document is one of these, and notes this number
abbrev pub AreNoted : ℕ → List Posting → List Cached → Type 0
AreNoted number [] ds = Unit {0}
AreNoted number (p ∷ ps) ds = IsTrue (notes number p.id ds) × AreNoted number ps ds

-- these are the numbers that the documents up to doc note, and perhaps more
abbrev pub NotesUntil : ℕ → List Cached → List ℕ → Type 0
NotesUntil doc ds numbers =
    (n id : ℕ) → id ≤ doc → IsTrue (notes n id ds) → IsTrue (has_number n numbers)

-- each document notes the numbers of its words
abbrev pub NoteWords : Entries → List Cached → Type 0
NoteWords words ds = (w : List ℕ) (n : ℕ) → number_in words w ≡ Some n → AreNoted n (queue_in words w).postings ds

-- the fields of a cache
pub record IsCache (words : Entries) (ds : List Cached) (last size : ℕ) : Type 0 where
  pub ends : EndBy last words
  pub ids : Ids 0 last (kept ds)
  pub noted : NoteWords words ds
  pub size_is : size ≡ sum_by (λ d. d.size) (kept ds)
