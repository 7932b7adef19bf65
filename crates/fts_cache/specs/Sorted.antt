-- Lists of words that a call lends.
use Rattle.std.specs.Prelude.{ℕ, List, map, IsTrue}
use Rattle.std.specs.Borrow.{Bor}
use Rattle.std.specs.List.{list_any}
use Rattle.std.specs.List.Sorted.{IsStrictlySortedBy}
use Rattle.std.specs.Str.{bytes_eq}
use Rattle.fts_words.specs.Order.{byte_order}

-- the word is among these
abbrev pub IsAmong : List ℕ → List (Bor (List ℕ)) → Type 0
IsAmong word words = IsTrue (list_any (bytes_eq word) (map (λ w. w.now) words))

-- the words ascend in the order of their bytes, and no two are the same
abbrev pub AscendByBytes : List (Bor (List ℕ)) → Type 0
AscendByBytes words = IsStrictlySortedBy byte_order (map (λ w. w.now) words)
