-- What is left of a list without some documents, and two lists as one.
use Rattle.std.specs.Prelude.{◌≡◌, ℕ, Bool, List, [], ◌∷◌, not, ◌==◌, Contains, Option, Some, None, ◌⊎◌, ◌≤◌}
use Rattle.std.specs.List.{filter, list_any}
use Rattle.fts_ilist.specs.Spelling.{Posting}

-- whether an id is among these
abbrev pub is_among : List ℕ → ℕ → Bool
is_among ids id = list_any (λ other. other == id) ids

-- the documents whose ids are not among these
abbrev pub postings_without : List ℕ → List Posting → List Posting
postings_without ids ps = filter (λ p. not (is_among ids p.id)) ps

-- no document of one has the id of a document of the other
abbrev pub AreDisjoint : List Posting → List Posting → Type 0
AreDisjoint ps qs = (p q : Posting) → Contains ps p → Contains qs q → p.id ≡ q.id → ⊥

-- the first document of a list, where it is left of the other's first, or the other list is at its end
pub record TakesFirst (from other rest : List Posting) (first : Posting) : Type 0 where
  pub parts : from ≡ first ∷ rest
  pub below : (q : Posting) (others : List Posting) → other ≡ q ∷ others → first.id ≤ q.id

-- a step of a merge: the document with the smaller id is taken from its list
abbrev pub MergesNext : List Posting → List Posting → List Posting → List Posting → Option Posting → Type 0
MergesNext a b a' b' None = (a ≡ []) × (b ≡ [])
MergesNext a b a' b' (Some p) = (TakesFirst a b a' p × (b' ≡ b)) ⊎ (TakesFirst b a b' p × (a' ≡ a))
