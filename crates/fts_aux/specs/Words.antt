-- Words with nodes, whoever keeps them.
use Rattle.std.specs.Prelude.{◌≡◌, ◌≢◌, ℕ, false, cond, List, [], ◌∷◌, ◌++◌, Option, Some, None}
use Rattle.std.specs.List.{All, AllByRecursion}
use Rattle.std.specs.List.Sorted.{IsStrictlySortedBy}
use Rattle.std.specs.Option.{unwrap_or}
use Rattle.std.specs.Ordering.{is_gt}
use Rattle.std.specs.Map.{keys_of, lookup}
use Rattle.std.specs.BTreeMap.{is_at}
use Rattle.std.specs.declared.cmp.Ordering.TheVariants.{Less}
use Rattle.fts_words.specs.Order.{byte_order, begins_with}
use Rattle.fts_ilist.specs.Node.{Docs}
use Rattle.fts_ilist.specs.Packing.{AreLoose}

-- the words with nodes among some words, with their nodes
abbrev pub filled_as : List ℕ → List Docs → List (List ℕ × List Docs) → List (List ℕ × List Docs)
filled_as word [] rest = rest
filled_as word (n ∷ ns) rest = (word, n ∷ ns) ∷ rest

abbrev pub filled : List (List ℕ × List Docs) → List (List ℕ × List Docs)
filled [] = []
filled (e ∷ es) = filled_as e.0 e.1 (filled es)

-- the nodes that a list of words with nodes has for a word
abbrev pub nodes_at : List ℕ → List (List ℕ × List Docs) → List Docs
nodes_at word es = unwrap_or (lookup (is_at (byte_order word)) es) []

-- words with their nodes: those that begin with the prefix, all of them, in byte order, and none without nodes
pub record IsListing (nodes : List ℕ → List Docs) (prefix : List ℕ) (listing : List (List ℕ × List Docs)) : Type 0 where
  pub ascending : IsStrictlySortedBy byte_order (keys_of listing)
  pub filled : All (λ e. e.1 ≢ []) listing
  pub exact : (word : List ℕ) → nodes_at word listing ≡ cond (begins_with prefix word) (nodes word) []

-- the least word with nodes that stands behind another
pub record IsNext (nodes : List ℕ → List Docs) (word next : List ℕ) : Type 0 where
  pub inside : nodes next ≢ []
  pub after : byte_order word next ≡ Less
  pub least : (other : List ℕ) → byte_order word other ≡ Less → nodes other ≢ [] → is_gt (byte_order next other) ≡ false

-- no word behind this one has nodes
abbrev pub IsLast : (List ℕ → List Docs) → List ℕ → Type 0
IsLast nodes word = (other : List ℕ) → byte_order word other ≡ Less → nodes other ≡ []

-- packing would change the nodes of some word
abbrev pub HasLoose : (List ℕ → List Docs) → Type 0
HasLoose nodes = (word : List ℕ) × AreLoose (nodes word)

-- ---- a walk over words

-- the words up to one, in byte order, with their nodes: those that have some
pub record IsWalked (nodes : List ℕ → List Docs) (at : List ℕ) (done : List (List ℕ × List Docs)) : Type 0 where
  pub ascending : IsStrictlySortedBy byte_order (keys_of done)
  pub filled : AllByRecursion (λ e. e.1 ≢ []) done
  pub within : AllByRecursion (λ e. is_gt (byte_order e.0 at) ≡ false) done
  pub exact : (word : List ℕ) → is_gt (byte_order word at) ≡ false → nodes_at word done ≡ nodes word

-- a step of a walk: one more word was walked, or there is none and these are all words
abbrev pub IsStep : (List ℕ → List Docs) → List (List ℕ × List Docs) → Option (List ℕ × List Docs) → Type 0
IsStep nodes done None = IsListing nodes [] done
IsStep nodes done (Some e) = IsWalked nodes e.0 (done ++ e ∷ [])
