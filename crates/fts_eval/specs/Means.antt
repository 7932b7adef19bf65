-- What parts mean, where a view stands for rows.
use Rattle.std.specs.Prelude.{◌≡◌, ℕ, Bool, true, false, not, ◌&&◌, ◌||◌, List, [], ◌∷◌, ◌++◌, map, filter}
use Rattle.std.specs.Prelude.{Option, Some}
use Rattle.std.specs.Prelude.{None}
use Rattle.fts_ids.specs.Ids.{has, AscendFrom}
use Rattle.fts_words.specs.Indexed.{Rules}
use Rattle.fts_types.specs.Row.{Row}
use Rattle.fts_meaning.specs.declared.sign.Sign.{Sign}
use Rattle.fts_meaning.specs.declared.sign.Sign.TheVariants.{Optional, Required, Excluded}
use Rattle.fts_meaning.specs.Tree.{Operand, word, prefix, phrase, distance, Term, Terms, none}
use Rattle.fts_meaning.specs.Holds.{stays, some_stays, term_holds, none_excluded, each_required, has_required}
use Rattle.fts_meaning.specs.Holds.{some_optional, stand_together, lie_near}
use Rattle.fts_meaning.specs.Leaf.{Leaf, no_leaf, of_word, of_prefix, of_words}
use Rattle.fts_meaning.specs.View.{Candidate, Postings, is_looked_into, candidate_of, postings_of, texts_at, columns_at}
use Rattle.fts_eval.specs.declared.part.Part.{Part, Group}
use Rattle.fts_eval.specs.declared.resolve.Parts.{Parts}
use Rattle.fts_eval.specs.Says.{says, each_says, some_says}

-- the postings begin with those of some leaves of a query, whose view has these texts
pub record PostingsBegin (rules : Rules) (rows : List Row) (before leaves after : List Leaf) (texts : List Candidate)
    (postings : List Postings) : Type 0 where
  pub ascend : AscendFrom 0 (map (λ row. row.doc) rows)
  pub texts_are : texts ≡ map candidate_of (filter (is_looked_into rules (before ++ (leaves ++ after))) rows)
  pub postings_are : postings ≡ map (postings_of rules rows) (leaves ++ after)

-- a part asks for the ids of the rows in which a term holds; there is none where the term is dropped
abbrev pub Means : Rules → List Row → List Candidate → Term → Option Part → Type 0
Means rules rows texts term None = stays rules term ≡ false
Means rules rows texts term (Some part) = (stays rules term ≡ true)
    × ((id : ℕ) → says texts id part ≡ term_holds rules (columns_at rows id) term)

-- whether there are parts
abbrev pub are_some : List Part → Bool
are_some [] = false
are_some (part ∷ parts) = true

-- whether there are parts of any sign
abbrev pub has_parts : Parts → Bool
has_parts parts = are_some parts.required.items || (are_some parts.optional.items || are_some parts.excluded.items)

-- what parts say, and then terms, is what all terms say
pub record Continues (rules : Rules) (rows : List Row) (texts : List Candidate) (parts : Parts) (left all : Terms)
    : Type 0 where
  pub stay : (has_parts parts || some_stays rules left) ≡ some_stays rules all
  pub has : (are_some parts.required.items || has_required rules left) ≡ has_required rules all
  pub each : (id : ℕ) → (each_says texts parts.required.items id && each_required rules (columns_at rows id) left)
      ≡ each_required rules (columns_at rows id) all
  pub some : (id : ℕ) → (some_says texts parts.optional.items id || some_optional rules (columns_at rows id) left)
      ≡ some_optional rules (columns_at rows id) all
  pub no_excluded : (id : ℕ)
      → (not (some_says texts parts.excluded.items id) && none_excluded rules (columns_at rows id) left)
      ≡ none_excluded rules (columns_at rows id) all

-- the parts are those of the terms that stay
abbrev pub PartsMean : Rules → List Row → List Candidate → Terms → Parts → Type 0
PartsMean rules rows texts terms parts = Continues rules rows texts parts none terms

-- a part was added to those of its sign, if there is one
abbrev pub Adds : Sign → Option Part → Parts → Parts → Type 0
Adds sign None old new = new ≡ old
Adds Required (Some part) old new = (new.required.items ≡ old.required.items ++ part ∷ [])
    × (new.optional.items ≡ old.optional.items) × (new.excluded.items ≡ old.excluded.items)
Adds Optional (Some part) old new = (new.required.items ≡ old.required.items)
    × (new.optional.items ≡ old.optional.items ++ part ∷ []) × (new.excluded.items ≡ old.excluded.items)
Adds Excluded (Some part) old new = (new.required.items ≡ old.required.items)
    × (new.optional.items ≡ old.optional.items) × (new.excluded.items ≡ old.excluded.items ++ part ∷ [])

-- the group of these parts, none where there is none
abbrev pub IsGroup : Parts → Option Part → Type 0
IsGroup parts None = has_parts parts ≡ false
IsGroup parts (Some part) = (has_parts parts ≡ true) × (part ≡ Group parts.required parts.optional parts.excluded)

-- what the part of a phrase says, and that of a distance, by the leaf of their postings
abbrev pub phrase_says : Leaf → List (List ℕ) → List ℕ → List Candidate → ℕ → Bool
phrase_says no_leaf words ids texts id = has ids id
phrase_says (of_word w) words ids texts id = has ids id && stand_together (texts_at texts id) words
phrase_says (of_prefix w) words ids texts id = has ids id && stand_together (texts_at texts id) words
phrase_says (of_words ws) words ids texts id = has ids id && stand_together (texts_at texts id) words

abbrev pub distance_says : Leaf → ℕ → List ℕ → List Candidate → ℕ → Bool
distance_says no_leaf n ids texts id = has ids id
distance_says (of_word w) n ids texts id = has ids id
distance_says (of_prefix w) n ids texts id = has ids id
distance_says (of_words ws) n ids texts id = has ids id && lie_near (texts_at texts id) ws n

-- what the part of an operand says
abbrev pub operand_says : Operand → Postings → List Candidate → ℕ → Bool
operand_says (word w) p texts id = has p.ids id
operand_says (prefix w) p texts id = has p.ids id
operand_says (phrase words) p texts id = phrase_says p.leaf words p.ids texts id
operand_says (distance words n) p texts id = distance_says p.leaf n p.ids texts id

-- whether a leaf asks for nothing
abbrev pub is_no_leaf : Leaf → Bool
is_no_leaf no_leaf = true
is_no_leaf (of_word w) = false
is_no_leaf (of_prefix w) = false
is_no_leaf (of_words ws) = false

-- whether an operand is dropped
abbrev pub is_dropped : Operand → Leaf → Bool
is_dropped (word w) l = is_no_leaf l
is_dropped (prefix w) l = false
is_dropped (phrase words) l = false
is_dropped (distance words n) l = false

-- the part of an operand, by the postings of its leaf
abbrev pub MeansOperand : Operand → Postings → Option Part → Type 0
MeansOperand operand p None = is_dropped operand p.leaf ≡ true
MeansOperand operand p (Some part) = (is_dropped operand p.leaf ≡ false)
    × ((texts : List Candidate) (id : ℕ) → says texts id part ≡ operand_says operand p texts id)

-- what is said of an id where there is no part is that no term asks for it
abbrev pub part_says : List Candidate → Option Part → ℕ → Bool
part_says texts None id = false
part_says texts (Some part) id = says texts id part
