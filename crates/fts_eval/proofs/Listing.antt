-- Leaves, operand by operand.
use Rattle.std.proofs.Common.{◌≡◌, ℕ, ◌+◌, ◌<◌, ◌≤◌, List, [], ◌∷◌, ◌++◌, length, map, get_or, drop, refl, sym, ap, ◌∙◌, append_assoc, append-nil}
use Rattle.std.proofs.lemmas.List.{drop_more, drop_all, map-append}
use Rattle.fts_words.specs.Indexed.{Rules}
use Rattle.fts_meaning.specs.Leaf as leaf
use Rattle.fts_meaning.specs.Leaf.{of_words, words_leaf, leaf_of, operands, operands_of}
use Rattle.fts_query.specs.declared.query.Term.{Term}
use Rattle.fts_query.specs.declared.view.Leaf.{Leaf}
use Rattle.fts_query.specs.View.{term_view, terms_view}

-- words of which there are some
pub some_words : (words : List (List ℕ)) → (words ≡ [] → ⊥) → of_words words ≡ words_leaf words
some_words [] some = absurd (some refl)
some_words (w ∷ ws) some = refl

module _ (rules : Rules) (terms : List Term) where
  abbrev pub leaves_from : ℕ → List leaf.Leaf
  leaves_from i = map (leaf_of rules) (operands (terms_view (drop i terms)))

  pub split : (i : ℕ) (d : Term) → i < length terms → leaves_from i ≡ map (leaf_of rules) (operands_of (term_view (get_or terms i d))) ++ leaves_from (i + 1)
  split i d within =
      ap (λ (ts : List Term). map (leaf_of rules) (operands (terms_view ts))) (drop_more terms i d within)
      ∙ map-append (leaf_of rules) (operands_of (term_view (get_or terms i d))) (operands (terms_view (drop (i + 1) terms)))

  pub listed_on : (i : ℕ) (d : Term) (old new all : List leaf.Leaf) → i < length terms → new ≡ old ++ map (leaf_of rules) (operands_of (term_view (get_or terms i d))) → old ++ leaves_from i ≡ all → new ++ leaves_from (i + 1) ≡ all
  listed_on i d old new all within added same =
      ap (λ (x : List leaf.Leaf). x ++ leaves_from (i + 1)) added
      ∙ append_assoc old (map (leaf_of rules) (operands_of (term_view (get_or terms i d)))) (leaves_from (i + 1))
      ∙ ap (λ (x : List leaf.Leaf). old ++ x) (sym (split i d within))
      ∙ same

  pub listed_all : (i : ℕ) (leaves all : List leaf.Leaf) → length terms ≤ i → leaves ++ leaves_from i ≡ all → leaves ≡ all
  listed_all i leaves all past same =
      sym (append-nil leaves)
      ∙ sym (ap (λ (ts : List Term). leaves ++ map (leaf_of rules) (operands (terms_view ts))) (drop_all i terms past))
      ∙ same
