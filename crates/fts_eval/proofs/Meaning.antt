-- From what a view says to what the rows say.
use Rattle.std.proofs.Common.{◌≡◌, ℕ, ◌+◌, Bool, true, false, not, ◌&&◌, ◌||◌, List, [], ◌∷◌, filter, map, nat_eq, refl, sym, ap, ◌∙◌, ⊎_elim}
use Rattle.std.specs.List.{list_any}
use Rattle.std.proofs.lemmas.Bool.{cases_Bool, cases_eq, false≢true, ne_eqb, eq-eqb}
use Rattle.fts_ids.specs.Ids.{AscendFrom}
use Rattle.fts_words.specs.Indexed.{Rules, is_indexable, placed_words}
use Rattle.fts_types.specs.Row.{Row}
use Rattle.fts_meaning.specs.Tree.{Operand, word, prefix, phrase, distance, Term, Terms, leaf, group, none, more}
use Rattle.fts_meaning.specs.Holds.{operand_holds, stays, some_stays, term_holds, none_excluded, each_required, has_required, some_optional, list_holds, is_required, is_optional, sign_of_term}
use Rattle.fts_meaning.specs.View.{candidate_of, texts_at, columns_at}

docs : List Row → List ℕ
docs rows = map (λ (row : Row). row.doc) rows

-- ---- rows with some ids

-- rows that are looked into have their texts among the candidates
module _ (looked : Row → Bool) where
  pub texts_kept : (rows : List Row) (n : ℕ) → AscendFrom n (map (λ (row : Row). row.doc) rows) → (test : List (List ℕ) → Bool) → test [] ≡ false → ((row : Row) → test row.texts ≡ true → looked row ≡ true) → (id : ℕ) → test (columns_at rows id) ≡ true → texts_at (map candidate_of (filter looked rows)) id ≡ columns_at rows id
  texts_kept [] n up test nothing h id holds = refl
  texts_kept (row ∷ rows) n up test nothing h id holds =
      ⊎_elim
      (λ (same : id ≡ row.doc).
      let it : nat_eq id row.doc ≡ true = eq-eqb id row.doc same in
      let here : test row.texts ≡ true = rw it at holds in
      rw (h row here, it) refl)
      (λ (differs : id ≡ row.doc → ⊥).
      let apart : nat_eq id row.doc ≡ false = ne_eqb id row.doc differs in
      let rest = texts_kept rows (row.doc + 1) up.1 test nothing h id (rw apart at holds) in
      ⊎_elim
      (λ (seen : looked row ≡ true). rw (seen, apart) rest)
      (λ (unseen : looked row ≡ false). rw (unseen, apart) rest)
      (cases_Bool (looked row)))
      (cases_eq id row.doc)

-- ---- nothing holds in a row of no columns

and_false : (a : Bool) → (a && false) ≡ false
and_false true = refl
and_false false = refl

no_operand : (rules : Rules) (operand : Operand) → operand_holds rules [] operand ≡ false
unfolding placed_words
no_operand rules (word w) = refl
no_operand rules (prefix w) = refl
no_operand rules (phrase words) = and_false (list_any (is_indexable rules) words)
no_operand rules (distance words n) = and_false (list_any (is_indexable rules) words)

not_or : (st req e h : Bool) → e ≡ not h → ((not (st && req) || false) && e) ≡ not ((st && req) || h)
not_or true true e h p = refl
not_or true false e h p = p
not_or false req e h p = p

none_so : (n h : Bool) → (n && (not h && (h || false))) ≡ false
none_so true true = refl
none_so true false = refl
none_so false h = refl

mutual
  pub no_term : (rules : Rules) (term : Term) → term_holds rules [] term ≡ false
  no_term rules (leaf sign operand) = no_operand rules operand
  no_term rules (group sign terms) =
      ap (λ (b : Bool). none_excluded rules [] terms && (each_required rules [] terms && (has_required rules terms || b))) (no_optional rules terms)
      ∙ ap (λ (b : Bool). none_excluded rules [] terms && (b && (has_required rules terms || false))) (no_required rules terms)
      ∙ none_so (none_excluded rules [] terms) (has_required rules terms)

  no_optional : (rules : Rules) (terms : Terms) → some_optional rules [] terms ≡ false
  no_optional rules none = refl
  no_optional rules (more term rest) =
      ap (λ (b : Bool). (stays rules term && (is_optional (sign_of_term term) && b)) || some_optional rules [] rest) (no_term rules term)
      ∙ ap (λ (b : Bool). (stays rules term && b) || some_optional rules [] rest) (and_false (is_optional (sign_of_term term)))
      ∙ ap (λ (b : Bool). b || some_optional rules [] rest) (and_false (stays rules term))
      ∙ no_optional rules rest

  no_required : (rules : Rules) (terms : Terms) → each_required rules [] terms ≡ not (has_required rules terms)
  no_required rules none = refl
  no_required rules (more term rest) =
      ap (λ (b : Bool). (not (stays rules term && is_required (sign_of_term term)) || b) && each_required rules [] rest) (no_term rules term)
      ∙ not_or (stays rules term) (is_required (sign_of_term term)) (each_required rules [] rest) (has_required rules rest) (no_required rules rest)

-- where no term stays, the list holds nowhere
or_both : (a b : Bool) → (a || b) ≡ false → (a ≡ false) × (b ≡ false)
or_both true b e = absurd (false≢true (sym e))
or_both false b e = (refl, e)

none_required : (rules : Rules) (terms : Terms) → some_stays rules terms ≡ false → has_required rules terms ≡ false
none_required rules none e = refl
none_required rules (more term rest) e =
    let both = or_both (stays rules term) (some_stays rules rest) e in
    ap (λ (b : Bool). (b && is_required (sign_of_term term)) || has_required rules rest) both.0 ∙ none_required rules rest both.1

none_holds : (rules : Rules) (columns : List (List ℕ)) (terms : Terms) → some_stays rules terms ≡ false → some_optional rules columns terms ≡ false
none_holds rules columns none e = refl
none_holds rules columns (more term rest) e =
    let both = or_both (stays rules term) (some_stays rules rest) e in
    ap (λ (b : Bool). (b && (is_optional (sign_of_term term) && term_holds rules columns term)) || some_optional rules columns rest) both.0 ∙ none_holds rules columns rest both.1

pub dropped_list : (rules : Rules) (columns : List (List ℕ)) (terms : Terms) → some_stays rules terms ≡ false → list_holds rules columns terms ≡ false
dropped_list rules columns terms e =
    ap (λ (b : Bool). none_excluded rules columns terms && (each_required rules columns terms && (b || some_optional rules columns terms))) (none_required rules terms e)
    ∙ ap (λ (b : Bool). none_excluded rules columns terms && (each_required rules columns terms && b)) (none_holds rules columns terms e)
    ∙ ap (λ (b : Bool). none_excluded rules columns terms && b) (and_false (each_required rules columns terms))
    ∙ and_false (none_excluded rules columns terms)
