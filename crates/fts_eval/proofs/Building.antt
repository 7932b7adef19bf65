-- Parts, term by term.
use Rattle.std.proofs.Common.{◌≡◌, ℕ, ◌+◌, ◌-◌, ◌<◌, ◌≤◌, arith, take, Bool, true, false, not, ◌&&◌, ◌||◌, List, [], ◌∷◌, ◌++◌, filter, length, map, drop, get_or, Option, Some, None, refl, sym, ap, subst, ◌∙◌, append_assoc}
use Rattle.std.proofs.lemmas.Bool.{false≢true}
use Rattle.std.proofs.lemmas.List.{drop_more, drop_all, take_all}
use Rattle.std.proofs.lemmas.List.Folds.{list_any-append, list_all-append}
use Rattle.fts_words.specs.Indexed.{Rules}
use Rattle.fts_types.specs.Row.{Row}
use Rattle.fts_meaning.specs.declared.sign.Sign.{Sign}
use Rattle.fts_meaning.specs.declared.sign.Sign.TheVariants.{Optional, Required, Excluded}
use Rattle.fts_meaning.specs.Tree as tree
use Rattle.fts_meaning.specs.Tree.{Terms, group, more}
use Rattle.fts_meaning.specs.Holds.{stays, some_stays, term_holds, none_excluded, each_required, has_required, some_optional, is_required, is_optional, is_excluded, sign_of_term}
use Rattle.fts_meaning.specs.Leaf.{Leaf, leaf_of, operands, operands_of}
use Rattle.fts_meaning.specs.View.{Candidate, Postings, is_looked_into, candidate_of, postings_of, columns_at}
use Rattle.fts_query.specs.declared.query.Term.{Term}
use Rattle.fts_query.specs.declared.view.Postings.{Postings as Kept}
use Rattle.fts_query.specs.View.{term_view, terms_view}
use Rattle.fts_query.specs.Seen.{postings_seen}
use Rattle.fts_eval.specs.declared.part.Part.{Part}
use Rattle.fts_eval.specs.declared.resolve.Parts.{Parts}
use Rattle.fts_eval.specs.Says.{is_chosen, says, each_says, some_says}
use Rattle.fts_eval.specs.Means.{PostingsBegin, Means, Continues, PartsMean, Adds, IsGroup, MeansOperand, are_some, has_parts}
use Rattle.fts_eval.proofs.Listing.{leaves_from, split}
use Rattle.fts_eval.proofs.Operands.{leaf_means}
use Rattle.fts_eval.proofs.Parts.{says-Group}

-- ---- tests, one more

stay_on : (new old t rest all : Bool) → new ≡ true → t ≡ true → (old || (t || rest)) ≡ all → (new || rest) ≡ all
stay_on true old true rest all n e h = sym (or_true old) ∙ h
  where
    or_true : (a : Bool) → (a || true) ≡ true
    or_true true = refl
    or_true false = refl
stay_on true old false rest all n e h = absurd (false≢true e)
stay_on false old t rest all n e h = absurd (false≢true n)

pass_on : (new old t rest all : Bool) → new ≡ old → t ≡ false → (old || (t || rest)) ≡ all → (new || rest) ≡ all
pass_on new old true rest all n e h = absurd (false≢true (sym e))
pass_on new old false rest all n e h = ap (λ (b : Bool). b || rest) n ∙ h

each_on : (new old t said holds rest all : Bool) → new ≡ (old && (said && true)) → t ≡ true → said ≡ holds → (old && ((not t || holds) && rest)) ≡ all → (new && rest) ≡ all
each_on new old false said holds rest all n e s h = absurd (false≢true e)
each_on new old true said holds rest all n e s h = ap (λ (b : Bool). b && rest) n ∙ shape old said rest ∙ ap (λ (b : Bool). old && (b && rest)) s ∙ h
  where
    shape : (a b c : Bool) → ((a && (b && true)) && c) ≡ (a && (b && c))
    shape true true c = refl
    shape true false c = refl
    shape false b c = refl

each_pass : (new old t holds rest all : Bool) → new ≡ old → t ≡ false → (old && ((not t || holds) && rest)) ≡ all → (new && rest) ≡ all
each_pass new old true holds rest all n e h = absurd (false≢true (sym e))
each_pass new old false holds rest all n e h = ap (λ (b : Bool). b && rest) n ∙ h

some_on : (new old t said rest all : Bool) → new ≡ (old || (said || false)) → t ≡ said → (old || (t || rest)) ≡ all → (new || rest) ≡ all
some_on new old t said rest all n e h = ap (λ (b : Bool). b || rest) n ∙ shape old said rest ∙ ap (λ (b : Bool). old || (b || rest)) (sym e) ∙ h
  where
    shape : (a b c : Bool) → ((a || (b || false)) || c) ≡ (a || (b || c))
    shape true b c = refl
    shape false true c = refl
    shape false false c = refl

none_on : (new old t said rest all : Bool) → new ≡ (old || (said || false)) → t ≡ said → (not old && (not t && rest)) ≡ all → (not new && rest) ≡ all
none_on new old t said rest all n e h = ap (λ (b : Bool). not b && rest) n ∙ shape old said rest ∙ ap (λ (b : Bool). not old && (not b && rest)) (sym e) ∙ h
  where
    shape : (a b c : Bool) → (not (a || (b || false)) && c) ≡ (not a && (not b && c))
    shape true b c = refl
    shape false true c = refl
    shape false false c = refl

none_pass : (new old t rest all : Bool) → new ≡ old → t ≡ false → (not old && (not t && rest)) ≡ all → (not new && rest) ≡ all
none_pass new old true rest all n e h = absurd (false≢true (sym e))
none_pass new old false rest all n e h = ap (λ (b : Bool). not b && rest) n ∙ h

-- ---- a term more

some_pushed : (xs : List Part) (p : Part) → are_some (xs ++ p ∷ []) ≡ true
some_pushed [] p = refl
some_pushed (x ∷ xs) p = refl

req_is : (st : Bool) (sg s : Sign) → st ≡ true → sg ≡ s → (st && is_required sg) ≡ is_required s
req_is st sg s e f = ap (λ (b : Bool). b && is_required sg) e ∙ ap is_required f

opt_is : (st h : Bool) (sg s : Sign) → st ≡ true → sg ≡ s → (st && (is_optional sg && h)) ≡ (is_optional s && h)
opt_is st h sg s e f = ap (λ (b : Bool). b && (is_optional sg && h)) e ∙ ap (λ (k : Sign). is_optional k && h) f

exc_is : (st h : Bool) (sg s : Sign) → st ≡ true → sg ≡ s → (st && (is_excluded sg && h)) ≡ (is_excluded s && h)
exc_is st h sg s e f = ap (λ (b : Bool). b && (is_excluded sg && h)) e ∙ ap (λ (k : Sign). is_excluded k && h) f

or_mid : (a c : Bool) → (a || (true || c)) ≡ true
or_mid true c = refl
or_mid false c = refl

or_last : (a b : Bool) → (a || (b || true)) ≡ true
or_last true b = refl
or_last false true = refl
or_last false false = refl

module _ (rules : Rules) (rows : List Row) (texts : List Candidate) where
  pub continues_first : (parts : Parts) (all : Terms) → parts.required.items ≡ [] → parts.optional.items ≡ [] → parts.excluded.items ≡ [] → Continues rules rows texts parts all all
  continues_first parts all r o e = record {
    stay = ap (λ (ps : List Part). (are_some ps || (are_some parts.optional.items || are_some parts.excluded.items)) || some_stays rules all) r
        ∙ ap (λ (ps : List Part). (false || (are_some ps || are_some parts.excluded.items)) || some_stays rules all) o
        ∙ ap (λ (ps : List Part). (false || (false || are_some ps)) || some_stays rules all) e;
    has = ap (λ (ps : List Part). are_some ps || has_required rules all) r;
    each = λ id. ap (λ (ps : List Part). each_says texts ps id && each_required rules (columns_at rows id) all) r;
    some = λ id. ap (λ (ps : List Part). some_says texts ps id || some_optional rules (columns_at rows id) all) o;
    no_excluded = λ id. ap (λ (ps : List Part). not (some_says texts ps id) && none_excluded rules (columns_at rows id) all) e;
  }

  module _ (term : tree.Term) (rest all : Terms) (old new : Parts) (c : Continues rules rows texts old (more term rest) all) where
    h : ℕ → Bool
    h id = term_holds rules (columns_at rows id) term

    dropped : new ≡ old → stays rules term ≡ false → Continues rules rows texts new rest all
    dropped same gone =
        subst (λ (ps : Parts). Continues rules rows texts ps rest all) (sym same) (record {
          stay = pass_on (has_parts old) (has_parts old) (stays rules term) (some_stays rules rest) (some_stays rules all) refl gone c.stay;
          has = pass_on (are_some old.required.items) (are_some old.required.items) (stays rules term && is_required (sign_of_term term)) (has_required rules rest) (has_required rules all) refl (ap (λ (b : Bool). b && is_required (sign_of_term term)) gone) c.has;
          each = λ id. each_pass (each_says texts old.required.items id) (each_says texts old.required.items id) (stays rules term && is_required (sign_of_term term)) (term_holds rules (columns_at rows id) term) (each_required rules (columns_at rows id) rest) (each_required rules (columns_at rows id) all) refl (ap (λ (b : Bool). b && is_required (sign_of_term term)) gone) (c.each id);
          some = λ id. pass_on (some_says texts old.optional.items id) (some_says texts old.optional.items id) (stays rules term && (is_optional (sign_of_term term) && term_holds rules (columns_at rows id) term)) (some_optional rules (columns_at rows id) rest) (some_optional rules (columns_at rows id) all) refl (ap (λ (b : Bool). b && (is_optional (sign_of_term term) && term_holds rules (columns_at rows id) term)) gone) (c.some id);
          no_excluded = λ id. none_pass (some_says texts old.excluded.items id) (some_says texts old.excluded.items id) (stays rules term && (is_excluded (sign_of_term term) && term_holds rules (columns_at rows id) term)) (none_excluded rules (columns_at rows id) rest) (none_excluded rules (columns_at rows id) all) refl (ap (λ (b : Bool). b && (is_excluded (sign_of_term term) && term_holds rules (columns_at rows id) term)) gone) (c.no_excluded id);
        })

    module _ (part : Part) (stay : stays rules term ≡ true) (is : (id : ℕ) → says texts id part ≡ term_holds rules (columns_at rows id) term) where
      all_of : (xs : List Part) (id : ℕ) → each_says texts (xs ++ part ∷ []) id ≡ (each_says texts xs id && (says texts id part && true))
      all_of xs id = list_all-append (says texts id) xs (part ∷ [])

      any_of : (xs : List Part) (id : ℕ) → some_says texts (xs ++ part ∷ []) id ≡ (some_says texts xs id || (says texts id part || false))
      any_of xs id = list_any-append (says texts id) xs (part ∷ [])

      has_pass : (s : Sign) → sign_of_term term ≡ s → is_required s ≡ false → new.required.items ≡ old.required.items → (are_some new.required.items || has_required rules rest) ≡ has_required rules all
      has_pass s sg other same = pass_on (are_some new.required.items) (are_some old.required.items) (stays rules term && is_required (sign_of_term term)) (has_required rules rest) (has_required rules all) (ap are_some same) (req_is (stays rules term) (sign_of_term term) s stay sg ∙ other) c.has

      each_skip : (s : Sign) → sign_of_term term ≡ s → is_required s ≡ false → new.required.items ≡ old.required.items → (id : ℕ) → (each_says texts new.required.items id && each_required rules (columns_at rows id) rest) ≡ each_required rules (columns_at rows id) all
      each_skip s sg other same id = each_pass (each_says texts new.required.items id) (each_says texts old.required.items id) (stays rules term && is_required (sign_of_term term)) (term_holds rules (columns_at rows id) term) (each_required rules (columns_at rows id) rest) (each_required rules (columns_at rows id) all) (ap (λ (ps : List Part). each_says texts ps id) same) (req_is (stays rules term) (sign_of_term term) s stay sg ∙ other) (c.each id)

      some_skip : (s : Sign) → sign_of_term term ≡ s → ((b : Bool) → (is_optional s && b) ≡ false) → new.optional.items ≡ old.optional.items → (id : ℕ) → (some_says texts new.optional.items id || some_optional rules (columns_at rows id) rest) ≡ some_optional rules (columns_at rows id) all
      some_skip s sg other same id = pass_on (some_says texts new.optional.items id) (some_says texts old.optional.items id) (stays rules term && (is_optional (sign_of_term term) && term_holds rules (columns_at rows id) term)) (some_optional rules (columns_at rows id) rest) (some_optional rules (columns_at rows id) all) (ap (λ (ps : List Part). some_says texts ps id) same) (opt_is (stays rules term) (term_holds rules (columns_at rows id) term) (sign_of_term term) s stay sg ∙ other (term_holds rules (columns_at rows id) term)) (c.some id)

      none_skip : (s : Sign) → sign_of_term term ≡ s → ((b : Bool) → (is_excluded s && b) ≡ false) → new.excluded.items ≡ old.excluded.items → (id : ℕ) → (not (some_says texts new.excluded.items id) && none_excluded rules (columns_at rows id) rest) ≡ none_excluded rules (columns_at rows id) all
      none_skip s sg other same id = none_pass (some_says texts new.excluded.items id) (some_says texts old.excluded.items id) (stays rules term && (is_excluded (sign_of_term term) && term_holds rules (columns_at rows id) term)) (none_excluded rules (columns_at rows id) rest) (none_excluded rules (columns_at rows id) all) (ap (λ (ps : List Part). some_says texts ps id) same) (exc_is (stays rules term) (term_holds rules (columns_at rows id) term) (sign_of_term term) s stay sg ∙ other (term_holds rules (columns_at rows id) term)) (c.no_excluded id)

      stays_on : has_parts new ≡ true → (has_parts new || some_stays rules rest) ≡ some_stays rules all
      stays_on there = stay_on (has_parts new) (has_parts old) (stays rules term) (some_stays rules rest) (some_stays rules all) there stay c.stay

      required_more : sign_of_term term ≡ Required → new.required.items ≡ old.required.items ++ part ∷ [] → new.optional.items ≡ old.optional.items → new.excluded.items ≡ old.excluded.items → Continues rules rows texts new rest all
      required_more sg r o e =
          let there : are_some new.required.items ≡ true = ap are_some r ∙ some_pushed old.required.items part in
          record {
            stay = stays_on (ap (λ (b : Bool). b || (are_some new.optional.items || are_some new.excluded.items)) there);
            has = stay_on (are_some new.required.items) (are_some old.required.items) (stays rules term && is_required (sign_of_term term)) (has_required rules rest) (has_required rules all) there (req_is (stays rules term) (sign_of_term term) Required stay sg) c.has;
            each = λ id. each_on (each_says texts new.required.items id) (each_says texts old.required.items id) (stays rules term && is_required (sign_of_term term)) (says texts id part) (term_holds rules (columns_at rows id) term) (each_required rules (columns_at rows id) rest) (each_required rules (columns_at rows id) all) (ap (λ (ps : List Part). each_says texts ps id) r ∙ all_of old.required.items id) (req_is (stays rules term) (sign_of_term term) Required stay sg) (is id) (c.each id);
            some = some_skip Required sg (λ b. refl) o;
            no_excluded = none_skip Required sg (λ b. refl) e;
          }

      optional_more : sign_of_term term ≡ Optional → new.required.items ≡ old.required.items → new.optional.items ≡ old.optional.items ++ part ∷ [] → new.excluded.items ≡ old.excluded.items → Continues rules rows texts new rest all
      optional_more sg r o e =
          let there : are_some new.optional.items ≡ true = ap are_some o ∙ some_pushed old.optional.items part in
          record {
            stay = stays_on (ap (λ (b : Bool). are_some new.required.items || (b || are_some new.excluded.items)) there ∙ or_mid (are_some new.required.items) (are_some new.excluded.items));
            has = has_pass Optional sg refl r;
            each = each_skip Optional sg refl r;
            some = λ id. some_on (some_says texts new.optional.items id) (some_says texts old.optional.items id) (stays rules term && (is_optional (sign_of_term term) && term_holds rules (columns_at rows id) term)) (says texts id part) (some_optional rules (columns_at rows id) rest) (some_optional rules (columns_at rows id) all) (ap (λ (ps : List Part). some_says texts ps id) o ∙ any_of old.optional.items id) (opt_is (stays rules term) (term_holds rules (columns_at rows id) term) (sign_of_term term) Optional stay sg ∙ sym (is id)) (c.some id);
            no_excluded = none_skip Optional sg (λ b. refl) e;
          }

      excluded_more : sign_of_term term ≡ Excluded → new.required.items ≡ old.required.items → new.optional.items ≡ old.optional.items → new.excluded.items ≡ old.excluded.items ++ part ∷ [] → Continues rules rows texts new rest all
      excluded_more sg r o e =
          let there : are_some new.excluded.items ≡ true = ap are_some e ∙ some_pushed old.excluded.items part in
          record {
            stay = stays_on (ap (λ (b : Bool). are_some new.required.items || (are_some new.optional.items || b)) there ∙ or_last (are_some new.required.items) (are_some new.optional.items));
            has = has_pass Excluded sg refl r;
            each = each_skip Excluded sg refl r;
            some = some_skip Excluded sg (λ b. refl) o;
            no_excluded = λ id. none_on (some_says texts new.excluded.items id) (some_says texts old.excluded.items id) (stays rules term && (is_excluded (sign_of_term term) && term_holds rules (columns_at rows id) term)) (says texts id part) (none_excluded rules (columns_at rows id) rest) (none_excluded rules (columns_at rows id) all) (ap (λ (ps : List Part). some_says texts ps id) e ∙ any_of old.excluded.items id) (exc_is (stays rules term) (term_holds rules (columns_at rows id) term) (sign_of_term term) Excluded stay sg ∙ sym (is id)) (c.no_excluded id);
          }

    pub continues_more : (sign : Sign) (found : Option Part) → sign_of_term term ≡ sign → Means rules rows texts term found → Adds sign found old new → Continues rules rows texts new rest all
    continues_more sign None sg m added = dropped added m
    continues_more Required (Some part) sg m added = required_more part m.0 m.1 sg added.0 added.1 added.2
    continues_more Optional (Some part) sg m added = optional_more part m.0 m.1 sg added.0 added.1 added.2
    continues_more Excluded (Some part) sg m added = excluded_more part m.0 m.1 sg added.0 added.1 added.2

  -- ---- the group of all parts

  chosen_is : (e s x : Bool) (h : Bool) → (h ≡ false → e ≡ true) → is_chosen h e s x ≡ ((not x && true) && ((e && true) && ((h || false) || (s || false))))
  chosen_is true true true true p = refl
  chosen_is true true false true p = refl
  chosen_is true false true true p = refl
  chosen_is true false false true p = refl
  chosen_is false s true true p = refl
  chosen_is false s false true p = refl
  chosen_is true true true false p = refl
  chosen_is true true false false p = refl
  chosen_is true false true false p = refl
  chosen_is true false false false p = refl
  chosen_is false s x false p = absurd (false≢true (p refl))

  no_part : (ps : List Part) (id : ℕ) → are_some ps ≡ false → each_says texts ps id ≡ true
  no_part [] id e = refl
  no_part (p ∷ ps) id e = absurd (false≢true (sym e))

  or_none : (b : Bool) → (b || false) ≡ b
  or_none true = refl
  or_none false = refl

  pub group_means : (sign : Sign) (terms : Terms) (parts : Parts) (found : Option Part) → PartsMean rules rows texts terms parts → IsGroup parts found → Means rules rows texts (group sign terms) found
  group_means sign terms parts None c g = sym c.stay ∙ or_none (has_parts parts) ∙ g
  group_means sign terms parts (Some part) c g = (
    sym c.stay ∙ or_none (has_parts parts) ∙ g.0,
    λ id.
        ap (says texts id) g.1 ∙ says-Group texts id parts.required parts.optional parts.excluded
        ∙ chosen_is (each_says texts parts.required.items id) (some_says texts parts.optional.items id) (some_says texts parts.excluded.items id) (are_some parts.required.items) (no_part parts.required.items id)
        ∙ ap (λ (b : Bool). b && ((each_says texts parts.required.items id && true) && ((are_some parts.required.items || false) || (some_says texts parts.optional.items id || false)))) (c.no_excluded id)
        ∙ ap (λ (b : Bool). none_excluded rules (columns_at rows id) terms && (b && ((are_some parts.required.items || false) || (some_says texts parts.optional.items id || false)))) (c.each id)
        ∙ ap (λ (b : Bool). none_excluded rules (columns_at rows id) terms && (each_required rules (columns_at rows id) terms && (b || (some_says texts parts.optional.items id || false)))) c.has
        ∙ ap (λ (b : Bool). none_excluded rules (columns_at rows id) terms && (each_required rules (columns_at rows id) terms && (has_required rules terms || b))) (c.some id),
  )

-- ---- the postings of a term, and those behind it

module _ (rules : Rules) (rows : List Row) (texts : List Candidate) where
  stands_term : (before leaves first rest after : List Leaf) (ps : List Postings) → leaves ≡ first ++ rest → PostingsBegin rules rows before leaves after texts ps → PostingsBegin rules rows before first (rest ++ after) texts ps
  stands_term before leaves first rest after ps cut s =
      let whole : leaves ++ after ≡ first ++ (rest ++ after) = ap (λ (ls : List Leaf). ls ++ after) cut ∙ append_assoc first rest after in
      record {
        ascend = s.ascend;
        texts_are = s.texts_are ∙ ap (λ (ls : List Leaf). map candidate_of (filter (is_looked_into rules (before ++ ls)) rows)) whole;
        postings_are = s.postings_are ∙ ap (map (postings_of rules rows)) whole;
      }

  stands_rest : (before first rest after : List Leaf) (ps qs : List Postings) → PostingsBegin rules rows before first (rest ++ after) texts ps → qs ≡ map (postings_of rules rows) (rest ++ after) → PostingsBegin rules rows (before ++ first) rest after texts qs
  stands_rest before first rest after ps qs s e = record {
    ascend = s.ascend;
    texts_are = s.texts_are ∙ ap (λ (ls : List Leaf). map candidate_of (filter (is_looked_into rules ls) rows)) (sym (append_assoc before first (rest ++ after)));
    postings_are = e;
  }

-- ---- the walk over the terms

-- the parts so far are those of the terms so far, and the postings that are left those of the terms that are left
abbrev pub IsBuilding : Rules → List Row → List Leaf → List Candidate → List Term → ℕ → Parts → List Postings → Type 0
IsBuilding rules rows after texts terms place parts rest =
    (before : List Leaf) × PostingsBegin rules rows before (leaves_from rules terms place) after texts rest × Continues rules rows texts parts (terms_view (drop place terms)) (terms_view terms)

module _ (rules : Rules) (rows : List Row) (after : List Leaf) (texts : List Candidate) (terms : List Term) where
  pub building_first : (before : List Leaf) (parts : Parts) (ps : List Postings) → parts.required.items ≡ [] → parts.optional.items ≡ [] → parts.excluded.items ≡ [] → PostingsBegin rules rows before (leaves_from rules terms 0) after texts ps → IsBuilding rules rows after texts terms 0 parts ps
  building_first before parts ps r o e s = (before, s, continues_first rules rows texts parts (terms_view terms) r o e)

  pub building_more : (place : ℕ) (d : Term) (old new : Parts) (sign : Sign) (found : Option Part) (ps qs : List Postings) → place < length terms
      → IsBuilding rules rows after texts terms place old ps
      → ((b a : List Leaf) → PostingsBegin rules rows b (map (leaf_of rules) (operands_of (term_view (get_or terms place d)))) a texts ps → Means rules rows texts (term_view (get_or terms place d)) found × (qs ≡ map (postings_of rules rows) a))
      → sign ≡ sign_of_term (term_view (get_or terms place d)) → Adds sign found old new → IsBuilding rules rows after texts terms (place + 1) new qs
  building_more place d old new sign found ps qs within b step sg added =
      let term = term_view (get_or terms place d) in
      let first = map (leaf_of rules) (operands_of term) in
      let s = stands_term rules rows texts b.0 (leaves_from rules terms place) first (leaves_from rules terms (place + 1)) after ps (split rules terms place d within) b.1 in
      let m = step b.0 (leaves_from rules terms (place + 1) ++ after) s in
      let here : Continues rules rows texts old (more term (terms_view (drop (place + 1) terms))) (terms_view terms) = subst (λ (ts : Terms). Continues rules rows texts old ts (terms_view terms)) (ap terms_view (drop_more terms place d within)) b.2 in (
        b.0 ++ first,
        stands_rest rules rows texts b.0 first (leaves_from rules terms (place + 1)) after ps qs s m.1,
        continues_more rules rows texts term (terms_view (drop (place + 1) terms)) (terms_view terms) old new here sign found (sym sg) m.0 added,
      )

  pub building_all : (place : ℕ) (parts : Parts) (ps : List Postings) → length terms ≤ place → IsBuilding rules rows after texts terms place parts ps → PartsMean rules rows texts (terms_view terms) parts × (ps ≡ map (postings_of rules rows) after)
  building_all place parts ps past b =
      let gone : drop place terms ≡ [] = drop_all place terms past in
      let s = b.1 in (
        subst (λ (ts : Terms). Continues rules rows texts parts ts (terms_view terms)) (ap terms_view gone) b.2,
        s.postings_are ∙ ap (λ (ts : List Term). map (postings_of rules rows) (map (leaf_of rules) (operands (terms_view ts)) ++ after)) gone,
      )

  -- the same, at a term that is given
  pub building_at : (place : ℕ) (t : Term) (old new : Parts) (sign : Sign) (found : Option Part) (ps qs : List Postings) → place < length terms → t ≡ get_or terms place t
      → IsBuilding rules rows after texts terms place old ps
      → ((b a : List Leaf) → PostingsBegin rules rows b (map (leaf_of rules) (operands_of (term_view t))) a texts ps → Means rules rows texts (term_view t) found × (qs ≡ map (postings_of rules rows) a))
      → sign ≡ sign_of_term (term_view t) → Adds sign found old new → IsBuilding rules rows after texts terms (place + 1) new qs
  building_at place t old new sign found ps qs within is b step sg added =
      building_more place t old new sign found ps qs within b
      (subst (λ (u : Term). (b a : List Leaf) → PostingsBegin rules rows b (map (leaf_of rules) (operands_of (term_view u))) a texts ps → Means rules rows texts (term_view u) found × (qs ≡ map (postings_of rules rows) a)) is step)
      (subst (λ (u : Term). sign ≡ sign_of_term (term_view u)) is sg) added

-- ---- a term that is one operand

module _ (rules : Rules) (rows : List Row) (before after : List Leaf) (texts : List Candidate) (sign : Sign) (operand : tree.Operand) (term : tree.Term) (is : term ≡ tree.leaf sign operand) where
  pub leaf_step : (ps : List Kept) (first : Kept) (part : Option Part) → 0 < length ps → first ≡ get_or ps 0 first → MeansOperand operand (postings_seen first) part
      → PostingsBegin rules rows before (map (leaf_of rules) (operands_of term)) after texts (map postings_seen ps)
      → Means rules rows texts term part × (map postings_seen (take (length ps - 1) (drop 1 ps)) ≡ map (postings_of rules rows) after)
  leaf_step [] first part some at m s = absurd (omega (arith, some))
  leaf_step (p ∷ ps) first part some at m s =
      let here : PostingsBegin rules rows before (leaf_of rules operand ∷ []) after texts (postings_seen p ∷ map postings_seen ps) = subst (λ (t : tree.Term). PostingsBegin rules rows before (map (leaf_of rules) (operands_of t)) after texts (postings_seen p ∷ map postings_seen ps)) is s in
      let e = here.postings_are in
      let behind : map postings_seen ps ≡ map (postings_of rules rows) after = cc in
      let rest : take (length (p ∷ ps) - 1) ps ≡ ps = take_all (length (p ∷ ps) - 1) ps (omega arith) in (
        subst (λ (t : tree.Term). Means rules rows texts t part) (sym is) (leaf_means rules rows before after texts sign operand (postings_seen p) (map postings_seen ps) part here (subst (λ (k : Kept). MeansOperand operand (postings_seen k) part) at m)),
        ap (map postings_seen) rest ∙ behind,
      )
