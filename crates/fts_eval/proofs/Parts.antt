-- Groups of parts, part by part.
use Rattle.std.specs.Prelude.{IfOk}
use Rattle.std.proofs.Common.{◌≡◌, ℕ, Bool, true, false, not, ◌&&◌, ◌||◌, ◌==◌, List, [], ◌∷◌, length, Vec, Global, Result, Ok, Err, refl, sym, ap, ◌∙◌, arith}
use Rattle.std.proofs.lemmas.Bool.{false≢true, eqb-true, eq-eqb}
use mathlib.Core.Former.{Count}
use Rattle.fts_ids.specs.Ids.{has}
use Rattle.fts_meaning.specs.View.{Candidate}
use Rattle.fts_eval.specs.declared.part.Part.{Part, Group, Group', Row_of-Part, end_of-Part, more_of-Part, items-the_row-Part, items_hidden-the_row-Part-0}
use Rattle.fts_eval.specs.Says.{is_chosen, says, each_row, any_row, some_row, each_says, some_says}
use Rattle.fts_eval.specs.Means.{are_some}

module _ (texts : List Candidate) (id : ℕ) where
  each_is : (n : _) (k : Row_of-Part n) → each_row texts id k ≡ each_says texts (items-the_row-Part n k) id
  each_is n end_of-Part = refl
  each_is n (more_of-Part part rest) = ap (λ (b : Bool). says texts id part && b) (each_is _ rest)

  any_is : (n : _) (k : Row_of-Part n) → any_row texts id k ≡ some_says texts (items-the_row-Part n k) id
  any_is n end_of-Part = refl
  any_is n (more_of-Part part rest) = ap (λ (b : Bool). says texts id part || b) (any_is _ rest)

some_is : (n : _) (k : Row_of-Part n) → some_row k ≡ are_some (items-the_row-Part n k)
some_is n end_of-Part = refl
some_is n (more_of-Part part rest) = refl

required_of : Part → (n : Count) × Row_of-Part n
required_of (Group' _ row _ _ _ _) = (_, row)
required_of _ = (_, end_of-Part)

optional_of : Part → (n : Count) × Row_of-Part n
optional_of (Group' _ _ _ row _ _) = (_, row)
optional_of _ = (_, end_of-Part)

excluded_of : Part → (n : Count) × Row_of-Part n
excluded_of (Group' _ _ _ _ _ row) = (_, row)
excluded_of _ = (_, end_of-Part)

-- what a group says, by the lists of its parts
pub says-Group : (texts : List Candidate) (id : ℕ) (required optional excluded : Vec Part Global) → says texts id (Group required optional excluded) ≡ is_chosen (are_some required.items) (each_says texts required.items id) (some_says texts optional.items id) (some_says texts excluded.items id)
unfolding required_of optional_of excluded_of
says-Group texts id required optional excluded =
    let r = required_of (Group required optional excluded) in
    let o = optional_of (Group required optional excluded) in
    let e = excluded_of (Group required optional excluded) in
    let ri = items_hidden-the_row-Part-0 required in
    let oi = items_hidden-the_row-Part-0 optional in
    let ei = items_hidden-the_row-Part-0 excluded in
    ap (λ (b : Bool). is_chosen b (each_row texts id r.1) (any_row texts id o.1) (any_row texts id e.1)) (some_is r.0 r.1 ∙ ap are_some ri)
    ∙ ap (λ (b : Bool). is_chosen (are_some required.items) b (any_row texts id o.1) (any_row texts id e.1)) (each_is texts id r.0 r.1 ∙ ap (λ (ps : List Part). each_says texts ps id) ri)
    ∙ ap (λ (b : Bool). is_chosen (are_some required.items) (each_says texts required.items id) b (any_row texts id e.1)) (any_is texts id o.0 o.1 ∙ ap (λ (ps : List Part). some_says texts ps id) oi)
    ∙ ap (λ (b : Bool). is_chosen (are_some required.items) (each_says texts required.items id) (some_says texts optional.items id) b) (any_is texts id e.0 e.1 ∙ ap (λ (ps : List Part). some_says texts ps id) ei)

module _ (texts : List Candidate) (part : Part) (required optional excluded : Vec Part Global) (is : part ≡ Group required optional excluded) (rs os es : List Part) (r : rs ≡ required.items) (o : os ≡ optional.items) (e : es ≡ excluded.items) where
  chosen : (id : ℕ) → says texts id part ≡ is_chosen (are_some rs) (each_says texts rs id) (some_says texts os id) (some_says texts es id)
  chosen id =
      ap (says texts id) is ∙ says-Group texts id required optional excluded
      ∙ ap (λ (ps : List Part). is_chosen (are_some ps) (each_says texts ps id) (some_says texts optional.items id) (some_says texts excluded.items id)) (sym r)
      ∙ ap (λ (ps : List Part). is_chosen (are_some rs) (each_says texts rs id) (some_says texts ps id) (some_says texts excluded.items id)) (sym o)
      ∙ ap (λ (ps : List Part). is_chosen (are_some rs) (each_says texts rs id) (some_says texts os id) (some_says texts ps id)) (sym e)

  -- without a required part, the optional ones say it
  pub by_optional : length rs ≡ 0 → (id : ℕ) → (some_says texts os id && not (some_says texts es id)) ≡ says texts id part
  by_optional none id = sym (chosen id ∙ ap (λ (b : Bool). is_chosen b (each_says texts rs id) (some_says texts os id) (some_says texts es id)) (no_parts rs none))
    where
      no_parts : (ps : List Part) → length ps ≡ 0 → are_some ps ≡ false
      no_parts [] h = refl
      no_parts (p ∷ ps) h = absurd (omega (arith, h))

  -- and else the required ones
  pub by_required : (length rs ≡ 0 → ⊥) → (id : ℕ) → (each_says texts rs id && not (some_says texts es id)) ≡ says texts id part
  by_required some id = sym (chosen id ∙ ap (λ (b : Bool). is_chosen b (each_says texts rs id) (some_says texts os id) (some_says texts es id)) (parts rs some))
    where
      parts : (ps : List Part) → (length ps ≡ 0 → ⊥) → are_some ps ≡ true
      parts [] h = absurd (h refl)
      parts (p ∷ ps) h = refl

-- membership in a result, as something else
pub if_has : {V E : Type 0} (ids : V → List ℕ) (f g : ℕ → Bool) (r : Result V E) → ((id : ℕ) → f id ≡ g id) → IfOk r (λ v. (id : ℕ) → has (ids v) id ≡ f id) → IfOk r (λ v. (id : ℕ) → has (ids v) id ≡ g id)
if_has ids f g (Ok v) same h = λ id. h id ∙ same id
if_has ids f g (Err error) same h = tt

pub if_list : {E : Type 0} (list : List ℕ) (g : ℕ → Bool) (r : Result (List ℕ) E) → ((id : ℕ) → has list id ≡ g id) → IfOk r (λ l. l ≡ list) → IfOk r (λ l. (id : ℕ) → has l id ≡ g id)
if_list list g (Ok l) same h = λ id. ap (λ (xs : List ℕ). has xs id) h ∙ same id
if_list list g (Err error) same h = tt

pub and_assoc : (a b c : Bool) → ((a && b) && c) ≡ (a && (b && c))
and_assoc true b c = refl
and_assoc false b c = refl

pub is_none : (n : ℕ) (b : Bool) → b ≡ (n == 0) → b ≡ true → n ≡ 0
is_none n b e yes_it_is = eqb-true n 0 (sym e ∙ yes_it_is)

pub is_some : (n : ℕ) (b : Bool) → b ≡ (n == 0) → b ≡ false → n ≡ 0 → ⊥
is_some n b e fails h = false≢true (sym fails ∙ e ∙ eq-eqb n 0 h)
