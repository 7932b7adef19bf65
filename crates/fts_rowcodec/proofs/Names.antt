-- Names of columns that join those before them one by one are distinct names of columns.
use Rattle.std.proofs.Common.{◌≡◌, ℕ, ◌≤◌, Bool, true, false, ◌||◌, not, List, [], ◌∷◌, ◌++◌, length, bytes_eq, refl, sym, ap, ◌∙◌, append_assoc, ⊎_elim, arith}
use Rattle.std.specs.List.{list_all}
use Rattle.std.proofs.lemmas.Bool.{and_parts, or_parts, cases_Bool, false≢true}
use Rattle.std.proofs.lemmas.List.{append-nil}
use Rattle.std.proofs.lemmas.Slice.Eq.{bytes_eq-Decides}
use Rattle.std.proofs.lemmas.List.Folds.{list_any-append}
use Rattle.fts_words.specs.Order.{is_among}
use Rattle.fts_types.specs.Settings.{is_column_name, are_distinct}
use Rattle.fts_codec.specs.Grammar.{IsFrom}
use Rattle.fts_rowcodec.specs.Grammar.{may_join}
use Rattle.fts_rowcodec.proofs.Bounds.{short_name}

-- each joins those before it
abbrev pub AreJoined : List (List ℕ) → List (List ℕ) → Type 0
AreJoined names [] = Unit {0}
AreJoined names (name ∷ more) = (may_join names name ≡ true) × AreJoined (names ++ name ∷ []) more

not_true : (b : Bool) → not b ≡ true → b ≡ false
not_true true e = absurd cc
not_true false e = refl

some_name : (name : List ℕ) → is_column_name name ≡ true → 1 ≤ length name
some_name [] is = absurd (false≢true is)
some_name (b ∷ name) is = omega arith

pub short_joined : (names : List (List ℕ)) (name : List ℕ) → may_join names name ≡ true → IsFrom 1 32 (length name)
short_joined names name joins = let is = (and_parts _ _ joins).0 in (some_name name is, short_name name is)

other_way : (v w : List ℕ) → bytes_eq v w ≡ false → bytes_eq w v ≡ false
other_way v w e =
    ⊎_elim
    (λ (is : bytes_eq w v ≡ true). absurd (let same : bytes_eq v w ≡ true = (bytes_eq-Decides v w).1 (sym ((bytes_eq-Decides w v).0 is)) in let other = e in cc))
    (λ (differs : bytes_eq w v ≡ false). differs)
    (cases_Bool (bytes_eq w v))

pub joined_names : (names more : List (List ℕ)) → AreJoined names more → list_all is_column_name more ≡ true
joined_names names [] joined = refl
joined_names names (name ∷ more) joined =
    let is : is_column_name name ≡ true = (and_parts _ _ joined.0).0 in
    rw (is, joined_names (names ++ name ∷ []) more joined.1) refl

-- one more that is not among them
push_distinct : (names : List (List ℕ)) (name : List ℕ) → are_distinct names ≡ true → is_among names name ≡ false → are_distinct (names ++ name ∷ []) ≡ true
push_distinct [] name distinct new = refl
push_distinct (first ∷ names) name distinct new =
    let parts = and_parts _ _ distinct in
    let differs = or_parts (bytes_eq first name) (is_among names name) new in
    let before : is_among names first ≡ false = not_true _ parts.0 in
    let among : is_among (names ++ name ∷ []) first ≡ false =
    list_any-append (λ (other : List ℕ). bytes_eq other first) names (name ∷ []) ∙ rw (before, other_way first name differs.0) refl in
    rw (among, push_distinct names name parts.1 differs.1) refl

pub joined_distinct : (names more : List (List ℕ)) → are_distinct names ≡ true → AreJoined names more → are_distinct (names ++ more) ≡ true
joined_distinct names [] distinct joined = rw append-nil distinct
joined_distinct names (name ∷ more) distinct joined =
    ap are_distinct (sym (append_assoc names (name ∷ []) more))
    ∙ joined_distinct (names ++ name ∷ []) more (push_distinct names name distinct (not_true _ (and_parts _ _ joined.0).1)) joined.1

-- distinct names: one behind others is not among them
apart : (names : List (List ℕ)) (name : List ℕ) (more : List (List ℕ)) → are_distinct (names ++ name ∷ more) ≡ true → is_among names name ≡ false
apart [] name more distinct = refl
apart (first ∷ names) name more distinct =
    let parts = and_parts _ _ distinct in
    let among : (is_among names first || (bytes_eq name first || is_among more first)) ≡ false = sym (list_any-append (λ (other : List ℕ). bytes_eq other first) names (name ∷ more)) ∙ not_true _ parts.0 in
    let behind = or_parts (is_among names first) (bytes_eq name first || is_among more first) among in
    let differs = or_parts (bytes_eq name first) (is_among more first) behind.1 in
    rw (other_way name first differs.0, apart names name more parts.1) refl

pub names_joined : (names more : List (List ℕ)) → list_all is_column_name more ≡ true → are_distinct (names ++ more) ≡ true → AreJoined names more
names_joined names [] are distinct = tt
names_joined names (name ∷ more) are distinct =
    let parts = and_parts _ _ are in
    let is : is_column_name name ≡ true = parts.0 in
    (rw (is, apart names name more distinct) refl, names_joined (names ++ name ∷ []) more parts.1 (ap are_distinct (append_assoc names (name ∷ []) more) ∙ distinct))
