-- Words among the entries of a table, as calls change them.
use Rattle.std.proofs.Common.{◌≡◌, ◌≢◌, ◌⊎◌, inl, inr, ⊎_elim, ℕ, zero, suc, Bool, true, false, cond, List, [], ◌∷◌, ◌++◌, length, Option, Some, None, is_some, refl, sym, ap, subst, ◌∙◌, true≢false}
use Rattle.std.specs.List.{AllByRecursion, IsDistinct, slice_get}
use Rattle.std.specs.Map.{keys_of, values_of, KeepsOthers, lookup_key}
use Rattle.std.specs.Option.{unwrap_or}
use Rattle.std.specs.Str.{bytes_eq}
use Rattle.std.proofs.lemmas.Bool.{cases_Bool}
use Rattle.std.proofs.lemmas.List.{map-append}
use Rattle.std.proofs.lemmas.Slice.Eq.{bytes_eq-Decides}
use Rattle.indexmap.specs.IndexMap.{set_value_at}
use Rattle.fts_ilist.specs.NodeList.{NodeState, with_nodes}
use Rattle.fts_aux.specs.Table.{Entries, find, no_list, list_in, nodes_in, is_key, is_key_at, Becomes, Enters, Writes}

-- ---- words are the same or not

pub same_text : (v w : List ℕ) → bytes_eq v w ≡ true → v ≡ w
same_text v w e = (bytes_eq-Decides v w).0 e

pub is_same : (w : List ℕ) → bytes_eq w w ≡ true
is_same w = (bytes_eq-Decides w w).1 refl

pub which_word : (v w : List ℕ) → ((bytes_eq v w ≡ true) × (v ≡ w)) ⊎ ((bytes_eq v w ≡ false) × (v ≢ w))
which_word v w = by (bytes_eq v w) refl
  where
    by : (b : Bool) → bytes_eq v w ≡ b → ((b ≡ true) × (v ≡ w)) ⊎ ((b ≡ false) × (v ≢ w))
    by true e = inl (refl, same_text v w e)
    by false e = inr (refl, λ (f : v ≡ w). true≢false (sym (subst (λ (x : List ℕ). bytes_eq v x ≡ true) f (is_same v)) ∙ e))

other_text : (v w : List ℕ) → v ≢ w → bytes_eq v w ≡ false
other_text v w apart = ⊎_elim (λ h. absurd (apart h.1)) (λ h. h.0) (which_word v w)

twice : (b : Bool) (x y z : Option NodeState) → cond b x z ≡ cond b x (cond b y z)
twice true x y z = refl
twice false x y z = refl

swap : (a b : Bool) (x y z : Option NodeState) → (a ≡ true → b ≡ true → ⊥) → cond a x (cond b y z) ≡ cond b y (cond a x z)
swap true true x y z never = absurd (never refl refl)
swap true false x y z never = refl
swap false b x y z never = refl

-- ---- by its number

abbrev pub Distinct : List (List ℕ) → Type 0
Distinct ks = IsDistinct (λ (x y : List ℕ). bytes_eq x y) ks

apart_at : (k : List ℕ) (ks : List (List ℕ)) (n : ℕ) (word : List ℕ) → AllByRecursion (λ (y : List ℕ). bytes_eq k y ≡ false) ks → is_key_at ks n word ≡ true → word ≢ k
apart_at k [] n word all at = absurd (true≢false (sym at))
apart_at k (y ∷ ks) zero word all at = λ (e : word ≡ k). true≢false (sym (ap (λ (x : List ℕ). bytes_eq x y) (sym e) ∙ at) ∙ all.0)
apart_at k (y ∷ ks) (suc n) word all at = apart_at k ks n word all.1 at

pub first_apart : (k : List ℕ) (ks : List (List ℕ)) (n : ℕ) (word : List ℕ) → Distinct (k ∷ ks) → is_key_at ks n word ≡ true → word ≢ k
unfolding IsDistinct
first_apart k ks n word u at = apart_at k ks n word u.0 at

pub rest_distinct : (k : List ℕ) (ks : List (List ℕ)) → Distinct (k ∷ ks) → Distinct ks
unfolding IsDistinct
rest_distinct k ks u = u.1

-- a list is written at a number
becomes_at : (n : ℕ) (es : Entries) (word : List ℕ) (v : NodeState) → Distinct (keys_of es) → is_key_at (keys_of es) n word ≡ true → Becomes es word (Some v) (set_value_at es n v)
becomes_at n [] word v u at w = absurd (true≢false (sym at))
becomes_at zero (e ∷ es) word v u at w =
    twice (bytes_eq w e.0) (Some v) (Some e.1) (find w es)
    ∙ ap (λ (x : List ℕ). cond (bytes_eq w x) (Some v) (find w (e ∷ es))) (sym (same_text word e.0 at))
becomes_at (suc n) (e ∷ es) word v u at w =
    let apart = first_apart e.0 (keys_of es) n word u at in
    ap (λ (o : Option NodeState). cond (bytes_eq w e.0) (Some e.1) o) (becomes_at n es word v (rest_distinct e.0 (keys_of es) u) at w)
    ∙ swap (bytes_eq w e.0) (bytes_eq w word) (Some e.1) (Some v) (find w es) (λ a b. apart (sym (same_text w word b) ∙ same_text w e.0 a))

keys_at : (n : ℕ) (es : Entries) (v : NodeState) → keys_of (set_value_at es n v) ≡ keys_of es
keys_at n [] v = refl
keys_at zero (e ∷ es) v = refl
keys_at (suc n) (e ∷ es) v = ap (λ (ks : List (List ℕ)). e.0 ∷ ks) (keys_at n es v)

pub writes_at : (n : ℕ) (es : Entries) (word : List ℕ) (v : NodeState) → Distinct (keys_of es) → is_key_at (keys_of es) n word ≡ true → Writes es (set_value_at es n v) word v
writes_at n es word v u at = record { becomes = becomes_at n es word v u at; keys = keys_at n es v }

-- what stands at a number is what a look-up finds
pub found_at : (n : ℕ) (es : Entries) (word : List ℕ) → Distinct (keys_of es) → is_key_at (keys_of es) n word ≡ true → slice_get (values_of es) n ≡ find word es
found_at n [] word u at = absurd (true≢false (sym at))
found_at zero (e ∷ es) word u at = sym (ap (λ (b : Bool). cond b (Some e.1) (find word es)) at)
found_at (suc n) (e ∷ es) word u at =
    found_at n es word (rest_distinct e.0 (keys_of es) u) at
    ∙ sym (ap (λ (b : Bool). cond b (Some e.1) (find word es)) (other_text word e.0 (first_apart e.0 (keys_of es) n word u at)))

-- ---- one more

becomes_last : (es : Entries) (k : List ℕ) (v : NodeState) → find k es ≡ None → Becomes es k (Some v) (es ++ (k, v) ∷ [])
becomes_last [] k v none w = refl
becomes_last (e ∷ es) k v none w =
    let apart : k ≢ e.0 = λ (h : k ≡ e.0).
    (let here : Some e.1 ≡ None = sym (ap (λ (b : Bool). cond b (Some e.1) (find k es)) (subst (λ (x : List ℕ). bytes_eq k x ≡ true) h (is_same k))) ∙ none in absurd cc) in
    ap (λ (o : Option NodeState). cond (bytes_eq w e.0) (Some e.1) o) (becomes_last es k v (sym (ap (λ (b : Bool). cond b (Some e.1) (find k es)) (other_text k e.0 apart)) ∙ none) w)
    ∙ swap (bytes_eq w e.0) (bytes_eq w k) (Some e.1) (Some v) (find w es) (λ a b. apart (sym (same_text w k b) ∙ same_text w e.0 a))

stay_at : (es : Entries) (k : List ℕ) (v : NodeState) (n : ℕ) (w : List ℕ) → is_key_at (keys_of es) n w ≡ true → is_key_at (keys_of (es ++ (k, v) ∷ [])) n w ≡ true
stay_at [] k v n w at = absurd (true≢false (sym at))
stay_at (e ∷ es) k v zero w at = at
stay_at (e ∷ es) k v (suc n) w at = stay_at es k v n w at

last_at : (es : Entries) (k : List ℕ) (v : NodeState) → is_key_at (keys_of (es ++ (k, v) ∷ [])) (length es) k ≡ true
last_at [] k v = is_same k
last_at (e ∷ es) k v = last_at es k v

pub enters : (es new : Entries) (k : List ℕ) (word : List ℕ) (v : NodeState) → k ≡ word → find word es ≡ None → new ≡ es ++ (k, v) ∷ [] → Enters es new word v
enters es new k word v same none is =
    let absent : find k es ≡ None = ap (λ (x : List ℕ). find x es) same ∙ none in
    subst (λ (x : List ℕ). Enters es new x v) same
    (subst (λ (n : Entries). Enters es n k v) (sym is)
    (record { becomes = becomes_last es k v absent; stay = stay_at es k v; last = last_at es k v; keys = (k, refl, map-append (λ (e : List ℕ × NodeState). e.0) es ((k, v) ∷ [])) }))

-- ---- by a look-up

pub becomes_by : (es new : Entries) (word : List ℕ) (o : Option NodeState) → KeepsOthers (λ (x y : List ℕ). bytes_eq x y) (λ (k : List ℕ). bytes_eq word k) es new → find word new ≡ o → Becomes es word o new
unfolding KeepsOthers
becomes_by es new word o keeps now w =
    ⊎_elim
    (λ (h : (bytes_eq w word ≡ true) × (w ≡ word)). ap (λ (x : List ℕ). find x new) h.1 ∙ now ∙ sym (ap (λ (b : Bool). cond b o (find w es)) h.0))
    (λ (h : (bytes_eq w word ≡ false) × (w ≢ word)).
    keeps (λ (k : List ℕ). bytes_eq w k)
    (λ x y at. ap (λ (v : List ℕ). bytes_eq v y) (same_text w x at))
    (λ k at. other_text w k (λ (e : w ≡ k). h.1 (e ∙ sym (same_text word k at))))
    ∙ sym (ap (λ (b : Bool). cond b o (find w es)) h.0))
    (which_word w word)

-- ---- a look-up's key

pub key_passes : (es : Entries) (word : List ℕ) (n : ℕ) (k : List ℕ) (v : NodeState) → slice_get es n ≡ Some (k, v) → bytes_eq word k ≡ true → is_key_at (keys_of es) n word ≡ true
key_passes [] word n k v at passes = absurd cc
key_passes (e ∷ es) word zero k v at passes = subst (λ (x : List ℕ × NodeState). bytes_eq word x.0 ≡ true) (sym (let h : Some e ≡ Some (k, v) = at in let g : e ≡ (k, v) = cc in g)) passes
key_passes (e ∷ es) word (suc n) k v at passes = key_passes es word n k v at passes

pub lookup_key_passes : (es : Entries) (word : List ℕ) (k : List ℕ) → Some k ≡ lookup_key (λ (x : List ℕ). bytes_eq word x) es → bytes_eq word k ≡ true
lookup_key_passes [] word k is = absurd cc
lookup_key_passes (e ∷ es) word k is =
    ⊎_elim
    (λ (h : (bytes_eq word e.0 ≡ true) × (word ≡ e.0)).
    let same : Some k ≡ Some e.0 = is ∙ ap (λ (b : Bool). cond b (Some e.0) (lookup_key (λ (x : List ℕ). bytes_eq word x) es)) h.0 in
    let here : k ≡ e.0 = cc in
    ap (λ (x : List ℕ). bytes_eq word x) here ∙ h.0)
    (λ (h : (bytes_eq word e.0 ≡ false) × (word ≢ e.0)).
    lookup_key_passes es word k (is ∙ ap (λ (b : Bool). cond b (Some e.0) (lookup_key (λ (x : List ℕ). bytes_eq word x) es)) h.0))
    (which_word word e.0)

-- ---- lists

pub listed_at : (n : ℕ) (es : Entries) (word : List ℕ) (q : NodeState) → Distinct (keys_of es) → is_key_at (keys_of es) n word ≡ true → Some q ≡ slice_get (values_of es) n → list_in es word ≡ q
listed_at n es word q u at is = ap (λ (o : Option NodeState). unwrap_or o no_list) (sym (found_at n es word u at) ∙ sym is)

pub writes_like : (n : ℕ) (es : Entries) (word : List ℕ) (v want : NodeState) → Distinct (keys_of es) → is_key_at (keys_of es) n word ≡ true → v ≡ want → Writes es (set_value_at es n v) word want
writes_like n es word v want u at same = subst (λ (x : NodeState). Writes es (set_value_at es n v) word x) same (writes_at n es word v u at)

pub list_written : (es new : Entries) (word : List ℕ) (v : NodeState) → Becomes es word (Some v) new → list_in new word ≡ v
list_written es new word v b = ap (λ (o : Option NodeState). unwrap_or o no_list) (b word ∙ ap (λ (t : Bool). cond t (Some v) (find word es)) (is_same word))

pub list_other : (es new : Entries) (word : List ℕ) (o : Option NodeState) → Becomes es word o new → (w : List ℕ) → w ≢ word → list_in new w ≡ list_in es w
list_other es new word o b w apart = ap (λ (x : Option NodeState). unwrap_or x no_list) (b w ∙ ap (λ (t : Bool). cond t o (find w es)) (other_text w word apart))

pub not_true : (b : Bool) → (b ≡ true → ⊥) → b ≡ false
not_true b never = ⊎_elim (λ (is : b ≡ true). absurd (never is)) (λ (other : b ≡ false). other) (cases_Bool b)

-- the room of the word with a number is given up
gives_up : (n : ℕ) (es : Entries) (q : NodeState) → Distinct (keys_of es) → Some q ≡ slice_get (values_of es) n → (w : List ℕ)
    → list_in (set_value_at es n (with_nodes q.nodes)) w ≡ cond (is_key_at (keys_of es) n w) (with_nodes (nodes_in es w)) (list_in es w)
gives_up n [] q u is w = absurd cc
gives_up zero (e ∷ es) q u is w =
    let here : q ≡ e.1 = cc in
    ⊎_elim
    (λ (h : (bytes_eq w e.0 ≡ true) × (w ≡ e.0)).
    ap (λ (b : Bool). unwrap_or (cond b (Some (with_nodes q.nodes)) (find w es)) no_list) h.0
    ∙ ap (λ (x : NodeState). with_nodes x.nodes) here
    ∙ sym (ap (λ (b : Bool). cond b (with_nodes (unwrap_or (cond b (Some e.1) (find w es)) no_list).nodes) (unwrap_or (cond b (Some e.1) (find w es)) no_list)) h.0))
    (λ (h : (bytes_eq w e.0 ≡ false) × (w ≢ e.0)).
    ap (λ (b : Bool). unwrap_or (cond b (Some (with_nodes q.nodes)) (find w es)) no_list) h.0
    ∙ sym (ap (λ (b : Bool). cond b (with_nodes (unwrap_or (cond b (Some e.1) (find w es)) no_list).nodes) (unwrap_or (cond b (Some e.1) (find w es)) no_list)) h.0))
    (which_word w e.0)
gives_up (suc n) (e ∷ es) q u is w =
    ⊎_elim
    (λ (h : (bytes_eq w e.0 ≡ true) × (w ≡ e.0)).
    let never : is_key_at (keys_of es) n w ≡ false = not_true (is_key_at (keys_of es) n w) (λ (at : is_key_at (keys_of es) n w ≡ true). first_apart e.0 (keys_of es) n w u at h.1) in
    ap (λ (b : Bool). unwrap_or (cond b (Some e.1) (find w (set_value_at es n (with_nodes q.nodes)))) no_list) h.0
    ∙ sym (ap (λ (b : Bool). unwrap_or (cond b (Some e.1) (find w es)) no_list) h.0)
    ∙ sym (ap (λ (b : Bool). cond b (with_nodes (nodes_in (e ∷ es) w)) (list_in (e ∷ es) w)) never))
    (λ (h : (bytes_eq w e.0 ≡ false) × (w ≢ e.0)).
    ap (λ (b : Bool). unwrap_or (cond b (Some e.1) (find w (set_value_at es n (with_nodes q.nodes)))) no_list) h.0
    ∙ gives_up n es q (rest_distinct e.0 (keys_of es) u) is w
    ∙ sym (ap (λ (b : Bool). cond (is_key_at (keys_of es) n w) (with_nodes (unwrap_or (cond b (Some e.1) (find w es)) no_list).nodes) (unwrap_or (cond b (Some e.1) (find w es)) no_list)) h.0))
    (which_word w e.0)

are_at : (n : ℕ) (es : Entries) (v : NodeState) (w : List ℕ) → is_key (set_value_at es n v) w ≡ is_key es w
are_at n [] v w = refl
are_at zero (e ∷ es) v w = case_of (bytes_eq w e.0)
  where
    case_of : (b : Bool) → is_some (cond b (Some v) (find w es)) ≡ is_some (cond b (Some e.1) (find w es))
    case_of true = refl
    case_of false = refl
are_at (suc n) (e ∷ es) v w = case_of (bytes_eq w e.0) (are_at n es v w)
  where
    case_of : (b : Bool) → is_key (set_value_at es n v) w ≡ is_key es w → is_some (cond b (Some e.1) (find w (set_value_at es n v))) ≡ is_some (cond b (Some e.1) (find w es))
    case_of true same = refl
    case_of false same = same

-- a number that is no word's
none_at : (n : ℕ) (es : Entries) → slice_get (values_of es) n ≡ None → (w : List ℕ) → is_key_at (keys_of es) n w ≡ false
none_at n [] none w = refl
none_at zero (e ∷ es) none w = absurd cc
none_at (suc n) (e ∷ es) none w = none_at n es none w

pub give_up_keys : (n : ℕ) (es : Entries) (v : NodeState) → keys_of (set_value_at es n v) ≡ keys_of es
give_up_keys n es v = keys_at n es v

pub give_up_are : (n : ℕ) (es : Entries) (v : NodeState) (w : List ℕ) → is_key (set_value_at es n v) w ≡ is_key es w
give_up_are n es v w = are_at n es v w

pub give_up_lists : (n : ℕ) (es : Entries) (q v : NodeState) → Distinct (keys_of es) → Some q ≡ slice_get (values_of es) n → v ≡ with_nodes q.nodes → (w : List ℕ)
    → list_in (set_value_at es n v) w ≡ cond (is_key_at (keys_of es) n w) (with_nodes (nodes_in es w)) (list_in es w)
give_up_lists n es q v u is same w = ap (λ (x : NodeState). list_in (set_value_at es n x) w) same ∙ gives_up n es q u is w

pub give_up_none : (n : ℕ) (es : Entries) → None ≡ slice_get (values_of es) n → (w : List ℕ) → list_in es w ≡ cond (is_key_at (keys_of es) n w) (with_nodes (nodes_in es w)) (list_in es w)
give_up_none n es is w = sym (ap (λ (b : Bool). cond b (with_nodes (nodes_in es w)) (list_in es w)) (none_at n es (sym is) w))

pub key_at : (es : Entries) (n : ℕ) (k : List ℕ) (v : NodeState) (w : List ℕ) → Some (k, v) ≡ slice_get es n → is_key_at (keys_of es) n w ≡ bytes_eq w k
key_at [] n k v w is = absurd cc
key_at (e ∷ es) zero k v w is = let here : (k, v) ≡ e = cc in ap (λ (x : List ℕ × NodeState). bytes_eq w x.0) (sym here)
key_at (e ∷ es) (suc n) k v w is = key_at es n k v w is

pub no_key_at : (es : Entries) (n : ℕ) (w : List ℕ) → None ≡ slice_get es n → is_key_at (keys_of es) n w ≡ false
no_key_at [] n w is = refl
no_key_at (e ∷ es) zero w is = absurd cc
no_key_at (e ∷ es) (suc n) w is = no_key_at es n w is

-- a number of a word is one of the numbers
pub within : (es : Entries) (n : ℕ) (w : List ℕ) → is_key_at (keys_of es) n w ≡ true → None ≡ slice_get (values_of es) n → ⊥
within es n w at none = true≢false (sym at ∙ none_at n es (sym none) w)
