-- Entries by ascending words.
use Rattle.std.proofs.Common.{◌≡◌, ◌≢◌, ℕ, Bool, true, false, cond, ◌&&◌, List, [], ◌∷◌, Option, Some, None, refl, sym, ap, subst, ◌∙◌, ⊎_elim}
use Rattle.std.specs.List.{filter, AllByRecursion, slice_get}
use Rattle.std.specs.List.Sorted.{IsStrictlySortedBy}
use Rattle.std.specs.Option.{unwrap_or}
use Rattle.std.specs.Map.{keys_of, lookup}
use Rattle.std.specs.BTreeMap.{is_at}
use Rattle.std.specs.declared.cmp.Ordering.{Ordering}
use Rattle.std.specs.declared.cmp.Ordering.TheVariants.{Less, Equal, Greater}
use Rattle.std.specs.Ordering.{is_eq, is_lt, is_gt}
use Rattle.std.specs.Cmp.Lexicographic.{texts_ties, nat_list_eq_equiv}
use Rattle.std.proofs.lemmas.Bool.{false≢true, true≢false, cases_Bool}
use Rattle.std.proofs.lemmas.Option.{none-some}
use Rattle.std.proofs.lemmas.Map.Keys.{sorted_head, sorted_tail}
use Rattle.std.proofs.lemmas.Map.Entries.{lookup-filter-keys}
use Rattle.std.proofs.lemmas.Map.Lookups.{exact_bytes}
use Rattle.fts_words.specs.Order.{byte_order}
use Rattle.fts_ilist.specs.Node.{Docs}
use Rattle.fts_ilist.proofs.Fronts as words
use Rattle.fts_aux.specs.Words.{filled, filled_as, nodes_at, IsNext, IsLast}

abbrev nodes_or : Option (List Docs) → List Docs
nodes_or o = unwrap_or o []

module _ {X : Type 0} where
  -- all words are behind w
  abbrev pub AllBehind : List ℕ → List (List ℕ × X) → Type 0
  AllBehind w es = words.AllBehind (λ (e : List ℕ × X). e.0) w es

  -- the words ascend
  abbrev pub Ascends : List (List ℕ × X) → Type 0
  Ascends es = words.Ascends (λ (e : List ℕ × X). e.0) es

  behind_from : (w : List ℕ) (es : List (List ℕ × X)) → AllByRecursion (λ y. byte_order w y ≡ Less) (keys_of es) → AllBehind w es
  behind_from w [] h = tt
  behind_from w (e ∷ es) h = (h.0, behind_from w es h.1)

  pub ascends_from : (es : List (List ℕ × X)) → IsStrictlySortedBy byte_order (keys_of es) → Ascends es
  ascends_from [] h = tt
  ascends_from (e ∷ es) h =
      (behind_from e.0 es (sorted_head byte_order e.0 (keys_of es) h), ascends_from es (sorted_tail byte_order e.0 (keys_of es) h))

  behind_to : (w : List ℕ) (es : List (List ℕ × X)) → AllBehind w es → AllByRecursion (λ y. byte_order w y ≡ Less) (keys_of es)
  behind_to w [] h = tt
  behind_to w (e ∷ es) h = (h.0, behind_to w es h.1)

  pub sorted_to : (es : List (List ℕ × X)) → Ascends es → IsStrictlySortedBy byte_order (keys_of es)
  unfolding IsStrictlySortedBy
  sorted_to [] h = tt
  sorted_to (e ∷ es) h = (behind_to e.0 es h.0, sorted_to es h.1)

  behind-filter : (p : List ℕ → Bool) (w : List ℕ) (es : List (List ℕ × X)) → AllBehind w es → AllBehind w (filter (λ e. p e.0) es)
  behind-filter p w [] h = tt
  behind-filter p w (e ∷ es) h =
      elim (p e.0) as (λ b. AllBehind w (cond b (e ∷ filter (λ e. p e.0) es) (filter (λ e. p e.0) es))) [
        | true ↦ (h.0, behind-filter p w es h.1)
        | false ↦ behind-filter p w es h.1
      ]

  pub ascends-filter : (p : List ℕ → Bool) (es : List (List ℕ × X)) → Ascends es → Ascends (filter (λ e. p e.0) es)
  ascends-filter p [] h = tt
  ascends-filter p (e ∷ es) h =
      elim (p e.0) as (λ b. Ascends (cond b (e ∷ filter (λ e. p e.0) es) (filter (λ e. p e.0) es))) [
        | true ↦ (behind-filter p e.0 es h.0, ascends-filter p es h.1)
        | false ↦ ascends-filter p es h.1
      ]

  -- a word before all the others is none of them
  pub not_behind : (w q : List ℕ) (es : List (List ℕ × X)) → AllBehind w es → w ≡ q → lookup (is_at (byte_order q)) es ≡ None
  not_behind w q [] h same = refl
  not_behind w q (e ∷ es) h same =
      ap (λ o. cond (is_eq o) (Some e.1) (lookup (is_at (byte_order q)) es)) (subst (λ z. byte_order z e.0 ≡ Less) same h.0)
      ∙ not_behind w q es h.1 same

pub is_Equal : (o : Ordering) → is_eq o ≡ true → o ≡ Equal
is_Equal Less e = absurd (false≢true e)
is_Equal Equal e = refl
is_Equal Greater e = absurd (false≢true e)

-- equal in the order are equal words
pub same_word : (w q : List ℕ) → is_eq (byte_order w q) ≡ true → w ≡ q
same_word w q e = exact_bytes w q (is_Equal (byte_order w q) e)

-- ---- words with nodes

behind-filled : (w : List ℕ) (es : List (List ℕ × List Docs)) → AllBehind w es → AllBehind w (filled es)
behind-filled w [] h = tt
behind-filled w (e ∷ es) h =
    elim (e.1) as (λ ns. AllBehind w (filled_as e.0 ns (filled es))) [
      | [] ↦ behind-filled w es h.1
      | n ∷ ns ↦ (h.0, behind-filled w es h.1)
    ]

pub ascends-filled : (es : List (List ℕ × List Docs)) → Ascends es → Ascends (filled es)
ascends-filled [] h = tt
ascends-filled (e ∷ es) h =
    elim (e.1) as (λ ns. Ascends (filled_as e.0 ns (filled es))) [
      | [] ↦ ascends-filled es h.1
      | n ∷ ns ↦ (behind-filled e.0 es h.0, ascends-filled es h.1)
    ]

pub all_filled : (es : List (List ℕ × List Docs)) → AllByRecursion (λ e. e.1 ≢ []) (filled es)
all_filled [] = tt
all_filled (e ∷ es) =
    elim (e.1) as (λ ns. AllByRecursion (λ e. e.1 ≢ []) (filled_as e.0 ns (filled es))) [
      | [] ↦ all_filled es
      | n ∷ ns ↦ ((λ none. absurd (cc)), all_filled es)
    ]

some_picked : (b : Bool) (v : List Docs) (rest : Option (List Docs)) → b ≡ true → unwrap_or (cond b (Some v) rest) [] ≡ v
some_picked b v rest e = ap (λ c. unwrap_or (cond c (Some v) rest) []) e

some_missed : (b : Bool) (v : List Docs) (rest : Option (List Docs)) → b ≡ false → unwrap_or (cond b (Some v) rest) [] ≡ unwrap_or rest []
some_missed b v rest e = ap (λ c. unwrap_or (cond c (Some v) rest) []) e

items_picked : (b : Bool) (v : List Docs) (rest : Option (List Docs)) → b ≡ true → nodes_or (cond b (Some v) rest) ≡ v
items_picked b v rest e = ap (λ c. nodes_or (cond c (Some v) rest)) e

items_missed : (b : Bool) (v : List Docs) (rest : Option (List Docs)) → b ≡ false → nodes_or (cond b (Some v) rest) ≡ nodes_or rest
items_missed b v rest e = ap (λ c. nodes_or (cond c (Some v) rest)) e

first_filled_as : (q w : List ℕ) (ns : List Docs) (rest : List (List ℕ × List Docs)) → is_eq (byte_order q w) ≡ true → nodes_at q rest ≡ [] → nodes_at q (filled_as w ns rest) ≡ ns
first_filled_as q w [] rest found none = none
first_filled_as q w (m ∷ ms) rest found none = some_picked (is_eq (byte_order q w)) (m ∷ ms) (lookup (is_at (byte_order q)) rest) found

later_filled_as : (q w : List ℕ) (ns : List Docs) (rest : List (List ℕ × List Docs)) → is_eq (byte_order q w) ≡ false → nodes_at q (filled_as w ns rest) ≡ nodes_at q rest
later_filled_as q w [] rest missed = refl
later_filled_as q w (m ∷ ms) rest missed = some_missed (is_eq (byte_order q w)) (m ∷ ms) (lookup (is_at (byte_order q)) rest) missed

-- a word's nodes among the words with nodes are those that it has among the entries
pub nodes_at-filled : (q : List ℕ) (es : List (List ℕ × List Docs)) → Ascends es → nodes_at q (filled es) ≡ nodes_or (lookup (is_at (byte_order q)) es)
nodes_at-filled q [] h = refl
nodes_at-filled q (e ∷ es) h =
    let rest : Option (List Docs) = lookup (is_at (byte_order q)) es in
    ⊎_elim
    (λ found. let none : nodes_at q (filled es) ≡ [] = nodes_at-filled q es h.1 ∙ ap nodes_or (not_behind e.0 q es h.0 (sym (same_word q e.0 found))) in
    first_filled_as q e.0 e.1 (filled es) found none ∙ sym (items_picked (is_eq (byte_order q e.0)) e.1 rest found))
    (λ missed. later_filled_as q e.0 e.1 (filled es) missed ∙ nodes_at-filled q es h.1 ∙ sym (items_missed (is_eq (byte_order q e.0)) e.1 rest missed))
    (cases_Bool (is_eq (byte_order q e.0)))

items_cond : (b : Bool) (o : Option (List Docs)) → nodes_or (cond b o None) ≡ cond b (nodes_or o) []
items_cond true o = refl
items_cond false o = refl

-- what a part of the entries has for a word
pub items-filter : (p : List ℕ → Bool) (q : List ℕ) (es : List (List ℕ × List Docs)) → nodes_or (lookup (is_at (byte_order q)) (filter (λ e. p e.0) es)) ≡ cond (p q) (nodes_or (lookup (is_at (byte_order q)) es)) []
items-filter p q es =
    ap nodes_or (lookup-filter-keys (is_at (byte_order q)) p (p q) (λ k t. ap p (sym (same_word q k t))) es) ∙ items_cond (p q) (lookup (is_at (byte_order q)) es)

-- ---- the next word

-- a word that has nodes among those behind w is behind w
behind_found : (w q : List ℕ) (l : List (List ℕ × List Docs)) → AllBehind w l → nodes_at q l ≢ [] → byte_order w q ≡ Less
behind_found w q [] h some = absurd (some refl)
behind_found w q (e ∷ es) h some =
    ⊎_elim
    (λ found. subst (λ z. byte_order w z ≡ Less) (sym (same_word q e.0 found)) h.0)
    (λ missed. behind_found w q es h.1 (λ none. some (some_missed (is_eq (byte_order q e.0)) e.1 (lookup (is_at (byte_order q)) es) missed ∙ none)))
    (cases_Bool (is_eq (byte_order q e.0)))

itself : (w : List ℕ) → byte_order w w ≡ Equal
itself w = is_Equal (byte_order w w) (sym (texts_ties w w) ∙ nat_list_eq_equiv.refl w)

head_least : (e : List ℕ × List Docs) (es : List (List ℕ × List Docs)) → Ascends (e ∷ es) → (q : List ℕ) → nodes_at q (e ∷ es) ≢ [] → is_gt (byte_order e.0 q) ≡ false
head_least e es h q some =
    ⊎_elim
    (λ found. ap (λ z. is_gt (byte_order e.0 z)) (same_word q e.0 found) ∙ ap is_gt (itself e.0))
    (λ missed. ap is_gt (behind_found e.0 q es h.0 (λ none. some (some_missed (is_eq (byte_order q e.0)) e.1 (lookup (is_at (byte_order q)) es) missed ∙ none))))
    (cases_Bool (is_eq (byte_order q e.0)))

-- the words behind w
abbrev pub is_behind : List ℕ → List ℕ → Bool
is_behind w q = is_lt (byte_order w q) && true

is_Less : (o : Ordering) → (is_lt o && true) ≡ true → o ≡ Less
is_Less Less e = refl
is_Less Equal e = absurd (false≢true e)
is_Less Greater e = absurd (false≢true e)

cond_true : (b : Bool) (ns : List Docs) → cond b ns [] ≢ [] → b ≡ true
cond_true true ns some = refl
cond_true false ns some = absurd (some refl)

module _ (w : List ℕ) (es : List (List ℕ × List Docs)) (up : Ascends es) where
  abbrev nodes : List ℕ → List Docs
  nodes q = nodes_or (lookup (is_at (byte_order q)) es)

  abbrev rest : List (List ℕ × List Docs)
  rest = filled (filter (λ e. is_behind w e.0) es)

  rest_ascends : Ascends rest
  rest_ascends = ascends-filled (filter (λ e. is_behind w e.0) es) (ascends-filter (is_behind w) es up)

  nodes_of_rest : (q : List ℕ) → nodes_at q rest ≡ cond (is_behind w q) (nodes q) []
  nodes_of_rest q = nodes_at-filled q (filter (λ e. is_behind w e.0) es) (ascends-filter (is_behind w) es up) ∙ items-filter (is_behind w) q es

  of_rest : (q : List ℕ) → byte_order w q ≡ Less → nodes q ≡ nodes_at q rest
  of_rest q less = sym (nodes_of_rest q ∙ ap (λ o. cond (is_lt o && true) (nodes q) []) less)

  pub next_of : (l : List (List ℕ × List Docs)) → l ≡ rest → (x : List ℕ) (ns : List Docs) → Some (x, ns) ≡ slice_get l 0 → IsNext nodes w x
  next_of [] same x ns e = absurd (none-some (x, ns) (sym e))
  next_of (e ∷ l) same x ns is =
      let first : (x, ns) ≡ e = ap (λ o. unwrap_or o (x, ns)) is in
      let up : Ascends (e ∷ l) = subst Ascends (sym same) rest_ascends in
      let some : AllByRecursion (λ e. e.1 ≢ []) (e ∷ l) = subst (AllByRecursion (λ e. e.1 ≢ [])) (sym same) (all_filled (filter (λ e. is_behind w e.0) es)) in
      let here : nodes_at x (e ∷ l) ≡ e.1 = some_picked (is_eq (byte_order x e.0)) e.1 (lookup (is_at (byte_order x)) l) (ap (λ z. is_eq (byte_order x z.0)) (sym first) ∙ ap is_eq (itself x)) in
      let mine : cond (is_behind w x) (nodes x) [] ≡ e.1 = sym (nodes_of_rest x) ∙ ap (nodes_at x) (sym same) ∙ here in
      let behind : is_behind w x ≡ true = cond_true (is_behind w x) (nodes x) (λ none. some.0 (sym mine ∙ none)) in
      record {
        inside = λ none. some.0 (sym mine ∙ ap (λ b. cond b (nodes x) []) behind ∙ none);
        after = is_Less (byte_order w x) behind;
        least = λ q less have. ap (λ z. is_gt (byte_order z.0 q)) first ∙ head_least e l up q (λ none. have (of_rest q less ∙ ap (nodes_at q) (sym same) ∙ none));
      }

  pub last_of_all : (l : List (List ℕ × List Docs)) → l ≡ rest → None ≡ slice_get l 0 → IsLast nodes w
  last_of_all [] same e = λ q less. of_rest q less ∙ ap (nodes_at q) (sym same)
  last_of_all (e ∷ l) same is = absurd (none-some e is)

pub equal_itself : (w : List ℕ) → is_eq (byte_order w w) ≡ true
equal_itself w = ap is_eq (itself w)

pub apart_in_order : (w q : List ℕ) → q ≢ w → is_eq (byte_order w q) ≡ false
apart_in_order w q apart = ⊎_elim (λ (same : is_eq (byte_order w q) ≡ true). absurd (apart (sym (same_word w q same)))) (λ (other : is_eq (byte_order w q) ≡ false). other) (cases_Bool (is_eq (byte_order w q)))

-- a fact on what stands at each word holds at w and at the others
pub everywhere : (w q : List ℕ) (P : List ℕ → Type 0) → P w → (q ≢ w → P q) → P q
everywhere w q P here others =
    ⊎_elim
    (λ same. subst P (same_word w q same) here)
    (λ other. others (λ e. true≢false (sym (ap (λ z. is_eq (byte_order w z)) e ∙ equal_itself w) ∙ other)))
    (cases_Bool (is_eq (byte_order w q)))
