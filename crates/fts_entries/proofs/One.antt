-- Words in byte order, each with nodes: those that tell the same are the same.
use Rattle.std.proofs.Common.{◌≡◌, ◌≢◌, ℕ, Bool, true, false, cond, List, [], ◌∷◌, ◌++◌, append-nil, Option, Some, None, refl, sym, ap, ap₂, subst, ◌∙◌, ◌⊎◌, inl, inr, ⊎_elim}
use Rattle.std.specs.List.{All, AllByRecursion}
use Rattle.std.specs.List.Sorted.{IsStrictlySortedBy}
use Rattle.std.specs.Option.{unwrap_or}
use Rattle.std.specs.Map.{keys_of, lookup}
use Rattle.std.specs.BTreeMap.{is_at}
use Rattle.std.specs.declared.cmp.Ordering.{Ordering}
use Rattle.std.specs.declared.cmp.Ordering.TheVariants.{Less, Equal, Greater}
use Rattle.std.specs.Ordering.{is_eq, ordering_reverse}
use Rattle.std.specs.Cmp.Lexicographic.{nat_list_cmp_total, texts_ties, nat_list_eq_equiv}
use Rattle.std.proofs.lemmas.Bool.{cases_Bool, false≢true}
use Rattle.std.proofs.lemmas.List.Elements.{All-head, All-tail}
use Rattle.std.proofs.lemmas.Map.Keys.{sorted_head, sorted_tail}
use Rattle.std.proofs.lemmas.Map.Lookups.{exact_bytes}
use Rattle.std.proofs.lemmas.Map.Text.{is_eq-slice_cmp}
use Rattle.fts_words.specs.Order.{byte_order}
use Rattle.fts_ilist.specs.Node.{Docs, nodes_for}
use Rattle.fts_aux.specs.Words.{nodes_at}

abbrev pub Word : Type 0
Word = List ℕ × List Docs

abbrev pub IsFilled : Word → Type 0
IsFilled e = e.1 ≢ []

-- equal in byte order are equal words
is_Equal : (o : Ordering) → is_eq o ≡ true → o ≡ Equal
is_Equal Less e = absurd (false≢true e)
is_Equal Equal e = refl
is_Equal Greater e = absurd (false≢true e)

same_word : (w q : List ℕ) → is_eq (byte_order w q) ≡ true → w ≡ q
same_word w q e = exact_bytes w q (is_Equal (byte_order w q) e)

equal_itself : (w : List ℕ) → is_eq (byte_order w w) ≡ true
equal_itself w = sym (texts_ties w w) ∙ nat_list_eq_equiv.refl w

-- all words are behind this one
abbrev pub AllBehind : List ℕ → List Word → Type 0
AllBehind q es = AllByRecursion (λ w. byte_order q w ≡ Less) (keys_of es)

-- words in byte order, each with nodes
pub record AreWords (es : List Word) : Type 0 where
  pub ascend : IsStrictlySortedBy byte_order (keys_of es)
  pub filled : All IsFilled es

rest_are : (e : Word) (es : List Word) → AreWords (e ∷ es) → AreWords es
rest_are e es are = record { ascend = sorted_tail byte_order e.0 (keys_of es) are.ascend; filled = All-tail IsFilled e es are.filled }

are_behind : (e : Word) (es : List Word) → AreWords (e ∷ es) → AllBehind e.0 es
are_behind e es are = sorted_head byte_order e.0 (keys_of es) are.ascend

-- the first word's nodes, and those of another word
first : (e : Word) (es : List Word) → nodes_at e.0 (e ∷ es) ≡ e.1
first e es = ap (λ (b : Bool). unwrap_or (cond b (Some e.1) (lookup (is_at (byte_order e.0)) es)) []) (equal_itself e.0)

other : (q : List ℕ) (e : Word) (es : List Word) → is_eq (byte_order q e.0) ≡ false → nodes_at q (e ∷ es) ≡ nodes_at q es
other q e es apart = ap (λ (b : Bool). unwrap_or (cond b (Some e.1) (lookup (is_at (byte_order q)) es)) []) apart

-- a word before all of them is none of them
not_found : (q : List ℕ) (es : List Word) → AllBehind q es → lookup (is_at (byte_order q)) es ≡ None
not_found q [] behind = refl
not_found q (e ∷ es) behind =
    ap (λ (o : Ordering). cond (is_eq o) (Some e.1) (lookup (is_at (byte_order q)) es)) behind.0 ∙ not_found q es behind.1

absent : (q : List ℕ) (es : List Word) → AllBehind q es → nodes_at q es ≡ []
absent q es behind = ap (λ (o : Option (List Docs)). unwrap_or o []) (not_found q es behind)

pub behind_more : (q w : List ℕ) (es : List Word) → byte_order q w ≡ Less → AllBehind w es → AllBehind q es
behind_more q w [] less behind = tt
behind_more q w (e ∷ es) less behind = (nat_list_cmp_total.trans q w e.0 less behind.0, behind_more q w es less behind.1)

-- the first word is no later one of a list that tells the same
never_less : (e f : Word) (es fs : List Word) → AreWords (e ∷ es) → AreWords (f ∷ fs) → ((q : List ℕ) → nodes_at q (e ∷ es) ≡ nodes_at q (f ∷ fs)) → byte_order e.0 f.0 ≡ Less → ⊥
never_less e f es fs are are' same less =
    All-head IsFilled e es are.filled (sym (first e es) ∙ same e.0 ∙ absent e.0 (f ∷ fs) (less, behind_more e.0 f.0 fs less (are_behind f fs are')))

order_cases : (o : Ordering) → (o ≡ Less) ⊎ ((o ≡ Equal) ⊎ (o ≡ Greater))
order_cases Less = inl refl
order_cases Equal = inr (inl refl)
order_cases Greater = inr (inr refl)

-- behind the same first word the rests tell the same
rests_tell : (e f : Word) (es fs : List Word) → AreWords (e ∷ es) → AreWords (f ∷ fs) → ((q : List ℕ) → nodes_at q (e ∷ es) ≡ nodes_at q (f ∷ fs)) → e.0 ≡ f.0
    → (q : List ℕ) → nodes_at q es ≡ nodes_at q fs
rests_tell e f es fs are are' same here q =
    ⊎_elim
    (λ (is : is_eq (byte_order q e.0) ≡ true).
    let at : e.0 ≡ q = sym (same_word q e.0 is) in
    absent q es (subst (λ (w : List ℕ). AllBehind w es) at (are_behind e es are))
    ∙ sym (absent q fs (subst (λ (w : List ℕ). AllBehind w fs) (sym here ∙ at) (are_behind f fs are'))))
    (λ (apart : is_eq (byte_order q e.0) ≡ false).
    sym (other q e es apart) ∙ same q ∙ other q f fs (subst (λ (w : List ℕ). is_eq (byte_order q w) ≡ false) here apart))
    (cases_Bool (is_eq (byte_order q e.0)))

-- words that tell the same are the same
pub words_one : (es fs : List Word) → AreWords es → AreWords fs → ((q : List ℕ) → nodes_at q es ≡ nodes_at q fs) → es ≡ fs
words_one [] [] are are' same = refl
words_one [] (f ∷ fs) are are' same = absurd (All-head IsFilled f fs are'.filled (sym (first f fs) ∙ sym (same f.0)))
words_one (e ∷ es) [] are are' same = absurd (All-head IsFilled e es are.filled (sym (first e es) ∙ same e.0))
words_one (e ∷ es) (f ∷ fs) are are' same =
    ⊎_elim
    (λ (less : byte_order e.0 f.0 ≡ Less). absurd (never_less e f es fs are are' same less))
    (λ (rest : (byte_order e.0 f.0 ≡ Equal) ⊎ (byte_order e.0 f.0 ≡ Greater)).
    ⊎_elim
    (λ (equal : byte_order e.0 f.0 ≡ Equal).
    let here : e.0 ≡ f.0 = same_word e.0 f.0 (ap is_eq equal) in
    let nodes : e.1 ≡ f.1 = sym (first e es) ∙ same e.0 ∙ ap (λ (w : List ℕ). nodes_at w (f ∷ fs)) here ∙ first f fs in
    let heads : e ≡ f = ap (λ (w : List ℕ). (w, e.1)) here ∙ ap (λ (ns : List Docs). (f.0, ns)) nodes in
    let rests : es ≡ fs = words_one es fs (rest_are e es are) (rest_are f fs are') (rests_tell e f es fs are are' same here) in
    ap (λ (w : Word). w ∷ es) heads ∙ ap (λ (ws : List Word). f ∷ ws) rests)
    (λ (greater : byte_order e.0 f.0 ≡ Greater).
    absurd (never_less f e fs es are' are (λ q. sym (same q)) (nat_list_cmp_total.antisymm f.0 e.0 ∙ ap ordering_reverse greater)))
    rest)
    (order_cases (byte_order e.0 f.0))

-- ---- the nodes that a batch has for a word

-- a word before all of them has none
pub nothing_for : (q : List ℕ) (es : List Word) → AllBehind q es → nodes_for q es ≡ []
nothing_for q [] behind = refl
nothing_for q (e ∷ es) behind =
    ap₂ (λ (b : Bool) (ns : List Docs). cond b e.1 [] ++ ns) (sym (is_eq-slice_cmp q e.0) ∙ ap is_eq behind.0) (nothing_for q es behind.1)

-- of words in byte order these are what is found of it
found_for : (q : List ℕ) (es : List Word) → IsStrictlySortedBy byte_order (keys_of es) → nodes_for q es ≡ nodes_at q es
found_for q [] up = refl
found_for q (e ∷ es) up =
    ⊎_elim
    (λ (is : is_eq (byte_order q e.0) ≡ true).
    let at : e.0 ≡ q = sym (same_word q e.0 is) in
    ap₂ (λ (b : Bool) (ns : List Docs). cond b e.1 [] ++ ns) (sym (is_eq-slice_cmp q e.0) ∙ is)
    (nothing_for q es (subst (λ (w : List ℕ). AllBehind w es) at (sorted_head byte_order e.0 (keys_of es) up)))
    ∙ append-nil e.1
    ∙ sym (ap (λ (b : Bool). unwrap_or (cond b (Some e.1) (lookup (is_at (byte_order q)) es)) []) is))
    (λ (apart : is_eq (byte_order q e.0) ≡ false).
    ap (λ (b : Bool). cond b e.1 [] ++ nodes_for q es) (sym (is_eq-slice_cmp q e.0) ∙ apart)
    ∙ found_for q es (sorted_tail byte_order e.0 (keys_of es) up)
    ∙ sym (other q e es apart))
    (cases_Bool (is_eq (byte_order q e.0)))

-- batches with the same nodes for each word are the same
pub batches_one : (es fs : List Word) → AreWords es → AreWords fs → ((q : List ℕ) → nodes_for q es ≡ nodes_for q fs) → es ≡ fs
batches_one es fs are are' same =
    words_one es fs are are' (λ q. sym (found_for q es are.ascend) ∙ same q ∙ found_for q fs are'.ascend)
