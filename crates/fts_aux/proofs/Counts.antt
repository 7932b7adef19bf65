-- How many words of a table packing would change, as calls change the words.
use Rattle.std.proofs.Common.{◌≡◌, ◌≢◌, ℕ, zero, suc, ◌+◌, ◌<◌, ◌≤◌, Bool, true, false, if◌then◌else◌, List, [], ◌∷◌, length, Option, Some, None, get_or, position, refl, sym, ap, ◌∙◌, ⊎_elim, true≢false, arith}
use Rattle.std.specs.List.{AllByRecursion, IsDistinct, sum_by, swap_remove}
use Rattle.std.specs.Map.{keys_of}
use Rattle.std.specs.Option.{option_map_or, unwrap_or}
use Rattle.std.specs.Str.{bytes_eq}
use Rattle.std.proofs.lemmas.List.{get_or-map, length-map}
use Rattle.std.proofs.lemmas.List.Quantifiers.{position-Some}
use Rattle.std.proofs.lemmas.List.Sums.{sum_by-append, sum_by-cons, sum_by-swap_remove}
use Rattle.indexmap.specs.IndexMap.{swap_remove_entry}
use Rattle.fts_ilist.specs.Node.{Docs}
use Rattle.fts_ilist.specs.NodeList.{NodeState}
use Rattle.fts_ilist.specs.Packing.{are_loose}
use Rattle.fts_aux.specs.Words.{HasLoose}
use Rattle.fts_aux.specs.Table.{Entries, find, no_list, list_in, nodes_in, is_key_at, loose_one, loose_count, Recounts, Becomes, Enters, Writes}
use Rattle.fts_ilist.proofs.Loose.{loose_told, told_loose}
use Rattle.fts_aux.proofs.Finds.{Distinct, same_text, is_same, which_word, first_apart, rest_distinct, list_other}

-- what is counted of a word of a table
abbrev pub one_of : Entries → List ℕ → ℕ
one_of es k = loose_one (nodes_in es k)

pub sums_same : (f g : List ℕ → ℕ) → ((k : List ℕ) → f k ≡ g k) → (ks : List (List ℕ)) → sum_by f ks ≡ sum_by g ks
sums_same f g same [] = refl
sums_same f g same (k ∷ ks) = omega (arith, same k, sums_same f g same ks, sum_by-cons f k ks, sum_by-cons g k ks)

pub over_keys : (f : List ℕ → ℕ) (es : Entries) → sum_by (λ (e : List ℕ × NodeState). f e.0) es ≡ sum_by f (keys_of es)
over_keys f [] = refl
over_keys f (e ∷ es) = omega (arith, over_keys f es, sum_by-cons (λ (e : List ℕ × NodeState). f e.0) e es, sum_by-cons f e.0 (keys_of es))

-- the words are the same, with the same nodes
pub count_same : (es new : Entries) → keys_of new ≡ keys_of es → ((w : List ℕ) → nodes_in new w ≡ nodes_in es w) → loose_count new ≡ loose_count es
count_same es new keys same = sums_same (one_of new) (one_of es) (λ k. ap loose_one (same k)) (keys_of new) ∙ ap (sum_by (one_of es)) keys

-- and the list of one word is another with the same nodes
pub count_kept : (es new : Entries) (word : List ℕ) → keys_of new ≡ keys_of es → ((w : List ℕ) → w ≢ word → list_in new w ≡ list_in es w) → nodes_in new word ≡ nodes_in es word → loose_count new ≡ loose_count es
count_kept es new word keys others same =
    count_same es new keys (λ w. ⊎_elim
    (λ (h : (bytes_eq w word ≡ true) × (w ≡ word)). ap (nodes_in new) h.1 ∙ same ∙ ap (nodes_in es) (sym h.1))
    (λ (h : (bytes_eq w word ≡ false) × (w ≢ word)). ap (λ (x : NodeState). x.nodes) (others w h.1))
    (which_word w word))

-- one more word, without nodes
pub count_entered : (es new : Entries) (word : List ℕ) (l : NodeState) → find word es ≡ None → l.nodes ≡ [] → Enters es new word l → (w : List ℕ) → nodes_in new w ≡ nodes_in es w
count_entered es new word l none empty en w =
    ⊎_elim
    (λ (h : (bytes_eq w word ≡ true) × (w ≡ word)).
    ap (λ (o : Option NodeState). (unwrap_or o no_list).nodes) (en.becomes w ∙ ap (λ (b : Bool). if b then Some l else find w es) h.0) ∙ empty
    ∙ sym (ap (nodes_in es) h.1 ∙ ap (λ (o : Option NodeState). (unwrap_or o no_list).nodes) none))
    (λ (h : (bytes_eq w word ≡ false) × (w ≢ word)). ap (λ (x : NodeState). x.nodes) (list_other es new word (Some l) en.becomes w h.1))
    (which_word w word)

pub count_more : (es new : Entries) (word : List ℕ) (l : NodeState) → find word es ≡ None → l.nodes ≡ [] → Enters es new word l → loose_count new ≡ loose_count es
count_more es new word l none empty en =
    let key = en.keys.0 in
    let same = count_entered es new word l none empty en in
    let here : one_of es key ≡ 0 = ap (λ (w : List ℕ). loose_one (nodes_in es w)) en.keys.1 ∙ ap (λ (o : Option NodeState). loose_one (unwrap_or o no_list).nodes) none in
    sums_same (one_of new) (one_of es) (λ k. ap loose_one (same k)) (keys_of new)
    ∙ ap (sum_by (one_of es)) en.keys.2
    ∙ sum_by-append (one_of es) (keys_of es) (key ∷ [])
    ∙ omega (arith, here)

-- ---- the nodes of one word change

cons_of : (f : List ℕ → ℕ) (k : List ℕ) (ks : List (List ℕ)) → sum_by (λ (k : List ℕ). f k) (k ∷ ks) ≡ f k + sum_by (λ (k : List ℕ). f k) ks
cons_of f k ks = sum_by-cons (λ (k : List ℕ). f k) k ks

module _ (f g : List ℕ → ℕ) (word : List ℕ) (others : (w : List ℕ) → w ≢ word → g w ≡ f w) where
  sum_rest : (k : List ℕ) (ks : List (List ℕ)) → word ≡ k → AllByRecursion (λ (y : List ℕ). bytes_eq k y ≡ false) ks → sum_by (λ (k : List ℕ). g k) ks ≡ sum_by (λ (k : List ℕ). f k) ks
  sum_rest k [] it apart = refl
  sum_rest k (y ∷ ys) it apart =
      let differs : y ≢ word = λ e. true≢false (sym (is_same k) ∙ ap (bytes_eq k) (sym it) ∙ ap (bytes_eq k) (sym e) ∙ apart.0) in
      omega (arith, others y differs, sum_rest k ys it apart.1, cons_of f y ys, cons_of g y ys)

  sum_one : (ks : List (List ℕ)) (n : ℕ) → Distinct ks → is_key_at ks n word ≡ true → sum_by (λ (k : List ℕ). g k) ks + f word ≡ sum_by (λ (k : List ℕ). f k) ks + g word
  unfolding IsDistinct
  sum_one [] n u at = absurd (true≢false (sym at))
  sum_one (k ∷ ks) zero u at =
      let it : word ≡ k = same_text word k at in
      omega (arith, sum_rest k ks it u.0, ap f it, ap g it, cons_of f k ks, cons_of g k ks)
  sum_one (k ∷ ks) (suc n) u at =
      let apart = first_apart k ks n word u at in
      omega (arith, sum_one ks n (rest_distinct k ks u) at, others k (λ e. apart (sym e)), cons_of f k ks, cons_of g k ks)

pub count_written : (es new : Entries) (word : List ℕ) (l : NodeState) (n : ℕ) → Distinct (keys_of es) → is_key_at (keys_of es) n word ≡ true → Writes es new word l → Recounts es new word
count_written es new word l n u at wr =
    let one = sum_one (λ w. loose_one (nodes_in es w)) (λ w. loose_one (nodes_in new w)) word
    (λ w apart. ap (λ (x : NodeState). loose_one x.nodes) (list_other es new word (Some l) wr.becomes w apart)) (keys_of es) n u at in
    omega (arith, one, ap (sum_by (one_of new)) wr.keys)

-- ---- a word without nodes is taken out

module _ (f : List ℕ → ℕ) (word : List ℕ) (none : (k : List ℕ) → k ≡ word → f k ≡ 0) where
  abbrev over : List ℕ × NodeState → ℕ
  over e = f e.0

  sum_out : (es : Entries) → sum_by over (swap_remove_entry (λ (k : List ℕ). bytes_eq word k) es) ≡ sum_by over es
  sum_out [] = refl
  sum_out (e ∷ es) = by (position (λ (k : List ℕ). bytes_eq word k) (keys_of (e ∷ es))) refl
    where
      by : (r : Option ℕ) → position (λ (k : List ℕ). bytes_eq word k) (keys_of (e ∷ es)) ≡ r
          → sum_by over (option_map_or (λ i. swap_remove (e ∷ es) i e) r (e ∷ es)) ≡ sum_by over (e ∷ es)
      by None at = refl
      by (Some i) at =
          let found = position-Some (λ (k : List ℕ). bytes_eq word k) (keys_of (e ∷ es)) i e.0 at in
          let within : i < length (e ∷ es) = omega (arith, found.0, length-map (e ∷ es) (λ (x : List ℕ × NodeState). x.0)) in
          let key : get_or (keys_of (e ∷ es)) i e.0 ≡ (get_or (e ∷ es) i e).0 = get_or-map (λ (x : List ℕ × NodeState). x.0) (e ∷ es) i e e.0 within in
          let gone : over (get_or (e ∷ es) i e) ≡ 0 = ap f (sym key) ∙ none (get_or (keys_of (e ∷ es)) i e.0) (sym (same_text word (get_or (keys_of (e ∷ es)) i e.0) found.1)) in
          omega (arith, sum_by-swap_remove over (e ∷ es) i e within, gone)

pub count_out : (es new : Entries) (word : List ℕ) → new ≡ swap_remove_entry (λ (k : List ℕ). bytes_eq word k) es → ((w : List ℕ) → nodes_in new w ≡ nodes_in es w) → nodes_in es word ≡ [] → loose_count new ≡ loose_count es
count_out es new word is same none =
    sums_same (one_of new) (one_of es) (λ k. ap loose_one (same k)) (keys_of new)
    ∙ sym (over_keys (one_of es) new)
    ∙ ap (sum_by (λ (e : List ℕ × NodeState). one_of es e.0)) is
    ∙ sum_out (one_of es) word (λ k it. ap (λ (w : List ℕ). loose_one (nodes_in es w)) it ∙ ap loose_one none) es
    ∙ over_keys (one_of es) es

-- a word without nodes that is taken out
pub taken_same : (es new : Entries) (word : List ℕ) → Becomes es word None new → nodes_in es word ≡ [] → (w : List ℕ) → nodes_in new w ≡ nodes_in es w
taken_same es new word becomes none w =
    ⊎_elim
    (λ (h : (bytes_eq w word ≡ true) × (w ≡ word)).
    ap (λ (o : Option NodeState). (unwrap_or o no_list).nodes) (becomes w ∙ ap (λ (b : Bool). if b then None else find w es) h.0) ∙ sym none ∙ ap (nodes_in es) (sym h.1))
    (λ (h : (bytes_eq w word ≡ false) × (w ≢ word)). ap (λ (x : NodeState). x.nodes) (list_other es new word None becomes w h.1))
    (which_word w word)

-- ---- there are no more of them than words

one_most : (ns : List Docs) → loose_one ns ≤ 1
one_most ns = at (are_loose ns)
  where
    at : (b : Bool) → (if b then 1 else 0) ≤ 1
    at true = omega arith
    at false = omega arith

sum_most : (f : List ℕ → ℕ) → ((k : List ℕ) → f k ≤ 1) → (ks : List (List ℕ)) → sum_by f ks ≤ length ks
sum_most f few [] = omega arith
sum_most f few (k ∷ ks) = omega (arith, few k, sum_most f few ks, sum_by-cons f k ks)

pub count_most : (es : Entries) → loose_count es ≤ length es
count_most es = omega (arith, sum_most (one_of es) (λ k. one_most (nodes_in es k)) (keys_of es), length-map es (λ (x : List ℕ × NodeState). x.0))

-- ---- whether there is one

one_positive : (ns : List Docs) → 0 < loose_one ns → are_loose ns ≡ true
one_positive ns h = at (are_loose ns) h
  where
    at : (b : Bool) → 0 < (if b then 1 else 0) → b ≡ true
    at true h = refl
    at false h = absurd (omega (arith, h))

one_is : (ns : List Docs) → are_loose ns ≡ true → loose_one ns ≡ 1
one_is ns e = ap (λ (b : Bool). let n : ℕ = if b then 1 else 0 in n) e

sum_some : (f : List ℕ → ℕ) (ks : List (List ℕ)) → 0 < sum_by f ks → (k : List ℕ) × (0 < f k)
sum_some f [] h = absurd (omega (arith, h))
sum_some f (k ∷ ks) h = at (f k) refl (sum_some f ks)
  where
    at : (n : ℕ) → f k ≡ n → (0 < sum_by f ks → (k : List ℕ) × (0 < f k)) → (k : List ℕ) × (0 < f k)
    at zero e rest = rest (omega (arith, h, e, sum_by-cons f k ks))
    at (suc n) e rest = (k, omega (arith, e))

some_counts : (F : List ℕ → ℕ) (es : Entries) (w : List ℕ) (l : NodeState) → find w es ≡ Some l → F w ≤ sum_by (λ (k : List ℕ). F k) (keys_of es)
some_counts F [] w l e = absurd (let h : None ≡ Some l = e in cc)
some_counts F (x ∷ es) w l e =
    ⊎_elim
    (λ (h : (bytes_eq w x.0 ≡ true) × (w ≡ x.0)). omega (arith, ap F h.1, cons_of F x.0 (keys_of es)))
    (λ (h : (bytes_eq w x.0 ≡ false) × (w ≢ x.0)).
    omega (arith, some_counts F es w l (sym (ap (λ (b : Bool). if b then Some x.1 else find w es) h.0) ∙ e), cons_of F x.0 (keys_of es)))
    (which_word w x.0)

pub has_some : (es : Entries) → 0 < loose_count es → HasLoose (nodes_in es)
has_some es h = let some = sum_some (one_of es) (keys_of es) h in (some.0, told_loose (nodes_in es some.0) (one_positive (nodes_in es some.0) some.1))

pub some_has : (es : Entries) → HasLoose (nodes_in es) → 0 < loose_count es
some_has es (w, loose) = at (find w es) refl
  where
    told : are_loose (nodes_in es w) ≡ true
    told = loose_told (nodes_in es w) loose

    at : (o : Option NodeState) → find w es ≡ o → 0 < loose_count es
    at None e = absurd (true≢false (sym told ∙ ap (λ (o : Option NodeState). are_loose (unwrap_or o no_list).nodes) e))
    at (Some l) e = omega (arith, some_counts (λ w. loose_one (nodes_in es w)) es w l e, one_is (nodes_in es w) told)

-- ---- the count of a call

-- a word that was not loose is loose now
pub one_came : (count loose : ℕ) (was is : Bool) → was ≡ false → is ≡ true → count + (if was then 1 else 0) ≡ loose + (if is then 1 else 0) → count ≡ loose + 1
one_came count loose was is w i e =
    let z : (if was then 1 else 0) ≡ 0 = ap (λ (b : Bool). let n : ℕ = if b then 1 else 0 in n) w in
    let o : (if is then 1 else 0) ≡ 1 = ap (λ (b : Bool). let n : ℕ = if b then 1 else 0 in n) i in
    omega (arith, e, z, o)
