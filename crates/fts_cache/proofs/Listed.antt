-- The words in byte order, each with its number, of which some may have left.
use Rattle.std.proofs.Common.{◌≡◌, ◌≢◌, ◌↔◌, ⊎_elim, ℕ, Bool, true, false, cond, ◌||◌, nat_eq, List, [], ◌∷◌, ◌++◌, filter, Option, Some, None, refl, sym, ap, subst, ◌∙◌, arith}
use Rattle.std.specs.BTreeMap.{BTreeMap, is_at}
use Rattle.std.specs.List.{AllByRecursion, cons_option, list_any}
use Rattle.std.specs.List.Sorted.{IsStrictlySortedBy}
use Rattle.std.specs.Map.{keys_of, lookup}
use Rattle.std.specs.Option.{option_map_or, option_to_list}
use Rattle.std.specs.declared.cmp.Ordering.TheVariants.{Less}
use Rattle.std.specs.Str.{bytes_eq}
use Rattle.std.proofs.lemmas.Map.Text.{is_eq-slice_cmp}
use Rattle.fts_words.specs.Order.{byte_order}
use Rattle.fts_ilist.specs.Queue.{Queue}
use Rattle.fts_cache.specs.Words.{Entries, Slots, slot_in, number_in, queue_in, IsTable, IsListed, leaving_word, is_leaving_as, leaving_listed}
use Rattle.fts_ilist.specs.Cursor.{postings_until}
use Rattle.fts_cache.proofs.Queues.{which_word, is_same, same_word}
use Rattle.fts_cache.proofs.Shown.{left_from, left_to}
use Rattle.fts_cache.proofs.Table.{none_is_not, some_is, queue_of_none}

abbrev Listed : Type 0
Listed = List (List ℕ × ℕ)

or_left : (a b : Bool) → a ≡ true → (a || b) ≡ true
or_left true b e = refl
or_left false b e = absurd cc

or_right : (a b : Bool) → b ≡ true → (a || b) ≡ true
or_right true b e = refl
or_right false b e = e

or_rest : (a b : Bool) → (a || b) ≡ true → a ≡ false → b ≡ true
or_rest true b e f = absurd cc
or_rest false b e f = e

pub keys_filter : (f : List ℕ → Bool) (es : Listed) → keys_of (filter (λ e. f e.0) es) ≡ filter f (keys_of es)
keys_filter f [] = refl
keys_filter f (x ∷ es) = by (keys_filter f es) (f x.0)
  where
    by : keys_of (filter (λ (e : List ℕ × ℕ). f e.0) es) ≡ filter f (keys_of es) → (b : Bool) → keys_of (cond b (x ∷ filter (λ (e : List ℕ × ℕ). f e.0) es) (filter (λ (e : List ℕ × ℕ). f e.0) es)) ≡ cond b (x.0 ∷ filter f (keys_of es)) (filter f (keys_of es))
    by rest true = ap (λ (ws : List (List ℕ)). x.0 ∷ ws) rest
    by rest false = rest

found_among : (q : List ℕ → Bool) (es : Listed) (n : ℕ) → lookup q es ≡ Some n → list_any q (keys_of es) ≡ true
found_among q [] n e = none_is_not n _ e
found_among q (x ∷ es) n e = by (found_among q es n) (q x.0) refl e
  where
    by : (lookup q es ≡ Some n → list_any q (keys_of es) ≡ true) → (b : Bool) → q x.0 ≡ b → cond b (Some x.1) (lookup q es) ≡ Some n → (q x.0 || list_any q (keys_of es)) ≡ true
    by rest true f g = or_left (q x.0) (list_any q (keys_of es)) f
    by rest false f g = or_right (q x.0) (list_any q (keys_of es)) (rest g)

-- a word with a document stands in byte order
pub listed_has : (es : Entries) (order : BTreeMap (List ℕ) ℕ) → IsListed es.numbers order → (w : List ℕ) → (queue_in es w).postings ≢ [] → list_any (is_at (byte_order w)) (keys_of order.entries) ≡ true
listed_has es order listed w some = by (number_in es w) refl
  where
    by : (o : Option ℕ) → number_in es w ≡ o → list_any (is_at (byte_order w)) (keys_of order.entries) ≡ true
    by None e = absurd (some (ap (λ (q : Queue). q.postings) (queue_of_none es w e)))
    by (Some n) e = found_among (is_at (byte_order w)) order.entries n (listed w n e)

-- ---- some of the entries

behind_filter : (q : List ℕ × ℕ → Bool) (v : List ℕ) (es : Listed) → AllByRecursion (λ (y : List ℕ). byte_order v y ≡ Less) (keys_of es) → AllByRecursion (λ (y : List ℕ). byte_order v y ≡ Less) (keys_of (filter q es))
behind_filter q v [] h = tt
behind_filter q v (x ∷ es) h = by (behind_filter q v es h.1) (q x)
  where
    by : AllByRecursion (λ (y : List ℕ). byte_order v y ≡ Less) (keys_of (filter q es)) → (b : Bool) → AllByRecursion (λ (y : List ℕ). byte_order v y ≡ Less) (keys_of (cond b (x ∷ filter q es) (filter q es)))
    by rest true = (h.0, rest)
    by rest false = rest

pub sorted_filter : (q : List ℕ × ℕ → Bool) (es : Listed) → IsStrictlySortedBy byte_order (keys_of es) → IsStrictlySortedBy byte_order (keys_of (filter q es))
unfolding IsStrictlySortedBy
sorted_filter q [] h = tt
sorted_filter q (x ∷ es) h = by (sorted_filter q es h.1) (q x)
  where
    by : IsStrictlySortedBy byte_order (keys_of (filter q es)) → (b : Bool) → IsStrictlySortedBy byte_order (keys_of (cond b (x ∷ filter q es) (filter q es)))
    by rest true = (behind_filter q x.0 es h.0, rest)
    by rest false = rest

-- an entry that is found and passes is among those that pass
passes_in : (q : List ℕ × ℕ → Bool) (w : List ℕ) (n : ℕ) (es : Listed) → lookup (is_at (byte_order w)) es ≡ Some n → q (w, n) ≡ true → list_any (bytes_eq w) (keys_of (filter q es)) ≡ true
passes_in q w n [] e t = none_is_not n _ e
passes_in q w n (x ∷ es) e t =
    ⊎_elim
    (λ (h : (bytes_eq w x.0 ≡ true) × (w ≡ x.0)).
    let value : Some x.1 ≡ Some n = sym (ap (λ (b : Bool). cond b (Some x.1) (lookup (is_at (byte_order w)) es)) (is_eq-slice_cmp w x.0 ∙ h.0)) ∙ e in
    let here : q x ≡ true = subst (λ (v : List ℕ). q (v, x.1) ≡ true) h.1 (subst (λ (m : ℕ). q (w, m) ≡ true) (sym (some_is x.1 n value)) t) in
    ap (λ (b : Bool). list_any (bytes_eq w) (keys_of (cond b (x ∷ filter q es) (filter q es)))) here
    ∙ or_left (bytes_eq w x.0) (list_any (bytes_eq w) (keys_of (filter q es))) h.0)
    (λ (h : (bytes_eq w x.0 ≡ false) × (w ≢ x.0)).
    later (q x) (passes_in q w n es (sym (ap (λ (b : Bool). cond b (Some x.1) (lookup (is_at (byte_order w)) es)) (is_eq-slice_cmp w x.0 ∙ h.0)) ∙ e) t))
    (which_word w x.0)
  where
    later : (b : Bool) → list_any (bytes_eq w) (keys_of (filter q es)) ≡ true → list_any (bytes_eq w) (keys_of (cond b (x ∷ filter q es) (filter q es))) ≡ true
    later true rest = or_right (bytes_eq w x.0) (list_any (bytes_eq w) (keys_of (filter q es))) rest
    later false rest = rest

-- what is among those that pass has a number with which it does
passes_from : (q : List ℕ × ℕ → Bool) (w : List ℕ) (es : Listed) → list_any (bytes_eq w) (keys_of (filter q es)) ≡ true → (n : ℕ) × (q (w, n) ≡ true)
passes_from q w [] e = absurd cc
passes_from q w (x ∷ es) e = by (passes_from q w es) (q x) refl e
  where
    by : (list_any (bytes_eq w) (keys_of (filter q es)) ≡ true → (n : ℕ) × (q (w, n) ≡ true)) → (b : Bool) → q x ≡ b → list_any (bytes_eq w) (keys_of (cond b (x ∷ filter q es) (filter q es))) ≡ true → (n : ℕ) × (q (w, n) ≡ true)
    by rest true f g =
        ⊎_elim
        (λ (h : (bytes_eq w x.0 ≡ true) × (w ≡ x.0)).
        let r : (n : ℕ) × (q (w, n) ≡ true) = (x.1, subst (λ (v : List ℕ). q (v, x.1) ≡ true) (sym h.1) f) in r)
        (λ (h : (bytes_eq w x.0 ≡ false) × (w ≢ x.0)). rest (or_rest (bytes_eq w x.0) (list_any (bytes_eq w) (keys_of (filter q es))) g h.0))
        (which_word w x.0)
    by rest false f g = rest g

-- ---- the words that leave

is_it : (w : List ℕ) (o : Option (List ℕ)) → option_map_or (bytes_eq w) o false ≡ true → o ≡ Some w
is_it w None e = absurd cc
is_it w (Some v) e = ap Some (sym (same_word w v e))

alone : (w : List ℕ) (o : Option (List ℕ)) → list_any (bytes_eq w) (cons_option o []) ≡ true → option_map_or (bytes_eq w) o false ≡ true
alone w None e = e
alone w (Some v) e = by (bytes_eq w v) e
  where
    by : (b : Bool) → (b || false) ≡ true → b ≡ true
    by true f = refl
    by false f = f

-- the words in byte order that leave are those that have a document up to an id
pub listed_are : (es : Entries) (order : BTreeMap (List ℕ) ℕ) (doc : ℕ) → IsTable es → IsListed es.numbers order → (w : List ℕ)
    → (list_any (bytes_eq w) (leaving_listed es.slots doc order.entries) ≡ true) ↔ (postings_until doc (queue_in es w).postings ≢ [])
listed_are es order doc t listed w = (
  λ e.
      let h = passes_from (is_leaving_as es.slots doc) w order.entries e in
      let one : leaving_word doc (slot_in es.slots h.0) ≡ Some w = is_it w (leaving_word doc (slot_in es.slots h.0)) h.1 in
      (left_from es doc (h.0 ∷ []) w t (ap (λ (o : Option (List ℕ)). list_any (bytes_eq w) (cons_option o [])) one ∙ or_left (bytes_eq w w) false (is_same w))).3,
  λ some. by some (number_in es w) refl,
)
  where
    same : (m : ℕ) → nat_eq m m ≡ true
    same m = grind arith

    by : postings_until doc (queue_in es w).postings ≢ [] → (o : Option ℕ) → number_in es w ≡ o → list_any (bytes_eq w) (leaving_listed es.slots doc order.entries) ≡ true
    by some None e = absurd (some (ap (λ (q : Queue). postings_until doc q.postings) (queue_of_none es w e)))
    by some (Some n) e = passes_in (is_leaving_as es.slots doc) w n order.entries (listed w n e)
        (alone w (leaving_word doc (slot_in es.slots n)) (left_to es doc (n ∷ []) w n t e (or_left (nat_eq n n) false (same n)) some))

-- ---- a step of the walk

pub listed_step : (slots : Slots) (doc : ℕ) (x : List ℕ × ℕ) (before after : Listed) → before ≡ x ∷ after
    → leaving_listed slots doc before ≡ option_to_list (cond (is_leaving_as slots doc x) (Some x.0) None) ++ leaving_listed slots doc after
listed_step slots doc x before after parts = ap (leaving_listed slots doc) parts ∙ by (is_leaving_as slots doc x)
  where
    by : (b : Bool) → keys_of (cond b (x ∷ filter (is_leaving_as slots doc) after) (filter (is_leaving_as slots doc) after)) ≡ option_to_list (cond b (Some x.0) None) ++ leaving_listed slots doc after
    by true = refl
    by false = refl
