-- The words that a call gives: which they are, and that they ascend once they are sorted.
use Rattle.std.proofs.Common.{◌≡◌, ◌≢◌, ◌⊎◌, inl, inr, ⊎_elim, ◌↔◌, ℕ, suc, ◌<◌, ◌≤◌, Bool, true, false, cond, ◌&&◌, ◌||◌, nat_eq, nat_le, nat_lt, List, [], ◌∷◌, ◌++◌, length, map, get_or, Option, Some, None, refl, sym, ap, subst, ◌∙◌, arith}
use Rattle.std.specs.Borrow.{Bor}
use Rattle.fts_words.specs.Order.{byte_order}
use Rattle.std.specs.List.{All, IsDistinct, cons_option, list_any, AllByRecursion}
use Rattle.std.specs.List.Sorted.{IsSortedBy, IsStrictlySortedBy, IsPermutation}
use Rattle.std.specs.Option.{option_to_list, option_map, IfSome}
use Rattle.std.specs.Cmp.{IsStrictWeakOrder}
use Rattle.std.proofs.lemmas.List.{append-nil, map-append}
use Rattle.std.proofs.lemmas.List.Elements.{All-push}
use Rattle.std.specs.Ordering.{is_lt, is_eq, ordering_reverse}
use Rattle.std.specs.declared.cmp.Ordering.{Ordering}
use Rattle.std.specs.declared.cmp.Ordering.TheVariants.{Less, Equal, Greater}
use Rattle.std.specs.Str.{bytes_eq}
use Rattle.std.proofs.lemmas.Bool.{lt-ltb, ltb-true}
use Rattle.std.proofs.lemmas.Cmp.{nat_list_cmp_total}
use Rattle.std.proofs.lemmas.List.Sorted.{ranks_by, sorted_far, list_any-IsPermutation, IsPermutation-map}
use Rattle.std.proofs.lemmas.Map.Keys.{IsDistinct-IsPermutation}
use Rattle.std.proofs.lemmas.Map.Text.{is_eq-slice_cmp}
use Rattle.fts_ilist.specs.Spelling.{Posting, PostingsAfter, HasFirstId}
use Rattle.fts_ilist.specs.Queue.{Queue}
use Rattle.fts_cache.specs.declared.words.CachedWord.{CachedWord}
use Rattle.fts_cache.specs.Words.{Entries, Slots, slot_in, number_in, queue_in, IsTable, has_number, leaves, leaving_word, leaving_words, IsSealed, sealed_word}
use Rattle.std.specs.Map.{keys_of}
use Rattle.fts_ilist.specs.Node.{Docs}
use Rattle.fts_ilist.specs.Packing.{packed}
use Rattle.fts_ilist.specs.Cursor.{postings_until}
use Rattle.fts_cache.proofs.Queues.{which_word, is_same}
use Rattle.fts_cache.proofs.Table.{which_number, some_is, none_is_not, queue_of_number}

abbrev Numbers : Type 0
Numbers = List (List ℕ × ℕ)

above : (id doc : ℕ) → nat_le id doc ≡ false → doc < id
above id doc e = grind arith

none_until : (doc before : ℕ) (ps : List Posting) → PostingsAfter before ps → doc < before → postings_until doc ps ≡ []
none_until doc before [] h lt = refl
none_until doc before (p ∷ ps) h lt =
    ap (λ (b : Bool). cond b (p ∷ postings_until doc ps) (postings_until doc ps)) (not_until p.id doc (omega (arith, h.0)))
    ∙ none_until doc p.id ps h.3 (omega (arith, h.0))
  where
    not_until : (id doc : ℕ) → doc < id → nat_le id doc ≡ false
    not_until id doc lt = grind arith

pub some_posting : (ps : List Posting) → ps ≢ [] → nat_lt 0 (length ps) ≡ true
some_posting [] h = absurd (h refl)
some_posting (p ∷ ps) h = lt-ltb 0 (length (p ∷ ps)) (omega arith)

pub some_from : (ps : List Posting) → nat_lt 0 (length ps) ≡ true → ps ≢ []
some_from ps e none = absurd (omega (arith, ap length none, ltb-true 0 (length ps) e))

pub both : (a b : Bool) → (a && b) ≡ true → (a ≡ true) × (b ≡ true)
both true true e = (refl, refl)
both true false e = (refl, e)
both false b e = (e, absurd cc)

-- whether documents that begin with this id have one up to doc
pub leaves_by_first : (doc id : ℕ) (q : Queue) → PostingsAfter 0 q.postings → HasFirstId q.postings id → nat_le id doc ≡ leaves doc q
leaves_by_first doc id q after has = by q.postings after has
  where
    step : (p : Posting) (ps : List Posting) → PostingsAfter p.id ps → (b : Bool) → nat_le p.id doc ≡ b → b ≡ nat_lt 0 (length (cond b (p ∷ postings_until doc ps) (postings_until doc ps)))
    step p ps rest true e = sym (lt-ltb 0 (length (p ∷ postings_until doc ps)) (omega arith))
    step p ps rest false e = sym (ap (λ (w : List Posting). nat_lt 0 (length w)) (none_until doc p.id ps rest (omega (arith, above p.id doc e))))

    by : (ps : List Posting) → PostingsAfter 0 ps → HasFirstId ps id → nat_le id doc ≡ nat_lt 0 (length (postings_until doc ps))
    by [] a h = absurd h
    by (p ∷ ps) a h = ap (λ (i : ℕ). nat_le i doc) (sym h) ∙ step p ps a.3 (nat_le p.id doc) refl

-- ---- in their order

less_from : (x y : List ℕ) → is_lt (byte_order y x) ≡ false → bytes_eq x y ≡ false → byte_order x y ≡ Less
less_from x y low differs = by (byte_order x y) refl
  where
    by : (o : Ordering) → byte_order x y ≡ o → o ≡ Less
    by Less e = refl
    by Equal e = absurd (let t : true ≡ false = ap is_eq (sym e) ∙ is_eq-slice_cmp x y ∙ differs in cc)
    by Greater e = absurd (
        let turned : byte_order y x ≡ Less = nat_list_cmp_total.antisymm y x ∙ ap ordering_reverse e in
        let t : true ≡ false = ap is_lt (sym turned) ∙ low in
        cc)

pub flips : (x y : List ℕ) → bytes_eq x y ≡ bytes_eq y x
flips x y =
    ⊎_elim
    (λ (m : (bytes_eq x y ≡ true) × (x ≡ y)). m.0 ∙ sym (subst (λ (z : List ℕ). bytes_eq z x ≡ true) m.1 (is_same x)))
    (λ (m : (bytes_eq x y ≡ false) × (x ≢ y)).
    ⊎_elim
    (λ (n : (bytes_eq y x ≡ true) × (y ≡ x)). absurd (m.1 (sym n.1)))
    (λ (n : (bytes_eq y x ≡ false) × (y ≢ x)). m.0 ∙ sym n.0)
    (which_word y x))
    (which_word x y)

-- ---- words with their nodes

abbrev Entry : Type 0
Entry = List ℕ × List Docs

head_entry : (x : List ℕ) (es : List Entry) → ((j : ℕ) (d : Entry) → j < length es → is_lt (byte_order (get_or es j d).0 x) ≡ false)
    → AllByRecursion (λ (y : List ℕ). bytes_eq x y ≡ false) (keys_of es) → AllByRecursion (λ (y : List ℕ). byte_order x y ≡ Less) (keys_of es)
head_entry x [] far differ = tt
head_entry x (e ∷ es) far differ =
    (less_from x e.0 (far 0 e (omega arith)) differ.0, head_entry x es (λ j d lt. far (suc j) d (omega (arith, lt))) differ.1)

strict_entries : (es : List Entry) → ((i j : ℕ) (d : Entry) → i ≤ j → j < length es → is_lt (byte_order (get_or es j d).0 (get_or es i d).0) ≡ false)
    → IsDistinct bytes_eq (keys_of es) → IsStrictlySortedBy byte_order (keys_of es)
unfolding IsDistinct IsStrictlySortedBy
strict_entries [] far u = tt
strict_entries (e ∷ es) far u =
    (head_entry e.0 es (λ j d lt. far 0 (suc j) d (omega arith) (omega (arith, lt))) u.0, strict_entries es (λ i j d le lt. far (suc i) (suc j) d (omega (arith, le)) (omega (arith, lt))) u.1)

pub entries_rank : IsStrictWeakOrder (λ (v w : Entry). is_lt (byte_order v.0 w.0))
entries_rank = ranks_by nat_list_cmp_total (λ (e : Entry). e.0)

pub sorted_entries : (found sorted : List Entry) → IsDistinct bytes_eq (keys_of found)
    → IsPermutation found sorted → IsSortedBy (λ (v w : Entry). is_lt (byte_order v.0 w.0)) sorted → IsStrictlySortedBy byte_order (keys_of sorted)
sorted_entries found sorted differ moved up =
    let word : Entry → List ℕ = λ e. e.0 in
    strict_entries sorted
    (λ i j d le lt. sorted_far (λ (v w : Entry). is_lt (byte_order v.0 w.0)) entries_rank sorted up i j d le lt)
    (IsDistinct-IsPermutation bytes_eq flips (map word found) (map word sorted) (IsPermutation-map word found sorted moved) differ)

among_entries : (found sorted : List Entry) → IsPermutation found sorted → (w : List ℕ) → list_any (bytes_eq w) (keys_of sorted) ≡ list_any (bytes_eq w) (keys_of found)
among_entries found sorted moved w =
    let word : Entry → List ℕ = λ e. e.0 in
    sym (list_any-IsPermutation (bytes_eq w) (map word found) (map word sorted) (IsPermutation-map word found sorted moved))

-- the nodes that are given are those of their word's documents
sealed_is : (es : Entries) (doc : ℕ) (word : List ℕ) (nodes : List Docs) → IsTable es → IsSealed es.slots doc word nodes → nodes ≡ packed (postings_until doc (queue_in es word).postings)
sealed_is es doc word nodes t s =
    let number : number_in es word ≡ Some s.number = ap (number_in es) (ap (λ (e : Entry). e.0) s.same) ∙ t.known s.number s.slot s.at in
    ap (λ (e : Entry). e.1) s.same ∙ sym (ap (λ (q : Queue). packed (postings_until doc q.postings)) (queue_of_number es word s.number s.slot number s.at))

-- of all that are given
pub all_sealed : (es : Entries) (doc : ℕ) (given : List Entry) → IsTable es → All (λ (e : Entry). IsSealed es.slots doc e.0 e.1) given
    → All (λ (e : Entry). e.1 ≡ packed (postings_until doc (queue_in es e.0).postings)) given
all_sealed es doc given t all = λ k d less. sealed_is es doc (get_or given k d).0 (get_or given k d).1 t (all k d less)

abbrev Slot : Type 0
Slot = Bor CachedWord

abbrev pub sealed_in : ℕ → Option Slot → Option Entry
sealed_in doc o = option_map (λ s. sealed_word doc s.now) o

-- what a slot gives is sealed
pub sealed_from : (slots : Slots) (doc n : ℕ) (o : Option Slot) → IfSome o (λ s. slot_in slots n ≡ Some s.now) → IfSome (sealed_in doc o) (λ e. IsSealed slots doc e.0 e.1)
sealed_from slots doc n None h = h
sealed_from slots doc n (Some s) h = record { number = n; slot = s.now; at = h; same = refl }

-- one more word, or none
pub keys_more : (doc : ℕ) (es : List Entry) (o : Option Slot) → keys_of (es ++ option_to_list (sealed_in doc o)) ≡ keys_of es ++ option_to_list (option_map (λ (s : Slot). s.now.word) o)
keys_more doc es o = map-append (λ (e : Entry). e.0) es (option_to_list (sealed_in doc o)) ∙ ap (λ (ws : List (List ℕ)). keys_of es ++ ws) (by o)
  where
    by : (o : Option Slot) → keys_of (option_to_list (sealed_in doc o)) ≡ option_to_list (option_map (λ (s : Slot). s.now.word) o)
    by None = refl
    by (Some s) = refl

pub all_more : (P : Entry → Type 0) (es : List Entry) (o : Option Entry) → All P es → IfSome o P → All P (es ++ option_to_list o)
all_more P es None all h = subst (All P) (sym (append-nil es)) all
all_more P es (Some e) all h = All-push P es e all h

-- ---- the words of the documents that leave

or_left : (a b : Bool) → a ≡ true → (a || b) ≡ true
or_left true b e = refl
or_left false b e = absurd cc

or_right : (a b : Bool) → b ≡ true → (a || b) ≡ true
or_right true b e = refl
or_right false b e = e

or_rest : (a b : Bool) → (a || b) ≡ true → a ≡ false → b ≡ true
or_rest true b e f = absurd cc
or_rest false b e f = e

in_rest : (w : List ℕ) (o : Option (List ℕ)) (rest : List (List ℕ)) → list_any (bytes_eq w) (cons_option o rest) ≡ true → (o ≡ Some w) ⊎ (list_any (bytes_eq w) rest ≡ true)
in_rest w None rest e = inr e
in_rest w (Some v) rest e =
    ⊎_elim
    (λ (m : (bytes_eq w v ≡ true) × (w ≡ v)). inl (ap Some (sym m.1)))
    (λ (m : (bytes_eq w v ≡ false) × (w ≢ v)). inr (or_rest (bytes_eq w v) (list_any (bytes_eq w) rest) e m.0))
    (which_word w v)

still_in : (w : List ℕ) (o : Option (List ℕ)) (rest : List (List ℕ)) → list_any (bytes_eq w) rest ≡ true → list_any (bytes_eq w) (cons_option o rest) ≡ true
still_in w None rest e = e
still_in w (Some v) rest e = or_right (bytes_eq w v) (list_any (bytes_eq w) rest) e

pub record IsLeaving (doc : ℕ) (o : Option CachedWord) (w : List ℕ) : Type 0 where
  pub s : CachedWord
  pub at : o ≡ Some s
  pub word : s.word ≡ w
  pub leaves : leaves doc s.queue ≡ true

leaving_some : (doc : ℕ) (o : Option CachedWord) (w : List ℕ) → leaving_word doc o ≡ Some w → IsLeaving doc o w
leaving_some doc None w e = none_is_not w _ e
leaving_some doc (Some s) w e = by (leaves doc s.queue) refl e
  where
    by : (b : Bool) → leaves doc s.queue ≡ b → cond b (Some s.word) None ≡ Some w → IsLeaving doc (Some s) w
    by true l f = record { s = s; at = refl; word = some_is s.word w f; leaves = l }
    by false l f = none_is_not w _ f

-- a word that leaves has its number among these
pub left_from : (es : Entries) (doc : ℕ) (ns : List ℕ) (w : List ℕ) → IsTable es → list_any (bytes_eq w) (leaving_words es.slots doc ns) ≡ true
    → (n : ℕ) × (number_in es w ≡ Some n) × (has_number n ns ≡ true) × (postings_until doc (queue_in es w).postings ≢ [])
left_from es doc [] w t e = absurd cc
left_from es doc (n ∷ ns) w t e =
    ⊎_elim
    (λ (f : leaving_word doc (slot_in es.slots n) ≡ Some w).
    let l = leaving_some doc (slot_in es.slots n) w f in
    let number : number_in es w ≡ Some n = ap (number_in es) (sym l.word) ∙ t.known n l.s l.at in
    let queue : queue_in es w ≡ l.s.queue = queue_of_number es w n l.s number l.at in
    let r : (m : ℕ) × (number_in es w ≡ Some m) × (has_number m (n ∷ ns) ≡ true) × (postings_until doc (queue_in es w).postings ≢ [])
    = (n, number, or_left (nat_eq n n) (has_number n ns) (same n), λ none. some_from (postings_until doc l.s.queue.postings) l.leaves (ap (λ (q : Queue). postings_until doc q.postings) (sym queue) ∙ none)) in r)
    (λ (f : list_any (bytes_eq w) (leaving_words es.slots doc ns) ≡ true).
    let r = left_from es doc ns w t f in
    let more : (m : ℕ) × (number_in es w ≡ Some m) × (has_number m (n ∷ ns) ≡ true) × (postings_until doc (queue_in es w).postings ≢ [])
    = (r.0, r.1, or_right (nat_eq r.0 n) (has_number r.0 ns) r.2, r.3) in more)
    (in_rest w (leaving_word doc (slot_in es.slots n)) (leaving_words es.slots doc ns) e)
  where
    same : (m : ℕ) → nat_eq m m ≡ true
    same m = grind arith

pub left_to : (es : Entries) (doc : ℕ) (ns : List ℕ) (w : List ℕ) (n : ℕ) → IsTable es → number_in es w ≡ Some n → has_number n ns ≡ true → postings_until doc (queue_in es w).postings ≢ []
    → list_any (bytes_eq w) (leaving_words es.slots doc ns) ≡ true
left_to es doc [] w n t e h some = absurd cc
left_to es doc (m ∷ ms) w n t e h some =
    ⊎_elim
    (λ (x : (nat_eq n m ≡ true) × (n ≡ m)).
    let f = t.found w n e in
    let at : slot_in es.slots m ≡ Some f.0 = ap (slot_in es.slots) (sym x.1) ∙ f.1 in
    let some_left : leaves doc f.0.queue ≡ true
    = some_posting (postings_until doc f.0.queue.postings) (λ none. some (ap (λ (q : Queue). postings_until doc q.postings) (queue_of_number es w n f.0 e f.1) ∙ none)) in
    let word : leaving_word doc (slot_in es.slots m) ≡ Some w
    = ap (leaving_word doc) at ∙ ap (λ (b : Bool). cond b (Some f.0.word) None) some_left ∙ ap Some f.2 in
    ap (λ (o : Option (List ℕ)). list_any (bytes_eq w) (cons_option o (leaving_words es.slots doc ms))) word
    ∙ or_left (bytes_eq w w) (list_any (bytes_eq w) (leaving_words es.slots doc ms)) (is_same w))
    (λ (x : (nat_eq n m ≡ false) × (n ≢ m)).
    still_in w (leaving_word doc (slot_in es.slots m)) (leaving_words es.slots doc ms) (left_to es doc ms w n t e (or_rest (nat_eq n m) (has_number n ms) h x.0) some))
    (which_number n m)

-- a word with another number than these is none of them
apart : (es : Entries) (doc : ℕ) (ns : List ℕ) (v : List ℕ) (n : ℕ) → IsTable es → number_in es v ≡ Some n → AllByRecursion (λ (y : ℕ). nat_eq n y ≡ false) ns → AllByRecursion (λ (y : List ℕ). bytes_eq v y ≡ false) (leaving_words es.slots doc ns)
apart es doc [] v n t e h = tt
apart es doc (m ∷ ms) v n t e h = by (leaving_word doc (slot_in es.slots m)) refl (apart es doc ms v n t e h.1)
  where
    reflexive : (k : ℕ) → nat_eq k k ≡ true
    reflexive k = grind arith

    differs : n ≢ m
    differs same = absurd (
        let never : true ≡ false = sym (reflexive n) ∙ ap (nat_eq n) same ∙ h.0 in
        cc)

    by : (o : Option (List ℕ)) → leaving_word doc (slot_in es.slots m) ≡ o → AllByRecursion (λ (y : List ℕ). bytes_eq v y ≡ false) (leaving_words es.slots doc ms) → AllByRecursion (λ (y : List ℕ). bytes_eq v y ≡ false) (cons_option (leaving_word doc (slot_in es.slots m)) (leaving_words es.slots doc ms))
    by None f rest = subst (λ (o : Option (List ℕ)). AllByRecursion (λ (y : List ℕ). bytes_eq v y ≡ false) (cons_option o (leaving_words es.slots doc ms))) (sym f) rest
    by (Some u) f rest =
        let l = leaving_some doc (slot_in es.slots m) u f in
        let number : number_in es u ≡ Some m = ap (number_in es) (sym l.word) ∙ t.known m l.s l.at in
        subst (λ (o : Option (List ℕ)). AllByRecursion (λ (y : List ℕ). bytes_eq v y ≡ false) (cons_option o (leaving_words es.slots doc ms))) (sym f) (
          ⊎_elim
              (λ (x : (bytes_eq v u ≡ true) × (v ≡ u)). absurd (differs (some_is n m (sym e ∙ ap (number_in es) x.1 ∙ number))))
              (λ (x : (bytes_eq v u ≡ false) × (v ≢ u)). x.0)
              (which_word v u),
          rest,
        )

pub left_differ : (es : Entries) (doc : ℕ) (ns : List ℕ) → IsTable es → IsDistinct nat_eq ns → IsDistinct bytes_eq (leaving_words es.slots doc ns)
unfolding IsDistinct
left_differ es doc [] t u = tt
left_differ es doc (n ∷ ns) t u = by (leaving_word doc (slot_in es.slots n)) refl (left_differ es doc ns t u.1)
  where
    by : (o : Option (List ℕ)) → leaving_word doc (slot_in es.slots n) ≡ o → IsDistinct bytes_eq (leaving_words es.slots doc ns) → IsDistinct bytes_eq (cons_option (leaving_word doc (slot_in es.slots n)) (leaving_words es.slots doc ns))
    by None f rest = subst (λ (o : Option (List ℕ)). IsDistinct bytes_eq (cons_option o (leaving_words es.slots doc ns))) (sym f) rest
    by (Some v) f rest =
        let l = leaving_some doc (slot_in es.slots n) v f in
        let number : number_in es v ≡ Some n = ap (number_in es) (sym l.word) ∙ t.known n l.s l.at in
        subst (λ (o : Option (List ℕ)). IsDistinct bytes_eq (cons_option o (leaving_words es.slots doc ns))) (sym f) (apart es doc ns v n t number u.0, rest)

pub left_are : (es : Entries) (doc : ℕ) (ns : List ℕ) (found sorted : List Entry) → IsTable es → keys_of found ≡ leaving_words es.slots doc ns → IsPermutation found sorted
    → (w : List ℕ) → (list_any (bytes_eq w) (keys_of sorted) ≡ true) ↔ ((n : ℕ) × (number_in es w ≡ Some n) × (has_number n ns ≡ true) × (postings_until doc (queue_in es w).postings ≢ []))
left_are es doc ns found sorted t is moved w =
    let same : list_any (bytes_eq w) (keys_of sorted) ≡ list_any (bytes_eq w) (leaving_words es.slots doc ns)
    = among_entries found sorted moved w ∙ ap (list_any (bytes_eq w)) is in
    (λ e. left_from es doc ns w t (sym same ∙ e), λ h. same ∙ left_to es doc ns w h.0 t h.1 h.2 h.3)

pub left_more : (slots : Slots) (doc : ℕ) (ns : List ℕ) (n : ℕ) → leaving_words slots doc (ns ++ n ∷ []) ≡ leaving_words slots doc ns ++ option_to_list (leaving_word doc (slot_in slots n))
left_more slots doc [] n = by (leaving_word doc (slot_in slots n))
  where
    by : (o : Option (List ℕ)) → cons_option o [] ≡ option_to_list o
    by None = refl
    by (Some v) = refl
left_more slots doc (m ∷ ms) n = by (leaving_word doc (slot_in slots m)) (left_more slots doc ms n)
  where
    by : (o : Option (List ℕ)) → leaving_words slots doc (ms ++ n ∷ []) ≡ leaving_words slots doc ms ++ option_to_list (leaving_word doc (slot_in slots n))
        → cons_option o (leaving_words slots doc (ms ++ n ∷ [])) ≡ cons_option o (leaving_words slots doc ms) ++ option_to_list (leaving_word doc (slot_in slots n))
    by None e = e
    by (Some v) e = ap (λ (ws : List (List ℕ)). v ∷ ws) e
