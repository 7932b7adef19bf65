-- The table of words: each by its number, as calls change it.
use Rattle.std.proofs.Common.{◌≡◌, ◌≢◌, ◌⊎◌, inl, inr, ⊎_elim, ℕ, zero, suc, ◌≤◌, length, Bool, true, false, cond, ◌&&◌, nat_eq, List, [], ◌∷◌, Option, Some, None, slice_set, ◌<◌, ◌+◌, Result, Ok, Err, IsOk, IfOk, is_some, if◌then◌else◌, refl, sym, ap, ◌∙◌, arith}
use Rattle.std.proofs.lemmas.List.{get_or-set_same}
use Rattle.std.specs.Map.{lookup, KeepsOthers}
use Rattle.std.specs.Option.{unwrap_or, option_map}
use Rattle.std.specs.Str.{bytes_eq}
use Rattle.fts_ilist.specs.Queue.{Queue}
use Rattle.fts_cache.specs.declared.words.CachedWord.{CachedWord}
use Rattle.fts_cache.specs.Words.{Entries, Slots, slot_in, number_in, no_queue, queue_at, queue_in, is_spent, IsTable, Alters, with_queue, Stays, Enters, IsLess, LetsGo, IsDropped, without}
use Rattle.fts_cache.proofs.Queues.{which_word, is_same, same_word}

pub which_number : (m n : ℕ) → ((nat_eq m n ≡ true) × (m ≡ n)) ⊎ ((nat_eq m n ≡ false) × (m ≢ n))
which_number m n = by (nat_eq m n) refl
  where
    by : (b : Bool) → nat_eq m n ≡ b → ((b ≡ true) × (m ≡ n)) ⊎ ((b ≡ false) × (m ≢ n))
    by true e = inl (refl, grind arith)
    by false e = inr (refl, grind arith)

pub some_is : {X : Type 0} (x y : X) → Some x ≡ Some y → x ≡ y
some_is x y e = ap (λ o. unwrap_or o x) e

pub none_is_not : {X : Type 0} (x : X) (A : Type 0) → None ≡ Some x → A
none_is_not x A e = absurd cc

-- whether a word has this number
pub has_it : (o : Option ℕ) (n : ℕ) → (o ≡ Some n) ⊎ (o ≢ Some n)
has_it None n = inr (λ e. none_is_not n ⊥ e)
has_it (Some m) n =
    ⊎_elim
    (λ (h : (nat_eq m n ≡ true) × (m ≡ n)). inl (ap Some h.1))
    (λ (h : (nat_eq m n ≡ false) × (m ≢ n)). inr (λ e. h.1 (some_is m n e)))
    (which_number m n)

-- ---- numbers are written

pub numbers_updated : (es new : List (List ℕ × ℕ)) (word : List ℕ) (r : Option ℕ) → lookup (λ k. bytes_eq word k) new ≡ r
    → KeepsOthers (λ x y. bytes_eq x y) (λ k. bytes_eq word k) es new
    → (w : List ℕ) → lookup (λ k. bytes_eq w k) new ≡ cond (bytes_eq w word) r (lookup (λ k. bytes_eq w k) es)
unfolding KeepsOthers
numbers_updated es new word r here others w =
    ⊎_elim
    (λ (h : (bytes_eq w word ≡ true) × (w ≡ word)).
    ap (λ (x : List ℕ). lookup (λ k. bytes_eq x k) new) h.1 ∙ here
    ∙ ap (λ (b : Bool). cond b r (lookup (λ k. bytes_eq w k) es)) (sym h.0))
    (λ (h : (bytes_eq w word ≡ false) × (w ≢ word)).
    others (λ k. bytes_eq w k)
    (λ x y e. ap (λ (v : List ℕ). bytes_eq v y) (same_word w x e))
    (λ k e. ⊎_elim
    (λ (m : (bytes_eq w k ≡ true) × (w ≡ k)). absurd (h.1 (m.1 ∙ sym (same_word word k e))))
    (λ (m : (bytes_eq w k ≡ false) × (w ≢ k)). m.0)
    (which_word w k))
    ∙ ap (λ (b : Bool). cond b r (lookup (λ k. bytes_eq w k) es)) (sym h.0))
    (which_word w word)

-- an entry that came, or took the place of one with its word
pub longer_by_insert : {E : Type 0} (r : Result (Option ℕ) E) (now new old : List (List ℕ × ℕ)) → IsOk r → IfOk r (λ o. length new ≡ length now + (if is_some o then 0 else 1)) → now ≡ old → length old ≤ length new
longer_by_insert (Ok None) now new old is h same = omega (arith, h, ap length same)
longer_by_insert (Ok (Some n)) now new old is h same = omega (arith, h, ap length same)
longer_by_insert (Err e) now new old is h same = absurd (let never : false ≡ true = is in cc)

-- ---- a queue by its number

pub queue_of_number : (es : Entries) (w : List ℕ) (n : ℕ) (s : CachedWord) → number_in es w ≡ Some n → slot_in es.slots n ≡ Some s → queue_in es w ≡ s.queue
queue_of_number es w n s e f =
    ap (λ (o : Option ℕ). unwrap_or (option_map (queue_at es.slots) o) no_queue) e
    ∙ ap (λ (o : Option CachedWord). unwrap_or (option_map (λ (x : CachedWord). x.queue) o) no_queue) f

pub queue_of_none : (es : Entries) (w : List ℕ) → number_in es w ≡ None → queue_in es w ≡ no_queue
queue_of_none es w e = ap (λ (o : Option ℕ). unwrap_or (option_map (queue_at es.slots) o) no_queue) e

-- a slot that is taken is one of them
pub slot_below : (xs : Slots) (n : ℕ) (s : CachedWord) → slot_in xs n ≡ Some s → n < length xs
slot_below [] n s e = none_is_not s _ e
slot_below (x ∷ xs) zero s e = omega arith
slot_below (x ∷ xs) (suc n) s e = let rest : n < length xs = slot_below xs n s e in omega (arith, rest)

-- ---- a queue is altered

pub record IsAltered (n : ℕ) (change : Queue → Queue) (old new : Entries) : Type 0 where
  pub table : IsTable new
  pub here : (w : List ℕ) → number_in old w ≡ Some n → queue_in new w ≡ change (queue_in old w)
  pub others : (w : List ℕ) → number_in old w ≢ Some n → queue_in new w ≡ queue_in old w

pub at_it : (n : ℕ) (change : Queue → Queue) (old new : Slots) → Alters n change old new → slot_in new n ≡ option_map (with_queue change) (slot_in old n)
at_it n change old new h =
    h n ∙ ap (λ (b : Bool). cond b (option_map (with_queue change) (slot_in old n)) (slot_in old n)) (same n)
  where
    same : (m : ℕ) → nat_eq m m ≡ true
    same m = grind arith

pub at_others : (n : ℕ) (change : Queue → Queue) (old new : Slots) (m : ℕ) → m ≢ n → Alters n change old new → slot_in new m ≡ slot_in old m
at_others n change old new m differs h =
    ⊎_elim
    (λ (e : (nat_eq m n ≡ true) × (m ≡ n)). absurd (differs e.1))
    (λ (e : (nat_eq m n ≡ false) × (m ≢ n)). h m ∙ ap (λ (b : Bool). cond b (option_map (with_queue change) (slot_in old m)) (slot_in old m)) e.0)
    (which_number m n)

mapped_some : (change : Queue → Queue) (o : Option CachedWord) (s : CachedWord) → option_map (with_queue change) o ≡ Some s → (x : CachedWord) × (o ≡ Some x) × (s.word ≡ x.word)
mapped_some change None s e = none_is_not s _ e
mapped_some change (Some x) s e = (x, refl, ap (λ (y : CachedWord). y.word) (sym (some_is (with_queue change x) s e)))

altered_found : (n : ℕ) (change : Queue → Queue) (numbers : List (List ℕ × ℕ)) (old new : Slots) → IsTable (record { numbers = numbers; slots = old }) → Alters n change old new
    → (w : List ℕ) (m : ℕ) → lookup (λ k. bytes_eq w k) numbers ≡ Some m → (s : CachedWord) × (slot_in new m ≡ Some s) × (s.word ≡ w)
altered_found n change numbers old new t h w m e =
    let f = t.found w m e in
    ⊎_elim
    (λ (x : (nat_eq m n ≡ true) × (m ≡ n)).
    let at : slot_in new m ≡ Some (with_queue change f.0) = h m ∙ ap (λ (b : Bool). cond b (option_map (with_queue change) (slot_in old m)) (slot_in old m)) x.0 ∙ ap (option_map (with_queue change)) f.1 in
    let r : (s : CachedWord) × (slot_in new m ≡ Some s) × (s.word ≡ w) = (with_queue change f.0, at, f.2) in r)
    (λ (x : (nat_eq m n ≡ false) × (m ≢ n)).
    let r : (s : CachedWord) × (slot_in new m ≡ Some s) × (s.word ≡ w) = (f.0, at_others n change old new m x.1 h ∙ f.1, f.2) in r)
    (which_number m n)

altered_known : (n : ℕ) (change : Queue → Queue) (numbers : List (List ℕ × ℕ)) (old new : Slots) → IsTable (record { numbers = numbers; slots = old }) → Alters n change old new
    → (m : ℕ) (s : CachedWord) → slot_in new m ≡ Some s → lookup (λ k. bytes_eq s.word k) numbers ≡ Some m
altered_known n change numbers old new t h m s e =
    ⊎_elim
    (λ (x : (nat_eq m n ≡ true) × (m ≡ n)).
    let at : option_map (with_queue change) (slot_in old m) ≡ Some s
    = sym (h m ∙ ap (λ (b : Bool). cond b (option_map (with_queue change) (slot_in old m)) (slot_in old m)) x.0) ∙ e in
    let f = mapped_some change (slot_in old m) s at in
    ap (λ (v : List ℕ). lookup (λ k. bytes_eq v k) numbers) f.2 ∙ t.known m f.0 f.1)
    (λ (x : (nat_eq m n ≡ false) × (m ≢ n)). t.known m s (sym (at_others n change old new m x.1 h) ∙ e))
    (which_number m n)

pub altered : (n : ℕ) (change : Queue → Queue) (numbers : List (List ℕ × ℕ)) (old new : Slots) → IsTable (record { numbers = numbers; slots = old }) → Alters n change old new
    → IsAltered n change (record { numbers = numbers; slots = old }) (record { numbers = numbers; slots = new })
altered n change numbers old new t h =
    let before : Entries = record { numbers = numbers; slots = old } in
    let after : Entries = record { numbers = numbers; slots = new } in
    record {
      table = record { found = altered_found n change numbers old new t h; known = altered_known n change numbers old new t h };
      here = λ w e.
          let f = t.found w n e in
          queue_of_number after w n (with_queue change f.0) e (at_it n change old new h ∙ ap (option_map (with_queue change)) f.1)
          ∙ ap change (sym (queue_of_number before w n f.0 e f.1));
      others = λ w differs. other w differs (number_in before w) refl;
    }
  where
    other : (w : List ℕ) → number_in (record { numbers = numbers; slots = old }) w ≢ Some n → (o : Option ℕ) → number_in (record { numbers = numbers; slots = old }) w ≡ o
        → queue_in (record { numbers = numbers; slots = new }) w ≡ queue_in (record { numbers = numbers; slots = old }) w
    other w differs None e =
        queue_of_none (record { numbers = numbers; slots = new }) w e ∙ sym (queue_of_none (record { numbers = numbers; slots = old }) w e)
    other w differs (Some m) e =
        let f = t.found w m e in
        queue_of_number (record { numbers = numbers; slots = new }) w m f.0 e (at_others n change old new m (λ (same : m ≡ n). differs (e ∙ ap Some same)) h ∙ f.1)
        ∙ sym (queue_of_number (record { numbers = numbers; slots = old }) w m f.0 e f.1)

-- two words have no number in common
pub one_word : (es : Entries) (v w : List ℕ) (n : ℕ) → IsTable es → number_in es v ≡ Some n → number_in es w ≡ Some n → v ≡ w
one_word es v w n t e f =
    let g = t.found v n e in
    let h = t.found w n f in
    let same : g.0 ≡ h.0 = some_is g.0 h.0 (sym g.1 ∙ h.1) in
    sym g.2 ∙ ap (λ (s : CachedWord). s.word) same ∙ h.2

pub altered_not : (n : ℕ) (old new : Entries) → IsAltered n (λ q. q) old new → Stays old new
altered_not n old new a w =
    ⊎_elim
    (λ (h : number_in old w ≡ Some n). a.here w h)
    (λ (h : number_in old w ≢ Some n). a.others w h)
    (has_it (number_in old w) n)

-- ---- a queue without documents and room

nothing : {X : Type 0} (xs : List X) → nat_eq (length xs) 0 ≡ true → xs ≡ []
nothing [] e = refl
nothing (x ∷ xs) e = absurd (let never : length (x ∷ xs) ≡ 0 = grind arith in omega (arith, never))

pub spent_parts : (q : Queue) → is_spent q ≡ true → (q.postings ≡ []) × (q.room ≡ 0)
spent_parts q e = by (nat_eq (length q.postings) 0) refl e
  where
    by : (b : Bool) → nat_eq (length q.postings) 0 ≡ b → (b && nat_eq q.room 0) ≡ true → (q.postings ≡ []) × (q.room ≡ 0)
    by true f g = (nothing q.postings f, grind arith)
    by false f g = absurd (let never : false ≡ true = g in cc)

-- ---- a word is let go of

pub record LeavesLess (n : ℕ) (old new : Entries) : Type 0 where
  pub table : IsTable new
  pub less : LetsGo n old new

pub less_not : (old : Entries) → IsLess old old
less_not old = record { numbers = λ w n e. e; postings = λ w. refl; last = λ w. omega arith }

pub let_go : (old new : Entries) (n : ℕ) (s : CachedWord) → IsTable old → slot_in old.slots n ≡ Some s → is_spent s.queue ≡ true
    → slot_in new.slots n ≡ None → ((m : ℕ) → m ≢ n → slot_in new.slots m ≡ slot_in old.slots m)
    → ((w : List ℕ) → number_in new w ≡ cond (bytes_eq w s.word) None (number_in old w))
    → LeavesLess n old new
let_go old new n s t at spent gone others numbers = record {
  table = record {
    found = λ w m e.
        let k = kept w m e in
        let f = t.found w m k.0 in
        let r : (x : CachedWord) × (slot_in new.slots m ≡ Some x) × (x.word ≡ w) = (f.0, others m k.1 ∙ f.1, f.2) in r;
    known = known;
  };
  less = record {
    less = record { numbers = λ w m e. (kept w m e).0; postings = postings; last = last };
    room = room;
    others = others_stay;
    used = λ w e. absurd ((kept w n e).1 refl);
  };
}
  where
    unused : s.queue.postings ≡ []
    unused = (spent_parts s.queue spent).0

    is_word : number_in old s.word ≡ Some n
    is_word = t.known n s at

    kept : (w : List ℕ) (m : ℕ) → number_in new w ≡ Some m → (number_in old w ≡ Some m) × (m ≢ n)
    kept w m e =
        ⊎_elim
        (λ (h : (bytes_eq w s.word ≡ true) × (w ≡ s.word)). none_is_not m _ (sym (numbers w ∙ ap (λ (b : Bool). cond b None (number_in old w)) h.0) ∙ e))
        (λ (h : (bytes_eq w s.word ≡ false) × (w ≢ s.word)).
        let o : number_in old w ≡ Some m = sym (numbers w ∙ ap (λ (b : Bool). cond b None (number_in old w)) h.0) ∙ e in
        (o, λ (same : m ≡ n). h.1 (one_word old w s.word n t (o ∙ ap Some same) is_word)))
        (which_word w s.word)

    known : (m : ℕ) (x : CachedWord) → slot_in new.slots m ≡ Some x → number_in new x.word ≡ Some m
    known m x e =
        ⊎_elim
        (λ (h : (nat_eq m n ≡ true) × (m ≡ n)). none_is_not x _ (sym (ap (slot_in new.slots) h.1 ∙ gone) ∙ e))
        (λ (h : (nat_eq m n ≡ false) × (m ≢ n)).
        let o : number_in old x.word ≡ Some m = t.known m x (sym (others m h.1) ∙ e) in
        ⊎_elim
        (λ (g : (bytes_eq x.word s.word ≡ true) × (x.word ≡ s.word)). absurd (h.1 (some_is m n (sym o ∙ ap (number_in old) g.1 ∙ is_word))))
        (λ (g : (bytes_eq x.word s.word ≡ false) × (x.word ≢ s.word)). numbers x.word ∙ ap (λ (b : Bool). cond b None (number_in old x.word)) g.0 ∙ o)
        (which_word x.word s.word))
        (which_number m n)

    stays : (w : List ℕ) → w ≢ s.word → number_in new w ≡ number_in old w → (o : Option ℕ) → number_in old w ≡ o → queue_in new w ≡ queue_in old w
    stays w differs e None f = queue_of_none new w (e ∙ f) ∙ sym (queue_of_none old w f)
    stays w differs e (Some m) f =
        let g = t.found w m f in
        queue_of_number new w m g.0 (e ∙ f) (others m (kept w m (e ∙ f)).1 ∙ g.1) ∙ sym (queue_of_number old w m g.0 f g.1)

    here : (w : List ℕ) → bytes_eq w s.word ≡ true → w ≡ s.word → (queue_in new w ≡ no_queue) × (queue_in old w ≡ s.queue)
    here w b same = (
      queue_of_none new w (numbers w ∙ ap (λ (c : Bool). cond c None (number_in old w)) b),
      queue_of_number old w n s (ap (number_in old) same ∙ is_word) at,
    )

    postings : (w : List ℕ) → (queue_in new w).postings ≡ (queue_in old w).postings
    postings w =
        ⊎_elim
        (λ (h : (bytes_eq w s.word ≡ true) × (w ≡ s.word)).
        let q = here w h.0 h.1 in
        ap (λ (x : Queue). x.postings) q.0 ∙ sym unused ∙ ap (λ (x : Queue). x.postings) (sym q.1))
        (λ (h : (bytes_eq w s.word ≡ false) × (w ≢ s.word)).
        ap (λ (x : Queue). x.postings) (stays w h.1 (numbers w ∙ ap (λ (b : Bool). cond b None (number_in old w)) h.0) (number_in old w) refl))
        (which_word w s.word)

    there : (w : List ℕ) → bytes_eq w s.word ≡ false → w ≢ s.word → queue_in new w ≡ queue_in old w
    there w b differs = stays w differs (numbers w ∙ ap (λ (c : Bool). cond c None (number_in old w)) b) (number_in old w) refl

    room : (w : List ℕ) → (queue_in new w).room ≡ (queue_in old w).room
    room w =
        ⊎_elim
        (λ (h : (bytes_eq w s.word ≡ true) × (w ≡ s.word)).
        let q = here w h.0 h.1 in
        ap (λ (x : Queue). x.room) q.0 ∙ sym (spent_parts s.queue spent).1 ∙ ap (λ (x : Queue). x.room) (sym q.1))
        (λ (h : (bytes_eq w s.word ≡ false) × (w ≢ s.word)). ap (λ (x : Queue). x.room) (there w h.0 h.1))
        (which_word w s.word)

    others_stay : (w : List ℕ) → number_in old w ≢ Some n → queue_in new w ≡ queue_in old w
    others_stay w differs =
        ⊎_elim
        (λ (h : (bytes_eq w s.word ≡ true) × (w ≡ s.word)). absurd (differs (ap (number_in old) h.1 ∙ is_word)))
        (λ (h : (bytes_eq w s.word ≡ false) × (w ≢ s.word)). there w h.0 h.1)
        (which_word w s.word)

    last : (w : List ℕ) → (queue_in new w).last ≤ (queue_in old w).last
    last w =
        ⊎_elim
        (λ (h : (bytes_eq w s.word ≡ true) × (w ≡ s.word)). omega (arith, ap (λ (x : Queue). x.last) (here w h.0 h.1).0))
        (λ (h : (bytes_eq w s.word ≡ false) × (w ≢ s.word)).
        omega (arith, ap (λ (x : Queue). x.last) (stays w h.1 (numbers w ∙ ap (λ (b : Bool). cond b None (number_in old w)) h.0) (number_in old w) refl)))
        (which_word w s.word)

-- documents were taken out of a queue, and then words were let go of
pub dropped : (n doc : ℕ) (old now new : Entries) → IsTable old → now.numbers ≡ old.numbers → IsAltered n (without doc) old now → IsLess now new → (w : List ℕ) → IsDropped n doc old new w
dropped n doc old now new t same a l w = record {
  numbers = λ m e. sym (ap (λ ns. lookup (λ k. bytes_eq w k) ns) same) ∙ l.numbers w m e;
  here = λ e. l.postings w ∙ ap (λ (q : Queue). q.postings) (a.here w e);
  others = λ e. l.postings w ∙ ap (λ (q : Queue). q.postings) (a.others w e);
  last = ⊎_elim
      (λ (h : number_in old w ≡ Some n). omega (arith, l.last w, ap (λ (q : Queue). q.last) (a.here w h)))
      (λ (h : number_in old w ≢ Some n). omega (arith, l.last w, ap (λ (q : Queue). q.last) (a.others w h)))
      (has_it (number_in old w) n);
}

-- ---- a word is entered

pub record LeavesEntered (old new : Entries) (word : List ℕ) (n : ℕ) : Type 0 where
  pub table : IsTable new
  pub number : number_in new word ≡ Some n
  pub enters : Enters old new

pub entered : (old new : Entries) (word : List ℕ) (n : ℕ) (s : CachedWord) → IsTable old → number_in old word ≡ None → s.word ≡ word → s.queue ≡ no_queue
    → slot_in old.slots n ≡ None → slot_in new.slots n ≡ Some s → ((m : ℕ) → m ≢ n → slot_in new.slots m ≡ slot_in old.slots m)
    → ((w : List ℕ) → number_in new w ≡ cond (bytes_eq w word) (Some n) (number_in old w))
    → length old.numbers ≤ length new.numbers
    → LeavesEntered old new word n
entered old new word n s t absent is_word empty free at others numbers more = record {
  table = record { found = found; known = known };
  number = here word (is_same word);
  enters = record { numbers = keeps; more = more; queues = queues };
}
  where
    here : (w : List ℕ) → bytes_eq w word ≡ true → number_in new w ≡ Some n
    here w e = numbers w ∙ ap (λ (b : Bool). cond b (Some n) (number_in old w)) e

    there : (w : List ℕ) → bytes_eq w word ≡ false → number_in new w ≡ number_in old w
    there w e = numbers w ∙ ap (λ (b : Bool). cond b (Some n) (number_in old w)) e

    taken : (m : ℕ) (x : CachedWord) → slot_in old.slots m ≡ Some x → m ≢ n
    taken m x e same = none_is_not x ⊥ (sym (ap (slot_in old.slots) same ∙ free) ∙ e)

    found : (w : List ℕ) (m : ℕ) → number_in new w ≡ Some m → (x : CachedWord) × (slot_in new.slots m ≡ Some x) × (x.word ≡ w)
    found w m e =
        ⊎_elim
        (λ (h : (bytes_eq w word ≡ true) × (w ≡ word)).
        let same : n ≡ m = some_is n m (sym (here w h.0) ∙ e) in
        let r : (x : CachedWord) × (slot_in new.slots m ≡ Some x) × (x.word ≡ w) = (s, ap (slot_in new.slots) (sym same) ∙ at, is_word ∙ sym h.1) in r)
        (λ (h : (bytes_eq w word ≡ false) × (w ≢ word)).
        let f = t.found w m (sym (there w h.0) ∙ e) in
        let r : (x : CachedWord) × (slot_in new.slots m ≡ Some x) × (x.word ≡ w) = (f.0, others m (taken m f.0 f.1) ∙ f.1, f.2) in r)
        (which_word w word)

    known : (m : ℕ) (x : CachedWord) → slot_in new.slots m ≡ Some x → number_in new x.word ≡ Some m
    known m x e =
        ⊎_elim
        (λ (h : (nat_eq m n ≡ true) × (m ≡ n)).
        let same : s ≡ x = some_is s x (sym (ap (slot_in new.slots) h.1 ∙ at) ∙ e) in
        ap (λ (y : CachedWord). number_in new y.word) (sym same) ∙ ap (number_in new) is_word ∙ here word (is_same word) ∙ ap Some (sym h.1))
        (λ (h : (nat_eq m n ≡ false) × (m ≢ n)).
        let o : number_in old x.word ≡ Some m = t.known m x (sym (others m h.1) ∙ e) in
        ⊎_elim
        (λ (g : (bytes_eq x.word word ≡ true) × (x.word ≡ word)). none_is_not m _ (sym absent ∙ ap (number_in old) (sym g.1) ∙ o))
        (λ (g : (bytes_eq x.word word ≡ false) × (x.word ≢ word)). there x.word g.0 ∙ o)
        (which_word x.word word))
        (which_number m n)

    keeps : (w : List ℕ) (m : ℕ) → number_in old w ≡ Some m → number_in new w ≡ Some m
    keeps w m e =
        ⊎_elim
        (λ (h : (bytes_eq w word ≡ true) × (w ≡ word)). none_is_not m _ (sym absent ∙ ap (number_in old) (sym h.1) ∙ e))
        (λ (h : (bytes_eq w word ≡ false) × (w ≢ word)). there w h.0 ∙ e)
        (which_word w word)

    later : (w : List ℕ) → number_in new w ≡ number_in old w → (o : Option ℕ) → number_in old w ≡ o → queue_in new w ≡ queue_in old w
    later w e None f = queue_of_none new w (e ∙ f) ∙ sym (queue_of_none old w f)
    later w e (Some m) f =
        let g = t.found w m f in
        queue_of_number new w m g.0 (e ∙ f) (others m (taken m g.0 g.1) ∙ g.1) ∙ sym (queue_of_number old w m g.0 f g.1)

    queues : (w : List ℕ) → queue_in new w ≡ queue_in old w
    queues w =
        ⊎_elim
        (λ (h : (bytes_eq w word ≡ true) × (w ≡ word)).
        queue_of_number new w n s (here w h.0) at ∙ empty ∙ sym (queue_of_none old w (ap (number_in old) h.1 ∙ absent)))
        (λ (h : (bytes_eq w word ≡ false) × (w ≢ word)). later w (there w h.0) (number_in old w) refl)
        (which_word w word)

    set_here : (xs : Slots) (i : ℕ) (o : Option CachedWord) → i < length xs → slot_in (slice_set xs i o) i ≡ o
    set_here xs i o lt = get_or-set_same xs i o None lt
