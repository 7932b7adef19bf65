-- Words that have neither documents nor room, as calls change them, and the words in byte order.
use Rattle.std.proofs.Common.{◌≡◌, ◌≢◌, ◌⊎◌, inl, inr, ⊎_elim, ℕ, ◌+◌, ◌<◌, ◌≤◌, Bool, true, false, cond, ◌&&◌, ◌||◌, nat_eq, List, [], ◌∷◌, ◌++◌, length, Option, Some, None, slice_index_or, Result, Ok, Err, OnOk, OnErr, refl, sym, ap, subst, ◌∙◌, arith}
use Rattle.std.proofs.lemmas.List.{length-append}
use Rattle.std.proofs.lemmas.List.Folds.{list_any-append}
use Rattle.std.proofs.lemmas.Option.{get_or_from_slice_get}
use Rattle.std.specs.List.{slice_get}
use Rattle.std.specs.Option.{option_to_list, option_map_or}
use Rattle.std.proofs.lemmas.Map.Text.{is_eq-slice_cmp}
use Rattle.std.specs.BTreeMap.{BTreeMap, get, is_at}
use Rattle.std.specs.Map.{lookup}
use Rattle.std.specs.Str.{bytes_eq}
use Rattle.fts_words.specs.Order.{byte_order}
use Rattle.fts_ilist.specs.Queue.{Queue, bytes_for}
use Rattle.fts_ilist.specs.Spelling.{Posting}
use Rattle.fts_cache.specs.declared.words.CachedWord.{CachedWord}
use Rattle.fts_cache.specs.Words.{Entries, number_in, queue_in, is_spent, is_spent_at, Slots, slot_in, no_queue, Alters, IsTable, has_number, IsUsedBut, IsListed, KeepsBut, AreKept, Enters, LetsGo, Stays, with_more_room, with_posting}
use Rattle.fts_cache.proofs.Queues.{which_word, on_ok}
use Rattle.fts_cache.proofs.Notes.{has_left, has_right}
use Rattle.fts_cache.proofs.Shown.{flips}
use Rattle.fts_cache.proofs.Table.{IsAltered, altered, altered_not, entered, which_number, some_is, none_is_not, has_it, queue_of_number}

has_here : (n : ℕ) (rest : List ℕ) → has_number n (n ∷ rest) ≡ true
has_here n rest = by (nat_eq n n) (same n)
  where
    same : (k : ℕ) → nat_eq k k ≡ true
    same k = grind arith

    by : (b : Bool) → b ≡ true → (b || has_number n rest) ≡ true
    by true e = refl
    by false e = absurd (let never : false ≡ true = e in cc)

has_there : (m n : ℕ) (rest : List ℕ) → has_number m rest ≡ true → has_number m (n ∷ rest) ≡ true
has_there m n rest e = by (nat_eq m n)
  where
    by : (b : Bool) → (b || has_number m rest) ≡ true
    by true = refl
    by false = e

has_rest : (m n : ℕ) (rest : List ℕ) → m ≢ n → has_number m (n ∷ rest) ≡ true → has_number m rest ≡ true
has_rest m n rest differs e =
    ⊎_elim
    (λ (h : (nat_eq m n ≡ true) × (m ≡ n)). absurd (differs h.1))
    (λ (h : (nat_eq m n ≡ false) × (m ≢ n)). ap (λ (b : Bool). b || has_number m rest) (sym h.0) ∙ e)
    (which_number m n)

-- one more number
pub used_more : (es : Entries) (n : ℕ) (rest : List ℕ) → IsUsedBut es rest → IsUsedBut es (n ∷ rest)
used_more es n rest u w m e s = has_there m n rest (u w m e s)

-- one queue was changed: it may have neither documents nor room now
pub used_altered : (n : ℕ) (change : Queue → Queue) (old new : Entries) (rest : List ℕ) → new.numbers ≡ old.numbers → IsAltered n change old new → IsUsedBut old rest → IsUsedBut new (n ∷ rest)
used_altered n change old new rest same a u w m e s =
    let f : number_in old w ≡ Some m = ap (λ ns. number_in (record { numbers = ns; slots = old.slots }) w) (sym same) ∙ e in
    ⊎_elim
    (λ (h : (nat_eq m n ≡ true) × (m ≡ n)). subst (λ (k : ℕ). has_number k (n ∷ rest) ≡ true) (sym h.1) (has_here n rest))
    (λ (h : (nat_eq m n ≡ false) × (m ≢ n)).
    has_there m n rest (u w m f (ap is_spent (sym (a.others w (λ g. h.1 (some_is m n (sym f ∙ g))))) ∙ s)))
    (which_number m n)

-- it has some now
pub used_filled : (n : ℕ) (change : Queue → Queue) (old new : Entries) (rest : List ℕ) → new.numbers ≡ old.numbers → IsAltered n change old new → ((q : Queue) → is_spent (change q) ≡ false)
    → IsUsedBut old (n ∷ rest) → IsUsedBut new rest
used_filled n change old new rest same a some u w m e s =
    let f : number_in old w ≡ Some m = ap (λ ns. number_in (record { numbers = ns; slots = old.slots }) w) (sym same) ∙ e in
    ⊎_elim
    (λ (h : number_in old w ≡ Some n). absurd (
    let never : true ≡ false = sym s ∙ ap is_spent (a.here w h) ∙ some (queue_in old w) in cc))
    (λ (h : number_in old w ≢ Some n).
    has_rest m n rest (λ (g : m ≡ n). h (f ∙ ap Some g)) (u w m f (ap is_spent (sym (a.others w h)) ∙ s)))
    (has_it (number_in old w) n)

pub used_stays : (old new : Entries) (rest : List ℕ) → new.numbers ≡ old.numbers → Stays old new → IsUsedBut old rest → IsUsedBut new rest
used_stays old new rest same stays u w m e s =
    u w m (ap (λ ns. number_in (record { numbers = ns; slots = old.slots }) w) (sym same) ∙ e) (ap is_spent (sym (stays w)) ∙ s)

-- words were let go of
pub used_less : (n : ℕ) (old new : Entries) (rest : List ℕ) → LetsGo n old new → IsUsedBut old (n ∷ rest) → IsUsedBut new rest
used_less n old new rest l u w m e s =
    let f : number_in old w ≡ Some m = l.less.numbers w m e in
    ⊎_elim
    (λ (h : m ≡ n). absurd (let never : true ≡ false = sym s ∙ l.used w (e ∙ ap Some h) in cc))
    (λ (h : m ≢ n). has_rest m n rest h (u w m f (ap is_spent (sym (l.others w (λ g. h (some_is m n (sym f ∙ g))))) ∙ s)))
    (split m n)
  where
    split : (i j : ℕ) → (i ≡ j) ⊎ (i ≢ j)
    split i j = ⊎_elim (λ (h : (nat_eq i j ≡ true) × (i ≡ j)). inl h.1) (λ (h : (nat_eq i j ≡ false) × (i ≢ j)). inr h.1) (which_number i j)

-- a word was entered, with this number
pub used_entered : (old new : Entries) (word : List ℕ) (n : ℕ) (rest : List ℕ) → Enters old new → ((w : List ℕ) → number_in new w ≡ cond (bytes_eq w word) (Some n) (number_in old w)) → IsUsedBut old rest → IsUsedBut new (n ∷ rest)
used_entered old new word n rest en numbers u w m e s =
    ⊎_elim
    (λ (h : (bytes_eq w word ≡ true) × (w ≡ word)).
    let is : n ≡ m = some_is n m (sym (numbers w ∙ ap (λ (b : Bool). cond b (Some n) (number_in old w)) h.0) ∙ e) in
    subst (λ (k : ℕ). has_number k (n ∷ rest) ≡ true) is (has_here n rest))
    (λ (h : (bytes_eq w word ≡ false) × (w ≢ word)).
    let f : number_in old w ≡ Some m = sym (numbers w ∙ ap (λ (b : Bool). cond b (Some n) (number_in old w)) h.0) ∙ e in
    has_there m n rest (u w m f (ap is_spent (sym (en.queues w)) ∙ s)))
    (which_word w word)

and_false : (a b : Bool) → b ≡ false → (a && b) ≡ false
and_false true b e = e
and_false false b e = refl

false_and : (a b : Bool) → a ≡ false → (a && b) ≡ false
false_and true b e = absurd (let never : true ≡ false = e in cc)
false_and false b e = refl

not_zero : (n : ℕ) → 0 < n → nat_eq n 0 ≡ false
not_zero n lt = grind arith

pub room_filled : (positions : ℕ) (q : Queue) → is_spent (with_more_room positions q) ≡ false
room_filled positions q = and_false (nat_eq (length q.postings) 0) (nat_eq (q.room + bytes_for positions) 0) (not_zero (q.room + bytes_for positions) (omega arith))

pub posting_filled : (doc : ℕ) (positions : List ℕ) (q : Queue) → is_spent (with_posting doc positions q) ≡ false
posting_filled doc positions q =
    let p : Posting = record { id = doc; positions = positions } in
    false_and (nat_eq (length (q.postings ++ p ∷ [])) 0) _ (not_zero (length (q.postings ++ p ∷ [])) (omega (arith, length-append q.postings (p ∷ []))))

-- ---- the words in byte order

-- a word comes, with its number
listed_more : (es new : List (List ℕ × ℕ)) (order order' : BTreeMap (List ℕ) ℕ) (word : List ℕ) (n : ℕ)
    → ((w : List ℕ) → lookup (λ k. bytes_eq w k) new ≡ cond (bytes_eq w word) (Some n) (lookup (λ k. bytes_eq w k) es))
    → ((w : List ℕ) → get byte_order order' w ≡ cond (is_at (byte_order word) w) (Some n) (get byte_order order w))
    → IsListed es order → IsListed new order'
listed_more es new order order' word n numbers lists listed w m e =
    lists w
    ∙ ap (λ (b : Bool). cond b (Some n) (get byte_order order w)) (is_eq-slice_cmp word w ∙ flips word w)
    ∙ ⊎_elim
    (λ (h : (bytes_eq w word ≡ true) × (w ≡ word)).
    ap (λ (b : Bool). cond b (Some n) (get byte_order order w)) h.0
    ∙ sym (ap (λ (b : Bool). cond b (Some n) (lookup (λ k. bytes_eq w k) es)) h.0)
    ∙ sym (numbers w) ∙ e)
    (λ (h : (bytes_eq w word ≡ false) × (w ≢ word)).
    ap (λ (b : Bool). cond b (Some n) (get byte_order order w)) h.0
    ∙ listed w m (sym (numbers w ∙ ap (λ (b : Bool). cond b (Some n) (lookup (λ k. bytes_eq w k) es)) h.0) ∙ e))
    (which_word w word)

-- a word goes, and may still stand in byte order
pub listed_less : (es new : List (List ℕ × ℕ)) (order order' : BTreeMap (List ℕ) ℕ) (word : List ℕ)
    → ((w : List ℕ) → lookup (λ k. bytes_eq w k) new ≡ cond (bytes_eq w word) None (lookup (λ k. bytes_eq w k) es))
    → KeepsBut word order order' → IsListed es order → IsListed new order'
listed_less es new order order' word numbers keeps listed w m e =
    ⊎_elim
    (λ (h : (bytes_eq w word ≡ true) × (w ≡ word)). none_is_not m _ (sym (numbers w ∙ ap (λ (b : Bool). cond b None (lookup (λ k. bytes_eq w k) es)) h.0) ∙ e))
    (λ (h : (bytes_eq w word ≡ false) × (w ≢ word)).
    keeps w h.0 ∙ listed w m (sym (numbers w ∙ ap (λ (b : Bool). cond b None (lookup (λ k. bytes_eq w k) es)) h.0) ∙ e))
    (which_word w word)

-- ---- all fields of the words

-- the number at the end
used_last : (es : Entries) (n : ℕ) (rest : List ℕ) → IsUsedBut es (n ∷ rest) → IsUsedBut es (rest ++ n ∷ [])
used_last es n rest u w m e s =
    ⊎_elim
    (λ (h : (nat_eq m n ≡ true) × (m ≡ n)). has_right m rest (n ∷ []) (subst (λ (k : ℕ). has_number k (n ∷ []) ≡ true) (sym h.1) (has_here n [])))
    (λ (h : (nat_eq m n ≡ false) × (m ≢ n)). has_left m rest (n ∷ []) (has_rest m n rest h.1 (u w m e s)))
    (which_number m n)

pub record LeavesAll (old new : Entries) (order : BTreeMap (List ℕ) ℕ) (idle : List ℕ) (n : ℕ) : Type 0 where
  pub kept : AreKept new order idle
  pub enters : Enters old new
  pub used : (idle : List ℕ) → IsUsedBut old idle → IsUsedBut new (n ∷ idle)

pub entered_all : (old new : Entries) (order order' : BTreeMap (List ℕ) ℕ) (idle idle' word : List ℕ) (n : ℕ) (s : CachedWord) → AreKept old order idle
    → number_in old word ≡ None → s.word ≡ word → s.queue ≡ no_queue
    → slot_in old.slots n ≡ None → slot_in new.slots n ≡ Some s → ((m : ℕ) → m ≢ n → slot_in new.slots m ≡ slot_in old.slots m)
    → ((w : List ℕ) → number_in new w ≡ cond (bytes_eq w word) (Some n) (number_in old w))
    → ((w : List ℕ) → get byte_order order' w ≡ cond (is_at (byte_order word) w) (Some n) (get byte_order order w))
    → idle' ≡ idle ++ n ∷ []
    → length old.numbers ≤ length new.numbers
    → LeavesAll old new order' idle' n
entered_all old new order order' idle idle' word n s k absent is_word empty free there others numbers lists noted more =
    let e = entered old new word n s k.table absent is_word empty free there others numbers more in
    record {
      kept = record {
        table = e.table;
        listed = listed_more old.numbers new.numbers order order' word n numbers lists k.listed;
        used = subst (IsUsedBut new) (sym noted) (used_last new n idle (used_entered old new word n idle e.enters numbers k.used));
      };
      enters = e.enters;
      used = λ idle. used_entered old new word n idle e.enters numbers;
    }

module _ {X E : Type 0} (n positions : ℕ) (numbers : List (List ℕ × ℕ)) (old new : Slots) where
  pub reserved_kept : (order : BTreeMap (List ℕ) ℕ) (idle : List ℕ) (r : Result X E) → AreKept (record { numbers = numbers; slots = old }) order idle
      → OnOk r (Alters n (with_more_room positions) old new) → OnErr r (Alters n (λ q. q) old new) → AreKept (record { numbers = numbers; slots = new }) order idle
  reserved_kept order idle (Ok x) k a b =
      let before : Entries = record { numbers = numbers; slots = old } in
      let after : Entries = record { numbers = numbers; slots = new } in
      let h = altered n (with_more_room positions) numbers old new k.table a in
      record { table = h.table; listed = k.listed; used = used_filled n (with_more_room positions) before after idle refl h (room_filled positions) (used_more before n idle k.used) }
  reserved_kept order idle (Err e) k a b =
      let before : Entries = record { numbers = numbers; slots = old } in
      let after : Entries = record { numbers = numbers; slots = new } in
      let h = altered n (λ q. q) numbers old new k.table b in
      record { table = h.table; listed = k.listed; used = used_stays before after idle refl (altered_not n before after h) k.used }

  pub reserved_used : (r : Result X E) → IsTable (record { numbers = numbers; slots = old }) → OnOk r (Alters n (with_more_room positions) old new)
      → OnOk r ((idle : List ℕ) → IsUsedBut (record { numbers = numbers; slots = old }) (n ∷ idle) → IsUsedBut (record { numbers = numbers; slots = new }) idle)
  reserved_used r t =
      on_ok r _ _ (λ a idle. used_filled n (with_more_room positions) (record { numbers = numbers; slots = old }) (record { numbers = numbers; slots = new }) idle refl (altered n (with_more_room positions) numbers old new t a) (room_filled positions))

pub pushed_kept : (n doc : ℕ) (positions : List ℕ) (numbers : List (List ℕ × ℕ)) (old new : Slots) (order : BTreeMap (List ℕ) ℕ) (idle : List ℕ) → AreKept (record { numbers = numbers; slots = old }) order idle
    → Alters n (with_posting doc positions) old new → AreKept (record { numbers = numbers; slots = new }) order idle
pushed_kept n doc positions numbers old new order idle k a =
    let before : Entries = record { numbers = numbers; slots = old } in
    let after : Entries = record { numbers = numbers; slots = new } in
    let h = altered n (with_posting doc positions) numbers old new k.table a in
    record { table = h.table; listed = k.listed; used = used_filled n (with_posting doc positions) before after idle refl h (posting_filled doc positions) (used_more before n idle k.used) }

-- a queue lost something, and its word was let go of
pub let_go_kept : (n : ℕ) (change : Queue → Queue) (old now new : Entries) (order order' : BTreeMap (List ℕ) ℕ) (idle : List ℕ) → AreKept old order idle → now.numbers ≡ old.numbers
    → IsAltered n change old now → LetsGo n now new → IsTable new → IsListed new.numbers order' → AreKept new order' idle
let_go_kept n change old now new order order' idle k same a l t listed =
    record { table = t; listed = listed; used = used_less n now new idle l (used_altered n change old now idle same a k.used) }

-- a queue lost something, and its number may be noted
pub altered_kept : (n : ℕ) (change : Queue → Queue) (old now : Entries) (order : BTreeMap (List ℕ) ℕ) (idle : List ℕ) → AreKept old order idle → now.numbers ≡ old.numbers
    → IsAltered n change old now → AreKept now order (n ∷ idle)
altered_kept n change old now order idle k same a =
    record {
      table = a.table;
      listed = subst (λ (ns : List (List ℕ × ℕ)). IsListed ns order) (sym same) k.listed;
      used = used_altered n change old now idle same a k.used;
    }

-- it is noted
pub noted_kept : (es : Entries) (order : BTreeMap (List ℕ) ℕ) (n : ℕ) (idle idle' : List ℕ) → AreKept es order (n ∷ idle) → idle' ≡ idle ++ n ∷ [] → AreKept es order idle'
noted_kept es order n idle idle' k noted =
    record { table = k.table; listed = k.listed; used = subst (IsUsedBut es) (sym noted) (used_last es n idle k.used) }

-- its word was let go of
pub gone_kept : (n : ℕ) (now new : Entries) (order order' : BTreeMap (List ℕ) ℕ) (idle idle' : List ℕ) → AreKept now order (n ∷ idle) → LetsGo n now new → IsTable new → IsListed new.numbers order'
    → idle' ≡ idle → AreKept new order' idle'
gone_kept n now new order order' idle idle' k l t listed same =
    record { table = t; listed = listed; used = subst (IsUsedBut new) (sym same) (used_less n now new idle l k.used) }

-- ---- numbers are taken off the end

has_before : (m n : ℕ) (rest : List ℕ) → nat_eq m n ≡ false → has_number m (rest ++ n ∷ []) ≡ true → has_number m rest ≡ true
has_before m n rest differs e =
    by (has_number m rest) (nat_eq m n) differs (sym (list_any-append (nat_eq m) rest (n ∷ [])) ∙ e)
  where
    by : (b here : Bool) → here ≡ false → (b || (here || false)) ≡ true → b ≡ true
    by true here f g = refl
    by false true f g = absurd (let never : true ≡ false = f in cc)
    by false false f g = g

pub last_off : (all rest : List ℕ) (at n : ℕ) (popped : Option ℕ) → slice_get all at ≡ Some n → popped ≡ Some (slice_index_or all at 0) → all ≡ rest ++ option_to_list popped → all ≡ rest ++ n ∷ []
last_off all rest at n popped last pops ends =
    ends ∙ ap (λ (o : Option ℕ). rest ++ option_to_list o) (pops ∙ ap Some (get_or_from_slice_get all at n 0 last))

spent_at : (es : Entries) (w : List ℕ) (n : ℕ) → IsTable es → number_in es w ≡ Some n → is_spent_at es.slots n ≡ is_spent (queue_in es w)
spent_at es w n t e =
    let f = t.found w n e in
    ap (λ (o : Option CachedWord). option_map_or (λ (x : CachedWord). is_spent x.queue) o false) f.1 ∙ ap is_spent (sym (queue_of_number es w n f.0 e f.1))

-- the last one's word has documents or room
pub used_off : (es : Entries) (n : ℕ) (all rest : List ℕ) → IsTable es → all ≡ rest ++ n ∷ [] → is_spent_at es.slots n ≡ false → IsUsedBut es all → IsUsedBut es rest
used_off es n all rest t ends some u w m e s =
    ⊎_elim
    (λ (h : (nat_eq m n ≡ true) × (m ≡ n)). absurd (
    let never : true ≡ false = sym s ∙ sym (spent_at es w m t e) ∙ ap (is_spent_at es.slots) h.1 ∙ some in cc))
    (λ (h : (nat_eq m n ≡ false) × (m ≢ n)). has_before m n rest h.0 (subst (λ (ns : List ℕ). has_number m ns ≡ true) ends (u w m e s)))
    (which_number m n)
