-- The words of documents, one after another.
use Rattle.std.proofs.Common.{◌≡◌, ◌≢◌, inl, inr, ⊎_elim, ◌↔◌, ℕ, ◌+◌, ◌*◌, ◌^◌, ◌<◌, ◌≤◌, Bool, true, false, cond, IsTrue, nat_lt, List, [], ◌∷◌, ◌++◌, length, map, sum_by, drop, take, refl, sym, ap, subst, ◌∙◌, append_assoc, zero-add, slice_get, Option, Some, zero, suc, arith}
use Rattle.std.proofs.lemmas.Bool.{lt-ltb, le-ltb, cases_lt}
use Rattle.std.proofs.lemmas.Cmp.{nat_list_cmp_total}
use Rattle.std.proofs.lemmas.List.{drop_more, take_more}
use Rattle.std.proofs.lemmas.Option.{slice_get_within, unwrap_or-slice_get}
use Rattle.std.specs.Option.{unwrap_or}
use Rattle.fts_ilist.proofs.Queues.{few_positions}
use Rattle.std.proofs.lemmas.List.Sums.{sum_by_push, sum_by-cons}
use Rattle.std.specs.Str.{bytes_eq}
use Rattle.std.specs.Cmp.Lexicographic.{slice_cmp}
use Rattle.std.specs.Ordering.{nat_cmp, ordering_then, is_lt}
use Rattle.std.specs.Cmp.{nat_cmp_is}
use Rattle.std.specs.declared.cmp.Ordering.{Ordering}
use Rattle.std.specs.declared.cmp.Ordering.TheVariants.{Less, Equal, Greater}
use Rattle.fts_ilist.specs.Spelling.{Posting, ArePositions}
use Rattle.fts_ilist.specs.Queue.{Queue, bytes_for, postings_behind}
use Rattle.fts_cache.specs.Document.{WordPositions, Document, IsDocument, document_size, words_size, found_words, postings_from, bytes_in, IsBefore, BeginsBefore, EndsBefore, AreWords}
use Rattle.fts_cache.specs.Words.{Entries, queue_in, Changes, Grows, number_in, with_posting, IsPartlyAdded}
use Rattle.fts_cache.proofs.Queues.{which_word, is_same}

-- ---- one more word

begins_push : (word : List ℕ) (ws : List WordPositions) (w : WordPositions) → BeginsBefore word ws → IsBefore word w.word → BeginsBefore word (ws ++ w ∷ [])
begins_push word [] w h before = (before, tt)
begins_push word (v ∷ vs) w h before = (h.0, begins_push word vs w h.1 before)

first_before : (word last : List ℕ) (v : WordPositions) (vs : List WordPositions) → AreWords (v ∷ vs) → IsBefore word v.word → EndsBefore (v ∷ vs) last → IsBefore word last
first_before word last v [] h first end = nat_list_cmp_total.trans word v.word last first end
first_before word last v (u ∷ us) h first end = first_before word last u us h.2 (nat_list_cmp_total.trans word v.word u.word first h.1.0) end

pub words_push : (ws : List WordPositions) (w : WordPositions) → AreWords ws → EndsBefore ws w.word → ArePositions w.positions → AreWords (ws ++ w ∷ [])
words_push [] w h before are = (are, tt, tt)
words_push (v ∷ []) w h before are = (h.0, (before, tt), (are, tt, tt))
words_push (v ∷ (u ∷ us)) w h before are = (h.0, begins_push v.word (u ∷ us) w h.1 (first_before v.word w.word u us h.2 h.1.0 before), words_push (u ∷ us) w h.2 before are)

pub size_push : (ws : List WordPositions) (w : WordPositions) → words_size (ws ++ w ∷ []) ≡ words_size ws + length w.positions * (length w.word + 8)
size_push ws w = sum_by_push (λ (v : WordPositions). length v.positions * (length v.word + 8)) ws w

pub document_push : (id : ℕ) (ws : List WordPositions) (w : WordPositions) (size : ℕ) (old : Document) (new : List WordPositions) → (let d : Document = record { id = id; words = ws } in IsDocument d × (size ≡ document_size d) × (d ≡ old))
    → EndsBefore old.words w.word → ArePositions w.positions → document_size old + length w.positions * (length w.word + 8) < 2 ^ 32 → new ≡ ws ++ w ∷ []
    → (let d : Document = record { id = id; words = new } in IsDocument d × (size + length w.positions * (length w.word + 8) ≡ document_size d))
document_push id ws w size old new h before are small e =
    let more : words_size new ≡ words_size ws + length w.positions * (length w.word + 8) = ap words_size e ∙ size_push ws w in
    let old_size : 16 + words_size ws ≡ document_size old = ap document_size h.2 in
    let ends : EndsBefore ws w.word = subst (λ (d : Document). EndsBefore d.words w.word) (sym h.2) before in (
      record {
        positive = h.0.positive;
        limit = h.0.limit;
        words = subst AreWords (sym e) (words_push ws w h.0.words ends are);
        small = omega (arith, more, old_size, small);
      },
      omega (arith, more, h.1),
    )

-- ---- no word comes twice

not_before_itself : (w : List ℕ) → slice_cmp nat_cmp w w ≡ Equal
not_before_itself [] = refl
not_before_itself (b ∷ bs) = ap (λ (o : Ordering). ordering_then o (slice_cmp nat_cmp bs bs)) (sym (nat_cmp_is b b Equal refl)) ∙ not_before_itself bs

pub not_among : (word : List ℕ) (ws : List WordPositions) → BeginsBefore word ws → found_words word ws ≡ []
not_among word [] h = refl
not_among word (v ∷ vs) h =
    ⊎_elim
    (λ (e : (bytes_eq word v.word ≡ true) × (word ≡ v.word)). absurd (
    let same : Less ≡ Equal = sym h.0 ∙ ap (slice_cmp nat_cmp word) (sym e.1) ∙ not_before_itself word in
    cc))
    (λ (e : (bytes_eq word v.word ≡ false) × (word ≢ v.word)). ap (λ (b : Bool). cond b (v ∷ found_words word vs) (found_words word vs)) e.0 ∙ not_among word vs h.1)
    (which_word word v.word)

-- ---- documents behind an id

pub behind_again : (a b : ℕ) (ps : List Posting) → b ≤ a → postings_behind a (postings_behind b ps) ≡ postings_behind a ps
behind_again a b [] le = refl
behind_again a b (p ∷ ps) le =
    let rest = behind_again a b ps le in
    elim (cases_lt b p.id) [
      | inl lt ↦ ap (λ (t : Bool). postings_behind a (cond t (p ∷ postings_behind b ps) (postings_behind b ps))) (lt-ltb b p.id lt)
          ∙ ap (λ (w : List Posting). cond (nat_lt a p.id) (p ∷ w) w) rest
      | inr low ↦ ap (λ (t : Bool). postings_behind a (cond t (p ∷ postings_behind b ps) (postings_behind b ps))) (le-ltb b p.id low)
          ∙ rest
          ∙ sym (ap (λ (t : Bool). cond t (p ∷ postings_behind a ps) (postings_behind a ps)) (le-ltb a p.id (omega arith)))
    ]

-- ---- one word after another

pub found_here : (w : List ℕ) (v : WordPositions) (vs : List WordPositions) → bytes_eq w v.word ≡ true → found_words w (v ∷ vs) ≡ v ∷ found_words w vs
found_here w v vs e = ap (λ (b : Bool). cond b (v ∷ found_words w vs) (found_words w vs)) e

pub found_later : (w : List ℕ) (v : WordPositions) (vs : List WordPositions) → bytes_eq w v.word ≡ false → found_words w (v ∷ vs) ≡ found_words w vs
found_later w v vs e = ap (λ (b : Bool). cond b (v ∷ found_words w vs) (found_words w vs)) e

-- how many bytes the first word takes in the list of w
pub first_bytes : (w : List ℕ) (v : WordPositions) (vs : List WordPositions) → bytes_in w (v ∷ vs) ≡ cond (bytes_eq w v.word) (bytes_for (length v.positions)) 0 + bytes_in w vs
first_bytes w v vs =
    ⊎_elim
    (λ (h : (bytes_eq w v.word ≡ true) × (w ≡ v.word)).
    ap (sum_by (λ (x : WordPositions). bytes_for (length x.positions))) (found_here w v vs h.0)
    ∙ sum_by-cons (λ (x : WordPositions). bytes_for (length x.positions)) v (found_words w vs)
    ∙ ap (λ (b : Bool). cond b (bytes_for (length v.positions)) 0 + bytes_in w vs) (sym h.0))
    (λ (h : (bytes_eq w v.word ≡ false) × (w ≢ v.word)).
    ap (sum_by (λ (x : WordPositions). bytes_for (length x.positions))) (found_later w v vs h.0)
    ∙ sym (zero-add (bytes_in w vs))
    ∙ ap (λ (b : Bool). cond b (bytes_for (length v.positions)) 0 + bytes_in w vs) (sym h.0))
    (which_word w v.word)

-- the posting that the first word puts into the list of w
pub first_posting : (id : ℕ) (w : List ℕ) (v : WordPositions) (vs : List WordPositions) → w ≡ v.word → postings_from id w (v ∷ vs) ≡ record { id = id; positions = v.positions } ∷ postings_from id w vs
first_posting id w v vs e =
    let shown : WordPositions → Posting = λ x. record { id = id; positions = x.positions } in
    ap (map shown) (found_here w v vs (subst (λ (x : List ℕ). bytes_eq w x ≡ true) e (is_same w)))

-- ---- the words of a document, put in one after another

pub words_at : (ws : List WordPositions) (i : ℕ) (v : WordPositions) → slice_get ws i ≡ Some v → drop i ws ≡ v ∷ drop (i + 1) ws
words_at ws i v e =
    let within = slice_get_within ws i v e in
    drop_more ws i v within ∙ ap (λ (x : WordPositions). x ∷ drop (i + 1) ws) (sym (unwrap_or-slice_get ws i v) ∙ ap (λ (o : Option WordPositions). unwrap_or o v) e)

pub words_until : (ws : List WordPositions) (i : ℕ) (v : WordPositions) → slice_get ws i ≡ Some v → take (i + 1) ws ≡ take i ws ++ v ∷ []
words_until ws i v e =
    let within = slice_get_within ws i v e in
    take_more ws i v within ∙ ap (λ (x : WordPositions). take i ws ++ x ∷ []) (sym (unwrap_or-slice_get ws i v) ∙ ap (λ (o : Option WordPositions). unwrap_or o v) e)

words_drop : (i : ℕ) (ws : List WordPositions) → AreWords ws → AreWords (drop i ws)
words_drop zero ws h = h
words_drop (suc i) [] h = tt
words_drop (suc i) (w ∷ ws) h = words_drop i ws h.2

-- the rest of the words from a word on
pub words_from : (ws : List WordPositions) (i : ℕ) (v : WordPositions) → AreWords ws → slice_get ws i ≡ Some v → AreWords (v ∷ drop (i + 1) ws)
words_from ws i v h e = subst AreWords (words_at ws i v e) (words_drop i ws h)

pub positions_of_word : (ws : List WordPositions) (i : ℕ) (v : WordPositions) → AreWords ws → slice_get ws i ≡ Some v → ArePositions v.positions × (length v.positions ≤ 131072)
positions_of_word ws i v h e =
    let are = (words_from ws i v h e).0 in
    (are, omega (arith, few_positions 0 v.positions (omega arith) are.1))

pub add_one : (d : Document) (v : WordPositions) (vs : List WordPositions) (old now new : Entries) (w : List ℕ) → BeginsBefore v.word vs
    → IsPartlyAdded d (v ∷ vs) old now w → Changes now v.word (with_posting d.id v.positions (queue_in now v.word)) new → bytes_for (length v.positions) ≤ (queue_in now v.word).room → IsPartlyAdded d vs old new w
add_one d v vs old now new w first p h fits =
    let bytes = first_bytes w v vs in
    let shown : Posting = record { id = d.id; positions = v.positions } in
    ⊎_elim
    (λ (e : (bytes_eq w v.word ≡ true) × (w ≡ v.word)).
    let here : queue_in new w ≡ with_posting d.id v.positions (queue_in now w)
    = h w ∙ ap (λ (b : Bool). cond b (with_posting d.id v.positions (queue_in now v.word)) (queue_in now w)) e.0
    ∙ ap (λ (x : List ℕ). with_posting d.id v.positions (queue_in now x)) (sym e.1) in
    let none : bytes_in w vs ≡ 0 = ap (λ (x : List WordPositions). sum_by (λ (y : WordPositions). bytes_for (length y.positions)) x) (ap (λ (x : List ℕ). found_words x vs) e.1 ∙ not_among v.word vs first) in
    let more : bytes_in w (v ∷ vs) ≡ bytes_for (length v.positions) + bytes_in w vs = bytes ∙ ap (λ (b : Bool). cond b (bytes_for (length v.positions)) 0 + bytes_in w vs) e.0 in
    let room : bytes_for (length v.positions) ≤ (queue_in now w).room = subst (λ (x : List ℕ). bytes_for (length v.positions) ≤ (queue_in now x).room) (sym e.1) fits in
    record {
      postings = ap (λ (q : Queue). q.postings ++ postings_from d.id w vs) here
          ∙ append_assoc (queue_in now w).postings (shown ∷ []) (postings_from d.id w vs)
          ∙ ap (λ (x : List Posting). (queue_in now w).postings ++ x) (sym (first_posting d.id w v vs e.1))
          ∙ p.postings;
      last = omega (arith, ap (λ (q : Queue). q.last) here);
      below = λ some. absurd (omega (arith, some, none));
      room = omega (arith, ap (λ (q : Queue). q.room) here, room, more, p.room);
    })
    (λ (e : (bytes_eq w v.word ≡ false) × (w ≢ v.word)).
    let here : queue_in new w ≡ queue_in now w
    = h w ∙ ap (λ (b : Bool). cond b (with_posting d.id v.positions (queue_in now v.word)) (queue_in now w)) e.0 in
    let same : bytes_in w (v ∷ vs) ≡ bytes_in w vs = ap (λ (x : List WordPositions). sum_by (λ (y : WordPositions). bytes_for (length y.positions)) x) (found_later w v vs e.0) in
    record {
      postings = ap (λ (q : Queue). q.postings ++ postings_from d.id w vs) here
          ∙ ap (λ (x : List WordPositions). (queue_in now w).postings ++ map (λ (y : WordPositions). let q : Posting = record { id = d.id; positions = y.positions } in q) x) (sym (found_later w v vs e.0))
          ∙ p.postings;
      last = omega (arith, ap (λ (q : Queue). q.last) here, p.last);
      below = λ some. omega (arith, ap (λ (q : Queue). q.last) here, p.below (omega (arith, some, same)));
      room = omega (arith, ap (λ (q : Queue). q.room) here, same, p.room);
    })
    (which_word w v.word)

-- what a word needs of its queue
pub word_room : (d : Document) (v : WordPositions) (vs : List WordPositions) (old now : Entries) → bytes_in v.word d.words ≤ (queue_in old v.word).room → IsPartlyAdded d (v ∷ vs) old now v.word
    → ((queue_in now v.word).last < d.id) × (bytes_for (length v.positions) ≤ (queue_in now v.word).room)
word_room d v vs old now room p =
    let bytes : bytes_in v.word (v ∷ vs) ≡ bytes_for (length v.positions) + bytes_in v.word vs
    = first_bytes v.word v vs ∙ ap (λ (b : Bool). cond b (bytes_for (length v.positions)) 0 + bytes_in v.word vs) (is_same v.word) in
    (p.below (omega (arith, bytes)), omega (arith, bytes, p.room, room))

-- ---- room for the words of a document

pub reserved_one : (v : WordPositions) (vs : List WordPositions) (now new : Entries) (want : Queue) → Changes now v.word want new → want.room ≡ (queue_in now v.word).room + bytes_for (length v.positions)
    → (w : List ℕ) → (queue_in new w).room + bytes_in w vs ≡ (queue_in now w).room + bytes_in w (v ∷ vs)
reserved_one v vs now new want h room w =
    let bytes = first_bytes w v vs in
    ⊎_elim
    (λ (e : (bytes_eq w v.word ≡ true) × (w ≡ v.word)).
    let here : (queue_in new w).room ≡ want.room = ap (λ (q : Queue). q.room) (h w ∙ ap (λ (b : Bool). cond b want (queue_in now w)) e.0) in
    let same : (queue_in now v.word).room ≡ (queue_in now w).room = ap (λ (x : List ℕ). (queue_in now x).room) (sym e.1) in
    let more : bytes_in w (v ∷ vs) ≡ bytes_for (length v.positions) + bytes_in w vs = bytes ∙ ap (λ (b : Bool). cond b (bytes_for (length v.positions)) 0 + bytes_in w vs) e.0 in
    omega (arith, here, same, more, room))
    (λ (e : (bytes_eq w v.word ≡ false) × (w ≢ v.word)).
    let here : (queue_in new w).room ≡ (queue_in now w).room = ap (λ (q : Queue). q.room) (h w ∙ ap (λ (b : Bool). cond b want (queue_in now w)) e.0) in
    let more : bytes_in w (v ∷ vs) ≡ 0 + bytes_in w vs = bytes ∙ ap (λ (b : Bool). cond b (bytes_for (length v.positions)) 0 + bytes_in w vs) e.0 in
    omega (arith, here, more))
    (which_word w v.word)

pub still_stays : (word : List ℕ) (old now new : Entries) (want : Queue) → Changes now word want new → want.postings ≡ (queue_in now word).postings → want.last ≡ (queue_in now word).last → Grows old now → new.numbers ≡ now.numbers → Grows old new
still_stays word old now new want h postings last s same = record {
  numbers = λ w n e. ap (λ ns. number_in (record { numbers = ns; slots = now.slots }) w) same ∙ s.numbers w n e;
  more = omega (arith, s.more, ap length same);
  postings = λ w. ⊎_elim
      (λ (e : (bytes_eq w word ≡ true) × (w ≡ word)).
      ap (λ (q : Queue). q.postings) (h w ∙ ap (λ (b : Bool). cond b want (queue_in now w)) e.0) ∙ postings ∙ ap (λ (x : List ℕ). (queue_in now x).postings) (sym e.1) ∙ s.postings w)
      (λ (e : (bytes_eq w word ≡ false) × (w ≢ word)). ap (λ (q : Queue). q.postings) (h w ∙ ap (λ (b : Bool). cond b want (queue_in now w)) e.0) ∙ s.postings w)
      (which_word w word);
  last = λ w. ⊎_elim
      (λ (e : (bytes_eq w word ≡ true) × (w ≡ word)).
      ap (λ (q : Queue). q.last) (h w ∙ ap (λ (b : Bool). cond b want (queue_in now w)) e.0) ∙ last ∙ ap (λ (x : List ℕ). (queue_in now x).last) (sym e.1) ∙ s.last w)
      (λ (e : (bytes_eq w word ≡ false) × (w ≢ word)). ap (λ (q : Queue). q.last) (h w ∙ ap (λ (b : Bool). cond b want (queue_in now w)) e.0) ∙ s.last w)
      (which_word w word);
}

-- ---- the last word

ends_at : (word : List ℕ) (ws : List WordPositions) (i : ℕ) (x : WordPositions) → i + 1 ≡ length ws → slice_get ws i ≡ Some x → EndsBefore ws word ↔ IsBefore x.word word
ends_at word [] i x e at = absurd (omega (arith, e))
ends_at word (w ∷ []) zero x e at =
    let same : w ≡ x = ap (λ (o : Option WordPositions). unwrap_or o x) at in
    (λ h. subst (λ (y : WordPositions). IsBefore y.word word) same h, λ h. subst (λ (y : WordPositions). IsBefore y.word word) (sym same) h)
ends_at word (w ∷ []) (suc i) x e at = absurd (omega (arith, e))
ends_at word (w ∷ (v ∷ vs)) zero x e at = absurd (omega (arith, e))
ends_at word (w ∷ (v ∷ vs)) (suc i) x e at = ends_at word (v ∷ vs) i x (omega (arith, e)) at

below : (o : Ordering) → (is_lt o ≡ true) ↔ (o ≡ Less)
below Less = (λ e. refl, λ e. refl)
below Equal = (λ e. absurd cc, λ e. absurd cc)
below Greater = (λ e. absurd cc, λ e. absurd cc)

pub behind_last : (word : List ℕ) (ws : List WordPositions) (i : ℕ) (x : WordPositions) (o : Ordering) (b : Bool) → i + 1 ≡ length ws → slice_get ws i ≡ Some x → o ≡ slice_cmp nat_cmp x.word word → b ≡ is_lt o
    → IsTrue b ↔ EndsBefore ws word
behind_last word ws i x o b e at order test =
    let h = ends_at word ws i x e at in
    let l = below o in
    (λ t. h.1 (sym order ∙ l.0 (sym test ∙ t)), λ f. test ∙ l.1 (order ∙ h.0 f))
