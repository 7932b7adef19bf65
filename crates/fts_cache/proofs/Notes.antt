-- Which documents note which numbers.
use Rattle.std.proofs.Common.{◌≡◌, ◌≢◌, ◌⊎◌, inl, inr, ⊎_elim, ℕ, zero, suc, ◌-◌, ◌<◌, ◌≤◌, length, take, get_or, nat_le, Bool, true, false, cond, ◌&&◌, ◌||◌, nat_eq, List, [], ◌∷◌, ◌++◌, map, Option, Some, None, refl, sym, ap, subst, ◌∙◌, arith}
use Rattle.std.proofs.lemmas.Bool.{cases_lt, lt-ltb, le-ltb}
use Rattle.std.specs.Str.{bytes_eq}
use Rattle.fts_ilist.specs.Spelling.{Posting}
use Rattle.fts_ilist.specs.Queue.{Queue, postings_behind}
use Rattle.fts_cache.specs.declared.cache.Cached.{Cached}
use Rattle.fts_cache.specs.Document.{WordPositions, Document, document_postings, found_words}
use Rattle.fts_cache.specs.Cache.{Ids, IdsAscend, BeginsAbove}
use Rattle.fts_cache.specs.Words.{Entries, number_in, queue_in, has_number, left_of, AreNumbersOf, KeepsNumbers}
use Rattle.fts_ilist.specs.Cursor.{postings_until}
use Rattle.fts_cache.specs.Kept.{kept, notes, AreNoted, NoteWords, NotesUntil}
use Rattle.fts_cache.proofs.Queues.{which_word}
use Rattle.fts_cache.proofs.Table.{which_number, some_is, queue_of_none}
use Rattle.fts_cache.proofs.Documents.{found_later, behind_again}

or_left : (a b : Bool) → a ≡ true → (a || b) ≡ true
or_left true b e = refl
or_left false b e = absurd cc

or_right : (a b : Bool) → b ≡ true → (a || b) ≡ true
or_right true b e = refl
or_right false b e = e

or_rest : (a b : Bool) → (a || b) ≡ true → a ≡ false → b ≡ true
or_rest true b e f = absurd cc
or_rest false b e f = e

and_right : (a b : Bool) → b ≡ false → (a && b) ≡ false
and_right true b e = e
and_right false b e = refl

and_left : (a b : Bool) → a ≡ false → (a && b) ≡ false
and_left true b e = absurd cc
and_left false b e = refl

and_both : (a b : Bool) → a ≡ true → b ≡ true → (a && b) ≡ true
and_both true b e f = f
and_both false b e f = absurd cc

nat_same : (m : ℕ) → nat_eq m m ≡ true
nat_same m = grind arith

-- ---- one more document

either_notes : (a b c : Bool) → (a || b) ≡ true → (b ≡ true → c ≡ true) → (a || c) ≡ true
either_notes true b c e f = refl
either_notes false b c e f = f e

still_notes : (n id : ℕ) (ds es : List Cached) → notes n id ds ≡ true → notes n id (ds ++ es) ≡ true
still_notes n id [] es e = absurd cc
still_notes n id (d ∷ ds) es e = either_notes (nat_eq id d.id && has_number n d.numbers.items) (notes n id ds) (notes n id (ds ++ es)) e (still_notes n id ds es)

last_notes : (n : ℕ) (ds : List Cached) (d : Cached) → has_number n d.numbers.items ≡ true → notes n d.id (ds ++ d ∷ []) ≡ true
last_notes n [] d e = or_left (nat_eq d.id d.id && has_number n d.numbers.items) false (and_both (nat_eq d.id d.id) (has_number n d.numbers.items) (nat_same d.id) e)
last_notes n (x ∷ ds) d e = or_right (nat_eq d.id x.id && has_number n x.numbers.items) (notes n d.id (ds ++ d ∷ [])) (last_notes n ds d e)

noted_later : (n : ℕ) (ps : List Posting) (ds es : List Cached) → AreNoted n ps ds → AreNoted n ps (ds ++ es)
noted_later n [] ds es h = tt
noted_later n (p ∷ ps) ds es h = (still_notes n p.id ds es h.0, noted_later n ps ds es h.1)

noted_with : (n : ℕ) (ps qs : List Posting) (ds : List Cached) → AreNoted n ps ds → AreNoted n qs ds → AreNoted n (ps ++ qs) ds
noted_with n [] qs ds h more = more
noted_with n (p ∷ ps) qs ds h more = (h.0, noted_with n ps qs ds h.1 more)

noted_all : (n id : ℕ) (vs : List WordPositions) (ds : List Cached) → notes n id ds ≡ true → AreNoted n (map (λ (v : WordPositions). let p : Posting = record { id = id; positions = v.positions } in p) vs) ds
noted_all n id [] ds h = tt
noted_all n id (v ∷ vs) ds h = (h, noted_all n id vs ds h)

-- the number of a word that the document has is among these
number_among : (es : Entries) (vs : List WordPositions) (ns : List ℕ) (w : List ℕ) (n : ℕ) → AreNumbersOf es vs ns → number_in es w ≡ Some n → (found_words w vs ≡ []) ⊎ (has_number n ns ≡ true)
number_among es [] ns w n h e = inl refl
number_among es (v ∷ vs) [] w n h e = absurd h
number_among es (v ∷ vs) (m ∷ ms) w n h e =
    ⊎_elim
    (λ (x : (bytes_eq w v.word ≡ true) × (w ≡ v.word)).
    let same : Some n ≡ Some m = sym e ∙ ap (number_in es) x.1 ∙ h.0 in
    inr (or_left (nat_eq n m) (has_number n ms) (is n m same)))
    (λ (x : (bytes_eq w v.word ≡ false) × (w ≢ v.word)).
    ⊎_elim
    (λ (none : found_words w vs ≡ []). inl (found_later w v vs x.0 ∙ none))
    (λ (some : has_number n ms ≡ true). inr (or_right (nat_eq n m) (has_number n ms) some))
    (number_among es vs ms w n h.1 e))
    (which_word w v.word)
  where
    is : (a b : ℕ) → Some a ≡ Some b → nat_eq a b ≡ true
    is a b e = ap (nat_eq a) (sym (some_is a b e)) ∙ nat_same a

pub note_one_more : (old new : Entries) (ds : List Cached) (own : Cached) (d : Document) → own.id ≡ d.id → AreNumbersOf old d.words own.numbers.items → new.numbers ≡ old.numbers
    → ((w : List ℕ) → (queue_in new w).postings ≡ (queue_in old w).postings ++ document_postings w d)
    → NoteWords old ds → NoteWords new (ds ++ own ∷ [])
note_one_more old new ds own d id numbers same added h w n e =
    let before : number_in old w ≡ Some n = at e in
    subst (λ (ps : List Posting). AreNoted n ps (ds ++ own ∷ [])) (sym (added w))
    (noted_with n (queue_in old w).postings (document_postings w d) (ds ++ own ∷ []) (noted_later n (queue_in old w).postings ds (own ∷ []) (h w n before))
    (⊎_elim
    (λ (none : found_words w d.words ≡ []).
    subst (λ (vs : List WordPositions). AreNoted n (map (λ (v : WordPositions). let p : Posting = record { id = d.id; positions = v.positions } in p) vs) (ds ++ own ∷ [])) (sym none) tt)
    (λ (some : has_number n own.numbers.items ≡ true).
    noted_all n d.id (found_words w d.words) (ds ++ own ∷ []) (subst (λ (i : ℕ). notes n i (ds ++ own ∷ []) ≡ true) id (last_notes n ds own some)))
    (number_among old d.words own.numbers.items w n numbers before)))
  where
    at : number_in new w ≡ Some n → number_in old w ≡ Some n
    at f = sym (ap (λ ns. number_in (record { numbers = ns; slots = old.slots }) w) same) ∙ f

-- ---- documents leave

notes_above : (n id low last : ℕ) (ds : List Cached) → Ids low last (kept ds) → notes n id ds ≡ true → low < id
notes_above n id low last [] h e = absurd cc
notes_above n id low last (d ∷ ds) h e =
    ⊎_elim
    (λ (x : (nat_eq id d.id ≡ true) × (id ≡ d.id)). omega (arith, h.0, x.1))
    (λ (x : (nat_eq id d.id ≡ false) × (id ≢ d.id)).
    let rest = notes_above n id d.id last ds h.1 (or_rest (nat_eq id d.id && has_number n d.numbers.items) (notes n id ds) e (and_left (nat_eq id d.id) (has_number n d.numbers.items) x.0)) in
    omega (arith, h.0, rest))
    (which_number id d.id)

all_above : (n low last : ℕ) (ps : List Posting) (ds : List Cached) → Ids low last (kept ds) → AreNoted n ps ds → postings_behind low ps ≡ ps
all_above n low last [] ds ids h = refl
all_above n low last (p ∷ ps) ds ids h =
    ap (λ (b : Bool). cond b (p ∷ postings_behind low ps) (postings_behind low ps)) (lt-ltb low p.id (notes_above n p.id low last ds ids h.0))
    ∙ ap (λ (w : List Posting). p ∷ w) (all_above n low last ps ds ids h.1)

not_noted : (n : ℕ) (ps : List Posting) (d : Cached) (ds : List Cached) → has_number n d.numbers.items ≡ false → AreNoted n ps (d ∷ ds) → AreNoted n ps ds
not_noted n [] d ds e h = tt
not_noted n (p ∷ ps) d ds e h =
    (or_rest (nat_eq p.id d.id && has_number n d.numbers.items) (notes n p.id ds) h.0 (and_right (nat_eq p.id d.id) (has_number n d.numbers.items) e), not_noted n ps d ds e h.1)

first_left : (n doc : ℕ) (ps : List Posting) (d : Cached) (ds : List Cached) → d.id ≤ doc → AreNoted n ps (d ∷ ds) → AreNoted n (postings_behind doc ps) ds
first_left n doc [] d ds up h = tt
first_left n doc (p ∷ ps) d ds up h =
    elim (cases_lt doc p.id) [
      | inl lt ↦ subst (λ (b : Bool). AreNoted n (cond b (p ∷ postings_behind doc ps) (postings_behind doc ps)) ds) (sym (lt-ltb doc p.id lt))
          (or_rest (nat_eq p.id d.id && has_number n d.numbers.items) (notes n p.id ds) h.0 (and_left (nat_eq p.id d.id) (has_number n d.numbers.items) (other p.id d.id (omega (arith, lt, up)))), first_left n doc ps d ds up h.1)
      | inr le ↦ subst (λ (b : Bool). AreNoted n (cond b (p ∷ postings_behind doc ps) (postings_behind doc ps)) ds) (sym (le-ltb doc p.id le)) (first_left n doc ps d ds up h.1)
    ]
  where
    other : (a b : ℕ) → b < a → nat_eq a b ≡ false
    other a b lt = grind arith

-- what the first document's words have left is noted by the others
pub note_rest : (old new : Entries) (doc : ℕ) (d : Cached) (ds : List Cached) → d.id ≤ doc → NoteWords old (d ∷ ds) → KeepsNumbers new old
    → ((w : List ℕ) → (queue_in new w).postings ≡ left_of doc d.numbers.items (number_in old w) (queue_in old w).postings) → NoteWords new ds
note_rest old new doc d ds up h keeps less w n e =
    let before : number_in old w ≡ Some n = keeps w n e in
    let left : (queue_in new w).postings ≡ left_of doc d.numbers.items (Some n) (queue_in old w).postings = less w ∙ ap (λ o. left_of doc d.numbers.items o (queue_in old w).postings) before in
    subst (λ (ps : List Posting). AreNoted n ps ds) (sym left) (by (has_number n d.numbers.items) refl (h w n before))
  where
    by : (b : Bool) → has_number n d.numbers.items ≡ b → AreNoted n (queue_in old w).postings (d ∷ ds) → AreNoted n (cond b (postings_behind doc (queue_in old w).postings) (queue_in old w).postings) ds
    by true f noted = first_left n doc (queue_in old w).postings d ds up noted
    by false f noted = not_noted n (queue_in old w).postings d ds f noted

behind_noted : (n doc : ℕ) (ps : List Posting) (ds : List Cached) → AreNoted n ps ds → AreNoted n (postings_behind doc ps) ds
behind_noted n doc [] ds h = tt
behind_noted n doc (p ∷ ps) ds h =
    elim (cases_lt doc p.id) [
      | inl lt ↦ subst (λ (b : Bool). AreNoted n (cond b (p ∷ postings_behind doc ps) (postings_behind doc ps)) ds) (sym (lt-ltb doc p.id lt)) (h.0, behind_noted n doc ps ds h.1)
      | inr le ↦ subst (λ (b : Bool). AreNoted n (cond b (p ∷ postings_behind doc ps) (postings_behind doc ps)) ds) (sym (le-ltb doc p.id le)) (behind_noted n doc ps ds h.1)
    ]

-- documents were taken out of all queues
pub note_behind : (old new : Entries) (doc : ℕ) (ds : List Cached) → NoteWords old ds → KeepsNumbers new old
    → ((w : List ℕ) → (queue_in new w).postings ≡ postings_behind doc (queue_in old w).postings) → NoteWords new ds
note_behind old new doc ds h keeps less w n e =
    subst (λ (ps : List Posting). AreNoted n ps ds) (sym (less w)) (behind_noted n doc (queue_in old w).postings ds (h w n (keeps w n e)))

-- what is behind doc in the end is behind it already
pub behind_left : (doc : ℕ) (numbers : List ℕ) (o : Option ℕ) (ps : List Posting) → postings_behind doc (left_of doc numbers o ps) ≡ postings_behind doc ps
behind_left doc numbers None ps = refl
behind_left doc numbers (Some n) ps = by (has_number n numbers)
  where
    by : (b : Bool) → postings_behind doc (cond b (postings_behind doc ps) ps) ≡ postings_behind doc ps
    by true = behind_again doc doc ps (omega arith)
    by false = refl

none_in : (words : Entries) (w : List ℕ) → number_in words w ≡ None → (queue_in words w).postings ≡ []
none_in words w e = ap (λ (q : Queue). q.postings) (queue_of_none words w e)

-- where all documents are above an id, so are all postings
pub rest_above : (words : Entries) (doc : ℕ) (ds : List Cached) → BeginsAbove doc (kept ds) → IdsAscend (kept ds) → NoteWords words ds → (w : List ℕ) → postings_behind doc (queue_in words w).postings ≡ (queue_in words w).postings
rest_above words doc ds above ids h w = by (number_in words w) refl
  where
    from : (es : List Cached) → BeginsAbove doc (kept es) → (last : ℕ) → Ids 0 last (kept es) → (top : ℕ) × Ids doc top (kept es)
    from [] a last i = (doc, omega arith)
    from (x ∷ xs) a last i = (last, (a, i.1))

    by : (o : Option ℕ) → number_in words w ≡ o → postings_behind doc (queue_in words w).postings ≡ (queue_in words w).postings
    by None e = ap (postings_behind doc) (none_in words w e) ∙ sym (none_in words w e)
    by (Some n) e =
        let i = from ds above ids.0 ids.1 in
        all_above n doc i.0 (queue_in words w).postings ds i.1 (h w n e)

-- ---- words are entered or let go of

-- ---- the documents up to an id

pub has_left : (n : ℕ) (ms ns : List ℕ) → has_number n ms ≡ true → has_number n (ms ++ ns) ≡ true
has_left n [] ns e = absurd cc
has_left n (m ∷ ms) ns e = either_notes (nat_eq n m) (has_number n ms) (has_number n (ms ++ ns)) e (has_left n ms ns)

pub has_right : (n : ℕ) (ms ns : List ℕ) → has_number n ns ≡ true → has_number n (ms ++ ns) ≡ true
has_right n [] ns e = e
has_right n (m ∷ ms) ns e = or_right (nat_eq n m) (has_number n (ms ++ ns)) (has_right n ms ns e)

and_last : (a b : Bool) → (a && b) ≡ true → b ≡ true
and_last true b e = e
and_last false b e = absurd cc

or_cases : (a b : Bool) → (a || b) ≡ true → (a ≡ true) ⊎ (b ≡ true)
or_cases true b e = inl refl
or_cases false b e = inr e

notes_cases : (n id : ℕ) (ds : List Cached) (d : Cached) → notes n id (ds ++ d ∷ []) ≡ true → (notes n id ds ≡ true) ⊎ (has_number n d.numbers.items ≡ true)
notes_cases n id [] d e = ⊎_elim (λ (h : (nat_eq id d.id && has_number n d.numbers.items) ≡ true). inr (and_last (nat_eq id d.id) (has_number n d.numbers.items) h)) (λ (h : false ≡ true). absurd cc) (or_cases (nat_eq id d.id && has_number n d.numbers.items) false e)
notes_cases n id (x ∷ xs) d e =
    ⊎_elim
    (λ (h : (nat_eq id x.id && has_number n x.numbers.items) ≡ true). inl (or_left (nat_eq id x.id && has_number n x.numbers.items) (notes n id xs) h))
    (λ (h : notes n id (xs ++ d ∷ []) ≡ true).
    ⊎_elim
    (λ (g : notes n id xs ≡ true). inl (or_right (nat_eq id x.id && has_number n x.numbers.items) (notes n id xs) g))
    (λ (g : has_number n d.numbers.items ≡ true). inr g)
    (notes_cases n id xs d h))
    (or_cases (nat_eq id x.id && has_number n x.numbers.items) (notes n id (xs ++ d ∷ [])) e)

-- one more document is noted
pub noted_more : (n id : ℕ) (ds : List Cached) (d : Cached) (numbers new : List ℕ) → new ≡ numbers ++ d.numbers.items → (notes n id ds ≡ true → has_number n numbers ≡ true) → notes n id (ds ++ d ∷ []) ≡ true → has_number n new ≡ true
noted_more n id ds d numbers new e h t =
    ap (has_number n) e
    ∙ ⊎_elim
    (λ (g : notes n id ds ≡ true). has_left n numbers d.numbers.items (h g))
    (λ (g : has_number n d.numbers.items ≡ true). has_right n numbers d.numbers.items g)
    (notes_cases n id ds d t)

-- what notes an id stands before a document above it
pub notes_front : (n id low last i : ℕ) (ds : List Cached) (d : Cached) → Ids low last (kept ds) → i < length ds → id < (get_or ds i d).id → notes n id ds ≡ true → notes n id (take i ds) ≡ true
notes_front n id low last i [] d h lt up e = absurd (omega (arith, lt))
notes_front n id low last zero (x ∷ xs) d h lt up e =
    let least : Ids (x.id - 1) last (kept (x ∷ xs)) = (omega (arith, h.0), h.1) in
    absurd (omega (arith, notes_above n id (x.id - 1) last (x ∷ xs) least e, up))
notes_front n id low last (suc i) (x ∷ xs) d h lt up e =
    either_notes (nat_eq id x.id && has_number n x.numbers.items) (notes n id xs) (notes n id (take i xs)) e (notes_front n id x.id last i xs d h.1 (omega (arith, lt)) up)

-- ---- the words of the documents up to an id

until_some : (doc : ℕ) (ps : List Posting) (n : ℕ) (ds : List Cached) → AreNoted n ps ds → postings_until doc ps ≢ [] → (id : ℕ) × (id ≤ doc) × (notes n id ds ≡ true)
until_some doc [] n ds h some = absurd (some refl)
until_some doc (p ∷ ps) n ds h some = by (until_some doc ps n ds h.1) (nat_le p.id doc) refl
  where
    low : (a b : ℕ) → nat_le a b ≡ true → a ≤ b
    low a b e = grind arith

    by : (postings_until doc ps ≢ [] → (id : ℕ) × (id ≤ doc) × (notes n id ds ≡ true)) → (b : Bool) → nat_le p.id doc ≡ b → (id : ℕ) × (id ≤ doc) × (notes n id ds ≡ true)
    by rest true e = (p.id, low p.id doc e, h.0)
    by rest false e = rest (λ none. some (ap (λ (b : Bool). cond b (p ∷ postings_until doc ps) (postings_until doc ps)) e ∙ none))

-- a word with a document up to an id is noted there
pub word_noted : (words : Entries) (ds : List Cached) (doc : ℕ) (numbers : List ℕ) (w : List ℕ) → NoteWords words ds → NotesUntil doc ds numbers → postings_until doc (queue_in words w).postings ≢ []
    → (n : ℕ) × (number_in words w ≡ Some n) × (has_number n numbers ≡ true) × (postings_until doc (queue_in words w).postings ≢ [])
word_noted words ds doc numbers w h u some = by (number_in words w) refl
  where
    by : (o : Option ℕ) → number_in words w ≡ o → (n : ℕ) × (number_in words w ≡ Some n) × (has_number n numbers ≡ true) × (postings_until doc (queue_in words w).postings ≢ [])
    by None e = absurd (some (ap (postings_until doc) (none_in words w e)))
    by (Some n) e =
        let p = until_some doc (queue_in words w).postings n ds (h w n e) some in
        (n, e, u n p.0 p.1 p.2, some)
