-- Whole lists: their making, and what is added to them.
use Rattle.std.proofs.Common.{◌≡◌, ℕ, ◌-◌, ◌^◌, ◌<◌, ◌≤◌, List, [], ◌∷◌, ◌++◌, length, get_or, drop, Result, Ok, Err, eqb, refl, sym, ap, subst, ◌∙◌, append_assoc, arith, inl, inr}
use Rattle.std.specs.Result.{MatchResult, is_ok}
use Rattle.std.proofs.lemmas.Bool.{cases_lt, ne_eqb, eq-eqb}
use Rattle.std.proofs.lemmas.List.{append-nil, append_cancel_left, drop_all, get_or_default}
use Rattle.std.proofs.lemmas.List.Folds.{list_any_at, list_any_none}
use Rattle.fts_ilist.specs.Number.{number_bytes}
use Rattle.fts_ilist.specs.Spelling.{Posting, items_bytes, position_items, posting_items, postings_items, list_bytes, ArePositions, PostingsAfter, ArePostings, id_at_end, last_id, HasFirstId}
use Rattle.fts_ilist.specs.Spelling.Item.{document_end}
use Rattle.fts_ilist.specs.Reading.{postings_in, IsTail, IsDocument, IsList}
use Rattle.fts_ilist.specs.Reading.State.{between}
use Rattle.fts_ilist.specs.Fault.{IsFirstFault}
use Rattle.fts_ilist.specs.Progress.{ReadsItems, ReadsIncrease}
use Rattle.fts_ilist.specs.Changes.{is_among}
use Rattle.fts_ilist.proofs.Items.{bytes_append}
use Rattle.fts_ilist.proofs.Postings.{postings_in-bytes, postings_items-append, id_at_end-append, PostingsAfter-append, id_limit}
use Rattle.fts_ilist.proofs.Running.{ends_from}
use Rattle.fts_ilist.proofs.Reader.{same_increase, document_bytes}
use Rattle.fts_ilist.proofs.Tails.{posting_in}

pub record IsMade (last : ℕ) (bytes : List ℕ) (ds : List Posting) : Type 0 where
  pub is_list : IsList last bytes
  pub view : postings_in 0 bytes ≡ ds

-- the bytes that spell documents are a list of them
pub list_made : (ds : List Posting) (last : ℕ) (bytes : List ℕ) → ArePostings ds → bytes ≡ list_bytes ds → last ≡ last_id ds → IsMade last bytes ds
list_made ds last bytes are e l =
    let view : postings_in 0 bytes ≡ ds = ap (postings_in 0) e ∙ postings_in-bytes 0 ds are in
    record {
      is_list = record { are = subst ArePostings (sym view) are; spelled = e ∙ ap list_bytes (sym view); last_is = l ∙ ap last_id (sym view) };
      view = view;
    }

pub one_spelling : (ps qs : List Posting) → ArePostings ps → ArePostings qs → list_bytes ps ≡ list_bytes qs → ps ≡ qs
one_spelling ps qs p q e = sym (postings_in-bytes 0 ps p) ∙ ap (postings_in 0) e ∙ postings_in-bytes 0 qs q

pub empty_made : (bytes : List ℕ) → bytes ≡ [] → IsMade 0 bytes []
empty_made bytes e = list_made [] 0 bytes tt e refl

-- ---- what was read

pub read_list : (bytes : List ℕ) (last : ℕ) → ReadsItems bytes 0 (between 0) (length bytes) (between last) → IsList last bytes
read_list bytes last r =
    let e = ends_from 0 r.items last r.runs in
    let whole : bytes ≡ items_bytes r.items
    = r.parts ∙ ap (λ (w : List ℕ). items_bytes r.items ++ w) (drop_all (length bytes) bytes (omega arith)) ∙ append-nil (items_bytes r.items) in
    (list_made e.postings last bytes e.after (whole ∙ ap items_bytes e.items_are) e.end_is).is_list

pub list_has_no_fault : (bytes : List ℕ) (last at : ℕ) → IsList last bytes → IsFirstFault bytes at → ⊥
list_has_no_fault bytes last at l f = f.unfinished (postings_in 0 bytes) l.are l.spelled

-- ---- the last id

pub id_grows : (last : ℕ) (ds : List Posting) → PostingsAfter last ds → last ≤ id_at_end last ds
id_grows last [] h = omega arith
id_grows last (d ∷ ds) h = omega (arith, h.0, id_grows d.id ds h.3)

none_from_zero : (ds : List Posting) → ArePostings ds → last_id ds ≡ 0 → ds ≡ []
none_from_zero [] h e = refl
none_from_zero (d ∷ ds) h e = absurd (omega (arith, h.0, id_grows d.id ds h.3))

pub empty_from_last : (last : ℕ) (bytes : List ℕ) → IsList last bytes → last ≡ 0 → postings_in 0 bytes ≡ []
empty_from_last last bytes l e = none_from_zero (postings_in 0 bytes) l.are (sym l.last_is ∙ e)

pub last_from_empty : (last : ℕ) (bytes : List ℕ) → IsList last bytes → postings_in 0 bytes ≡ [] → last ≡ 0
last_from_empty last bytes l e = l.last_is ∙ ap last_id e

pub list_limit : (last : ℕ) (bytes : List ℕ) → IsList last bytes → last < 2 ^ 63
list_limit last bytes l = omega (arith, l.last_is, id_limit 0 (postings_in 0 bytes) (omega arith) l.are)

pub list_tail : (last : ℕ) (bytes : List ℕ) → IsList last bytes → IsTail 0 bytes
list_tail last bytes l = record { limit = omega arith; after = l.are; spelled = l.spelled }

-- ---- the first id

first_from : (last : ℕ) (bytes : List ℕ) (ds : List Posting) (id end : ℕ) → bytes ≡ items_bytes (postings_items last ds) → PostingsAfter last ds
    → ReadsIncrease bytes 0 last 9223372036854775807 id end → HasFirstId ds id
first_from last bytes [] id end e h i = absurd (omega (arith, ap length e, i.order, i.within))
first_from last bytes (d ∷ ds) id end e h i =
    let parts : bytes ≡ number_bytes (d.id - last) ++ (items_bytes (position_items 0 d.positions ++ document_end ∷ []) ++ items_bytes (postings_items d.id ds))
    = e ∙ sym (append-nil (items_bytes (posting_items last d ++ postings_items d.id ds)))
    ∙ bytes_append (posting_items last d) (postings_items d.id ds) []
    ∙ ap (λ (w : List ℕ). items_bytes (posting_items last d) ++ w) (append-nil (items_bytes (postings_items d.id ds)))
    ∙ append_assoc (number_bytes (d.id - last)) (items_bytes (position_items 0 d.positions ++ document_end ∷ [])) (items_bytes (postings_items d.id ds)) in
    let same : d.id - last ≡ id - last = same_increase (d.id - last) (id - last) (items_bytes (position_items 0 d.positions ++ document_end ∷ []) ++ items_bytes (postings_items d.id ds)) (drop end bytes) bytes parts i.parts in
    omega (arith, h.0, i.above, same)

pub first_id_of : (last : ℕ) (bytes : List ℕ) (id end : ℕ) → IsTail last bytes → ReadsIncrease bytes 0 last 9223372036854775807 id end → HasFirstId (postings_in last bytes) id
first_id_of last bytes id end t i = first_from last bytes (postings_in last bytes) id end t.spelled t.after i

-- ---- more documents

pub list_append : (last : ℕ) (bytes : List ℕ) (ds : List Posting) (new : List ℕ) → IsList last bytes → PostingsAfter last ds → new ≡ bytes ++ items_bytes (postings_items last ds)
    → IsMade (id_at_end last ds) new (postings_in 0 bytes ++ ds)
list_append last bytes ds new l after e =
    let old = postings_in 0 bytes in
    let spelled : new ≡ list_bytes (old ++ ds)
    = e ∙ ap (λ (w : List ℕ). w ++ items_bytes (postings_items last ds)) l.spelled
    ∙ ap (λ (w : ℕ). list_bytes old ++ items_bytes (postings_items w ds)) l.last_is
    ∙ ap (λ (w : List ℕ). list_bytes old ++ w) (sym (append-nil (items_bytes (postings_items (last_id old) ds))))
    ∙ sym (bytes_append (postings_items 0 old) (postings_items (last_id old) ds) [])
    ∙ append-nil (items_bytes (postings_items 0 old ++ postings_items (last_id old) ds))
    ∙ ap items_bytes (sym (postings_items-append 0 old ds)) in
    list_made (old ++ ds) (id_at_end last ds) new
    (PostingsAfter-append 0 old ds l.are (subst (λ (w : ℕ). PostingsAfter w ds) l.last_is after))
    spelled
    (ap (λ (w : ℕ). id_at_end w ds) l.last_is ∙ sym (id_at_end-append 0 old ds))

pub pushed : (last : ℕ) (bytes : List ℕ) (d : Posting) (new : List ℕ) → IsList last bytes → last < d.id → d.id < 2 ^ 63 → ArePositions d.positions
    → new ≡ bytes ++ (number_bytes (d.id - last) ++ (items_bytes (position_items 0 d.positions) ++ 0 ∷ []))
    → IsMade d.id new (postings_in 0 bytes ++ d ∷ [])
pushed last bytes d new l above limit are e =
    let one : number_bytes (d.id - last) ++ (items_bytes (position_items 0 d.positions) ++ 0 ∷ []) ≡ items_bytes (postings_items last (d ∷ []))
    = document_bytes last d.id d.positions [] ∙ append-nil (items_bytes (posting_items last d)) ∙ ap items_bytes (sym (append-nil (posting_items last d))) in
    list_append last bytes (d ∷ []) new l (above, limit, are, tt) (e ∙ ap (λ (w : List ℕ). bytes ++ w) one)

pub pushed_document : (last : ℕ) (bytes : List ℕ) (id : ℕ) (encoded new : List ℕ) → IsList last bytes → last < id → IsDocument id encoded
    → new ≡ bytes ++ (number_bytes (id - last) ++ (encoded ++ 0 ∷ []))
    → IsMade id new (postings_in 0 bytes ++ posting_in id encoded ∷ [])
pushed_document last bytes id encoded new l above d e =
    pushed last bytes (posting_in id encoded) new l above d.limit d.are_positions
    (e ∙ ap (λ (w : List ℕ). bytes ++ (number_bytes (id - last) ++ (w ++ 0 ∷ []))) d.spelled)

-- only the first increase of a list depends on what stands before
append_from : (last : ℕ) (ds : List Posting) (bytes : List ℕ) (first start : ℕ) → bytes ≡ list_bytes ds → PostingsAfter last ds → ArePostings ds → HasFirstId ds first
    → bytes ≡ number_bytes (first - 0) ++ drop start bytes → (number_bytes (first - last) ++ drop start bytes ≡ items_bytes (postings_items last ds)) × (id_at_end last ds ≡ last_id ds) × (last < first)
append_from last [] bytes first start e after are has parts = absurd has
append_from last (d ∷ ds) bytes first start e after are has parts =
    let body = items_bytes (position_items 0 d.positions ++ document_end ∷ []) in
    let rest = items_bytes (postings_items d.id ds) in
    let spelled : (w : ℕ) → items_bytes (postings_items w (d ∷ ds)) ≡ number_bytes (d.id - w) ++ (body ++ rest)
    = λ w. sym (append-nil (items_bytes (posting_items w d ++ postings_items d.id ds)))
    ∙ bytes_append (posting_items w d) (postings_items d.id ds) []
    ∙ ap (λ (v : List ℕ). items_bytes (posting_items w d) ++ v) (append-nil rest)
    ∙ append_assoc (number_bytes (d.id - w)) body rest in
    let heads : number_bytes (d.id - 0) ++ drop start bytes ≡ number_bytes (d.id - 0) ++ (body ++ rest)
    = ap (λ (w : ℕ). number_bytes (w - 0) ++ drop start bytes) has ∙ sym parts ∙ e ∙ spelled 0 in
    let tail : drop start bytes ≡ body ++ rest = append_cancel_left (number_bytes (d.id - 0)) (drop start bytes) (body ++ rest) heads in
    (ap (λ (w : ℕ). number_bytes (w - last) ++ drop start bytes) (sym has) ∙ ap (λ (w : List ℕ). number_bytes (d.id - last) ++ w) tail ∙ sym (spelled last), refl, omega (arith, has, after.0))

pub record IsAppended (last : ℕ) (bytes : List ℕ) (other_last : ℕ) (other : List ℕ) (first start : ℕ) : Type 0 where
  pub above : last < first
  pub made : (new : List ℕ) → new ≡ bytes ++ (number_bytes (first - last) ++ drop start other) → IsMade other_last new (postings_in 0 bytes ++ postings_in 0 other)

pub appended : (last : ℕ) (bytes : List ℕ) (other_last : ℕ) (other : List ℕ) (first start : ℕ) → IsList last bytes → IsList other_last other
    → PostingsAfter (last_id (postings_in 0 bytes)) (postings_in 0 other) → ReadsIncrease other 0 0 9223372036854775807 first start
    → IsAppended last bytes other_last other first start
appended last bytes other_last other first start l m after i =
    let behind : PostingsAfter last (postings_in 0 other) = subst (λ (w : ℕ). PostingsAfter w (postings_in 0 other)) (sym l.last_is) after in
    let a = append_from last (postings_in 0 other) other first start m.spelled behind m.are (first_id_of 0 other first start (list_tail other_last other m) i) i.parts in
    record {
      above = a.2;
      made = λ new e. subst (λ (w : ℕ). IsMade w new (postings_in 0 bytes ++ postings_in 0 other)) (a.1 ∙ sym m.last_is)
          (list_append last bytes (postings_in 0 other) new l behind (e ∙ ap (λ (w : List ℕ). bytes ++ w) a.0));
    }

-- ---- searches

pub found_is_among : (ids : List ℕ) (id : ℕ) (r : Result ℕ ℕ)
    → MatchResult r (λ i. (i < length ids) × (get_or ids i 0 ≡ id)) (λ i. (i ≤ length ids) × ((k : ℕ) → k < i → get_or ids k 0 < id) × ((k : ℕ) → i ≤ k → k < length ids → id < get_or ids k 0))
    → is_ok r ≡ is_among ids id
found_is_among ids id (Ok i) h = sym (list_any_at (λ other. eqb other id) ids i 0 h.0 (eq-eqb (get_or ids i 0) id h.1))
found_is_among ids id (Err i) h =
    sym (list_any_none (λ other. eqb other id) ids (λ k d lt.
    ap (λ (w : ℕ). eqb w id) (get_or_default ids k d 0 lt)
    ∙ elim (cases_lt k i) [
      | inl below ↦ ne_eqb (get_or ids k 0) id (λ (e : get_or ids k 0 ≡ id). omega (arith, h.1 k below))
      | inr above ↦ ne_eqb (get_or ids k 0) id (λ (e : get_or ids k 0 ≡ id). omega (arith, h.2 k above lt))
    ]))
