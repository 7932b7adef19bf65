-- Documents up to an id, as their bytes stand.
use Rattle.std.proofs.Common.{◌≡◌, ◌≢◌, ℕ, ◌+◌, ◌-◌, ◌^◌, ◌<◌, ◌≤◌, Bool, cond, if◌then◌else◌, List, [], ◌∷◌, ◌++◌, length, take, drop, append_assoc, refl, sym, ap, ap₂, subst, ◌∙◌, arith}
use Rattle.std.proofs.lemmas.Bool.{lt-leb, le-leb, ne_eqb}
use Rattle.std.proofs.lemmas.List.{append-nil, length-append, length-drop, take_at, drop_at, drop-drop, take-append-drop}
use Rattle.std.proofs.lemmas.List.Elements.{filter-append}
use Rattle.std.proofs.Math.Seq.{take-add}
use Rattle.fts_ilist.specs.Number.{number_bytes}
use Rattle.fts_ilist.specs.Spelling.{Posting, items_bytes, position_items, PostingsAfter, id_at_end, first_id, HasFirstId}
use Rattle.fts_ilist.specs.Reading.{postings_in, IsTail, IsKept}
use Rattle.fts_ilist.specs.Progress.{EndsBody, ReadsDocument, first_or}
use Rattle.fts_ilist.specs.Cursor.{postings_until, postings_at, IsInside, IsSpan}
use Rattle.fts_ilist.specs.Queue.{Passes}
use Rattle.fts_ilist.specs.Node.{head_size}
use Rattle.fts_ilist.proofs.Codec.{id_fits}
use Rattle.fts_ilist.proofs.Cursors.{inside_gives}
use Rattle.fts_ilist.proofs.Kept.{kept_more, few_kept}
use Rattle.fts_ilist.proofs.Lists.{IsMade, empty_made, pushed, id_grows}
use Rattle.fts_ilist.proofs.Postings.{no_postings_in}
use Rattle.fts_ilist.proofs.Tails.{document_first}

no_cons : {p : Posting} {ps : List Posting} → p ∷ ps ≡ [] → ⊥
no_cons e = absurd cc

-- ---- which documents stand up to an id

-- none, where all are behind it
pub none_until : (doc low : ℕ) (ps : List Posting) → PostingsAfter low ps → doc ≤ low → postings_until doc ps ≡ []
none_until doc low [] after less = refl
none_until doc low (p ∷ ps) after less =
    ap (λ (b : Bool). cond b (p ∷ postings_until doc ps) (postings_until doc ps)) (lt-leb p.id doc (omega (arith, less, after.0)))
    ∙ none_until doc p.id ps after.3 (omega (arith, less, after.0))

pub none_from_first : (doc id low : ℕ) (ps : List Posting) → PostingsAfter low ps → HasFirstId ps id → doc < id → postings_until doc ps ≡ []
none_from_first doc id low [] after has past = refl
none_from_first doc id low (p ∷ ps) after has past =
    ap (λ (b : Bool). cond b (p ∷ postings_until doc ps) (postings_until doc ps)) (lt-leb p.id doc (omega (arith, has, past)))
    ∙ none_until doc p.id ps after.3 (omega (arith, has, past))

-- none, where the first document is behind it
pub none_at_first : (doc id : ℕ) (bytes : List ℕ) → 0 < id → IsInside id bytes → doc < id → postings_until doc (postings_at id bytes) ≡ []
none_at_first doc id bytes some c past =
    let p : Posting = record { id = id; positions = c.positions } in
    ap (postings_until doc) (inside_gives id bytes some c)
    ∙ none_from_first doc id 0 (p ∷ postings_in id c.behind) (some, c.limit, c.are_positions, c.tail.after) refl past

-- the first document, where it is not, and those behind it
first_until : (doc id : ℕ) (bytes : List ℕ) → 0 < id → (c : IsInside id bytes) → id ≤ doc
    → postings_until doc (postings_at id bytes) ≡ record { id = id; positions = c.positions } ∷ postings_until doc (postings_in id c.behind)
first_until doc id bytes some c up_to =
    let p : Posting = record { id = id; positions = c.positions } in
    let left = postings_until doc (postings_in id c.behind) in
    ap (postings_until doc) (inside_gives id bytes some c)
    ∙ ap (λ (b : Bool). cond b (p ∷ left) left) (le-leb id doc up_to)

pub some_until : (doc id : ℕ) (bytes : List ℕ) → 0 < id → IsInside id bytes → id ≤ doc → postings_until doc (postings_at id bytes) ≢ []
some_until doc id bytes some c up_to none = no_cons (sym (first_until doc id bytes some c up_to) ∙ none)

pub head_until : (doc id : ℕ) (bytes : List ℕ) (head : ℕ) → 0 < id → IsInside id bytes → id ≤ doc → EndsBody bytes head
    → head ≡ head_size (postings_until doc (postings_at id bytes))
head_until doc id bytes head some c up_to ends =
    ends c.positions c.behind c.are_positions c.body ∙ ap head_size (sym (first_until doc id bytes some c up_to))

-- all, where the last does
pub all_until : (doc low : ℕ) (ps : List Posting) → PostingsAfter low ps → id_at_end low ps ≤ doc → postings_until doc ps ≡ ps
all_until doc low [] after h = refl
all_until doc low (p ∷ ps) after h =
    ap (λ (b : Bool). cond b (p ∷ postings_until doc ps) (postings_until doc ps)) (le-leb p.id doc (omega (arith, h, id_grows p.id ps after.3)))
    ∙ ap (λ (w : List Posting). p ∷ w) (all_until doc p.id ps after.3 h)

-- ---- the documents so far, and the rest

pub record IsSpanSoFar (id : ℕ) (bytes : List ℕ) (len last count : ℕ) : Type 0 where
  pub within : len ≤ length bytes
  pub tail : IsTail last (drop len bytes)
  pub kept : IsKept id last count (number_bytes id ++ take len bytes)
  pub same : postings_in 0 (number_bytes id ++ take len bytes) ++ postings_in last (drop len bytes) ≡ postings_at id bytes

none_kept : IsKept 0 0 0 []
none_kept =
    let m = empty_made [] refl in
    record { list = m.is_list; first_is = ap first_id (sym m.view); count_is = ap length (sym m.view) }

-- the document at which the cursor stands
pub starts : (id : ℕ) (bytes : List ℕ) (len : ℕ) → 0 < id → IsInside id bytes → EndsBody bytes len → IsSpanSoFar id bytes len id 1
starts id bytes len some c ends =
    let p : Posting = record { id = id; positions = c.positions } in
    let spelled = items_bytes (position_items 0 c.positions) in
    let e : len ≡ length spelled + 1 = ends c.positions c.behind c.are_positions c.body in
    let whole : bytes ≡ (spelled ++ 0 ∷ []) ++ c.behind = c.body ∙ sym (append_assoc spelled (0 ∷ []) c.behind) in
    let size : length (spelled ++ 0 ∷ []) ≡ len = omega (arith, e, length-append spelled (0 ∷ [])) in
    let front : take len bytes ≡ spelled ++ 0 ∷ [] = ap (take len) whole ∙ take_at (spelled ++ 0 ∷ []) c.behind len size in
    let behind : drop len bytes ≡ c.behind = ap (drop len) whole ∙ drop_at (spelled ++ 0 ∷ []) c.behind len size in
    let z : id ≡ id - 0 = omega arith in
    let m : IsMade id (number_bytes id ++ take len bytes) (postings_in 0 [] ++ p ∷ [])
    = pushed 0 [] p (number_bytes id ++ take len bytes) (empty_made [] refl).is_list some c.limit c.are_positions
    (ap₂ (λ (n : ℕ) (w : List ℕ). number_bytes n ++ w) z front) in
    record {
      within = omega (arith, ap length whole, length-append (spelled ++ 0 ∷ []) c.behind, size);
      tail = subst (IsTail id) (sym behind) c.tail;
      kept = kept_more 0 0 0 [] id id (number_bytes id ++ take len bytes) (p ∷ []) none_kept refl m;
      same = ap₂ (λ (w : List Posting) (v : List ℕ). w ++ postings_in id v) (m.view ∙ ap (λ (w : List Posting). w ++ p ∷ []) (no_postings_in 0)) behind
          ∙ sym (inside_gives id bytes some c);
    }

-- the bytes of the first document
first_bytes : (rest : List ℕ) (last id start end : ℕ) (d : ReadsDocument rest 0 last id start end)
    → take end rest ≡ number_bytes (id - last) ++ (items_bytes (position_items 0 d.positions) ++ 0 ∷ [])
first_bytes rest last id start end d =
    let spelled = items_bytes (position_items 0 d.positions) in
    let number = number_bytes (id - last) in
    let whole : rest ≡ (number ++ (spelled ++ 0 ∷ [])) ++ drop end rest
    = d.front ∙ ap (λ (w : List ℕ). number ++ w) (d.body ∙ sym (append_assoc spelled (0 ∷ []) (drop end rest)))
    ∙ sym (append_assoc number (spelled ++ 0 ∷ []) (drop end rest)) in
    ap (take end) whole
    ∙ take_at (number ++ (spelled ++ 0 ∷ [])) (drop end rest) end
    (omega (arith, ap length whole, length-append (number ++ (spelled ++ 0 ∷ [])) (drop end rest), length-drop end rest, d.within))

first_stays : (first id : ℕ) → 0 < first → first_or first id ≡ first
first_stays first id some = ap (λ b. if b then id else first) (ne_eqb first 0 (λ (z : first ≡ 0). omega arith))

-- one document more
pub goes_on : (id : ℕ) (bytes : List ℕ) (len last count doc end next : ℕ) → 0 < id → IsSpanSoFar id bytes len last count → Passes (drop len bytes) last doc end next
    → IsSpanSoFar id bytes (len + end) next (count + 1)
goes_on id bytes len last count doc end next some so p =
    let rest = drop len bytes in
    let old = number_bytes id ++ take len bytes in
    let new = number_bytes id ++ take (len + end) bytes in
    let d : Posting = record { id = next; positions = p.reads.positions } in
    let behind : drop end rest ≡ drop (len + end) bytes = drop-drop end len bytes ∙ ap (λ (n : ℕ). drop n bytes) (omega arith) in
    let written : new ≡ old ++ (number_bytes (next - last) ++ (items_bytes (position_items 0 p.reads.positions) ++ 0 ∷ []))
    = ap (λ (w : List ℕ). number_bytes id ++ w) (take-add len end bytes)
    ∙ sym (append_assoc (number_bytes id) (take len bytes) (take end rest))
    ∙ ap (λ (w : List ℕ). old ++ w) (first_bytes rest last next p.start end p.reads) in
    let m : IsMade next new (postings_in 0 old ++ d ∷ []) = pushed last old d new so.kept.list p.reads.above p.reads.limit p.reads.are_positions written in
    record {
      within = omega (arith, p.within, length-drop len bytes, so.within);
      tail = subst (IsTail next) behind p.tail;
      kept = subst (λ (n : ℕ). IsKept n next (count + 1) new) (first_stays id next some) (kept_more id last count old next next new (d ∷ []) so.kept refl m);
      same = ap₂ (λ (w : List Posting) (v : List ℕ). w ++ postings_in next v) m.view (sym behind)
          ∙ append_assoc (postings_in 0 old) (d ∷ []) (postings_in next (drop end rest))
          ∙ ap (λ (w : List Posting). postings_in 0 old ++ w) (sym (document_first rest last next p.start end p.reads))
          ∙ so.same;
    }

-- the end: no document up to the id is left
pub ends : (id : ℕ) (bytes : List ℕ) (len last count doc : ℕ) → IsSpanSoFar id bytes len last count → last ≤ doc → postings_until doc (postings_in last (drop len bytes)) ≡ []
    → IsSpan id bytes doc len last count
ends id bytes len last count doc so low none =
    let front = postings_in 0 (number_bytes id ++ take len bytes) in
    let left = postings_in last (drop len bytes) in
    record {
      within = so.within;
      kept = so.kept;
      same = sym (
          ap (postings_until doc) (sym so.same)
          ∙ filter-append _ front left
          ∙ ap₂ (λ (v w : List Posting). v ++ w) (all_until doc 0 front so.kept.list.are (omega (arith, low, so.kept.list.last_is))) none
          ∙ append-nil front
          );
    }

-- about as many documents as bytes, at most
pub few : (id : ℕ) (bytes : List ℕ) (len last count : ℕ) → id < 2 ^ 63 → IsSpanSoFar id bytes len last count → count ≤ length bytes + 9
few id bytes len last count limit so =
    omega (
      arith,
      few_kept id last count (number_bytes id ++ take len bytes) so.kept,
      length-append (number_bytes id) (take len bytes),
      id_fits id limit,
      ap length (take-append-drop len bytes),
      length-append (take len bytes) (drop len bytes),
    )
