-- Documents that come in at the back and leave at the front.
use Rattle.std.proofs.Common.{◌≡◌, ◌↔◌, ℕ, ◌+◌, ◌-◌, ◌^◌, ◌<◌, ◌≤◌, List, [], ◌∷◌, ◌++◌, length, take, drop, get_or, append_assoc, Bool, cond, refl, sym, ap, subst, ◌∙◌, arith}
use Rattle.std.proofs.lemmas.Bool.{lt-ltb, le-ltb}
use Rattle.std.proofs.lemmas.List.{append-nil, length-drop, drop-append-le, drop_more, length-append}
use Rattle.fts_ilist.specs.Number.{number_bytes}
use Rattle.fts_ilist.specs.Spelling.{Posting, items_bytes, list_bytes, position_items, posting_items, postings_items, PositionsFrom, ArePositions, PostingsAfter, id_at_end, first_id, HasFirstId}
use Rattle.fts_ilist.specs.Spelling.Item.{document_end}
use Rattle.fts_ilist.specs.Reading.{postings_in, IsTail}
use Rattle.fts_ilist.specs.Progress.{ReadsDocument, first_or}
use Rattle.fts_ilist.specs.Queue.{postings_behind, StandsAt, Passes, IsQueue, HoldsBytes}
use Rattle.fts_ilist.proofs.Codec.{position_fits, id_fits}
use Rattle.fts_ilist.proofs.Groups.{length_number}
use Rattle.fts_ilist.proofs.Items.{bytes_append}
use Rattle.fts_ilist.proofs.Kept.{or_first}
use Rattle.fts_ilist.proofs.Lists.{id_grows}
use Rattle.fts_ilist.proofs.Postings.{postings_in-bytes, postings_items-append, id_at_end-append, PostingsAfter-append, after_lower, id_limit}
use Rattle.fts_ilist.proofs.Reader.{document_bytes}
use Rattle.fts_ilist.proofs.Tails.{none_left, posting_in, document_step, document_tail}

-- ---- which documents stand behind an id

-- all of them
pub all_behind : (doc before : ℕ) (ps : List Posting) → PostingsAfter before ps → doc ≤ before → postings_behind doc ps ≡ ps
all_behind doc before [] h le = refl
all_behind doc before (p ∷ ps) h le =
    let rest = all_behind doc p.id ps h.3 (omega (arith, h.0)) in
    ap (λ (b : Bool). cond b (p ∷ postings_behind doc ps) (postings_behind doc ps)) (lt-ltb doc p.id (omega (arith, h.0)))
    ∙ ap (λ (w : List Posting). p ∷ w) rest

pub all_from_first : (doc id before : ℕ) (ps : List Posting) → PostingsAfter before ps → HasFirstId ps id → doc < id → postings_behind doc ps ≡ ps
all_from_first doc id before [] h has lt = refl
all_from_first doc id before (p ∷ ps) h has lt =
    let above : doc < p.id = omega (arith, has) in
    ap (λ (b : Bool). cond b (p ∷ postings_behind doc ps) (postings_behind doc ps)) (lt-ltb doc p.id above)
    ∙ ap (λ (w : List Posting). p ∷ w) (all_behind doc p.id ps h.3 (omega arith))

-- all of them, where the first does
pub all_behind_first : (doc before : ℕ) (ps : List Posting) → PostingsAfter before ps → doc < first_id ps → postings_behind doc ps ≡ ps
all_behind_first doc before [] h lt = refl
all_behind_first doc before (p ∷ ps) h lt = all_from_first doc p.id before (p ∷ ps) h refl lt

-- none of them, where the last doesn't
pub none_behind : (doc before : ℕ) (ps : List Posting) → PostingsAfter before ps → id_at_end before ps ≤ doc → postings_behind doc ps ≡ []
none_behind doc before [] h le = refl
none_behind doc before (p ∷ ps) h le =
    ap (λ (b : Bool). cond b (p ∷ postings_behind doc ps) (postings_behind doc ps)) (le-ltb doc p.id (omega (arith, le, id_grows p.id ps h.3)))
    ∙ none_behind doc p.id ps h.3 le

-- ---- past the first document

pub passes : (rest : List ℕ) (last id start end doc : ℕ) → IsTail last rest → ReadsDocument rest 0 last id start end → id ≤ doc → Passes rest last doc end id
passes rest last id start end doc t d le =
    let left = postings_behind doc (postings_in id (drop end rest)) in
    let first : Posting = posting_in id (take (end - 1 - start) (drop start rest)) in
    record {
      start = start;
      reads = d;
      up_to = le;
      order = omega (arith, d.front_order, d.order);
      within = d.within;
      tail = document_tail rest last id start end t d;
      same = ap (postings_behind doc) (document_step rest last id start end d)
          ∙ ap (λ (b : Bool). cond b (first ∷ left) left) (le-ltb doc id le);
      end_is = ap (id_at_end last) (document_step rest last id start end d);
    }

pub record StandsBehind (bytes : List ℕ) (at last doc end id : ℕ) : Type 0 where
  pub stands : StandsAt bytes (at + end) id
  pub same : postings_behind doc (postings_in last (drop at bytes)) ≡ postings_behind doc (postings_in id (drop (at + end) bytes))
  pub end_is : id_at_end last (postings_in last (drop at bytes)) ≡ id_at_end id (postings_in id (drop (at + end) bytes))

-- ---- one more document at the back

pub record IsPushed (before doc : ℕ) (tail : List ℕ) (ps : List Posting) : Type 0 where
  pub is_tail : IsTail before tail
  pub view : postings_in before tail ≡ ps
  pub last_is : doc ≡ id_at_end before ps

pub pushed_back : (before last : ℕ) (tail : List ℕ) (d : Posting) (new : List ℕ) → IsTail before tail → last ≡ id_at_end before (postings_in before tail)
    → last < d.id → d.id < 2 ^ 63 → ArePositions d.positions
    → new ≡ tail ++ (number_bytes (d.id - last) ++ (items_bytes (position_items 0 d.positions) ++ 0 ∷ []))
    → IsPushed before d.id new (postings_in before tail ++ d ∷ [])
pushed_back before last tail d new t e above limit are written =
    let old = postings_in before tail in
    let one : number_bytes (d.id - last) ++ (items_bytes (position_items 0 d.positions) ++ 0 ∷ []) ≡ items_bytes (postings_items last (d ∷ []))
    = document_bytes last d.id d.positions [] ∙ append-nil (items_bytes (posting_items last d)) ∙ ap items_bytes (sym (append-nil (posting_items last d))) in
    let spelled : new ≡ items_bytes (postings_items before (old ++ d ∷ []))
    = written
    ∙ ap (λ (w : List ℕ). tail ++ w) one
    ∙ ap (λ (w : List ℕ). w ++ items_bytes (postings_items last (d ∷ []))) t.spelled
    ∙ ap (λ (w : ℕ). items_bytes (postings_items before old) ++ items_bytes (postings_items w (d ∷ []))) e
    ∙ ap (λ (w : List ℕ). items_bytes (postings_items before old) ++ w) (sym (append-nil (items_bytes (postings_items (id_at_end before old) (d ∷ [])))))
    ∙ sym (bytes_append (postings_items before old) (postings_items (id_at_end before old) (d ∷ [])) [])
    ∙ append-nil (items_bytes (postings_items before old ++ postings_items (id_at_end before old) (d ∷ [])))
    ∙ ap items_bytes (sym (postings_items-append before old (d ∷ []))) in
    let after : PostingsAfter before (old ++ d ∷ [])
    = PostingsAfter-append before old (d ∷ []) t.after (omega (arith, e), limit, are, tt) in
    let view : postings_in before new ≡ old ++ d ∷ []
    = ap (postings_in before) spelled ∙ postings_in-bytes before (old ++ d ∷ []) after in
    record {
      is_tail = record { limit = t.limit; after = subst (PostingsAfter before) (sym view) after; spelled = spelled ∙ ap (λ (w : List Posting). items_bytes (postings_items before w)) (sym view) };
      view = view;
      last_is = sym (id_at_end-append before old (d ∷ []));
    }

-- ---- writing positions one after another

pub positions_at : (ps : List ℕ) (i next : ℕ) → i < length ps → PositionsFrom next (drop i ps)
    → (next ≤ get_or ps i 0) × (get_or ps i 0 ≤ 131071) × PositionsFrom (get_or ps i 0 + 1) (drop (i + 1) ps)
positions_at ps i next lt h = subst (PositionsFrom next) (drop_more ps i 0 lt) h

pub increase_fits : (ps : List ℕ) (i next n : ℕ) → i < length ps → PositionsFrom next (drop i ps) → n ≡ get_or ps i 0 + 1 - next → length (number_bytes n) ≤ 3
increase_fits ps i next n lt h e = let p = positions_at ps i next lt h in position_fits n (omega (arith, p.1))

pub one_more_written : (ps : List ℕ) (i next n : ℕ) (old out whole : List ℕ) → i < length ps → n ≡ get_or ps i 0 + 1 - next → out ≡ old ++ number_bytes n
    → old ++ items_bytes (position_items next (drop i ps)) ≡ whole → out ++ items_bytes (position_items (get_or ps i 0 + 1) (drop (i + 1) ps)) ≡ whole
one_more_written ps i next n old out whole lt e written so_far =
    let rest = items_bytes (position_items (get_or ps i 0 + 1) (drop (i + 1) ps)) in
    ap (λ (w : List ℕ). w ++ rest) written
    ∙ ap (λ (w : ℕ). (old ++ number_bytes w) ++ rest) e
    ∙ append_assoc old (number_bytes (get_or ps i 0 + 1 - next)) rest
    ∙ ap (λ (w : List ℕ). old ++ items_bytes (position_items next w)) (sym (drop_more ps i 0 lt))
    ∙ so_far

-- ---- the calls of a queue

pub record IsQueueOf (bytes : List ℕ) (capacity start before first last room : ℕ) (ps : List Posting) : Type 0 where
  pub is_queue : IsQueue bytes capacity start before first last room
  pub view : postings_in before (drop start bytes) ≡ ps

-- without documents the id before is the last one
pub no_documents : (bytes : List ℕ) (capacity last room : ℕ) → bytes ≡ [] → last < 2 ^ 63 → room ≤ capacity → IsQueueOf bytes capacity 0 last 0 last room []
no_documents bytes capacity last room e limit spare =
    let none : postings_in last bytes ≡ [] = none_left last bytes (ap length e) in
    let after : PostingsAfter last (postings_in last bytes) = subst (PostingsAfter last) (sym none) tt in
    record {
      is_queue = record {
        stands = record { within = omega arith; tail = record { limit = limit; after = after; spelled = e ∙ ap (λ (w : List Posting). items_bytes (postings_items last w)) (sym none) } };
        first_is = ap first_id (sym none);
        last_is = ap (id_at_end last) (sym none);
        spare = omega (arith, ap length e, spare);
        lean = omega arith;
      };
      view = none;
    }

pub last_fits : (bytes : List ℕ) (capacity start before first last room : ℕ) → IsQueue bytes capacity start before first last room → last < 2 ^ 63
last_fits bytes capacity start before first last room q =
    let t = q.stands.tail in
    omega (arith, q.last_is, id_limit before (postings_in before (drop start bytes)) t.limit t.after)

pub no_queue : (bytes : List ℕ) (capacity : ℕ) → bytes ≡ [] → IsQueueOf bytes capacity 0 0 0 0 0 []
no_queue bytes capacity e = no_documents bytes capacity 0 0 e (omega arith) (omega arith)

pub queue_pushed : (bytes : List ℕ) (capacity start before first last room : ℕ) (d : Posting) (new : List ℕ) (more left : ℕ) → IsQueue bytes capacity start before first last room
    → last < d.id → d.id < 2 ^ 63 → ArePositions d.positions
    → new ≡ bytes ++ (number_bytes (d.id - last) ++ (items_bytes (position_items 0 d.positions) ++ 0 ∷ []))
    → length new + left ≤ more
    → IsQueueOf new more start before (first_or first d.id) d.id left (postings_in before (drop start bytes) ++ d ∷ [])
queue_pushed bytes capacity start before first last room d new more left q above limit are written spare =
    let s = q.stands in
    let old = postings_in before (drop start bytes) in
    let document = number_bytes (d.id - last) ++ (items_bytes (position_items 0 d.positions) ++ 0 ∷ []) in
    let tail : drop start new ≡ drop start bytes ++ document = ap (drop start) written ∙ drop-append-le start bytes document s.within in
    let p = pushed_back before last (drop start bytes) d (drop start new) s.tail q.last_is above limit are tail in
    record {
      is_queue = record {
        stands = record { within = omega (arith, s.within, ap length written, length-append bytes document); tail = p.is_tail };
        first_is = or_first old (d ∷ []) first d.id (after_lower 0 before old (omega arith) s.tail.after) q.first_is refl ∙ ap first_id (sym p.view);
        last_is = p.last_is ∙ ap (id_at_end before) (sym p.view);
        spare = spare;
        lean = omega (arith, q.lean, ap length written, length-append bytes document);
      };
      view = p.view;
    }

-- no bytes are left exactly where there is no document
pub empty_queue : (bytes : List ℕ) (capacity start before first last room : ℕ) → IsQueue bytes capacity start before first last room → (start ≡ length bytes) ↔ (postings_in before (drop start bytes) ≡ [])
empty_queue bytes capacity start before first last room q =
    let t = q.stands.tail in (
      λ e. none_left before (drop start bytes) (omega (arith, length-drop start bytes)),
      λ none. omega (arith, q.stands.within, length-drop start bytes, ap length t.spelled, ap (λ (w : List Posting). length (items_bytes (postings_items before w))) none),
    )

-- ---- how many bytes it holds

-- the same documents behind two ids
spelled_behind : (a b : ℕ) (ps : List Posting) → PostingsAfter a ps → PostingsAfter b ps → length (items_bytes (postings_items a ps)) ≤ length (items_bytes (postings_items b ps)) + 8
spelled_behind a b [] h k = omega arith
spelled_behind a b (p ∷ ps) h k =
    let body = items_bytes ((position_items 0 p.positions ++ document_end ∷ []) ++ postings_items p.id ps) in
    let low : p.id - a < 2 ^ 63 = omega (arith, h.1) in
    omega (arith, length-append (number_bytes (p.id - a)) body, length-append (number_bytes (p.id - b)) body, id_fits (p.id - a) low, length_number (p.id - b))

pub holds_bytes : (bytes : List ℕ) (capacity start before first last room : ℕ) → IsQueue bytes capacity start before first last room
    → HoldsBytes (length (list_bytes (postings_in before (drop start bytes)))) (length bytes)
holds_bytes bytes capacity start before first last room q =
    let ps = postings_in before (drop start bytes) in
    let t = q.stands.tail in
    let after : PostingsAfter 0 ps = after_lower 0 before ps (omega arith) t.after in
    let used : length (drop start bytes) ≡ length (items_bytes (postings_items before ps)) = ap length t.spelled in
    let down = spelled_behind before 0 ps t.after after in
    let up = spelled_behind 0 before ps after t.after in
    record {
      least = omega (arith, up, used, length-drop start bytes, q.stands.within);
      most = omega (arith, down, used, length-drop start bytes, q.stands.within, q.lean);
    }

pub few_positions : (next : ℕ) (ps : List ℕ) → next ≤ 131072 → PositionsFrom next ps → length ps + next ≤ 131072
few_positions next [] le h = omega arith
few_positions next (p ∷ ps) le h = let rest = few_positions (p + 1) ps (omega (arith, h.1)) h.2 in omega (arith, h.0, rest)
