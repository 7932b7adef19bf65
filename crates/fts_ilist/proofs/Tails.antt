-- What an iterator over the bytes of a list has left, step by step.
use Rattle.std.proofs.Common.{◌≡◌, ℕ, ◌+◌, ◌-◌, ◌<◌, ◌≤◌, List, [], ◌∷◌, ◌++◌, length, take, drop, get_or, refl, sym, ap, subst, ◌∙◌, append_assoc, arith}
use Rattle.std.proofs.lemmas.List.{append-nil, length-append, length-drop, append_cancel_left, nil_from_length, take_at}
use Rattle.fts_ilist.specs.Number.{number_bytes, BeginsWithNumber}
use Rattle.fts_ilist.specs.Spelling.{Posting, Item, items_bytes, position_items, posting_items, postings_items, PositionsFrom, ArePositions, PostingsAfter}
use Rattle.fts_ilist.specs.Spelling.Item.{increase}
use Rattle.fts_ilist.specs.Reading.{items_after, postings_of, positions_of, postings_in, positions_in, IsTail, IsPositionsTail}
use Rattle.fts_ilist.specs.Reading.State.{between}
use Rattle.fts_ilist.specs.Progress.{ReadsIncrease, ReadsDocument}
use Rattle.fts_ilist.proofs.Groups.{reads_number, length_number}
use Rattle.fts_ilist.proofs.Codec.{one_number}
use Rattle.fts_ilist.proofs.Items.{bytes_append, reads_items}
use Rattle.fts_ilist.proofs.Postings.{posting_again, no_postings_in, positions_in-bytes, positions_in-before}
use Rattle.fts_ilist.proofs.Reader.{document_bytes}

-- ---- positions

no_positions_of : (next : ℕ) → positions_of next (items_after 0 []) ≡ []
unfolding positions_of items_after
no_positions_of next = refl

pub no_positions_in : (next : ℕ) (bytes : List ℕ) → length bytes ≡ 0 → positions_in next bytes ≡ []
no_positions_in next bytes e = ap (positions_in next) (nil_from_length bytes e) ∙ no_positions_of next

first_position : (next n : ℕ) (items : List Item) → positions_of next (increase n ∷ items) ≡ (next + n - 1) ∷ positions_of (next + n) items
unfolding positions_of
first_position next n items = refl

-- a step gives the first position that was left
pub position_step : (bytes : List ℕ) (next value end : ℕ) → ReadsIncrease bytes 0 next 131072 value end → positions_in next bytes ≡ (value - 1) ∷ positions_in value (drop end bytes)
position_step bytes next value end i =
    let e : next + (value - next) ≡ value = omega (arith, i.above) in
    ap (positions_of next) (ap (items_after 0) i.parts ∙ reads_number (value - next) (drop end bytes))
    ∙ first_position next (value - next) (items_after 0 (drop end bytes))
    ∙ ap (λ (w : ℕ). (w - 1) ∷ positions_of w (items_after 0 (drop end bytes))) e

pub position_tail : (bytes : List ℕ) (next value end : ℕ) → IsPositionsTail next bytes → ReadsIncrease bytes 0 next 131072 value end → IsPositionsTail value (drop end bytes)
position_tail bytes next value end t i =
    let rest = positions_in value (drop end bytes) in
    let step = position_step bytes next value end i in
    let e : value - 1 + 1 ≡ value = omega (arith, i.above) in
    let from : PositionsFrom next ((value - 1) ∷ rest) = subst (PositionsFrom next) step t.from in
    let spelled : bytes ≡ number_bytes (value - next) ++ (items_bytes (position_items value rest) ++ t.behind)
    = t.spelled ∙ ap (λ (w : List ℕ). items_bytes (position_items next w) ++ t.behind) step
    ∙ ap (λ (w : ℕ). (number_bytes (w - next) ++ items_bytes (position_items w rest)) ++ t.behind) e
    ∙ append_assoc (number_bytes (value - next)) (items_bytes (position_items value rest)) t.behind in
    record {
      limit = i.within_limit;
      from = subst (λ (w : ℕ). PositionsFrom w rest) e from.2;
      behind = t.behind;
      spelled = append_cancel_left (number_bytes (value - next)) (drop end bytes) (items_bytes (position_items value rest) ++ t.behind) (sym i.parts ∙ spelled);
      ended = t.ended;
    }

-- positions that are left begin with a number
pub record HasPosition (next : ℕ) (bytes : List ℕ) : Type 0 where
  pub number : ℕ
  pub rest : List ℕ
  pub spelled : bytes ≡ number_bytes number ++ rest
  pub positive : 0 < number
  pub limit : next + number ≤ 131072

has_position : (next : ℕ) (bytes ps behind : List ℕ) → bytes ≡ items_bytes (position_items next ps) ++ behind → PositionsFrom next ps → get_or behind 0 0 ≡ 0 → (get_or bytes 0 0 ≡ 0 → ⊥) → HasPosition next bytes
has_position next bytes [] behind e from ended some = absurd (some (ap (λ (w : List ℕ). get_or w 0 0) e ∙ ended))
has_position next bytes (p ∷ ps) behind e from ended some = record {
  number = p + 1 - next;
  rest = items_bytes (position_items (p + 1) ps) ++ behind;
  spelled = e ∙ append_assoc (number_bytes (p + 1 - next)) (items_bytes (position_items (p + 1) ps)) behind;
  positive = omega (arith, from.0);
  limit = omega (arith, from.0, from.1);
}

pub tail_has_position : (next : ℕ) (bytes : List ℕ) → IsPositionsTail next bytes → (get_or bytes 0 0 ≡ 0 → ⊥) → HasPosition next bytes
tail_has_position next bytes t some = has_position next bytes (positions_in next bytes) t.behind t.spelled t.from t.ended some

pub position_number : (next : ℕ) (bytes : List ℕ) → HasPosition next bytes → BeginsWithNumber bytes
position_number next bytes h = (h.number, h.rest, omega (arith, h.limit), h.spelled)

pub position_increase : (next : ℕ) (bytes : List ℕ) (n len : ℕ) → HasPosition next bytes → bytes ≡ number_bytes n ++ drop len bytes → len ≡ length (number_bytes n) → ReadsIncrease bytes 0 next 131072 (next + n) len
position_increase next bytes n len h found e =
    let same : n ≡ h.number = (one_number n h.number (drop len bytes) h.rest (sym found ∙ h.spelled)).0 in
    let back : next + n - next ≡ n = omega arith in
    record {
      above = omega (arith, h.positive, same);
      within_limit = omega (arith, h.limit, same);
      parts = found ∙ ap (λ (w : ℕ). number_bytes w ++ drop len bytes) (sym back);
      order = omega (arith, length_number n, e);
      within = omega (arith, ap length found, length-append (number_bytes n) (drop len bytes), e);
    }

-- the positions of a document, up to its end
pub positions_begin : (ps behind bytes : List ℕ) → ArePositions ps → bytes ≡ items_bytes (position_items 0 ps) ++ behind → get_or behind 0 0 ≡ 0 → IsPositionsTail 0 bytes
positions_begin ps behind bytes are e ended =
    let gives : positions_in 0 bytes ≡ ps = ap (positions_in 0) e ∙ positions_in-before 0 ps behind are.1 ended in
    record {
      limit = omega arith;
      from = subst (PositionsFrom 0) (sym gives) are.1;
      behind = behind;
      spelled = e ∙ ap (λ (w : List ℕ). items_bytes (position_items 0 w) ++ behind) (sym gives);
      ended = ended;
    }

pub no_positions_begin : (bytes : List ℕ) → bytes ≡ [] → IsPositionsTail 0 bytes
no_positions_begin bytes e =
    let gives : positions_in 0 bytes ≡ [] = no_positions_in 0 bytes (ap length e) in
    record {
      limit = omega arith;
      from = subst (PositionsFrom 0) (sym gives) tt;
      behind = [];
      spelled = e ∙ ap (λ (w : List ℕ). items_bytes (position_items 0 w) ++ []) (sym gives);
      ended = refl;
    }

-- ---- documents

pub none_left : (last : ℕ) (bytes : List ℕ) → length bytes ≡ 0 → postings_in last bytes ≡ []
none_left last bytes e = ap (postings_in last) (nil_from_length bytes e) ∙ no_postings_in last

abbrev pub posting_in : ℕ → List ℕ → Posting
posting_in id encoded = record { id = id; positions = positions_in 0 encoded }

document_parts : (bytes : List ℕ) (last id start end : ℕ) (d : ReadsDocument bytes 0 last id start end)
    → bytes ≡ items_bytes (posting_items last (record { id = id; positions = d.positions })) ++ drop end bytes
document_parts bytes last id start end d =
    d.front ∙ ap (λ (w : List ℕ). number_bytes (id - last) ++ w) d.body ∙ document_bytes last id d.positions (drop end bytes)

-- the part between is the spelling of the positions
encoded_is : (bytes : List ℕ) (last id start end : ℕ) (d : ReadsDocument bytes 0 last id start end) → take (end - 1 - start) (drop start bytes) ≡ items_bytes (position_items 0 d.positions)
encoded_is bytes last id start end d =
    let spelled = items_bytes (position_items 0 d.positions) in
    let len : length spelled ≡ end - 1 - start
    = omega (arith, ap length d.body, length-append spelled (0 ∷ drop end bytes), length-drop start bytes, length-drop end bytes, d.order, d.within) in
    ap (take (end - 1 - start)) d.body ∙ take_at spelled (0 ∷ drop end bytes) (end - 1 - start) len

encoded_gives : (bytes : List ℕ) (last id start end : ℕ) (d : ReadsDocument bytes 0 last id start end) → positions_in 0 (take (end - 1 - start) (drop start bytes)) ≡ d.positions
encoded_gives bytes last id start end d = ap (positions_in 0) (encoded_is bytes last id start end d) ∙ positions_in-bytes 0 d.positions d.are_positions.1

-- the first document that was left
pub document_first : (bytes : List ℕ) (last id start end : ℕ) (d : ReadsDocument bytes 0 last id start end)
    → postings_in last bytes ≡ record { id = id; positions = d.positions } ∷ postings_in id (drop end bytes)
document_first bytes last id start end d =
    let p : Posting = record { id = id; positions = d.positions } in
    ap (postings_of (between last) []) (ap (items_after 0) (document_parts bytes last id start end d) ∙ reads_items (posting_items last p) (drop end bytes))
    ∙ posting_again last p (items_after 0 (drop end bytes)) d.above d.are_positions

-- a step gives it
pub document_step : (bytes : List ℕ) (last id start end : ℕ) → ReadsDocument bytes 0 last id start end
    → postings_in last bytes ≡ posting_in id (take (end - 1 - start) (drop start bytes)) ∷ postings_in id (drop end bytes)
document_step bytes last id start end d =
    document_first bytes last id start end d
    ∙ ap (λ (w : List ℕ). let q : Posting = record { id = id; positions = w } in q ∷ postings_in id (drop end bytes)) (sym (encoded_gives bytes last id start end d))

pub document_tail : (bytes : List ℕ) (last id start end : ℕ) → IsTail last bytes → ReadsDocument bytes 0 last id start end → IsTail id (drop end bytes)
document_tail bytes last id start end t d =
    let p : Posting = record { id = id; positions = d.positions } in
    let rest = postings_in id (drop end bytes) in
    let step : postings_in last bytes ≡ p ∷ rest = document_first bytes last id start end d in
    let after : PostingsAfter last (p ∷ rest) = subst (PostingsAfter last) step t.after in
    let spelled : bytes ≡ items_bytes (posting_items last p) ++ items_bytes (postings_items id rest)
    = t.spelled ∙ ap (λ (w : List Posting). items_bytes (postings_items last w)) step
    ∙ sym (append-nil (items_bytes (posting_items last p ++ postings_items id rest)))
    ∙ bytes_append (posting_items last p) (postings_items id rest) []
    ∙ ap (λ (w : List ℕ). items_bytes (posting_items last p) ++ w) (append-nil (items_bytes (postings_items id rest))) in
    record {
      limit = d.limit;
      after = after.3;
      spelled = append_cancel_left (items_bytes (posting_items last p)) (drop end bytes) (items_bytes (postings_items id rest)) (sym (document_parts bytes last id start end d) ∙ spelled);
    }
