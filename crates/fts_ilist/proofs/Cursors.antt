-- A cursor over the bytes of a list: where it begins, and what it leaves.
use Rattle.std.proofs.Common.{◌≡◌, ℕ, zero, suc, ◌+◌, ◌-◌, ◌^◌, ◌<◌, ◌≤◌, List, [], ◌∷◌, ◌++◌, Bool, true, false, cond, nat_le, length, take, drop, refl, sym, ap, subst, ◌∙◌, append_assoc, arith, inl, inr}
use Rattle.std.proofs.lemmas.Bool.{cases_lt}
use Rattle.std.proofs.lemmas.List.{append-nil, length-append, take_at, drop_at}
use Rattle.fts_ilist.specs.Number.{number_bytes, BeginsWithNumber}
use Rattle.fts_ilist.specs.Spelling.{Posting, Item, items_bytes, position_items, posting_items, postings_items, ArePositions, PostingsAfter, HasFirstId}
use Rattle.fts_ilist.specs.Spelling.Item.{document_end}
use Rattle.fts_ilist.specs.Reading.{items_after, postings_of, postings_in, positions_in, IsTail, IsDocument, IsPositionsTail}
use Rattle.fts_ilist.specs.Reading.State.{inside}
use Rattle.fts_ilist.specs.Cursor.{postings_from, first_positions, postings_at, IsInside, IsCursor, IsBelow}
use Rattle.fts_ilist.specs.Progress.{BeginsBody, EndsBody, ReadsDocument, ReadsIncrease}
use Rattle.fts_ilist.proofs.Groups.{reads_end, length_number}
use Rattle.fts_ilist.proofs.Codec.{one_number}
use Rattle.fts_ilist.proofs.Items.{bytes_append, reads_items}
use Rattle.fts_ilist.proofs.Postings.{positions_again, positions_in-bytes, positions_in-before, postings_in-bytes}
use Rattle.fts_ilist.proofs.Tails.{posting_in, no_positions_in, positions_begin, no_positions_begin}

pub at_end : (bytes : List ℕ) → postings_at 0 bytes ≡ []
unfolding postings_at
at_end bytes = refl

-- the document at which it stands, and those behind it
pub inside_gives : (id : ℕ) (bytes : List ℕ) → 0 < id → (c : IsInside id bytes) → postings_at id bytes ≡ record { id = id; positions = c.positions } ∷ postings_in id c.behind
unfolding postings_at
inside_gives zero bytes some c = absurd (omega arith)
inside_gives (suc n) bytes some c =
    ap (postings_of (inside (suc n) 0) []) (ap (items_after 0) c.body ∙ reads_items (position_items 0 c.positions) (0 ∷ c.behind) ∙ ap (λ (w : List Item). position_items 0 c.positions ++ w) (reads_end c.behind))
    ∙ positions_again (suc n) 0 [] c.positions (items_after 0 c.behind) c.are_positions.1

-- ---- from a place between documents

pub record Begins (last : ℕ) (bytes : List ℕ) (id len : ℕ) : Type 0 where
  pub above : last < id
  pub stands : IsInside id (drop len bytes)
  pub same : postings_at id (drop len bytes) ≡ postings_in last bytes

parts_of : (last : ℕ) (d : Posting) (ds : List Posting) → items_bytes (postings_items last (d ∷ ds)) ≡ number_bytes (d.id - last) ++ (items_bytes (position_items 0 d.positions) ++ 0 ∷ items_bytes (postings_items d.id ds))
parts_of last d ds =
    let rest = items_bytes (postings_items d.id ds) in
    let body = items_bytes (position_items 0 d.positions ++ document_end ∷ []) in
    sym (append-nil (items_bytes (posting_items last d ++ postings_items d.id ds)))
    ∙ bytes_append (posting_items last d) (postings_items d.id ds) []
    ∙ ap (λ (w : List ℕ). items_bytes (posting_items last d) ++ w) (append-nil rest)
    ∙ append_assoc (number_bytes (d.id - last)) body rest
    ∙ ap (λ (w : List ℕ). number_bytes (d.id - last) ++ w) (bytes_append (position_items 0 d.positions) (document_end ∷ []) rest)

number_from : (last : ℕ) (bytes : List ℕ) (ds : List Posting) → bytes ≡ items_bytes (postings_items last ds) → PostingsAfter last ds → 0 < length bytes → BeginsWithNumber bytes
number_from last bytes [] e h some = absurd (omega (arith, ap length e))
number_from last bytes (d ∷ ds) e h some =
    (d.id - last, items_bytes (position_items 0 d.positions) ++ 0 ∷ items_bytes (postings_items d.id ds), omega (arith, h.1), e ∙ parts_of last d ds)

pub tail_number : (last : ℕ) (bytes : List ℕ) → IsTail last bytes → 0 < length bytes → BeginsWithNumber bytes
tail_number last bytes t some = number_from last bytes (postings_in last bytes) t.spelled t.after some

inside_of : (d : Posting) (ds : List Posting) (bytes : List ℕ) → d.id < 2 ^ 63 → ArePositions d.positions → PostingsAfter d.id ds → bytes ≡ items_bytes (position_items 0 d.positions) ++ 0 ∷ items_bytes (postings_items d.id ds) → IsInside d.id bytes
inside_of d ds bytes limit are after e =
    let back = postings_in-bytes d.id ds after in
    record {
      limit = limit;
      positions = d.positions;
      are_positions = are;
      behind = items_bytes (postings_items d.id ds);
      body = e;
      tail = record {
        limit = limit;
        after = subst (PostingsAfter d.id) (sym back) after;
        spelled = ap (λ (w : List Posting). items_bytes (postings_items d.id w)) (sym back);
      };
    }

begins_from : (last : ℕ) (bytes : List ℕ) (n len : ℕ) (ds : List Posting) → bytes ≡ items_bytes (postings_items last ds) → PostingsAfter last ds → 0 < length bytes → bytes ≡ number_bytes n ++ drop len bytes
    → (id : ℕ) × (id ≡ last + n) × (last < id) × IsInside id (drop len bytes) × (postings_at id (drop len bytes) ≡ ds)
unfolding inside_of
begins_from last bytes n len [] e h some found = absurd (omega (arith, ap length e))
begins_from last bytes n len (d ∷ ds) e h some found =
    let one = one_number n (d.id - last) (drop len bytes) (items_bytes (position_items 0 d.positions) ++ 0 ∷ items_bytes (postings_items d.id ds)) (sym found ∙ e ∙ parts_of last d ds) in
    let stands = inside_of d ds (drop len bytes) h.1 h.2 h.3 one.1 in
    (d.id, omega (arith, h.0, one.0), h.0, stands, inside_gives d.id (drop len bytes) (omega (arith, h.0)) stands ∙ ap (λ (w : List Posting). d ∷ w) (postings_in-bytes d.id ds h.3))

pub begins : (last : ℕ) (bytes : List ℕ) (n len : ℕ) → IsTail last bytes → 0 < length bytes → bytes ≡ number_bytes n ++ drop len bytes → Begins last bytes (last + n) len
begins last bytes n len t some found =
    let b = begins_from last bytes n len (postings_in last bytes) t.spelled t.after some found in
    subst (λ (w : ℕ). Begins last bytes w len) b.1 (record { above = b.2; stands = b.3; same = b.4 })

pub is_cursor : (id : ℕ) (bytes : List ℕ) → 0 < id → IsInside id bytes → IsCursor id bytes
is_cursor id bytes some stands = record { within = λ more. stands; ended = λ e. absurd (omega arith) }

-- ---- to the document's end

pub body_of : (id : ℕ) (bytes : List ℕ) → IsInside id bytes → BeginsBody bytes
body_of id bytes c = record { positions = c.positions; are_positions = c.are_positions; rest = c.behind; body = c.body }

pub record Goes (id : ℕ) (bytes : List ℕ) (len : ℕ) (positions : List ℕ) : Type 0 where
  pub some : 0 < len
  pub within : len ≤ length bytes
  pub document : IsDocument id (take (len - 1) bytes)
  pub gives : positions_in 0 (take (len - 1) bytes) ≡ positions
  pub tail : IsTail id (drop len bytes)
  pub same : postings_at id bytes ≡ posting_in id (take (len - 1) bytes) ∷ postings_in id (drop len bytes)

pub goes : (id : ℕ) (bytes : List ℕ) (len : ℕ) → 0 < id → (c : IsInside id bytes) → EndsBody bytes len → Goes id bytes len c.positions
goes id bytes len some c ends =
    let spelled = items_bytes (position_items 0 c.positions) in
    let e : len ≡ length spelled + 1 = ends c.positions c.behind c.are_positions c.body in
    let behind : drop len bytes ≡ c.behind
    = ap (drop len) (c.body ∙ sym (append_assoc spelled (0 ∷ []) c.behind)) ∙ drop_at (spelled ++ 0 ∷ []) c.behind len (omega (arith, e, length-append spelled (0 ∷ []))) in
    let encoded : take (len - 1) bytes ≡ spelled = ap (take (len - 1)) c.body ∙ take_at spelled (0 ∷ c.behind) (len - 1) (omega (arith, e)) in
    let gives : positions_in 0 (take (len - 1) bytes) ≡ c.positions = ap (positions_in 0) encoded ∙ positions_in-bytes 0 c.positions c.are_positions.1 in
    record {
      some = omega (arith, e);
      within = omega (arith, e, ap length c.body, length-append spelled (0 ∷ c.behind));
      document = record {
        positive = some;
        limit = c.limit;
        are_positions = subst ArePositions (sym gives) c.are_positions;
        spelled = encoded ∙ ap (λ (w : List ℕ). items_bytes (position_items 0 w)) (sym gives);
      };
      gives = gives;
      tail = subst (IsTail id) (sym behind) c.tail;
      same = inside_gives id bytes some c
          ∙ ap (λ (w : List ℕ). let p : Posting = record { id = id; positions = w } in p ∷ postings_in id c.behind) (sym gives)
          ∙ ap (λ (w : List ℕ). posting_in id (take (len - 1) bytes) ∷ postings_in id w) (sym behind);
    }

-- the first document behind a place, whole
pub begins_document : (last : ℕ) (bytes : List ℕ) (n len more : ℕ) → IsTail last bytes → 0 < length bytes → bytes ≡ number_bytes n ++ drop len bytes → len ≡ length (number_bytes n)
    → EndsBody (drop len bytes) more → ReadsDocument bytes 0 last (last + n) len (len + more)
begins_document last bytes n len more t some found e ends =
    let b = begins last bytes n len t some found in
    let spelled = items_bytes (position_items 0 b.stands.positions) in
    let size : more ≡ length spelled + 1 = ends b.stands.positions b.stands.behind b.stands.are_positions b.stands.body in
    let body : drop len bytes ≡ (spelled ++ 0 ∷ []) ++ b.stands.behind = b.stands.body ∙ sym (append_assoc spelled (0 ∷ []) b.stands.behind) in
    let sizes : length (spelled ++ 0 ∷ []) ≡ more = omega (arith, size, length-append spelled (0 ∷ [])) in
    let whole : bytes ≡ (number_bytes n ++ (spelled ++ 0 ∷ [])) ++ b.stands.behind
    = found ∙ ap (λ (w : List ℕ). number_bytes n ++ w) body ∙ sym (append_assoc (number_bytes n) (spelled ++ 0 ∷ []) b.stands.behind) in
    let behind : drop (len + more) bytes ≡ b.stands.behind
    = ap (drop (len + more)) whole ∙ drop_at (number_bytes n ++ (spelled ++ 0 ∷ [])) b.stands.behind (len + more) (omega (arith, e, sizes, length-append (number_bytes n) (spelled ++ 0 ∷ []))) in
    let back : last + n - last ≡ n = omega arith in
    record {
      positions = b.stands.positions;
      are_positions = b.stands.are_positions;
      above = b.above;
      limit = b.stands.limit;
      front = found ∙ ap (λ (w : ℕ). number_bytes w ++ drop len bytes) (sym back);
      body = b.stands.body ∙ ap (λ (w : List ℕ). spelled ++ 0 ∷ w) (sym behind);
      front_order = omega (arith, e, length_number n);
      order = omega (arith, size);
      within = omega (arith, ap length whole, length-append (number_bytes n ++ (spelled ++ 0 ∷ [])) b.stands.behind, length-append (number_bytes n) (spelled ++ 0 ∷ []), e, sizes);
    }

-- ---- positions

pub positions_there : (id : ℕ) (bytes : List ℕ) → IsCursor id bytes → IsPositionsTail 0 bytes
positions_there id bytes c =
    elim (cases_lt 0 id) [
      | inl some ↦ let w = c.within some in positions_begin w.positions (0 ∷ w.behind) bytes w.are_positions w.body refl
      | inr none ↦ no_positions_begin bytes (c.ended (omega arith))
    ]

pub positions_given : (id : ℕ) (bytes : List ℕ) → IsCursor id bytes → positions_in 0 bytes ≡ first_positions (postings_at id bytes)
positions_given id bytes c =
    elim (cases_lt 0 id) [
      | inl some ↦
          let w = c.within some in
          ap (positions_in 0) w.body ∙ positions_in-before 0 w.positions (0 ∷ w.behind) w.are_positions.1 refl ∙ ap first_positions (sym (inside_gives id bytes some w))
      | inr none ↦
          let e : id ≡ 0 = omega arith in
          no_positions_in 0 bytes (ap length (c.ended e)) ∙ ap first_positions (sym (ap (λ (w : ℕ). postings_at w bytes) e ∙ at_end bytes))
    ]

-- ---- skipping

le_true : (a b : ℕ) → a ≤ b → nat_le a b ≡ true
le_true a b h = grind arith

all_from : (id before : ℕ) (ps : List Posting) → PostingsAfter before ps → id ≤ before → postings_from id ps ≡ ps
all_from id before [] h le = refl
all_from id before (p ∷ ps) h le =
    ap (λ (b : Bool). cond b (p ∷ postings_from id ps) (postings_from id ps)) (le_true id p.id (omega (arith, h.0)))
    ∙ ap (λ (w : List Posting). p ∷ w) (all_from id p.id ps h.3 (omega (arith, h.0)))

le_false : (a b : ℕ) → b < a → nat_le a b ≡ false
le_false a b h = grind arith

first_leaves : (id : ℕ) (p : Posting) (ps : List Posting) → p.id < id → postings_from id ps ≡ postings_from id (p ∷ ps)
first_leaves id p ps lt = sym (ap (λ (b : Bool). cond b (p ∷ postings_from id ps) (postings_from id ps)) (le_false id p.id lt))

first_stays : (id : ℕ) (p : Posting) (ps : List Posting) → PostingsAfter p.id ps → id ≤ p.id → postings_from id (p ∷ ps) ≡ p ∷ ps
first_stays id p ps after le =
    ap (λ (b : Bool). cond b (p ∷ postings_from id ps) (postings_from id ps)) (le_true id p.id le)
    ∙ ap (λ (w : List Posting). p ∷ w) (all_from id p.id ps after le)

true_not_false : (b : Bool) → b ≡ false → b ≡ true → ⊥
true_not_false b e f = absurd cc

pub below_at : (at : ℕ) (bytes : List ℕ) (id : ℕ) (below : Bool) → 0 < at → IsInside at bytes → at < id → below ≡ true → IsBelow id (postings_at at bytes) below
below_at at bytes id below some c lt e =
    let p : Posting = record { id = at; positions = c.positions } in
    subst (λ ps. IsBelow id ps below) (sym (inside_gives at bytes some c)) (record {
      some = λ t. omega arith;
      leaves = λ t. first_leaves id p (postings_in at c.behind) lt;
      stay = λ not. absurd (not e);
    })

pub not_below_at : (at : ℕ) (bytes : List ℕ) (id : ℕ) (below : Bool) → 0 < at → IsInside at bytes → id ≤ at → below ≡ false → IsBelow id (postings_at at bytes) below
not_below_at at bytes id below some c le e =
    let p : Posting = record { id = at; positions = c.positions } in
    subst (λ ps. IsBelow id ps below) (sym (inside_gives at bytes some c)) (record {
      some = λ t. absurd (true_not_false below e t);
      leaves = λ t. absurd (true_not_false below e t);
      stay = λ not. first_stays id p (postings_in at c.behind) c.tail.after le;
    })

pub not_below_end : (at : ℕ) (bytes : List ℕ) (id : ℕ) (below : Bool) → at ≡ 0 → below ≡ false → IsBelow id (postings_at at bytes) below
not_below_end at bytes id below z e =
    subst (λ ps. IsBelow id ps below) (sym (ap (λ (w : ℕ). postings_at w bytes) z ∙ at_end bytes)) (record {
      some = λ t. absurd (true_not_false below e t);
      leaves = λ t. absurd (true_not_false below e t);
      stay = λ not. refl;
    })

pub none_at : (at : ℕ) (bytes : List ℕ) → at ≡ 0 → postings_at at bytes ≡ []
none_at at bytes e = ap (λ (w : ℕ). postings_at w bytes) e ∙ at_end bytes

pub first_at : (at : ℕ) (bytes : List ℕ) → 0 < at → IsInside at bytes → HasFirstId (postings_at at bytes) at
first_at at bytes some c = subst (λ ps. HasFirstId ps at) (sym (inside_gives at bytes some c)) refl

pub rest_at : (at : ℕ) (bytes : List ℕ) (len : ℕ) → 0 < at → IsInside at bytes → EndsBody bytes len → postings_in at (drop len bytes) ≡ drop 1 (postings_at at bytes)
rest_at at bytes len some c ends = ap (drop 1) (sym (goes at bytes len some c ends).same)

-- the first increase of a list
pub first_increase : (bytes : List ℕ) (n len : ℕ) → IsTail 0 bytes → 0 < length bytes → bytes ≡ number_bytes n ++ drop len bytes → len ≡ length (number_bytes n) → ReadsIncrease bytes 0 0 9223372036854775807 n len
first_increase bytes n len t some found e =
    let b = begins 0 bytes n len t some found in
    let z : n - 0 ≡ n = omega arith in
    record {
      above = omega (arith, b.above);
      within_limit = omega (arith, b.stands.limit);
      parts = found ∙ ap (λ (w : ℕ). number_bytes w ++ drop len bytes) (sym z);
      order = omega (arith, e, length_number n);
      within = omega (arith, e, ap length found, length-append (number_bytes n) (drop len bytes));
    }
