-- Nodes that packing would change, told by their ends.
use Rattle.std.proofs.Common.{◌≡◌, ◌≢◌, ℕ, ◌+◌, ◌≤◌, ◌<◌, Bool, true, false, not, ◌||◌, if◌then◌else◌, List, [], ◌∷◌, ◌++◌, length, slice_get, Some, None, ◌-◌, nat_le, refl, sym, ap, subst, ◌∙◌, append_assoc, arith, ⊎_elim, true≢false}
use Rattle.std.proofs.lemmas.Bool.{cases_Bool, le-leb, lt-leb, leb-true}
use Rattle.std.proofs.lemmas.List.{append-nil, length-append}
use Rattle.fts_ilist.specs.Number.{number_bytes}
use Rattle.fts_ilist.specs.Spelling.{Posting, items_bytes, position_items, posting_items, postings_items, list_bytes, id_at_end, HasFirstId, last_id}
use Rattle.fts_ilist.specs.Spelling.Item.{increase, document_end}
use Rattle.fts_ilist.specs.Node.{body_size, head_size}
use Rattle.fts_ilist.specs.Packing.{node_size, has_place, packed_from, packed, joined, AreLoose, is_sound, takes_first, loose_behind, are_loose}
use Rattle.fts_ilist.proofs.Items.{bytes_append}
use Rattle.fts_ilist.proofs.Postings.{postings_items-append}

abbrev Docs : Type 0
Docs = List Posting

-- ---- what both parts of a test say

or_left : (a b : Bool) → (a || b) ≡ false → a ≡ false
or_left false b e = refl
or_left true b e = e

or_right : (a b : Bool) → (a || b) ≡ false → b ≡ false
or_right false b e = e
or_right true b e = absurd (true≢false e)

or_none : (a b : Bool) → a ≡ false → b ≡ false → (a || b) ≡ false
or_none false b e f = f
or_none true b e f = e

not_false : (a : Bool) → not a ≡ false → a ≡ true
not_false true e = refl
not_false false e = absurd (true≢false e)

false_not : (a : Bool) → a ≡ true → not a ≡ false
false_not true e = refl
false_not false e = sym e

-- ---- a node's front takes no more bytes than the node

size_front : (ps qs : Docs) → node_size (ps ++ qs) ≡ node_size ps + length (items_bytes (postings_items (id_at_end 0 ps) qs))
size_front ps qs =
    let rest = postings_items (id_at_end 0 ps) qs in
    let whole : list_bytes (ps ++ qs) ++ [] ≡ list_bytes ps ++ (items_bytes rest ++ []) = ap (λ is. items_bytes is ++ []) (postings_items-append 0 ps qs) ∙ bytes_append (postings_items 0 ps) rest [] in
    omega (arith, ap length whole, length-append (list_bytes (ps ++ qs)) [], length-append (list_bytes ps) (items_bytes rest ++ []), length-append (items_bytes rest) [])

pub front_within : (ps qs : Docs) (limit : ℕ) → node_size (ps ++ qs) ≤ limit → node_size ps ≤ limit
front_within ps qs limit h = omega (arith, h, size_front ps qs)

-- a document adds its increase over the last and its body
one_more : (ps : Docs) (p : Posting) → node_size (ps ++ p ∷ []) ≡ node_size ps + (length (number_bytes (p.id - last_id ps)) + body_size p)
one_more ps p =
    let n = number_bytes (p.id - last_id ps) in
    let body = items_bytes (position_items 0 p.positions) in
    let items = bytes_append (position_items 0 p.positions) (document_end ∷ []) [] in
    omega (
      arith,
      size_front ps (p ∷ []),
      ap (λ is. length (items_bytes is)) (append-nil (posting_items (last_id ps) p)),
      length-append n (items_bytes (position_items 0 p.positions ++ document_end ∷ [])),
      length-append (items_bytes (position_items 0 p.positions ++ document_end ∷ [])) [],
      ap length items,
      length-append body (0 ∷ []),
    )

-- ---- a node has no more documents than bytes, nor its first document

postings_within : (last : ℕ) (ps : Docs) → length ps ≤ length (items_bytes (postings_items last ps))
postings_within last [] = omega arith
postings_within last (p ∷ ps) =
    let body = position_items 0 p.positions ++ document_end ∷ [] in
    let whole : items_bytes (postings_items last (p ∷ ps)) ++ [] ≡ items_bytes (posting_items last p) ++ (items_bytes (postings_items p.id ps) ++ []) = bytes_append (posting_items last p) (postings_items p.id ps) [] in
    let first : items_bytes (posting_items last p) ++ [] ≡ items_bytes (increase (p.id - last) ∷ position_items 0 p.positions) ++ (items_bytes (document_end ∷ []) ++ []) = bytes_append (increase (p.id - last) ∷ position_items 0 p.positions) (document_end ∷ []) [] in
    omega (
      arith,
      postings_within p.id ps,
      ap length whole,
      ap length first,
      length-append (items_bytes (postings_items last (p ∷ ps))) [],
      length-append (items_bytes (posting_items last p)) (items_bytes (postings_items p.id ps) ++ []),
      length-append (items_bytes (postings_items p.id ps)) [],
      length-append (items_bytes (posting_items last p)) [],
      length-append (items_bytes (increase (p.id - last) ∷ position_items 0 p.positions)) (0 ∷ []),
    )

pub count_within : (docs : Docs) → length docs ≤ node_size docs
count_within docs = postings_within 0 docs

-- ---- what is kept of two nodes tells whether one takes the other's first document

pub size_kept : (node : Docs) (next : Docs) (first last head : ℕ) → HasFirstId next first → last ≡ last_id node → head ≡ head_size next
    → takes_first node next ≡ nat_le (node_size node + (length (number_bytes (first - last)) + head)) 8192
size_kept node [] first last head f l h = absurd f
size_kept node (p ∷ ps) first last head f l h =
    let number : number_bytes (p.id - last_id node) ≡ number_bytes (first - last) = ap (λ n. number_bytes (n - last_id node)) f ∙ ap (λ n. number_bytes (first - n)) (sym l) in
    ap (λ n. nat_le n 8192) (omega (arith, one_more node p, ap length number, h))

pub takes_none : (node : Docs) (next : Docs) (head : ℕ) → head ≡ head_size next → 8192 < head → takes_first node next ≡ false
takes_none node [] head h large = refl
takes_none node (p ∷ ps) head h large = lt-leb (node_size (node ++ p ∷ [])) 8192 (omega (arith, one_more node p, h, large))

-- ---- a sound node is packed as it is

packs_front : (b r more : Docs) → node_size (b ++ r) ≤ 8192 → packed_from 8192 b (r ++ more) ≡ packed_from 8192 (b ++ r) more
packs_front b [] more h = ap (λ w. packed_from 8192 w more) (sym (append-nil b))
packs_front b (p ∷ ps) more h =
    let same : (b ++ p ∷ []) ++ ps ≡ b ++ (p ∷ ps) = append_assoc b (p ∷ []) ps in
    let within : node_size ((b ++ p ∷ []) ++ ps) ≤ 8192 = subst (λ w. node_size w ≤ 8192) (sym same) h in
    let has : has_place 8192 b p ≡ true = le-leb (node_size (b ++ p ∷ [])) 8192 (front_within (b ++ p ∷ []) ps 8192 within) in
    ap (λ (t : Bool). if t then packed_from 8192 (b ++ p ∷ []) (ps ++ more) else b ∷ packed_from 8192 (p ∷ []) (ps ++ more)) has
    ∙ packs_front (b ++ p ∷ []) ps more within
    ∙ ap (λ w. packed_from 8192 w more) same

-- documents within the limit are one node
pub packs_one : (ps : Docs) → ps ≢ [] → node_size ps ≤ 8192 → packed ps ≡ ps ∷ []
packs_one [] some h = absurd (some refl)
packs_one (p ∷ ps) some h = ap (packed_from 8192 (p ∷ [])) (sym (append-nil ps)) ∙ packs_front (p ∷ []) ps [] h

packs_sound : (p : Posting) (ps more : Docs) → is_sound (p ∷ ps) ≡ true → packed_from 8192 (p ∷ []) (ps ++ more) ≡ packed_from 8192 (p ∷ ps) more
packs_sound p [] more s = refl
packs_sound p (q ∷ qs) more s = packs_front (p ∷ []) (q ∷ qs) more (leb-true (node_size (p ∷ (q ∷ qs))) 8192 s)

keeps_behind : (n : Docs) (ns : List Docs) → loose_behind n ns ≡ false → packed_from 8192 n (joined ns) ≡ n ∷ ns
keeps_behind n [] e = refl
keeps_behind n ([] ∷ ms) e = absurd (true≢false e)
keeps_behind n ((p ∷ ps) ∷ ms) e =
    let here = or_left (has_place 8192 n p || not (is_sound (p ∷ ps))) (loose_behind (p ∷ ps) ms) e in
    let place : has_place 8192 n p ≡ false = or_left (has_place 8192 n p) (not (is_sound (p ∷ ps))) here in
    let sound : is_sound (p ∷ ps) ≡ true = not_false (is_sound (p ∷ ps)) (or_right (has_place 8192 n p) (not (is_sound (p ∷ ps))) here) in
    ap (λ (t : Bool). if t then packed_from 8192 (n ++ p ∷ []) (ps ++ joined ms) else n ∷ packed_from 8192 (p ∷ []) (ps ++ joined ms)) place
    ∙ ap (λ w. n ∷ w) (packs_sound p ps (joined ms) sound)
    ∙ ap (λ w. n ∷ w) (keeps_behind (p ∷ ps) ms (or_right (has_place 8192 n p || not (is_sound (p ∷ ps))) (loose_behind (p ∷ ps) ms) e))

-- nodes of which none is loose are those that packing makes
pub keeps : (ns : List Docs) → are_loose ns ≡ false → packed (joined ns) ≡ ns
keeps [] e = refl
keeps ([] ∷ ns) e = absurd (true≢false e)
keeps ((p ∷ ps) ∷ ns) e =
    packs_sound p ps (joined ns) (not_false (is_sound (p ∷ ps)) (or_left (not (is_sound (p ∷ ps))) (loose_behind (p ∷ ps) ns) e))
    ∙ keeps_behind (p ∷ ps) ns (or_right (not (is_sound (p ∷ ps))) (loose_behind (p ∷ ps) ns) e)

-- ---- what packing makes is not loose

sound_with : (d : Posting) (ds : Docs) (p : Posting) → is_sound ((d ∷ ds) ++ p ∷ []) ≡ has_place 8192 (d ∷ ds) p
sound_with d [] p = refl
sound_with d (e ∷ es) p = refl

-- nodes whose first begins with these documents
record Begins (n : Docs) (ns : List Docs) : Type 0 where
  more : Docs
  rest : List Docs
  parts : ns ≡ (n ++ more) ∷ rest
  sound : is_sound (n ++ more) ≡ true
  behind : loose_behind (n ++ more) rest ≡ false

begins : (d : Posting) (ds ps : Docs) → is_sound (d ∷ ds) ≡ true → Begins (d ∷ ds) (packed_from 8192 (d ∷ ds) ps)
begins d ds [] s = record {
  more = [];
  rest = [];
  parts = ap (λ (w : Docs). w ∷ []) (sym (append-nil (d ∷ ds)));
  sound = ap is_sound (append-nil (d ∷ ds)) ∙ s;
  behind = refl;
}
begins d ds (p ∷ ps) s =
    ⊎_elim
    (λ (has : has_place 8192 (d ∷ ds) p ≡ true).
    let more = begins d (ds ++ p ∷ []) ps (sound_with d ds p ∙ has) in
    let same : ((d ∷ ds) ++ p ∷ []) ++ more.more ≡ (d ∷ ds) ++ (p ∷ more.more) = append_assoc (d ∷ ds) (p ∷ []) more.more in
    record {
      more = p ∷ more.more;
      rest = more.rest;
      parts = ap (λ (t : Bool). if t then packed_from 8192 ((d ∷ ds) ++ p ∷ []) ps else (d ∷ ds) ∷ packed_from 8192 (p ∷ []) ps) has ∙ more.parts ∙ ap (λ (w : Docs). w ∷ more.rest) same;
      sound = ap is_sound (sym same) ∙ more.sound;
      behind = ap (λ (w : Docs). loose_behind w more.rest) (sym same) ∙ more.behind;
    })
    (λ (none : has_place 8192 (d ∷ ds) p ≡ false).
    let next = begins p [] ps refl in
    record {
      more = [];
      rest = (p ∷ next.more) ∷ next.rest;
      parts = ap (λ (t : Bool). if t then packed_from 8192 ((d ∷ ds) ++ p ∷ []) ps else (d ∷ ds) ∷ packed_from 8192 (p ∷ []) ps) none
          ∙ ap (λ (w : List Docs). (d ∷ ds) ∷ w) next.parts ∙ ap (λ (w : Docs). w ∷ ((p ∷ next.more) ∷ next.rest)) (sym (append-nil (d ∷ ds)));
      sound = ap is_sound (append-nil (d ∷ ds)) ∙ s;
      behind = ap (λ (w : Docs). loose_behind w ((p ∷ next.more) ∷ next.rest)) (append-nil (d ∷ ds))
          ∙ or_none (has_place 8192 (d ∷ ds) p || not (is_sound (p ∷ next.more))) (loose_behind (p ∷ next.more) next.rest)
          (or_none (has_place 8192 (d ∷ ds) p) (not (is_sound (p ∷ next.more))) none (false_not (is_sound (p ∷ next.more)) next.sound)) next.behind;
    })
    (cases_Bool (has_place 8192 (d ∷ ds) p))

packed_sound : (ps : Docs) → are_loose (packed ps) ≡ false
packed_sound [] = refl
packed_sound (p ∷ ps) =
    let all = begins p [] ps refl in
    ap are_loose all.parts ∙ or_none (not (is_sound (p ∷ all.more))) (loose_behind (p ∷ all.more) all.rest) (false_not (is_sound (p ∷ all.more)) all.sound) all.behind

-- ---- the test says what packing does

pub loose_told : (ns : List Docs) → AreLoose ns → are_loose ns ≡ true
loose_told ns loose =
    ⊎_elim
    (λ (e : are_loose ns ≡ true). e)
    (λ (e : are_loose ns ≡ false). absurd (loose (keeps ns e)))
    (cases_Bool (are_loose ns))

pub told_loose : (ns : List Docs) → are_loose ns ≡ true → AreLoose ns
told_loose ns e same = true≢false (sym e ∙ ap are_loose (sym same) ∙ packed_sound (joined ns))

-- ---- a node comes behind the last

or_assoc : (a b c : Bool) → (a || (b || c)) ≡ ((a || b) || c)
or_assoc true b c = refl
or_assoc false b c = refl

or_false : (a : Bool) → (a || false) ≡ a
or_false true = refl
or_false false = refl

-- what one more node says
abbrev pub loose_at : Docs → Docs → Bool
loose_at last node = takes_first last node || not (is_sound node)

behind_with : (n : Docs) (ns : List Docs) (last node : Docs) → slice_get (n ∷ ns) (length ns) ≡ Some last → loose_behind n (ns ++ node ∷ []) ≡ (loose_behind n ns || loose_at last node)
behind_with n [] last node e =
    let same : n ≡ last = (let h : Some n ≡ Some last = e in cc) in
    or_false (loose_at n node) ∙ ap (λ (w : Docs). loose_at w node) same
behind_with n (k ∷ ks) last node e =
    ap (λ b. loose_at n k || b) (behind_with k ks last node e) ∙ or_assoc (loose_at n k) (loose_behind k ks) (loose_at last node)

pub loose_with : (ns : List Docs) (last node : Docs) → slice_get ns (length ns - 1) ≡ Some last → are_loose (ns ++ node ∷ []) ≡ (are_loose ns || loose_at last node)
loose_with [] last node e = absurd (let h : None ≡ Some last = e in cc)
loose_with (n ∷ ns) last node e =
    let at : length (n ∷ ns) - 1 ≡ length ns = omega arith in
    ap (λ b. not (is_sound n) || b) (behind_with n ns last node (ap (slice_get (n ∷ ns)) (sym at) ∙ e)) ∙ or_assoc (not (is_sound n)) (loose_behind n ns) (loose_at last node)

-- and more nodes come
pub loose_more : (ns : List Docs) (more : List Docs) → are_loose ns ≡ true → are_loose (ns ++ more) ≡ true
loose_more [] more e = absurd (true≢false (sym e))
loose_more (n ∷ ns) more e = or_more (not (is_sound n)) (loose_behind n ns) (loose_behind n (ns ++ more)) (behind_more n ns) e
  where
    or_more : (a b c : Bool) → (b ≡ true → c ≡ true) → (a || b) ≡ true → (a || c) ≡ true
    or_more true b c f h = refl
    or_more false b c f h = f h

    behind_more : (n : Docs) (ns : List Docs) → loose_behind n ns ≡ true → loose_behind n (ns ++ more) ≡ true
    behind_more n [] h = absurd (true≢false (sym h))
    behind_more n (k ∷ ks) h = or_more (loose_at n k) (loose_behind k ks) (loose_behind k (ks ++ more)) (behind_more k ks) h

-- a node that is not sound comes
pub loose_unsound : (ns : List Docs) (node : Docs) → is_sound node ≡ false → are_loose (ns ++ node ∷ []) ≡ true
loose_unsound [] node e = ap (λ b. not b || false) e
loose_unsound (n ∷ ns) node e = or_there (not (is_sound n)) (loose_behind n (ns ++ node ∷ [])) (at n ns)
  where
    or_there : (a b : Bool) → b ≡ true → (a || b) ≡ true
    or_there true b h = refl
    or_there false b h = h

    or_here : (a b : Bool) → b ≡ true → ((a || b) || false) ≡ true
    or_here true b h = refl
    or_here false b h = ap (λ t. t || false) h

    at : (n : Docs) (ns : List Docs) → loose_behind n (ns ++ node ∷ []) ≡ true
    at n [] = or_here (takes_first n node) (not (is_sound node)) (ap not e)
    at n (k ∷ ks) = or_there (loose_at n k) (loose_behind k (ks ++ node ∷ [])) (at k ks)

-- a sound node comes behind nodes that are not loose
pub loose_sound : (ns : List Docs) (last node : Docs) → slice_get ns (length ns - 1) ≡ Some last → are_loose ns ≡ false → is_sound node ≡ true → are_loose (ns ++ node ∷ []) ≡ takes_first last node
loose_sound ns last node e tight sound =
    loose_with ns last node e ∙ ap (λ b. b || loose_at last node) tight ∙ ap (λ b. takes_first last node || not b) sound ∙ or_false (takes_first last node)
