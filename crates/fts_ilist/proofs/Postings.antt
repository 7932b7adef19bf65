-- Documents as items, and reading them back.
use Rattle.std.proofs.Common.{◌≡◌, ℕ, ◌+◌, ◌-◌, ◌^◌, ◌<◌, ◌≤◌, List, [], ◌∷◌, ◌++◌, get_or, refl, sym, ap, ◌∙◌, append_assoc, arith}
use Rattle.std.proofs.lemmas.List.{append-nil}
use Rattle.fts_ilist.specs.Spelling.{Posting, Item, items_bytes, position_items, posting_items, postings_items, PositionsFrom, ArePositions, PostingsAfter, id_at_end, next_at_end}
use Rattle.fts_ilist.specs.Spelling.Item.{increase, document_end}
use Rattle.fts_ilist.specs.Reading.{items_after, postings_of, postings_in, positions_of, positions_in}
use Rattle.fts_ilist.specs.Reading.State.{between, inside}
use Rattle.fts_ilist.proofs.Items.{reads_items}

-- ---- positions

nothing : items_after 0 [] ≡ []
unfolding items_after
nothing = refl

pub positions_again : (id next : ℕ) (ps qs : List ℕ) (items : List Item) → PositionsFrom next qs
    → postings_of (inside id next) ps (position_items next qs ++ document_end ∷ items) ≡ record { id = id; positions = ps ++ qs } ∷ postings_of (between id) [] items
unfolding postings_of
positions_again id next ps [] items h =
    ap (λ (w : List ℕ). let d : Posting = record { id = id; positions = w } in d ∷ postings_of (between id) [] items) (sym (append-nil ps))
positions_again id next ps (q ∷ qs) items h =
    let e : next + (q + 1 - next) ≡ q + 1 = omega (arith, h.0) in
    let f : q + 1 - 1 ≡ q = omega arith in
    let tail = position_items (q + 1) qs ++ document_end ∷ items in
    ap (λ (w : ℕ). postings_of (inside id w) (ps ++ (w - 1) ∷ []) tail) e
    ∙ ap (λ (w : ℕ). postings_of (inside id (q + 1)) (ps ++ w ∷ []) tail) f
    ∙ positions_again id (q + 1) (ps ++ q ∷ []) qs items h.2
    ∙ ap (λ (w : List ℕ). let d : Posting = record { id = id; positions = w } in d ∷ postings_of (between id) [] items) (append_assoc ps (q ∷ []) qs)

pub positions_back : (next : ℕ) (qs : List ℕ) → PositionsFrom next qs → positions_of next (position_items next qs) ≡ qs
unfolding positions_of
positions_back next [] h = refl
positions_back next (q ∷ qs) h =
    let e : next + (q + 1 - next) ≡ q + 1 = omega (arith, h.0) in
    let f : q + 1 - 1 ≡ q = omega arith in
    ap (λ (w : ℕ). (w - 1) ∷ positions_of w (position_items (q + 1) qs)) e
    ∙ ap (λ (w : ℕ). w ∷ positions_of (q + 1) (position_items (q + 1) qs)) f
    ∙ ap (λ (w : List ℕ). q ∷ w) (positions_back (q + 1) qs h.2)

pub positions_in-bytes : (next : ℕ) (qs : List ℕ) → PositionsFrom next qs → positions_in next (items_bytes (position_items next qs)) ≡ qs
positions_in-bytes next qs h =
    let whole : items_after 0 (items_bytes (position_items next qs)) ≡ position_items next qs
    = ap (items_after 0) (sym (append-nil (items_bytes (position_items next qs)))) ∙ reads_items (position_items next qs) [] ∙ ap (λ (w : List Item). position_items next qs ++ w) nothing ∙ append-nil (position_items next qs) in
    ap (positions_of next) whole ∙ positions_back next qs h

positions_back_before : (next : ℕ) (qs : List ℕ) (items : List Item) → PositionsFrom next qs → ((n : ℕ) → positions_of n items ≡ []) → positions_of next (position_items next qs ++ items) ≡ qs
unfolding positions_of
positions_back_before next [] items h none = none next
positions_back_before next (q ∷ qs) items h none =
    let e : next + (q + 1 - next) ≡ q + 1 = omega (arith, h.0) in
    let f : q + 1 - 1 ≡ q = omega arith in
    ap (λ (w : ℕ). (w - 1) ∷ positions_of w (position_items (q + 1) qs ++ items)) e
    ∙ ap (λ (w : ℕ). w ∷ positions_of (q + 1) (position_items (q + 1) qs ++ items)) f
    ∙ ap (λ (w : List ℕ). q ∷ w) (positions_back_before (q + 1) qs items h.2 none)

-- no positions at a document's end
pub no_positions_at_end : (behind : List ℕ) (n : ℕ) → get_or behind 0 0 ≡ 0 → positions_in n behind ≡ []
unfolding positions_of items_after
no_positions_at_end [] n e = refl
no_positions_at_end (b ∷ bs) n e = ap (λ (w : ℕ). positions_of n (items_after 0 (w ∷ bs))) e

pub positions_in-before : (next : ℕ) (qs behind : List ℕ) → PositionsFrom next qs → get_or behind 0 0 ≡ 0 → positions_in next (items_bytes (position_items next qs) ++ behind) ≡ qs
positions_in-before next qs behind h e =
    ap (positions_of next) (reads_items (position_items next qs) behind)
    ∙ positions_back_before next qs (items_after 0 behind) h (λ n. no_positions_at_end behind n e)

pub position_items-append : (next : ℕ) (a b : List ℕ) → position_items next (a ++ b) ≡ position_items next a ++ position_items (next_at_end next a) b
position_items-append next [] b = refl
position_items-append next (p ∷ ps) b = ap (λ (w : List Item). increase (p + 1 - next) ∷ w) (position_items-append (p + 1) ps b)

pub PositionsFrom-push : (next : ℕ) (ps : List ℕ) (p : ℕ) → PositionsFrom next ps → next_at_end next ps ≤ p → p ≤ 131071 → PositionsFrom next (ps ++ p ∷ [])
PositionsFrom-push next [] p h le limit = (le, limit, tt)
PositionsFrom-push next (q ∷ qs) p h le limit = (h.0, h.1, PositionsFrom-push (q + 1) qs p h.2 le limit)

pub next_at_end-push : (next : ℕ) (ps : List ℕ) (p : ℕ) → next_at_end next (ps ++ p ∷ []) ≡ p + 1
next_at_end-push next [] p = refl
next_at_end-push next (q ∷ qs) p = next_at_end-push (q + 1) qs p

pub next_limit : (next : ℕ) (ps : List ℕ) → next ≤ 131072 → PositionsFrom next ps → next_at_end next ps ≤ 131072
next_limit next [] le h = le
next_limit next (p ∷ ps) le h = next_limit (p + 1) ps (omega (arith, h.1)) h.2

-- ---- documents

pub posting_regroup : (last : ℕ) (d : Posting) (rest : List Item) → posting_items last d ++ rest ≡ increase (d.id - last) ∷ (position_items 0 d.positions ++ document_end ∷ rest)
posting_regroup last d rest = ap (λ (w : List Item). increase (d.id - last) ∷ w) (append_assoc (position_items 0 d.positions) (document_end ∷ []) rest)

-- a document that was spelled is read back
pub posting_again : (last : ℕ) (d : Posting) (items : List Item) → last < d.id → ArePositions d.positions
    → postings_of (between last) [] (posting_items last d ++ items) ≡ d ∷ postings_of (between d.id) [] items
unfolding postings_of
posting_again last d items above are =
    let e : last + (d.id - last) ≡ d.id = omega arith in
    ap (postings_of (between last) []) (posting_regroup last d items)
    ∙ ap (λ (w : ℕ). postings_of (inside w 0) [] (position_items 0 d.positions ++ document_end ∷ items)) e
    ∙ positions_again d.id 0 [] d.positions items are.1

pub postings_again : (last : ℕ) (ds : List Posting) (items : List Item) → PostingsAfter last ds
    → postings_of (between last) [] (postings_items last ds ++ items) ≡ ds ++ postings_of (between (id_at_end last ds)) [] items
postings_again last [] items h = refl
postings_again last (d ∷ ds) items h =
    ap (postings_of (between last) []) (append_assoc (posting_items last d) (postings_items d.id ds) items)
    ∙ posting_again last d (postings_items d.id ds ++ items) h.0 h.2
    ∙ ap (λ (w : List Posting). d ∷ w) (postings_again d.id ds items h.3)

no_postings : (last : ℕ) → postings_of (between last) [] [] ≡ []
unfolding postings_of
no_postings last = refl

pub no_postings_in : (last : ℕ) → postings_in last [] ≡ []
no_postings_in last = ap (postings_of (between last) []) nothing ∙ no_postings last

-- a list that was spelled is read back
pub postings_in-bytes : (last : ℕ) (ds : List Posting) → PostingsAfter last ds → postings_in last (items_bytes (postings_items last ds)) ≡ ds
postings_in-bytes last ds h =
    let items = postings_items last ds in
    ap (λ (w : List ℕ). postings_in last w) (sym (append-nil (items_bytes items)))
    ∙ ap (postings_of (between last) []) (reads_items items [] ∙ ap (λ (w : List Item). items ++ w) nothing)
    ∙ postings_again last ds [] h
    ∙ ap (λ (w : List Posting). ds ++ w) (no_postings (id_at_end last ds))
    ∙ append-nil ds

pub postings_items-append : (last : ℕ) (a b : List Posting) → postings_items last (a ++ b) ≡ postings_items last a ++ postings_items (id_at_end last a) b
postings_items-append last [] b = refl
postings_items-append last (d ∷ ds) b =
    ap (λ (w : List Item). posting_items last d ++ w) (postings_items-append d.id ds b)
    ∙ sym (append_assoc (posting_items last d) (postings_items d.id ds) (postings_items (id_at_end d.id ds) b))

pub id_at_end-append : (last : ℕ) (a b : List Posting) → id_at_end last (a ++ b) ≡ id_at_end (id_at_end last a) b
id_at_end-append last [] b = refl
id_at_end-append last (d ∷ ds) b = id_at_end-append d.id ds b

pub PostingsAfter-append : (last : ℕ) (a b : List Posting) → PostingsAfter last a → PostingsAfter (id_at_end last a) b → PostingsAfter last (a ++ b)
PostingsAfter-append last [] b h k = k
PostingsAfter-append last (d ∷ ds) b h k = (h.0, h.1, h.2, PostingsAfter-append d.id ds b h.3 k)

pub id_limit : (last : ℕ) (ds : List Posting) → last < 2 ^ 63 → PostingsAfter last ds → id_at_end last ds < 2 ^ 63
id_limit last [] le h = le
id_limit last (d ∷ ds) le h = id_limit d.id ds h.1 h.3

pub after_lower : (low last : ℕ) (ds : List Posting) → low ≤ last → PostingsAfter last ds → PostingsAfter low ds
after_lower low last [] le h = tt
after_lower low last (d ∷ ds) le h = (omega (arith, h.0), h.1, h.2, h.3)
