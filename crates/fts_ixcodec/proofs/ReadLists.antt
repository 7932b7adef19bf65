-- What is read is spelled so, and what is spelled so is read: the nodes of one word.
use Rattle.std.proofs.Common.{◌≡◌, ◌≢◌, ℕ, ◌+◌, ◌^◌, Bool, true, false, ◌&&◌, cond, List, [], ◌∷◌, ◌++◌, length, Option, Some, None, Result, Ok, bytes_eq, refl, sym, ap, subst, ◌∙◌, arith, ⊎_elim}
use Rattle.std.specs.Int.{w32, to_be_bytes}
use Rattle.std.proofs.lemmas.Bool.{and_parts, leb-true, le-leb, ltb-true, lt-ltb, cases_Bool}
use Rattle.std.proofs.lemmas.Slice.Eq.{bytes_eq-Decides}
use Rattle.fts_codec.specs.Reading.{number_at, piece_at}
use Rattle.fts_codec.proofs.Spelled.{IsBytes, passed, Takes, takes_both, number32, piece_takes, piece_again}
use Rattle.fts_ilist.specs.Spelling.{Posting, PositionsFrom, PostingsAfter, ArePostings, list_bytes}
use Rattle.fts_ilist.specs.Reading.{postings_in}
use Rattle.fts_ilist.specs.Node.{Docs, BeginsAfter}
use Rattle.fts_ilist.specs.Packing.{is_sound}
use Rattle.fts_ilist.proofs.Postings.{postings_in-bytes}
use Rattle.fts_ixcodec.specs.Payload.{list_payload, IsNode}
use Rattle.fts_ixcodec.specs.Grammar.{IsNext}
use Rattle.fts_codec.specs.Fields.{◌>>=◌, field, or_left}
use Rattle.fts_ixcodec.specs.Reading.{are_from, are_after, is_list, begin_after, node_with, node_in, list_at}
use Rattle.fts_codec.proofs.Fields.{bind_ok, field_ok, ok_is}

same_text : (v w : List ℕ) → bytes_eq v w ≡ true → v ≡ w
same_text v w e = (bytes_eq-Decides v w).0 e

is_same : (w : List ℕ) → bytes_eq w w ≡ true
is_same w = (bytes_eq-Decides w w).1 refl

positions_are : (next : ℕ) (ps : List ℕ) → are_from next ps ≡ true → PositionsFrom next ps
unfolding are_from
positions_are next [] e = tt
positions_are next (p ∷ ps) e =
    let parts = and_parts _ _ e in
    let here = and_parts _ _ parts.0 in
    (leb-true next p here.0, leb-true p 131071 here.1, positions_are (p + 1) ps parts.1)

positions_told : (next : ℕ) (ps : List ℕ) → PositionsFrom next ps → are_from next ps ≡ true
unfolding are_from
positions_told next [] h = refl
positions_told next (p ∷ ps) h = rw (le-leb next p h.0, le-leb p 131071 h.1, positions_told (p + 1) ps h.2) refl

pub postings_are : (last : ℕ) (ps : List Posting) → are_after last ps ≡ true → PostingsAfter last ps
unfolding are_after
postings_are last [] e = tt
postings_are last (p ∷ ps) e =
    let parts = and_parts _ _ e in
    let here = and_parts _ _ parts.0 in
    let id = and_parts _ _ here.0 in
    let positions = and_parts _ _ here.1 in
    (ltb-true last p.id id.0, ltb-true p.id (2 ^ 63) id.1, (ltb-true 0 (length p.positions) positions.0, positions_are 0 p.positions positions.1), postings_are p.id ps parts.1)

pub postings_told : (last : ℕ) (ps : List Posting) → PostingsAfter last ps → are_after last ps ≡ true
unfolding are_after
postings_told last [] h = refl
postings_told last (p ∷ ps) h =
    rw (lt-ltb last p.id h.0, lt-ltb p.id (2 ^ 63) h.1, lt-ltb 0 (length p.positions) h.2.0, positions_told 0 p.positions h.2.1, postings_told p.id ps h.3) refl

-- ---- whole lists

-- the bytes of a list are one, of its documents
list_told : (bytes : List ℕ) (ps : List Posting) → ArePostings ps → bytes ≡ list_bytes ps → (postings_in 0 bytes ≡ ps) × (is_list bytes ≡ true)
list_told bytes ps are e =
    let view : postings_in 0 bytes ≡ ps = ap (postings_in 0) e ∙ postings_in-bytes 0 ps are in
    (view, rw (view, postings_told 0 ps are, e) (is_same (list_bytes ps)))

pub node_is : (last : ℕ) (bytes : List ℕ) (ps : List Posting) → ArePostings ps → bytes ≡ list_bytes ps → node_in last bytes ≡ node_with last ps
node_is last bytes ps are e =
    let told = list_told bytes ps are e in
    rw (told.1, told.0) refl

list_is : (bytes : List ℕ) → is_list bytes ≡ true → ArePostings (postings_in 0 bytes) × (bytes ≡ list_bytes (postings_in 0 bytes))
list_is bytes e = let parts = and_parts _ _ e in (postings_are 0 (postings_in 0 bytes) parts.0, same_text bytes (list_bytes (postings_in 0 bytes)) parts.1)

-- no node has no documents
without_documents : (last : ℕ) (docs : Docs) → (docs ≢ [] → ⊥) → node_with last docs ≡ None
without_documents last [] none = refl
without_documents last (p ∷ ps) none = absurd (none (λ e. absurd cc))

pub no_node : (last : ℕ) (bytes : List ℕ) → ((ps : List Posting) → ArePostings ps → ps ≢ [] → bytes ≡ list_bytes ps → ⊥) → node_in last bytes ≡ None
no_node last bytes none =
    ⊎_elim
    (λ (is : is_list bytes ≡ true). rw is (without_documents last (postings_in 0 bytes) (λ some. none (postings_in 0 bytes) (list_is bytes is).0 some (list_is bytes is).1)))
    (λ (not : is_list bytes ≡ false). rw not refl)
    (cases_Bool (is_list bytes))

-- ---- nodes

begins_so : (last : ℕ) (docs : Docs) → begin_after last docs ≡ true → BeginsAfter last docs
begins_so last [] e = absurd cc
begins_so last (p ∷ ps) e = ltb-true last p.id e

begins_told : (last : ℕ) (docs : Docs) → BeginsAfter last docs → begin_after last docs ≡ true
begins_told last [] h = absurd h
begins_told last (p ∷ ps) h = lt-ltb last p.id h

passed_some : {A : Type 0} (b : Bool) (o : Option A) (x : A) → cond b o None ≡ Some x → (b ≡ true) × (o ≡ Some x)
passed_some true o x e = (refl, e)
passed_some false o x e = absurd cc

pub node_found : (last : ℕ) (bytes : List ℕ) (docs : Docs) → node_in last bytes ≡ Some docs → IsNext last docs × (bytes ≡ list_bytes docs)
node_found last bytes docs e =
    let outer = passed_some (is_list bytes) (node_with last (postings_in 0 bytes)) docs e in
    let inner = passed (begin_after last (postings_in 0 bytes) && is_sound (postings_in 0 bytes)) (postings_in 0 bytes) docs outer.1 in
    let parts = and_parts _ _ inner.0 in
    let list = list_is bytes outer.0 in
    subst (λ (d : Docs). IsNext last d × (bytes ≡ list_bytes d)) inner.1
    (record { are = list.0; after = begins_so last (postings_in 0 bytes) parts.0; sound = parts.1 }, list.1)

pub node_again : (last : ℕ) (docs : Docs) → IsNext last docs → node_in last (list_bytes docs) ≡ Some docs
node_again last docs is = node_is last (list_bytes docs) docs is.are refl ∙ rw (begins_told last docs is.after, is.sound) refl

abbrev behind_list : ℕ → ℕ × List ℕ → List ℕ × List ℕ → Result (Docs × List ℕ) ℕ
behind_list last size list = or_left (length size.1) (node_in last list.0) >>= λ docs. Ok (docs, list.1)

pub list_takes : (last : ℕ) (bytes : List ℕ) (docs : Docs) (rest : List ℕ) → IsBytes bytes → list_at last bytes ≡ Ok (docs, rest)
    → IsNode docs × BeginsAfter last docs × Takes bytes (list_payload docs) rest
unfolding list_at
list_takes last bytes docs rest fits e =
    let a = bind_ok (field (number_at w32) bytes) (λ size. field (piece_at size.0) size.1 >>= λ list. behind_list last size list) (docs, rest) e in
    let b = bind_ok (field (piece_at a.0.0) a.0.1) (behind_list last a.0) (docs, rest) a.2 in
    let d = bind_ok (or_left (length a.0.1) (node_in last b.0.0)) (λ docs. Ok (docs, b.0.1)) (docs, rest) b.2 in
    let size = number32.takes bytes a.0.0 a.0.1 fits (field_ok (length bytes) (number_at w32 bytes) a.0 a.1) in
    let piece = piece_takes a.0.0 a.0.1 b.0.0 b.0.1 size.1.1 (field_ok (length a.0.1) (piece_at a.0.0 a.0.1) b.0 b.1) in
    let node = node_found last b.0.0 d.0 (field_ok (length a.0.1) (node_in last b.0.0) d.0 d.1) in
    let both = takes_both bytes (to_be_bytes w32 a.0.0) a.0.1 b.0.0 b.0.1 size.1 piece.1 in
    let counted : Takes bytes (to_be_bytes w32 (length b.0.0) ++ b.0.0) b.0.1 = subst (λ (n : ℕ). Takes bytes (to_be_bytes w32 n ++ b.0.0) b.0.1) (sym piece.0) both in
    let whole : Takes bytes (list_payload d.0) b.0.1 = subst (λ (xs : List ℕ). Takes bytes (to_be_bytes w32 (length xs) ++ xs) b.0.1) node.1 counted in
    let is : IsNode d.0 = record { are = node.0.are; sound = node.0.sound; fits = omega (arith, ap length node.1, piece.0, size.0) } in
    subst (λ (p : Docs × List ℕ). IsNode p.0 × BeginsAfter last p.0 × Takes bytes (list_payload p.0) p.1) (ok_is (d.0, b.0.1) (docs, rest) d.2) (is, node.0.after, whole)

pub list_again : (last : ℕ) (docs : Docs) (rest : List ℕ) → IsNode docs → BeginsAfter last docs → list_at last (list_payload docs ++ rest) ≡ Ok (docs, rest)
unfolding list_at
list_again last docs rest is after =
    let next : IsNext last docs = record { are = is.are; after = after; sound = is.sound } in
    let size : number_at w32 (list_payload docs ++ rest) ≡ Some (length (list_bytes docs), list_bytes docs ++ rest) = number32.again (length (list_bytes docs)) (list_bytes docs ++ rest) is.fits in
    rw (size, piece_again (list_bytes docs) rest, node_again last docs next) refl
