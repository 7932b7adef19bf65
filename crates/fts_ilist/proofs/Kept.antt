-- The first id of a list and its number of documents, kept beside its bytes.
use Rattle.std.proofs.Common.{◌≡◌, ℕ, ◌+◌, ◌-◌, ◌<◌, ◌≤◌, List, [], ◌∷◌, ◌++◌, length, drop, if◌then◌else◌, refl, sym, ap, ◌∙◌, arith}
use Rattle.std.proofs.lemmas.Bool.{ne_eqb}
use Rattle.std.proofs.lemmas.List.{length-append, drop_all}
use Rattle.fts_ilist.specs.Number.{number_bytes}
use Rattle.fts_ilist.specs.Spelling.{Posting, items_bytes, posting_items, postings_items, list_bytes, position_items, ArePostings, first_id, HasFirstId}
use Rattle.fts_ilist.specs.Reading.{items_after, postings_of, postings_in, IsDocument, IsKept}
use Rattle.fts_ilist.specs.Reading.State.{between}
use Rattle.fts_ilist.specs.Progress.{ReadsDocument, first_or}
use Rattle.fts_ilist.proofs.Groups.{length_number}
use Rattle.fts_ilist.proofs.Items.{bytes_append, reads_items}
use Rattle.fts_ilist.proofs.Postings.{posting_again, no_postings_in}
use Rattle.fts_ilist.proofs.Reader.{document_bytes}
use Rattle.fts_ilist.proofs.Tails.{posting_in}
use Rattle.fts_ilist.proofs.Lists.{IsMade, pushed_document}

-- ---- counting while a list is read

pub one_counted : (bytes : List ℕ) (at last id start end : ℕ) → ReadsDocument bytes at last id start end → length (postings_in last (drop at bytes)) ≡ 1 + length (postings_in id (drop end bytes))
one_counted bytes at last id start end d =
    let p : Posting = record { id = id; positions = d.positions } in
    let parts : drop at bytes ≡ items_bytes (posting_items last p) ++ drop end bytes
    = d.front ∙ ap (λ (w : List ℕ). number_bytes (id - last) ++ w) d.body ∙ document_bytes last id d.positions (drop end bytes) in
    let step : postings_in last (drop at bytes) ≡ p ∷ postings_in id (drop end bytes)
    = ap (postings_of (between last) []) (ap (items_after 0) parts ∙ reads_items (posting_items last p) (drop end bytes))
    ∙ posting_again last p (items_after 0 (drop end bytes)) d.above d.are_positions in
    ap length step ∙ omega arith

pub none_counted : (bytes : List ℕ) (at last : ℕ) → length bytes ≤ at → length (postings_in last (drop at bytes)) ≡ 0
none_counted bytes at last h = ap length (ap (postings_in last) (drop_all at bytes h) ∙ no_postings_in last)

-- ---- a list has at least one byte a document

few_postings : (last : ℕ) (ds : List Posting) → length ds ≤ length (items_bytes (postings_items last ds))
few_postings last [] = omega arith
few_postings last (d ∷ ds) =
    let one = bytes_append (posting_items last d) (postings_items d.id ds) [] in
    let body = items_bytes (position_items 0 d.positions ++ Rattle.fts_ilist.specs.Spelling.Item.document_end ∷ []) in
    omega (
      arith,
      few_postings d.id ds,
      length_number (d.id - last),
      ap length one,
      length-append (items_bytes (posting_items last d ++ postings_items d.id ds)) [],
      length-append (items_bytes (posting_items last d)) (items_bytes (postings_items d.id ds) ++ []),
      length-append (items_bytes (postings_items d.id ds)) [],
      length-append (number_bytes (d.id - last)) body,
    )

pub few_kept : (first last count : ℕ) (bytes : List ℕ) → IsKept first last count bytes → count ≤ length bytes
few_kept first last count bytes k = omega (arith, k.count_is, few_postings 0 (postings_in 0 bytes), ap length k.list.spelled)

-- ---- the first id

pub or_first : (ds es : List Posting) (first id : ℕ) → ArePostings ds → first ≡ first_id ds → HasFirstId es id → first_or first id ≡ first_id (ds ++ es)
or_first [] [] first id are e has = absurd has
or_first [] (p ∷ es) first id are e has = ap (λ (w : ℕ). first_or w id) e ∙ sym has
or_first (d ∷ ds) es first id are e has =
    let positive : 0 < first = omega (arith, e, are.0) in
    ap (λ b. if b then id else first) (ne_eqb first 0 (λ (z : first ≡ 0). omega arith)) ∙ e

-- ---- more documents

pub kept_more : (first last count : ℕ) (bytes : List ℕ) (id end : ℕ) (new : List ℕ) (ds : List Posting) → IsKept first last count bytes → HasFirstId ds id → IsMade end new (postings_in 0 bytes ++ ds)
    → IsKept (first_or first id) end (count + length ds) new
kept_more first last count bytes id end new ds k has m = record {
  list = m.is_list;
  first_is = or_first (postings_in 0 bytes) ds first id k.list.are k.first_is has ∙ ap first_id (sym m.view);
  count_is = omega (arith, k.count_is, ap length m.view, length-append (postings_in 0 bytes) ds);
}

-- ---- the bytes of one more document

pub size_with : (first last count : ℕ) (bytes : List ℕ) (id : ℕ) (encoded : List ℕ) → IsKept first last count bytes → last < id → IsDocument id encoded
    → length (list_bytes (postings_in 0 bytes ++ posting_in id encoded ∷ [])) ≡ length bytes + (length (number_bytes (id - last)) + length encoded + 1)
size_with first last count bytes id encoded k above d =
    let new = bytes ++ (number_bytes (id - last) ++ (encoded ++ 0 ∷ [])) in
    let m = pushed_document last bytes id encoded new k.list above d refl in
    let spelled : new ≡ list_bytes (postings_in 0 bytes ++ posting_in id encoded ∷ []) = m.is_list.spelled ∙ ap list_bytes m.view in
    omega (
      arith,
      ap length spelled,
      length-append bytes (number_bytes (id - last) ++ (encoded ++ 0 ∷ [])),
      length-append (number_bytes (id - last)) (encoded ++ 0 ∷ []),
      length-append encoded (0 ∷ []),
    )
