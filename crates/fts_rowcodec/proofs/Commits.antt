-- What is read is spelled so, and what is spelled so is read: commits.
use Rattle.std.proofs.Common.{◌≡◌, ℕ, ◌≤◌, ◌<◌, ◌^◌, cond, eqb, List, [], ◌∷◌, ◌++◌, length, Some, None, Ok, Err, Option, refl, sym, ap, subst, ◌∙◌, append_assoc, arith}
use Rattle.std.specs.List.{flat_map, list_all}
use Rattle.std.specs.Int.{w16, w64, to_be_bytes, is_in_range}
use Rattle.std.proofs.lemmas.Bool.{eqb-true}
use Rattle.std.proofs.lemmas.List.{append-nil, nil_from_length}
use Rattle.fts_commits.specs.Text.{is_text_byte}
use Rattle.fts_commits.specs.Commit.{Commit}
use Rattle.fts_commits.specs.declared.change.Change.{Change}
use Rattle.fts_commits.specs.declared.change.Change.TheVariants.{Insert, Update, Delete}
use Rattle.fts_commits.specs.Fits.{FitsId, IsText}
use Rattle.fts_rowcodec.specs.Payload.{IsWritten, text_payload, doc_payload, new_payload, change_payload, commit_payload}
use Rattle.fts_codec.specs.Reading.{behind_at, number_at, piece_at}
use Rattle.fts_codec.specs.Fields.{◌>>=◌, field, tested, many_at}
use Rattle.fts_codec.specs.Grammar.{IsFrom}
use Rattle.fts_rowcodec.specs.Reading.{text_at, doc_of, doc_at, new_of, new_at, insert_at, update_at, delete_at, kind_of, change_at, count_at, commit_of, IsRowText, IsNewRowText, IsRowChange}
use Rattle.fts_codec.proofs.Spelled.{IsBytes, byte_takes, Takes, takes_both, Spells, number16, number64, piece_again, piece_spells, tested_spells, spells_from, in_range}
use Rattle.fts_codec.proofs.Fields.{bind_ok, field_ok, passed_ok, ok_is, Reads, reads16, reads64, many_take, many_again}
use Rattle.fts_rowcodec.proofs.Bounds.{row_changes}

-- the bytes of a text, so many
pub bytes_spell : (size : ℕ) → Spells (λ text. text) (λ text. (length text ≡ size) × IsText text) (tested (list_all is_text_byte) (piece_at size))
bytes_spell size = tested_spells (λ text. text) (λ text. length text ≡ size) (piece_at size) (piece_spells size) (list_all is_text_byte)

text_takes : (bytes text rest : List ℕ) → IsBytes bytes → text_at bytes ≡ Ok (text, rest) → IsRowText text × Takes bytes (text_payload text) rest
unfolding text_at
text_takes bytes text rest fits e =
    let a = bind_ok (field (number_at w16) bytes) (λ size. field (tested (list_all is_text_byte) (piece_at size.0)) size.1) (text, rest) e in
    let size = reads16.takes bytes a.0.0 a.0.1 fits a.1 in
    let piece = (bytes_spell a.0.0).takes a.0.1 text rest size.1.1 (field_ok (length a.0.1) (tested (list_all is_text_byte) (piece_at a.0.0) a.0.1) (text, rest) a.2) in
    let both = takes_both bytes (to_be_bytes w16 a.0.0) a.0.1 text rest size.1 piece.1 in
    let whole : Takes bytes (text_payload text) rest = subst (λ (n : ℕ). Takes bytes (to_be_bytes w16 n ++ text) rest) (sym piece.0.0) both in
    let short : length text ≤ 65535 = omega (arith, piece.0.0, size.0) in
    ((piece.0.1, short), whole)

text_again : (text rest : List ℕ) → IsRowText text → text_at (text_payload text ++ rest) ≡ Ok (text, rest)
unfolding text_at
text_again text rest is =
    let short : length text < 2 ^ 16 = omega (arith, is.1) in
    rw (number16.again (length text) (text ++ rest) short, piece_again text rest, is.0) refl

pub text_reads : Reads text_payload IsRowText text_at
text_reads = record { takes = text_takes; again = text_again }

-- ---- what stands behind a flag

doc_takes : (bytes : List ℕ) (doc : Option ℕ) (rest : List ℕ) → IsBytes bytes → doc_at bytes ≡ Ok (doc, rest) → FitsId doc × Takes bytes (doc_payload doc) rest
unfolding doc_at
doc_takes bytes doc rest fits e = by (behind_at 0 bytes) (behind_at 1 bytes) refl refl e
  where
    Is : Option ℕ × List ℕ → Type 0
    Is p = FitsId p.0 × Takes bytes (doc_payload p.0) p.1

    by : (none given : Option (List ℕ)) → behind_at 0 bytes ≡ none → behind_at 1 bytes ≡ given → doc_of (length bytes) none given ≡ Ok (doc, rest) → Is (doc, rest)
    by (Some r) given at_none at_given e = subst Is (ok_is (None, r) (doc, rest) e) (tt, byte_takes 0 bytes r fits at_none)
    by None (Some r) at_none at_given e =
        let a = bind_ok (field (number_at w64) r) (λ number. Ok (Some number.0, number.1)) (doc, rest) e in
        let flag = byte_takes 1 bytes r fits at_given in
        let number = reads64.takes r a.0.0 a.0.1 flag.1 a.1 in
        subst Is (ok_is (Some a.0.0, a.0.1) (doc, rest) a.2) (number.0, takes_both bytes (1 ∷ []) r (to_be_bytes w64 a.0.0) a.0.1 flag number.1)
    by None None at_none at_given e = absurd cc

doc_again : (doc : Option ℕ) (rest : List ℕ) → FitsId doc → doc_at (doc_payload doc ++ rest) ≡ Ok (doc, rest)
unfolding doc_at
doc_again None rest fits = refl
doc_again (Some doc) rest fits = rw (number64.again doc rest fits) refl

new_takes : (bytes : List ℕ) (new : Option (List ℕ)) (rest : List ℕ) → IsBytes bytes → new_at bytes ≡ Ok (new, rest) → IsNewRowText new × Takes bytes (new_payload new) rest
unfolding new_at
new_takes bytes new rest fits e = by (behind_at 0 bytes) (behind_at 1 bytes) refl refl e
  where
    Is : Option (List ℕ) × List ℕ → Type 0
    Is p = IsNewRowText p.0 × Takes bytes (new_payload p.0) p.1

    by : (kept set : Option (List ℕ)) → behind_at 0 bytes ≡ kept → behind_at 1 bytes ≡ set → new_of (length bytes) kept set ≡ Ok (new, rest) → Is (new, rest)
    by (Some r) set at_kept at_set e = subst Is (ok_is (None, r) (new, rest) e) ((tt, tt), byte_takes 0 bytes r fits at_kept)
    by None (Some r) at_kept at_set e =
        let a = bind_ok (text_at r) (λ text. Ok (Some text.0, text.1)) (new, rest) e in
        let flag = byte_takes 1 bytes r fits at_set in
        let text = text_takes r a.0.0 a.0.1 flag.1 a.1 in
        subst Is (ok_is (Some a.0.0, a.0.1) (new, rest) a.2) (text.0, takes_both bytes (1 ∷ []) r (text_payload a.0.0) a.0.1 flag text.1)
    by None None at_kept at_set e = absurd cc

new_again : (new : Option (List ℕ)) (rest : List ℕ) → IsNewRowText new → new_at (new_payload new ++ rest) ≡ Ok (new, rest)
unfolding new_at
new_again None rest is = refl
new_again (Some text) rest is = rw (text_again text rest is) refl

pub new_reads : Reads new_payload IsNewRowText new_at
new_reads = record { takes = new_takes; again = new_again }

-- ---- changes

module _ (columns : ℕ) (bytes : List ℕ) where
  abbrev IsChange : Change × List ℕ → Type 0
  IsChange p = IsRowChange columns p.0 × Takes bytes (change_payload p.0) p.1

  insert_takes : (r : List ℕ) (change : Change) (rest : List ℕ) → Takes bytes (1 ∷ []) r → insert_at columns r ≡ Ok (change, rest) → IsChange (change, rest)
  unfolding insert_at
  insert_takes r change rest kind e =
      let a = bind_ok (field (number_at w64) r) (λ key. doc_at key.1 >>= λ doc. many_at text_at columns doc.1 >>= λ texts. Ok (Insert key.0 doc.0 texts.0, texts.1)) (change, rest) e in
      let b = bind_ok (doc_at a.0.1) (λ doc. many_at text_at columns doc.1 >>= λ texts. Ok (Insert a.0.0 doc.0 texts.0, texts.1)) (change, rest) a.2 in
      let d = bind_ok (many_at text_at columns b.0.1) (λ texts. Ok (Insert a.0.0 b.0.0 texts.0, texts.1)) (change, rest) b.2 in
      let key = reads64.takes r a.0.0 a.0.1 kind.1 a.1 in
      let doc = doc_takes a.0.1 b.0.0 b.0.1 key.1.1 b.1 in
      let texts = many_take text_payload IsRowText text_at text_reads columns b.0.1 d.0.0 d.0.1 doc.1.1 d.1 in
      let two = takes_both a.0.1 (doc_payload b.0.0) b.0.1 (flat_map text_payload d.0.0) d.0.1 doc.1 texts.2 in
      let three = takes_both r (to_be_bytes w64 a.0.0) a.0.1 (doc_payload b.0.0 ++ flat_map text_payload d.0.0) d.0.1 key.1 two in
      let four = takes_both bytes (1 ∷ []) r (to_be_bytes w64 a.0.0 ++ (doc_payload b.0.0 ++ flat_map text_payload d.0.0)) d.0.1 kind three in
      let is : IsRowChange columns (Insert a.0.0 b.0.0 d.0.0) = ((texts.0, λ k d less. (texts.1 k d less).0), (key.0, (λ k d less. (texts.1 k d less).1), doc.0)) in
      subst IsChange (ok_is (Insert a.0.0 b.0.0 d.0.0, d.0.1) (change, rest) d.2) (is, four)

  update_takes : (r : List ℕ) (change : Change) (rest : List ℕ) → Takes bytes (2 ∷ []) r → update_at columns r ≡ Ok (change, rest) → IsChange (change, rest)
  unfolding update_at
  update_takes r change rest kind e =
      let a = bind_ok (field (number_at w64) r) (λ key. many_at new_at columns key.1 >>= λ news. Ok (Update key.0 news.0, news.1)) (change, rest) e in
      let b = bind_ok (many_at new_at columns a.0.1) (λ news. Ok (Update a.0.0 news.0, news.1)) (change, rest) a.2 in
      let key = reads64.takes r a.0.0 a.0.1 kind.1 a.1 in
      let news = many_take new_payload IsNewRowText new_at new_reads columns a.0.1 b.0.0 b.0.1 key.1.1 b.1 in
      let two = takes_both r (to_be_bytes w64 a.0.0) a.0.1 (flat_map new_payload b.0.0) b.0.1 key.1 news.2 in
      let three = takes_both bytes (2 ∷ []) r (to_be_bytes w64 a.0.0 ++ flat_map new_payload b.0.0) b.0.1 kind two in
      let is : IsRowChange columns (Update a.0.0 b.0.0) = ((news.0, λ k d less. (news.1 k d less).0), (key.0, λ k d less. (news.1 k d less).1)) in
      subst IsChange (ok_is (Update a.0.0 b.0.0, b.0.1) (change, rest) b.2) (is, three)

  delete_takes : (r : List ℕ) (change : Change) (rest : List ℕ) → Takes bytes (3 ∷ []) r → delete_at r ≡ Ok (change, rest) → IsChange (change, rest)
  unfolding delete_at
  delete_takes r change rest kind e =
      let a = bind_ok (field (number_at w64) r) (λ key. Ok (Delete key.0, key.1)) (change, rest) e in
      let key = reads64.takes r a.0.0 a.0.1 kind.1 a.1 in
      let two = takes_both bytes (3 ∷ []) r (to_be_bytes w64 a.0.0) a.0.1 kind key.1 in
      subst IsChange (ok_is (Delete a.0.0, a.0.1) (change, rest) a.2) ((tt, key.0), two)

  change_takes : (change : Change) (rest : List ℕ) → IsBytes bytes → change_at columns bytes ≡ Ok (change, rest) → IsChange (change, rest)
  unfolding change_at
  change_takes change rest fits e = by (behind_at 1 bytes) (behind_at 2 bytes) (behind_at 3 bytes) refl refl refl e
    where
      by : (insert update delete : Option (List ℕ)) → behind_at 1 bytes ≡ insert → behind_at 2 bytes ≡ update → behind_at 3 bytes ≡ delete
          → kind_of columns (length bytes) insert update delete ≡ Ok (change, rest) → IsChange (change, rest)
      by (Some r) update delete i u d e = insert_takes r change rest (byte_takes 1 bytes r fits i) e
      by None (Some r) delete i u d e = update_takes r change rest (byte_takes 2 bytes r fits u) e
      by None None (Some r) i u d e = delete_takes r change rest (byte_takes 3 bytes r fits d) e
      by None None None i u d e = absurd cc

insert_again : (columns key : ℕ) (doc : Option ℕ) (texts : List (List ℕ)) (rest : List ℕ) → IsRowChange columns (Insert key doc texts)
    → insert_at columns (to_be_bytes w64 key ++ (doc_payload doc ++ (flat_map text_payload texts ++ rest))) ≡ Ok (Insert key doc texts, rest)
unfolding insert_at
insert_again columns key doc texts rest is =
    let counted : length texts ≡ columns = is.0.0 in
    let read : many_at text_at columns (flat_map text_payload texts ++ rest) ≡ Ok (texts, rest) =
    subst (λ (n : ℕ). many_at text_at n (flat_map text_payload texts ++ rest) ≡ Ok (texts, rest)) counted
    (many_again text_payload IsRowText text_at text_reads texts rest (λ k d less. (is.0.1 k d less, is.1.1 k d less))) in
    rw (number64.again key (doc_payload doc ++ (flat_map text_payload texts ++ rest)) is.1.0, doc_again doc (flat_map text_payload texts ++ rest) is.1.2, read) refl

update_again : (columns key : ℕ) (news : List (Option (List ℕ))) (rest : List ℕ) → IsRowChange columns (Update key news)
    → update_at columns (to_be_bytes w64 key ++ (flat_map new_payload news ++ rest)) ≡ Ok (Update key news, rest)
unfolding update_at
update_again columns key news rest is =
    let counted : length news ≡ columns = is.0.0 in
    let read : many_at new_at columns (flat_map new_payload news ++ rest) ≡ Ok (news, rest) =
    subst (λ (n : ℕ). many_at new_at n (flat_map new_payload news ++ rest) ≡ Ok (news, rest)) counted
    (many_again new_payload IsNewRowText new_at new_reads news rest (λ k d less. (is.0.1 k d less, is.1.1 k d less))) in
    rw (number64.again key (flat_map new_payload news ++ rest) is.1.0, read) refl

delete_again : (columns key : ℕ) (rest : List ℕ) → IsRowChange columns (Delete key) → delete_at (to_be_bytes w64 key ++ rest) ≡ Ok (Delete key, rest)
unfolding delete_at
delete_again columns key rest is = rw (number64.again key rest is.1) refl

change_again : (columns : ℕ) (change : Change) (rest : List ℕ) → IsRowChange columns change → change_at columns (change_payload change ++ rest) ≡ Ok (change, rest)
unfolding change_at
change_again columns (Insert key doc texts) rest is =
    ap (λ (text : List ℕ). insert_at columns text) (append_assoc (to_be_bytes w64 key) (doc_payload doc ++ flat_map text_payload texts) rest
    ∙ ap (λ (text : List ℕ). to_be_bytes w64 key ++ text) (append_assoc (doc_payload doc) (flat_map text_payload texts) rest)) ∙ insert_again columns key doc texts rest is
change_again columns (Update key news) rest is =
    ap (λ (text : List ℕ). update_at columns text) (append_assoc (to_be_bytes w64 key) (flat_map new_payload news) rest) ∙ update_again columns key news rest is
change_again columns (Delete key) rest is = delete_again columns key rest is

pub change_reads : (columns : ℕ) → Reads change_payload (IsRowChange columns) (change_at columns)
change_reads columns = record { takes = λ bytes change rest fits e. change_takes columns bytes change rest fits e; again = change_again columns }

-- the count of changes
pub counts_spell : Spells (to_be_bytes w16) (IsFrom 1 1000) (tested (is_in_range 1 1000) (number_at w16))
counts_spell = spells_from (to_be_bytes w16) (number_at w16) (2 ^ 16) 1 1000 (omega arith) number16

count_takes : (bytes : List ℕ) (count : ℕ) (rest : List ℕ) → IsBytes bytes → count_at bytes ≡ Ok (count, rest) → IsFrom 1 1000 count × Takes bytes (1 ∷ to_be_bytes w16 count) rest
unfolding count_at
count_takes bytes count rest fits e =
    let a = bind_ok (field (behind_at 1) bytes) (λ rest. field (tested (is_in_range 1 1000) (number_at w16)) rest) (count, rest) e in
    let kind = byte_takes 1 bytes a.0 fits (field_ok (length bytes) (behind_at 1 bytes) a.0 a.1) in
    let number = counts_spell.takes a.0 count rest kind.1 (field_ok (length a.0) (tested (is_in_range 1 1000) (number_at w16) a.0) (count, rest) a.2) in
    (number.0, takes_both bytes (1 ∷ []) a.0 (to_be_bytes w16 count) rest kind number.1)

count_again : (count : ℕ) (rest : List ℕ) → 1 ≤ count → count ≤ 1000 → count_at (1 ∷ (to_be_bytes w16 count ++ rest)) ≡ Ok (count, rest)
unfolding count_at
count_again count rest some few =
    let short : count < 2 ^ 16 = omega (arith, few) in
    rw (number16.again count rest short, in_range 1 1000 count (some, few)) refl

-- what is read is a commit that the log can hold, and its payload
pub commit_takes : (columns : ℕ) (bytes : List ℕ) (commit : Commit) → IsBytes bytes → commit_of columns bytes ≡ Ok commit → IsWritten columns commit × (bytes ≡ commit_payload commit)
unfolding commit_of
commit_takes columns bytes commit fits e =
    let a = bind_ok (count_at bytes) (λ count. many_at (change_at columns) count.0 count.1 >>= λ changes. cond (eqb (length changes.1) 0) (Ok changes.0) (Err (length changes.1))) commit e in
    let b = bind_ok (many_at (change_at columns) a.0.0 a.0.1) (λ changes. cond (eqb (length changes.1) 0) (Ok changes.0) (Err (length changes.1))) commit a.2 in
    let g = passed_ok (eqb (length b.0.1) 0) (length b.0.1) b.0.0 commit b.2 in
    let nothing : b.0.1 ≡ [] = nil_from_length b.0.1 (eqb-true _ _ g.0) in
    let count = count_takes bytes a.0.0 a.0.1 fits a.1 in
    let changes = many_take change_payload (IsRowChange columns) (change_at columns) (change_reads columns) a.0.0 a.0.1 b.0.0 b.0.1 count.1.1 b.1 in
    let both = takes_both bytes (1 ∷ to_be_bytes w16 a.0.0) a.0.1 (flat_map change_payload b.0.0) b.0.1 count.1 changes.2 in
    let whole : bytes ≡ commit_payload b.0.0 = both.0 ∙ ap (λ (r : List ℕ). ((1 ∷ to_be_bytes w16 a.0.0) ++ flat_map change_payload b.0.0) ++ r) nothing
    ∙ append-nil ((1 ∷ to_be_bytes w16 a.0.0) ++ flat_map change_payload b.0.0) ∙ ap (λ (n : ℕ). 1 ∷ (to_be_bytes w16 n ++ flat_map change_payload b.0.0)) (sym changes.0) in
    let is : IsWritten columns b.0.0 = record {
      made = record {
        some = omega (arith, count.0.0, changes.0);
        few = omega (arith, count.0.1, changes.0);
        fit = λ k d less. (changes.1 k d less).0;
      };
      fits = λ k d less. (changes.1 k d less).1;
    } in
    subst (λ (y : Commit). IsWritten columns y × (bytes ≡ commit_payload y)) g.1 (is, whole)

-- each such commit is read from its payload
pub commit_again : (columns : ℕ) (commit : Commit) → IsWritten columns commit → commit_of columns (commit_payload commit) ≡ Ok commit
unfolding commit_of
commit_again columns commit is =
    let read : many_at (change_at columns) (length commit) (flat_map change_payload commit) ≡ Ok (commit, []) =
    ap (many_at (change_at columns) (length commit)) (sym (append-nil (flat_map change_payload commit)))
    ∙ many_again change_payload (IsRowChange columns) (change_at columns) (change_reads columns) commit [] (row_changes columns commit is) in
    rw (count_again (length commit) (flat_map change_payload commit) is.made.some is.made.few, read) refl

-- one is read, and so the payload is of no other
pub commit_same : (columns : ℕ) (bytes : List ℕ) (read commit : Commit) → commit_of columns bytes ≡ Ok read → IsWritten columns commit → bytes ≡ commit_payload commit → read ≡ commit
commit_same columns bytes read commit given is e = ok_is read commit (sym given ∙ ap (commit_of columns) e ∙ commit_again columns commit is)

-- none is read, and so they are no payload
pub commit_none : (columns : ℕ) (bytes : List ℕ) (left : ℕ) (commit : Commit) → commit_of columns bytes ≡ Err left → IsWritten columns commit → bytes ≡ commit_payload commit → ⊥
commit_none columns bytes left commit given is e = let whole : commit_of columns bytes ≡ Ok commit = ap (commit_of columns) e ∙ commit_again columns commit is in absurd cc
