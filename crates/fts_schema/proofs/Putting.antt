-- Rows are written one list behind another.
use Rattle.std.proofs.Common.{◌≡◌, ℕ, ◌+◌, List, [], ◌∷◌, ◌++◌, length, take, drop, refl, sym, ap, ◌∙◌, arith}
use Rattle.std.specs.Prelude.{Result, Ok, Err, OnOk, OnErr, decimal}
use Rattle.std.proofs.Math.Seq.{take-append_seam}
use Rattle.std.proofs.lemmas.List.{append_assoc, append-nil, length-append, take-append-drop}
use Rattle.fts_schema.specs.Listing.{lines}
use Rattle.fts_schema.specs.Reply.{ids_text}
use Rattle.fts_schema.specs.Rows.{Puts}
use Rattle.fts_schema.specs.declared.rows.RowLines.{RowLines}

-- so far all rows but the rest were written behind those at the start
pub record IsPutting (start now : RowLines) (rest all : List (List ℕ)) : Type 0 where
  pub text : now.text.items ++ lines rest ≡ start.text.items ++ lines all
  pub count : now.count + length rest ≡ start.count + length all

pub lines-append : (rows more : List (List ℕ)) → lines (rows ++ more) ≡ lines rows ++ lines more
lines-append [] more = refl
lines-append (row ∷ rows) more =
    ap (λ (text : List ℕ). (row ++ 10 ∷ []) ++ text) (lines-append rows more) ∙ sym (append_assoc (row ++ 10 ∷ []) (lines rows) (lines more))

-- it begins with all of them
pub begins : (start : RowLines) (all : List (List ℕ)) → IsPutting start start all all
begins start all = record { text = refl; count = refl }

-- some more are written
pub goes_on : (start now next : RowLines) (piece rest all : List (List ℕ)) → IsPutting start now (piece ++ rest) all → Puts now next piece → IsPutting start next rest all
goes_on start now next piece rest all is puts = record {
  text = ap (λ (text : List ℕ). text ++ lines rest) puts.text ∙ append_assoc now.text.items (lines piece) (lines rest)
      ∙ ap (λ (text : List ℕ). now.text.items ++ text) (sym (lines-append piece rest)) ∙ is.text;
  count = let all_of = length-append piece rest in omega (arith, puts.count, is.count, all_of);
}

-- and ends with none
pub ends : (start now : RowLines) (all : List (List ℕ)) → IsPutting start now [] all → Puts start now all
ends start now all is = record {
  text = sym (append-nil now.text.items) ∙ is.text;
  count = let count = is.count in omega (arith, count);
}

-- five pieces, one behind another
pub five : (a b c d e before at1 at2 at3 at4 after : List ℕ) → at1 ≡ before ++ a → at2 ≡ at1 ++ b → at3 ≡ at2 ++ c → at4 ≡ at3 ++ d → after ≡ at4 ++ e
    → after ≡ before ++ (a ++ (b ++ (c ++ (d ++ e))))
five a b c d e before at1 at2 at3 at4 after is1 is2 is3 is4 is5 =
    is5 ∙ ap (λ (t : List ℕ). t ++ e) is4 ∙ append_assoc at3 d e ∙ ap (λ (t : List ℕ). t ++ (d ++ e)) is3 ∙ append_assoc at2 c (d ++ e)
    ∙ ap (λ (t : List ℕ). t ++ (c ++ (d ++ e))) is2 ∙ append_assoc at1 b (c ++ (d ++ e)) ∙ ap (λ (t : List ℕ). t ++ (b ++ (c ++ (d ++ e)))) is1
    ∙ append_assoc before a (b ++ (c ++ (d ++ e)))

-- rows are written, and then more
pub puts_both : (old mid new : RowLines) (rows more : List (List ℕ)) → Puts old mid rows → Puts mid new more → Puts old new (rows ++ more)
puts_both old mid new rows more first later = record {
  text = later.text ∙ ap (λ (text : List ℕ). text ++ lines more) first.text ∙ append_assoc old.text.items (lines rows) (lines more)
      ∙ ap (λ (text : List ℕ). old.text.items ++ text) (sym (lines-append rows more));
  count = let all_of = length-append rows more in omega (arith, first.count, later.count, all_of);
}

-- what follows from what a success tells
pub ok_so : {T E : Type 0} → (result : Result T E) (P Q : Type 0) → (P → Q) → OnOk result P → OnOk result Q
ok_so (Ok value) P Q so is = so is
ok_so (Err error) P Q so is = tt

-- what holds anyway is told at a failure
pub err_so : {T E : Type 0} → (result : Result T E) (P : Type 0) → P → OnErr result P
err_so (Ok value) P is = tt
err_so (Err error) P is = is

ids_text-append : (ids more : List ℕ) → ids_text (ids ++ more) ≡ ids_text ids ++ ids_text more
ids_text-append [] more = refl
ids_text-append (id ∷ ids) more =
    ap (λ (text : List ℕ). 32 ∷ (decimal id ++ text)) (ids_text-append ids more) ∙ ap (λ (text : List ℕ). 32 ∷ text) (sym (append_assoc (decimal id) (ids_text ids) (ids_text more)))

-- some of the ids that are left are written behind the text
pub some_written : (old text new : List ℕ) (all rest some others : List ℕ) → text ++ ids_text rest ≡ old ++ ids_text all → new ≡ text ++ ids_text some → rest ≡ some ++ others
    → new ++ ids_text others ≡ old ++ ids_text all
some_written old text new all rest some others so put parts =
    ap (λ (t : List ℕ). t ++ ids_text others) put
    ∙ append_assoc text (ids_text some) (ids_text others)
    ∙ ap (λ (t : List ℕ). text ++ t) (sym (ids_text-append some others) ∙ ap ids_text (sym parts))
    ∙ so

-- what a text begins with is kept where more is written behind it
pub more_kept : (start text more : List ℕ) → take (length start) text ≡ start → take (length start) (text ++ more) ≡ start
more_kept start text more kept =
    let rest = drop (length start) text in
    let whole : text ≡ start ++ rest = sym (take-append-drop (length start) text) ∙ ap (λ (t : List ℕ). t ++ rest) kept in
    ap (λ (t : List ℕ). take (length start) (t ++ more)) whole ∙ ap (take (length start)) (append_assoc start rest more)
    ∙ take-append_seam start (rest ++ more)

-- and so is what that begins with
pub front_kept : (start front text : List ℕ) → take (length (start ++ front)) text ≡ start ++ front → take (length start) text ≡ start
front_kept start front text kept =
    let rest = drop (length (start ++ front)) text in
    let whole : text ≡ (start ++ front) ++ rest = sym (take-append-drop (length (start ++ front)) text) ∙ ap (λ (t : List ℕ). t ++ rest) kept in
    ap (take (length start)) (whole ∙ append_assoc start front rest) ∙ take-append_seam start (front ++ rest)
