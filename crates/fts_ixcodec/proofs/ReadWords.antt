-- What is read is spelled so, and what is spelled so is read: words.
use Rattle.std.proofs.Common.{◌≡◌, ℕ, suc, ◌≤◌, ◌<◌, ◌+◌, Bool, true, false, cond, not, List, [], ◌∷◌, ◌++◌, length, drop, slice_index_or, Option, Some, None, Ok, Err, Less, refl, sym, ap, subst, ◌∙◌, arith}
use Rattle.std.specs.Int.{is_in_range}
use Rattle.std.specs.Ordering.{is_lt}
use Rattle.std.proofs.lemmas.Bool.{and_parts, leb-true, le-leb}
use Rattle.std.proofs.lemmas.List.{drop_more, drop_all}
use Rattle.fts_codec.specs.Reading.{piece_at}
use Rattle.fts_codec.proofs.Spelled.{IsBytes, passed, Takes, takes_both, piece_takes, piece_again}
use Rattle.fts_words.specs.Indexed.{Rules}
use Rattle.fts_words.specs.Order.{byte_order}
use Rattle.fts_ixcodec.specs.Payload.{form_step, is_form_from, is_form, word_payload, IsWord}
use Rattle.fts_codec.specs.Fields.{◌>>=◌, field}
use Rattle.fts_ixcodec.specs.Reading.{size_at, may_follow, word_at}
use Rattle.fts_codec.proofs.Fields.{bind_ok, field_ok, passed_ok}

pub size_takes : (rules : Rules) (bytes : List ℕ) (size : ℕ) (rest : List ℕ) → IsBytes bytes → size_at rules bytes ≡ Some (size, rest) → (rules.min ≤ size) × (size ≤ rules.max) × Takes bytes (size ∷ []) rest
size_takes rules [] size rest fits e = absurd cc
size_takes rules (first ∷ bytes) size rest fits e =
    let g = passed (is_in_range rules.min rules.max first) (first, bytes) (size, rest) e in
    let parts = and_parts _ _ g.0 in
    subst (λ (p : ℕ × List ℕ). (rules.min ≤ p.0) × (p.0 ≤ rules.max) × Takes (first ∷ bytes) (p.0 ∷ []) p.1) g.1
    (leb-true rules.min first parts.0, leb-true first rules.max parts.1, (refl, λ i. fits (suc i)))

pub not_true : (b : Bool) → not b ≡ true → b ≡ false
not_true true e = absurd cc
not_true false e = refl

pub word_takes : (rules : Rules) (before bytes word rest : List ℕ) → IsBytes bytes → word_at rules before bytes ≡ Ok (word, rest)
    → IsWord rules word × (is_lt (byte_order word before) ≡ false) × Takes bytes (word_payload word) rest
unfolding word_at
word_takes rules before bytes word rest fits e =
    let a = bind_ok (field (size_at rules) bytes) (λ size. field (piece_at size.0) size.1 >>= λ word. cond (may_follow before word.0) (Ok word) (Err (length size.1))) (word, rest) e in
    let b = bind_ok (field (piece_at a.0.0) a.0.1) (λ word. cond (may_follow before word.0) (Ok word) (Err (length a.0.1))) (word, rest) a.2 in
    let g = passed_ok (may_follow before b.0.0) (length a.0.1) b.0 (word, rest) b.2 in
    let parts = and_parts _ _ g.0 in
    let size = size_takes rules bytes a.0.0 a.0.1 fits (field_ok (length bytes) (size_at rules bytes) a.0 a.1) in
    let piece = piece_takes a.0.0 a.0.1 b.0.0 b.0.1 size.2.1 (field_ok (length a.0.1) (piece_at a.0.0 a.0.1) b.0 b.1) in
    let both = takes_both bytes (a.0.0 ∷ []) a.0.1 b.0.0 b.0.1 size.2 piece.1 in
    let whole : Takes bytes (word_payload b.0.0) b.0.1 = subst (λ (n : ℕ). Takes bytes (n ∷ b.0.0) b.0.1) (sym piece.0) both in
    let is : IsWord rules b.0.0 = record { form = parts.0; long = omega (arith, piece.0, size.0); short = omega (arith, piece.0, size.1) } in
    subst (λ (p : List ℕ × List ℕ). IsWord rules p.0 × (is_lt (byte_order p.0 before) ≡ false) × Takes bytes (word_payload p.0) p.1) g.1 (is, not_true _ parts.1, whole)

form_some : (word : List ℕ) → is_form word ≡ true → 1 ≤ length word
unfolding is_form_from
form_some [] e = absurd cc
form_some (b ∷ word) e = omega arith

in_range : (low high size : ℕ) → low ≤ size → size ≤ high → is_in_range low high size ≡ true
in_range low high size some few = rw (le-leb low size some, le-leb size high few) refl

pub word_again : (rules : Rules) (before word rest : List ℕ) → IsWord rules word → is_lt (byte_order word before) ≡ false → word_at rules before (word_payload word ++ rest) ≡ Ok (word, rest)
unfolding word_at
word_again rules before word rest is follows = rw (in_range rules.min rules.max (length word) is.long is.short, piece_again word rest, is.form, follows) refl

-- ---- the bytes of a word, one by one

module _ (word : List ℕ) (i : ℕ) (b : Bool) (total : Bool) (so_far : is_form_from (Some b) (drop i word) ≡ total) where
  taken : i < length word → is_form_from (form_step b (slice_index_or word i 0)) (drop (i + 1) word) ≡ total
  unfolding is_form_from
  taken less = sym (ap (is_form_from (Some b)) (drop_more word i 0 less)) ∙ so_far

  pub form_goes_on : (b' : Bool) → i < length word → Some b' ≡ form_step b (slice_index_or word i 0) → is_form_from (Some b') (drop (i + 1) word) ≡ total
  form_goes_on b' less step = ap (λ (o : Option Bool). is_form_from o (drop (i + 1) word)) step ∙ taken less

  pub form_stops : i < length word → None ≡ form_step b (slice_index_or word i 0) → total ≡ false
  unfolding is_form_from
  form_stops less step = sym (ap (λ (o : Option Bool). is_form_from o (drop (i + 1) word)) step ∙ taken less)

  pub form_ends : length word ≤ i → total ≡ b
  unfolding is_form_from
  form_ends le = sym (sym (ap (is_form_from (Some b)) (drop_all i word le)) ∙ so_far)

-- no word is empty, so each stands behind none
pub behind_nothing : (rules : Rules) (word : List ℕ) → IsWord rules word → byte_order [] word ≡ Less
behind_nothing rules [] is = absurd (omega (arith, form_some [] is.form))
behind_nothing rules (b ∷ word) is = refl

pub not_before_nothing : (word : List ℕ) → is_lt (byte_order word []) ≡ false
not_before_nothing [] = refl
not_before_nothing (b ∷ word) = refl
