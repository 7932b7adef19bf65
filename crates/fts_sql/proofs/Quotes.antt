use Rattle.std.proofs.Common.{◌≡◌, ◌≢◌, ℕ, zero, suc, ◌+◌, ◌<◌, ◌≤◌, Bool, cond, length, get_or, take, drop, arith, ◌==◌, true, false, List, [], ◌∷◌, ◌++◌, Some, None, append-nil, refl, sym, ap, ◌∙◌, subst, ◌⊎◌, inl, inr}
use Rattle.std.specs.List.{list_all}
use Rattle.std.proofs.lemmas.Bool.{and_parts, both_ways, cases_Bool, eqb-true, eqb-false, eq-eqb, ne_eqb, cond-false}
use Rattle.std.proofs.lemmas.List.{append_assoc}
use Rattle.memchr.specs.Find.{IsFirstByte, Passes, is_byte}
use Rattle.fts_commits.specs.Text.{is_text_byte}
use Rattle.fts_sql.specs.Token.{begins_with, quoted}
use Rattle.fts_sql.specs.Reading.{goes_on_text, unquoted}

-- how one byte of a text is written: an apostrophe twice, another byte once
written : (b : ℕ) (bs : List ℕ)
    → ((b ≡ 39) × (quoted (b ∷ bs) ≡ 39 ∷ 39 ∷ quoted bs)) ⊎ (((b ≡ 39) → ⊥) × (quoted (b ∷ bs) ≡ b ∷ quoted bs))
written b bs =
    elim (cases_Bool (b == 39)) [
      | inl yes_it_is ↦ (let is : b ≡ 39 = eqb-true b 39 yes_it_is in inl (is, subst (λ (c : ℕ). quoted (c ∷ bs) ≡ 39 ∷ 39 ∷ quoted bs) (sym is) refl))
      | inr it_is_not ↦ inr (eqb-false b 39 it_is_not, cond-false (b == 39) (39 ∷ 39 ∷ quoted bs) (b ∷ quoted bs) it_is_not)
    ]

pub quoted-append : (xs ys : List ℕ) → quoted (xs ++ ys) ≡ quoted xs ++ quoted ys
quoted-append [] ys = refl
quoted-append (b ∷ xs) ys =
    let more = quoted-append xs ys in
    elim (written b xs) [
      | inl (is, here) ↦ (elim (written b (xs ++ ys)) [
        | inl (_, there) ↦ there ∙ ap (λ s. 39 ∷ 39 ∷ s) more ∙ sym (ap (λ s. s ++ quoted ys) here)
        | inr (isnt, _) ↦ absurd (isnt is)
      ])
      | inr (isnt, here) ↦ (elim (written b (xs ++ ys)) [
        | inl (is, _) ↦ absurd (isnt is)
        | inr (_, there) ↦ there ∙ ap (λ s. b ∷ s) more ∙ sym (ap (λ s. s ++ quoted ys) here)
      ])
    ]

-- a text goes on where one more of its bytes is written
pub goes_on_quoted : (b : ℕ) (text rest : List ℕ) → is_text_byte b ≡ true → goes_on_text (quoted (b ∷ text) ++ rest) ≡ true
goes_on_quoted b text rest printable =
    elim (written b text) [
      | inl (_, here) ↦ ap (λ s. goes_on_text (s ++ rest)) here
      | inr (isnt, here) ↦ ap (λ s. goes_on_text (s ++ rest)) here
          ∙ cond-false (b == 39) (begins_with (λ c. c == 39) (quoted text ++ rest)) (is_text_byte b) (ne_eqb b 39 isnt) ∙ printable
    ]

-- what a text is written as, as wide as it goes, and what follows it are determined
pub one_text : (text rest other after : List ℕ) → goes_on_text rest ≡ false → goes_on_text after ≡ false
    → list_all is_text_byte text ≡ true → list_all is_text_byte other ≡ true
    → quoted text ++ rest ≡ quoted other ++ after → (text ≡ other) × (rest ≡ after)
one_text [] rest [] after stops ends printable all e = (refl, e)
one_text [] rest (c ∷ other) after stops ends printable all e =
    absurd (both_ways (goes_on_text rest) stops
    (ap goes_on_text e ∙ goes_on_quoted c other after (and_parts (is_text_byte c) (list_all is_text_byte other) all).0))
one_text (b ∷ text) rest [] after stops ends printable all e =
    absurd (both_ways (goes_on_text after) ends
    (sym (ap goes_on_text e) ∙ goes_on_quoted b text rest (and_parts (is_text_byte b) (list_all is_text_byte text) printable).0))
one_text (b ∷ text) rest (c ∷ other) after stops ends printable all e =
    let p = (and_parts (is_text_byte b) (list_all is_text_byte text) printable).1 in
    let a = (and_parts (is_text_byte c) (list_all is_text_byte other) all).1 in
    elim (written b text) [
      | inl (is, here) ↦ (elim (written c other) [
        | inl (is2, there) ↦ (
            let f : 39 ∷ 39 ∷ (quoted text ++ rest) ≡ 39 ∷ 39 ∷ (quoted other ++ after) =
            sym (ap (λ s. s ++ rest) here) ∙ e ∙ ap (λ s. s ++ after) there in
            let found = one_text text rest other after stops ends p a cc in
            (cc (is, is2, found.0), found.1))
        | inr (isnt, there) ↦ absurd (isnt (
            let f : 39 ∷ 39 ∷ (quoted text ++ rest) ≡ c ∷ (quoted other ++ after) =
            sym (ap (λ s. s ++ rest) here) ∙ e ∙ ap (λ s. s ++ after) there in
            cc))
      ])
      | inr (isnt, here) ↦ (elim (written c other) [
        | inl (_, there) ↦ absurd (isnt (
            let f : b ∷ (quoted text ++ rest) ≡ 39 ∷ 39 ∷ (quoted other ++ after) =
            sym (ap (λ s. s ++ rest) here) ∙ e ∙ ap (λ s. s ++ after) there in
            cc))
        | inr (_, there) ↦ (
            let f : b ∷ (quoted text ++ rest) ≡ c ∷ (quoted other ++ after) =
            sym (ap (λ s. s ++ rest) here) ∙ e ∙ ap (λ s. s ++ after) there in
            let found = one_text text rest other after stops ends p a cc in
            ((let same : b ≡ c = cc in cc (same, found.0)), found.1))
      ])
    ]

-- one byte more of a text
pub quoted_more : (bytes text rest after : List ℕ) (b : ℕ) → bytes ≡ quoted text ++ rest → rest ≡ quoted (b ∷ []) ++ after
    → bytes ≡ quoted (text ++ b ∷ []) ++ after
quoted_more bytes text rest after b cut piece =
    cut ∙ ap (λ s. quoted text ++ s) piece ∙ sym (append_assoc (quoted text) (quoted (b ∷ [])) after)
    ∙ ap (λ s. s ++ after) (sym (quoted-append text (b ∷ [])))

unquoted_plain : (b : ℕ) (bs : List ℕ) → ((b ≡ 39) → ⊥) → unquoted (b ∷ bs) ≡ b ∷ unquoted bs
unquoted_plain b [] isnt = refl
unquoted_plain b (c ∷ bs) isnt = cond-false (b == 39) (39 ∷ unquoted bs) (b ∷ unquoted (c ∷ bs)) (ne_eqb b 39 isnt)

-- no byte before this place is an apostrophe
abbrev pub IsPlainTo : ℕ → List ℕ → Type 0
IsPlainTo at bytes = (k : ℕ) → k < at → get_or bytes k 0 ≢ 39

pub plain_to : (at : ℕ) (bytes : List ℕ) → ((k : ℕ) → 0 ≤ k → k < at → Passes (is_byte 39) bytes k → ⊥) → IsPlainTo at bytes
plain_to at bytes before k below is = before k (omega arith) below (eq-eqb (get_or bytes k 0) 39 is)

-- up to the first apostrophe, and with it, a text is what it is written as; the byte behind it is the other one of the two
pub unquoted_to : (at : ℕ) (bytes : List ℕ) → at < length bytes → IsPlainTo at bytes → get_or bytes at 0 ≡ 39
    → unquoted bytes ≡ take (suc at) bytes ++ unquoted (drop 1 (drop (suc at) bytes))
unquoted_to at [] within plain is = absurd (omega arith)
unquoted_to zero (b ∷ []) within plain is = refl
unquoted_to zero (b ∷ c ∷ bs) within plain is =
    ap (λ (same : Bool). cond same (39 ∷ unquoted bs) (b ∷ unquoted (c ∷ bs))) (eq-eqb b 39 is) ∙ ap (λ d. d ∷ unquoted bs) (sym is)
unquoted_to (suc at) (b ∷ bs) within plain is =
    unquoted_plain b bs (plain 0 (omega arith)) ∙ ap (λ l. b ∷ l) (unquoted_to at bs (omega arith) (λ k below. plain (suc k) (omega arith)) is)

-- without an apostrophe it is what it is written as
pub unquoted_all : (bytes : List ℕ) → IsPlainTo (length bytes) bytes → unquoted bytes ≡ bytes
unquoted_all [] plain = refl
unquoted_all (b ∷ bs) plain = unquoted_plain b bs (plain 0 (omega arith)) ∙ ap (λ l. b ∷ l) (unquoted_all bs (λ k below. plain (suc k) (omega arith)))

pub none_quoted : (bytes : List ℕ) → IsFirstByte (is_byte 39) bytes None → unquoted bytes ≡ bytes ++ []
none_quoted bytes none = unquoted_all bytes (plain_to (length bytes) bytes none) ∙ sym (append-nil bytes)

pub first_quoted : (at : ℕ) (bytes front rest behind : List ℕ) → IsFirstByte (is_byte 39) bytes (Some at) → front ≡ take (at + 1) bytes → rest ≡ drop (at + 1) bytes
    → behind ≡ drop 1 rest → unquoted bytes ≡ front ++ unquoted behind
first_quoted at bytes front rest behind first is goes_on more =
    let one : suc at ≡ at + 1 = omega arith in
    unquoted_to at bytes first.0.high (plain_to at bytes first.0.before) (eqb-true (get_or bytes at 0) 39 first.1)
    ∙ ap (λ n. take n bytes ++ unquoted (drop 1 (drop n bytes))) one
    ∙ ap (λ l. l ++ unquoted (drop 1 (drop (at + 1) bytes))) (sym is)
    ∙ ap (λ l. front ++ unquoted l) (sym (more ∙ ap (drop 1) goes_on))

-- a text is what it is written as, without the doubled apostrophes
pub unquoted-quoted : (text : List ℕ) → unquoted (quoted text) ≡ text
unquoted-quoted [] = refl
unquoted-quoted (b ∷ text) =
    let more = unquoted-quoted text in
    elim (written b text) [
      | inl (is, here) ↦ ap unquoted here ∙ ap (λ s. 39 ∷ s) more ∙ ap (λ c. c ∷ text) (sym is)
      | inr (isnt, here) ↦ ap unquoted here ∙ unquoted_plain b (quoted text) isnt ∙ ap (λ s. b ∷ s) more
    ]
