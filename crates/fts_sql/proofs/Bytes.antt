use Rattle.std.proofs.Common.{◌≡◌, ℕ, ◌+◌, ◌*◌, ◌-◌, ◌<◌, ◌≤◌, Bool, true, false, List, [], ◌∷◌, length, drop, get_or, refl, sym, ap, ◌∙◌, arith, ◌⊎◌, inl, inr}
use Rattle.std.specs.List.{list_all}
use Rattle.std.specs.Char.{is_ascii_digit, digit_value}
use Rattle.std.specs.Str.Parse.{digits_value, digits_value_after}
use Rattle.std.proofs.lemmas.Bool.{both_ways, cases_Bool}
use Rattle.std.proofs.lemmas.Bool.Decides.{nat_tests}
use Rattle.std.proofs.lemmas.List.{drop_more}
use Rattle.std.proofs.lemmas.List.Sums.{AllPass-from_list_all}
use Rattle.fts_words.specs.Byte.{is_word_byte}
use Rattle.fts_sql.specs.Token.{is_blank, is_mark}

-- the blanks are three bytes
blank_is : (b : ℕ) → is_blank b ≡ true → (b ≡ 32) ⊎ ((b ≡ 9) ⊎ (b ≡ 13))
blank_is b h = grind (arith, nat_tests)

-- a test that the blanks fail is passed by no blank
apart : (test : ℕ → Bool) (b : ℕ) → test 32 ≡ false → test 9 ≡ false → test 13 ≡ false → test b ≡ true → is_blank b ≡ false
apart test b space tab cr passes =
    elim (cases_Bool (is_blank b)) [
      | inl blank ↦ elim (blank_is b blank) [
        | inl e ↦ absurd (both_ways (test b) (ap test e ∙ space) passes)
        | inr other ↦ elim other [
          | inl e ↦ absurd (both_ways (test b) (ap test e ∙ tab) passes)
          | inr e ↦ absurd (both_ways (test b) (ap test e ∙ cr) passes)
        ]
      ]
      | inr none ↦ none
    ]

pub word_byte_no_blank : (b : ℕ) → is_word_byte b ≡ true → is_blank b ≡ false
word_byte_no_blank b h = apart is_word_byte b refl refl refl h

pub digit_no_blank : (b : ℕ) → is_ascii_digit b ≡ true → is_blank b ≡ false
digit_no_blank b h = apart is_ascii_digit b refl refl refl h

pub mark_no_blank : (b : ℕ) → is_mark b ≡ true → is_blank b ≡ false
mark_no_blank b h = apart is_mark b refl refl refl h

-- a digit's value
pub digit_is : (b : ℕ) → is_ascii_digit b ≡ true → (48 ≤ b) × (b < 58) × (digit_value b ≡ b - 48)
digit_is b h = grind (arith, nat_tests)

-- more digits make no smaller number
pub digits_value_after-ge : (n : ℕ) (digits : List ℕ) → n ≤ digits_value_after 10 n digits
digits_value_after-ge n [] = omega arith
digits_value_after-ge n (d ∷ digits) =
    let more = digits_value_after-ge (n * 10 + digit_value d) digits in omega arith

-- a number that one more digit follows is at least ten times as large, and that digit more
pub digits_value-ge : (value index : ℕ) (digits : List ℕ) → index < length digits
    → digits_value_after 10 value (drop index digits) ≡ digits_value 10 digits
    → value * 10 + digit_value (get_or digits index 0) ≤ digits_value 10 digits
digits_value-ge value index digits within e =
    let ahead : digits_value_after 10 value (get_or digits index 0 ∷ drop (index + 1) digits) ≡ digits_value 10 digits =
    ap (digits_value_after 10 value) (sym (drop_more digits index 0 within)) ∙ e in
    let more = digits_value_after-ge (value * 10 + digit_value (get_or digits index 0)) (drop (index + 1) digits) in
    omega (arith, ahead, more)

-- each of some digits is one
pub digit_at : (digits : List ℕ) (index : ℕ) → list_all is_ascii_digit digits ≡ true → index < length digits
    → is_ascii_digit (get_or digits index 0) ≡ true
digit_at digits index all within = AllPass-from_list_all is_ascii_digit digits all index 0 within
