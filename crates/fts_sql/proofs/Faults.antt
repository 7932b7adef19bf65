use Rattle.std.proofs.Common.{◌≡◌, ℕ, ◌+◌, ◌≤◌, ◌^◌, ◌==◌, not, true, false, List, [], ◌∷◌, ◌++◌, length, refl, sym, ap, ◌∙◌, arith, ◌⊎◌, inl, inr}
use Rattle.std.specs.List.{list_all}
use Rattle.std.specs.Char.{is_ascii_digit}
use Rattle.std.specs.Str.Parse.{digits_value}
use Rattle.std.proofs.lemmas.Bool.{and_parts, both_ways}
use Rattle.std.proofs.lemmas.Bool.Decides.{nat_tests}
use Rattle.std.proofs.lemmas.List.{append-nil}
use Rattle.fts_commits.specs.Text.{is_text_byte}
use Rattle.fts_sql.specs.Token.{Token, name, number, string, mark, is_blank, is_mark, begins_with, quoted, IsToken}
use Rattle.fts_sql.specs.Line.{is_stray, IsTooLarge, IsUnreadable}
use Rattle.fts_sql.specs.Reading.{goes_on_text}
use Rattle.fts_sql.proofs.Fronts.{same_cut}
use Rattle.fts_sql.proofs.Bytes.{digit_no_blank}
use Rattle.fts_sql.proofs.Tokens.{kind, kind_of_byte, first_kind, digit_kind, shown, string_cut, one_string}

stray_kind : (b : ℕ) → is_stray b ≡ true → kind_of_byte b ≡ 3
stray_kind b h = grind (arith, nat_tests)

stray_no_blank : (b : ℕ) → is_stray b ≡ true → is_blank b ≡ false
stray_no_blank b h = grind (arith, nat_tests)

stray_no_mark : (b : ℕ) → is_stray b ≡ true → is_mark b ≡ false
stray_no_mark b h = grind (arith, nat_tests)

stray_first : (bytes : List ℕ) → begins_with is_stray bytes ≡ true
    → (first_kind bytes ≡ 3) × (begins_with (λ b. not (is_blank b)) bytes ≡ true)
stray_first [] h = absurd (both_ways false refl h)
stray_first (b ∷ bytes) h = (stray_kind b h, ap not (stray_no_blank b h))

large_first : (bytes digits rest : List ℕ) → bytes ≡ digits ++ rest → list_all is_ascii_digit digits ≡ true → 2 ^ 64 ≤ digits_value 10 digits
    → (first_kind bytes ≡ 1) × (begins_with (λ b. not (is_blank b)) bytes ≡ true)
large_first bytes [] rest e all large = absurd (omega (arith, large))
large_first bytes (d ∷ digits) rest e all large =
    let digit = (and_parts (is_ascii_digit d) (list_all is_ascii_digit digits) all).0 in
    (ap first_kind e ∙ digit_kind d digit, ap (begins_with (λ b. not (is_blank b))) e ∙ ap not (digit_no_blank d digit))

-- how far from its apostrophe a string with this text, and this behind it, is at fault
abbrev pub offset_of : List ℕ → List ℕ → ℕ
offset_of text [] = 0
offset_of text (b ∷ rest) = 1 + length (quoted text)

-- a string whose text does not go on, and that no apostrophe closes
pub record IsOpen (bytes : List ℕ) (offset : ℕ) : Type 0 where
  pub text : List ℕ
  pub tail : List ℕ
  pub cut : bytes ≡ 39 ∷ (quoted text ++ tail)
  pub printable : list_all is_text_byte text ≡ true
  pub stops : goes_on_text tail ≡ false
  pub unclosed : begins_with (λ b. b == 39) tail ≡ false
  pub place : offset ≡ offset_of text tail

-- what is no token is a byte, a number or a string
abbrev pub IsKindOfFault : List ℕ → ℕ → Type 0
IsKindOfFault bytes offset =
    ((offset ≡ 0) × ((first_kind bytes ≡ 3) × (begins_with is_stray bytes ≡ true)))
    ⊎ (((offset ≡ 0) × ((first_kind bytes ≡ 1) × IsTooLarge bytes))
    ⊎ IsOpen bytes offset)

bad_no_quote : (b : ℕ) → is_text_byte b ≡ false → (b == 39) ≡ false
bad_no_quote b h = grind (arith, nat_tests)

bad_stops : (b : ℕ) (rest : List ℕ) → is_text_byte b ≡ false → goes_on_text (b ∷ rest) ≡ false
bad_stops b rest h = rw (bad_no_quote b h) h

pub kinds_of_fault : (bytes : List ℕ) (offset : ℕ) → IsUnreadable bytes offset → IsKindOfFault bytes offset
kinds_of_fault bytes offset is =
    elim is [
      | inl stray ↦ inl (stray.0, ((stray_first bytes stray.1).0, stray.1))
      | inr other ↦ elim other [
        | inl large ↦ inr (inl (large.0, ((large_first bytes large.1.digits large.1.rest large.1.front.cut large.1.front.passes large.1.large).0, large.1)))
        | inr more ↦ elim more [
          | inl unended ↦ inr (inr (record {
            text = unended.1.text;
            tail = [];
            cut = unended.1.cut ∙ ap (λ s. 39 ∷ s) (sym (append-nil (quoted unended.1.text)));
            printable = unended.1.printable;
            stops = refl;
            unclosed = refl;
            place = unended.0;
          }))
          | inr spoilt ↦ inr (inr (record {
            text = spoilt.text;
            tail = spoilt.bad ∷ spoilt.rest;
            cut = spoilt.cut;
            printable = spoilt.printable;
            stops = bad_stops spoilt.bad spoilt.rest spoilt.is_bad;
            unclosed = bad_no_quote spoilt.bad spoilt.is_bad;
            place = spoilt.place;
          }))
        ]
      ]
    ]

-- what is no token begins with no blank
pub fault_starts : (bytes : List ℕ) (offset : ℕ) → IsKindOfFault bytes offset → begins_with (λ b. not (is_blank b)) bytes ≡ true
fault_starts bytes offset is =
    elim is [
      | inl stray ↦ (stray_first bytes stray.1.1).1
      | inr other ↦ elim other [
        | inl large ↦ (large_first bytes large.1.1.digits large.1.1.rest large.1.1.front.cut large.1.1.front.passes large.1.1.large).1
        | inr open_ ↦ ap (begins_with (λ b. not (is_blank b))) open_.cut
      ]
    ]

mark_or_stray : (b : ℕ) (bytes spelling rest : List ℕ) → IsToken (mark b) bytes spelling rest → begins_with is_stray bytes ≡ true → ⊥
mark_or_stray b bytes spelling rest is stray =
    let here : is_stray b ≡ true = sym (ap (begins_with is_stray) (is.cut ∙ ap (λ s. s ++ rest) is.spelled.0)) ∙ stray in
    both_ways (is_mark b) (stray_no_mark b here) is.spelled.1

number_or_large : (n : ℕ) (bytes spelling rest : List ℕ) → IsToken (number n) bytes spelling rest → IsTooLarge bytes → ⊥
number_or_large n bytes spelling rest is large =
    let same = same_cut is_ascii_digit spelling rest large.digits large.rest is.spelled.1 is.ends large.front.passes large.front.ends
    (sym is.cut ∙ large.front.cut) in
    let value : n ≡ digits_value 10 large.digits = sym is.spelled.2 ∙ ap (digits_value 10) same.0 in
    omega (arith, value, is.spelled.3, large.large)

string_or_open : (text bytes spelling rest : List ℕ) (offset : ℕ) → IsToken (string text) bytes spelling rest → IsOpen bytes offset → ⊥
string_or_open text bytes spelling rest offset is open_ =
    let same = one_string bytes text (39 ∷ rest) open_.text open_.tail (string_cut text rest bytes spelling is.cut is.spelled.0) open_.cut
    is.spelled.1 open_.printable is.ends open_.stops in
    both_ways (begins_with (λ b. b == 39) open_.tail) open_.unclosed (sym (ap (begins_with (λ b. b == 39)) same.1))

apart_kinds : (token : Token) (bytes spelling rest : List ℕ) (offset : ℕ) → IsToken token bytes spelling rest
    → first_kind bytes ≡ kind token → IsKindOfFault bytes offset → ⊥
apart_kinds (name word) bytes spelling rest offset is k fault =
    elim fault [
      | inl stray ↦ omega (arith, k, stray.1.0)
      | inr other ↦ elim other [
        | inl large ↦ omega (arith, k, large.1.0)
        | inr open_ ↦ (let e : first_kind bytes ≡ 2 = ap first_kind open_.cut in omega (arith, k, e))
      ]
    ]
apart_kinds (number n) bytes spelling rest offset is k fault =
    elim fault [
      | inl stray ↦ omega (arith, k, stray.1.0)
      | inr other ↦ elim other [
        | inl large ↦ number_or_large n bytes spelling rest is large.1.1
        | inr open_ ↦ (let e : first_kind bytes ≡ 2 = ap first_kind open_.cut in omega (arith, k, e))
      ]
    ]
apart_kinds (string text) bytes spelling rest offset is k fault =
    elim fault [
      | inl stray ↦ omega (arith, k, stray.1.0)
      | inr other ↦ elim other [
        | inl large ↦ omega (arith, k, large.1.0)
        | inr open_ ↦ string_or_open text bytes spelling rest offset is open_
      ]
    ]
apart_kinds (mark b) bytes spelling rest offset is k fault =
    elim fault [
      | inl stray ↦ mark_or_stray b bytes spelling rest is stray.1.1
      | inr other ↦ elim other [
        | inl large ↦ omega (arith, k, large.1.0)
        | inr open_ ↦ (let e : first_kind bytes ≡ 2 = ap first_kind open_.cut in omega (arith, k, e))
      ]
    ]

-- what begins with a token is no fault
pub token_or_fault : (token : Token) (bytes spelling rest : List ℕ) (offset : ℕ) → IsToken token bytes spelling rest → IsUnreadable bytes offset → ⊥
token_or_fault token bytes spelling rest offset is fault =
    apart_kinds token bytes spelling rest offset is (shown token bytes spelling rest is) (kinds_of_fault bytes offset fault)

same_open : (bytes : List ℕ) (one other : ℕ) → IsOpen bytes one → IsOpen bytes other → one ≡ other
same_open bytes one other a b =
    let same = one_string bytes a.text a.tail b.text b.tail a.cut b.cut a.printable b.printable a.stops b.stops in
    a.place ∙ ap (λ t. offset_of t a.tail) same.0 ∙ ap (λ t. offset_of b.text t) same.1 ∙ sym b.place

-- the fault of a byte or a number is not that of a string
bare_or_open : (bytes : List ℕ) (offset : ℕ) (k : ℕ) → first_kind bytes ≡ k → (k ≡ 2 → ⊥) → IsOpen bytes offset → ⊥
bare_or_open bytes offset k e isnt open_ = isnt (sym e ∙ ap first_kind open_.cut)

same_fault : (bytes : List ℕ) (one other : ℕ) → IsKindOfFault bytes one → IsKindOfFault bytes other → one ≡ other
same_fault bytes one other a b =
    elim a [
      | inl stray ↦ (elim b [
        | inl stray2 ↦ stray.0 ∙ sym stray2.0
        | inr rest ↦ elim rest [
          | inl large ↦ stray.0 ∙ sym large.0
          | inr open_ ↦ absurd (bare_or_open bytes other 3 stray.1.0 (λ e. omega (arith, e)) open_)
        ]
      ])
      | inr more ↦ (elim more [
        | inl large ↦ (elim b [
          | inl stray2 ↦ large.0 ∙ sym stray2.0
          | inr rest ↦ elim rest [
            | inl large2 ↦ large.0 ∙ sym large2.0
            | inr open_ ↦ absurd (bare_or_open bytes other 1 large.1.0 (λ e. omega (arith, e)) open_)
          ]
        ])
        | inr open_ ↦ (elim b [
          | inl stray ↦ absurd (bare_or_open bytes one 3 stray.1.0 (λ e. omega (arith, e)) open_)
          | inr rest ↦ elim rest [
            | inl large ↦ absurd (bare_or_open bytes one 1 large.1.0 (λ e. omega (arith, e)) open_)
            | inr open2 ↦ same_open bytes one other open_ open2
          ]
        ])
      ])
    ]

-- the place of the fault of what is no token is determined
pub one_offset : (bytes : List ℕ) (one other : ℕ) → IsUnreadable bytes one → IsUnreadable bytes other → one ≡ other
one_offset bytes one other a b = same_fault bytes one other (kinds_of_fault bytes one a) (kinds_of_fault bytes other b)
