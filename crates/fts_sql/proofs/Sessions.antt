-- The session of a line, by its bytes and by its tokens.
use Rattle.std.proofs.Common.{◌≡◌, ℕ, ◌+◌, ◌==◌, ◌&&◌, true, false, if◌then◌else◌, List, [], ◌∷◌, ◌++◌, length, Option, Some, None, IfNone, inl, inr, refl, sym, ap, ◌∙◌, subst}
use Rattle.std.specs.List.{list_all}
use Rattle.std.specs.Char.{is_ascii_digit}
use Rattle.std.specs.Str.Parse.{digits_value}
use Rattle.std.proofs.lemmas.Bool.{and_parts, both_ways, cases_Bool, eqb-true}
use Rattle.fts_sql.specs.Token.{Token, name, number, string, mark, is_blank, begins_with, IsFront, IsToken}
use Rattle.fts_sql.specs.Line.{Placed, placed, Ending, whole, unreadable, Reads, IsBlank, IsUnreadable}
use Rattle.fts_sql.specs.Statement.{tokens_in}
use Rattle.fts_sql.specs.Table.{is_session}
use Rattle.fts_sql.specs.Session.{IsNumbered, IsSession, session_in}
use Rattle.fts_sql.proofs.Fronts.{one_front}
use Rattle.fts_sql.proofs.Tokens.{same_token}
use Rattle.fts_sql.proofs.Tables.{no_tokens}
use Rattle.fts_sql.proofs.Bytes.{digit_no_blank}
use Rattle.fts_sql.proofs.Faults.{token_or_fault}
use Rattle.fts_sql.proofs.Readings.{no_blank, one_piece, only_blanks, token_piece, fault_piece}

-- a token that stands first among the bytes is the first of those that are read there
pub first_token : (place : ℕ) (bytes blanks piece spelling rest : List ℕ) (token : Token) (tokens : List Placed) (ending : Ending)
    → bytes ≡ blanks ++ piece → list_all is_blank blanks ≡ true → IsToken token piece spelling rest → Reads place bytes tokens ending
    → (at next : ℕ) × (more : List Placed) × (tokens ≡ placed at token ∷ more) × Reads next rest more ending
first_token place bytes blanks piece spelling rest token [] (whole a) cut blank is r =
    absurd (only_blanks bytes blanks piece r.0 cut blank (token_piece token piece spelling rest is))
first_token place bytes blanks piece spelling rest token [] (unreadable a) cut blank is r =
    let same = one_piece bytes r.0 r.1 blanks piece r.3 r.4 (fault_piece r.1 r.2 r.5) cut blank (token_piece token piece spelling rest is) in
    absurd (token_or_fault token piece spelling rest r.2 is (subst (λ p. IsUnreadable p r.2) same.1 r.5))
first_token place bytes blanks piece spelling rest token (placed a t ∷ more) ending cut blank is r =
    let same = one_piece bytes r.0 r.1 blanks piece r.4 r.5 (token_piece t r.1 r.2 r.3 r.6) cut blank (token_piece token piece spelling rest is) in
    let one = same_token t token piece r.2 spelling r.3 rest (subst (λ p. IsToken t p r.2 r.3) same.1 r.6) is in (
      a,
      place + length r.0 + length r.2,
      more,
      ap (λ x. placed a x ∷ more) one.0,
      subst (λ s. Reads (place + length r.0 + length r.2) s more ending) one.1.1 r.8,
    )

-- blanks and a colon begin with no digit
no_digit : (between rest : List ℕ) → list_all is_blank between ≡ true → begins_with is_ascii_digit (between ++ 58 ∷ rest) ≡ false
no_digit [] rest blank = refl
no_digit (b ∷ between) rest blank =
    elim (cases_Bool (is_ascii_digit b)) [
      | inl is ↦ absurd (both_ways (is_blank b) (digit_no_blank b is) (and_parts (is_blank b) (list_all is_blank between) blank).0)
      | inr isnt ↦ isnt
    ]

-- the tokens that a numbered line begins with
number_token : (line : List ℕ) (session : ℕ) → (is : IsNumbered line session)
    → IsToken (number session) (is.digits ++ (is.between ++ 58 ∷ is.rest)) is.digits (is.between ++ 58 ∷ is.rest)
number_token line session is = record {
  cut = refl;
  spelled = is.spelled;
  ends = no_digit is.between is.rest is.blank_between;
}

mark_token : (rest : List ℕ) → IsToken (mark 58) (58 ∷ rest) (58 ∷ []) rest
mark_token [] = record { cut = refl; spelled = (refl, refl); ends = refl }
mark_token (b ∷ rest) = record { cut = refl; spelled = (refl, refl); ends = refl }

first_tokens : (line : List ℕ) (session : ℕ) (tokens : List Placed) (ending : Ending) → IsNumbered line session → Reads 1 line tokens ending
    → (more : List Token) × (tokens_in tokens ≡ number session ∷ mark 58 ∷ more)
first_tokens line session tokens ending is reads =
    let first = first_token 1 line is.before (is.digits ++ (is.between ++ 58 ∷ is.rest)) is.digits (is.between ++ 58 ∷ is.rest) (number session) tokens ending
    is.cut is.blank_before (number_token line session is) reads in
    let next = first_token first.1 (is.between ++ 58 ∷ is.rest) is.between (58 ∷ is.rest) (58 ∷ []) is.rest (mark 58) first.2 ending
    refl is.blank_between (mark_token is.rest) first.4 in
    (tokens_in next.2, ap tokens_in first.3 ∙ ap (λ ts. number session ∷ tokens_in ts) next.3)

-- the session of a numbered line is what its tokens say
pub numbered_tokens : (line : List ℕ) (session : ℕ) (tokens : List Placed) (ending : Ending) → IsNumbered line session → Reads 1 line tokens ending
    → session ≡ session_in (tokens_in tokens)
numbered_tokens line session tokens ending is reads =
    let first = first_tokens line session tokens ending is reads in
    sym (ap session_in first.1 ∙ ap (λ b. if b && true then session else 1) is.is)

-- tokens that begin with a session's number stand in a numbered line
numbered_by : (place : ℕ) (line : List ℕ) (a b n m : ℕ) (more : List Placed) (ending : Ending) → is_session n ≡ true → m ≡ 58
    → Reads place line (placed a (number n) ∷ placed b (mark m) ∷ more) ending → IsNumbered line n
numbered_by place line a b n m more ending within colon r =
    let q = r.8 in record {
      before = r.0;
      digits = r.2;
      between = q.0;
      rest = q.3;
      cut = r.4 ∙ ap (λ s. r.0 ++ s) (r.6.cut ∙ ap (λ s. r.2 ++ s) (q.4 ∙ ap (λ s. q.0 ++ s)
          (q.6.cut ∙ ap (λ s. s ++ q.3) (q.6.spelled.0 ∙ ap (λ c. c ∷ []) colon))));
      blank_before = r.5;
      blank_between = q.5;
      spelled = r.6.spelled;
      is = within;
    }

-- a line that is not numbered is session 1's, by its tokens too
pub bare_tokens : (line : List ℕ) (tokens : List Placed) (ending : Ending) → ((n : ℕ) → IsNumbered line n → ⊥) → Reads 1 line tokens ending
    → 1 ≡ session_in (tokens_in tokens)
bare_tokens line [] ending none reads = refl
bare_tokens line (placed a (name w) ∷ more) ending none reads = refl
bare_tokens line (placed a (string w) ∷ more) ending none reads = refl
bare_tokens line (placed a (mark c) ∷ more) ending none reads = refl
bare_tokens line (placed a (number n) ∷ []) ending none reads = refl
bare_tokens line (placed a (number n) ∷ placed b (name w) ∷ more) ending none reads = refl
bare_tokens line (placed a (number n) ∷ placed b (string w) ∷ more) ending none reads = refl
bare_tokens line (placed a (number n) ∷ placed b (number m) ∷ more) ending none reads = refl
bare_tokens line (placed a (number n) ∷ placed b (mark m) ∷ more) ending none reads =
    elim (cases_Bool (is_session n && (m == 58))) [
      | inl is ↦ (
          let both = and_parts (is_session n) (m == 58) is in
          absurd (none n (numbered_by 1 line a b n m more ending both.0 (eqb-true m 58 both.1) reads)))
      | inr isnt ↦ sym (ap (λ c. if c then n else 1) isnt)
    ]

-- the tokens of a blank line
blank_reading : (line : List ℕ) → IsBlank line → (ending : Ending) × Reads 1 line [] ending
blank_reading line (inl all) = (whole (1 + length line), (all, refl))
blank_reading line (inr comment) =
    let bad : IsUnreadable (45 ∷ 45 ∷ comment.1) 0 = inl (refl, refl) in
    (unreadable (1 + length comment.0 + 0), (comment.0, 45 ∷ 45 ∷ comment.1, 0, comment.3, comment.2, bad, refl))

-- a numbered line is not blank
pub numbered_no_blank : (line : List ℕ) (session : ℕ) → IsNumbered line session → IsBlank line → ⊥
numbered_no_blank line session is blank =
    let reads = blank_reading line blank in
    let first = first_tokens line session [] reads.0 is reads.1 in
    no_tokens (number session) (mark 58 ∷ first.0) (sym first.1)

abbrev number_in : Token → ℕ
number_in (name w) = 0
number_in (number n) = n
number_in (string w) = 0
number_in (mark b) = 0

-- a line has one number
one_number : (line : List ℕ) (one other : ℕ) → IsNumbered line one → IsNumbered line other → one ≡ other
one_number line one other is is2 =
    let all : List ℕ = is.digits ++ (is.between ++ 58 ∷ is.rest) in
    let all2 : List ℕ = is2.digits ++ (is2.between ++ 58 ∷ is2.rest) in
    let token = number_token line one is in
    let token2 = number_token line other is2 in
    let same = one_piece line is.before all is2.before all2
    is.cut is.blank_before (token_piece (number one) all is.digits (is.between ++ 58 ∷ is.rest) token)
    is2.cut is2.blank_before (token_piece (number other) all2 is2.digits (is2.between ++ 58 ∷ is2.rest) token2) in
    ap number_in (same_token (number one) (number other) all2 is.digits is2.digits (is.between ++ 58 ∷ is.rest) (is2.between ++ 58 ∷ is2.rest)
    (subst (λ p. IsToken (number one) p is.digits (is.between ++ 58 ∷ is.rest)) same.1 token) token2).0

-- a line has one session
pub one_session : (line : List ℕ) (one other : Option ℕ) → IsSession line one → IsSession line other → one ≡ other
one_session line None None is is2 = refl
one_session line None (Some b) is is2 = absurd (is2.0 is)
one_session line (Some a) None is is2 = absurd (is.0 is2)
one_session line (Some a) (Some b) (some, inl is) (some2, inl is2) = ap Some (one_number line a b is is2)
one_session line (Some a) (Some b) (some, inl is) (some2, inr none) = absurd (none.1 a is)
one_session line (Some a) (Some b) (some, inr none) (some2, inl is2) = absurd (none.1 b is2)
one_session line (Some a) (Some b) (some, inr none) (some2, inr none2) = ap Some (none.0 ∙ sym none2.0)

-- where a line's first pieces are these, a number in front of it is the first

record Fronts (line before text digits behind between rest : List ℕ) : Type 0 where
  blanks : IsFront is_blank line before text
  number : IsFront is_ascii_digit text digits behind
  more : IsFront is_blank behind between rest

digits_are : (line before text digits behind between rest : List ℕ) (session : ℕ) → Fronts line before text digits behind between rest
    → (is : IsNumbered line session) → (digits ≡ is.digits) × (rest ≡ 58 ∷ is.rest)
digits_are line before text digits behind between rest session fronts is =
    let token = number_token line session is in
    let first = one_front is_blank line before text is.before (is.digits ++ (is.between ++ 58 ∷ is.rest)) fronts.blanks is.cut is.blank_before
    (no_blank (is.digits ++ (is.between ++ 58 ∷ is.rest)) (token_piece (number session) _ is.digits (is.between ++ 58 ∷ is.rest) token)) in
    let next = one_front is_ascii_digit text digits behind is.digits (is.between ++ 58 ∷ is.rest) fronts.number first.1 is.spelled.1 token.ends in
    let last = one_front is_blank behind between rest is.between (58 ∷ is.rest) fronts.more next.1 is.blank_between refl in
    (next.0, last.1)

pub not_marked : (line before text digits behind between rest : List ℕ) → IsFront is_blank line before text → IsFront is_ascii_digit text digits behind
    → IsFront is_blank behind between rest → ((after : List ℕ) → rest ≡ 58 ∷ after → ⊥) → (session : ℕ) → IsNumbered line session → ⊥
not_marked line before text digits behind between rest one two three none session is =
    let are = digits_are line before text digits behind between rest session (record { blanks = one; number = two; more = three }) is in
    none is.rest are.1

pub not_numbered : (line before text digits behind between rest : List ℕ) (number : Option ℕ) → IsFront is_blank line before text
    → IsFront is_ascii_digit text digits behind → IsFront is_blank behind between rest → IfNone number (is_session (digits_value 10 digits) ≡ false)
    → IfNone number ((session : ℕ) → IsNumbered line session → ⊥)
not_numbered line before text digits behind between rest (Some n) one two three isnt = isnt
not_numbered line before text digits behind between rest None one two three isnt = λ session is.
    let are = digits_are line before text digits behind between rest session (record { blanks = one; number = two; more = three }) is in
    both_ways (is_session session) (ap is_session (sym is.spelled.2) ∙ ap (λ d. is_session (digits_value 10 d)) (sym are.0) ∙ isnt) is.is
