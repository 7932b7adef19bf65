use Rattle.std.proofs.Common.{◌≡◌, ℕ, not, ◌==◌, true, false, List, [], ◌∷◌, ◌++◌, sym, ap, ◌∙◌, arith, if◌then◌else◌}
use Rattle.std.specs.List.{list_all}
use Rattle.std.specs.Char.{is_ascii_digit}
use Rattle.std.specs.Str.Parse.{digits_value}
use Rattle.std.proofs.lemmas.Bool.{and_parts}
use Rattle.std.proofs.lemmas.Bool.Decides.{nat_tests}
use Rattle.std.proofs.lemmas.List.{append_assoc, append_cancel_right}
use Rattle.fts_words.specs.Byte.{is_word_byte}
use Rattle.fts_commits.specs.Text.{is_text_byte}
use Rattle.fts_sql.specs.Token.{Token, name, number, string, mark, is_blank, is_mark, begins_with, IsSpelling, quoted, IsToken}
use Rattle.fts_sql.specs.Reading.{goes_on_text}
use Rattle.fts_sql.proofs.Fronts.{same_cut}
use Rattle.fts_sql.proofs.Bytes.{word_byte_no_blank, digit_no_blank, mark_no_blank}
use Rattle.fts_sql.proofs.Quotes.{one_text}

-- no token is written with a blank in front
pub starts : (token : Token) (spelling rest : List ℕ) → IsSpelling token spelling → begins_with (λ b. not (is_blank b)) (spelling ++ rest) ≡ true
starts (name word) [] rest h = absurd (omega (arith, h.0))
starts (name word) (b ∷ bs) rest h = ap not (word_byte_no_blank b (and_parts (is_word_byte b) (list_all is_word_byte bs) h.1).0)
starts (number n) [] rest h = absurd (omega (arith, h.0))
starts (number n) (b ∷ bs) rest h = ap not (digit_no_blank b (and_parts (is_ascii_digit b) (list_all is_ascii_digit bs) h.1).0)
starts (string text) spelling rest h = ap (λ s. begins_with (λ b. not (is_blank b)) (s ++ rest)) h.0
starts (mark b) spelling rest h = ap (λ s. begins_with (λ b. not (is_blank b)) (s ++ rest)) h.0 ∙ ap not (mark_no_blank b h.1)

-- the kind of a token
abbrev pub kind : Token → ℕ
kind (name word) = 0
kind (number n) = 1
kind (string text) = 2
kind (mark b) = 3

-- the kind of the token that a byte begins
abbrev pub kind_of_byte : ℕ → ℕ
kind_of_byte b = if is_ascii_digit b then 1 else if is_word_byte b then 0 else if b == 39 then 2 else 3

-- the kind of the token that some bytes begin with
abbrev pub first_kind : List ℕ → ℕ
first_kind [] = 4
first_kind (b ∷ bs) = kind_of_byte b

pub digit_kind : (b : ℕ) → is_ascii_digit b ≡ true → kind_of_byte b ≡ 1
digit_kind b h = grind (arith, nat_tests)

name_kind : (b : ℕ) → is_word_byte b ≡ true → is_ascii_digit b ≡ false → kind_of_byte b ≡ 0
name_kind b h k = grind (arith, nat_tests)

mark_kind : (b : ℕ) → is_mark b ≡ true → kind_of_byte b ≡ 3
mark_kind b h = grind (arith, nat_tests)

-- the first byte shows the kind
pub kind_shows : (token : Token) (spelling rest : List ℕ) → IsSpelling token spelling → first_kind (spelling ++ rest) ≡ kind token
kind_shows (name word) [] rest h = absurd (omega (arith, h.0))
kind_shows (name word) (b ∷ bs) rest h = name_kind b (and_parts (is_word_byte b) (list_all is_word_byte bs) h.1).0 h.2
kind_shows (number n) [] rest h = absurd (omega (arith, h.0))
kind_shows (number n) (b ∷ bs) rest h = digit_kind b (and_parts (is_ascii_digit b) (list_all is_ascii_digit bs) h.1).0
kind_shows (string text) spelling rest h = ap (λ s. first_kind (s ++ rest)) h.0
kind_shows (mark b) spelling rest h = ap (λ s. first_kind (s ++ rest)) h.0 ∙ mark_kind b h.1

-- the text of a string, and what follows its closing apostrophe, cut another way
pub string_cut : (text rest bytes spelling : List ℕ) → bytes ≡ spelling ++ rest → spelling ≡ 39 ∷ (quoted text ++ 39 ∷ [])
    → bytes ≡ 39 ∷ (quoted text ++ 39 ∷ rest)
string_cut text rest bytes spelling cut e =
    cut ∙ ap (λ s. s ++ rest) e ∙ ap (λ s. 39 ∷ s) (append_assoc (quoted text) (39 ∷ []) rest)

-- two ways in which a string's text is cut from the bytes behind its apostrophe are one
pub one_string : (bytes text rest other after : List ℕ) → bytes ≡ 39 ∷ (quoted text ++ rest) → bytes ≡ 39 ∷ (quoted other ++ after)
    → list_all is_text_byte text ≡ true → list_all is_text_byte other ≡ true
    → goes_on_text rest ≡ false → goes_on_text after ≡ false → (text ≡ other) × (rest ≡ after)
one_string bytes text rest other after cut again printable all stops ends =
    let e : 39 ∷ (quoted text ++ rest) ≡ 39 ∷ (quoted other ++ after) = sym cut ∙ again in
    one_text text rest other after stops ends printable all cc

-- bytes that begin with two tokens begin with one
same_spelling : (one other : Token) (bytes s t r q : List ℕ) → IsToken one bytes s r → IsToken other bytes t q
    → kind one ≡ kind other → (one ≡ other) × (r ≡ q)
same_spelling (name w) (name v) bytes s t r q a b k =
    let same = same_cut is_word_byte s r t q a.spelled.1 a.ends b.spelled.1 b.ends (sym a.cut ∙ b.cut) in
    (ap name (sym a.spelled.3 ∙ same.0 ∙ b.spelled.3), same.1)
same_spelling (number n) (number m) bytes s t r q a b k =
    let same = same_cut is_ascii_digit s r t q a.spelled.1 a.ends b.spelled.1 b.ends (sym a.cut ∙ b.cut) in
    (ap number (sym a.spelled.2 ∙ ap (digits_value 10) same.0 ∙ b.spelled.2), same.1)
same_spelling (string x) (string y) bytes s t r q a b k =
    let same = one_string bytes x (39 ∷ r) y (39 ∷ q) (string_cut x r bytes s a.cut a.spelled.0) (string_cut y q bytes t b.cut b.spelled.0)
    a.spelled.1 b.spelled.1 a.ends b.ends in
    (ap string same.0, (let e = same.1 in cc))
same_spelling (mark b) (mark c) bytes s t r q one other k =
    let f : b ∷ r ≡ c ∷ q = sym (ap (λ a. a ++ r) one.spelled.0) ∙ sym one.cut ∙ other.cut ∙ ap (λ a. a ++ q) other.spelled.0 in
    let same : b ≡ c = cc in
    (ap mark same, cc)
same_spelling one other bytes s t r q a b k = absurd (omega (arith, k))

pub shown : (token : Token) (bytes spelling rest : List ℕ) → IsToken token bytes spelling rest → first_kind bytes ≡ kind token
shown token bytes spelling rest is = ap first_kind is.cut ∙ kind_shows token spelling rest is.spelled

-- bytes begin with at most one token, and its spelling and what follows it are determined
pub same_token : (one other : Token) (bytes s t r q : List ℕ) → IsToken one bytes s r → IsToken other bytes t q
    → (one ≡ other) × ((s ≡ t) × (r ≡ q))
same_token one other bytes s t r q a b =
    let same = same_spelling one other bytes s t r q a b (sym (shown one bytes s r a) ∙ shown other bytes t q b) in
    let e : s ++ q ≡ t ++ q = ap (λ x. s ++ x) (sym same.1) ∙ sym a.cut ∙ b.cut in
    (same.0, (append_cancel_right s t q e, same.1))
