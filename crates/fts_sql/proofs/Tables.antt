-- What a table's tokens are, read from the left.
use Rattle.std.proofs.Common.{◌≡◌, ◌↔◌, inl, inr, ℕ, zero, suc, Bool, true, false, not, ◌==◌, if◌then◌else◌, List, [], ◌∷◌, length, Option, Some, None, refl, sym, ap, ◌∙◌, subst, arith}
use Rattle.std.specs.List.{list_all}
use Rattle.std.specs.Str.{bytes_eq, str_to_ascii_lowercase}
use Rattle.std.proofs.lemmas.Bool.{and_parts, both_ways, cases_Bool, eqb-true}
use Rattle.std.proofs.lemmas.Slice.Eq.{bytes_eq-Decides}
use Rattle.std.proofs.lemmas.Bool.Decides.{nat_tests}
use Rattle.fts_sql.specs.Token.{Token, name, number, string, mark}
use Rattle.fts_sql.specs.declared.word.Word.TheVariants as word
use Rattle.fts_sql.specs.declared.piece.Piece.{Piece}
use Rattle.fts_sql.specs.declared.piece.Piece.TheVariants.{Keyword, Mark, Name, Number, String, Value, Session}
use Rattle.fts_sql.specs.Table.{letters, is_piece, taken_by, Are, Often, Says, Part, Once, Optional, Repeated}
use Rattle.fts_sql.specs.Reader.{are_apart, firsts, are_told, is_table, Spot, SaysFrom, or_else, enter, behind, can_end, ends}

equal_bytes : (xs ys : List ℕ) → bytes_eq xs ys ≡ true → xs ≡ ys
equal_bytes xs ys e = (bytes_eq-Decides xs ys).0 e

bytes_equal : (xs ys : List ℕ) → xs ≡ ys → bytes_eq xs ys ≡ true
bytes_equal xs ys e = (bytes_eq-Decides xs ys).1 e

same_byte : (b : ℕ) → (b == b) ≡ true
same_byte b = grind (arith, nat_tests)

no_true : false ≡ true → ⊥
no_true e = both_ways false refl e

pub no_tokens : (t : Token) (ts : List Token) → t ∷ ts ≡ [] → ⊥
no_tokens t ts e = let n : length (t ∷ ts) ≡ 0 = ap length e in omega (arith, n)

same_first : (t u : Token) (ts us : List Token) → t ∷ ts ≡ u ∷ us → (t ≡ u) × (ts ≡ us)
same_first t u ts us e =
    let first : t ≡ u = cc in
    let rest : ts ≡ us = cc in
    (first, rest)

-- pieces that are apart have no token in common
apart : (p q : Piece) (t : Token) → are_apart p q ≡ true → is_piece p t ≡ true → is_piece q t ≡ true → ⊥
apart (Keyword v) (Keyword w) (name u) is a b =
    let lowered = str_to_ascii_lowercase in
    let same : lowered (letters v) ≡ lowered (letters w) = sym (equal_bytes (lowered u) (lowered (letters v)) a) ∙ equal_bytes (lowered u) (lowered (letters w)) b in
    no_true (sym (ap not (bytes_equal (lowered (letters v)) (lowered (letters w)) same)) ∙ is)
apart (Keyword v) (Keyword w) (number n) is a b = no_true a
apart (Keyword v) (Keyword w) (string s) is a b = no_true a
apart (Keyword v) (Keyword w) (mark c) is a b = no_true a
apart (Keyword v) (Mark d) (name u) is a b = no_true b
apart (Keyword v) (Mark d) (number n) is a b = no_true a
apart (Keyword v) (Mark d) (string s) is a b = no_true a
apart (Keyword v) (Mark d) (mark c) is a b = no_true a
apart (Mark d) (Keyword w) (name u) is a b = no_true a
apart (Mark d) (Keyword w) (number n) is a b = no_true a
apart (Mark d) (Keyword w) (string s) is a b = no_true a
apart (Mark d) (Keyword w) (mark c) is a b = no_true b
apart (Mark d) (Mark e) (name u) is a b = no_true a
apart (Mark d) (Mark e) (number n) is a b = no_true a
apart (Mark d) (Mark e) (string s) is a b = no_true a
apart (Mark d) (Mark e) (mark c) is a b =
    let same : d ≡ e = eqb-true d c a ∙ sym (eqb-true e c b) in
    no_true (sym (ap not (subst (λ x. (d == x) ≡ true) same (same_byte d))) ∙ is)
apart Session (Keyword w) (name u) is a b = no_true a
apart Session (Keyword w) (number n) is a b = no_true b
apart Session (Keyword w) (string s) is a b = no_true a
apart Session (Keyword w) (mark c) is a b = no_true a
apart Session (Mark d) t is a b = no_true is
apart Session Name t is a b = no_true is
apart Session Number t is a b = no_true is
apart Session String t is a b = no_true is
apart Session Value t is a b = no_true is
apart Session Session t is a b = no_true is
apart (Keyword v) Name t is a b = no_true is
apart (Keyword v) Number t is a b = no_true is
apart (Keyword v) String t is a b = no_true is
apart (Keyword v) Value t is a b = no_true is
apart (Keyword v) Session t is a b = no_true is
apart (Mark d) Name t is a b = no_true is
apart (Mark d) Number t is a b = no_true is
apart (Mark d) String t is a b = no_true is
apart (Mark d) Value t is a b = no_true is
apart (Mark d) Session t is a b = no_true is
apart Name q t is a b = no_true is
apart Number q t is a b = no_true is
apart String q t is a b = no_true is
apart Value q t is a b = no_true is

-- the token of the first of some pieces, and what follows it
are_to : (p : Piece) (ps : List Piece) (R : List Token → List Token → Type 0) (t : Token) (rest taken : List Token) → Are (p ∷ ps) R (t ∷ rest) taken
    → (is_piece p t ≡ true) × Are ps R rest (taken_by p t taken)
are_to p ps R t rest taken (first, more, e, is, r) =
    let same = same_first t first rest more e in (
      subst (λ x. is_piece p x ≡ true) (sym same.0) is,
      subst (λ ts. Are ps R ts (taken_by p t taken)) (sym same.1) (subst (λ x. Are ps R more (taken_by p x taken)) (sym same.0) r),
    )

are_none : (p : Piece) (ps : List Piece) (R : List Token → List Token → Type 0) (taken : List Token) → Are (p ∷ ps) R [] taken → ⊥
are_none p ps R taken (first, more, e, is, r) = no_tokens first more (sym e)

are_map : (ps : List Piece) (R S : List Token → List Token → Type 0) → ((tokens taken : List Token) → R tokens taken → S tokens taken)
    → (tokens taken : List Token) → Are ps R tokens taken → Are ps S tokens taken
are_map [] R S f tokens taken h = f tokens taken h
are_map (p ∷ ps) R S f tokens taken (first, more, e, is, r) = (first, more, e, is, are_map ps R S f more (taken_by p first taken) r)

are_out : (ps : List Piece) (R : ℕ → List Token → List Token → Type 0) (tokens taken : List Token)
    → Are ps (λ ts k. (n : ℕ) × R n ts k) tokens taken → (n : ℕ) × Are ps (R n) tokens taken
are_out [] R tokens taken h = h
are_out (p ∷ ps) R tokens taken (first, more, e, is, r) =
    let out = are_out ps R more (taken_by p first taken) r in (out.0, (first, more, e, is, out.1))

-- what stands behind a part that a token could begin does not begin with it
none_first : (p : Piece) (t : Token) → is_piece p t ≡ true → (parts : List Part) → is_table parts ≡ true → list_all (are_apart p) (firsts parts) ≡ true
    → (all rest taken : List Token) → Says parts all (t ∷ rest) taken → ⊥
none_first p t is [] table told all rest taken h = no_tokens t rest h.0
none_first p t is (Once q ∷ parts) table told all rest taken h =
    apart p q t (and_parts (are_apart p q) true told).0 is (are_to q [] (Says parts all) t rest taken h).0
none_first p t is (Optional [] ∷ parts) table told all rest taken h = no_true table
none_first p t is (Optional (q ∷ qs) ∷ parts) table told all rest taken h =
    let here = and_parts (are_apart p q) (list_all (are_apart p) (firsts parts)) told in
    let later = and_parts (are_told (q ∷ qs) (firsts parts)) (is_table parts) table in
    elim h [
      | inl one ↦ apart p q t here.0 is (are_to q qs (Says parts all) t rest taken one).0
      | inr other ↦ none_first p t is parts later.1 here.1 all rest taken other
    ]
none_first p t is (Repeated [] ∷ parts) table told all rest taken h = no_true table
none_first p t is (Repeated (q ∷ qs) ∷ parts) table told all rest taken (zero, h) =
    let here = and_parts (are_apart p q) (list_all (are_apart p) (firsts parts)) told in
    let later = and_parts (are_told (q ∷ qs) (firsts parts)) (is_table parts) table in
    none_first p t is parts later.1 here.1 all rest taken h
none_first p t is (Repeated (q ∷ qs) ∷ parts) table told all rest taken (suc n, h) =
    let here = and_parts (are_apart p q) (list_all (are_apart p) (firsts parts)) told in
    apart p q t here.0 is (are_to q qs (Often n (q ∷ qs) (Says parts all)) t rest taken h).0

-- what a token leads to, where the tokens from here on are these
abbrev pub IsStep : (List Token → List Token → List Token → Type 0) → Token → Option (Piece × Spot) → Type 0
IsStep R t None = (all rest taken : List Token) → R all (t ∷ rest) taken → ⊥
IsStep R t (Some step) =
    ((all rest taken : List Token) → R all (t ∷ rest) taken ↔ SaysFrom step.1 all rest (taken_by step.0 t taken))
    × (is_table step.1.ahead ≡ true)

step_by : (R S : List Token → List Token → List Token → Type 0) (t : Token) → ((all rest taken : List Token) → S all (t ∷ rest) taken ↔ R all (t ∷ rest) taken)
    → (step : Option (Piece × Spot)) → IsStep R t step → IsStep S t step
step_by R S t same None is = λ all rest taken h. is all rest taken ((same all rest taken).0 h)
step_by R S t same (Some step) is = (
  λ all rest taken. (
    λ h. (is.0 all rest taken).0 ((same all rest taken).0 h),
    λ k. (same all rest taken).1 ((is.0 all rest taken).1 k),
  ),
  is.1,
)

begun_is : (p : Piece) (ps : List Piece) (parts : List Part) (t : Token) (b : Bool) → is_piece p t ≡ b → is_table parts ≡ true
    → IsStep (λ all. Are (p ∷ ps) (Says parts all)) t (if b then Some (p, record { begun = ps; ahead = parts }) else None)
begun_is p ps parts t true e table = (
  λ all rest taken. (
    λ h. (are_to p ps (Says parts all) t rest taken h).1,
    λ k. (t, rest, refl, e, k),
  ),
  table,
)
begun_is p ps parts t false e table = λ all rest taken h. both_ways (is_piece p t) e (are_to p ps (Says parts all) t rest taken h).0

optional_is : (p : Piece) (ps : List Piece) (parts : List Part) (t : Token) (b : Bool) → is_piece p t ≡ b → is_table (Optional (p ∷ ps) ∷ parts) ≡ true
    → IsStep (Says parts) t (enter parts t)
    → IsStep (Says (Optional (p ∷ ps) ∷ parts)) t (or_else (if b then Some (p, record { begun = ps; ahead = parts }) else None) (enter parts t))
optional_is p ps parts t true e table later =
    let told = and_parts (are_told (p ∷ ps) (firsts parts)) (is_table parts) table in (
      λ all rest taken. (
        λ h. elim h [
          | inl one ↦ (are_to p ps (Says parts all) t rest taken one).1
          | inr other ↦ absurd (none_first p t e parts told.1 told.0 all rest taken other)
        ],
        λ k. inl (t, rest, refl, e, k),
      ),
      told.1,
    )
optional_is p ps parts t false e table later =
    step_by (Says parts) (Says (Optional (p ∷ ps) ∷ parts)) t (λ all rest taken. (
      λ h. elim h [
        | inl one ↦ absurd (both_ways (is_piece p t) e (are_to p ps (Says parts all) t rest taken one).0)
        | inr other ↦ other
      ],
      λ k. inr k,
    )) (enter parts t) later

repeated_to : (p : Piece) (ps : List Piece) (parts : List Part) (t : Token) → is_piece p t ≡ true → is_table (Repeated (p ∷ ps) ∷ parts) ≡ true
    → (all rest taken : List Token) → Says (Repeated (p ∷ ps) ∷ parts) all (t ∷ rest) taken
    → Are ps (Says (Repeated (p ∷ ps) ∷ parts) all) rest (taken_by p t taken)
repeated_to p ps parts t e table all rest taken (zero, h) =
    let told = and_parts (are_told (p ∷ ps) (firsts parts)) (is_table parts) table in
    absurd (none_first p t e parts told.1 told.0 all rest taken h)
repeated_to p ps parts t e table all rest taken (suc n, h) =
    are_map ps (Often n (p ∷ ps) (Says parts all)) (Says (Repeated (p ∷ ps) ∷ parts) all) (λ tokens kept more. (n, more)) rest (taken_by p t taken)
    (are_to p ps (Often n (p ∷ ps) (Says parts all)) t rest taken h).1

repeated_from : (p : Piece) (ps : List Piece) (parts : List Part) (t : Token) → is_piece p t ≡ true
    → (all rest taken : List Token) → Are ps (Says (Repeated (p ∷ ps) ∷ parts) all) rest (taken_by p t taken)
    → Says (Repeated (p ∷ ps) ∷ parts) all (t ∷ rest) taken
repeated_from p ps parts t e all rest taken h =
    let out = are_out ps (λ n. Often n (p ∷ ps) (Says parts all)) rest (taken_by p t taken) h in
    (suc out.0, (t, rest, refl, e, out.1))

not_repeated : (p : Piece) (ps : List Piece) (parts : List Part) (t : Token) → is_piece p t ≡ false
    → (all rest taken : List Token) → Says (Repeated (p ∷ ps) ∷ parts) all (t ∷ rest) taken → Says parts all (t ∷ rest) taken
not_repeated p ps parts t e all rest taken (zero, h) = h
not_repeated p ps parts t e all rest taken (suc n, h) =
    absurd (both_ways (is_piece p t) e (are_to p ps (Often n (p ∷ ps) (Says parts all)) t rest taken h).0)

repeated_is : (p : Piece) (ps : List Piece) (parts : List Part) (t : Token) (b : Bool) → is_piece p t ≡ b → is_table (Repeated (p ∷ ps) ∷ parts) ≡ true
    → IsStep (Says parts) t (enter parts t)
    → IsStep (Says (Repeated (p ∷ ps) ∷ parts)) t
    (or_else (if b then Some (p, record { begun = ps; ahead = Repeated (p ∷ ps) ∷ parts }) else None) (enter parts t))
repeated_is p ps parts t true e table later = (
  λ all rest taken. (repeated_to p ps parts t e table all rest taken, repeated_from p ps parts t e all rest taken),
  table,
)
repeated_is p ps parts t false e table later =
    step_by (Says parts) (Says (Repeated (p ∷ ps) ∷ parts)) t (λ all rest taken. (not_repeated p ps parts t e all rest taken, λ k. (0, k)))
    (enter parts t) later

enter_is : (parts : List Part) (t : Token) → is_table parts ≡ true → IsStep (Says parts) t (enter parts t)
enter_is [] t table = λ all rest taken h. no_tokens t rest h.0
enter_is (Once p ∷ parts) t table = begun_is p [] parts t (is_piece p t) refl table
enter_is (Optional [] ∷ parts) t table = absurd (no_true table)
enter_is (Optional (p ∷ ps) ∷ parts) t table =
    optional_is p ps parts t (is_piece p t) refl table (enter_is parts t (and_parts (are_told (p ∷ ps) (firsts parts)) (is_table parts) table).1)
enter_is (Repeated [] ∷ parts) t table = absurd (no_true table)
enter_is (Repeated (p ∷ ps) ∷ parts) t table =
    repeated_is p ps parts t (is_piece p t) refl table (enter_is parts t (and_parts (are_told (p ∷ ps) (firsts parts)) (is_table parts) table).1)

-- what the next token leads to is what the reader says
pub behind_is : (begun : List Piece) (ahead : List Part) (t : Token) → is_table ahead ≡ true
    → IsStep (λ all. Are begun (Says ahead all)) t (behind begun ahead t)
behind_is [] ahead t table = enter_is ahead t table
behind_is (p ∷ ps) ahead t table = begun_is p ps ahead t (is_piece p t) refl table

-- where no token follows

end_is : (parts : List Part) → is_table parts ≡ true → (all taken : List Token) → Says parts all [] taken ↔ ((can_end parts ≡ true) × (taken ≡ all))
end_is [] table all taken = (λ h. (refl, h.1), λ k. (refl, k.1))
end_is (Once p ∷ parts) table all taken =
    (λ h. absurd (are_none p [] (Says parts all) taken h), λ k. absurd (no_true k.0))
end_is (Optional [] ∷ parts) table all taken = absurd (no_true table)
end_is (Optional (p ∷ ps) ∷ parts) table all taken =
    let later = end_is parts (and_parts (are_told (p ∷ ps) (firsts parts)) (is_table parts) table).1 all taken in (
      λ h. elim h [
        | inl one ↦ absurd (are_none p ps (Says parts all) taken one)
        | inr other ↦ later.0 other
      ],
      λ k. inr (later.1 k),
    )
end_is (Repeated [] ∷ parts) table all taken = absurd (no_true table)
end_is (Repeated (p ∷ ps) ∷ parts) table all taken =
    let later = end_is parts (and_parts (are_told (p ∷ ps) (firsts parts)) (is_table parts) table).1 all taken in
    (λ h. later.0 (no_more p ps parts all taken h), λ k. (0, later.1 k))
  where
    no_more : (p : Piece) (ps : List Piece) (parts : List Part) (all taken : List Token) → Says (Repeated (p ∷ ps) ∷ parts) all [] taken → Says parts all [] taken
    no_more p ps parts all taken (zero, h) = h
    no_more p ps parts all taken (suc n, h) = absurd (are_none p ps (Often n (p ∷ ps) (Says parts all)) taken h)

pub spot_end : (begun : List Piece) (ahead : List Part) → is_table ahead ≡ true → (all taken : List Token)
    → Are begun (Says ahead all) [] taken ↔ ((ends begun ahead ≡ true) × (taken ≡ all))
spot_end [] ahead table all taken = end_is ahead table all taken
spot_end (p ∷ ps) ahead table all taken = (λ h. absurd (are_none p ps (Says ahead all) taken h), λ k. absurd (no_true k.0))

-- tokens can go on from each place to an end

abbrev sample : Piece → Token
sample (Keyword w) = name (letters w)
sample (Mark b) = mark b
sample Name = name []
sample Number = number 0
sample String = string []
sample Value = number 0
sample Session = number 1

sample_is : (p : Piece) → is_piece p (sample p) ≡ true
sample_is (Keyword word.Against) = refl
sample_is (Keyword word.Begin) = refl
sample_is (Keyword word.Boolean) = refl
sample_is (Keyword word.Commit) = refl
sample_is (Keyword word.Delete) = refl
sample_is (Keyword word.From) = refl
sample_is (Keyword word.FtsDocId) = refl
sample_is (Keyword word.Id) = refl
sample_is (Keyword word.In) = refl
sample_is (Keyword word.Insert) = refl
sample_is (Keyword word.Into) = refl
sample_is (Keyword word.Match) = refl
sample_is (Keyword word.Mode) = refl
sample_is (Keyword word.Optimize) = refl
sample_is (Keyword word.Rollback) = refl
sample_is (Keyword word.Select) = refl
sample_is (Keyword word.Set) = refl
sample_is (Keyword word.Start) = refl
sample_is (Keyword word.Sync) = refl
sample_is (Keyword word.Table) = refl
sample_is (Keyword word.Transaction) = refl
sample_is (Keyword word.Update) = refl
sample_is (Keyword word.Values) = refl
sample_is (Keyword word.Where) = refl
sample_is (Mark b) = same_byte b
sample_is Name = refl
sample_is Number = refl
sample_is String = refl
sample_is Value = refl
sample_is Session = refl

abbrev Completes : (List Token → List Token → List Token → Type 0) → Type 0
Completes R = (taken : List Token) → (rest all : List Token) × R all rest taken

are_complete : (ps : List Piece) (R : List Token → List Token → List Token → Type 0) → Completes R → Completes (λ all. Are ps (R all))
are_complete [] R completes = completes
are_complete (p ∷ ps) R completes = λ taken.
    let t = sample p in
    let r = are_complete ps R completes (taken_by p t taken) in
    (t ∷ r.0, r.1, (t, r.0, refl, sample_is p, r.2))

complete : (parts : List Part) → Completes (Says parts)
complete [] = λ taken. ([], taken, (refl, refl))
complete (Once p ∷ parts) = are_complete (p ∷ []) (Says parts) (complete parts)
complete (Optional pieces ∷ parts) = λ taken. (let r = complete parts taken in (r.0, r.1, inr r.2))
complete (Repeated pieces ∷ parts) = λ taken. (let r = complete parts taken in (r.0, r.1, (0, r.2)))

pub spot_completes : (begun : List Piece) (ahead : List Part) → Completes (λ all. Are begun (Says ahead all))
spot_completes begun ahead = are_complete begun (Says ahead) (complete ahead)

-- tokens take one list

then_one : (R : List Token → List Token → List Token → Type 0) (t : Token) (rest taken a b : List Token) (step : Option (Piece × Spot)) → IsStep R t step
    → ((begun : List Piece) (ahead : List Part) (kept : List Token) → is_table ahead ≡ true → Are begun (Says ahead a) rest kept → Are begun (Says ahead b) rest kept → a ≡ b)
    → R a (t ∷ rest) taken → R b (t ∷ rest) taken → a ≡ b
then_one R t rest taken a b None is next h k = absurd (is a rest taken h)
then_one R t rest taken a b (Some step) is next h k =
    next step.1.begun step.1.ahead (taken_by step.0 t taken) is.1 ((is.0 a rest taken).0 h) ((is.0 b rest taken).0 k)

one_from : (tokens : List Token) (a b : List Token) (begun : List Piece) (ahead : List Part) (taken : List Token) → is_table ahead ≡ true
    → Are begun (Says ahead a) tokens taken → Are begun (Says ahead b) tokens taken → a ≡ b
one_from [] a b begun ahead taken table h k =
    sym ((spot_end begun ahead table a taken).0 h).1 ∙ ((spot_end begun ahead table b taken).0 k).1
one_from (t ∷ rest) a b begun ahead taken table h k =
    then_one (λ all. Are begun (Says ahead all)) t rest taken a b (behind begun ahead t) (behind_is begun ahead t table) (one_from rest a b) h k

pub one_taken : (table : List Part) (tokens a b : List Token) → is_table table ≡ true → Says table a tokens [] → Says table b tokens [] → a ≡ b
one_taken table tokens a b is h k = one_from tokens a b [] table [] is h k

-- tables whose first pieces are apart somewhere have no tokens in common

abbrev pub are_parted : List Part → List Part → Bool
are_parted (Once p ∷ parts) (Once q ∷ others) = if are_apart p q then true else are_parted parts others
are_parted parts others = false

pub parted : (parts others : List Part) → are_parted parts others ≡ true → (a b tokens taken kept : List Token)
    → Says parts a tokens taken → Says others b tokens kept → ⊥
parted [] others is a b tokens taken kept h k = no_true is
parted (Optional p ∷ parts) others is a b tokens taken kept h k = no_true is
parted (Repeated p ∷ parts) others is a b tokens taken kept h k = no_true is
parted (Once p ∷ parts) [] is a b tokens taken kept h k = no_true is
parted (Once p ∷ parts) (Optional q ∷ others) is a b tokens taken kept h k = no_true is
parted (Once p ∷ parts) (Repeated q ∷ others) is a b tokens taken kept h k = no_true is
parted (Once p ∷ parts) (Once q ∷ others) is a b tokens taken kept (t, rest, e, here, h) k =
    let there = are_to q [] (Says others b) t rest kept (subst (λ ts. Are (q ∷ []) (Says others b) ts kept) e k) in
    elim (cases_Bool (are_apart p q)) [
      | inl one ↦ apart p q t one here there.0
      | inr none ↦ parted parts others (sym (ap (λ c. if c then true else are_parted parts others) none) ∙ is) a b rest (taken_by p t taken) (taken_by q t kept) h there.1
    ]

-- so have tables that may begin with the same pieces, and are parted behind these

same_behind : (ps : List Piece) (R S : List Token → List Token → Type 0) (tokens taken kept : List Token) → Are ps R tokens taken → Are ps S tokens kept
    → (rest some other : List Token) × R rest some × S rest other
same_behind [] R S tokens taken kept h k = (tokens, taken, kept, h, k)
same_behind (p ∷ ps) R S tokens taken kept (t, rest, e, here, h) k =
    let there = are_to p ps S t rest kept (subst (λ ts. Are (p ∷ ps) S ts kept) e k) in
    same_behind ps R S rest (taken_by p t taken) (taken_by p t kept) h there.1

none_begun : (p : Piece) (ps : List Piece) (R : List Token → List Token → Type 0) (parts : List Part) → is_table (Optional (p ∷ ps) ∷ parts) ≡ true
    → (a tokens taken kept : List Token) → Are (p ∷ ps) R tokens taken → Says parts a tokens kept → ⊥
none_begun p ps R parts table a tokens taken kept (t, rest, e, here, h) says =
    let told = and_parts (are_told (p ∷ ps) (firsts parts)) (is_table parts) table in
    none_first p t here parts told.1 told.0 a rest kept (subst (λ ts. Says parts a ts kept) e says)

pub parted_behind : (p : Piece) (ps : List Piece) (parts others : List Part) → is_table (Optional (p ∷ ps) ∷ parts) ≡ true
    → is_table (Optional (p ∷ ps) ∷ others) ≡ true → are_parted parts others ≡ true → (a b tokens taken kept : List Token)
    → Says (Optional (p ∷ ps) ∷ parts) a tokens taken → Says (Optional (p ∷ ps) ∷ others) b tokens kept → ⊥
parted_behind p ps parts others table table2 is a b tokens taken kept (inl h) (inl k) =
    let both = same_behind (p ∷ ps) (Says parts a) (Says others b) tokens taken kept h k in
    parted parts others is a b both.0 both.1 both.2 both.3 both.4
parted_behind p ps parts others table table2 is a b tokens taken kept (inl h) (inr k) = none_begun p ps (Says parts a) others table2 b tokens taken kept h k
parted_behind p ps parts others table table2 is a b tokens taken kept (inr h) (inl k) = none_begun p ps (Says others b) parts table a tokens kept taken k h
parted_behind p ps parts others table table2 is a b tokens taken kept (inr h) (inr k) = parted parts others is a b tokens taken kept h k
