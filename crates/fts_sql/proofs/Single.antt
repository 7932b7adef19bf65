use Rattle.std.proofs.Common.{◌≡◌, ℕ, Bool, true, false, ◌+◌, List, [], ◌∷◌, ◌++◌, length, refl, sym, ap, ◌∙◌, subst, ◌⊎◌, inl, inr}
use Rattle.std.proofs.lemmas.Bool.{both_ways}
use Rattle.std.proofs.lemmas.List.{append_assoc}
use Rattle.fts_sql.specs.Token.{Token}
use Rattle.fts_sql.specs.Line.{Placed, placed, Ending, whole, unreadable, Reads, IsBlank, IsUnreadable}
use Rattle.fts_sql.specs.Statement.{Writes, tokens_in, IsStatement}
use Rattle.fts_sql.specs.Fault.{Viable, IsMisplaced, IsCutShort, IsFaultAt}
use Rattle.fts_sql.specs.Reader.{end_place, SaysIn, SaysLine}
use Rattle.fts_sql.specs.declared.statement.Statement.{Statement}
use Rattle.fts_sql.specs.declared.parse.Said.{Said}
use Rattle.fts_sql.specs.declared.parse.Said.TheVariants.{Statement as SaysStatement, Fault as SaysFault}
use Rattle.fts_sql.proofs.Places.{tokens_in-append}
use Rattle.fts_sql.proofs.Readings.{one_reading}
use Rattle.fts_sql.proofs.Written.{viable_front, writes_viable, none_written}

-- the first of two places that a list is cut at
order : (f g x y : List Placed) (p q : Placed) → f ++ p ∷ x ≡ g ++ q ∷ y
    → ((f ≡ g) × (p ≡ q)) ⊎ (((z : List Placed) × (g ≡ f ++ p ∷ z)) ⊎ ((z : List Placed) × (f ≡ g ++ q ∷ z)))
order [] [] x y p q e = inl (refl, cc)
order [] (b ∷ g) x y p q e = inr (inl (g, (let h : p ≡ b = cc in ap (λ c. c ∷ g) (sym h))))
order (a ∷ f) [] x y p q e = inr (inr (f, (let h : a ≡ q = cc in ap (λ c. c ∷ f) h)))
order (a ∷ f) (b ∷ g) x y p q e =
    let head : a ≡ b = cc in
    let tail : f ++ p ∷ x ≡ g ++ q ∷ y = cc in
    elim (order f g x y p q tail) [
      | inl same ↦ inl (ap (λ c. c ∷ f) head ∙ ap (λ r. b ∷ r) same.0, same.1)
      | inr other ↦ elim other [
        | inl less ↦ inr (inl (less.0, ap (λ r. b ∷ r) less.1 ∙ ap (λ c. c ∷ (f ++ p ∷ less.0)) (sym head)))
        | inr more ↦ inr (inr (more.0, ap (λ c. c ∷ f) head ∙ ap (λ r. b ∷ r) more.1))
      ]
    ]

-- a front that has a misplaced token is none of a statement
past_it : (tokens front behind : List Placed) (at : ℕ) (one : Token) → tokens ≡ front ++ placed at one ∷ behind
    → (Viable (tokens_in front ++ one ∷ []) → ⊥) → Viable (tokens_in tokens) → ⊥
past_it tokens front behind at one cut no_more viable =
    let e = ap tokens_in cut ∙ tokens_in-append front (placed at one ∷ behind)
    ∙ sym (append_assoc (tokens_in front) (one ∷ []) (tokens_in behind)) in
    no_more (viable_front (tokens_in front ++ one ∷ []) (tokens_in behind) (subst Viable e viable))

abbrev place_in : Placed → ℕ
place_in (placed at t) = at

same_misplaced : (tokens : List Placed) (a b : ℕ) → IsMisplaced tokens a → IsMisplaced tokens b → a ≡ b
same_misplaced tokens a b one other =
    elim (order one.front other.front one.behind other.behind (placed a one.one) (placed b other.one) (sym one.cut ∙ other.cut)) [
      | inl same ↦ ap place_in same.1
      | inr rest ↦ elim rest [
        | inl less ↦ absurd (past_it other.front one.front less.0 a one.one less.1 one.no_more other.before)
        | inr more ↦ absurd (past_it one.front other.front more.0 b other.one more.1 other.no_more one.before)
      ]
    ]

misplaced_or_front : (tokens : List Placed) (a : ℕ) → IsMisplaced tokens a → Viable (tokens_in tokens) → ⊥
misplaced_or_front tokens a is viable = past_it tokens is.front is.behind a is.one is.cut is.no_more viable

short_place : (tokens : List Placed) (ending : Ending) (a : ℕ) → IsCutShort tokens ending a → end_place ending ≡ a
short_place tokens ending a is =
    elim is.here [
      | inl unread ↦ ap end_place unread
      | inr early ↦ ap end_place early.0
    ]

-- the place of a fault among tokens is determined
same_fault_in : (tokens : List Placed) (ending : Ending) (a b : ℕ) → (IsMisplaced tokens a ⊎ IsCutShort tokens ending a)
    → (IsMisplaced tokens b ⊎ IsCutShort tokens ending b) → a ≡ b
same_fault_in tokens ending a b one other =
    elim one [
      | inl bad ↦ (elim other [
        | inl bad2 ↦ same_misplaced tokens a b bad bad2
        | inr short ↦ absurd (misplaced_or_front tokens a bad short.front)
      ])
      | inr short ↦ (elim other [
        | inl bad ↦ absurd (misplaced_or_front tokens b bad short.front)
        | inr short2 ↦ sym (short_place tokens ending a short) ∙ short_place tokens ending b short2
      ])
    ]

-- the place of a line's fault is determined
pub one_fault : (line : List ℕ) (a b : ℕ) → IsFaultAt line a → IsFaultAt line b → a ≡ b
one_fault line a b one other =
    let same = one_reading 1 line one.tokens other.tokens one.ending other.ending one.reads other.reads in
    same_fault_in other.tokens other.ending a b
    (subst (λ e. IsMisplaced other.tokens a ⊎ IsCutShort other.tokens e a) same.1
    (subst (λ ts. IsMisplaced ts a ⊎ IsCutShort ts one.ending a) same.0 one.fault)) other.fault

abbrev is_unreadable : Ending → Bool
is_unreadable (whole at) = false
is_unreadable (unreadable at) = true

-- tokens that write a statement have no fault
said_or_fault : (tokens : List Placed) (end at : ℕ) (statement : Statement) → Writes statement (tokens_in tokens)
    → (IsMisplaced tokens at ⊎ IsCutShort tokens (whole end) at) → ⊥
said_or_fault tokens end at statement writes fault =
    elim fault [
      | inl bad ↦ misplaced_or_front tokens at bad (writes_viable statement (tokens_in tokens) writes)
      | inr short ↦ elim short.here [
        | inl unread ↦ both_ways false refl (ap is_unreadable unread)
        | inr early ↦ early.1 statement writes
      ]
    ]

-- no line is a statement and has a fault
pub statement_or_fault : (line : List ℕ) (statement : Statement) (at : ℕ) → IsStatement line statement → IsFaultAt line at → ⊥
statement_or_fault line statement at is fault =
    let same = one_reading 1 line fault.tokens is.0 fault.ending (whole is.1) fault.reads is.2 in
    said_or_fault is.0 is.1 at statement is.3
    (subst (λ e. IsMisplaced is.0 at ⊎ IsCutShort is.0 e at) same.1
    (subst (λ ts. IsMisplaced ts at ⊎ IsCutShort ts fault.ending at) same.0 fault.fault))

-- no line is blank and a statement
pub blank_or_statement : (line : List ℕ) (statement : Statement) → IsBlank line → IsStatement line statement → ⊥
blank_or_statement line statement blank is =
    elim blank [
      | inl all ↦ (
          let reads : Reads 1 line [] (whole (1 + length line)) = (all, refl) in
          let same = one_reading 1 line is.0 [] (whole is.1) (whole (1 + length line)) is.2 reads in
          none_written statement (subst (λ ts. Writes statement (tokens_in ts)) same.0 is.3))
      | inr comment ↦ (
          let bad : IsUnreadable (45 ∷ 45 ∷ comment.1) 0 = inl (refl, refl) in
          let reads : Reads 1 line [] (unreadable (1 + length comment.0 + 0)) =
          (comment.0, 45 ∷ 45 ∷ comment.1, 0, comment.3, comment.2, bad, refl) in
          let same = one_reading 1 line is.0 [] (whole is.1) (unreadable (1 + length comment.0 + 0)) is.2 reads in
          none_written statement (subst (λ ts. Writes statement (tokens_in ts)) same.0 is.3))
    ]

-- what the tokens of a line say, the line says
pub says_by : (line : List ℕ) (tokens : List Placed) (ending : Ending) → Reads 1 line tokens ending → (IsBlank line → ⊥)
    → (said : Said) → SaysIn tokens ending said → SaysLine line said
says_by line tokens ending reads not_blank (SaysStatement statement) says =
    (tokens, says.0.0, subst (Reads 1 line tokens) says.0.1 reads, says.1)
says_by line tokens ending reads not_blank (SaysFault at) says = record {
  not_blank = not_blank;
  tokens = tokens;
  ending = ending;
  reads = reads;
  fault = says;
}
