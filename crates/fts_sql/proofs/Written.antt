-- The forms of statement: tokens are of one form, and take one list.
use Rattle.std.proofs.Common.{◌≡◌, ◌⊎◌, inl, inr, ℕ, zero, suc, ◌+◌, ◌<◌, ◌≤◌, ◌==◌, Bool, true, false, ◌||◌, not, List, [], ◌∷◌, ◌++◌, length, take, drop, get_or, refl, sym, ap, ◌∙◌, subst, arith}
use Rattle.std.specs.List.{list_all}
use Rattle.std.proofs.lemmas.Bool.{both_ways, cases_Bool, eqb-true, eqb-false, not-true}
use Rattle.std.proofs.lemmas.List.Folds.{list_all_at}
use Rattle.std.proofs.lemmas.List.{append_assoc, append-nil, take-append-drop}
use Rattle.fts_sql.specs.Token.{Token}
use Rattle.fts_sql.specs.declared.statement.Statement.{Statement}
use Rattle.fts_sql.specs.declared.form.Form.{Form}
use Rattle.fts_sql.specs.declared.form.Form.TheVariants as form
use Rattle.fts_sql.specs.declared.form.TheConstants.{FORMS}
use Rattle.fts_sql.specs.declared.piece.Piece.TheVariants.{Mark, Session}
use Rattle.fts_sql.specs.Table.{Says, Part, Optional}
use Rattle.fts_sql.specs.Statement.{statement_of, Writes}
use Rattle.fts_sql.specs.Grammar.{table_of}
use Rattle.fts_sql.specs.Fault.{Viable}
use Rattle.fts_sql.specs.Reader.{is_table, can_end, Begins, IsReached, IsFurthest}
use Rattle.fts_sql.proofs.Tables.{one_taken, spot_completes, spot_end, are_parted, parted_behind}

-- each form is one of the list

abbrev place_of : Form → ℕ
place_of form.Insert = 0
place_of form.Update = 1
place_of form.Delete = 2
place_of form.Match = 3
place_of form.Sync = 4
place_of form.Optimize = 5
place_of form.List = 6
place_of form.Begin = 7
place_of form.Start = 8
place_of form.Commit = 9
place_of form.Rollback = 10

pub is_listed : (one : Form) (d : Form) → (place_of one < length FORMS) × (get_or FORMS (place_of one) d ≡ one)
is_listed form.Insert d = (omega arith, refl)
is_listed form.Update d = (omega arith, refl)
is_listed form.Delete d = (omega arith, refl)
is_listed form.Match d = (omega arith, refl)
is_listed form.Sync d = (omega arith, refl)
is_listed form.Optimize d = (omega arith, refl)
is_listed form.List d = (omega arith, refl)
is_listed form.Begin d = (omega arith, refl)
is_listed form.Start d = (omega arith, refl)
is_listed form.Commit d = (omega arith, refl)
is_listed form.Rollback d = (omega arith, refl)

-- what holds of each of the list holds of each form
pub each_form : (test : Form → Bool) → list_all test FORMS ≡ true → (one : Form) → test one ≡ true
each_form test all one =
    let listed = is_listed one one in
    elim (cases_Bool (test (get_or FORMS (place_of one) one))) [
      | inl is ↦ subst (λ f. test f ≡ true) listed.1 is
      | inr isnt ↦ absurd (both_ways (list_all test FORMS) (list_all_at test FORMS (place_of one) one listed.0 isnt) all)
    ]

-- each table can be read from the left
pub tables_are : (one : Form) → is_table (table_of one) ≡ true
tables_are = each_form (λ one. is_table (table_of one)) refl

-- each begins with a session's number, or without
abbrev behind_session : Form → List Part
behind_session one = drop 1 (table_of one)

abbrev may_be_numbered : List Part → List Part
may_be_numbered parts = Optional (Session ∷ Mark 58 ∷ []) ∷ parts

numbered_or_not : (one : Form) → table_of one ≡ may_be_numbered (behind_session one)
numbered_or_not form.Insert = refl
numbered_or_not form.Update = refl
numbered_or_not form.Delete = refl
numbered_or_not form.Match = refl
numbered_or_not form.Sync = refl
numbered_or_not form.Optimize = refl
numbered_or_not form.List = refl
numbered_or_not form.Begin = refl
numbered_or_not form.Start = refl
numbered_or_not form.Commit = refl
numbered_or_not form.Rollback = refl

-- two of them part behind it
abbrev are_one_or_parted : Form → Form → Bool
are_one_or_parted one other = (place_of one == place_of other) || are_parted (behind_session one) (behind_session other)

one_or_parted : (one other : Form) → (one ≡ other) ⊎ (are_parted (behind_session one) (behind_session other) ≡ true)
one_or_parted one other =
    let either = each_form (are_one_or_parted one) (each_form (λ f. list_all (are_one_or_parted f) FORMS) refl one) other in
    elim (cases_Bool (place_of one == place_of other)) [
      | inl same ↦ inl (sym (is_listed one one).1 ∙ ap (λ n. get_or FORMS n one) (eqb-true (place_of one) (place_of other) same) ∙ (is_listed other one).1)
      | inr apart ↦ inr (sym (ap (λ b. b || are_parted (behind_session one) (behind_session other)) apart) ∙ either)
    ]

one_form : (tokens : List Token) (one other : Form) (a b : List Token) → Says (table_of one) a tokens [] → Says (table_of other) b tokens [] → one ≡ other
one_form tokens one other a b h k =
    elim (one_or_parted one other) [
      | inl same ↦ same
      | inr apart ↦ (
          let e = numbered_or_not one in
          let f = numbered_or_not other in
          absurd (parted_behind Session (Mark 58 ∷ []) (behind_session one) (behind_session other)
          (ap is_table (sym e) ∙ tables_are one) (ap is_table (sym f) ∙ tables_are other) apart a b tokens [] []
          (subst (λ parts. Says parts a tokens []) e h) (subst (λ parts. Says parts b tokens []) f k)))
    ]

-- tokens write one statement
pub one_writing : (tokens : List Token) (one other : Statement) → Writes one tokens → Writes other tokens → one ≡ other
one_writing tokens one other (f, a, h, e) (g, b, k, e2) =
    let same = one_form tokens f g a b h k in
    let k2 : Says (table_of f) b tokens [] = subst (λ x. Says (table_of x) b tokens []) (sym same) k in
    let taken = one_taken (table_of f) tokens a b (tables_are f) h k2 in
    e ∙ ap (statement_of f) taken ∙ ap (λ x. statement_of x b) same ∙ sym e2

-- some statement begins with what begins some form's tokens

pub viable_of : (one : Form) (tokens : List Token) → Begins (table_of one) tokens → Viable tokens
viable_of one tokens (all, more, says) = (statement_of one all, more, (one, all, says, refl))

pub form_of : (tokens : List Token) → Viable tokens → (one : Form) × Begins (table_of one) tokens
form_of tokens (statement, more, (one, all, says, is)) = (one, (all, more, says))

pub front_begins : (table : List Part) (tokens behind : List Token) → Begins table (tokens ++ behind) → Begins table tokens
front_begins table tokens behind (all, more, says) = (all, behind ++ more, subst (λ ts. Says table all ts []) (append_assoc tokens behind more) says)

pub viable_front : (tokens behind : List Token) → Viable (tokens ++ behind) → Viable tokens
viable_front tokens behind viable =
    let of = form_of (tokens ++ behind) viable in viable_of of.0 tokens (front_begins (table_of of.0) tokens behind of.1)

pub writes_viable : (statement : Statement) (tokens : List Token) → Writes statement tokens → Viable tokens
writes_viable statement tokens writes = (statement, [], subst (Writes statement) (sym (append-nil tokens)) writes)

-- some statement begins with nothing
pub viable_nothing : Viable []
viable_nothing =
    let r = spot_completes [] (table_of form.Insert) [] in
    viable_of form.Insert [] (r.1, r.0, r.2)

-- no tokens write no statement
pub none_written : (statement : Statement) → Writes statement [] → ⊥
none_written statement (one, all, says, same) =
    let ends = ((spot_end [] (table_of one) (tables_are one) all []).0 says).0 in
    both_ways (can_end (table_of one)) (not-true (can_end (table_of one)) (each_form (λ f. not (can_end (table_of f))) refl one)) ends

take_take : (k m : ℕ) (tokens : List Token) → k ≤ m → take k (take m tokens) ≡ take k tokens
take_take zero m tokens less = refl
take_take (suc k) zero tokens less = absurd (omega (arith, less))
take_take (suc k) (suc m) [] less = refl
take_take (suc k) (suc m) (t ∷ tokens) less = ap (λ ts. t ∷ ts) (take_take k m tokens (omega (arith, less)))

shorter_begins : (table : List Part) (tokens : List Token) (k m : ℕ) → k ≤ m → Begins table (take m tokens) → Begins table (take k tokens)
shorter_begins table tokens k m less begins =
    subst (Begins table) (take_take k m tokens less)
    (front_begins table (take k (take m tokens)) (drop k (take m tokens)) (subst (Begins table) (sym (take-append-drop k (take m tokens))) begins))

-- so far none of the forms goes on behind so many tokens, or is all of them
pub record IsPast (tokens : List Token) (count : ℕ) (one : Form) : Type 0 where
  pub stops : count < length tokens → Begins (table_of one) (take (count + 1) tokens) → ⊥
  pub none : (all : List Token) → Says (table_of one) all tokens [] → ⊥

-- which a later place keeps
pub past_later : (tokens : List Token) (count later : ℕ) (one : Form) → count ≤ later → IsPast tokens count one → IsPast tokens later one
past_later tokens count later one less past = record {
  stops = λ within begins. past.stops (omega (arith, less, within)) (shorter_begins (table_of one) tokens (count + 1) (later + 1) (omega (arith, less)) begins);
  none = past.none;
}

pub past_reached : (tokens taken : List Token) (count : ℕ) (one : Form) → IsReached (table_of one) tokens count taken false → IsPast tokens count one
past_reached tokens taken count one reached = record {
  stops = reached.stops;
  none = λ all says. both_ways false refl ((reached.says all).0 says).0;
}

pub past_more : (tokens : List Token) (count later i : ℕ) (d : Form) → count ≤ later → ((k : ℕ) → k < i → IsPast tokens count (get_or FORMS k d))
    → IsPast tokens later (get_or FORMS i d) → (k : ℕ) → k < i + 1 → IsPast tokens later (get_or FORMS k d)
past_more tokens count later i d less before here k within =
    elim (cases_Bool (k == i)) [
      | inl same ↦ subst (λ n. IsPast tokens later (get_or FORMS n d)) (sym (eqb-true k i same)) here
      | inr other ↦ past_later tokens count later (get_or FORMS k d) less (before k (omega (arith, within, eqb-false k i other)))
    ]

-- where all forms are past, no statement goes on
pub furthest : (tokens : List Token) (count : ℕ) (d : Form) → count ≤ length tokens → Viable (take count tokens)
    → ((k : ℕ) → k < length FORMS → IsPast tokens count (get_or FORMS k d)) → IsFurthest tokens count
furthest tokens count d within front past = record {
  within = within;
  front = front;
  stops = λ less viable. (let of = form_of (take (count + 1) tokens) viable in (here of.0).stops less of.1);
  none = λ statement writes. (here writes.0).none writes.1 writes.2;
}
  where
    here : (one : Form) → IsPast tokens count one
    here one = let listed = is_listed one d in subst (IsPast tokens count) listed.1 (past (place_of one) listed.0)
