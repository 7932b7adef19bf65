-- A request's steps are those of its line.
use Rattle.std.proofs.Common.{◌≡◌, ℕ, ◌+◌, List, [], ◌∷◌, length, refl, ap, subst, sym, ◌∙◌, inl, inr}
use Rattle.std.specs.Prelude.{Bool, true, false, nat_lt, if◌then◌else◌, Option, Some, None, IsTrue, codes}
use Rattle.std.specs.Str.{str_eq_ignore_ascii_case}
use Rattle.fts_steps.specs.FaultCounts.{FaultCounts, CountsFaultOf}
use Rattle.fts_steps.proofs.FaultCounts.{counts_calm, counts_told}
use Rattle.fts_types.specs.declared.settings.Settings.{Settings}
use Rattle.fts_commits.specs.declared.change.Change.{Change}
use Rattle.fts_io.specs.Text.{whole}
use Rattle.fts_schema.specs.declared.reply.Reply.{Reply}
use Rattle.fts_schema.specs.declared.reply.Reply.TheVariants.{Nothing, Syntax, NoMemory, DiskFault, Begun, NothingToCommit, Buffered, TooManyChanges, WrongColumns}
use Rattle.fts_sql.specs.Line.{IsBlank}
use Rattle.fts_sql.specs.Statement.{IsStatement}
use Rattle.fts_sql.specs.Fault.{IsFaultAt}
use Rattle.fts_sql.specs.declared.statement.ParseError.{ParseError}
use Rattle.fts_sql.specs.declared.statement.ParseError.TheVariants as parse
use Rattle.fts_sql.specs.declared.statement.Statement.TheVariants.{Match}
use Rattle.fts_listing.specs.declared.kind.ListingKind.{ListingKind}
use Rattle.fts_steps.specs.Step.{Ask, to_optimize, Answer, committed, refused, full, flushed, all_flushed, passed, viewed, found, listed, measured, disk_fault, stopped, no_memory, is_disk_fault, Sight}
use Rattle.fts_sessions.specs.Query.{Search, looks_for, too_long, syntax_at, too_deep_at}
use Rattle.fts_sessions.specs.Transaction.{Transaction, changes_in}
use Rattle.fts_sessions.specs.Request.{Request, IsRequest, opens, closes, rolls_back, changes, searches, syncs, optimizes, lists, blank, unknown, unread}
use Rattle.fts_sessions.specs.Table.{are_names, first_unknown, table_named, columns_named, change_of}
use Rattle.fts_sessions.specs.View.{view_of_schema}
use Rattle.fts_sessions.specs.Conversation.{Next, asks, ends, search_begins, unknown_column, unknown_name, known_change, buffered_behind, change_begins, commit_begins, list_begins, if_all_named, unless_unknown, begins, begun_by, next, behind, reply_to}
use Rattle.fts_sessions.specs.Execute.{Says, Executes, GoesOn, Makes, Does, Searches}

-- a request that ends without a step tells no fault
searched_calm : (search : Search) → search_begins search ≡ ends DiskFault → ⊥
searched_calm (looks_for terms) is = cc
searched_calm (too_long n) is = cc
searched_calm (syntax_at place) is = cc
searched_calm (too_deep_at place) is = cc

named_all_calm : (named : Bool) (follows : Next) → (follows ≡ ends DiskFault → ⊥) → if_all_named named follows ≡ ends DiskFault → ⊥
named_all_calm false follows more is = cc
named_all_calm true follows more is = more is

one_ending : (a b : Reply) → ends a ≡ ends b → a ≡ b
one_ending a b same = cc

buffered_calm : (few : Bool) (count : ℕ) → (if few then Buffered count else TooManyChanges count) ≡ DiskFault → ⊥
buffered_calm true count is = cc
buffered_calm false count is = cc

commit_calm : (told : Reply) (all : List Change) → (told ≡ DiskFault → ⊥) → commit_begins told all ≡ ends DiskFault → ⊥
commit_calm told [] calm is = calm (one_ending told DiskFault is)
commit_calm told (change ∷ all) calm is = cc

unknown_calm : (columns : List (List ℕ)) (name : Option (List ℕ)) (reply : Reply) → unknown_column name ≡ Some reply → reply ≡ DiskFault → ⊥
unknown_calm columns None reply is fault = cc
unknown_calm columns (Some name) reply is fault = cc

name_calm : (here : Bool) (columns : List (List ℕ)) (table : List ℕ) (names : List (List ℕ)) (reply : Reply) → str_eq_ignore_ascii_case table (codes "docs") ≡ here
    → unknown_name columns table names ≡ Some reply → reply ≡ DiskFault → ⊥
name_calm true columns table names reply at_docs is = unknown_calm columns (first_unknown columns names) reply (rw at_docs at is)
name_calm false columns table names reply at_docs is = λ fault. (let no = (rw at_docs at is) in cc)

change_calm : (transaction : Transaction) (unknown : Option Reply) (change : Option Change) → ((reply : Reply) → unknown ≡ Some reply → reply ≡ DiskFault → ⊥)
    → change_begins transaction (known_change unknown change) ≡ ends DiskFault → ⊥
change_calm transaction (Some reply) change calm is = calm reply refl (one_ending reply DiskFault is)
change_calm transaction None None calm is = (let no = one_ending WrongColumns DiskFault is in cc)
change_calm None None (Some change) calm is = cc
change_calm (Some all) None (Some change) calm is = buffered_calm (nat_lt (length all) 1000) (length all + 1) (one_ending (buffered_behind (length all)) DiskFault is)

column_calm : (name : Option (List ℕ)) (follows : Next) → (follows ≡ ends DiskFault → ⊥) → unless_unknown (unknown_column name) follows ≡ ends DiskFault → ⊥
column_calm None follows more is = more is
column_calm (Some name) follows more is = cc

named_calm : (here : Bool) (columns : List (List ℕ)) (table : List ℕ) (names : List (List ℕ)) (follows : Next) → (follows ≡ ends DiskFault → ⊥)
    → str_eq_ignore_ascii_case table (codes "docs") ≡ here → unless_unknown (unknown_name columns table names) follows ≡ ends DiskFault → ⊥
named_calm true columns table names follows more at_docs is = column_calm (first_unknown columns names) follows more (rw at_docs at is)
named_calm false columns table names follows more at_docs is = (let no = (rw at_docs at is) in cc)

list_calm : (schema view : List ℕ) (which : Option ListingKind) → list_begins schema view which ≡ ends DiskFault → ⊥
list_calm schema view None is = cc
list_calm schema view (Some which) is = cc

pub calm : (settings : Settings) (transaction : Transaction) (request : Request) → begins settings transaction request ≡ ends DiskFault → ⊥
calm settings transaction opens is = commit_calm Begun (changes_in transaction) (λ same. cc) is
calm settings transaction closes is = commit_calm NothingToCommit (changes_in transaction) (λ same. cc) is
calm settings transaction rolls_back is = cc
calm settings transaction (changes statement) is =
    change_calm transaction (unknown_name settings.columns (table_named statement) (columns_named statement)) (change_of settings.columns statement)
    (λ reply. name_calm _ settings.columns (table_named statement) (columns_named statement) reply refl) is
calm settings transaction (searches table names search) is =
    let named = are_names settings.columns names in
    named_calm _ settings.columns table names (if_all_named named (search_begins search)) (named_all_calm named (search_begins search) (searched_calm search)) refl is
calm settings transaction syncs is = cc
calm settings transaction (optimizes table) is = named_calm _ settings.columns table [] (asks to_optimize) (λ same. cc) refl is
calm settings transaction (lists schema view) is = list_calm schema view (view_of_schema schema view) is
calm settings transaction blank is = cc
calm settings transaction (unknown place) is = cc
calm settings transaction unread is = cc

-- a reply tells a fault where the answer is one
fault_answered : (answer : Answer) → reply_to answer ≡ DiskFault → is_disk_fault answer ≡ true
fault_answered (committed number) is = absurd cc
fault_answered (refused why) is = absurd cc
fault_answered (full end_) is = absurd cc
fault_answered (flushed through commits) is = absurd cc
fault_answered (all_flushed commits) is = absurd cc
fault_answered (passed step) is = absurd cc
fault_answered (viewed view) is = absurd cc
fault_answered (found number docs) is = absurd cc
fault_answered (listed number listing) is = absurd cc
fault_answered (measured size) is = absurd cc
fault_answered (disk_fault faults) is = refl
fault_answered (stopped faults) is = absurd cc
fault_answered no_memory is = absurd cc

fault_told : (answer : Answer) → is_disk_fault answer ≡ true → reply_to answer ≡ DiskFault
fault_told (committed number) is = absurd cc
fault_told (refused why) is = absurd cc
fault_told (full end_) is = absurd cc
fault_told (flushed through commits) is = absurd cc
fault_told (all_flushed commits) is = absurd cc
fault_told (passed step) is = absurd cc
fault_told (viewed view) is = absurd cc
fault_told (found number docs) is = absurd cc
fault_told (listed number listing) is = absurd cc
fault_told (measured size) is = absurd cc
fault_told (disk_fault faults) is = refl
fault_told (stopped faults) is = absurd cc
fault_told no_memory is = absurd cc

-- and so it is of what tells a BEGIN
begun_answered : (answer : Answer) → begun_by answer ≡ DiskFault → is_disk_fault answer ≡ true
begun_answered (committed number) is = absurd cc
begun_answered (refused why) is = fault_answered (refused why) is
begun_answered (full end_) is = fault_answered (full end_) is
begun_answered (flushed through commits) is = fault_answered (flushed through commits) is
begun_answered (all_flushed commits) is = fault_answered (all_flushed commits) is
begun_answered (passed step) is = fault_answered (passed step) is
begun_answered (viewed view) is = fault_answered (viewed view) is
begun_answered (found number docs) is = fault_answered (found number docs) is
begun_answered (listed number listing) is = fault_answered (listed number listing) is
begun_answered (measured size) is = fault_answered (measured size) is
begun_answered (disk_fault faults) is = refl
begun_answered (stopped faults) is = fault_answered (stopped faults) is
begun_answered no_memory is = fault_answered no_memory is

begun_told : (answer : Answer) → is_disk_fault answer ≡ true → begun_by answer ≡ DiskFault
begun_told (committed number) is = absurd cc
begun_told (refused why) is = absurd cc
begun_told (full end_) is = absurd cc
begun_told (flushed through commits) is = absurd cc
begun_told (all_flushed commits) is = absurd cc
begun_told (passed step) is = absurd cc
begun_told (viewed view) is = absurd cc
begun_told (found number docs) is = absurd cc
begun_told (listed number listing) is = absurd cc
begun_told (measured size) is = absurd cc
begun_told (disk_fault faults) is = refl
begun_told (stopped faults) is = absurd cc
begun_told no_memory is = absurd cc

pub told_fault : (answer : Answer) (reply : Reply) (before after : FaultCounts) → reply_to answer ≡ reply → CountsFaultOf (IsTrue (is_disk_fault answer)) before after
    → CountsFaultOf (reply ≡ DiskFault) before after
told_fault answer reply before after told =
    counts_told _ _ before after (λ is. fault_answered answer (told ∙ is)) (λ fault. sym told ∙ fault_told answer fault)

pub begun_fault : (answer : Answer) (before after : FaultCounts) → CountsFaultOf (IsTrue (is_disk_fault answer)) before after
    → CountsFaultOf (begun_by answer ≡ DiskFault) before after
begun_fault answer before after = counts_told _ _ before after (begun_answered answer) (begun_told answer)

module _ {S : Type 0} (sight : Sight S) (line : List ℕ) (transaction : Transaction) where
  -- no step was made
  no_step : (old new : S) (reply : Reply) (left : Transaction) → Says (sight.settings old) (whole line) transaction [] reply left → (reply ≡ DiskFault → ⊥) → new ≡ old
      → Executes sight (whole line) transaction old reply left new
  no_step old new reply left says calm same = subst (λ (s : S). Executes sight (whole line) transaction old reply left s) (sym same) (record {
    calls = [];
    says = says;
    made = refl;
    faults = counts_calm _ _ _ calm refl;
  })

  -- memory ran out before the first step
  pub gives_up : (old new : S) (reply : Reply) (left : Transaction) → reply ≡ NoMemory → left ≡ transaction → new ≡ old → Executes sight (whole line) transaction old reply left new
  gives_up old new reply left told stays same = no_step old new reply left (inr (refl, told, stays)) (λ is. let no = sym told ∙ is in cc) same

  -- a line that makes no step has its reply
  pub blank_line : (here : S) → IsBlank line → Executes sight (whole line) transaction here Nothing transaction here
  blank_line here is = no_step here here Nothing transaction (inl (blank, is, refl, refl)) (λ is. cc) refl

  unknown_line : (here : S) (at : ℕ) → IsFaultAt line at → Executes sight (whole line) transaction here (Syntax at) transaction here
  unknown_line here at is = no_step here here (Syntax at) transaction (inl (unknown at, is, refl, refl)) (λ is. cc) refl

  -- and so of each that was not parsed
  pub unparsed_line : (here : S) (why : ParseError) (reply : Reply) → ((at : ℕ) → why ≡ parse.Syntax at → IsFaultAt line at) → ((at : ℕ) → why ≡ parse.Syntax at → reply ≡ Syntax at)
      → (why ≡ parse.NoMemory → reply ≡ NoMemory) → Executes sight (whole line) transaction here reply transaction here
  unparsed_line here (parse.Syntax place) reply fault told starved =
      subst (λ (r : Reply). Executes sight (whole line) transaction here r transaction here) (sym (told place refl)) (unknown_line here place (fault place refl))
  unparsed_line here parse.NoMemory reply fault told starved = gives_up here here reply transaction (starved refl) refl refl

  module _ (request : Request) (is : IsRequest (whole line) request) where
    -- a request that ends at once
    pub ended_at_once : (here : S) (reply : Reply) (left : Transaction) → begins (sight.settings here) transaction request ≡ ends reply
        → left ≡ behind (sight.settings here) transaction request reply → Executes sight (whole line) transaction here reply left here
    ended_at_once here reply left ended leaves =
        no_step here here reply left (inl (request, is, ended, leaves)) (λ fault. calm (sight.settings here) transaction request (ended ∙ ap ends fault)) refl

    -- a request that went on from its beginning is its line
    pub gone_on : (old new : S) (reply : Reply) (left : Transaction) → GoesOn sight (sight.settings old) transaction request [] old reply new
        → left ≡ behind (sight.settings old) transaction request reply → Executes sight (whole line) transaction old reply left new
    gone_on old new reply left went leaves = record {
      calls = went.calls;
      says = inl (request, is, went.says, leaves);
      made = went.made;
      faults = went.faults;
    }

  -- a request that tells the answer to its first step, and leaves what was open where memory runs out
  module _ (request : Request) (is : IsRequest (whole line) request)
      (tells : (settings : Settings) (answer : Answer) → next settings transaction request (answer ∷ []) ≡ ends (reply_to answer)) where
    one_step : (old new : S) (reply : Reply) (left : Transaction) (ask : Ask) → begins (sight.settings old) transaction request ≡ asks ask → Makes sight ask old reply new
        → left ≡ behind (sight.settings old) transaction request reply → Executes sight (whole line) transaction old reply left new
    one_step old new reply left ask e made leaves = record {
      calls = record { more = made.made.more; ask = ask; answer = made.answer } ∷ [];
      says = inl (request, is, (e, tells (sight.settings old) made.answer ∙ ap ends made.told), leaves);
      made = (new, (made.made, refl), refl);
      faults = told_fault made.answer reply (sight.faults old) (sight.faults new) made.told made.made.keeps.faults;
    }

    module _ (stays : (settings : Settings) → behind settings transaction request NoMemory ≡ transaction) where
      starved : (old new : S) (reply : Reply) (left : Transaction) → reply ≡ NoMemory → new ≡ old → left ≡ behind (sight.settings old) transaction request reply
          → Executes sight (whole line) transaction old reply left new
      starved old new reply left told same leaves =
          gives_up old new reply left told (leaves ∙ ap (behind (sight.settings old) transaction request) told ∙ stays (sight.settings old)) same

      next_done : (old new : S) (reply : Reply) (left : Transaction) (next : Next) → begins (sight.settings old) transaction request ≡ next → Does sight next old reply new
          → left ≡ behind (sight.settings old) transaction request reply → Executes sight (whole line) transaction old reply left new
      next_done old new reply left (asks ask) e (inl made) leaves = one_step old new reply left ask e made leaves
      next_done old new reply left (asks ask) e (inr gave) leaves = starved old new reply left gave.0 gave.1 leaves
      next_done old new reply left (ends told) e (inl out, same) leaves =
          no_step old new reply left (inl (request, is, e ∙ ap ends (sym out), leaves))
          (λ fault. calm (sight.settings old) transaction request (e ∙ ap ends (sym out ∙ fault))) same
      next_done old new reply left (ends told) e (inr gave, same) leaves = starved old new reply left gave same leaves

      -- what a request does is what its line does
      pub done : (old new : S) (reply : Reply) (left : Transaction) → Does sight (begins (sight.settings old) transaction request) old reply new
          → left ≡ behind (sight.settings old) transaction request reply → Executes sight (whole line) transaction old reply left new
      done old new reply left does leaves = next_done old new reply left (begins (sight.settings old) transaction request) refl does leaves

  -- and so of a search, which leaves the transaction as it was
  pub searched : (table : List ℕ) (names : List (List ℕ)) (query : List ℕ) → IsStatement line (Match table names query) → (old new : S) (reply : Reply)
      → Searches sight table names query old reply new → Executes sight (whole line) transaction old reply transaction new
  searched table names query is old new reply (inl (search, of_text, does)) =
      done (searches table names search) (query, is, of_text) (λ settings answer. refl) (λ settings. refl) old new reply transaction does refl
  searched table names query is old new reply (inr gave) = gives_up old new reply transaction gave.0 refl gave.1
