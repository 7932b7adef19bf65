-- Changes that wait in a transaction, and their commit.
use Rattle.std.proofs.Common.{◌≡◌, ◌⊎◌, inl, inr, ℕ, ◌+◌, ◌<◌, Bool, true, false, nat_lt, List, [], ◌∷◌, ◌++◌, length, refl, ap, sym, subst, ◌∙◌, arith, Option, Some, None, Ok, Err}
use Rattle.std.proofs.lemmas.Bool.Decides.{nat_tests}
use Rattle.std.proofs.lemmas.List.{length_push}
use Rattle.std.proofs.lemmas.List.Elements.{All-head, All-push}
use Rattle.std.specs.Prelude.{if◌then◌else◌, Result}
use Rattle.fts_commits.specs.declared.change.Change.{Change}
use Rattle.fts_commits.specs.Fits.{FitsColumns, FitsNumbers, CanCommit}
use Rattle.fts_schema.specs.declared.reply.Reply.{Reply}
use Rattle.fts_schema.specs.declared.reply.Reply.TheVariants.{Begun, NoMemory, DiskFault, Buffered, TooManyChanges}
use Rattle.fts_steps.specs.FaultCounts.{CountsFaultOf}
use Rattle.fts_types.specs.declared.settings.Settings.{Settings}
use Rattle.fts_steps.specs.declared.commit.CommitError.{CommitError}
use Rattle.fts_steps.specs.declared.commit.CommitError.TheVariants as error
use Rattle.fts_steps.specs.Answers.{commit_answer_of}
use Rattle.fts_steps.specs.Step.{to_commit, Sight, Steps}
use Rattle.fts_sessions.specs.Request.{opens}
use Rattle.fts_sessions.specs.Conversation.{asks, ends, begun_by, reply_to, known_change, commit_begins, buffered_behind}
use Rattle.fts_sessions.specs.Transaction.{Transaction, changes_in, with_change, behind_change, FitsTable}
use Rattle.fts_sessions.specs.Execute.{GoesOn}
use Rattle.fts_sessions.proofs.Executing.{begun_fault}
use Rattle.fts_sessions.proofs.Going.{ends_here, one_last}

-- a change that is asked for is the statement's
asked_known : (change : Option Change) (made : Change) → known_change None change ≡ Ok made → Some made ≡ change
asked_known None made is = absurd cc
asked_known (Some change) made is = sym (ap Some (let e = is in cc))

pub made_of : (unknown : Option Reply) (change : Option Change) (made : Change) → known_change unknown change ≡ Ok made → Some made ≡ change
made_of None change made is = asked_known change made is
made_of (Some reply) change made is = absurd cc

-- changes ask for their commit
pub commit_asks : (told : Reply) (all : List Change) → (all ≡ [] → ⊥) → commit_begins told all ≡ asks (to_commit all)
commit_asks told [] some = absurd (some refl)
commit_asks told (change ∷ all) some = refl

-- and can be committed
pub can_all : (columns : ℕ) (all : List Change) → FitsTable columns (Some all) → (all ≡ [] → ⊥) → CanCommit columns all
can_all columns all (inl none) some = absurd (some none)
can_all columns all (inr can) some = can

-- one change more
module _ (columns : ℕ) (all : List Change) (change : Change) (fits : FitsTable columns (Some all)) (can : CanCommit columns (change ∷ [])) where
  put_more : length all < 1000 → FitsTable columns (Some all) → CanCommit columns (all ++ change ∷ [])
  put_more less (inl none) = subst (λ (some : List Change). CanCommit columns (some ++ change ∷ [])) (sym none) can
  put_more less (inr before) = record {
    some = before.some;
    few = before.few;
    made = record {
      some = let count = length_push all change in omega (arith, count);
      few = let count = length_push all change in omega (arith, count, less);
      fit = All-push (FitsColumns columns) all change before.made.fit (All-head (FitsColumns columns) change [] can.made.fit);
    };
    numbers = All-push FitsNumbers all change before.numbers (All-head FitsNumbers change [] can.numbers);
  }

  put_by : (few : Bool) → nat_lt (length all) 1000 ≡ few → FitsTable columns (with_change (Some all) change (if few then Buffered (length all + 1) else TooManyChanges (length all + 1)))
  put_by false is = fits
  put_by true is = inr (put_more (let less : length all < 1000 = grind (arith, nat_tests, is) in less) fits)

  pub put_fits : (reply : Reply) → (reply ≡ buffered_behind (length all)) ⊎ (reply ≡ NoMemory) → FitsTable columns (with_change (Some all) change reply)
  put_fits reply (inl told) = subst (λ (r : Reply). FitsTable columns (with_change (Some all) change r)) (sym told) (put_by (nat_lt (length all) 1000) refl)
  put_fits reply (inr told) = subst (λ (r : Reply). FitsTable columns (with_change (Some all) change r)) (sym told) fits

-- a BEGIN is told why its commit is refused
begun_refusal : (error : CommitError) → begun_by (commit_answer_of (Err error)) ≡ reply_to (commit_answer_of (Err error))
begun_refusal error.NoMemory = refl
begun_refusal (error.Refused refusal) = refl
begun_refusal (error.LogFull end_) = refl
begun_refusal (error.DiskFault faults) = refl
begun_refusal (error.Stopped faults) = refl

module _ {S : Type 0} (sight : Sight S) (settings : Settings) (transaction : Transaction) (old new : S) where
  -- a BEGIN that has nothing to commit
  pub begins_anew : changes_in transaction ≡ [] → new ≡ old → GoesOn sight settings transaction opens [] old Begun new
  begins_anew none same =
      subst (λ (s : S). GoesOn sight settings transaction opens [] old Begun s) (sym same)
      (ends_here sight settings transaction opens [] old Begun (ap (commit_begins Begun) none) (λ is. cc))

  -- one that makes a commit first, and what tells its answer
  pub begins_behind : (made : Result ℕ CommitError) (reply : Reply) → (changes_in transaction ≡ [] → ⊥) → Steps sight (to_commit (changes_in transaction)) (commit_answer_of made) old new
      → begun_by (commit_answer_of made) ≡ reply → GoesOn sight settings transaction opens [] old reply new
  begins_behind made reply some step told =
      one_last sight settings transaction opens [] (to_commit (changes_in transaction)) old new (commit_answer_of made) step (commit_asks Begun (changes_in transaction) some) reply (ap ends told)
      (subst (λ (r : Reply). CountsFaultOf (r ≡ DiskFault) (sight.faults old) (sight.faults new)) told (begun_fault (commit_answer_of made) (sight.faults old) (sight.faults new) step.keeps.faults))

  pub begin_refused : (error : CommitError) (reply : Reply) → (changes_in transaction ≡ [] → ⊥) → Steps sight (to_commit (changes_in transaction)) (commit_answer_of (Err error)) old new
      → reply_to (commit_answer_of (Err error)) ≡ reply → GoesOn sight settings transaction opens [] old reply new
  begin_refused error reply some step told = begins_behind (Err error) reply some step (begun_refusal error ∙ told)

-- a change for which memory ran out leaves what was open
pub stays : (transaction : Transaction) (asked : Result Change Reply) → behind_change transaction asked NoMemory ≡ transaction
stays transaction (Ok change) = refl
stays transaction (Err reply) = refl
