-- That the index of whatever an opening may find is right.
use Rattle.std.proofs.Common.{◌≡◌, ℕ, List, [], ◌∷◌, ◌++◌, get_or, refl, ap, subst, sym, ◌∙◌, inl, inr, ⊎_elim}
use Rattle.std.proofs.lemmas.List.{append-nil}
use Rattle.fts_types.specs.declared.settings.Settings.{Settings}
use Rattle.fts_commits.specs.Commit.{Commit, no_rows}
use Rattle.std.proofs.lemmas.Bool.{false≢true, ltb-true}
use Rattle.std.specs.Prelude.{Bool, true, false, cond, ◌<◌, Option, Some, None, IsTrue, length}
use Rattle.fts_types.specs.declared.limits.Limits.{Limits}
use Rattle.fts_types.specs.Rules.{rules_of}
use Rattle.fts_entries.specs.Entry.{IndexEntry, IndexState, sealed, begun, worked, finished}
use Rattle.fts_entries.specs.Batch.{next_entry}
use Rattle.fts_entries.specs.Coming.{CanCome}
use Rattle.fts_entries.specs.Pass.{IsStep, next_steps, pass_step, has_work, words_left, words_named}
use Rattle.fts_entries.proofs.Coming.{come_last}
use Rattle.fts_entries.proofs.Next.{is_next}
use Rattle.fts_steps.specs.State.{turns_of, index_state}
use Rattle.fts_steps.specs.Running.{next_batch, next_optimized}
use Rattle.fts_steps.specs.Step.{Answer, to_sync, writes, would_write, unless_stopped, unless_full, plain_answer, all_flushed}
use Rattle.fts_steps.proofs.Growing.{batch_right, step_right}
use Rattle.fts_steps.proofs.Growing.{turns_count}
use Rattle.fts_core.proofs.Between.{IsOne}
use Rattle.fts_steps.specs.State.{State, with_commits, with_entries, HasEntries, IsRight}
use Rattle.fts_steps.specs.Running.{Running}
use Rattle.fts_steps.proofs.Growing.{AreKnown, right_stays}
use Rattle.fts_steps.specs.Right.{IsWithOrWithout, HasRightIndex}

-- a state is its parts
pub same_state : (a b : State) → a.settings ≡ b.settings → a.commits ≡ b.commits → a.entries ≡ b.entries → a ≡ b
same_state a b settings commits entries =
    ap (λ (s : Settings). record { settings = s; commits = a.commits; entries = a.entries }) settings
    ∙ ap (λ (c : List Commit). record { settings = b.settings; commits = c; entries = a.entries }) commits
    ∙ ap (λ (e : List IndexEntry). record { settings = b.settings; commits = b.commits; entries = e }) entries

-- with nothing in doubt the list is itself
pub is_without : {A : Type 0} (all doubt found : List A) → doubt ≡ [] → IsWithOrWithout all doubt found → found ≡ all
is_without all doubt found sure (inl same) = same
is_without {A} all doubt found sure (inr same) = same ∙ ap (λ (d : List A). all ++ d) sure ∙ append-nil all

-- nothing is in doubt
pub sure_right : (running : Running) → running.doubt ≡ [] → running.loose ≡ [] → IsRight running.state → HasRightIndex running
sure_right running sure sure' right = record {
  right = right;
  found = λ state may has. subst IsRight
      (sym (same_state state running.state may.settings (is_without running.state.commits running.doubt state.commits sure may.commits)
      (is_without running.state.entries running.loose state.entries sure' may.entries))) right;
}

-- all commits are known
abbrev pub AllKnown : Type 0
AllKnown = (commits : List Commit) → AreKnown commits

-- a commit is in doubt
pub doubt_right : AllKnown → (running : Running) (commit : Commit) → running.doubt ≡ commit ∷ [] → running.loose ≡ [] → HasEntries running.state → IsRight running.state → HasRightIndex running
doubt_right known running commit doubt sure entries right = record {
  right = right;
  found = λ state may has.
      let same = is_without running.state.entries running.loose state.entries sure may.entries in
      ⊎_elim
      (λ without. subst IsRight (sym (same_state state running.state may.settings without same)) right)
      (λ with_it. subst IsRight
      (sym (same_state state (with_commits running.state (commit ∷ [])) may.settings (with_it ∙ ap (λ (d : List Commit). running.state.commits ++ d) doubt) same))
      (right_stays running.state commit (known running.state.commits) (known (running.state.commits ++ commit ∷ [])) entries right))
      may.commits;
}

-- an entry is in doubt
pub loose_right : (running : Running) (more : List IndexEntry) → running.doubt ≡ [] → running.loose ≡ more → IsRight running.state
    → (HasEntries (with_entries running.state more) → IsRight (with_entries running.state more)) → HasRightIndex running
loose_right running more sure loose right right_more = record {
  right = right;
  found = λ state may has.
      let same = is_without running.state.commits running.doubt state.commits sure may.commits in
      ⊎_elim
      (λ without. subst IsRight (sym (same_state state running.state may.settings same without)) right)
      (λ with_it.
      let is : state ≡ with_entries running.state more =
      same_state state (with_entries running.state more) may.settings same (with_it ∙ ap (λ (l : List IndexEntry). running.state.entries ++ l) loose) in
      subst IsRight (sym is) (right_more (subst HasEntries is has)))
      may.entries;
}

-- ---- the entry that a step of the index would have added

from_batch : (stop : Option ℕ) (some : Bool) (limits : Limits) (at : ℕ) (answer : Answer) (count : ℕ) → IsTrue (writes (unless_stopped stop (cond some (unless_full limits at answer) (all_flushed count)))) → some ≡ true
from_batch None true limits at answer count wrote = refl
from_batch None false limits at answer count wrote = absurd (false≢true wrote)
from_batch (Some faults) some limits at answer count wrote = absurd (false≢true wrote)

next_right : AllKnown → (state : State) (s : IndexState) → s ≡ index_state state → s.flushed < length (turns_of state) → HasEntries state → IsRight state
    → IsRight (with_entries state (next_entry (rules_of state.settings) state.settings.batch_docs (turns_of state) s ∷ []))
next_right known state s is some has right =
    subst (λ (s : IndexState). s.flushed < length (turns_of state) → IsRight (with_entries state (next_entry (rules_of state.settings) state.settings.batch_docs (turns_of state) s ∷ []))) (sym is)
    (λ some. batch_right state state.settings.batch_docs _ _ _ has (known state.commits).ascend
    (is_next (rules_of state.settings) state.settings.batch_docs (turns_of state) (index_state state) some) right) some

-- a batch that would be written flushes some
pub some_batch : (limits : Limits) (running : Running) → IsTrue (would_write (plain_answer limits running to_sync)) → running.index.flushed < length (turns_of running.state)
some_batch limits running wrote =
    let some : running.index.flushed < length running.state.commits = ltb-true running.index.flushed (length running.state.commits) (from_batch running.stopped _ limits _ _ _ wrote) in
    subst (λ (n : ℕ). running.index.flushed < n) (sym (turns_count no_rows running.state.commits)) some

pub batch_more : AllKnown → (limits : Limits) (running : Running) → running.index ≡ index_state running.state → IsTrue (would_write (plain_answer limits running to_sync)) → HasEntries running.state
    → IsRight running.state → IsRight (with_entries running.state (next_batch running ∷ []))
batch_more known limits running is wrote has right = next_right known running.state running.index is (some_batch limits running wrote) has right

-- the next step of OPTIMIZE is one entry or none, and no batch
abbrev pub IsNoBatch : IndexEntry → Type 0
IsNoBatch (sealed through synced batch) = ⊥
IsNoBatch entry = Unit {0}

pub record IsStepOrNone (more : List IndexEntry) : Type 0 where
  pub one : IsOne more
  pub step : (entry : IndexEntry) → more ≡ entry ∷ [] → IsNoBatch entry

one_of : (entry : IndexEntry) → IsNoBatch entry → IsStepOrNone (entry ∷ [])
one_of entry is = record { one = inr (entry, refl); step = λ other same. subst IsNoBatch (ap (λ (es : List IndexEntry). get_or es 0 entry) same) is }

pass_is : (s : IndexState) (words : List (List ℕ)) → IsNoBatch (pass_step s words)
pass_is s [] = tt
pass_is s (word ∷ words) = tt

steps_are : (s : IndexState) (words : List (List ℕ)) (open_ work : Bool) → IsStepOrNone (cond open_ (pass_step s words ∷ []) (cond work (begun ∷ []) []))
steps_are s words true work = one_of (pass_step s words) (pass_is s words)
steps_are s words false true = one_of begun tt
steps_are s words false false = record { one = inl refl; step = λ entry same. absurd (let e = same in cc) }

pub next_is_step : (entries : List IndexEntry) (s : IndexState) → IsStepOrNone (next_steps entries s)
next_is_step entries s = steps_are s (words_left s (words_named entries)) s.is_open (has_work s (words_named entries))

-- what can come and is no batch is a step
comes_step : (state : State) (entry : IndexEntry) → IsNoBatch entry → CanCome (turns_of state) (index_state state) entry → IsStep (index_state state) entry
comes_step state (sealed through synced batch) never can = never
comes_step state begun is can = can
comes_step state (worked word new) is can = can
comes_step state finished is can = can

more_right : AllKnown → (state : State) (more : List IndexEntry) → IsStepOrNone more → HasEntries state → IsRight state → HasEntries (with_entries state more) → IsRight (with_entries state more)
more_right known state more are has right has_more = ⊎_elim none one are.one
  where
    none : more ≡ [] → IsRight (with_entries state more)
    none same = subst IsRight (sym (same_state (with_entries state more) state refl refl (ap (λ (es : List IndexEntry). state.entries ++ es) same ∙ append-nil state.entries))) right

    one : ((entry : IndexEntry) × (more ≡ entry ∷ [])) → IsRight (with_entries state more)
    one (entry, same) =
        let come = come_last (turns_of state) state.entries entry (subst (λ (es : List IndexEntry). HasEntries (with_entries state es)) same has_more).come in
        subst (λ (es : List IndexEntry). IsRight (with_entries state es)) (sym same)
        (step_right state entry has (known state.commits).ascend (comes_step state entry (are.step entry same) come.1) right)

pub step_more : AllKnown → (running : Running) → HasEntries running.state → IsRight running.state → HasEntries (with_entries running.state (next_optimized running))
    → IsRight (with_entries running.state (next_optimized running))
step_more known running has right has_more =
    more_right known running.state (next_optimized running) (next_is_step running.state.entries running.index) has right has_more
