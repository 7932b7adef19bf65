-- A view of a query's leaves, and what the query finds in it, are the step that finds the rows in which it holds.
use Rattle.std.proofs.Common.{◌≡◌, ℕ, ◌+◌, ◌<◌, List, [], ◌∷◌, length, refl, ap, subst, sym, ◌∙◌, map, filter, inl, inr, arith}
use Rattle.std.proofs.lemmas.Bool.{false≢true}
use Rattle.std.specs.Prelude.{Bool, true, false, IsTrue}
use Rattle.std.specs.List.{AllPairs}
use Rattle.fts_steps.specs.FaultCounts.{CountsFaultOf}
use Rattle.fts_ids.specs.Ids.{Ascend}
use Rattle.fts_types.specs.declared.settings.Settings.{Settings}
use Rattle.fts_types.specs.Rules.{rules_of}
use Rattle.fts_types.specs.Row.{Row}
use Rattle.fts_commits.specs.Commit.{Commit, replay}
use Rattle.fts_meaning.specs.Tree.{Terms}
use Rattle.fts_meaning.specs.Leaf.{Leaf, leaves}
use Rattle.fts_meaning.specs.Scan.{scan}
use Rattle.fts_meaning.specs.View.{View, StandsFor, view_of}
use Rattle.fts_schema.specs.declared.reply.Reply.{Reply}
use Rattle.fts_sessions.specs.Found.{IsFoundIn, TellsFound}
use Rattle.fts_sessions.specs.Conversation.{reply_to}
use Rattle.fts_sessions.specs.Execute.{Makes}
use Rattle.fts_eval.proofs.Answering.{ascend_from_increasing}
use Rattle.fts_steps.specs.declared.view_error.ViewError.{ViewError}
use Rattle.fts_steps.specs.declared.view_error.ViewError.TheVariants.{NoMemory, DiskFault}
use Rattle.fts_steps.specs.Answers.{view_error_answer_of}
use Rattle.fts_steps.specs.State.{State}
use Rattle.fts_steps.specs.Running.{Running, What, made, batched, optimized, failed, batch_failed, optimize_failed, read_failed, Entry, with_what, grown}
use Rattle.fts_steps.specs.Crash.{IsBetween, IsIndexBetween}
use Rattle.fts_steps.proofs.Adding.{read_still, no_read_fault}
use Rattle.fts_steps.specs.Step.{Answer, viewed, found, no_memory, disk_fault, is_disk_fault, to_view, to_find, state_view, MayAnswer, Sight, Leaves, Tells, Keeps, Steps}

-- what was added keeps the settings
with_settings : (running : Running) (what : What) → (with_what running what).state.settings ≡ running.state.settings
with_settings running (made commit) = refl
with_settings running batched = refl
with_settings running optimized = refl
with_settings running (failed faults doubt) = refl
with_settings running (batch_failed faults) = refl
with_settings running (optimize_failed faults) = refl
with_settings running (read_failed faults) = refl

grown_settings : (running : Running) (entries : List Entry) → (grown running entries).state.settings ≡ running.state.settings
grown_settings running [] = refl
grown_settings running (entry ∷ entries) = grown_settings (with_what running entry.what) entries ∙ with_settings running entry.what

-- the ids of a database's rows ascend
all_pass : (rows : List Row) → filter (λ (row : Row). true) rows ≡ rows
all_pass [] = refl
all_pass (row ∷ rows) = ap (λ (more : List Row). row ∷ more) (all_pass rows)

-- what the law of commits says of their rows
abbrev pub IdsAscend : Type 0
IdsAscend = (commits : List Commit) (test : Row → Bool) → AllPairs (λ (a b : ℕ). a < b) (map (λ (row : Row). row.doc) (filter test (replay commits).list))

rows_ascend : IdsAscend → (commits : List Commit) → Ascend (map (λ (row : Row). row.doc) (replay commits).list)
rows_ascend law commits =
    let rows = (replay commits).list in
    subst (λ (some : List Row). Ascend (map (λ (row : Row). row.doc) some)) (all_pass rows)
    (ascend_from_increasing 0 (map (λ (row : Row). row.doc) (filter (λ (row : Row). true) rows))
    (λ k less. law commits (λ (row : Row). true) k (k + 1) 0 (omega arith) less) (λ less. omega arith))

-- a database's view stands for its rows, and so the query finds the rows in which it holds
finds_rows : IdsAscend → (state : State) (terms : Terms) (view : View) (docs : List ℕ) → view.number ≡ length state.commits
    → view ≡ state_view state (leaves (rules_of state.settings) terms) → IsFoundIn view terms docs → docs ≡ scan (rules_of state.settings) (replay state.commits).list terms
finds_rows law state terms view docs number same answers =
    let rules = rules_of state.settings in
    let rows = (replay state.commits).list in
    let stands : StandsFor rules rows terms view = same ∙ ap (λ (n : ℕ). view_of rules rows n (leaves rules terms)) (sym number) in
    answers rules rows (rows_ascend law state.commits) stands

module _ {S : Type 0} (sight : Sight S) (asked : List Leaf) (terms : Terms) (old new : S) where
  -- a view's step is that of a search that may answer so
  as_search : (told answer : Answer) (step : Steps sight (to_view asked) told old new) → is_disk_fault told ≡ false → is_disk_fault answer ≡ false
      → ((running : Running) → sight.stands running old → MayAnswer (sight.limits old) (grown running step.more) (to_find terms) answer) → Steps sight (to_find terms) answer old new
  as_search told answer step calm calm' may = record {
    more = step.more;
    each = λ running stands.
        let each = step.each running stands in
        let same = read_still (grown running step.more) 0 told ∙ sym (read_still (grown running step.more) 0 answer) in
        record {
          alone = each.alone;
          may = may running stands;
          stands = subst (λ (r : Running). sight.stands r new) same each.stands;
          rows = λ single tells. subst (λ (r : Running). Leaves sight.rows (IsBetween running r) old new) same (each.rows single tells);
          index = λ single tells. subst (λ (r : Running). Leaves sight.index (IsIndexBetween running r) old new) same (each.index single tells);
          keeps = kept;
        };
    tells = λ shared.
        subst (λ (whats : List What). Tells sight step.more (map (λ (what : What). record { by = (sight.account old).number; what = what }) whats) 1 old new)
        (no_read_fault told calm ∙ sym (no_read_fault answer calm')) (step.tells shared);
    keeps = kept;
  }
    where
      kept : Keeps sight answer old new
      kept = record {
        settings = step.keeps.settings;
        limits = step.keeps.limits;
        faults = subst (λ (b : Bool). CountsFaultOf (IsTrue b) (sight.faults old) (sight.faults new)) (calm ∙ sym calm') step.keeps.faults;
        sum = λ n is. absurd (false≢true (sym calm' ∙ ap is_disk_fault is));
      }

  -- want of memory for the view, and for what is found in it
  starved : (told : Answer) → is_disk_fault told ≡ false → Steps sight (to_view asked) told old new → Steps sight (to_find terms) no_memory old new
  starved told calm step = as_search told no_memory step calm refl (λ running stands. tt)

  -- what refuses the view refuses the search
  refused : (answer : Answer) → ((running : Running) → MayAnswer (sight.limits old) running (to_view asked) answer → MayAnswer (sight.limits old) running (to_find terms) answer)
      → Steps sight (to_view asked) answer old new → Steps sight (to_find terms) answer old new
  refused answer may step = record {
    more = step.more;
    each = λ running stands.
        let each = step.each running stands in record {
          alone = each.alone;
          may = may (grown running step.more) each.may;
          stands = each.stands;
          rows = each.rows;
          index = each.index;
          keeps = step.keeps;
        };
    tells = λ shared. step.tells shared;
    keeps = step.keeps;
  }

  pub told_refused : (error : ViewError) (told : Reply) → told ≡ reply_to (view_error_answer_of error) → Steps sight (to_view asked) (view_error_answer_of error) old new → Makes sight (to_find terms) old told new
  told_refused NoMemory told is step = record { answer = no_memory; made = refused no_memory (λ running may. may) step; told = sym is }
  told_refused (DiskFault faults) told is step = record { answer = disk_fault faults; made = refused (disk_fault faults) (λ running may. may) step; told = sym is }

  -- what is found in it
  finds : IdsAscend → (settings : Settings) (view : View) (docs : List ℕ) → asked ≡ leaves (rules_of settings) terms
      → ((running : Running) → sight.stands running old → running.state.settings ≡ settings) → IsFoundIn view terms docs
      → Steps sight (to_view asked) (viewed view) old new → Steps sight (to_find terms) (found view.number docs) old new
  finds law settings view docs are told answers step =
      as_search (viewed view) (found view.number docs) step refl refl
      (λ running stands.
      let state = (grown running step.more).state in
      let same : settings ≡ state.settings = sym (grown_settings running step.more ∙ told running stands) in
      let asks : asked ≡ leaves (rules_of state.settings) terms = are ∙ ap (λ (s : Settings). leaves (rules_of s) terms) same in
      let may = (step.each running stands).may in (
        may.0,
        λ right. finds_rows law state terms view docs may.0 (may.1 right ∙ ap (λ (all : List Leaf). state_view state all) asks) answers,
      ))

  -- the reply that tells it is that of the search's step
  pub told_found : IdsAscend → (settings : Settings) (view : View) (told : Reply) → asked ≡ leaves (rules_of settings) terms
      → ((running : Running) → sight.stands running old → running.state.settings ≡ settings) → TellsFound view terms told
      → Steps sight (to_view asked) (viewed view) old new → Makes sight (to_find terms) old told new
  told_found law settings view told are kept (inl (docs, answers, is)) step =
      record { answer = found view.number docs; made = finds law settings view docs are kept answers step; told = sym is }
  told_found law settings view told are kept (inr is) step = record { answer = no_memory; made = starved (viewed view) refl step; told = sym is }
