-- Where a step stands in a history.
use Rattle.std.specs.Prelude.{◌≡◌, ℕ, List, [], ◌∷◌, ◌++◌, length}
use Rattle.fts_types.specs.declared.limits.Limits.{Limits}
use Rattle.fts_steps.specs.Running.{Running, Entry, grown}
use Rattle.fts_steps.specs.Step.{Call, MayAnswer, entries_of}
use Rattle.fts_shared.specs.Talk.{history_of}

-- the list with this number, from 0
pub record IsNumber {A : Type 0} (all : List A) (number : ℕ) (item : A) : Type 0 where
  pub before : List A
  pub behind : List A
  pub whole : all ≡ before ++ (item ∷ behind)
  pub number_is : number ≡ length before

-- a step of the one with this number, behind so many others of its own
pub record IsStep (all : List (List Call)) (number : ℕ) (earlier : List Call) (call : Call) : Type 0 where
  pub later : List Call
  pub calls : IsNumber all number (earlier ++ (call ∷ later))

-- all that was added before the step
abbrev pub before_step : ℕ → List Call → Call → List Entry
before_step number earlier call = history_of number earlier ++ call.more

-- its place in the history: it answered as it may on what that made of what ran, and what it added follows
pub record HasItsPlace (limits : Limits) (running : Running) (history : List Entry) (number : ℕ)
    (earlier : List Call) (call : Call) : Type 0 where
  pub behind : List Entry
  pub whole : history ≡ before_step number earlier call ++ (entries_of number call.ask call.answer ++ behind)
  pub may : MayAnswer limits (grown running (before_step number earlier call)) call.ask call.answer

-- the step that added an entry, behind this front of the history
pub record AddedBy (all : List (List Call)) (front : List Entry) (entry : Entry) : Type 0 where
  pub number : ℕ
  pub earlier : List Call
  pub call : Call
  pub step : IsStep all number earlier call
  pub place : before_step number earlier call ≡ front
  pub added : entries_of number call.ask call.answer ≡ entry ∷ []
