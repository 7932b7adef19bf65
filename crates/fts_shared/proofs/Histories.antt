-- Histories of the value under the turn.
use Rattle.std.proofs.Common.{◌≡◌, ◌≤◌, ℕ, suc, ◌+◌, Bool, true, false, List, [], ◌∷◌, ◌++◌, length, refl, sym, ap, ◌∙◌, subst, arith, length-append, append-nil, inl, inr}
use Rattle.std.proofs.lemmas.Bool.{false≢true}
use Rattle.std.specs.List.{filter}
use mathlib.Core.Bool.{cond}
use Rattle.fts_disk.specs.declared.disk.Disk.{Ghosts}
use Rattle.fts_faults.specs.Count.{Rose}
use Rattle.fts_turn.specs.Histories.{AllBy}
use Rattle.fts_steps.specs.FaultCounts.{FaultCounts, together, OneRose, NoneFell}
use Rattle.fts_steps.specs.Running.{Running, Entry, What, made, batched, optimized, failed, batch_failed, optimize_failed, read_failed, with_what, grown}
use Rattle.fts_steps.specs.Step.{Ask, Answer, is_disk_fault, changes_of, entries_of, after, Steps, Keeps}
use Rattle.fts_engine.specs.declared.engine.Engine.{Engine}
use Rattle.fts_engine.specs.Stands.{Holds, engine_sight, engine_faults}
use Rattle.fts_shared.specs.declared.at_turn.AtTurn.{AtTurn}
use Rattle.fts_shared.specs.History.{noted, faults_by, faults_in, NoneTellsLess, WasHeld, StandsFor, entries_at}
use Rattle.fts_shared.proofs.Telling.{told_by, calm_told, fault_of, IsOfDevice, tells_as, faults_more, rising_more, rising_one}

pub grown_more : (running : Running) (xs ys : List Entry) → grown running (xs ++ ys) ≡ grown (grown running xs) ys
grown_more running [] ys = refl
grown_more running (x ∷ xs) ys = grown_more (with_what running x.what) xs ys

-- who added the entries does not count
pub same_growth : (running : Running) (m n : ℕ) (whats : List What) → grown running (noted m whats) ≡ grown running (noted n whats)
same_growth running m n [] = refl
same_growth running m n (what ∷ whats) = same_growth (with_what running what) m n whats

pub same_count : (n : ℕ) (whats : List What) → length (noted n whats) ≡ length whats
same_count n [] = refl
same_count n (what ∷ whats) = ap suc (same_count n whats)

pub all_own : (n : ℕ) (whats : List What) → AllBy (λ (entry : Entry). entry.by) n (noted n whats)
all_own n [] = tt
all_own n (what ∷ whats) = (refl, all_own n whats)

-- no entry changes the settings
settings_by : (running : Running) (what : What) → (with_what running what).state.settings ≡ running.state.settings
settings_by running (made commit) = refl
settings_by running batched = refl
settings_by running optimized = refl
settings_by running (failed faults doubt) = refl
settings_by running (batch_failed faults) = refl
settings_by running (optimize_failed faults) = refl
settings_by running (read_failed faults) = refl

pub settings_stay : (running : Running) (xs : List Entry) → (grown running xs).state.settings ≡ running.state.settings
settings_stay running [] = refl
settings_stay running (x ∷ xs) = settings_stay (with_what running x.what) xs ∙ settings_by running x.what

-- no list has but an empty front
no_front : (front rest : List Entry) → [] ≡ front ++ rest → front ≡ []
no_front [] rest is = refl
no_front (x ∷ front) rest is = let n = ap length is in absurd (omega (arith, n))

-- what a list and one item more begins with, the list does, or it is all
abbrev rest_of : List Entry → List Entry
rest_of [] = []
rest_of (x ∷ xs) = xs

abbrev first_or : Entry → List Entry → Entry
first_or d [] = d
first_or d (x ∷ xs) = x

front_within : (xs ys front rest : List Entry) (last : Entry) → length ys ≤ 1 → xs ++ ys ≡ front ++ (last ∷ rest) → (behind : List Entry) × (xs ≡ front ++ behind)
front_within xs ys [] rest last one is = (xs, refl)
front_within [] ys (f ∷ front) rest last one is =
    let n = ap length is in let all = length-append front (last ∷ rest) in absurd (omega (arith, one, n, all))
front_within (x ∷ xs) ys (f ∷ front) rest last one is =
    let more = front_within xs ys front rest last one (ap rest_of is) in
    (more.0, ap (λ (e : Entry). e ∷ xs) (ap (first_or x) is) ∙ ap (λ (es : List Entry). f ∷ es) more.1)

-- nothing was added yet
pub stands_first : {D E : Type 0} {rows : Ghosts D} {index : Ghosts E} (value : AtTurn D E rows index) → StandsFor value value []
stands_first value = record {
  stands = λ running stands. stands;
  held = λ front rest is. (
    value.engine,
    λ running stands.
        subst (λ (entries : List Entry). Holds (grown running entries) value.engine) (sym (no_front front rest is)) stands,
  );
  settings = refl;
  limits = refl;
  count = omega arith;
  faults = refl;
  rising = tt;
  none_fell = (omega arith, omega arith);
}

-- ---- the counts of faults behind a step of the engine

pub fell_on : (first middle last : FaultCounts) → NoneFell first middle → NoneFell middle last → NoneFell first last
fell_on first middle last earlier later =
    let rows = earlier.0 in
    let rows' = later.0 in
    let index = earlier.1 in
    let index' = later.1 in
    (omega (arith, rows, rows'), omega (arith, index, index'))

module _ {D E : Type 0} {rows : Ghosts D} {index : Ghosts E} (old new : Engine D E rows index) (answer : Answer) (keeps : Keeps engine_sight answer old new) where
  by_fault : (b : Bool) → is_disk_fault answer ≡ b → together (engine_faults new) ≡ told_by answer (together (engine_faults old))
  by_fault false calm =
      ap together (keeps.faults.calm (λ fault. false≢true (sym calm ∙ fault))) ∙ sym (calm_told answer (together (engine_faults old)) calm)
  by_fault true fault =
      let told = fault_of answer fault in
      sym (keeps.sum told.0 told.1) ∙ sym (ap (λ (a : Answer). told_by a (together (engine_faults old))) told.1)

  -- they are what the answer tells
  pub faults_told : together (engine_faults new) ≡ told_by answer (together (engine_faults old))
  faults_told = by_fault (is_disk_fault answer) refl

  pub faults_rise : together (engine_faults old) ≤ together (engine_faults new)
  faults_rise = let fell = keeps.faults.never_fall in let rows_up = fell.0 in let index_up = fell.1 in omega (arith, rows_up, index_up)

-- a step of the engine, and how many entries are counted behind it
module _ {D E : Type 0} {rows : Ghosts D} {index : Ghosts E} (first old new : AtTurn D E rows index) (history : List Entry) (ask : Ask) (answer : Answer) (n : ℕ)
    (was : StandsFor first old history) (step : Steps engine_sight ask answer old.engine new.engine) (of : IsOfDevice ask answer)
    (count : entries_at new ≡ entries_at old + length (changes_of ask answer)) where
  abbrev before : ℕ
  before = together (engine_faults first.engine)

  told : faults_in (faults_in before history) (entries_of n ask answer) ≡ together (engine_faults new.engine)
  told = (tells_as ask answer of).0 n (faults_in before history) ∙ ap (told_by answer) (sym was.faults) ∙ sym (faults_told old.engine new.engine answer step.keeps)

  above : faults_in before history ≤ faults_in (faults_in before history) (entries_of n ask answer)
  above =
      let here = was.faults in let there = told in let rise = faults_rise old.engine new.engine answer step.keeps in
      omega (arith, here, there, rise)

  stands : (running : Running) → Holds running first.engine → Holds (grown running (history ++ entries_of n ask answer)) new.engine
  stands running holds =
      let it = step.each (grown running history) (was.stands running holds) in
      let later : Holds (after (grown (grown running history) []) ask answer) new.engine =
      subst (λ (more : List Entry). Holds (after (grown (grown running history) more) ask answer) new.engine) (it.alone refl) it.stands in
      subst (λ (r : Running). Holds r new.engine)
      (same_growth (grown running history) 0 n (changes_of ask answer) ∙ sym (grown_more running history (entries_of n ask answer))) later

  held : (front rest : List Entry) → history ++ entries_of n ask answer ≡ front ++ rest → WasHeld first.engine front
  held front [] is = (
    new.engine,
    λ running holds.
        subst (λ (entries : List Entry). Holds (grown running entries) new.engine) (is ∙ append-nil front) (stands running holds),
  )
  held front (last ∷ rest) is =
      let many = same_count n (changes_of ask answer) in
      let one = (tells_as ask answer of).1 in
      let before = front_within history (entries_of n ask answer) front rest last (omega (arith, many, one)) is in
      was.held front before.0 before.1

  -- what the value came by is what it came by before, and what the step adds
  pub stands_next : StandsFor first new (history ++ entries_of n ask answer)
  stands_next = record {
    stands = stands;
    held = held;
    settings = step.keeps.settings ∙ was.settings;
    limits = step.keeps.limits ∙ was.limits;
    count =
        let here = was.count in
        let added = count in
        let all = length-append history (entries_of n ask answer) in
        let as_many = same_count n (changes_of ask answer) in
        omega (arith, here, added, all, as_many);
    faults = sym told ∙ sym (faults_more before history (entries_of n ask answer));
    rising = rising_more before history (entries_of n ask answer) was.rising
        (rising_one (faults_in before history) n (changes_of ask answer) (tells_as ask answer of).1 above);
    none_fell = fell_on (engine_faults first.engine) (engine_faults old.engine) (engine_faults new.engine) was.none_fell step.keeps.faults.never_fall;
  }

  -- the same, of what its result tells that it adds
  pub stands_told : (whats : List What) → whats ≡ changes_of ask answer → StandsFor first new (history ++ noted n whats)
  stands_told whats is = subst (λ (told : List What). StandsFor first new (history ++ noted n told)) (sym is) stands_next

-- ---- the entries of one seat among all

kept_below : (b : Bool) (P : Entry → Bool) (x : Entry) (rest : List Entry) (own all : ℕ) → own ≤ all → all ≤ faults_by x.what all
    → ((o a : ℕ) → o ≤ a → NoneTellsLess a rest → faults_in o (filter P rest) ≤ faults_in a rest)
    → NoneTellsLess (faults_by x.what all) rest → faults_in own (cond b (x ∷ filter P rest) (filter P rest)) ≤ faults_in (faults_by x.what all) rest
kept_below true P x rest own all less up more rising = more (faults_by x.what own) (faults_by x.what all) (by_less x.what own all less) rising
  where
    by_less : (what : What) (o a : ℕ) → o ≤ a → faults_by what o ≤ faults_by what a
    by_less (made commit) o a h = h
    by_less batched o a h = h
    by_less optimized o a h = h
    by_less (failed faults doubt) o a h = omega arith
    by_less (batch_failed faults) o a h = omega arith
    by_less (optimize_failed faults) o a h = omega arith
    by_less (read_failed faults) o a h = omega arith
kept_below false P x rest own all less up more rising = more own (faults_by x.what all) (omega (arith, less, up)) rising

-- what a seat knows of the counts is not above what they are
pub own_below : (P : Entry → Bool) (xs : List Entry) (own all : ℕ) → own ≤ all → NoneTellsLess all xs → faults_in own (filter P xs) ≤ faults_in all xs
own_below P [] own all less rising = less
own_below P (x ∷ xs) own all less rising =
    kept_below (P x) P x xs own all less rising.0 (own_below P xs) rising.1

-- ---- a sum that rose

pub rose_from : (known before after : ℕ) → known ≤ before → Rose before after → Rose known after
rose_from known before after less (inl rose) = inl (omega (arith, less, rose))
rose_from known before after less (inr full) = inr full

pub rose_together : (old new : FaultCounts) → OneRose old new → NoneFell old new → Rose (together old) (together new)
rose_together old new (inl (inl rose)) fell = let other = fell.1 in inl (omega (arith, rose, other))
rose_together old new (inl (inr full)) fell = inr (omega (arith, full))
rose_together old new (inr (inl rose)) fell = let other = fell.0 in inl (omega (arith, rose, other))
rose_together old new (inr (inr full)) fell = inr (omega (arith, full))
